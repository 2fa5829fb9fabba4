-- What a client sends with a command, and the same sent elsewhere.
use Rattle.krl_nodes.proofs.Names.{◌≡◌, List, [], ◌∷◌, ◌++◌, Option, refl, sym, ◌∙◌, append-nil, ToServer, span, Message, Command, Answer, from_clients, Does}
use Rattle.krl_client.specs.Clients.{Client}
use Rattle.krl_client.specs.Commands.{locked, wrote, seized, says_lock, says_write, says_release, says_bye}
use Rattle.krl_steps.specs.declared.step.Command.TheVariants as command

pub record Says (k : Client) (what : Command) (a : Answer) (next : Option Client) (old new : List Message) : Type 0 where
  pub list : List ToServer
  pub sent : new ≡ old ++ from_clients list
  pub does : (sent : List Message) → Does k what a next sent (sent ++ from_clients list)

says_nothing : (k : Client) (what : Command) (a : Answer) (next : Option Client) (old new : List Message) → new ≡ old → ((sent : List Message) → sent ++ [] ≡ sent → Does k what a next sent (sent ++ [])) → Says k what a next old new
says_nothing k what a next old new e f = record { list = []; sent = e ∙ sym (append-nil old); does = λ sent. f sent (append-nil sent) }

pub sends : (k : Client) (what : Command) (a : Answer) (next : Option Client) (old new : List Message) → Does k what a next old new → Says k what a next old new
sends k (command.Lock point hi m) a next old new d = record { list = says_lock (locked k point hi m) point hi m ∷ []; sent = d.2; does = λ sent. (d.0, d.1, refl) }
sends k (command.Write op) a next old new d = record { list = says_write (wrote k op) op ∷ []; sent = d.2; does = λ sent. (d.0, d.1, refl) }
sends k (command.Seize op) a next old new d = record { list = says_write (seized k op) op ∷ []; sent = d.2; does = λ sent. (d.0, d.1, refl) }
sends k (command.Scan lo hi) a next old new d = says_nothing k (command.Scan lo hi) a next old new d.2 (λ sent e. (d.0, d.1, e))
sends k (command.Lower lo hi keep) a next old new d = record { list = says_release k (span lo hi) keep ∷ []; sent = d.2; does = λ sent. (d.0, d.1, refl) }
sends k (command.Pin lo hi) a next old new d = says_nothing k (command.Pin lo hi) a next old new d.4 (λ sent e. (d.0, d.1, d.2, d.3, e))
sends k (command.Unpin id) a next old new d = says_nothing k (command.Unpin id) a next old new d.2 (λ sent e. (d.0, d.1, e))
sends k command.Leave a next old new d = record { list = says_bye k ∷ []; sent = d.2; does = λ sent. (d.0, d.1, refl) }
