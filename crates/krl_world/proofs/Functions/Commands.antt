-- A command that a client obeys or refuses is a step of the world.
use Rattle.krl_world.proofs.Names.{◌≡◌, ℕ, ◌≤◌, ◌<◌, Some, None, Option, List, [], ◌++◌, length, set, get_or, sym, ap, subst, ◌∙◌, append-nil, Result, Ok, Err, Client, Message, Command, Answer}
use Rattle.krl_world.proofs.Names.{Refused, State, client_of, set_place, with_client, Steps, refusal_of, if_runs, named, command_refusal, CommandNeedsMemory, Obeys, refused_by_client, KeptWorld, meaning}
use Rattle.krl_world.proofs.Names.{places_of, kept_nobody, client_there}
use Rattle.krl_world.specs.declared.node.ClientPlace.{ClientPlace as KeptClientPlace}
use Rattle.krl_steps.specs.declared.step.Step.TheVariants as step
use Rattle.krl_steps.specs.declared.step.Command.TheVariants as command
use Rattle.krl_steps.specs.declared.refused.Refused.TheVariants as refused
use Rattle.krl_world.specs.PlaceSteps.{Does, Commanded, CommandedAt}
use Rattle.krl_world.proofs.Functions.Lifts.{takes, refuses, refuses_by, is_client, same_place, places_set}

-- the client of c continues as this one, and this was sent
abbrev pub gone : State → ℕ → Option Client → List Message → State
gone w c next sent = record w { places = set_place w.places c (record { last_incarnation = (w.places c).last_incarnation; client = next }); sent = sent }

pub gone_by : (w v : State) (c : ℕ) (next k : Option Client) (sent more : List Message) → v ≡ gone w c next sent → next ≡ k → sent ≡ more → v ≡ gone w c k more
gone_by w v c next k sent more e f g = e ∙ (λ t. gone w c (f t) (g t))

-- if the client and all that was sent are the same
pub gone_nowhere : (w v : State) (c : ℕ) (next : Option Client) (sent : List Message) → v ≡ gone w c next sent → next ≡ client_of w c → sent ≡ w.sent → v ≡ w
gone_nowhere w v c next sent e f g = gone_by w v c next (client_of w c) sent w.sent e f g ∙ (λ t. record w { places = same_place w.places c t })

quietly : (w v : State) (c : ℕ) (next k : Option Client) (sent : List Message) → v ≡ gone w c next sent → next ≡ k → sent ≡ w.sent → v ≡ with_client w c k []
quietly w v c next k sent e f g = gone_by w v c next k sent (w.sent ++ []) e f (g ∙ sym (append-nil w.sent))

obeys : (w v : State) (c : ℕ) (k : Client) (what : Command) (a : Answer) (next : Option Client) (sent : List Message) → client_of w c ≡ Some k → v ≡ gone w c next sent → Does k what a next w.sent sent → Obeys w c k what a v
obeys w v c k (command.Lock point hi m) a next sent i e d = (d.0, gone_by w v c next _ sent _ e d.1 d.2)
obeys w v c k (command.Write op) a next sent i e d = (d.0, gone_by w v c next _ sent _ e d.1 d.2)
obeys w v c k (command.Seize op) a next sent i e d = (d.0, gone_by w v c next _ sent _ e d.1 d.2)
obeys w v c k (command.Scan lo hi) a next sent i e d = (d.0, gone_nowhere w v c next sent e (d.1 ∙ sym i) d.2)
obeys w v c k (command.Lower lo hi keep) a next sent i e d = (d.0, gone_by w v c next _ sent _ e d.1 d.2)
obeys w v c k (command.Pin lo hi) a next sent i e d = (d.0, d.1, d.2, quietly w v c next _ sent e d.3 d.4)
obeys w v c k (command.Unpin id) a next sent i e d = (d.0, quietly w v c next _ sent e d.1 d.2)
obeys w v c k command.Leave a next sent i e d = (d.0, gone_by w v c next _ sent _ e d.1 d.2)

due : (w : State) (c : ℕ) (what : Command) (o : Option Client) → c ≤ 63 → client_of w c ≡ o → refusal_of w (step.Command c what) ≡ if_runs o (λ k. named refused_by_client (command_refusal k what))
due w c what o h i = is_client c _ h ∙ ap (λ x. if_runs x (λ k. named refused_by_client (command_refusal k what))) i

commanded : (w v : State) (c : ℕ) (what : Command) (k : Client) (next : Option Client) (sent : List Message) (r : Result Answer Refused) → c ≤ 63 → client_of w c ≡ Some k → v ≡ gone w c next sent → Commanded k what next w.sent sent r → Steps w (step.Command c what) r v
commanded w v c what k next sent (Ok a) h i e d =
    takes w v (step.Command c what) a (due w c what (Some k) h i ∙ ap (named refused_by_client) d.0) (k, i, obeys w v c k what a next sent i e d.1)
commanded w v c what k next sent (Err r) h i e d =
    refuses_by w v (step.Command c what) r (named refused_by_client (command_refusal k what)) (CommandNeedsMemory k what)
    (gone_nowhere w v c next sent e (d.0 ∙ sym i) d.1) (due w c what (Some k) h i) (λ m. (k, i, m)) d.2

pub command_steps : (w v : State) (c : ℕ) (what : Command) (o next : Option Client) (sent : List Message) (r : Result Answer Refused) → c ≤ 63 → client_of w c ≡ o → v ≡ gone w c next sent → CommandedAt o what next w.sent sent r → Steps w (step.Command c what) r v
command_steps w v c what (Some k) next sent r h i e d = commanded w v c what k next sent r h i e d
command_steps w v c what None next sent r h i e d =
    subst (λ x. Steps w (step.Command c what) x v) (sym d.0)
    (refuses w v (step.Command c what) refused.Down (gone_nowhere w v c next sent e (d.1 ∙ sym i) d.2) (due w c what None h i))

-- the world of the fields, with another client at a place
pub gone_fields : (w : KeptWorld) (c : ℕ) (x y : KeptClientPlace) (sent : List Message) → c < length w.places → x ≡ get_or w.places c kept_nobody → y.last_incarnation ≡ x.last_incarnation → meaning (record w { places = set w.places c y; sent = sent }) ≡ gone (meaning w) c (client_there y.client) sent
gone_fields w c x y sent lt e f = λ t. record (meaning w) { places = (places_set w.places c y lt ∙ ap (λ n. set_place (places_of w.places) c (record { last_incarnation = n; client = client_there y.client })) (f ∙ ap (λ (s : KeptClientPlace). s.last_incarnation) e)) t; sent = sent }
