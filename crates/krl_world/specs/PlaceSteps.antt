-- What a client that runs does with the list of all that was sent, and what a server does, before a world is put
-- together of them.
use Rattle.std.specs.Prelude.{◌≡◌, ℕ, suc, ◌⊎◌, is_some, Bool, true, false, ◌&&◌, nat_lt, nat_eq, if◌then◌else◌, List, [], ◌∷◌, ◌++◌, Option, Some, None, Result, Ok, Err}
use Rattle.krl_messages.specs.declared.to_server.ToServer.{ToServer}
use Rattle.krl_messages.specs.declared.to_client.ToClient.{ToClient}
use Rattle.krl_durable.specs.declared.change.Change.{Change}
use Rattle.krl_durable.specs.declared.change.Change.TheVariants as change
use Rattle.krl_client.specs.Clients.{Client, begun, free_pin}
use Rattle.krl_client.specs.Commands
use Rattle.krl_client.specs.Commands.{wrote, seized, says_lock, says_write, says_release, belief_lowered, pinned, unpinned, says_bye, start_refusal}
use Rattle.krl_client.specs.FieldSteps.{Follows, IsTick}
use Rattle.krl_client.specs.Messages as receiver
use Rattle.krl_client.specs.Ticks.{says_hello}
use Rattle.krl_server.specs.Servers.{Server}
use Rattle.krl_server.specs.Cases.{case_of}
use Rattle.krl_server.specs.Steps.{ServerStep}
use Rattle.krl_server.specs.declared.start_refused.ServerNotStarted.{ServerNotStarted}
use Rattle.krl_server.specs.declared.start_refused.ServerNotStarted.TheVariants as not_started
use Rattle.krl_steps.specs.declared.applied_write.AppliedWrite.{AppliedWrite}
use Rattle.krl_steps.specs.declared.step.Command.{Command}
use Rattle.krl_steps.specs.declared.step.Command.TheVariants as command
use Rattle.krl_steps.specs.declared.answer.Answer.{Answer}
use Rattle.krl_steps.specs.declared.answer.Answer.TheVariants as answered
use Rattle.krl_steps.specs.declared.refused.Refused.{Refused}
use Rattle.krl_steps.specs.declared.refused.Refused.TheVariants as refused
use Rattle.krl_steps.specs.Refusals.{refused_by_client, refused_at_start}
use Rattle.krl_world.specs.declared.message.Message.{Message}
use Rattle.krl_world.specs.States.{ServerPlace, Up, Down, ClientPlace, from_clients, from_server}
use Rattle.krl_world.specs.Steps.{span, named, command_refusal, ScanAnswers, CommandNeedsMemory, if_applied, applies}

-- Refusals: the one that is due; or, if none is, want of memory, in what takes some
abbrev pub IsRefused : Option Refused → Type 0 → Refused → Type 0
IsRefused due needs r = (due ≡ Some r) ⊎ ((due ≡ None) × (r ≡ refused.OutOfMemory) × needs)

-- Commands

-- a client that obeys a command, and continues as this one, or no longer; and all that was sent, before and after
abbrev pub Does : Client → Command → Answer → Option Client → List Message → List Message → Type 0
Does k (command.Lock point hi m) answer next old new =
    (answer ≡ answered.Done) × (next ≡ Some (Commands.locked k point hi m))
    × (new ≡ old ++ from_clients (says_lock (Commands.locked k point hi m) point hi m ∷ []))
Does k (command.Write op) answer next old new =
    (answer ≡ answered.Done) × (next ≡ Some (wrote k op))
    × (new ≡ old ++ from_clients (says_write (wrote k op) op ∷ []))
Does k (command.Seize op) answer next old new =
    (answer ≡ answered.Done) × (next ≡ Some (seized k op))
    × (new ≡ old ++ from_clients (says_write (seized k op) op ∷ []))
Does k (command.Scan lo hi) answer next old new = ScanAnswers k (span lo hi) answer × (next ≡ Some k) × (new ≡ old)
Does k (command.Lower lo hi keep) answer next old new =
    (answer ≡ answered.Done) × (next ≡ Some (belief_lowered k (span lo hi) keep))
    × (new ≡ old ++ from_clients (says_release k (span lo hi) keep ∷ []))
Does k (command.Pin lo hi) answer next old new =
    (id : ℕ) × (free_pin k ≡ Some id) × (answer ≡ answered.Pinned id) × (next ≡ Some (pinned k (span lo hi) id))
    × (new ≡ old)
Does k (command.Unpin id) answer next old new = (answer ≡ answered.Done) × (next ≡ Some (unpinned k id)) × (new ≡ old)
Does k command.Leave answer next old new =
    (answer ≡ answered.Done) × (next ≡ None) × (new ≡ old ++ from_clients (says_bye k ∷ []))

-- a command is obeyed or refused
abbrev pub Commanded : Client → Command → Option Client → List Message → List Message → Result Answer Refused → Type 0
Commanded k what next old new (Ok answer) = (command_refusal k what ≡ None) × Does k what answer next old new
Commanded k what next old new (Err r) =
    (next ≡ Some k) × (new ≡ old)
    × IsRefused (named refused_by_client (command_refusal k what)) (CommandNeedsMemory k what) r

-- if a client runs; none that doesn't obeys
abbrev pub CommandedAt : Option Client → Command → Option Client → List Message → List Message → Result Answer Refused →
    Type 0
CommandedAt (Some k) what next old new r = Commanded k what next old new r
CommandedAt None what next old new r = (r ≡ Err refused.Down) × (next ≡ None) × (new ≡ old)

-- Starts

-- why no client starts at this place
abbrev pub starting_refusal : ℕ → ClientPlace → Option Refused
starting_refusal c x =
    if is_some x.client then Some refused.Running
    else named refused_at_start (start_refusal c (suc x.last_incarnation))

-- a client started at the place x, which became y
pub record Started (c : ℕ) (x y : ClientPlace) (old new : List Message) : Type 0 where
  pub none_due : starting_refusal c x ≡ None
  pub place : y ≡ record { last_incarnation = suc x.last_incarnation; client = Some (begun c (suc x.last_incarnation)) }
  pub sent : new ≡ old ++ from_clients (says_hello (begun c (suc x.last_incarnation)) ∷ [])

-- Ticks and messages

-- the client ticked
pub record Ticked (k : Client) (old new : List Message) : Type 0 where
  pub list : List ToServer
  pub tick : IsTick k list
  pub sent : new ≡ old ++ from_clients list

-- the client read the message, and continues as this one
pub record HasRead (k : Client) (m : ToClient) (next : Client) (old new : List Message) : Type 0 where
  pub list : List ToServer
  pub follows : Follows k (receiver.client_case_of k m) next list
  pub sent : new ≡ old ++ from_clients list

-- the server read the message, and became t
pub record HasServed (s : Server) (m : ToServer) (t : Server) (old new : List Message)
    (writes written : List AppliedWrite) : Type 0 where
  pub outs : List ToClient
  pub step : ServerStep s m t outs
  pub sent : new ≡ old ++ from_server outs
  pub writes_are : written ≡ writes ++ applies m (case_of s m)

-- the message came to a server that runs, which read it; or none runs, and it is lost
abbrev pub HasArrived : ServerPlace → ToServer → ServerPlace → List Message → List Message → List AppliedWrite →
    List AppliedWrite → Type 0
HasArrived (Up s) m (Up t) old new writes written = HasServed s m t old new writes written
HasArrived (Up s) m (Down d) old new writes written = ⊥
HasArrived (Down d) m next old new writes written = (next ≡ Down d) × (new ≡ old) × (written ≡ writes)

-- Writes that were applied

-- the write that was applied, if this is what the message changed in what survives
abbrev pub applied_in : ToServer → Option Change → List AppliedWrite
applied_in m None = []
applied_in m (Some (change.Registered c incarnation)) = []
applied_in m (Some (change.Left c)) = []
applied_in m (Some (change.Judged c number op o)) =
    if_applied o (record { client = c; incarnation = m.incarnation; number = number; op = op })

abbrev pub as_list : {A : Type 0} → Option A → List A
as_list None = []
as_list (Some a) = a ∷ []

-- what a server's start is refused for, by its name here
abbrev pub refused_by_server : ServerNotStarted → Refused
refused_by_server not_started.OutOfMemory = refused.OutOfMemory
refused_by_server not_started.Spent = refused.Spent
