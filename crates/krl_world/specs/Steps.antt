-- What each step answers and leaves, and which refusal comes first.
use Rattle.std.specs.Prelude.{◌≡◌, ℕ, zero, suc, ◌⊎◌, ◌≤◌, true, false, if◌then◌else◌, List, [], ◌∷◌, length, slice_get, Option, Some, None, Result, Ok, Err, is_some, nat_le}
use Rattle.krl_modes.specs.Spans.{Bounds}
use Rattle.krl_messages.specs.declared.pieces.Pieces.{Pieces}
use Rattle.krl_messages.specs.declared.outcome.Outcome.{Outcome}
use Rattle.krl_messages.specs.Writes.{is_applied}
use Rattle.krl_messages.specs.declared.to_server.ToServer.{ToServer}
use Rattle.krl_messages.specs.declared.to_client.ToClient.{ToClient}
use Rattle.krl_durable.specs.declared.refused.EntriesRefused.{EntriesRefused}
use Rattle.krl_durable.specs.InitialEntries.{AreGood, Refuses}
use Rattle.krl_durable.specs.declared.not_migrated.NotMigrated.{NotMigrated}
use Rattle.krl_durable.specs.declared.limits.Limits.{Limits}
use Rattle.krl_durable.specs.Kept.{IsKept}
use Rattle.krl_durable.specs.Limits.{Fits, sized}
use Rattle.krl_durable.specs.Migrations as migrations
use Rattle.krl_durable.specs.Migrations.{DurableV1, migrated}
use Rattle.krl_durable.specs.Registers.{Durable, not_left}
use Rattle.krl_server.specs.Servers.{Server}
use Rattle.krl_server.specs.Cases.{Case, Ignored, Registers, Leaves, Tells, Alarms, Rebuilds, Repeats, Acknowledges, Lowers, Waits, Judges, SeizesLock, AnswersAgain, case_of}
use Rattle.krl_server.specs.Steps as server
use Rattle.krl_server.specs.Steps.{ServerStep}
use Rattle.krl_cache.specs.Beliefs.{CoversAll}
use Rattle.krl_cache.specs.Kept.{Describes}
use Rattle.krl_client.specs.declared.refused.CommandRefused.{CommandRefused}
use Rattle.krl_client.specs.declared.scan_answer.ScanAnswer.TheVariants as scan_answer
use Rattle.krl_client.specs.Clients.{Client, begun, is_writing_in, free_pin}
use Rattle.krl_client.specs.Commands
use Rattle.krl_client.specs.Commands.{lock_refusal, write_refusal, seize_refusal, scan_refusal, lower_refusal, pin_refusal, unpin_refusal, start_refusal, says_lock, wrote, seized, says_write, says_release, belief_lowered, pinned, unpinned, says_bye}
use Rattle.krl_client.specs.Messages as receiver
use Rattle.krl_client.specs.Ticks.{tick, says_hello}
use Rattle.krl_modes.specs.declared.limits.TheConstants.{MAX_CLIENTS, STANDARD_ROOM}
use Rattle.krl_messages.specs.Values.{Value}
use Rattle.krl_world.specs.declared.message.Message.{Message}
use Rattle.krl_world.specs.declared.message.Message.TheVariants as message
use Rattle.krl_steps.specs.declared.applied_write.AppliedWrite.{AppliedWrite}
use Rattle.krl_steps.specs.declared.step.Step.{Step}
use Rattle.krl_steps.specs.declared.step.Step.TheVariants as step
use Rattle.krl_steps.specs.declared.step.Command.{Command}
use Rattle.krl_steps.specs.declared.step.Command.TheVariants as command
use Rattle.krl_steps.specs.declared.answer.Answer.{Answer}
use Rattle.krl_steps.specs.declared.answer.Answer.TheVariants as answered
use Rattle.krl_steps.specs.declared.refused.Refused.{Refused}
use Rattle.krl_steps.specs.declared.refused.Refused.TheVariants as refused
use Rattle.krl_steps.specs.Refusals.{refused_by_index, refused_by_migration, refused_by_client, refused_at_start}
use Rattle.krl_world.specs.States.{ServerPlace, Up, Down, State, opened, client_of, with_client, seated, served}

-- Making a world

-- a world may begin with these entries
abbrev pub CanBegin : List (ℕ × Value) → Type 0
CanBegin entries = (length entries ≤ STANDARD_ROOM) × AreGood entries (length entries)

-- or with this durable part, as a server keeps it: there is an epoch for the start, and each registered client has left
pub record CanOpen (d : Durable) : Type 0 where
  pub kept : IsKept d
  pub starts : server.can_start d ≡ true
  pub left : not_left d.register ≡ []

-- why no world begins with these entries
abbrev pub CannotBegin : List (ℕ × Value) → Refused → Type 0
CannotBegin entries r = (e : EntriesRefused) × Refuses STANDARD_ROOM entries e × (r ≡ refused_by_index e)

-- why no world begins with this durable part
abbrev pub CannotOpen : Durable → Refused → Type 0
CannotOpen d r = (r ≡ refused.OutOfMemory) ⊎ ((r ≡ refused.Spent) × (server.can_start d ≡ false))

-- why no world begins with what survived when values were numbers: it can't be migrated; or there is no epoch for
-- the start; or memory was not there
abbrev pub CannotOpenV1 : DurableV1 → Refused → Type 0
CannotOpenV1 d r =
    ((e : NotMigrated) × migrations.CannotMigrate d e × (r ≡ refused_by_migration e))
    ⊎ ((not_left d.register ≡ []) × CannotOpen (migrated d) r)

-- Refusals, apart from memory: the first reason in the written order

-- a refusal by its name in a world
abbrev pub named : {A : Type 0} → (A → Refused) → Option A → Option Refused
named f None = None
named f (Some r) = Some (f r)

-- the span of these ends
abbrev pub span : ℕ → ℕ → Bounds
span lo hi = record { lo = lo; hi = hi }

-- why a client that runs refuses a command
abbrev pub command_refusal : Client → Command → Option CommandRefused
command_refusal k (command.Lock point hi m) = lock_refusal k point hi
command_refusal k (command.Write op) = write_refusal k op
command_refusal k (command.Seize op) = seize_refusal k op
command_refusal k (command.Scan lo hi) = scan_refusal (span lo hi)
command_refusal k (command.Lower lo hi keep) = lower_refusal k (span lo hi)
command_refusal k (command.Pin lo hi) = pin_refusal k (span lo hi)
command_refusal k (command.Unpin id) = unpin_refusal k id
command_refusal k command.Leave = None

-- the i-th message ever sent, counted from 1
abbrev pub message_at : List Message → ℕ → Option Message
message_at sent zero = None
message_at sent (suc i) = slice_get sent i

-- the client's number is judged before all else
abbrev pub of_client : ℕ → Option Refused → Option Refused
of_client c r = if nat_le MAX_CLIENTS c then Some refused.BadClient else r

-- Down if the client does not run
abbrev pub if_runs : Option Client → (Client → Option Refused) → Option Refused
if_runs None f = Some refused.Down
if_runs (Some k) f = f k

-- Down if no server runs
abbrev pub server_down : ServerPlace → Option Refused
server_down (Up s) = None
server_down (Down d) = Some refused.Down

-- why no server starts
abbrev pub server_start : ServerPlace → Option Refused
server_start (Up s) = Some refused.Running
server_start (Down d) = if server.can_start d then None else Some refused.Spent

-- why the step is refused, if it is
abbrev pub refusal_of : State → Step → Option Refused
refusal_of w (step.Deliver i) = if is_some (message_at w.sent i) then None else Some refused.NoMessage
refusal_of w (step.Command c what) =
    of_client c (if_runs (client_of w c) (λ k. named refused_by_client (command_refusal k what)))
refusal_of w (step.Tick c) = of_client c (if_runs (client_of w c) (λ k. None))
refusal_of w (step.Nudge c) = of_client c (server_down w.server)
refusal_of w (step.StartClient c) =
    of_client c (if is_some (client_of w c) then Some refused.Running
    else named refused_at_start (start_refusal c (suc (w.places c).last_incarnation)))
refusal_of w (step.CrashClient c) = of_client c (if_runs (client_of w c) (λ k. None))
refusal_of w step.StartServer = server_start w.server
refusal_of w step.CrashServer = server_down w.server

-- Deliveries

-- the write, if this outcome is Applied
abbrev pub if_applied : Outcome → AppliedWrite → List AppliedWrite
if_applied o x = if is_applied o then x ∷ [] else []

-- the write that the server applies with a message of this case, if it applies one
abbrev pub applies : ToServer → Case → List AppliedWrite
applies m (Judges number op o) =
    if_applied o (record { client = m.client; incarnation = m.incarnation; number = number; op = op })
applies m (SeizesLock number op) =
    record { client = m.client; incarnation = m.incarnation; number = number; op = op } ∷ []
applies m other = []

-- The server of the world, which is the second argument, reads the message; one that is down loses it. Here and below a
-- world comes with a part of it, so that an equation can tell what the part is.
abbrev pub ServerReads : State → ServerPlace → ToServer → State → Type 0
ServerReads w (Up s) m w' =
    (t : Server) × (outs : List ToClient) × ServerStep s m t outs
    × (w' ≡ served w (Up t) outs (applies m (case_of s m)))
ServerReads w (Down d) m w' = w' ≡ w

-- so does a client
abbrev pub ClientReads : State → Option Client → ToClient → State → Type 0
ClientReads w (Some k) m w' =
    (ps : Pieces) × Describes ps k.belief
    × (w' ≡ with_client w m.client (Some (receiver.after k (receiver.client_case_of k m)))
    (receiver.sends ps k (receiver.client_case_of k m)))
ClientReads w None m w' = w' ≡ w

-- the message goes to its node
abbrev pub Delivers : State → Option Message → State → Type 0
Delivers w (Some (message.ToServer m)) w' = ServerReads w w.server m w'
Delivers w (Some (message.ToClient m)) w' = ClientReads w (client_of w m.client) m w'
Delivers w None w' = ⊥

-- Commands

-- what a client answers to a scan is the answer
abbrev pub ScanAnswers : Client → Bounds → Answer → Type 0
ScanAnswers k s (answered.Rows rows) = Commands.ScanGives k s (scan_answer.Rows rows)
ScanAnswers k s (answered.Miss p) = Commands.ScanGives k s (scan_answer.Miss p)
ScanAnswers k s (answered.Pending n) = Commands.ScanGives k s (scan_answer.Pending n)
ScanAnswers k s other = ⊥

-- a client that runs obeys a command
abbrev pub Obeys : State → ℕ → Client → Command → Answer → State → Type 0
Obeys w c k (command.Lock point hi m) answer w' =
    (answer ≡ answered.Done)
    × (w' ≡ with_client w c (Some (Commands.locked k point hi m))
    (says_lock (Commands.locked k point hi m) point hi m ∷ []))
Obeys w c k (command.Write op) answer w' =
    (answer ≡ answered.Done) × (w' ≡ with_client w c (Some (wrote k op)) (says_write (wrote k op) op ∷ []))
Obeys w c k (command.Seize op) answer w' =
    (answer ≡ answered.Done) × (w' ≡ with_client w c (Some (seized k op)) (says_write (seized k op) op ∷ []))
Obeys w c k (command.Scan lo hi) answer w' = ScanAnswers k (span lo hi) answer × (w' ≡ w)
Obeys w c k (command.Lower lo hi keep) answer w' =
    (answer ≡ answered.Done)
    × (w' ≡ with_client w c (Some (belief_lowered k (span lo hi) keep)) (says_release k (span lo hi) keep ∷ []))
Obeys w c k (command.Pin lo hi) answer w' =
    (id : ℕ) × (free_pin k ≡ Some id) × (answer ≡ answered.Pinned id)
    × (w' ≡ with_client w c (Some (pinned k (span lo hi) id)) [])
Obeys w c k (command.Unpin id) answer w' = (answer ≡ answered.Done) × (w' ≡ with_client w c (Some (unpinned k id)) [])
Obeys w c k command.Leave answer w' = (answer ≡ answered.Done) × (w' ≡ with_client w c None (says_bye k ∷ []))

-- Steps

-- what a server that runs is nudged to send
abbrev pub nudged : State → ServerPlace → ℕ → State
nudged w (Up s) c = served w (Up s) (server.nudge s c) []
nudged w (Down d) c = w

-- a server starts on what the last one left
abbrev pub started : State → ServerPlace → State
started w (Up s) = w
started w (Down d) = served w (Up (server.start d)) [] []

-- a server that runs crashes
abbrev pub crashed : State → ServerPlace → State
crashed w (Up s) = served w (Down (server.crash s)) [] []
crashed w (Down d) = w

-- a client that runs sends again what is not answered
abbrev pub Ticks : State → ℕ → Client → State → Type 0
Ticks w c k w' = (ps : Pieces) × Describes ps k.belief × (w' ≡ with_client w c (Some k) (tick ps k))

-- what a step that isn't refused answers and leaves
abbrev pub Does : State → Step → Answer → State → Type 0
Does w (step.Deliver i) answer w' = (answer ≡ answered.Done) × Delivers w (message_at w.sent i) w'
Does w (step.Command c what) answer w' = (k : Client) × (client_of w c ≡ Some k) × Obeys w c k what answer w'
Does w (step.Tick c) answer w' = (answer ≡ answered.Done) × ((k : Client) × (client_of w c ≡ Some k) × Ticks w c k w')
Does w (step.Nudge c) answer w' = (answer ≡ answered.Done) × (w' ≡ nudged w w.server c)
Does w (step.StartClient c) answer w' =
    let n = suc (w.places c).last_incarnation in
    (answer ≡ answered.Done)
    × (w' ≡ seated w c (record { last_incarnation = n; client = Some (begun c n) }) (says_hello (begun c n) ∷ []))
Does w (step.CrashClient c) answer w' = (answer ≡ answered.Done) × (w' ≡ with_client w c None [])
Does w step.StartServer answer w' = (answer ≡ answered.Done) × (w' ≡ started w w.server)
Does w step.CrashServer answer w' = (answer ≡ answered.Done) × (w' ≡ crashed w w.server)

-- Which steps need memory

-- the message's node runs
abbrev pub Arrives : State → Option Message → Type 0
Arrives w (Some (message.ToServer m)) = server_down w.server ≡ None
Arrives w (Some (message.ToClient m)) = is_some (client_of w m.client) ≡ true
Arrives w None = ⊥

-- a scan needs memory only for its rows
abbrev pub CommandNeedsMemory : Client → Command → Type 0
CommandNeedsMemory k (command.Scan lo hi) = (is_writing_in k (span lo hi) ≡ false) × CoversAll k.belief (span lo hi)
CommandNeedsMemory k (command.Pin lo hi) = ⊥
CommandNeedsMemory k (command.Unpin id) = ⊥
CommandNeedsMemory k other = Unit {0}

-- the step needs memory, and may be refused for want of it
abbrev pub NeedsMemory : State → Step → Type 0
NeedsMemory w (step.Deliver i) = Arrives w (message_at w.sent i)
NeedsMemory w (step.Command c what) = (k : Client) × (client_of w c ≡ Some k) × CommandNeedsMemory k what
NeedsMemory w (step.CrashClient c) = ⊥
NeedsMemory w step.CrashServer = ⊥
NeedsMemory w other = Unit {0}

-- Runs

-- the step is taken, with this answer, and leaves this world
abbrev pub Takes : State → Step → Answer → State → Type 0
Takes w s answer w' = (refusal_of w s ≡ None) × Does w s answer w'

-- The step is taken; or refused, and then nothing changes: for the first reason, or if there is none for want of
-- memory, if it needs some.
unfoldable pub Steps : State → Step → Result Answer Refused → State → Type 0
Steps w s (Ok answer) w' = Takes w s answer w'
Steps w s (Err r) w' =
    (w' ≡ w) × ((refusal_of w s ≡ Some r) ⊎ ((refusal_of w s ≡ None) × (r ≡ refused.OutOfMemory) × NeedsMemory w s))

-- these steps are taken one after another
abbrev pub Runs : State → List Step → State → Type 0
Runs w [] w' = w' ≡ w
Runs w (s ∷ steps) w' = (answer : Answer) × (mid : State) × Takes w s answer mid × Runs mid steps w'

-- a run: these steps are taken or refused, one after another, with these results
abbrev pub RunsWith : State → List Step → List (Result Answer Refused) → State → Type 0
RunsWith w [] [] w' = w' ≡ w
RunsWith w [] (r ∷ results) w' = ⊥
RunsWith w (s ∷ steps) [] w' = ⊥
RunsWith w (s ∷ steps) (r ∷ results) w' = (mid : State) × Steps w s r mid × RunsWith mid steps results w'

-- What is reached

-- some list of taken steps leads here from what the world began with
abbrev pub IsReachedByRun : State → Type 0
IsReachedByRun w = CanOpen w.opening × (steps : List Step) × Runs (opened w.opening) steps w

-- what a server left that is down has these limits from now on: so the next one finds it
abbrev pub resized : State → Durable → Limits → State
resized w d l = record w { server = Down (sized l d) }

-- A world is reached: it begins, or a step leads there, or what a server left gets other limits, which leave room for
-- its entries.
pub data IsReachable : State → Type 0 where
  opens : (d : Durable) → CanOpen d → IsReachable (opened d)
  takes : (w v : State) (s : Step) (answer : Answer) → IsReachable w → Takes w s answer v → IsReachable v
  resizes : (w : State) (d : Durable) (l : Limits) → IsReachable w → w.server ≡ Down d → Fits l d →
      IsReachable (resized w d l)
