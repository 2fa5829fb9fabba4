-- Good rounds of a server's host: the steps that its server, in memory, and its clients take with its moves.
use Rattle.std.specs.Prelude.{◌≡◌, ℕ, zero, suc, Option, Some, None, List, [], ◌∷◌, ◌++◌, length}
use Rattle.krl_messages.specs.declared.to_client.ToClient.{ToClient}
use Rattle.krl_server.specs.Steps.{nudge}
use Rattle.krl_steps.specs.declared.step.Step.{Step}
use Rattle.krl_steps.specs.declared.step.Step.TheVariants as step
use Rattle.krl_world.specs.declared.message.Message.{Message}
use Rattle.krl_world.specs.declared.message.Message.TheVariants as message
use Rattle.krl_world.specs.States.{ServerPlace, Up, State, from_server}
use Rattle.krl_world.specs.Steps.{message_at}
use Rattle.krl_host_laws.specs.Hosts.{Said, Host, HostWorld, Moves, acts, begins, starts, judges, nudges, keeps, releases, drops, crashes}
use Rattle.krl_progress.specs.Rounds.{IsRound}

abbrev pub in_memory : Option Host → ServerPlace → ServerPlace
in_memory None n = n
in_memory (Some h) n = Up h.memory

-- the same world with the server in memory, if the host runs, in place of the disk
abbrev pub ahead : HostWorld → State
ahead w = record w.world { server = in_memory w.host w.world.server }

-- Messages

abbrev pub waiting : List Said → List Message
waiting [] = []
waiting (x ∷ xs) = message.ToClient x.message ∷ waiting xs

abbrev pub unsent_by : Option Host → List Message
unsent_by None = []
unsent_by (Some h) = waiting h.unsent

-- what has left, and what the host has not yet sent
abbrev pub under_way : HostWorld → List Message
under_way w = w.world.sent ++ unsent_by w.host

-- Moves as steps. A list has every message that was under way at first, or that a client has sent or the server has
-- produced since: it may wait, have left, or be lost.

-- a step of a client adds what it sends. If it reads a message, that is one of the list
abbrev pub Acts : State → Step → State → List Message → List Step → List Message → Type 0
Acts w (step.Deliver i) v made steps more =
    (j : ℕ) × (m : ToClient) × (new : List Message) × (message_at w.sent i ≡ Some (message.ToClient m))
    × (message_at made j ≡ Some (message.ToClient m)) × (steps ≡ step.Deliver j ∷ []) × (v.sent ≡ w.sent ++ new)
    × (more ≡ made ++ new)
Acts w s v made steps more =
    (new : List Message) × (steps ≡ s ∷ []) × (v.sent ≡ w.sent ++ new) × (more ≡ made ++ new)

-- The move is this step of the server in memory or of a client, or none, and the list is this one after it. In a good
-- round no host crashes, and a client that starts has the next incarnation.
abbrev pub DoesAs : (w v : HostWorld) → Moves w v → List Message → List Step → List Message → Type 0
DoesAs w _ (acts s answer v ne t) made steps more = Acts w.world s v made steps more
DoesAs w _ (begins c n lt off less le) made steps more = ⊥
DoesAs w _ (starts l off fits can) made steps more = ⊥
DoesAs w _ (judges h t m outs said runs sent s among) made steps more =
    (j : ℕ) × (message_at made j ≡ Some (message.ToServer m)) × (steps ≡ step.Deliver j ∷ [])
    × (more ≡ made ++ from_server outs)
DoesAs w _ (nudges h c said runs lt among) made steps more =
    (steps ≡ step.Nudge c ∷ []) × (more ≡ made ++ from_server (nudge h.memory c))
DoesAs w _ (keeps h n runs le) made steps more = (steps ≡ []) × (more ≡ made)
DoesAs w _ (releases h x runs waits le) made steps more = (steps ≡ []) × (more ≡ made)
DoesAs w _ (drops h left runs among) made steps more = (steps ≡ []) × (more ≡ made)
DoesAs w _ crashes made steps more = ⊥

-- moves lead from w to v, as these steps, and P holds after each of them
pub data HostRuns (P : State → Type 0) : HostWorld → List Message → List Step → HostWorld → List Message → Type 0 where
  ends : (w : HostWorld) (made : List Message) → HostRuns P w made [] w made
  moves : (w u v : HostWorld) (made more all : List Message) (now later : List Step) (m : Moves w u) →
      DoesAs w u m made now more → P (ahead u) → HostRuns P u more later v all → HostRuns P w made (now ++ later) v all

-- n good rounds lead from w to v, in which P holds. What is sent or produced in one round reaches its node in the next
-- one, or another copy of it
abbrev pub HostRounds : (State → Type 0) → ℕ → ℕ → HostWorld → List Message → HostWorld → List Message → Type 0
HostRounds P zero from w made v all = (v ≡ w) × (all ≡ made)
HostRounds P (suc n) from w made v all =
    (steps : List Step) × (mid : HostWorld) × (more : List Message)
    × IsRound (record w.world { sent = made }) from steps × HostRuns P w made steps mid more
    × HostRounds P n (length made) mid more v all

-- whatever was lost before them
abbrev pub GoodRounds : (State → Type 0) → ℕ → HostWorld → HostWorld → Type 0
GoodRounds P n w v = (all : List Message) × HostRounds P n (length (under_way w)) w (under_way w) v all

-- in which anything else may happen
abbrev pub anything : State → Type 0
anything w = Unit {0}
