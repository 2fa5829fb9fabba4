-- How long a client may block a first waiter.
use Rattle.std.specs.Prelude.{◌≡◌, ℕ, zero, suc, true, false, List, [], ◌∷◌, Some, length}
use Rattle.krl_modes.specs.Spans.{Bounds}
use Rattle.krl_queue.specs.declared.waiter.Waiter.{Waiter}
use Rattle.krl_durable.specs.Index.{span_of, is_slot}
use Rattle.krl_table.specs.Replies.{asks_absent}
use Rattle.krl_server.specs.Servers.{Server, is_recovering}
use Rattle.krl_server.specs.Callbacks.{is_compatible}
use Rattle.krl_client.specs.Clients.{Client, is_writing_in, meets_pin}
use Rattle.krl_steps.specs.declared.step.Step.{Step}
use Rattle.krl_world.specs.States.{Up, State, client_of}
use Rattle.krl_world.specs.Steps.{Runs, IsReachable}
use Rattle.krl_progress.specs.Rounds.{IsRound}

-- Rounds in which something holds all the time

-- each world after the first one of the run has P
abbrev pub Throughout : (State → Type 0) → (u : State) → (steps : List Step) → (v : State) → Runs u steps v → Type 0
Throughout P u [] v r = v ≡ u
Throughout P u (s ∷ steps) v r = P r.1 × Throughout P r.1 steps v r.3

abbrev pub RoundsWhile : (State → Type 0) → ℕ → ℕ → State → State → Type 0
RoundsWhile P zero from w v = v ≡ w
RoundsWhile P (suc n) from w v =
    (steps : List Step) × (mid : State) × IsRound w from steps × (run : Runs w steps mid) × Throughout P w steps mid run
    × RoundsWhile P n (length w.sent) mid v

-- A block

-- the waiter is kept from what it wants on the slot by what another client holds there
pub record Block : Type 0 where
  pub slot : ℕ
  pub span : Bounds
  pub waiter : Waiter
  pub blocker : ℕ
  pub waiter_seen : ℕ  -- the last push to the waiter's client
  pub blocker_seen : ℕ  -- the last push to the blocker

-- the client runs in the server's epoch, and this is the last push to it, which it has accepted
pub record HasSeen (w : State) (s : Server) (c seen : ℕ) : Type 0 where
  pub client : Client
  pub runs : client_of w c ≡ Some client
  pub epoch : client.epoch ≡ s.durable.epoch
  pub accepted : client.seen ≡ seen
  pub last : (s.sessions c).last_push ≡ seen

-- In this world the waiter stands first and is blocked; it and the blocker have accepted all their pushes, and the
-- blocker neither writes nor pins there.
pub record IsBlocked (b : Block) (w : State) : Type 0 where
  pub server : Server
  pub up : w.server ≡ Up server
  pub serves : is_recovering server.missing ≡ false
  pub slot : is_slot server.durable.index b.slot ≡ true
  pub span : span_of server.durable.index b.slot ≡ b.span
  pub behind : List Waiter
  pub first : (server.rows b.slot).queue ≡ b.waiter ∷ behind
  pub possible : asks_absent server.durable.index b.waiter ≡ false
  pub blocks : is_compatible server b.slot b.waiter b.blocker ≡ false
  pub waiting : HasSeen w server b.waiter.client b.waiter_seen
  pub blocking : HasSeen w server b.blocker b.blocker_seen
  pub free : is_writing_in blocking.client b.span ≡ false
  pub unpinned : meets_pin blocking.client b.span ≡ false

-- No block lasts n good rounds, whatever was lost before them.
abbrev pub BlocksEndIn : ℕ → Type 0
BlocksEndIn n =
    (b : Block) (w v : State) → IsReachable w → IsBlocked b w → RoundsWhile (IsBlocked b) n (length w.sent) w v → ⊥
