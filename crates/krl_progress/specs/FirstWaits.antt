-- How long a client may wait first.
use Rattle.std.specs.Prelude.{◌≡◌, ◌<◌, ℕ, true, false, List, ◌∷◌, length}
use Rattle.krl_modes.specs.declared.point.TheConstants.{END}
use Rattle.krl_modes.specs.Spans.{Bounds}
use Rattle.krl_queue.specs.declared.waiter.Waiter.{Waiter}
use Rattle.krl_durable.specs.Index.{span_of, is_slot}
use Rattle.krl_server.specs.Servers.{Server, is_recovering}
use Rattle.krl_server.specs.Callbacks.{is_compatible}
use Rattle.krl_client.specs.Clients.{is_writing_in, meets_pin}
use Rattle.krl_world.specs.States.{Up, State}
use Rattle.krl_world.specs.Steps.{IsReachable}
use Rattle.krl_progress.specs.Blocks.{HasSeen, RoundsWhile}

-- a waiter that stands first on the slot
pub record FirstWait : Type 0 where
  pub slot : ℕ
  pub span : Bounds
  pub waiter : Waiter
  pub seen : ℕ → ℕ  -- the last push to each client

-- the client has accepted all its pushes, and neither writes nor pins on the span
pub record MayGiveWay (w : State) (s : Server) (c seen : ℕ) (span : Bounds) : Type 0 where
  pub now : HasSeen w s c seen
  pub free : is_writing_in now.client span ≡ false
  pub unpinned : meets_pin now.client span ≡ false

-- In this world the waiter stands first; it and those that block it have accepted all their pushes, and none of these
-- writes or pins there.
pub record StandsFirst (f : FirstWait) (w : State) : Type 0 where
  pub server : Server
  pub up : w.server ≡ Up server
  pub serves : is_recovering server.missing ≡ false
  pub slot : is_slot server.durable.index f.slot ≡ true
  pub span : span_of server.durable.index f.slot ≡ f.span
  pub behind : List Waiter
  pub first : (server.rows f.slot).queue ≡ f.waiter ∷ behind
  pub waiting : HasSeen w server f.waiter.client (f.seen f.waiter.client)
  pub blocking : (d : ℕ) → is_compatible server f.slot f.waiter d ≡ false → MayGiveWay w server d (f.seen d) f.span

-- Nobody stands first for n good rounds, whatever was lost before them.
abbrev pub FirstWaitsEndIn : ℕ → Type 0
FirstWaitsEndIn n =
    (f : FirstWait) (w v : State) → IsReachable w → StandsFirst f w → f.seen f.waiter.client < END →
    RoundsWhile (StandsFirst f) n (length w.sent) w v → ⊥
