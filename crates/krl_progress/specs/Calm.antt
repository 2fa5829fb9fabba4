-- Rounds in which nobody accepts a push.
use Rattle.std.specs.Prelude.{◌≡◌, ◌<◌, ℕ, true, false, Some, length}
use Rattle.krl_modes.specs.declared.point.TheConstants.{END}
use Rattle.krl_modes.specs.Spans.{Bounds}
use Rattle.krl_server.specs.Servers.{Server, is_recovering}
use Rattle.krl_client.specs.Clients.{Client, is_waiting, meets_pin}
use Rattle.krl_world.specs.States.{Up, State, client_of}
use Rattle.krl_world.specs.Steps.{IsReachable}
use Rattle.krl_progress.specs.Blocks.{RoundsWhile}
use Rattle.krl_progress.specs.Standstills.{HasPart, Requests}

-- The client has accepted so many pushes, this is known of its lock requests, and it pins nothing.
pub record IsCalmFor (R : Requests) (s : Server) (c seen : ℕ) (k : Client) : Type 0 where
  pub accepted : k.seen ≡ seen
  pub request : R s c k
  pub unpinned : (span : Bounds) → meets_pin k span ≡ false

-- In this world the server serves, each client that holds something or waits for something runs in its epoch, and each
-- client of its epoch is calm.
pub record IsCalm (R : Requests) (seen : ℕ → ℕ) (w : State) : Type 0 where
  pub server : Server
  pub up : w.server ≡ Up server
  pub serves : is_recovering server.missing ≡ false
  pub here : (c : ℕ) → HasPart server c →
      (k : Client) × (client_of w c ≡ Some k) × (k.epoch ≡ server.durable.epoch)
  pub calm : (c : ℕ) (k : Client) → client_of w c ≡ Some k → k.epoch ≡ server.durable.epoch →
      IsCalmFor R server c (seen c) k

-- the client has made so many lock requests in this epoch
abbrev pub HasAsked : (ℕ → ℕ) → Requests
HasAsked reqs s c k = k.req ≡ reqs c

-- Nobody waits through n calm good rounds in which nobody asks for a further lock, whatever was lost before them.
abbrev pub SomebodyMovesOnIn : ℕ → Type 0
SomebodyMovesOnIn n =
    (reqs seen : ℕ → ℕ) (w v : State) (s : Server) (c : ℕ) (k : Client) → IsReachable w →
    IsCalm (HasAsked reqs) seen w → ((d : ℕ) → seen d < END) → w.server ≡ Up s → client_of w c ≡ Some k →
    k.epoch ≡ s.durable.epoch → is_waiting k.asked ≡ true →
    RoundsWhile (IsCalm (HasAsked reqs) seen) n (length w.sent) w v → ⊥
