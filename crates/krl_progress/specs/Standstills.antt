-- Rounds in which nothing is asked for and nothing is on its way.
use Rattle.std.specs.Prelude.{◌≡◌, ◌≢◌, ◌<◌, ℕ, false, None, Some, length}
use Rattle.krl_modes.specs.declared.point.TheConstants.{END}
use Rattle.krl_modes.specs.declared.mode.Mode.TheVariants as mode
use Rattle.krl_modes.specs.Spans.{Bounds}
use Rattle.krl_messages.specs.Members.{In}
use Rattle.krl_queue.specs.declared.waiter.Waiter.{Waiter}
use Rattle.krl_table.specs.Rows.{mode_at}
use Rattle.krl_server.specs.Servers.{Server, is_recovering}
use Rattle.krl_client.specs.Clients.{Client, outstanding, meets_pin}
use Rattle.krl_world.specs.States.{Up, State, client_of}
use Rattle.krl_world.specs.Steps.{IsReachable}
use Rattle.krl_progress.specs.Blocks.{RoundsWhile}

-- the client holds something on a slot, or waits there
pub data HasPart (s : Server) (c : ℕ) : Type 0 where
  holds : (n : ℕ) → mode_at s.rows n c ≢ mode.N → HasPart s c
  waits : (n : ℕ) (u : Waiter) → In u (s.rows n).queue → u.client ≡ c → HasPart s c

-- what is known of a client's lock requests
abbrev pub Requests : Type 1
Requests = Server → ℕ → Client → Type 0

-- the server has taken the client's last one
abbrev pub IsTaken : Requests
IsTaken s c k = k.req ≡ (s.sessions c).last_request

-- The client has accepted this last push, this is known of its lock requests, no write of it is outstanding, and it
-- pins nothing.
pub record IsAtRest (R : Requests) (s : Server) (c seen : ℕ) (k : Client) : Type 0 where
  pub accepted : k.seen ≡ seen
  pub last : (s.sessions c).last_push ≡ seen
  pub request : R s c k
  pub judged : outstanding k.written ≡ None
  pub unpinned : (span : Bounds) → meets_pin k span ≡ false

-- In this world the server serves, each client that holds something or waits for something runs in its epoch, and each
-- client of its epoch is at rest.
pub record IsQuiet (R : Requests) (seen : ℕ → ℕ) (w : State) : Type 0 where
  pub server : Server
  pub up : w.server ≡ Up server
  pub serves : is_recovering server.missing ≡ false
  pub here : (c : ℕ) → HasPart server c →
      (k : Client) × (client_of w c ≡ Some k) × (k.epoch ≡ server.durable.epoch)
  pub at_rest : (c : ℕ) (k : Client) → client_of w c ≡ Some k → k.epoch ≡ server.durable.epoch →
      IsAtRest R server c (seen c) k

-- Nobody waits through n quiet good rounds, whatever was lost before them.
abbrev pub NoStandstillIn : ℕ → Type 0
NoStandstillIn n =
    (seen : ℕ → ℕ) (w v : State) (s : Server) (slot : ℕ) (u : Waiter) → IsReachable w → IsQuiet IsTaken seen w →
    ((c : ℕ) → seen c < END) → w.server ≡ Up s → In u (s.rows slot).queue →
    RoundsWhile (IsQuiet IsTaken seen) n (length w.sent) w v → ⊥
