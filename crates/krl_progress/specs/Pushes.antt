-- The pushes that a server makes to a client.
use Rattle.std.specs.Prelude.{◌≡◌, ℕ, ◌<◌, Some, length}
use Rattle.krl_modes.specs.declared.point.TheConstants.{END}
use Rattle.krl_server.specs.Servers.{Server}
use Rattle.krl_client.specs.Clients.{Client}
use Rattle.krl_world.specs.States.{Up, State, client_of}
use Rattle.krl_world.specs.Steps.{IsReachable}
use Rattle.krl_progress.specs.Rounds.{Rounds}

-- a push that a client of the server's epoch has yet to accept is accepted within n good rounds, whatever was lost
-- before them
abbrev pub PushesArriveIn : ℕ → Type 0
PushesArriveIn n =
    (w v : State) (s : Server) (c : ℕ) (k l : Client) → IsReachable w → w.server ≡ Up s →
    client_of w c ≡ Some k → k.epoch ≡ s.durable.epoch → k.seen < (s.sessions c).last_push → k.seen < END →
    Rounds n (length w.sent) w v → client_of v c ≡ Some l → k.seen < l.seen
