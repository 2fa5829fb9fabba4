-- What becomes of a host in good rounds: what becomes of a world in them.
use Rattle.std.specs.Prelude.{◌≡◌, ◌<◌, ℕ, suc, true, false, Some, None}
use Rattle.krl_modes.specs.declared.point.TheConstants.{END}
use Rattle.krl_messages.specs.declared.write_op.WriteOp.{WriteOp}
use Rattle.krl_server.specs.Servers.{Server}
use Rattle.krl_client.specs.Clients.{Client, is_waiting, outstanding}
use Rattle.krl_world.specs.States.{Up, client_of}
use Rattle.krl_world.specs.Shown.{is_serving}
use Rattle.krl_host_laws.specs.Hosts.{Host, HostWorld, IsReached}
use Rattle.krl_progress.specs.Laws.{MissingRun}
use Rattle.krl_progress.specs.Writes.{HasAskedNoMore}
use Rattle.krl_progress.specs.Locks.{IsManned, IsUndisturbed, HasRoom}
use Rattle.krl_progress.specs.HostRounds.{ahead, GoodRounds, anything}

-- a recovery ends in n rounds, if the host runs, and each client whose report its server misses
abbrev pub HostRecoveryEndsIn : ℕ → Type 0
HostRecoveryEndsIn n =
    (w v : HostWorld) → IsReached w → MissingRun (ahead w) (ahead w).server → GoodRounds anything n w v →
    is_serving (ahead v).server ≡ true

-- within n rounds an outstanding write is answered, if the server serves, and the client has asked for no further lock
-- by then and has made no further write
abbrev pub HostAnswersWritesIn : ℕ → Type 0
HostAnswersWritesIn n =
    (w v : HostWorld) (c : ℕ) (k l : Client) (op : WriteOp) → IsReached w → is_serving (ahead w).server ≡ true →
    client_of w.world c ≡ Some k → outstanding k.written ≡ Some op → suc k.seen < END → GoodRounds anything n w v →
    client_of v.world c ≡ Some l → l.req ≡ k.req → l.writes ≡ k.writes → outstanding l.written ≡ None

-- If the host runs, and each client whose report its server misses: within n rounds no write is outstanding that was
-- made before them, if its client has asked for no further lock by then.
abbrev pub HostWritesOutlastRecoveriesIn : ℕ → Type 0
HostWritesOutlastRecoveriesIn n =
    (w v : HostWorld) (c : ℕ) (k l : Client) → IsReached w → MissingRun (ahead w) (ahead w).server →
    client_of w.world c ≡ Some k → GoodRounds anything n w v → client_of v.world c ≡ Some l → suc l.seen < END →
    HasAskedNoMore k l → l.writes ≡ k.writes → outstanding l.written ≡ None

-- after n undisturbed rounds no client of the server's epoch waits for a lock
abbrev pub HostAnswersLocksIn : ℕ → Type 0
HostAnswersLocksIn n =
    (reqs writes : ℕ → ℕ) (w v : HostWorld) (s : Server) (c : ℕ) (k : Client) → IsReached w →
    IsUndisturbed reqs writes (ahead w) → GoodRounds (IsUndisturbed reqs writes) n w v →
    (ahead v).server ≡ Up s → client_of v.world c ≡ Some k → k.epoch ≡ s.durable.epoch → is_waiting k.asked ≡ false

-- From each world of hosts that is reached, in which the host runs, good rounds can be made, as many as you like.
abbrev pub HostRoundsCanBeMade : Type 0
HostRoundsCanBeMade = (w : HostWorld) (h : Host) (n : ℕ) → IsReached w → w.host ≡ Some h →
    (v : HostWorld) × GoodRounds anything n w v

-- From each manned world of hosts with room undisturbed good rounds can be made, as many as you like.
abbrev pub HostUndisturbedRoundsCanBeMade : Type 0
HostUndisturbedRoundsCanBeMade =
    (w : HostWorld) (n : ℕ) → IsReached w → IsManned (ahead w) → HasRoom (ahead w) →
    (reqs : ℕ → ℕ) × (writes : ℕ → ℕ) × (v : HostWorld) × IsUndisturbed reqs writes (ahead w)
    × GoodRounds (IsUndisturbed reqs writes) n w v

-- A client waits for a lock in such rounds, and when they end its request is answered.
pub record HostAnswersSomebody : Type 0 where
  pub reqs : ℕ → ℕ
  pub writes : ℕ → ℕ
  pub before : HostWorld
  pub reached : IsReached before
  pub undisturbed : IsUndisturbed reqs writes (ahead before)
  pub waiter : Client
  pub runs : client_of before.world 0 ≡ Some waiter
  pub waits : is_waiting waiter.asked ≡ true
  pub after : HostWorld
  pub rounds : GoodRounds (IsUndisturbed reqs writes) 1161 before after
  pub answered : Client
  pub runs_on : client_of after.world 0 ≡ Some answered
  pub same_request : answered.req ≡ waiter.req
  pub no_longer : is_waiting answered.asked ≡ false
