-- That lock requests are answered.
use Rattle.std.specs.Prelude.{◌≡◌, ◌<◌, ℕ, suc, true, false, Some, length}
use Rattle.krl_modes.specs.declared.point.TheConstants.{END}
use Rattle.krl_modes.specs.Spans.{Bounds}
use Rattle.krl_durable.specs.Registers.{record_of}
use Rattle.krl_durable.specs.declared.record.Record.{Record}
use Rattle.krl_server.specs.Servers.{Server, is_recovering}
use Rattle.krl_client.specs.Clients.{Client, is_waiting, meets_pin}
use Rattle.krl_world.specs.States.{Up, State, client_of}
use Rattle.krl_world.specs.Steps.{IsReachable}
use Rattle.krl_progress.specs.Blocks.{RoundsWhile}
use Rattle.krl_progress.specs.Standstills.{HasPart}

-- The client has made so many lock requests in this epoch and so many writes, pins nothing, and has push numbers left.
pub record IsUndisturbedFor (reqs writes : ℕ) (k : Client) : Type 0 where
  pub asked : k.req ≡ reqs
  pub written : k.writes ≡ writes
  pub unpinned : (span : Bounds) → meets_pin k span ≡ false
  pub room : k.seen < END

-- In this world the server serves, each client that holds something or waits for something runs in its epoch, and no
-- client of its epoch asks for a further lock, writes again, or pins.
pub record IsUndisturbed (reqs writes : ℕ → ℕ) (w : State) : Type 0 where
  pub server : Server
  pub up : w.server ≡ Up server
  pub serves : is_recovering server.missing ≡ false
  pub here : (c : ℕ) → HasPart server c →
      (k : Client) × (client_of w c ≡ Some k) × (k.epoch ≡ server.durable.epoch)
  pub undisturbed : (c : ℕ) (k : Client) → client_of w c ≡ Some k → k.epoch ≡ server.durable.epoch →
      IsUndisturbedFor (reqs c) (writes c) k

-- In this world the server serves, each client that holds something or waits for something runs in its epoch, and each
-- registered client that has not left runs.
pub record IsManned (w : State) : Type 0 where
  pub server : Server
  pub up : w.server ≡ Up server
  pub serves : is_recovering server.missing ≡ false
  pub here : (d : ℕ) → HasPart server d →
      (k : Client) × (client_of w d ≡ Some k) × (k.epoch ≡ server.durable.epoch)
  pub registered : (c : ℕ) (r : Record) → record_of server.durable.register c ≡ Some r → r.left ≡ false →
      (k : Client) × (client_of w c ≡ Some k) × (k.incarnation ≡ r.incarnation)

-- no client of the server's epoch asks for a further lock, writes again, or pins
abbrev pub AsksNoMore : (ℕ → ℕ) → (ℕ → ℕ) → State → Type 0
AsksNoMore reqs writes w =
    (s : Server) (c : ℕ) (k : Client) → w.server ≡ Up s → client_of w c ≡ Some k → k.epoch ≡ s.durable.epoch →
    IsUndisturbedFor (reqs c) (writes c) k

-- After n undisturbed good rounds no client of the server's epoch waits for a lock, whatever was lost before them.
abbrev pub LocksAreAnsweredIn : ℕ → Type 0
LocksAreAnsweredIn n =
    (reqs writes : ℕ → ℕ) (w v : State) (s : Server) (c : ℕ) (k : Client) → IsReachable w →
    IsUndisturbed reqs writes w → RoundsWhile (IsUndisturbed reqs writes) n (length w.sent) w v →
    v.server ≡ Up s → client_of v c ≡ Some k → k.epoch ≡ s.durable.epoch → is_waiting k.asked ≡ false

-- So it is after n good rounds from a manned world, if nobody asks for more meanwhile.
abbrev pub MannedWorldsAnswerIn : ℕ → Type 0
MannedWorldsAnswerIn n =
    (reqs writes : ℕ → ℕ) (w v : State) (s : Server) (c : ℕ) (k : Client) → IsReachable w → IsManned w →
    AsksNoMore reqs writes w → RoundsWhile (AsksNoMore reqs writes) n (length w.sent) w v →
    v.server ≡ Up s → client_of v c ≡ Some k → k.epoch ≡ s.durable.epoch → is_waiting k.asked ≡ false

-- no client pins, and each client of the server's epoch has two push numbers left
abbrev pub HasRoom : State → Type 0
HasRoom w =
    (s : Server) (c : ℕ) (k : Client) → w.server ≡ Up s → client_of w c ≡ Some k →
    ((span : Bounds) → meets_pin k span ≡ false) × (k.epoch ≡ s.durable.epoch → suc (suc k.seen) < END)

-- From each manned world with room undisturbed good rounds can be made, as many as you like. So the laws of such rounds
-- are not empty.
abbrev pub UndisturbedRoundsCanBeMade : Type 0
UndisturbedRoundsCanBeMade =
    (w : State) (n : ℕ) → IsReachable w → IsManned w → HasRoom w →
    (reqs : ℕ → ℕ) × (writes : ℕ → ℕ) × (v : State) × IsUndisturbed reqs writes w
    × RoundsWhile (IsUndisturbed reqs writes) n (length w.sent) w v

-- A client waits for a lock in such rounds, and when they end its request is answered. So `locks_are_answered` is not
-- only about worlds in which nobody ever waits.
pub record SomebodyIsAnswered : Type 0 where
  pub reqs : ℕ → ℕ
  pub writes : ℕ → ℕ
  pub before : State
  pub reached : IsReachable before
  pub undisturbed : IsUndisturbed reqs writes before
  pub waiter : Client
  pub runs : client_of before 0 ≡ Some waiter
  pub waits : is_waiting waiter.asked ≡ true
  pub after : State
  pub rounds : RoundsWhile (IsUndisturbed reqs writes) 1161 (length before.sent) before after
  pub answered : Client
  pub runs_on : client_of after 0 ≡ Some answered
  pub same_request : answered.req ≡ waiter.req
  pub no_longer : is_waiting answered.asked ≡ false
