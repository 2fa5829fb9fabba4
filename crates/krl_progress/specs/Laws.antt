-- What becomes of a world in good rounds.
use Rattle.std.specs.Prelude.{◌≡◌, ℕ, true, is_some, length}
use Rattle.krl_server.specs.Servers.{lists}
use Rattle.krl_world.specs.States.{ServerPlace, Up, Down, State, client_of}
use Rattle.krl_world.specs.Shown.{is_serving}
use Rattle.krl_world.specs.Steps.{IsReachable}
use Rattle.krl_progress.specs.Rounds.{Rounds}

-- a server runs, and each client whose report it misses runs
abbrev pub MissingRun : State → ServerPlace → Type 0
MissingRun w (Up s) = (c : ℕ) → lists s.missing c ≡ true → is_some (client_of w c) ≡ true
MissingRun w (Down d) = ⊥

-- a recovery ends in n rounds, whatever was lost before them
abbrev pub RecoveryEndsIn : ℕ → Type 0
RecoveryEndsIn n =
    (w v : State) → IsReachable w → MissingRun w w.server → Rounds n (length w.sent) w v → is_serving v.server ≡ true

-- From each reachable world good rounds can be made, as many as you like: so no law about rounds is empty.
abbrev pub RoundsCanBeMade : Type 0
RoundsCanBeMade = (w : State) (n from : ℕ) → IsReachable w → (v : State) × Rounds n from w v
