-- What a world shows of itself.
use Rattle.std.specs.Prelude.{ℕ, Bool, true, false, length, if◌then◌else◌}
use Rattle.krl_server.specs.Servers.{is_recovering}
use Rattle.krl_world.specs.States.{ServerPlace, State, Up, Down}

-- a server runs that waits for nobody's report
abbrev pub is_serving : ServerPlace → Bool
is_serving (Up s) = if is_recovering s.missing then false else true
is_serving (Down d) = false

-- how many messages were sent
unfoldable pub sent_count : State → ℕ
sent_count w = length w.sent
