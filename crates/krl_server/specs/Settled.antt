-- Whether a server waits for reports, and whether a first waiter is left that it could answer.
use Rattle.std.specs.Prelude.{ℕ, List, [], ◌∷◌, ◌≡◌, false, None}
use Rattle.krl_server.specs.declared.phase.Phase.{Phase}
use Rattle.krl_server.specs.declared.phase.Phase.TheVariants as phase
use Rattle.krl_server.specs.Servers.{Server, is_recovering}
use Rattle.krl_server.specs.Answering.{next_turn}

abbrev pub phase_of : List ℕ → Phase
phase_of [] = phase.Serving
phase_of (c ∷ cs) = phase.Recovering

-- if it serves, no first waiter is left that could be answered
abbrev pub IsSettled : Server → Type 0
IsSettled s = is_recovering s.missing ≡ false → next_turn s ≡ None
