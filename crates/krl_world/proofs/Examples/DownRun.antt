-- On from the first run: the server crashes, and a scan of the client's cache gives the entry still.
use Rattle.krl_world.proofs.Names.{◌≡◌, [], ◌∷◌, ◌++◌, refl, Ok, Durable, finds_rows, Down, State, fresh, opened, served, Takes, Steps, IsReachable}
use Rattle.krl_steps.specs.declared.step.Step.TheVariants as step
use Rattle.krl_steps.specs.declared.step.Command.TheVariants as command
use Rattle.krl_steps.specs.declared.answer.Answer.TheVariants as told
use Rattle.krl_world.proofs.Examples.Worked.{two, granted}
use Rattle.krl_world.specs.Steps.{takes}
use Rattle.krl_world.proofs.Examples.Running.{m, k3, w6, covers, rows}
use Rattle.krl_world.proofs.Examples.Running.{reached as before}

abbrev pub left : Durable
left = (granted m).durable

abbrev pub w7 : State
w7 = served w6 (Down left) [] []

crashes : Takes w6 step.CrashServer told.Done w7
unfolding opened
crashes = (refl, (refl, refl))

pub reached : IsReachable w7
unfolding opened
reached = takes w6 w7 step.CrashServer told.Done before crashes

pub down : w7.server ≡ Down left
down = refl

pub scans : Steps w7 (step.Command 0 (command.Scan 0 11)) (Ok (told.Rows ((10, 1 ∷ []) ∷ []))) w7
unfolding opened Steps
scans = (refl, (k3, refl, (finds_rows ((10, 1 ∷ []) ∷ []) refl (covers, rows), refl)))
