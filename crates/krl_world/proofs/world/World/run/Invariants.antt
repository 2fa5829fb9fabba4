use Rattle.krl_world.proofs.Names.{◌≡◌, ◌≤◌, length, drop, vec_len, vec_capacity, meaning, IsReachedByRun}
use Rattle.krl_world.proofs.Functions.Runs.{GoesOn}
use Rattle.krl_world.proofs.world.World.run.Given as goal

-- the steps so far were taken, and there is room for the results of the others
abbrev pub invariant-loop-step : goal.invariant-loop-step
invariant-loop-step l = record {
  goes : GoesOn (meaning l.fn.self) (meaning l.self) l.steps (drop l.step-index l.steps) l.answers.items;
  counted : vec_len l.answers ≡ l.step-index;
  reached : IsReachedByRun (meaning l.self);
  room : length l.steps ≤ vec_capacity l.answers;
}
