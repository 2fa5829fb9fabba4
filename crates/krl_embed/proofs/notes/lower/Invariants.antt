use Rattle.std.proofs.Common.{◌≡◌, ◌-◌, ◌++◌, take, drop, map}
use Rattle.krl_embed.proofs.notes.lower.Given as goal

abbrev pub invariant-loop-i : goal.invariant-loop-i
invariant-loop-i l = l.marks ≡ map (λ mark. mark - l.by) (take l.i l.initial.marks) ++ drop l.i l.initial.marks
