use Rattle.std.proofs.Common.{◌≡◌, ◌-◌, ◌++◌, length, take}
use Rattle.krl_draws.specs.Generator as draw
use Rattle.krl_draws.proofs.generator.Generator.value.Given as goal

-- what was drawn so far stands in front, and what is yet to draw comes after it
abbrev pub invariant-loop-i : goal.invariant-loop-i
invariant-loop-i l =
    record {
      drawn : draw.bytes l.len l.initial.self ≡ (take l.i l.bytes ++ (draw.bytes (l.len - l.i) l.self).0, (draw.bytes (l.len - l.i) l.self).1);
      count : length l.bytes ≡ 32;
    }
