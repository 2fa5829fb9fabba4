use Rattle.std.proofs.Common.{◌&&◌, ◌+◌, drop, ℕ, nat_le, nat_lt}
use Rattle.std.specs.List.{filter}
use Rattle.krl_blocks.specs.Laid.{flat}
use Rattle.krl_blocks.specs.Runs.{runs_of}
use Rattle.krl_messages.specs.Values.{Value}
use Rattle.krl_script.proofs.RandomLemmas.{runs_must, runs_go_on}
use Rattle.krl_script.proofs.rows.are_range.Goals as goal

pub returns-in-None-clause-sound : goal.returns-in-None-clause-sound
returns-in-None-clause-sound c = λ all.
    let lies = λ (e : ℕ × Value). nat_le c.args.lo e.0 && nat_lt e.0 c.args.hi in
    let runs = runs_of c.args.entries.now in
    let must = runs_must lies runs c.args.rows.now c.loop-i.left.now c.loop-i.i c.get.result.now c.get.ensures c.loop-i.invariant all in
    absurd (c.in-None.ensures.none (filter lies (flat (drop (c.loop-i.i + 1) runs))) must)

pub loop-i-preserved : goal.loop-i-preserved
loop-i-preserved c =
    let lies = λ (e : ℕ × Value). nat_le c.args.lo e.0 && nat_lt e.0 c.args.hi in
    runs_go_on lies (runs_of c.args.entries.now) c.args.rows.now c.loop-i.left.now c.loop-i.i c.get.result.now c.get.ensures c.loop-i.invariant c.in-Some.rest.now c.in-Some.ensures.some
