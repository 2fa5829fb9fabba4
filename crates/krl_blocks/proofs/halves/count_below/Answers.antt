use Rattle.std.proofs.Common.{◌+◌, arith}
use Rattle.std.proofs.lemmas.Nat.{pow_pos}
use Rattle.krl_blocks.proofs.Places.{tops_partitioned, front_passes, back_passes}
use Rattle.krl_blocks.proofs.Probes.{near_at, Start, up_pow, down_pow, last_pow, step_pow, probe_within}
use Rattle.krl_blocks.proofs.halves.count_below.Goals as goal
use Rattle.krl_blocks.proofs.halves.count_below.Goals.{then-ns-whole, else-ns-whole}

pub loop-s-init : goal.loop-s-init
loop-s-init c =
    let z : Start c.args.point c.args.ns.now (tops_partitioned c.args.ns.now c.args.point c.requires.rising) c.if-ns-whole.base c.ilog2-s.result = elim c.if-ns-whole.branch [
      | then-ns-whole w ↦ up_pow c.args.point c.args.ns.now (tops_partitioned c.args.ns.now c.args.point c.requires.rising) c.ilog2-s.result c.if-ns-whole.base c.ilog2-s.ensures.power_le (omega arith) c.ilog2-s.ensures.next_power_gt w.if-ns-whole.true w.base-is
      | else-ns-whole w ↦ down_pow c.args.point c.args.ns.now (tops_partitioned c.args.ns.now c.args.point c.requires.rising) c.ilog2-s.result c.if-ns-whole.base c.ilog2-s.ensures.power_le (omega arith) w.if-ns-whole.false w.base-is
    ] in
    (z.0, c.ilog2-s.ensures.bound, z.1, z.2)

pub lesser-requires : goal.lesser-requires
lesser-requires c = (near_at c.args.ns.now _ 0 c.requires.near (probe_within c.args.point c.args.ns.now (tops_partitioned c.args.ns.now c.args.point c.requires.rising) c.loop-s.base c.loop-s.s (omega (arith, c.loop-s-test.true)) c.loop-s.invariant.0 (omega arith)), c.requires.point)

pub loop-s-preserved : goal.loop-s-preserved
loop-s-preserved c =
    let z = step_pow c.args.point c.args.ns.now (tops_partitioned c.args.ns.now c.args.point c.requires.rising) c.loop-s.base c.loop-s.s (omega (arith, c.loop-s-test.true)) c.loop-s.invariant.0 (omega arith) c.lesser.result c.loop-s.invariant.2 c.loop-s.invariant.3 c.lesser.ensures in
    (z.0, omega (arith, c.loop-s.invariant.1), z.1, z.2)

pub lesser-requires-2 : goal.lesser-requires-2
lesser-requires-2 c = (near_at c.args.ns.now c.loop-s.base 0 c.requires.near (let x = c.loop-s.invariant.0 in let some = pow_pos c.loop-s.s in omega (arith, x, some)), c.requires.point)

pub returns-clause-below : goal.returns-clause-below
returns-clause-below c =
    let z = last_pow c.args.point c.args.ns.now (tops_partitioned c.args.ns.now c.args.point c.requires.rising) c.loop-s.base c.loop-s.s c.lesser-2.result (omega (arith, c.loop-s-test.false)) c.loop-s.invariant.0 c.loop-s.invariant.2 c.loop-s.invariant.3 c.lesser-2.ensures in
    front_passes _ c.args.ns.now (c.loop-s.base + c.lesser-2.result) z.0 z.1

pub returns-clause-rest : goal.returns-clause-rest
returns-clause-rest c =
    let z = last_pow c.args.point c.args.ns.now (tops_partitioned c.args.ns.now c.args.point c.requires.rising) c.loop-s.base c.loop-s.s c.lesser-2.result (omega (arith, c.loop-s-test.false)) c.loop-s.invariant.0 c.loop-s.invariant.2 c.loop-s.invariant.3 c.lesser-2.ensures in
    back_passes _ c.args.ns.now (c.loop-s.base + c.lesser-2.result) z.2
