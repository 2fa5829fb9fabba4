use Rattle.std.proofs.Common.{◌&&◌, ℕ, nat_le, nat_lt, length, ap, arith}
use Rattle.krl_messages.specs.Values.{Value}
use Rattle.krl_world.proofs.Promises.Bounded.{within_span}
use Rattle.krl_script.proofs.RandomLemmas.{row_must, range_goes_on, other_first, same_first}
use Rattle.krl_script.proofs.rows.rows_behind.Goals.{in_default-via-in-Some+else-eq, in_default-via-in_default}
use Rattle.krl_script.proofs.rows.rows_behind.Goals as goal

pub returns-in_default-clause-none : goal.returns-in_default-clause-none
returns-in_default-clause-none c = λ rest all.
    let lies = λ (e : ℕ × Value). nat_le c.args.lo e.0 && nat_lt e.0 c.args.hi in
    let pass = within_span c.args.lo c.args.hi c.entry-item.result.0 c.if-entry-lo.false c.if-entry-hi.false in
    let must = row_must lies c.args.entries.now c.args.rows.now c.loop-entry.left.now c.loop-entry.entry-index c.entry-item.result c.loop-entry-test.true c.entry-item.is c.loop-entry.invariant pass rest all in
    elim c.in_default.branch [
      | in_default-via-in-Some+else-eq w ↦ other_first w.in-Some.row.now c.entry-item.result c.loop-entry.left.now w.in-Some.rest.now _ w.eq.result w.in-Some.ensures.cases.0 must w.eq.ensures w.if-eq.false
      | in_default-via-in_default w ↦ absurd (omega (arith, ap length must, w.in_default.ensures.cases))
    ]

pub loop-entry-preserved : goal.loop-entry-preserved
loop-entry-preserved c =
    let lies = λ (e : ℕ × Value). nat_le c.args.lo e.0 && nat_lt e.0 c.args.hi in
    let pass = within_span c.args.lo c.args.hi c.entry-item.result.0 c.if-entry-lo.false c.if-entry-hi.false in
    range_goes_on lies c.args.entries.now c.args.rows.now c.loop-entry.left.now c.loop-entry.entry-index c.entry-item.result c.loop-entry-test.true c.entry-item.is c.loop-entry.invariant pass c.in-Some.rest.now (same_first c.in-Some.row.now c.entry-item.result c.loop-entry.left.now c.in-Some.rest.now c.eq.result c.in-Some.ensures.cases.0 c.eq.ensures c.if-eq.true)
