use Rattle.std.proofs.Common.{ℕ, ◌∙◌, arith}
use Rattle.krl_messages.specs.Values.{Value}
use Rattle.krl_embed.proofs.RowsLemmas.{popped, copied_one, copied_all}
use Rattle.krl_embed.proofs.rows.copy_rows.Goals as goal

pub loop-key-preserved : goal.loop-key-preserved
loop-key-preserved c =
    let found = c.args.found in
    let e : ℕ × Value = (c.in-Some.key, c.in-Some.value.now) in
    let p = popped found c.loop-key.i e c.pop_first.new.self (c.loop-key.invariant.left ∙ c.in-Some.ensures) in
    record {
      within = omega (arith, p.0);
      left = p.2;
      rows = copied_one found c.args.rows.now c.loop-key.rows c.loop-key.i e c.of.result p.0
          (omega (arith, p.0, c.if-rows-count.false, c.count-count.ensures)) p.1 c.of.ensures c.loop-key.invariant.rows;
    }

pub returns : goal.returns
returns c = (
  c.with-2.ensures.detail ∙ c.count-count.ensures,
  rw c.with-2.ensures.code (
      copied_all c.args.found c.args.rows.now c.loop-key.rows c.loop-key.i
      (c.loop-key.invariant.left ∙ c.in_default.ensures.0) c.loop-key.invariant.within c.loop-key.invariant.rows
      ),
)
