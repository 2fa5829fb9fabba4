use Rattle.std.proofs.Common.{refl, sym, subst, arith}
use Rattle.krl_blocks.specs.Entries.{NoKey}
use Rattle.krl_blocks.proofs.Edits.{read_at, below_none}
use Rattle.krl_blocks.proofs.Readings.{rise_below, inserted_next}
use Rattle.krl_blocks.proofs.blocks.Blocks.from_sorted.Goals as goal

pub insert-requires-clause-new : goal.insert-requires-clause-new
insert-requires-clause-new g c =
    let es = c.args.entries.now in
    let e = c.loop-key-item.result in
    let there = read_at es es c.loop-key.key-index e (omega arith) refl c.loop-key-item.is in
    subst (NoKey e.0) (sym c.loop-key.invariant.list) (below_none e.0 _ (rise_below es c.loop-key.key-index e c.requires.rises there))

pub loop-key-preserved : goal.loop-key-preserved
loop-key-preserved g c =
    let es = c.args.entries.now in
    let e = c.loop-key-item.result in
    let there = read_at es es c.loop-key.key-index e (omega arith) refl c.loop-key-item.is in
    record {
      list = inserted_next es c.insert.new.self.list c.loop-key.blocks.list c.loop-key.key-index e c.requires.rises c.loop-key.invariant.list there c.insert.ensures.inserted;
      room = omega (arith, c.loop-key.invariant.room, c.insert.ensures.room);
    }
