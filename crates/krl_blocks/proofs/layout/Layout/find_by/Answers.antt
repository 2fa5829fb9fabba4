use Rattle.std.proofs.Common.{sym, subst, ◌∙◌, arith}
use Rattle.krl_blocks.specs.Laid.{Rises}
use Rattle.krl_blocks.proofs.Places.{laid_rise, ends_rise, block_at, found_none, found_low, found_here}
use Rattle.krl_blocks.proofs.layout.Layout.find_by.Goals as goal

pub count_tops-b-requires : goal.count_tops-b-requires
count_tops-b-requires g c = subst Rises (sym c.deref-tops.ensures.value) (laid_rise 0 c.args.self.now.tops.items c.args.self.now.shelf.blocks c.requires.kept.laid)

pub count_keys-count-requires : goal.count_keys-count-requires
count_keys-count-requires g c =
    let at = block_at c.args.point c.args.self.now.tops.items c.deref-tops.result.now c.args.self.now.shelf.blocks c.count_tops-b.result c.requires.kept.laid c.deref-tops.ensures.value c.count_tops-b.ensures.below c.count_tops-b.ensures.rest c.get-entries.result.now c.get-entries.ensures in
    ends_rise at.low c.get-entries.result.now at.top at.ends

pub returns-then-b-len : goal.returns-then-b-len
returns-then-b-len g c =
    found_none c.args.point c.args.self.now.tops.items c.deref-tops.result.now c.args.self.now.shelf.blocks c.count_tops-b.result c.requires.kept.laid c.deref-tops.ensures.value c.count_tops-b.ensures.below c.count_tops-b.ensures.rest
    c.split_at.result.0.now c.copied-last.result c.split_at.ensures.front (c.copied-last.ensures ∙ c.last.ensures.value) (omega (arith, c.if-b-len.true, c.len.ensures))

pub returns-in-None : goal.returns-in-None
returns-in-None g c =
    found_low c.args.point c.args.self.now.tops.items c.deref-tops.result.now c.args.self.now.shelf.blocks c.count_tops-b.result c.requires.kept.laid c.deref-tops.ensures.value c.count_tops-b.ensures.below c.count_tops-b.ensures.rest
    c.get-entries.result.now c.get-entries.ensures
    c.count_keys-count.result c.split_at-2.result.0.now c.split_at-2.result.1.now c.split_at-2.ensures.front c.split_at-2.ensures.back c.count_keys-count.ensures.below c.count_keys-count.ensures.rest
    c.split_at.result.0.now c.copied-last.result c.split_at.ensures.front (c.copied-last.ensures ∙ c.last.ensures.value) c.in-None.ensures.value

pub returns-in-Some : goal.returns-in-Some
returns-in-Some g c =
    found_here c.args.point c.args.self.now.tops.items c.deref-tops.result.now c.args.self.now.shelf.blocks c.count_tops-b.result c.requires.kept.laid c.deref-tops.ensures.value c.count_tops-b.ensures.below c.count_tops-b.ensures.rest
    c.get-entries.result.now c.get-entries.ensures
    c.count_keys-count.result c.split_at-2.result.0.now c.split_at-2.result.1.now c.split_at-2.ensures.front c.split_at-2.ensures.back c.count_keys-count.ensures.below c.count_keys-count.ensures.rest
    c.in-Some.entry.now c.in-Some.ensures.value
