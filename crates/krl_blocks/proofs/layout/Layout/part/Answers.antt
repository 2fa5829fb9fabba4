use Rattle.std.proofs.Common.{is_ok, sym, ap, subst, ◌∙◌, arith}
use Rattle.std.proofs.lemmas.Bool.{cond-true}
use Rattle.std.specs.List.{insert}
use Rattle.krl_blocks.specs.Laid.{flat, IsLaid}
use Rattle.krl_blocks.proofs.Around.{flat_halved}
use Rattle.krl_blocks.proofs.Laying.{laid_lengths, halved_laid}
use Rattle.krl_blocks.proofs.Kept.{part_kept}
use Rattle.krl_blocks.proofs.layout.Layout.part.Goals as goal

pub insert-requires : goal.insert-requires
insert-requires g c = omega (arith, c.requires.within, laid_lengths 0 c.args.self.now.tops.items c.args.self.now.shelf.blocks c.requires.kept.laid, c.args.self.now.tops.ok.0)

pub unwrap-requires : goal.unwrap-requires
unwrap-requires g c = c.insert.ensures.succeeds (omega (arith, c.requires.kept.tops, c.requires.some, laid_lengths 0 c.args.self.now.tops.items c.args.self.now.shelf.blocks c.requires.kept.laid, c.args.self.now.tops.ok.0))

pub returns-clause-kept : goal.returns-clause-kept
returns-clause-kept g c =
    let h = c.halve-top.ensures.halves in
    let tops = c.insert.ensures.items ∙ cond-true _ _ _ (ap is_ok c.unwrap.ensures) in
    part_kept c.args.self.now.tops c.insert.new.self c.args.self.now.shelf c.halve-top.new.shelf c.requires.kept c.insert.ensures.capacity c.halve-top.ensures.most c.args.b c.halve-top.result h
    (subst (λ ns. IsLaid 0 ns c.halve-top.new.shelf.blocks) (sym tops) (subst (λ zs. IsLaid 0 (insert c.args.self.now.tops.items c.args.b c.halve-top.result) zs) (sym h.blocks)
    (halved_laid 0 c.args.self.now.tops.items c.args.self.now.shelf.blocks c.args.b h.block h.lower h.upper c.halve-top.result c.requires.kept.laid h.there h.halved)))

pub returns-clause-same : goal.returns-clause-same
returns-clause-same g c =
    let h = c.halve-top.ensures.halves in
    ap flat h.blocks ∙ flat_halved c.args.self.now.shelf.blocks c.args.b h.block h.lower h.upper h.there h.halved.items

pub returns-clause-parted : goal.returns-clause-parted
returns-clause-parted g c = record {
  top = c.halve-top.result;
  tops = c.insert.ensures.items ∙ cond-true _ _ _ (ap is_ok c.unwrap.ensures);
  halves = c.halve-top.ensures.halves;
}
