use Rattle.std.proofs.Common.{◌++◌, ◌∷◌, [], is_ok, refl, sym, ap, subst, ◌∙◌, arith}
use Rattle.std.proofs.lemmas.Bool.{cond-true}
use Rattle.krl_blocks.specs.Laid.{flat, IsLaid, IsInserted}
use Rattle.krl_blocks.proofs.Laying.{laid_lengths, append_laid, append_flat}
use Rattle.krl_blocks.proofs.Kept.{append_kept}
use Rattle.krl_blocks.proofs.layout.Layout.append.Goals as goal

pub unwrap-requires : goal.unwrap-requires
unwrap-requires g c = c.push.ensures.succeeds (omega (arith, c.requires.kept.tops, c.requires.some, laid_lengths 0 c.args.self.now.tops.items c.args.self.now.shelf.blocks c.requires.kept.laid, c.args.self.now.tops.ok.0))

pub returns-clause-kept : goal.returns-clause-kept
returns-clause-kept g c =
    let tops = c.push.ensures.items ∙ cond-true _ _ _ (ap is_ok c.unwrap.ensures) in
    append_kept c.args.self.now.tops c.push.new.self c.args.self.now.shelf c.push-2.new.self c.requires.kept c.push.ensures.capacity c.push-2.ensures.most ((c.args.key, c.args.value) ∷ []) c.push-2.ensures.blocks refl c.requires.full
    (subst (λ ns. IsLaid 0 ns c.push-2.new.self.blocks) (sym tops) (subst (λ zs. IsLaid 0 (c.args.self.now.tops.items ++ c.args.key ∷ []) zs) (sym c.push-2.ensures.blocks)
    (append_laid c.args.key c.args.value c.args.self.now.tops.items c.args.self.now.shelf.blocks c.requires.kept.laid c.requires.below ((c.args.key, c.args.value) ∷ []) refl)))

pub returns-clause-inserted : goal.returns-clause-inserted
returns-clause-inserted g c =
    subst (λ zs. IsInserted (flat c.args.self.now.shelf.blocks) (flat zs) c.args.key c.args.value) (sym c.push-2.ensures.blocks)
    (append_flat c.args.key c.args.value c.args.self.now.tops.items c.args.self.now.shelf.blocks c.requires.kept.laid c.requires.below ((c.args.key, c.args.value) ∷ []) refl)
