use Rattle.std.proofs.Common.{◌≡◌, ◌+◌, ◌∷◌, ◌++◌, drop, sym, ap, subst, ◌∙◌}
use Rattle.std.proofs.lemmas.List.{drop_more}
use Rattle.krl_modes.specs.declared.point.TheConstants.{TOP}
use Rattle.krl_cache.specs.Kept.{first_range_at}
use Rattle.krl_cache.specs.Entries.{StandWithin}
use Rattle.krl_cache_laws.proofs.pieces.merged.Goals as goal

pub add_behind-requires : goal.add_behind-requires
add_behind-requires c =
    let xs = c.args.pieces.now in let i = c.loop-piece.piece-index in let x = c.piece-item.result in
    let next : drop i xs ≡ x ∷ drop (i + 1) xs = drop_more xs i x c.loop-piece-test.true ∙ ap (λ y. y ∷ drop (i + 1) xs) (sym c.piece-item.is) in
    (drop (i + 1) xs, subst (λ l. StandWithin 0 TOP (c.loop-piece.list.items ++ l)) next c.loop-piece.invariant.stand)

pub loop-piece-preserved : goal.loop-piece-preserved
loop-piece-preserved c =
    let xs = c.args.pieces.now in let i = c.loop-piece.piece-index in let x = c.piece-item.result in
    let list = c.loop-piece.list.items in
    let next : drop i xs ≡ x ∷ drop (i + 1) xs = drop_more xs i x c.loop-piece-test.true ∙ ap (λ y. y ∷ drop (i + 1) xs) (sym c.piece-item.is) in
    let stand = subst (λ l. StandWithin 0 TOP (list ++ l)) next c.loop-piece.invariant.stand in
    let adds = c.in_ok-add_behind.ensures in
    record {
      stand = adds.stand (drop (i + 1) xs) stand;
      said = λ p. adds.said (drop (i + 1) xs) stand p ∙ subst (λ l. first_range_at (list ++ l) p ≡ first_range_at xs p) next (c.loop-piece.invariant.said p);
      merged = adds.merged c.loop-piece.invariant.merged;
    }
