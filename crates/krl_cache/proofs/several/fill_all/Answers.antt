use Rattle.krl_cache.proofs.Names.{◌≡◌, ◌+◌, ◌∷◌, cond, drop, Some, None, sym, ap, subst, ◌∙◌, drop_more, nat_eq, contains, is_last, lies_in, entry_of, at}
use Rattle.krl_cache.proofs.Rooms.{IsFilling, filling_goes}
use Rattle.krl_cache.proofs.several.fill_all.Goals as goal

pub loop-holding-preserved : goal.loop-holding-preserved
loop-holding-preserved c =
    let hs = c.args.holdings.now in let i = c.loop-holding.holding-index in let h = c.holding-item.result in
    let f = at c.loop-holding.starts.entries in let d = at c.loop-holding.entries.entries in
    let next : drop i hs ≡ h ∷ drop (i + 1) hs = drop_more hs i h c.loop-holding-test.true ∙ ap (λ x. x ∷ drop (i + 1) hs) (sym c.holding-item.is) in
    filling_goes hs (at c.args.starts.now.entries) (at c.args.entries.now.entries) h (drop (i + 1) hs) f (at c.fill.new.starts.entries) d (at c.adopt_entry.new.entries.entries)
    (subst (λ rest. IsFilling hs (at c.args.starts.now.entries) (at c.args.entries.now.entries) rest f d) next c.loop-holding.invariant)
    (λ q. c.fill.ensures q
    ∙ ap (λ n. cond (nat_eq q n) (Some c.parts-range.result.0) (cond (lies_in n c.hi.result q) None (f q))) c.lo.ensures.end
    ∙ ap (λ n. cond (nat_eq q h.span.lo) (Some c.parts-range.result.0) (cond (lies_in h.span.lo n q) None (f q))) c.hi.ensures.end
    ∙ ap (λ r. cond (nat_eq q h.span.lo) (Some r) (cond (lies_in h.span.lo h.span.hi q) None (f q))) (ap (λ x. x.0) c.parts-range.ensures.parts))
    (λ p. c.adopt_entry.ensures p
    ∙ ap (λ k. cond (contains h.span p) (cond (is_last h.span p) (entry_of k h.value) None) (d p)) (ap (λ x. x.1) c.parts-range.ensures.parts))
