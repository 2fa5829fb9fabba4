use Rattle.krl_cache.proofs.Names.{◌≡◌, ◌+◌, ◌∷◌, cond, drop, None, sym, ap, subst, ◌∙◌, drop_more, contains, is_last, entry_of, at}
use Rattle.krl_cache.proofs.Beside.{IsSetting, setting_goes}
use Rattle.krl_cache.proofs.joined.set_all.Goals as goal

pub loop-holding-preserved : goal.loop-holding-preserved
loop-holding-preserved c =
    let hs = c.args.holdings.now in let i = c.loop-holding.holding-index in let h = c.holding-item.result in
    let d = at c.loop-holding.entries.entries in
    let next : drop i hs ≡ h ∷ drop (i + 1) hs = drop_more hs i h c.loop-holding-test.true ∙ ap (λ x. x ∷ drop (i + 1) hs) (sym c.holding-item.is) in
    setting_goes hs (at c.args.entries.now.entries) h (drop (i + 1) hs) d (at c.adopt_entry.new.entries.entries)
    (subst (λ rest. IsSetting hs (at c.args.entries.now.entries) rest d) next c.loop-holding.invariant)
    (λ p. c.adopt_entry.ensures p
    ∙ ap (λ k. cond (contains h.span p) (cond (is_last h.span p) (entry_of k h.value) None) (d p)) (ap (λ x. x.1) c.parts-part.ensures.parts))
