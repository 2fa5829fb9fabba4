use Rattle.krl_cache.proofs.Names.{◌≡◌, ◌+◌, ◌∷◌, drop, false, sym, ap, subst, ◌∙◌, drop_more, at, BeginsAnew, is_end_of}
use Rattle.krl_cache.proofs.Starts.{keeps_on}
use Rattle.krl_cache.proofs.Rooms.{anew_more}
use Rattle.krl_cache.proofs.several.merge_all.Goals as goal

pub loop-holding-preserved : goal.loop-holding-preserved
loop-holding-preserved c =
    let hs = c.args.holdings.now in let i = c.loop-holding.holding-index in let h = c.holding-item.result in
    let f0 = at c.args.starts.now.entries in let f = at c.loop-holding.starts.entries in
    let m = at c.merge_at.new.starts.entries in let k = at c.merge_at-in-loop-holding.new.starts.entries in
    let next : drop i hs ≡ h ∷ drop (i + 1) hs = drop_more hs i h c.loop-holding-test.true ∙ ap (λ x. x ∷ drop (i + 1) hs) (sym c.holding-item.is) in
    record {
      kept = keeps_on f0 m k (keeps_on f0 f m c.loop-holding.invariant.kept c.merge_at.ensures.kept) c.merge_at-in-loop-holding.ensures.kept;
      anew = anew_more hs h (drop (i + 1) hs) f m k
          (λ q e out. c.loop-holding.invariant.anew q e (subst (λ rest. is_end_of rest q ≡ false) (sym next) out))
          c.merge_at.ensures.kept
          (subst (λ x. BeginsAnew m x) c.lo-lo.ensures.end c.merge_at.ensures.anew)
          c.merge_at-in-loop-holding.ensures.kept
          (subst (λ x. BeginsAnew k x) c.hi-hi.ensures.end c.merge_at-in-loop-holding.ensures.anew);
    }
