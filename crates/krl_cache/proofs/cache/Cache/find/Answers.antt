use Rattle.krl_cache.proofs.Names.{ℕ, List, subst, ap, ◌∙◌, arith, filter_map, Entry, CoversAll, AreRows, Maps, maps_believe, row_of}
use Rattle.krl_cache.proofs.Mapped.{maps_rows}
use Rattle.krl_cache.proofs.cache.Cache.find.Goals as goal

pub returns-in-None : goal.returns-in-None
returns-in-None c =
    let kept : Maps = record { starts = c.self.inside.starts.entries; entries = c.self.inside.entries.entries } in
    let s = c.args.span in
    let lo = c.lo-lo in
    let hi = c.hi-hi in
    let rows = c.of.ensures ∙ ap (λ (xs : List (ℕ × Entry)). filter_map row_of xs) (c.range.ensures.between tt) in
    subst (λ (x : Maps). CoversAll (maps_believe x) s × AreRows (maps_believe x) s c.of.result) c.self.view_is (
      λ p h. c.in-None.ensures p (omega (arith, lo.ensures.end, h.0), omega (arith, hi.ensures.end, h.1)),
      maps_rows s kept c.of.result lo.result hi.result c.self.invariant c.range.ensures.ordered lo.ensures.bounds.0
          lo.ensures.end hi.ensures.end rows,
    )
