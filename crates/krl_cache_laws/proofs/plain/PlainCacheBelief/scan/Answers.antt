use Rattle.std.proofs.Common.{subst, refl, ◌∙◌, arith}
use Rattle.krl_modes.specs.declared.point.TheConstants.{TOP}
use Rattle.krl_cache.specs.Beliefs as beliefs
use Rattle.krl_cache_laws.specs.Lists.{Lists, lists_believe}
use Rattle.krl_cache.proofs.Listed.{rows_are}
use Rattle.krl_cache_laws.proofs.plain.PlainCacheBelief.scan.Goals as goal

pub returns-in_ok-rows-in-None : goal.returns-in_ok-rows-in-None
returns-in_ok-rows-in-None c =
    let kept = c.self.inside in
    let s = c.args.span in (
      λ p h. c.in-None.ensures p (omega (arith, c.lo-lo.ensures.end, h.0), omega (arith, c.hi-hi.ensures.end, h.1)),
      subst (λ (x : Lists). beliefs.AreRows (lists_believe x) s c.of.result) c.self.view_is
          (rows_are (lists_believe (record { ranges = kept.ranges.items; entries = kept.entries.items })) s TOP kept.entries.items c.deref.result.now c.of.result c.lo-lo.result c.hi-hi.result (λ p. refl) c.self.invariant.entries.rise c.lo-lo.ensures.bounds.0 c.lo-lo.ensures.end c.hi-hi.ensures.end c.deref.ensures.value (c.of.ensures ∙ c.in_ok-rows-in-None.ensures)),
    )
