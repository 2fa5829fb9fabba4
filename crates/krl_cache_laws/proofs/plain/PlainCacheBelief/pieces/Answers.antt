use Rattle.std.proofs.Common.{subst, ◌∙◌}
use Rattle.krl_cache.specs.Kept.{Describes}
use Rattle.krl_cache_laws.specs.Lists.{Lists, lists_believe}
use Rattle.krl_cache_laws.proofs.Listed.{lists_describe}
use Rattle.krl_cache_laws.proofs.plain.PlainCacheBelief.pieces.Goals as goal

pub returns : goal.returns
returns c =
    let kept = c.self.inside in
    subst (λ (x : Lists). Describes (record { ranges = c.from.result; keys = c.from-2.result }) (lists_believe x)) c.self.view_is
    (lists_describe kept.ranges.items c.from.result kept.entries.items c.deref-2.result.now c.from-2.result c.self.invariant (c.from.ensures ∙ c.in_ok-ranges.ensures.items ∙ c.deref.ensures.value) c.deref-2.ensures.value (c.from-2.ensures ∙ c.in_ok-keys.ensures))
