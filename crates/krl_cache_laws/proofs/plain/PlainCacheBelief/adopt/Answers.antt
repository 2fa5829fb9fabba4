use Rattle.std.proofs.Common.{ap, ◌∙◌}
use Rattle.krl_cache.specs.Beliefs as beliefs
use Rattle.krl_cache_laws.specs.Lists.{Lists, lists_believe}
use Rattle.krl_cache_laws.proofs.Listed.{lists_adopt}
use Rattle.krl_cache.proofs.Calls.{adopted_belief}
use Rattle.krl_cache_laws.proofs.plain.PlainCacheBelief.adopt.Goals as goal

pub returns-clause-ok : goal.returns-clause-ok
returns-clause-ok c =
    let old = c.self.inside in
    lists_adopt c.args.holding old.ranges.items c.deref.result.now c.in_ok-ranges.ranges.items old.entries.items c.deref-2.result.now c.in_ok-entries.entries.items c.parts-range.result c.requires c.parts-range.ensures.parts c.deref.ensures.value c.deref-2.ensures.value c.in_ok-ranges.ensures.said c.in_ok-entries.ensures.found
    ∙ ap (λ (x : Lists). beliefs.adopt c.args.holding (lists_believe x)) c.self.view_is

pub returns-clause-belief : goal.returns-clause-belief
returns-clause-belief c = adopted_belief c.args.holding (lists_believe c.args.self.now) _ c.in_ok-ranges.ensures.span c.requires (returns-clause-ok c)
