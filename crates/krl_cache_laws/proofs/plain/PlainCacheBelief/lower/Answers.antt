use Rattle.std.proofs.Common.{ap, ◌∙◌}
use Rattle.krl_cache.specs.Beliefs as beliefs
use Rattle.krl_cache_laws.specs.Lists.{Lists, lists_believe}
use Rattle.krl_cache_laws.proofs.Listed.{lists_lower}
use Rattle.krl_cache.proofs.Calls.{lowered_belief}
use Rattle.krl_cache_laws.proofs.plain.PlainCacheBelief.lower.Goals as goal

pub returns-clause-ok : goal.returns-clause-ok
returns-clause-ok c =
    let old = c.self.inside in
    lists_lower c.args.span c.args.keep old.ranges.items c.deref.result.now c.in_ok-ranges.ranges.items old.entries.items c.deref-2.result.now c.in_ok-entries.entries.items c.parts-range.result c.parts-range.ensures.parts c.deref.ensures.value c.deref-2.ensures.value c.in_ok-ranges.ensures.said c.in_ok-entries.ensures.found
    ∙ ap (λ (x : Lists). beliefs.lower c.args.span c.args.keep (lists_believe x)) c.self.view_is

pub returns-clause-belief : goal.returns-clause-belief
returns-clause-belief c = lowered_belief c.args.span c.args.keep (lists_believe c.args.self.now) _ (returns-clause-ok c)
