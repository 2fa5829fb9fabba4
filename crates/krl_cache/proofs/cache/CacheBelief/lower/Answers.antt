use Rattle.krl_cache.proofs.Names.{ap, ◌∙◌, Maps, maps_believe, at, part_at}
use Rattle.krl_cache.specs.Beliefs as beliefs
use Rattle.krl_cache.proofs.Effects.{lowers}
use Rattle.krl_cache.proofs.Mapped.{lower_keeps}
use Rattle.krl_cache.proofs.Calls.{lowered_belief}
use Rattle.krl_cache.proofs.cache.CacheBelief.lower.Goals as goal

pub invariant_of-self-2 : goal.invariant_of-self-2
invariant_of-self-2 c =
    let old : Maps = record { starts = c.self.inside.starts.entries; entries = c.self.inside.entries.entries } in
    let new : Maps = record { starts = c.lower.new.starts.entries; entries = c.lower.new.entries.entries } in
    lower_keeps c.args.span c.args.keep old new c.self.invariant c.in_ok-lower.ensures.top c.in_ok-lower.ensures.parts c.in_ok-lower.ensures.starts c.in_ok-lower.ensures.merged c.in_ok-lower.ensures.entries

pub returns-clause-ok : goal.returns-clause-ok
returns-clause-ok c =
    let old : Maps = record { starts = c.self.inside.starts.entries; entries = c.self.inside.entries.entries } in
    let new : Maps = record { starts = c.lower.new.starts.entries; entries = c.lower.new.entries.entries } in
    lowers c.args.span c.args.keep (part_at (at old.starts)) (part_at (at new.starts)) (at old.entries) (at new.entries) c.in_ok-lower.ensures.parts c.in_ok-lower.ensures.entries
    ∙ ap (λ (x : Maps). beliefs.lower c.args.span c.args.keep (maps_believe x)) c.self.view_is

pub returns-clause-belief : goal.returns-clause-belief
returns-clause-belief c = lowered_belief c.args.span c.args.keep (maps_believe c.args.self.now) _ (returns-clause-ok c)
