use Rattle.krl_cache.proofs.Names.{ap, ◌∙◌, Maps, maps_believe, at, part_at}
use Rattle.krl_cache.specs.Beliefs as beliefs
use Rattle.krl_cache.proofs.Effects.{adopts}
use Rattle.krl_cache.proofs.Mapped.{adopt_keeps}
use Rattle.krl_cache.proofs.Calls.{adopted_belief}
use Rattle.krl_cache.proofs.cache.CacheBelief.adopt.Goals as goal

pub invariant_of-self-2 : goal.invariant_of-self-2
invariant_of-self-2 c =
    let old : Maps = record { starts = c.self.inside.starts.entries; entries = c.self.inside.entries.entries } in
    let new : Maps = record { starts = c.adopt.new.starts.entries; entries = c.adopt.new.entries.entries } in
    adopt_keeps c.args.holding old new c.self.invariant c.in_ok-adopt.ensures.top c.in_ok-adopt.ensures.parts c.in_ok-adopt.ensures.starts c.in_ok-adopt.ensures.merged c.in_ok-adopt.ensures.entries

pub returns-clause-ok : goal.returns-clause-ok
returns-clause-ok c =
    let old : Maps = record { starts = c.self.inside.starts.entries; entries = c.self.inside.entries.entries } in
    let new : Maps = record { starts = c.adopt.new.starts.entries; entries = c.adopt.new.entries.entries } in
    adopts c.args.holding (part_at (at old.starts)) (part_at (at new.starts)) (at old.entries) (at new.entries) c.requires c.in_ok-adopt.ensures.parts c.in_ok-adopt.ensures.entries
    ∙ ap (λ (x : Maps). beliefs.adopt c.args.holding (maps_believe x)) c.self.view_is

pub returns-clause-belief : goal.returns-clause-belief
returns-clause-belief c = adopted_belief c.args.holding (maps_believe c.args.self.now) _ c.in_ok-adopt.ensures.span c.requires (returns-clause-ok c)
