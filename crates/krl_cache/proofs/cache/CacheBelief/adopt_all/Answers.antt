use Rattle.krl_cache.proofs.Names.{ap, ◌∙◌, Maps, maps_believe, at, part_at}
use Rattle.krl_cache.specs.Beliefs as beliefs
use Rattle.krl_cache.proofs.Rooms.{several_keep, believed_by}
use Rattle.krl_cache.proofs.Calls.{several_belief}
use Rattle.krl_cache.proofs.cache.CacheBelief.adopt_all.Goals as goal

pub invariant_of-self-2 : goal.invariant_of-self-2
invariant_of-self-2 c =
    let old : Maps = record { starts = c.self.inside.starts.entries; entries = c.self.inside.entries.entries } in
    let new : Maps = record { starts = c.adopt_all.new.starts.entries; entries = c.adopt_all.new.entries.entries } in
    several_keep c.args.holdings.now old new c.in_ok-adopt_all.ensures.spans c.self.invariant c.in_ok-adopt_all.ensures.parts c.in_ok-adopt_all.ensures.starts c.in_ok-adopt_all.ensures.merged c.in_ok-adopt_all.ensures.entries

pub returns-clause-ok : goal.returns-clause-ok
returns-clause-ok c =
    let old : Maps = record { starts = c.self.inside.starts.entries; entries = c.self.inside.entries.entries } in
    let new : Maps = record { starts = c.adopt_all.new.starts.entries; entries = c.adopt_all.new.entries.entries } in
    believed_by c.args.holdings.now (part_at (at old.starts)) (part_at (at new.starts)) (at old.entries) (at new.entries) c.requires c.in_ok-adopt_all.ensures.parts c.in_ok-adopt_all.ensures.entries
    ∙ ap (λ (x : Maps). beliefs.adopt_all c.args.holdings.now (maps_believe x)) c.self.view_is

pub returns-clause-belief : goal.returns-clause-belief
returns-clause-belief c = several_belief c.args.holdings.now (maps_believe c.args.self.now) _ c.in_ok-adopt_all.ensures.spans c.requires (returns-clause-ok c)
