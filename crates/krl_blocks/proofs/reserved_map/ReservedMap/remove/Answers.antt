use Rattle.std.proofs.Common.{None, sym, ap, refl, ◌∙◌}
use Rattle.std.specs.FinMap as map
use Rattle.slab.specs.Slab.{get}
use Rattle.krl_blocks.proofs.Reserved.Finding.{found, removed_was}
use Rattle.krl_blocks.proofs.Reserved.Keeping.{via, map_get, gone_same, less_kept, less_is, less_was}
use Rattle.krl_blocks.proofs.reserved_map.ReservedMap.remove.Goals as goal

pub returns-in_err-place-clause-before : goal.returns-in_err-place-clause-before
returns-in_err-place-clause-before g c =
    let s = c.self.inside in
    c.from_residual.ensures ∙ sym (ap (λ m. map.get m.map c.args.key) (sym c.self.view_is) ∙ map_get s.values s.places s.room c.self.invariant c.args.key
    ∙ ap (via (get s.values)) (found s.places.list c.args.key None c.self.invariant.rises c.in_err-place.ensures.removed.0))

pub returns-in_err-place-clause-removed : goal.returns-in_err-place-clause-removed
returns-in_err-place-clause-removed g c =
    let s = c.self.inside in
    let m = c.args.self.now in
    let none = ap (λ x. map.get x.map c.args.key) (sym c.self.view_is) ∙ map_get s.values s.places s.room c.self.invariant c.args.key
    ∙ ap (via (get s.values)) (found s.places.list c.args.key None c.self.invariant.rises c.in_err-place.ensures.removed.0) in
    ap (λ p. Rattle.krl_blocks.specs.contracts.reserved_map.ReservedMap.the_view (denote.Param.param 0 g.row.V) (record { places = p; values = s.values; room = s.room })) c.in_err-place.ensures.removed.1
    ∙ c.self.view_is ∙ ap (λ x. record { map = x; room = m.room }) (gone_same m.map m.map c.args.key none (λ n ne. refl))

pub remove-requires-2 : goal.remove-requires-2
remove-requires-2 g c =
    let s = c.self.inside in
    c.self.invariant.full c.args.key c.in_ok-place.place (removed_was s.places.list c.remove.new.self.list c.args.key c.in_ok-place.place c.self.invariant.rises c.in_ok-place.ensures.removed)

pub invariant_of-self-2 : goal.invariant_of-self-2
invariant_of-self-2 g c =
    let s = c.self.inside in
    less_kept s.values s.places s.room c.self.invariant c.args.key c.in_ok-place.place c.remove-2.new.self c.remove.new.self
    c.remove-2.ensures.updates c.remove-2.ensures.len c.remove-2.ensures.capacity c.in_ok-place.ensures.removed c.remove.ensures.room

pub returns-clause-before : goal.returns-clause-before
returns-clause-before g c =
    let s = c.self.inside in
    sym (ap (λ m. map.get m.map c.args.key) (sym c.self.view_is)
    ∙ less_was s.values s.places s.room c.self.invariant c.args.key c.in_ok-place.place c.remove-2.new.self c.remove.new.self
    c.remove-2.ensures.updates c.remove-2.ensures.len c.remove-2.ensures.capacity c.in_ok-place.ensures.removed c.remove.ensures.room c.remove-2.result c.remove-2.ensures.value)

pub returns-clause-removed : goal.returns-clause-removed
returns-clause-removed g c =
    let s = c.self.inside in
    let is = less_is s.values s.places s.room c.self.invariant c.args.key c.in_ok-place.place c.remove-2.new.self c.remove.new.self
    c.remove-2.ensures.updates c.remove-2.ensures.len c.remove-2.ensures.capacity c.in_ok-place.ensures.removed c.remove.ensures.room in
    ap (λ m. record { map = m; room = s.room }) is ∙ ap (λ m. record { map = map.remove m.map c.args.key; room = m.room }) c.self.view_is
