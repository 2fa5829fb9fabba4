use Rattle.std.proofs.Common.{Some, None, sym, ap, ◌∙◌}
use Rattle.std.specs.FinMap as map
use Rattle.slab.specs.Slab.{get}
use Rattle.krl_blocks.specs.ReservedMaps.{kept}
use Rattle.krl_blocks.proofs.Reserved.Finding.{found}
use Rattle.krl_blocks.proofs.Reserved.Keeping.{via, map_get, exchanged_is}
use Rattle.krl_blocks.proofs.reserved_map.ReservedMap.replace.Goals as goal

pub returns-in_err-place-clause-before : goal.returns-in_err-place-clause-before
returns-in_err-place-clause-before g c =
    let s = c.self.inside in
    c.from_residual.ensures ∙ sym (ap (λ m. map.get m.map c.args.key) (sym c.self.view_is) ∙ map_get s.values s.places s.room c.self.invariant c.args.key
    ∙ ap (via (get s.values)) (found s.places.list c.args.key None c.self.invariant.rises c.in_err-place.ensures.value))

pub exchange-requires : goal.exchange-requires
exchange-requires g c =
    let s = c.self.inside in
    c.self.invariant.full c.args.key c.in_ok-place.place (found s.places.list c.args.key (Some c.in_ok-place.place) c.self.invariant.rises c.in_ok-place.ensures.value)

pub returns-clause-before : goal.returns-clause-before
returns-clause-before g c =
    let s = c.self.inside in
    sym (ap (λ m. map.get m.map c.args.key) (sym c.self.view_is) ∙ map_get s.values s.places s.room c.self.invariant c.args.key
    ∙ ap (via (get s.values)) (found s.places.list c.args.key (Some c.in_ok-place.place) c.self.invariant.rises c.in_ok-place.ensures.value) ∙ c.exchange.ensures.before)

pub returns-clause-replaced : goal.returns-clause-replaced
returns-clause-replaced g c =
    let s = c.self.inside in
    let is = exchanged_is s.values s.places s.room c.self.invariant c.args.key c.in_ok-place.place c.exchange.new.values c.args.value
    (found s.places.list c.args.key (Some c.in_ok-place.place) c.self.invariant.rises c.in_ok-place.ensures.value) c.exchange.ensures.updates c.exchange.ensures.len c.exchange.ensures.capacity in
    ap (λ p. record { map = kept c.exchange.new.values p.list; room = s.room }) c.in_ok-place.ensures.same ∙ ap (λ m. record { map = m; room = s.room }) is ∙ ap (λ m. record { map = map.insert m.map c.args.key c.args.value; room = m.room }) c.self.view_is
