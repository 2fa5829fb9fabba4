use Rattle.std.proofs.Common.{Some, None, length, sym, ap, subst, ◌∙◌, arith}
use Rattle.std.specs.FinMap as map
use Rattle.slab.specs.Slab.{get}
use Rattle.krl_blocks.specs.Entries.{IsInserted}
use Rattle.krl_blocks.specs.ReservedMaps.{kept}
use Rattle.krl_blocks.proofs.Reserved.Finding.{found}
use Rattle.krl_blocks.proofs.Reserved.Keeping.{via, map_get, map_len, exchanged_is, more_kept, more_is}
use Rattle.krl_blocks.proofs.reserved_map.ReservedMap.put.Goals as goal

pub exchange-requires : goal.exchange-requires
exchange-requires g c =
    let s = c.self.inside in
    c.self.invariant.full c.args.key c.in-Some.place (found s.places.list c.args.key (Some c.in-Some.place) c.self.invariant.rises c.in-Some.ensures.value)

pub insert_reserved-place-requires : goal.insert_reserved-place-requires
insert_reserved-place-requires g c =
    let s = c.self.inside in
    let none = map_get s.values s.places s.room c.self.invariant c.args.key ∙ ap (via (get s.values)) (found s.places.list c.args.key None c.self.invariant.rises c.in-None.ensures.value) in
    let room = c.requires (ap (λ m. map.get m.map c.args.key) (sym c.self.view_is) ∙ none) in
    let len = ap (λ m. length (map.entries m.map)) (sym c.self.view_is) ∙ map_len s.values s.places s.room c.self.invariant in
    let same = ap (λ m. m.room) (sym c.self.view_is) in
    omega (arith, room, len, same, c.self.invariant.count, c.self.invariant.values)

pub insert-requires-clause-room : goal.insert-requires-clause-room
insert-requires-clause-room g c =
    let s = c.self.inside in
    let none = map_get s.values s.places s.room c.self.invariant c.args.key ∙ ap (via (get s.values)) (found s.places.list c.args.key None c.self.invariant.rises c.in-None.ensures.value) in
    let room = c.requires (ap (λ m. map.get m.map c.args.key) (sym c.self.view_is) ∙ none) in
    let len = ap (λ m. length (map.entries m.map)) (sym c.self.view_is) ∙ map_len s.values s.places s.room c.self.invariant in
    let same = ap (λ m. m.room) (sym c.self.view_is) in
    let kept_list = ap (λ p. length p.list) c.in-None.ensures.same in
    let kept_room = ap (λ p. p.room) c.in-None.ensures.same in
    omega (arith, room, len, same, kept_list, kept_room, c.self.invariant.keys)

pub returns-in-Some : goal.returns-in-Some
returns-in-Some g c =
    let s = c.self.inside in
    let is = exchanged_is s.values s.places s.room c.self.invariant c.args.key c.in-Some.place c.exchange.new.values c.args.value
    (found s.places.list c.args.key (Some c.in-Some.place) c.self.invariant.rises c.in-Some.ensures.value) c.exchange.ensures.updates c.exchange.ensures.len c.exchange.ensures.capacity in
    ap (λ p. record { map = kept c.exchange.new.values p.list; room = s.room }) c.in-Some.ensures.same ∙ ap (λ m. record { map = m; room = s.room }) is ∙ ap (λ m. record { map = map.insert m.map c.args.key c.args.value; room = m.room }) c.self.view_is

pub invariant_of-self-in-None : goal.invariant_of-self-in-None
invariant_of-self-in-None g c =
    let s = c.self.inside in
    more_kept s.values s.places s.room c.self.invariant c.args.key c.insert_reserved-place.result c.insert_reserved-place.new.self c.args.value c.insert.new.self
    (found s.places.list c.args.key None c.self.invariant.rises c.in-None.ensures.value) c.insert_reserved-place.ensures.was_vacant c.insert_reserved-place.ensures.updates
    c.insert_reserved-place.ensures.len c.insert_reserved-place.ensures.capacity (subst (λ p. IsInserted p.list c.insert.new.self.list c.args.key c.insert_reserved-place.result) c.in-None.ensures.same c.insert.ensures.inserted) (c.insert.ensures.room ∙ ap (λ p. p.room) c.in-None.ensures.same)

pub returns-in-None : goal.returns-in-None
returns-in-None g c =
    let s = c.self.inside in
    let is = more_is s.values s.places s.room c.self.invariant c.args.key c.insert_reserved-place.result c.insert_reserved-place.new.self c.args.value c.insert.new.self
    (found s.places.list c.args.key None c.self.invariant.rises c.in-None.ensures.value) c.insert_reserved-place.ensures.was_vacant c.insert_reserved-place.ensures.updates
    c.insert_reserved-place.ensures.len c.insert_reserved-place.ensures.capacity (subst (λ p. IsInserted p.list c.insert.new.self.list c.args.key c.insert_reserved-place.result) c.in-None.ensures.same c.insert.ensures.inserted) (c.insert.ensures.room ∙ ap (λ p. p.room) c.in-None.ensures.same) in
    ap (λ m. record { map = m; room = s.room }) is ∙ ap (λ m. record { map = map.insert m.map c.args.key c.args.value; room = m.room }) c.self.view_is
