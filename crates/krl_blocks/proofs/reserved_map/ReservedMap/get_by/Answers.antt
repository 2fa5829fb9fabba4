use Rattle.std.proofs.Common.{Some, None, sym, ap, ◌∙◌}
use Rattle.std.specs.Prelude.{option_copied}
use Rattle.std.specs.FinMap as map
use Rattle.slab.specs.Slab.{get}
use Rattle.krl_blocks.proofs.Reserved.Finding.{found}
use Rattle.krl_blocks.proofs.Reserved.Keeping.{via, map_get}
use Rattle.krl_blocks.proofs.reserved_map.ReservedMap.get_by.Goals as goal

pub returns-in_err-place : goal.returns-in_err-place
returns-in_err-place g c =
    let s = c.self.inside in
    ap (λ o. option_copied o) c.from_residual.ensures
    ∙ sym (ap (λ m. map.get m.map c.args.key) (sym c.self.view_is) ∙ map_get s.values s.places s.room c.self.invariant c.args.key
    ∙ ap (via (get s.values)) (found s.places.list c.args.key None c.self.invariant.rises c.in_err-place.ensures))

pub returns : goal.returns
returns g c =
    let s = c.self.inside in
    c.get.ensures
    ∙ sym (ap (λ m. map.get m.map c.args.key) (sym c.self.view_is) ∙ map_get s.values s.places s.room c.self.invariant c.args.key
    ∙ ap (via (get s.values)) (found s.places.list c.args.key (Some c.in_ok-place.place) c.self.invariant.rises c.in_ok-place.ensures))
