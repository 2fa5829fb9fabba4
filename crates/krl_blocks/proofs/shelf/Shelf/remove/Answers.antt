use Rattle.std.proofs.Common.{◌≤◌, length, refl, sym, ap, subst, ◌∙◌, arith, is_ok}
use Rattle.std.proofs.lemmas.Bool.{cond-true}
use Rattle.std.specs.List.{remove}
use Rattle.krl_blocks.specs.Shelves.{Shelved, places, shown}
use Rattle.krl_blocks.proofs.Edits.{read_at}
use Rattle.krl_blocks.proofs.Around.{all_remove}
use Rattle.krl_blocks.proofs.Shelving.{AreSmall, shown_remove}
use Rattle.krl_blocks.proofs.Changing.{count_is}
use Rattle.krl_blocks.proofs.Storing.{stored_gone}
use Rattle.krl_blocks.proofs.shelf.Shelf.remove.Goals as goal

pub remove-spot-requires : goal.remove-spot-requires
remove-spot-requires g c =
    let n = count_is c.self.inside.order c.self.inside.spare c.self.inside.cells c.self.inside.most c.args.self.now c.self.view_is in omega (arith, n, c.requires)

pub invariant_of-self : goal.invariant_of-self
invariant_of-self g c =
    let n = count_is c.self.inside.order c.self.inside.spare c.self.inside.cells c.self.inside.most c.args.self.now c.self.view_is in
    let long = c.self.inside.order.ok.0 in
    stored_gone c.self.inside.order c.self.inside.spare c.self.inside.cells c.self.inside.most c.self.invariant c.remove-spot.new.self c.push.new.self c.self.inside.cells (omega (arith, c.remove-spot.ensures.capacity)) c.push.ensures.capacity (omega arith) c.args.b c.remove-spot.result
    (read_at c.self.inside.order.items c.self.inside.order.items c.args.b c.remove-spot.result (omega (arith, n, long, c.requires)) refl c.remove-spot.ensures.value) (omega (arith, n, long, c.requires))
    (ap places c.remove-spot.ensures.items) (subst AreSmall (sym c.remove-spot.ensures.items) (all_remove (λ v. v.len ≤ 64) c.self.inside.order.items c.args.b c.self.invariant.small)) (ap length c.remove-spot.ensures.items)
    (c.push.ensures.items ∙ cond-true _ _ _ (ap is_ok c.unwrap.ensures)) refl

pub returns-clause-blocks : goal.returns-clause-blocks
returns-clause-blocks g c =
    ap (λ ss. shown ss c.self.inside.cells.items) c.remove-spot.ensures.items ∙ shown_remove c.self.inside.order.items c.self.inside.cells.items c.args.b ∙ ap (λ (v : Shelved g.row.V.Denot). remove v.blocks c.args.b) c.self.view_is
