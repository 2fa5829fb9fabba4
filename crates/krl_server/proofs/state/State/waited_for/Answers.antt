use Rattle.krl_server.proofs.Names.{suc, sym, ap, subst, ◌∙◌, add-one, meaning}
use Rattle.krl_server.proofs.Functions.WaitsFor.{AreFound, none_found, one_found, none_more}
use Rattle.krl_server.proofs.state.State.waited_for.Goals as goal
use Rattle.krl_server.proofs.state.State.waited_for.Goals.{then-waits_for, else-waits_for}

pub loop-other-init : goal.loop-other-init
loop-other-init c = subst (AreFound (meaning c.args.self.now) c.args.client 0) (sym c.new-others.ensures) (none_found (meaning c.args.self.now) c.args.client)

pub loop-other-preserved : goal.loop-other-preserved
loop-other-preserved c =
    let s = meaning c.args.self.now in let client = c.args.client in let d = c.loop-other.other in
    let found = c.loop-other.others.items in let lt = c.loop-other-test.true in let h = c.loop-other.invariant in
    subst (λ n. AreFound s client n c.if-waits_for.others.items) (sym (add-one d))
    (elim c.if-waits_for.branch [
      | then-waits_for w ↦ subst (AreFound s client (suc d)) (sym (ap (λ o. o.items) w.others-is ∙ w.push.ensures.items)) (one_found s client d found lt h (sym c.waits_for.ensures ∙ w.if-waits_for.true))
      | else-waits_for w ↦ subst (AreFound s client (suc d)) (sym (ap (λ o. o.items) w.others-is)) (none_more s client d found lt h (sym c.waits_for.ensures ∙ w.if-waits_for.false))
    ])
