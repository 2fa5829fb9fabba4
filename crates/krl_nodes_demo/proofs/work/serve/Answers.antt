use Rattle.std.proofs.Common.{refl, ◌∙◌}
use Rattle.krl_nodes_demo.specs.Deliveries.{begins, goes_on}
use Rattle.krl_nodes_demo.proofs.Goings.{served_seed}
use Rattle.krl_nodes_demo.proofs.work.serve.Goals as goal

pub loop-init : goal.loop-init
loop-init g c = ((refl, refl, refl), refl, begins)

pub loop-preserved : goal.loop-preserved
loop-preserved g c =
    let i = c.loop.invariant in
    let same = c.serve_once-is_second.ensures.same in
    let serves = c.serve_once-is_second.ensures.serves in
    ((same.0 ∙ i.0.0, same.1 ∙ i.0.1, same.2 ∙ i.0.2), served_seed _ _ _ _ _ _ serves ∙ i.1, goes_on _ _ _ _ _ _ i.2 serves)
