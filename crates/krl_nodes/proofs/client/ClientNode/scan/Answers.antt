use Rattle.krl_nodes.proofs.Names.{◌≤◌, sym, ap, subst, arith, client_there, ScansIndex}
use Rattle.std.proofs.lemmas.Result.{err_from_is_err_and}
use Rattle.krl_client.specs.Fields.{meaning}
use Rattle.krl_steps.specs.declared.refused.Refused.TheVariants as refused
use Rattle.krl_nodes.specs.contracts.client.ClientNode.{the_view}
use Rattle.krl_nodes.proofs.Scans.{scans_there, scans_not}
use Rattle.krl_nodes.proofs.client.ClientNode.scan.Goals as goal

pub returns-in_err-scan-in-Some-clause-there : goal.returns-in_err-scan-in-Some-clause-there
returns-in_err-scan-in-Some-clause-there c = rw (← c.self.view_is) (
    let n = the_view c.self.inside in
    let p = err_from_is_err_and c.from_residual.result c.from_residual.ensures.1 in
    subst (λ r. ScansIndex n c.args.lo c.args.hi r) (sym p.1) (scans_not n c.args.lo c.args.hi p.0 c.self.invariant.0.stands))

pub returns-in_ok-scan-in-Some-clause-there : goal.returns-in_ok-scan-in-Some-clause-there
returns-in_ok-scan-in-Some-clause-there c = rw (← c.self.view_is) (
    let n = the_view c.self.inside in
    let low : n.number ≤ 63 = omega (arith, c.self.invariant.1) in
    scans_there n c.args.lo c.args.hi (meaning c.in-Some.client) c.in_ok-scan-in-Some.field-0 low c.self.invariant.0.stands (ap client_there c.in-Some.is) c.in_ok-scan-in-Some.ensures.none_due c.in_ok-scan-in-Some.ensures.answer)

pub returns-in-None-clause-there : goal.returns-in-None-clause-there
returns-in-None-clause-there c = rw (← c.self.view_is) (scans_not (the_view c.self.inside) c.args.lo c.args.hi refused.Down c.self.invariant.0.stands)
