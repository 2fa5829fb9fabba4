use Rattle.krl_nodes.proofs.Names.{sym, ap, ◌∙◌, durable_of}
use Rattle.krl_nodes.proofs.office.Office.close.Goals as goal

pub returns : goal.returns
returns c = rw (← c.server.view_is) (
    let s = c.server.invariant.0.stands in
    let e = c.into_durable.ensures in
    (c.if-any_seated.ensures, e, (s.0, s.1, ap durable_of s.2 ∙ sym e)))
