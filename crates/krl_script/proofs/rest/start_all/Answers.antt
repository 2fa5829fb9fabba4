use Rattle.std.proofs.Common.{refl, ◌≡◌, arith, ap}
use Rattle.krl_script.specs.Rests.{starts_below}
use Rattle.krl_script.proofs.RestLemmas.{goes_on, leads_on, leads_by, started_none, started_more}
use Rattle.krl_script.proofs.rest.start_all.Goals as goal

pub clients-init : goal.clients-init
clients-init c = record { goes = c.take.ensures.goes refl; whole = c.take.ensures.whole; leads = leads_by _ _ _ _ started_none c.in_ok-take.ensures.leads }

pub returns-in_err-take-2-clause-goes : goal.returns-in_err-take-2-clause-goes
returns-in_err-take-2-clause-goes c = goes_on _ _ _ c.clients.invariant.goes (c.take-in-clients.ensures.goes refl)

pub clients-preserved : goal.clients-preserved
clients-preserved c = record {
  goes = goes_on _ _ _ c.clients.invariant.goes (c.take-in-clients.ensures.goes refl);
  whole = c.take-in-clients.ensures.whole;
  leads = leads_by _ _ _ _ (started_more c.clients.client) (leads_on _ _ _ _ _ c.clients.invariant.leads c.in_ok-take-2.ensures.leads);
}

pub returns-clause-leads : goal.returns-clause-leads
returns-clause-leads c =
    let all : c.clients.client ≡ 4 = omega (arith, c.clients.auto.client-end, c.clients-test.false) in
    leads_by _ _ _ _ (ap starts_below all) c.clients.invariant.leads
