use Rattle.std.proofs.Common.{refl, ◌≡◌, arith, ap}
use Rattle.krl_world.specs.Fields.{meaning}
use Rattle.krl_script.specs.Rests.{ticks_below}
use Rattle.krl_script.proofs.RestLemmas.{stays, goes_on, leads_nowhere, leads_on, leads_by, ticked_none, ticked_more}
use Rattle.krl_script.proofs.rest.tick_all.Goals as goal

pub clients-init : goal.clients-init
clients-init c = record { goes = stays (meaning c.args.world.now); whole = λ h. h; leads = leads_by _ _ _ _ ticked_none (leads_nowhere (meaning c.args.world.now)) }

pub returns-in_err-take-clause-goes : goal.returns-in_err-take-clause-goes
returns-in_err-take-clause-goes c = goes_on _ _ _ c.clients.invariant.goes (c.take.ensures.goes refl)

pub clients-preserved : goal.clients-preserved
clients-preserved c = record {
  goes = goes_on _ _ _ c.clients.invariant.goes (c.take.ensures.goes refl);
  whole = λ h. c.take.ensures.whole;
  leads = leads_by _ _ _ _ (ticked_more c.clients.client) (leads_on _ _ _ _ _ c.clients.invariant.leads c.in_ok-take.ensures.leads);
}

pub returns-clause-leads : goal.returns-clause-leads
returns-clause-leads c =
    let all : c.clients.client ≡ 4 = omega (arith, c.clients.auto.client-end, c.clients-test.false) in
    leads_by _ _ _ _ (ap ticks_below all) c.clients.invariant.leads
