use Rattle.std.proofs.Common.{refl, ◌≡◌, ◌-◌, arith, ap}
use Rattle.krl_world.specs.Fields.{meaning}
use Rattle.krl_script.specs.Rests.{deliveries}
use Rattle.krl_script.proofs.RestLemmas.{stays, goes_on, leads_nowhere, leads_on, leads_by, delivered_none, delivered_more}
use Rattle.krl_script.proofs.rest.deliver_all.Goals as goal

pub messages-init : goal.messages-init
messages-init c = record { goes = stays (meaning c.args.world.now); whole = λ h. h; leads = leads_by _ _ _ _ (delivered_none c.args.past) (leads_nowhere (meaning c.args.world.now)); within = omega arith }

pub returns-in_err-take-clause-goes : goal.returns-in_err-take-clause-goes
returns-in_err-take-clause-goes c = goes_on _ _ _ c.messages.invariant.goes (c.take.ensures.goes refl)

pub messages-preserved : goal.messages-preserved
messages-preserved c = record {
  goes = goes_on _ _ _ c.messages.invariant.goes (c.take.ensures.goes refl);
  whole = λ h. c.take.ensures.whole;
  leads = leads_by _ _ _ _ (delivered_more c.args.past c.messages.before c.messages.auto.before) (leads_on _ _ _ _ _ c.messages.invariant.leads c.in_ok-take.ensures.leads);
  within = omega (arith, c.messages-test.true, c.messages.auto.before);
}

pub returns-clause-leads : goal.returns-clause-leads
returns-clause-leads c =
    let all : c.messages.before - c.args.past ≡ c.args.last - c.args.past = omega (arith, c.messages.auto.before, c.messages.invariant.within, c.messages-test.false) in
    leads_by _ _ _ _ (ap (deliveries c.args.past) all) c.messages.invariant.leads
