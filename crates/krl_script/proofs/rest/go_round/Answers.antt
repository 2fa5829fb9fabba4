use Rattle.krl_world.specs.Fields.{meaning}
use Rattle.krl_script.proofs.RestLemmas.{goes_on, round}
use Rattle.krl_script.proofs.rest.go_round.Goals as goal

pub returns-in_err-deliver_all-clause-goes : goal.returns-in_err-deliver_all-clause-goes
returns-in_err-deliver_all-clause-goes c = goes_on _ _ _ c.tick_all.ensures.goes c.deliver_all.ensures.goes

pub returns-in_err-deliver_all-clause-whole : goal.returns-in_err-deliver_all-clause-whole
returns-in_err-deliver_all-clause-whole c = λ h. c.deliver_all.ensures.whole (c.tick_all.ensures.whole h)

pub returns-clause-goes : goal.returns-clause-goes
returns-clause-goes c = goes_on _ _ _ c.tick_all.ensures.goes c.deliver_all.ensures.goes

pub returns-clause-whole : goal.returns-clause-whole
returns-clause-whole c = λ h. c.deliver_all.ensures.whole (c.tick_all.ensures.whole h)

pub returns-clause-round : goal.returns-clause-round
returns-clause-round c = round (meaning c.args.world.now) (meaning c.tick_all.new.world) (meaning c.deliver_all.new.world) c.args.past c.sent-last.result c.sent-last.ensures c.in_ok-tick_all.ensures.leads c.in_ok-deliver_all.ensures.leads
