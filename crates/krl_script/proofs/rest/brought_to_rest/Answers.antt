use Rattle.krl_world.specs.Fields.{meaning}
use Rattle.krl_script.proofs.RestLemmas.{goes_on, starts_and_goes}
use Rattle.krl_script.proofs.rest.brought_to_rest.Goals as goal

pub returns-clause-goes : goal.returns-clause-goes
returns-clause-goes c = goes_on _ _ _ c.start_all.ensures.goes c.go_rounds.ensures.goes

pub returns-clause-rounds : goal.returns-clause-rounds
returns-clause-rounds c = starts_and_goes (meaning c.args.world.now) (meaning c.start_all.new.world) (meaning c.go_rounds.new.world) c.sent-past.result c.go_rounds.result c.in_ok-start_all.ensures.leads c.sent-past.ensures c.go_rounds.ensures.rounds
