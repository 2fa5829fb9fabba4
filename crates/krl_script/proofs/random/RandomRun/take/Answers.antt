use Rattle.krl_world.specs.States.{index_of}
use Rattle.krl_world.specs.Fields.{meaning}
use Rattle.krl_script.proofs.RandomLemmas.{taken, rows_range, scans_same}
use Rattle.krl_script.proofs.random.RandomRun.take.Goals as goal

pub returns-clause-takes : goal.returns-clause-takes
returns-clause-takes c =
    taken c.args.self.now.world c.step-outcome.new.self c.args.self.now.waiting c.pass.new.waiting c.count.new.self c.args.self.now.draws c.args.step c.step-outcome.result c.sent-sent.result
    c.step-outcome.ensures.steps c.pass.ensures c.sent-sent.ensures c.in_ok-count.ensures (rows_range (index_of (meaning c.args.self.now.world)) c.args.step c.step-outcome.result c.step-outcome.ensures.scans)

pub returns-clause-rows : goal.returns-clause-rows
returns-clause-rows c = scans_same (meaning c.args.self.now.world) (meaning c.step-outcome.new.self) c.args.step c.step-outcome.result c.step-outcome.ensures.steps (rows_range (index_of (meaning c.args.self.now.world)) c.args.step c.step-outcome.result c.step-outcome.ensures.scans)
