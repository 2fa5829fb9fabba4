use Rattle.krl_script.specs.RandomRuns.{stage_of}
use Rattle.krl_script.proofs.RandomLemmas.{goes_busily}
use Rattle.krl_script.proofs.random.RandomRun.go_at.Goals as goal

pub returns-in_ok-hurry-in-Busy-clause-goes : goal.returns-in_ok-hurry-in-Busy-clause-goes
returns-in_ok-hurry-in-Busy-clause-goes c =
    goes_busily c.args.pace (stage_of c.args.self.now) (stage_of c.go_on-in-Busy.new.self) (stage_of c.hurry.new.self) c.in-Busy.is c.in_ok-sound-in-Busy.ensures.goes c.in_ok-hurry-in-Busy.ensures.hurries
