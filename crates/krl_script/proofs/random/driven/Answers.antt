use Rattle.krl_script.proofs.RandomLemmas.{ended}
use Rattle.krl_script.proofs.RandomReach.{end_reachable}
use Rattle.krl_script.proofs.random.driven.Goals as goal

pub returns : goal.returns
returns g c =
    let e = ended c.args.pace c.in_ok-run.run' c.first_unsound_step.new.run c.args.seed c.args.steps c.in_ok-unsound.unsound c.in_ok-run.ensures c.in_ok-unsound.ensures in
    (e.0, e.1, end_reachable c.args.pace c.args.seed c.args.steps _ e.1)
