use Rattle.std.proofs.Common.{◌+◌, ◌-◌, arith}
use Rattle.krl_script.specs.RandomRuns.{stage_of}
use Rattle.krl_script.proofs.RandomLemmas.{hurries_stay, hurries_end, hurries_step}
use Rattle.krl_script.proofs.random.RandomRun.hurry.Goals as goal

pub deliveries-preserved : goal.deliveries-preserved
deliveries-preserved c = record {
  sound = λ h. c.in_ok-take.ensures.sound;
  back = λ last h. c.deliveries.invariant.back last
      (hurries_step (c.args.most - c.deliveries.counter) (c.args.most - (c.deliveries.counter + 1)) c.deliveries.self c.late.new.self c.take.new.self c.in-Some.number last
      (omega (arith, c.deliveries-test.true)) c.in-Some.ensures.late c.late.ensures.same c.in_ok-take.ensures.takes.0 h);
}

pub returns-in_default-clause-hurries : goal.returns-in_default-clause-hurries
returns-in_default-clause-hurries c =
    c.deliveries.invariant.back (stage_of c.late.new.self) (hurries_stay (c.args.most - c.deliveries.counter) c.deliveries.self c.late.new.self c.in_default.ensures.late c.late.ensures.same)

pub returns-clause-hurries : goal.returns-clause-hurries
returns-clause-hurries c =
    c.deliveries.invariant.back (stage_of c.deliveries.self) (hurries_end (c.args.most - c.deliveries.counter) (stage_of c.deliveries.self) (omega (arith, c.deliveries-test.false)))
