use Rattle.std.proofs.Common.{sym, ◌≡◌, ◌∙◌, arith}
use Rattle.krl_world.specs.Fields.{meaning}
use Rattle.krl_script.specs.Rests.{Rounds}
use Rattle.krl_script.proofs.RestLemmas.{stays, goes_on, round_more, goes_round}
use Rattle.krl_script.proofs.rest.go_rounds.Goals as goal

pub rounds-init : goal.rounds-init
rounds-init c = record { goes = stays (meaning c.args.world.now); whole = λ h. h; rounds = Rounds.begun }

pub returns-in_err-past-clause-goes : goal.returns-in_err-past-clause-goes
returns-in_err-past-clause-goes c = goes_on _ _ _ c.rounds.invariant.goes c.go_round.ensures.goes

pub returns-then-not-is_sound-clause-rounds : goal.returns-then-not-is_sound-clause-rounds
returns-then-not-is_sound-clause-rounds c = (omega (arith, c.rounds-test.true), c.rounds.past, c.rounds.invariant.rounds)

pub returns-then-nobody_waits-clause-rounds : goal.returns-then-nobody_waits-clause-rounds
returns-then-nobody_waits-clause-rounds c = (omega (arith, c.rounds-test.true), c.rounds.past, c.rounds.invariant.rounds)

pub returns-clause-rounds : goal.returns-clause-rounds
returns-clause-rounds c =
    let all : c.rounds.rounds ≡ 1172 = omega (arith, c.rounds.auto.rounds-end, c.rounds-test.false) in
    goes_round (meaning c.args.world.now) (meaning c.rounds.world) c.args.past c.rounds.rounds c.rounds.past c.last_of.result (c.last_of.ensures.last ∙ sym all) (omega (arith, all)) c.rounds.invariant.rounds

pub rounds-preserved : goal.rounds-preserved
rounds-preserved c = record {
  goes = goes_on _ _ _ c.rounds.invariant.goes c.go_round.ensures.goes;
  whole = λ h. c.go_round.ensures.whole (c.rounds.invariant.whole h);
  rounds = round_more _ _ _ _ _ _ _ c.rounds.invariant.rounds c.in_ok-past.ensures.round c.in_ok-past.ensures.sent;
}
