use Rattle.krl_world.proofs.Names.{arith, refl, err_from_is_err_and, meaning, the_view}
use Rattle.krl_steps.specs.declared.step.Step.TheVariants as step
use Rattle.krl_steps.specs.declared.refused.Refused.TheVariants as refused
use Rattle.krl_world.proofs.Functions.Lifts.{refuses, is_no_client}
use Rattle.krl_world.proofs.Functions.Places.{is_at, tick_at, tick_memory_at, tick_none_at}
use Rattle.krl_world.proofs.world_fields.WorldFields.tick.Goals as goal

pub returns-then-number : goal.returns-then-number
returns-then-number c = let w = meaning c.args.self.now in refuses w w (step.Tick c.args.number) refused.BadClient refl (is_no_client c.args.number _ c.if-number.true)

pub returns-in_default : goal.returns-in_default
returns-in_default c = rw (← c.self.view_is) (let w = the_view c.self.inside in
    tick_none_at w c.args.number c.index.result.now (is_at w c.args.number c.index.result.now _ c.self.invariant.full (omega (arith, c.if-number.false)) c.index.ensures) c.in_default.is)

pub returns : goal.returns
returns c = rw (← c.self.view_is) (let w = the_view c.self.inside in
    tick_at w c.args.number c.index.result.now c.in-Some.client c.tick.new.sent.items (is_at w c.args.number c.index.result.now _ c.self.invariant.full (omega (arith, c.if-number.false)) c.index.ensures) c.in-Some.is c.in_ok-tick.ensures.ok)

pub returns-in_err-tick : goal.returns-in_err-tick
returns-in_err-tick c = rw (← c.self.view_is) (let w = the_view c.self.inside in
    let x = c.index.result.now in
    let p = err_from_is_err_and c.from_residual.result c.from_residual.ensures.1 in
    rw (p.1, p.2) (tick_memory_at w c.args.number x c.in-Some.client c.tick.new.sent.items (is_at w c.args.number x _ c.self.invariant.full (omega (arith, c.if-number.false)) c.index.ensures) c.in-Some.is c.in_err-tick.ensures.err))
