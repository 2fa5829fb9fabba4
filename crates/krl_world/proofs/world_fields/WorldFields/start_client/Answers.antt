use Rattle.krl_world.proofs.Names.{arith, refl, err_from_is_err_and, meaning, the_view}
use Rattle.krl_steps.specs.declared.step.Step.TheVariants as step
use Rattle.krl_steps.specs.declared.refused.Refused.TheVariants as refused
use Rattle.krl_world.proofs.Functions.Lifts.{refuses, is_no_client}
use Rattle.krl_world.proofs.Functions.Places.{is_at, start_at, start_refused_at}
use Rattle.krl_world.proofs.world_fields.WorldFields.start_client.Goals as goal

pub returns-then-number : goal.returns-then-number
returns-then-number c = let w = meaning c.args.self.now in refuses w w (step.StartClient c.args.number) refused.BadClient refl (is_no_client c.args.number _ c.if-number.true)

pub returns-in_err-start : goal.returns-in_err-start
returns-in_err-start c = rw (← c.self.view_is) (let w = the_view c.self.inside in
    let x = c.index_mut.result.now in
    let p = err_from_is_err_and c.from_residual.result c.from_residual.ensures.1 in
    rw (p.1, p.2) (start_refused_at w c.args.number x c.start.new.place c.start.new.sent.items _ (is_at w c.args.number x _ c.self.invariant.full (omega (arith, c.if-number.false)) c.index_mut.ensures.value) c.in_err-start.ensures.err.0 c.in_err-start.ensures.err.1 c.in_err-start.ensures.due))

pub returns : goal.returns
returns c = rw (← c.self.view_is) (let w = the_view c.self.inside in
    start_at w c.args.number c.index_mut.result.now c.start.new.place c.start.new.sent.items (is_at w c.args.number c.index_mut.result.now _ c.self.invariant.full (omega (arith, c.if-number.false)) c.index_mut.ensures.value) c.in_ok-start.ensures.ok)
