use Rattle.krl_world.proofs.Names.{arith, refl, meaning, the_view}
use Rattle.krl_steps.specs.declared.step.Step.TheVariants as step
use Rattle.krl_steps.specs.declared.refused.Refused.TheVariants as refused
use Rattle.krl_world.proofs.Functions.Lifts.{refuses, is_no_client}
use Rattle.krl_world.proofs.Functions.Places.{is_at, command_at}
use Rattle.krl_world.proofs.world_fields.WorldFields.command.Goals as goal

pub returns-then-number : goal.returns-then-number
returns-then-number c = let w = meaning c.args.self.now in refuses w w (step.Command c.args.number c.args.what) refused.BadClient refl (is_no_client c.args.number _ c.if-number.true)

pub returns : goal.returns
returns c = rw (← c.self.view_is) (let w = the_view c.self.inside in
    command_at w c.args.number c.index_mut.result.now c.obey.new.place c.obey.new.sent.items c.args.what c.obey.result (is_at w c.args.number c.index_mut.result.now _ c.self.invariant.full (omega (arith, c.if-number.false)) c.index_mut.ensures.value) c.obey.ensures.last_incarnation c.obey.ensures.commanded)
