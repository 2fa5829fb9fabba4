use Rattle.krl_world.proofs.Names.{arith, refl, ap, ◌∙◌, err_from_is_err_and, meaning, server_there, the_view}
use Rattle.krl_steps.specs.declared.step.Step.TheVariants as step
use Rattle.krl_steps.specs.declared.refused.Refused.TheVariants as refused
use Rattle.krl_world.proofs.Functions.Lifts.{refuses, is_no_client}
use Rattle.krl_world.proofs.Functions.Server.{nudged_at, nudge_down_at, nudge_memory_at}
use Rattle.krl_world.proofs.world_fields.WorldFields.nudge.Goals as goal

pub returns-then-number : goal.returns-then-number
returns-then-number c = let w = meaning c.args.self.now in refuses w w (step.Nudge c.args.number) refused.BadClient refl (is_no_client c.args.number _ c.if-number.true)

pub returns-in_default : goal.returns-in_default
returns-in_default c = rw (← c.self.view_is) (let w = the_view c.self.inside in
    nudge_down_at w c.args.number _ (omega (arith, c.if-number.false)) (ap server_there c.in_default.is))

pub returns-in_default-node : goal.returns-in_default-node
returns-in_default-node c = rw (← c.self.view_is) (let w = the_view c.self.inside in
    nudge_down_at w c.args.number _ (omega (arith, c.if-number.false)) (ap server_there c.in-Some.is ∙ c.in_default-node.is))

pub returns-in_err-nudge : goal.returns-in_err-nudge
returns-in_err-nudge c = rw (← c.self.view_is) (let w = the_view c.self.inside in
    let p = err_from_is_err_and c.from_residual.result c.from_residual.ensures.1 in
    rw (p.1, p.2) (nudge_memory_at w c.args.number c.in-Up.server c.nudge.new.sent.items (omega (arith, c.if-number.false)) (ap server_there c.in-Some.is ∙ c.in-Up.is) c.in_err-nudge.ensures.err))

pub returns : goal.returns
returns c = rw (← c.self.view_is) (let w = the_view c.self.inside in
    nudged_at w c.args.number c.in-Up.server c.nudge.new.sent.items (omega (arith, c.if-number.false)) (ap server_there c.in-Some.is ∙ c.in-Up.is) c.in_ok-nudge.ensures.ok)
