use Rattle.krl_world.proofs.Names.{arith, refl, sym, ◌∙◌, meaning, the_view}
use Rattle.krl_steps.specs.declared.step.Step.TheVariants as step
use Rattle.krl_steps.specs.declared.refused.Refused.TheVariants as refused
use Rattle.krl_world.proofs.Functions.Lifts.{refuses, is_no_client}
use Rattle.krl_world.proofs.Functions.Places.{IsAt, is_at, crash_at, crash_none_at}
use Rattle.krl_world.proofs.world_fields.WorldFields.crash_client.Goals.{in-Some, in-None}
use Rattle.krl_world.proofs.world_fields.WorldFields.crash_client.Goals as goal

pub returns-then-number : goal.returns-then-number
returns-then-number c = let w = meaning c.args.self.now in refuses w w (step.CrashClient c.args.number) refused.BadClient refl (is_no_client c.args.number _ c.if-number.true)

pub returns : goal.returns
returns c = rw (← c.self.view_is) (let w = the_view c.self.inside in
    let x = c.index_mut.result.now in
    let y = record x { client = c.take.new.self } in
    let a : IsAt w c.args.number x = is_at w c.args.number x _ c.self.invariant.full (omega (arith, c.if-number.false)) c.index_mut.ensures.value in
    elim c.match-take.branch [
      | in-Some b ↦ rw b.result-is (crash_at w c.args.number x y _ a refl (sym c.take.ensures.value ∙ b.in-Some.is) c.take.ensures.after)
      | in-None b ↦ rw b.result-is (crash_none_at w c.args.number x y a refl (sym c.take.ensures.value ∙ b.in-None.is) c.take.ensures.after)
    ])
