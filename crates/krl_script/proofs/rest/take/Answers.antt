use Rattle.std.proofs.Common.{sym, ◌∙◌}
use Rattle.krl_world.specs.Fields.{meaning}
use Rattle.krl_script.proofs.RestLemmas.{goes_once, leads_once, lacks_once}
use Rattle.krl_script.proofs.rest.take.Goals as goal

pub returns-then-had_memory-clause-goes : goal.returns-then-had_memory-clause-goes
returns-then-had_memory-clause-goes c = goes_once (meaning c.args.world.now) (meaning c.step-outcome.new.self) c.args.step c.step-outcome.result c.step-outcome.ensures.steps

pub returns-then-had_memory-clause-leads : goal.returns-then-had_memory-clause-leads
returns-then-had_memory-clause-leads c = leads_once (meaning c.args.world.now) (meaning c.step-outcome.new.self) c.args.step c.step-outcome.result c.step-outcome.ensures.steps (sym c.had_memory.ensures ∙ c.if-had_memory.true)

pub returns-clause-goes : goal.returns-clause-goes
returns-clause-goes c = goes_once (meaning c.args.world.now) (meaning c.step-outcome.new.self) c.args.step c.step-outcome.result c.step-outcome.ensures.steps

pub returns-clause-lacked : goal.returns-clause-lacked
returns-clause-lacked c = lacks_once (meaning c.args.world.now) (meaning c.step-outcome.new.self) c.args.step c.step-outcome.result c.step-outcome.ensures.steps (sym c.had_memory.ensures ∙ c.if-had_memory.false)
