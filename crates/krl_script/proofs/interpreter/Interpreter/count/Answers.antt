use Rattle.krl_script.proofs.Interpreting.{counted_on}
use Rattle.krl_script.proofs.interpreter.Interpreter.count.Goals as goal

pub returns : goal.returns
returns c = rw (← c.self.view_is) (counted_on c.self.inside.world c.self.inside.waiting c.count.new.self c.sent-sent.result c.count.result c.sent-sent.ensures c.count.ensures)
