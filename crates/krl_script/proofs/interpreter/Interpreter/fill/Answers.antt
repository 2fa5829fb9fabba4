use Rattle.std.proofs.lemmas.Result.{IfOk-weaker}
use Rattle.krl_script.specs.Fields.{meaning}
use Rattle.krl_script.proofs.Interpreting.{fill_refused}
use Rattle.krl_script.proofs.interpreter.Interpreter.fill.Goals as goal

pub returns-then-n : goal.returns-then-n
returns-then-n c =
    IfOk-weaker c.refuse.result _ _ (λ line h. fill_refused (meaning c.args.self.now) (meaning c.refuse.new.self) c.args.n line.bytes.items c.if-n.true h.0 h.1) c.refuse.ensures
