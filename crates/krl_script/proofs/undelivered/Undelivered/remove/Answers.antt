use Rattle.std.proofs.Common.{arith}
use Rattle.krl_script.proofs.WaitingLemmas.{removed}
use Rattle.krl_script.proofs.undelivered.Undelivered.remove.Goals as goal

pub returns-then-number-self-2 : goal.returns-then-number-self-2
returns-then-number-self-2 c =
    rw (← c.self.view_is) (removed c.self.inside.past c.args.number c.self.inside.flags.items c.if-number-self.true (omega arith))
