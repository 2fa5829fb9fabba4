use Rattle.std.proofs.Common.{◌+◌, arith}
use Rattle.krl_script.proofs.WaitingLemmas.{all_counted}
use Rattle.krl_script.proofs.undelivered.Undelivered.count.Goals as goal

pub returns : goal.returns
returns c =
    rw (← c.self.view_is)
    (all_counted c.self.inside.past c.loop.self-inside.past (c.self.inside.past + c.len.result) c.loop.counter c.args.sent c.self.inside.flags.items c.loop.self-inside.flags.items (omega arith) (omega arith) c.loop.invariant.count c.loop.invariant.waiting)
