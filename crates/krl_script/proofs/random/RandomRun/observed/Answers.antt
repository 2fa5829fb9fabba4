use Rattle.std.proofs.Common.{rules}
use Rattle.krl_script.proofs.RandomLemmas.{sight_is}
use Rattle.krl_script.proofs.random.RandomRun.observed.Goals as goal

pub returns-clause-seen : goal.returns-clause-seen
returns-clause-seen c =
    sight_is c.args.self.now.world c.args.self.now.waiting c.args.self.now.draws c.oldest-waiting.result c.sent.result c.is_none.result c.oldest-waiting.ensures.oldest c.sent.ensures (search rules)
