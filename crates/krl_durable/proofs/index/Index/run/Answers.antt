use Rattle.krl_durable.proofs.Names.{sym, subst, IsRun}
use Rattle.krl_durable.proofs.Slots.{entries_kept}
use Rattle.krl_durable.proofs.Kept.{index_seen}
use Rattle.krl_durable.proofs.index.Index.run.Goals as goal

pub returns : goal.returns
returns c = subst (λ es. IsRun es c.args.point c.run.result.now) (sym (entries_kept c.self.inside.entries.list c.args.self.now.index c.self.invariant.sorted (index_seen c.self.view_is))) c.run.ensures
