use Rattle.krl_durable.proofs.Names.{sym, ap, subst, ◌∙◌, arith, length, AreBelowEnd}
use Rattle.krl_durable.proofs.Slots.{entries_kept}
use Rattle.krl_durable.proofs.Kept.{index_seen, room_seen}
use Rattle.krl_durable.proofs.index.Index.entries.Goals as goal

pub returns-clause-entries : goal.returns-clause-entries
returns-clause-entries c = c.entries.ensures ∙ sym (entries_kept c.self.inside.entries.list c.args.self.now.index c.self.invariant.sorted (index_seen c.self.view_is))

pub returns-clause-below : goal.returns-clause-below
returns-clause-below c = subst AreBelowEnd (sym (entries_kept c.self.inside.entries.list c.args.self.now.index c.self.invariant.sorted (index_seen c.self.view_is))) c.self.invariant.below

pub returns-clause-few : goal.returns-clause-few
returns-clause-few c =
    let same = ap length (entries_kept c.self.inside.entries.list c.args.self.now.index c.self.invariant.sorted (index_seen c.self.view_is)) in
    let few = c.self.invariant.few in
    omega (arith, few, same, room_seen c.self.view_is)
