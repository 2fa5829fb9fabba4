use Rattle.krl_durable.proofs.Names.{sym, ap, ◌∙◌, arith, length}
use Rattle.krl_durable.proofs.Slots.{entries_kept}
use Rattle.krl_durable.proofs.Kept.{index_seen, room_seen}
use Rattle.krl_durable.proofs.index.Index.len.Goals as goal

pub returns-clause-len : goal.returns-clause-len
returns-clause-len c = c.len.ensures ∙ sym (ap length (entries_kept c.self.inside.entries.list c.args.self.now.index c.self.invariant.sorted (index_seen c.self.view_is)))

pub returns-clause-few : goal.returns-clause-few
returns-clause-few c =
    let few = c.self.invariant.few in
    omega (arith, few, c.len.ensures, room_seen c.self.view_is)
