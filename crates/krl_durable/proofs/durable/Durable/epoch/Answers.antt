use Rattle.krl_durable.proofs.Names.{subst, Durable, IsKept}
use Rattle.krl_durable.specs.Writes.{IsReach}
use Rattle.krl_durable.proofs.Rows.{clients_seen, outcomes_seen, lasts_seen, incarnations_seen}
use Rattle.krl_durable.proofs.durable.Durable.epoch.Goals as goal

pub returns-clause-kept : goal.returns-clause-kept
returns-clause-kept c =
    let inside : Durable = record { room = c.self.inside.index.room; reach = c.self.inside.reach; index = c.self.inside.index.index; epoch = c.self.inside.epoch; register = c.self.inside.register } in
    let kept : IsKept inside = record {
      keys = c.entries.ensures.below;
      few = c.entries.ensures.few;
      room = c.room.ensures.in_range;
      reach = subst IsReach c.get.ensures.slots c.get.ensures.in_range;
      epoch = c.self.invariant;
      clients = clients_seen c.self.inside.register c.rows.ensures.rows;
      once = c.rows.ensures.once;
      outcomes = outcomes_seen c.self.inside.register c.rows.ensures.rows;
      lasts = lasts_seen c.self.inside.register c.rows.ensures.rows;
      incarnations = incarnations_seen c.self.inside.register c.rows.ensures.rows;
    } in
    subst IsKept c.self.view_is kept
