use Rattle.krl_durable.proofs.Names.{refl, arith}
use Rattle.krl_durable.proofs.Kept.{most_roomed}
use Rattle.krl_durable.proofs.room.Room.new.Goals as goal
use Rattle.krl_durable.proofs.room.Room.new.Goals.{else-entries-ge1-via-then-entries-ge1+else-entries-le-MAX_ROOM, else-entries-ge1-via-else-entries-ge1}

pub invariant_of-result : goal.invariant_of-result
invariant_of-result c = (omega (arith, c.if-entries-ge1.true), omega (arith, most_roomed, c.if-entries-le-MAX_ROOM.true))

pub returns-then-entries-le-MAX_ROOM-clause-in_range : goal.returns-then-entries-le-MAX_ROOM-clause-in_range
returns-then-entries-le-MAX_ROOM-clause-in_range c = (λ h. (omega (arith, c.if-entries-ge1.true), omega (arith, most_roomed, c.if-entries-le-MAX_ROOM.true)), λ h. refl)

pub returns-else-entries-ge1-clause-in_range : goal.returns-else-entries-ge1-clause-in_range
returns-else-entries-ge1-clause-in_range c = (
  λ h. absurd (cc),
  λ h. absurd (let some = h.0 in let few = h.1 in
      elim c.else-entries-ge1.branch [
        | else-entries-ge1-via-then-entries-ge1+else-entries-le-MAX_ROOM w ↦ omega (arith, most_roomed, few, w.if-entries-le-MAX_ROOM.false)
        | else-entries-ge1-via-else-entries-ge1 w ↦ omega (arith, some, w.if-entries-ge1.false)
      ]),
)
