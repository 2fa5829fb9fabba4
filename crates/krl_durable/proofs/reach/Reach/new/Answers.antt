use Rattle.krl_durable.proofs.Names.{refl, arith}
use Rattle.krl_durable.proofs.reach.Reach.new.Goals as goal
use Rattle.krl_durable.proofs.reach.Reach.new.Goals.{else-slots-ge1-via-then-slots-ge1+else-slots-le-MAX_HOLDINGS, else-slots-ge1-via-else-slots-ge1}

pub invariant_of-result : goal.invariant_of-result
invariant_of-result c = (omega (arith, c.if-slots-ge1.true), omega (arith, c.if-slots-le-MAX_HOLDINGS.true))

pub returns-then-slots-le-MAX_HOLDINGS-clause-in_range : goal.returns-then-slots-le-MAX_HOLDINGS-clause-in_range
returns-then-slots-le-MAX_HOLDINGS-clause-in_range c = (λ h. (omega (arith, c.if-slots-ge1.true), omega (arith, c.if-slots-le-MAX_HOLDINGS.true)), λ h. refl)

pub returns-else-slots-ge1-clause-in_range : goal.returns-else-slots-ge1-clause-in_range
returns-else-slots-ge1-clause-in_range c = (
  λ h. absurd (cc),
  λ h. absurd (let some = h.0 in let few = h.1 in
      elim c.else-slots-ge1.branch [
        | else-slots-ge1-via-then-slots-ge1+else-slots-le-MAX_HOLDINGS w ↦ omega (arith, few, w.if-slots-le-MAX_HOLDINGS.false)
        | else-slots-ge1-via-else-slots-ge1 w ↦ omega (arith, some, w.if-slots-ge1.false)
      ]),
)
