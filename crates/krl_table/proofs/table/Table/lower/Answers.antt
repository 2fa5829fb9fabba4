use Rattle.krl_table.proofs.Names.{◌≡◌, ◌≤◌, ◌<◌, ℕ, true, sym, ap, subst, ◌∙◌, arith, Index, low_of, is_slot, IsSlotOf, lowered, rows_of, IsOver}
use Rattle.krl_table.proofs.Invariant.Sounds.{listed_same}
use Rattle.krl_table.proofs.Calls.Clears.{lowered_sound, lowered_queue, lowered_over, lowered_is, begins_past}
use Rattle.krl_table.proofs.Calls.Clears.{begins_at}
use Rattle.krl_table.proofs.Invariant.Within.{lower_within}
use Rattle.krl_table.proofs.table.Table.lower.Goals as goal
use Rattle.krl_table.proofs.table.Table.lower.Goals.{then-first-lo, else-first-lo}

-- the slots whose spans begin in the span are those from the first on
module _ (c : goal.After-lower) where
  abbrev m : Index
  m = c.args.durable.now.index

  low_is : c.find-first.result.low ≡ low_of m c.find-first.result.point
  low_is = c.find-first.ensures.low

  at : IsSlotOf m c.args.span.lo c.find-first.result.point
  at = subst (λ p. IsSlotOf m p c.find-first.result.point) c.lo.ensures.end c.find-first.ensures.least

  abbrev Begins : ℕ → Type 0
  Begins from = ((n : ℕ) → is_slot m n ≡ true → n < from → low_of m n < c.args.span.lo) × ((n : ℕ) → is_slot m n ≡ true → from ≤ n → c.args.span.lo ≤ low_of m n)

  begins : Begins c.if-first-lo.from
  begins = elim c.if-first-lo.branch [
    | then-first-lo w ↦ subst Begins (sym w.from-is) (begins_past m c.requires.over.near c.args.span.lo c.find-first.result.point at (omega (arith, low_is, w.if-first-lo.true, c.lo-2.ensures.end)))
    | else-first-lo w ↦ subst Begins (sym w.from-is) (begins_at m c.requires.over.near c.args.span.lo c.find-first.result.point at (omega (arith, low_is, w.if-first-lo.false, c.lo-2.ensures.end)))
  ]

pub invariant_of-self : goal.invariant_of-self
invariant_of-self c =
    let t = c.self.inside.rows.map in let u = c.lower.new.rows.map in let from = c.if-first-lo.from in let hi = c.hi.result in (
      lowered_sound from hi c.args.client c.args.keep c.requires.client t u c.lower.ensures.all c.self.invariant.0,
      listed_same c.self.inside.waiting.by_client t u (lowered_queue from hi c.args.client c.args.keep c.requires.client t u c.lower.ensures.all) c.self.invariant.1,
      lower_within c.self.inside.extents.by_client from hi c.args.client c.args.keep t u c.lower.ensures.all c.self.invariant.2,
    )

pub returns-clause-lowered : goal.returns-clause-lowered
returns-clause-lowered c n =
    let m = c.args.durable.now.index in let t = c.self.inside.rows.map in let u = c.lower.new.rows.map in let from = c.if-first-lo.from in let hi = c.hi.result in
    let over = subst (IsOver m) (sym (ap (λ s. s.map) c.self.view_is)) c.requires.over in
    lowered_is from hi c.args.client c.args.keep c.requires.client t u c.lower.ensures.all m over c.args.span c.hi.ensures.end (begins c) n
    ∙ ap (λ x. lowered m (rows_of x) c.args.client c.args.span c.args.keep n) (ap (λ s. s.map) c.self.view_is)

pub returns-clause-slots : goal.returns-clause-slots
returns-clause-slots c =
    let m = c.args.durable.now.index in
    lowered_over c.if-first-lo.from c.hi.result c.args.client c.args.keep c.requires.client c.self.inside.rows.map c.lower.new.rows.map c.lower.ensures.all m (subst (IsOver m) (sym (ap (λ s. s.map) c.self.view_is)) c.requires.over)
