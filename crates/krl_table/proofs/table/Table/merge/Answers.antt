use Rattle.krl_table.proofs.Names.{◌≡◌, ◌≤◌, ◌<◌, ℕ, suc, ◌+◌, sym, ap, subst, ◌∙◌, add-one, arith, END, Mode, range_of, Index, slot_of, IsSlotOf, mode_at, merged, range_at, key_at, MayDelete}
use Rattle.krl_table.proofs.Names.{Kept, rows_of, IsOver}
use Rattle.krl_modes.specs.declared.mode.Mode.TheVariants as mode
use Rattle.krl_modes.specs.declared.part.RangePart.TheVariants as range
use Rattle.krl_table.proofs.Invariant.Sounds.{held_row}
use Rattle.krl_table.proofs.Calls.Merges.{its_gap, its_next, under, merge_rows, merge_listed, merge_sound, merge_over, merge_ranges, merge_keys}
use Rattle.krl_table.proofs.Invariant.Within.{merge_within}
use Rattle.krl_table.proofs.table.Table.merge.Goals as goal

-- the only holder of a gap holds something
holds : (g : Mode) → range_of g ≡ range.X → g ≡ mode.N → ⊥
holds g e f = let bad : range_of mode.N ≡ range.X = subst (λ x. range_of x ≡ range.X) f e in absurd (let clash : range.N ≡ range.X = bad in cc)

-- the next slot, as it was found
found : (m : Index) (k s : ℕ) → k < END → (k + 1 ≤ END → IsSlotOf m (k + 1) s) → IsSlotOf m (suc k) s
found m k s lt h = subst (λ x. IsSlotOf m x s) (add-one k) (h (omega (arith, lt)))

may_there : (m : Index) (t x : Kept) (k s c : ℕ) → x ≡ t → s ≡ slot_of m (k + 1) → MayDelete (rows_of t) k (slot_of m (suc k)) c → MayDelete (rows_of x) k s c
may_there m t x k s c e f h = subst (λ y. MayDelete (rows_of y) k s c) (sym e) (subst (λ n. MayDelete (rows_of t) k n c) (ap (slot_of m) (sym (add-one k)) ∙ sym f) h)

pub join-requires : goal.join-requires
join-requires c =
    let m = c.args.durable.now.index in let t = c.self.inside.rows.map in let s = c.slot_of-slot.result in let k = c.args.key in let w = c.requires.may.0 in
    let at = found m k s c.requires.key c.slot_of-slot.ensures.least in
    let may = may_there m c.args.self.now.map t k s w (ap (λ s. s.map) c.self.view_is) c.slot_of-slot.ensures.slot c.requires.may.1 in
    let lt = under m k s c.requires.over.near c.requires.key c.requires.there at in
    record {
      gone = held_row t k w (holds (mode_at (rows_of t) k w) (its_gap t k s w may));
      kept = held_row t s w (holds (mode_at (rows_of t) s w) (its_next t k s w may));
      apart = λ e. omega (arith, lt, e);
    }

pub invariant_of-self : goal.invariant_of-self
invariant_of-self c =
    let m = c.args.durable.now.index in let t = c.self.inside.rows.map in let u = c.join.new.rows.map in let s = c.slot_of-slot.result in let k = c.args.key in let w = c.requires.may.0 in
    let at = found m k s c.requires.key c.slot_of-slot.ensures.least in
    let may = may_there m c.args.self.now.map t k s w (ap (λ s. s.map) c.self.view_is) c.slot_of-slot.ensures.slot c.requires.may.1 in
    let over = subst (IsOver m) (sym (ap (λ s. s.map) c.self.view_is)) c.requires.over in (
      merge_sound m k s c.requires.over.near c.requires.key c.requires.there at t u w over c.self.invariant.0 may c.join.ensures.set,
      merge_listed m k s c.requires.over.near c.requires.key c.requires.there at t u w over c.self.invariant.0 may c.join.ensures.set c.self.inside.waiting.by_client c.self.invariant.1,
      merge_within c.self.inside.extents.by_client c.follow.new.self.by_client t u k s c.follow.ensures.wider c.self.invariant.2 c.follow.ensures.there c.join.ensures.set,
    )

pub returns-clause-merged : goal.returns-clause-merged
returns-clause-merged c n =
    let m = c.args.durable.now.index in let t = c.self.inside.rows.map in let u = c.join.new.rows.map in let s = c.slot_of-slot.result in let k = c.args.key in let w = c.requires.may.0 in
    let at = found m k s c.requires.key c.slot_of-slot.ensures.least in
    let may = may_there m c.args.self.now.map t k s w (ap (λ s. s.map) c.self.view_is) c.slot_of-slot.ensures.slot c.requires.may.1 in
    let over = subst (IsOver m) (sym (ap (λ s. s.map) c.self.view_is)) c.requires.over in
    merge_rows m k s c.requires.over.near c.requires.key c.requires.there at t u w over c.self.invariant.0 may c.join.ensures.set n
    ∙ ap (λ x. merged m (rows_of x) k n) (ap (λ s. s.map) c.self.view_is)

pub returns-clause-slots : goal.returns-clause-slots
returns-clause-slots c =
    let m = c.args.durable.now.index in let t = c.self.inside.rows.map in let u = c.join.new.rows.map in let s = c.slot_of-slot.result in let k = c.args.key in let w = c.requires.may.0 in
    let at = found m k s c.requires.key c.slot_of-slot.ensures.least in
    let may = may_there m c.args.self.now.map t k s w (ap (λ s. s.map) c.self.view_is) c.slot_of-slot.ensures.slot c.requires.may.1 in
    let over = subst (IsOver m) (sym (ap (λ s. s.map) c.self.view_is)) c.requires.over in
    merge_over m k s c.requires.over.near c.requires.key c.requires.there at t u w over c.self.invariant.0 may c.join.ensures.set

pub returns-clause-ranges : goal.returns-clause-ranges
returns-clause-ranges c d p =
    let m = c.args.durable.now.index in let t = c.self.inside.rows.map in let u = c.join.new.rows.map in let s = c.slot_of-slot.result in let k = c.args.key in let w = c.requires.may.0 in
    let at = found m k s c.requires.key c.slot_of-slot.ensures.least in
    let may = may_there m c.args.self.now.map t k s w (ap (λ s. s.map) c.self.view_is) c.slot_of-slot.ensures.slot c.requires.may.1 in
    let over = subst (IsOver m) (sym (ap (λ s. s.map) c.self.view_is)) c.requires.over in
    merge_ranges m k s c.requires.over.near c.requires.key c.requires.there at t u w over c.self.invariant.0 may c.join.ensures.set d p
    ∙ ap (λ x. range_at m (rows_of x) d p) (ap (λ s. s.map) c.self.view_is)

pub returns-clause-keys : goal.returns-clause-keys
returns-clause-keys c d p =
    let m = c.args.durable.now.index in let t = c.self.inside.rows.map in let u = c.join.new.rows.map in let s = c.slot_of-slot.result in let k = c.args.key in let w = c.requires.may.0 in
    let at = found m k s c.requires.key c.slot_of-slot.ensures.least in
    let may = may_there m c.args.self.now.map t k s w (ap (λ s. s.map) c.self.view_is) c.slot_of-slot.ensures.slot c.requires.may.1 in
    let over = subst (IsOver m) (sym (ap (λ s. s.map) c.self.view_is)) c.requires.over in
    merge_keys m k s c.requires.over.near c.requires.key c.requires.there at t u w over c.self.invariant.0 may c.join.ensures.set d p
    ∙ ap (λ x. key_at m (rows_of x) d p) (ap (λ s. s.map) c.self.view_is)
