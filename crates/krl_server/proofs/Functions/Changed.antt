-- What a write that is Applied asks of the table, and what it leaves over the index.
use Rattle.krl_server.proofs.Names.{◌≡◌, ℕ, suc, ◌≤◌, ◌<◌, Bool, true, false, ◌||◌, None, refl, sym, ap, subst, ◌∙◌, arith, nat_eq, ltb-true, END, Value, WriteOp, Outcome, eq_cases}
use Rattle.krl_server.proofs.Names.{Index, slot_of, is_slot, IsSlotOf, op_key, held, judge, index_after, column, Kept, rows_of, IsOver, MayInsert, MayDelete}
use Rattle.std.specs.Prelude.{is_some, not, nat_lt, length}
use Rattle.std.specs.FinMap as map
use Rattle.krl_messages.specs.declared.write_op.WriteOp.TheVariants as write
use Rattle.krl_messages.specs.declared.outcome.Outcome.TheVariants as outcome
use Rattle.krl_table.proofs.Rows.Slots.{slot_is, next_of}
use Rattle.krl_server.proofs.Updates.{get_here, get_other}
use Rattle.krl_server.proofs.Invariant.WritesSound.{insert_may, change_may}
use Rattle.krl_server.proofs.Invariant.Within.{insert_room}
use Rattle.krl_modes.proofs.Basics.{None-if_not_some}
use mathlib.Core.Bool.{or-true}

room_left : (room n : ℕ) → not (nat_lt n room) ≡ false → n < room
room_left room n e = by_test (nat_lt n room) refl e
  where
    by_test : (b : Bool) → nat_lt n room ≡ b → not b ≡ false → n < room
    by_test true f g = ltb-true n room f
    by_test false f g = absurd (cc)

-- another value leaves the slots
module _ (room : ℕ) (m : Index) (k : ℕ) (v : Value) (may : Bool) (lt : k < END) (e : judge room m (write.Put k v) may ≡ outcome.Applied) where
  same_slots : (n : ℕ) → is_slot (map.insert m k v) n ≡ is_slot m n
  same_slots n = eq_cases n k
      (λ f. subst (λ x. is_slot (map.insert m k v) x ≡ is_slot m x) (sym f)
      (ap (λ o. nat_eq k END || is_some o) (get_here m k v) ∙ sym (ap (λ b. nat_eq k END || b) (change_may (is_some (map.get m k)) may e).0)))
      (λ ne. ap (λ o. nat_eq n END || is_some o) (get_other m k v n ne))

  still_near : ((n : ℕ) → END ≤ n → map.get m n ≡ None) → (n : ℕ) → END ≤ n → map.get (map.insert m k v) n ≡ None
  still_near near n le = get_other m k v n (λ f. omega (arith, f, le, lt)) ∙ near n le

  pub put_over : (t : Kept) → IsOver m t → IsOver (map.insert m k v) t
  put_over t over = record {
    near = still_near over.near;
    within = λ n h. same_slots n ∙ over.within n h;
    points = over.points;
    placed = λ n u at. slot_is (map.insert m k v) (still_near over.near) u.point n (over.points n u at)
        (same_place (subst (IsSlotOf m u.point) (over.placed n u at) (next_of m over.near u.point (over.points n u at))));
  }
    where
      same_place : {p n : ℕ} → IsSlotOf m p n → IsSlotOf (map.insert m k v) p n
      same_place {n = n} x = record { slot = same_slots n ∙ x.slot; above = x.above; least = λ j a b. same_slots j ∙ x.least j a b }

-- a write of this shape that is Applied
pub put_after : (room : ℕ) (m : Index) (t : Kept) (op : WriteOp) (o : Outcome) (k : ℕ) (v : Value) (may : Bool) → op ≡ write.Put k v → o ≡ outcome.Applied → op_key op < END → judge room m op may ≡ o → IsOver m t → IsOver (index_after m op o) t
put_after room m t op o k v may e f lt is over =
    subst (λ x. IsOver (index_after m op x) t) (sym f) (subst (λ x. IsOver (index_after m x outcome.Applied) t) (sym e)
    (put_over room m k v may (subst (λ x. op_key x < END) e lt) (sym (ap (λ x. judge room m x may) e) ∙ is ∙ f) t over))

-- what such a write asks of the index and of the table
pub record Inserts (most : ℕ) (m : Index) (t : Kept) (c k : ℕ) : Type 0 where
  pub key : k < END
  pub free : map.get m k ≡ None
  pub room : length (map.entries m) < most
  pub may : MayInsert (rows_of t) (slot_of m k) c

pub record Deletes (m : Index) (t : Kept) (c k : ℕ) : Type 0 where
  pub key : k < END
  pub there : is_slot m k ≡ true
  pub may : MayDelete (rows_of t) k (slot_of m (suc k)) c

pub insert_asks : (room : ℕ) (m : Index) (t : Kept) (c : ℕ) (op : WriteOp) (o : Outcome) (k : ℕ) (v : Value) → op ≡ write.Insert k v → o ≡ outcome.Applied → op_key op < END → judge room m op (held m (column (rows_of t) c) op) ≡ o → Inserts room m t c k
insert_asks room m t c op o k v e f lt is =
    let judged = sym (ap (λ x. judge room m x (held m (column (rows_of t) c) x)) e) ∙ is ∙ f in
    let may = insert_may (is_some (map.get m k)) (held m (column (rows_of t) c) (write.Insert k v)) (not (nat_lt (length (map.entries m)) room)) judged in
    record {
      key = subst (λ x. op_key x < END) e lt;
      free = None-if_not_some (map.get m k) may.0;
      room = room_left room (length (map.entries m)) (insert_room (is_some (map.get m k)) (held m (column (rows_of t) c) (write.Insert k v)) (not (nat_lt (length (map.entries m)) room)) judged);
      may = may.1;
    }

pub delete_asks : (room : ℕ) (m : Index) (t : Kept) (c : ℕ) (op : WriteOp) (o : Outcome) (k : ℕ) → op ≡ write.Delete k → o ≡ outcome.Applied → op_key op < END → judge room m op (held m (column (rows_of t) c) op) ≡ o → Deletes m t c k
delete_asks room m t c op o k e f lt is =
    let judged = sym (ap (λ x. judge room m x (held m (column (rows_of t) c) x)) e) ∙ is ∙ f in
    let may = change_may (is_some (map.get m k)) (held m (column (rows_of t) c) (write.Delete k)) judged in
    record {
      key = subst (λ x. op_key x < END) e lt;
      there = ap (λ b. nat_eq k END || b) may.0 ∙ or-true (nat_eq k END);
      may = may.1;
    }
