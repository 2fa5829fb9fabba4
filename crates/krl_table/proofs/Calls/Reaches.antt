-- Which slots a grant reaches depends on the rows after its own only, as they are before it.
use Rattle.krl_table.proofs.Names.{◌≡◌, ℕ, zero, suc, ◌≤◌, ◌<◌, Bool, true, false, ◌∷◌, [], List, refl, sym, ap, ◌∙◌, arith, ne_eqb, nat_eq, nat_le, nat_lt, nat_tests, ltb-true, if◌then◌else◌, filter, END, needs_entry}
use Rattle.krl_table.proofs.Names.{Value, Waiter, Index, slot_of, Row, Rows, is_compatible_in_row, with_mode, wanted, raised, nobody_waits, is_open_to, goes_on, reached_after}
use Rattle.std.specs.Prelude.{◌&&◌, not}
use Rattle.std.specs.FinMap as fin
use Rattle.krl_durable.specs.Index.{first_or_end}

-- The next slot

from_point : (es : List (ℕ × Value)) (p : ℕ) → p ≤ END → p ≤ first_or_end (filter (λ e. nat_le p e.0) es)
from_point [] p le = le
from_point (e ∷ es) p le = by_test (nat_le p e.0) refl (from_point es p le)
  where
    by_test : (b : Bool) → nat_le p e.0 ≡ b → p ≤ first_or_end (filter (λ e. nat_le p e.0) es) → p ≤ first_or_end (if b then e ∷ filter (λ e. nat_le p e.0) es else filter (λ e. nat_le p e.0) es)
    by_test true t ih = grind (arith, nat_tests)
    by_test false t ih = ih

pub slot_after : (m : Index) (n : ℕ) → nat_lt n END ≡ true → n < slot_of m (suc n)
slot_after m n e =
    let lt = ltb-true n END e in
    let from = from_point (fin.entries m) (suc n) (omega (arith, lt)) in
    omega (arith, from)

module _ (m : Index) (u : Waiter) where
  -- the row of a slot shows whether the slot is open
  open_same : (a b : Rows) (n : ℕ) → a n ≡ b n → is_open_to a n u ≡ is_open_to b n u
  open_same a b n e = ap (λ (r : Row). nobody_waits r.queue && (is_compatible_in_row r u.client (wanted r u) && not (needs_entry u.mode && nat_eq n END))) e

  later_rows : (a b : Rows) (n k : ℕ) → ((j : ℕ) → n < j → a j ≡ b j) → reached_after m a n u k ≡ reached_after m b n u k
  later_rows a b n zero same = refl
  later_rows a b n (suc k) same = by_test (nat_lt n END) refl
      (λ (far : n < slot_of m (suc n)). later_rows a b (slot_of m (suc n)) k (λ j less. same j (omega (arith, less, far))))
    where
      next : ℕ
      next = slot_of m (suc n)

      by_test : (t : Bool) → nat_lt n END ≡ t → (n < slot_of m (suc n) → reached_after m a (slot_of m (suc n)) u k ≡ reached_after m b (slot_of m (suc n)) u k) → reached_after m a n u (suc k) ≡ reached_after m b n u (suc k)
      by_test true e ih =
          let far = slot_after m n e in
          ap (λ x. if nat_lt n END && (nat_lt (suc n) u.hi && x) then next ∷ reached_after m a next u k else []) (open_same a b next (same next far))
          ∙ ap (λ ns. if goes_on m b n u then next ∷ ns else []) (ih far)
      by_test false e ih =
          ap (λ x. if x && (nat_lt (suc n) u.hi && is_open_to a next u) then next ∷ reached_after m a next u k else []) e
          ∙ sym (ap (λ x. if x && (nat_lt (suc n) u.hi && is_open_to b next u) then next ∷ reached_after m b next u k else []) e)

  -- what a raise makes of its own row does not count
  pub reached_raised : (rows : Rows) (n k : ℕ) → reached_after m rows n u k ≡ reached_after m (raised rows n u) n u k
  reached_raised rows n k = later_rows rows (raised rows n u) n k
      (λ j less. sym (ap (λ b. if b then with_mode (rows n) u.client (wanted (rows n) u) else rows j) (ne_eqb j n (λ e. omega (arith, e, less)))))
