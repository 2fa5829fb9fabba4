-- What a change of the kept rows means.
use Rattle.krl_table.proofs.Names.{◌≡◌, ◌≢◌, ℕ, zero, suc, ◌<◌, Bool, true, false, cond, List, [], ◌∷◌, Option, Some, None, IsSome, length, set, refl, sym, ap, subst, ◌∙◌, ◌⊎◌, inl, inr, ⊎_elim, nat_eq}
use Rattle.krl_table.proofs.Names.{eq-eqb, ne_eqb, get_or-set_same, get_or-set_other, fun_ext, slice_get, if◌then◌else◌, nat_cmp, FinMap, get, insert, remove, get-insert}
use Rattle.krl_table.proofs.Names.{get-remove, Mode, In, Waiter, SlotRow, Row, Rows, blank_row, set_row, set_mode, with_mode, front_of, Kept, mode_of, row_of, row_there, rows_of, IsSet, AreSet}
use Rattle.std.proofs.Math.ListN.{replicate}
use Rattle.std.specs.Cmp.{nat_cmp_total, unsigned_tied}
use Rattle.krl_modes.specs.declared.mode.Mode.TheVariants as mode
pub use Rattle.krl_blocks.proofs.Reserved.Finding.{eq_cases}

-- Look-ups

pub get-put : (t : Kept) (k : ℕ) (r : SlotRow) (n : ℕ) → get (insert t k r) n ≡ cond (nat_eq n k) (Some r) (get t n)
get-put t k r n = get-insert nat_cmp_total t k r n ∙ ap (λ b. cond b (Some r) (get t n)) (unsigned_tied n k)

pub get-gone : (t : Kept) (k n : ℕ) → get (remove t k) n ≡ cond (nat_eq n k) None (get t n)
get-gone t k n = get-remove nat_cmp_total t k n ∙ ap (λ b. cond b None (get t n)) (unsigned_tied n k)

pub rows-put : (t : Kept) (k : ℕ) (r : SlotRow) (n : ℕ) → rows_of (insert t k r) n ≡ set_row (rows_of t) k (row_of r) n
rows-put t k r n = ap row_there (get-put t k r n) ∙ by_test (nat_eq n k)
  where
    by_test : (b : Bool) → row_there (cond b (Some r) (get t n)) ≡ (if b then row_of r else rows_of t n)
    by_test true = refl
    by_test false = refl

pub row-there : (t : Kept) (n : ℕ) (r : SlotRow) → get t n ≡ Some r → rows_of t n ≡ row_of r
row-there t n r e = ap row_there e

-- another row in the place of an equal one
pub put_row : (rows : Rows) (k : ℕ) (r s : Row) (n : ℕ) → r ≡ s → set_row rows k r n ≡ set_row rows k s n
put_row rows k r s n e = ap (λ x. set_row rows k x n) e

-- Rows of modes

pub mode-set : (modes : List Mode) (c : ℕ) (g : Mode) (d : ℕ) → c < length modes → mode_of (set modes c g) d ≡ set_mode (mode_of modes) c g d
mode-set modes c g d lt = eq_cases d c
    (λ e. subst (λ x. mode_of (set modes c g) x ≡ set_mode (mode_of modes) c g x) (sym e) (get_or-set_same modes c g mode.N lt ∙ sym (ap (λ b. if b then g else mode_of modes c) (eq-eqb c c refl))))
    (λ ne. get_or-set_other modes c d g mode.N ne ∙ sym (ap (λ b. if b then g else mode_of modes d) (ne_eqb d c ne)))

pub blank-modes : (n : ℕ) (c : ℕ) → mode_of (replicate n mode.N) c ≡ mode.N
blank-modes zero c = refl
blank-modes (suc n) zero = refl
blank-modes (suc n) (suc c) = blank-modes n c

pub blank-row : (n : ℕ) (queue : List Waiter) → queue ≡ [] → ◌≡◌ {A = Row} (record { modes = mode_of (replicate n mode.N); queue = queue }) blank_row
blank-row n queue e = λ i. record { modes = fun_ext (blank-modes n) i; queue = e i }

pub modes-set : (modes : List Mode) (c : ℕ) (g : Mode) → c < length modes → mode_of (set modes c g) ≡ set_mode (mode_of modes) c g
modes-set modes c g lt = fun_ext (λ d. mode-set modes c g d lt)

pub front-is : (ws : List Waiter) → slice_get ws 0 ≡ front_of ws
front-is [] = refl
front-is (w ∷ ws) = refl

-- a row that is set, if the others were changed before only at its slot
pub set_after : (t u v : Kept) (k : ℕ) (row new : Row) → ((n : ℕ) → n ≢ k → get u n ≡ get t n) → row ≡ new → IsSet u v k row → IsSet t v k new
set_after t u v k row new same e h = record {
  here = h.here ∙ e;
  others = λ n ne. h.others n ne ∙ same n ne;
  used = h.used;
}

-- the rows, after one is set
pub set_rows : (t u : Kept) (k : ℕ) (row : Row) → IsSet t u k row → (n : ℕ) → rows_of u n ≡ set_row (rows_of t) k row n
set_rows t u k row h n = eq_cases n k
    (λ e. ap (rows_of u) e ∙ h.here ∙ sym (ap (λ b. if b then row else rows_of t n) (eq-eqb n k e)))
    (λ ne. ap row_there (h.others n ne) ∙ sym (ap (λ b. if b then row else rows_of t n) (ne_eqb n k ne)))

pub insert_other : (t : Kept) (k : ℕ) (r : SlotRow) (n : ℕ) → n ≢ k → get (insert t k r) n ≡ get t n
insert_other t k r n ne = get-put t k r n ∙ ap (λ b. cond b (Some r) (get t n)) (ne_eqb n k ne)

pub insert_same : (t : Kept) (k : ℕ) (r : SlotRow) → get (insert t k r) k ≡ Some r
insert_same t k r = get-put t k r k ∙ ap (λ b. cond b (Some r) (get t k)) (eq-eqb k k refl)

-- what all tests for N show of a row in which nobody waits
pub blank_is : (r : SlotRow) → r.queue ≡ [] → ((c : ℕ) → mode_of r.modes c ≡ mode.N) → row_of r ≡ blank_row
blank_is r none all i = record { modes = fun_ext all i; queue = none i }

module _ (t u : Kept) (k : ℕ) (r : SlotRow) where
  pub set_kept : u ≡ insert t k r → (row_of r ≡ blank_row → ⊥) → IsSet t u k (row_of r)
  set_kept e some = record {
    here = ap (λ y. rows_of y k) e ∙ ap row_there (insert_same t k r);
    others = λ n ne. ap (λ y. get y n) e ∙ insert_other t k r n ne;
    used = λ s at. let same : Some s ≡ Some r = sym at ∙ ap (λ y. get y k) e ∙ insert_same t k r in let is : s ≡ r = cc in subst (λ x. row_of x ≡ blank_row → ⊥) (sym is) some;
  }

-- the row of a slot is taken out, if what it becomes is blank
pub set_blank : (t u : Kept) (k : ℕ) (row : Row) → u ≡ remove t k → row ≡ blank_row → IsSet t u k row
set_blank t u k row e blank = record {
  here = ap (λ y. rows_of y k) e ∙ ap row_there gone ∙ sym blank;
  others = λ n ne. ap (λ y. get y n) e ∙ get-gone t k n ∙ ap (λ b. cond b None (get t n)) (ne_eqb n k ne);
  used = λ s at. absurd (let bad : Some s ≡ None = sym at ∙ ap (λ y. get y k) e ∙ gone in cc);
}
  where
    gone : get (remove t k) k ≡ None
    gone = get-gone t k k ∙ ap (λ b. cond b None (get t k)) (eq-eqb k k refl)

-- one row is set after another
pub both_set : (t v u : Kept) (i : ℕ) (a : Row) (j : ℕ) (b : Row) → i ≢ j → IsSet t v i a → IsSet v u j b → AreSet t u i a j b
both_set t v u i a j b apart x y = record {
  first = ap row_there (y.others i apart) ∙ x.here;
  second = y.here;
  others = λ n ni nj. y.others n nj ∙ x.others n ni;
  used = λ n r which e. eq_cases n j
      (λ f. y.used r (ap (get u) (sym f) ∙ e))
      (λ nj. x.used r (ap (get v) (sym (⊎_elim (λ (f : n ≡ i). f) (λ (f : n ≡ j). absurd (nj f)) which)) ∙ sym (y.others n nj) ∙ e));
}

-- two rows are set, after only the second was changed
pub both_after : (t v u : Kept) (i : ℕ) (a : Row) (j : ℕ) (b : Row) → ((n : ℕ) → n ≢ j → get v n ≡ get t n) → AreSet v u i a j b → AreSet t u i a j b
both_after t v u i a j b same h = record {
  first = h.first;
  second = h.second;
  others = λ n ni nj. h.others n ni nj ∙ same n nj;
  used = h.used;
}

-- one row is taken out, and another set
pub gone_set : (t v w u : Kept) (i j : ℕ) (b : Row) → i ≢ j → v ≡ remove t i → ((n : ℕ) → n ≢ j → get w n ≡ get v n) → IsSet w u j b → AreSet t u i blank_row j b
gone_set t v w u i j b apart e same h = record {
  first = ap row_there gone;
  second = h.here;
  others = λ n ni nj. h.others n nj ∙ same n nj ∙ ap (λ y. get y n) e ∙ get-gone t i n ∙ ap (λ x. cond x None (get t n)) (ne_eqb n i ni);
  used = λ n r which f. ⊎_elim
      (λ (g : n ≡ i). absurd (let bad : Some r ≡ None = sym f ∙ ap (get u) g ∙ gone in cc))
      (λ (g : n ≡ j). h.used r (ap (get u) (sym g) ∙ f)) which;
}
  where
    gone : get u i ≡ None
    gone = h.others i apart ∙ same i apart ∙ ap (λ y. get y i) e ∙ get-gone t i i ∙ ap (λ x. cond x None (get t i)) (eq-eqb i i refl)

-- what is there is not None
pub there_not : (o : Option SlotRow) → IsSome o → o ≡ None → ⊥
there_not None h e = absurd (cc)
there_not (Some r) h e = absurd (cc)

-- two rows that are set, by other words for them
pub both_as : (t u : Kept) (i : ℕ) (a a' : Row) (j : ℕ) (b b' : Row) → a ≡ a' → b ≡ b' → AreSet t u i a j b → AreSet t u i a' j b'
both_as t u i a a' j b b' e f h = record { first = h.first ∙ e; second = h.second ∙ f; others = h.others; used = h.used }

-- what two rows that are set mean
pub both_rows : (t u : Kept) (i : ℕ) (a : Row) (j : ℕ) (b : Row) → i ≢ j → AreSet t u i a j b → (n : ℕ) → rows_of u n ≡ set_row (set_row (rows_of t) j b) i a n
both_rows t u i a j b apart h n = eq_cases n i
    (λ e. ap (rows_of u) e ∙ h.first ∙ sym (ap (λ x. if x then a else set_row (rows_of t) j b n) (eq-eqb n i e)))
    (λ ni. eq_cases n j
    (λ e. ap (rows_of u) e ∙ h.second ∙ sym (ap (λ x. if x then a else set_row (rows_of t) j b n) (ne_eqb n i ni) ∙ ap (λ x. if x then b else rows_of t n) (eq-eqb n j e)))
    (λ nj. ap row_there (h.others n ni nj) ∙ sym (ap (λ x. if x then a else set_row (rows_of t) j b n) (ne_eqb n i ni) ∙ ap (λ x. if x then b else rows_of t n) (ne_eqb n j nj))))

-- what holds of both, and of the others
pub by_two : (t u : Kept) (i : ℕ) (a : Row) (j : ℕ) (b : Row) → AreSet t u i a j b → (P : Row → Type 0) → P a → P b → ((n : ℕ) → P (rows_of t n)) → (n : ℕ) → P (rows_of u n)
by_two t u i a j b h P x y rest n = eq_cases n i
    (λ e. subst P (sym (ap (rows_of u) e ∙ h.first)) x)
    (λ ni. eq_cases n j
    (λ e. subst P (sym (ap (rows_of u) e ∙ h.second)) y)
    (λ nj. subst P (sym (ap row_there (h.others n ni nj))) (rest n)))

-- and a client that waited in one of the two waits in one of them
pub goes_two : (t u : Kept) (i : ℕ) (a : Row) (j : ℕ) (b : Row) → AreSet t u i a j b → (w : Waiter) → (In w (rows_of t i).queue → In w a.queue ⊎ In w b.queue) → (In w (rows_of t j).queue → In w a.queue ⊎ In w b.queue) → (n : ℕ) → In w (rows_of t n).queue → (k : ℕ) × In w (rows_of u k).queue
goes_two t u i a j b h w x y n = eq_cases n i
    (λ e at. there (x (subst (λ k. In w (rows_of t k).queue) e at)))
    (λ ni. eq_cases n j
    (λ e at. there (y (subst (λ k. In w (rows_of t k).queue) e at)))
    (λ nj at. (n, subst (λ (r : Row). In w r.queue) (sym (ap row_there (h.others n ni nj))) at)))
  where
    there : In w a.queue ⊎ In w b.queue → (k : ℕ) × In w (rows_of u k).queue
    there (inl at) = (i, subst (λ (r : Row). In w r.queue) (sym h.first) at)
    there (inr at) = (j, subst (λ (r : Row). In w r.queue) (sym h.second) at)

-- if at most one client's mode is another, the queue is as it was
pub queue_stays : (b : Bool) (row : Row) (c : ℕ) (g : Mode) → (if b then with_mode row c g else row).queue ≡ row.queue
queue_stays true row c g = refl
queue_stays false row c g = refl

-- Keys of any map

pub insert_at : {X : Type 0} (m : FinMap nat_cmp X) (k : ℕ) (v : X) → get (insert m k v) k ≡ Some v
insert_at m k v = get-insert nat_cmp_total m k v k ∙ ap (λ b. cond b (Some v) (get m k)) (unsigned_tied k k ∙ eq-eqb k k refl)

pub insert_past : {X : Type 0} (m : FinMap nat_cmp X) (k : ℕ) (v : X) (n : ℕ) → n ≢ k → get (insert m k v) n ≡ get m n
insert_past m k v n ne = get-insert nat_cmp_total m k v n ∙ ap (λ b. cond b (Some v) (get m n)) (unsigned_tied n k ∙ ne_eqb n k ne)

pub remove_at : {X : Type 0} (m : FinMap nat_cmp X) (k : ℕ) → get (remove m k) k ≡ None
remove_at m k = get-remove nat_cmp_total m k k ∙ ap (λ b. cond b None (get m k)) (unsigned_tied k k ∙ eq-eqb k k refl)

pub remove_past : {X : Type 0} (m : FinMap nat_cmp X) (k n : ℕ) → n ≢ k → get (remove m k) n ≡ get m n
remove_past m k n ne = get-remove nat_cmp_total m k n ∙ ap (λ b. cond b None (get m n)) (unsigned_tied n k ∙ ne_eqb n k ne)
