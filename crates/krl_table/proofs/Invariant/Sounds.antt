-- What holds of every table, after one row is set.
use Rattle.krl_table.proofs.Names.{◌≡◌, ◌≢◌, ℕ, ◌≤◌, ◌<◌, true, false, List, Option, Some, None, IsSome, ◌⊎◌, set, refl, sym, ap, subst, ◌∙◌, ⊎_elim, arith, ne_eqb, cases_lt, length-set}
use Rattle.krl_table.proofs.Names.{get_or-set_same, get_or-set_other, is_some, if◌then◌else◌, get, END, Mode, In, in_to_all, Waiter, first_of, Index, slot_of, is_slot, SlotRow, Row, blank_row}
use Rattle.krl_table.proofs.Names.{mode_at, set_mode, Kept, row_there, rows_of, IsSet, IsOver, IsSound, AreCompatible, AreListed, times, waiter_in}
use Rattle.krl_modes.specs.declared.mode.Mode.TheVariants as mode
use Rattle.krl_table.specs.Sound.{IsPlaced, IsTable}
use Rattle.krl_table.proofs.Rows.RowChanges.{eq_cases}
use Rattle.krl_table.proofs.Rows.Below.{clients_are}
use Rattle.krl_table.proofs.Invariant.Alone.{AreAlone, alone_here, times_none, in_times}
use Rattle.krl_table.proofs.Invariant.Stands.{first_in}

pub some_none : {X : Type 0} (o : Option X) (x : X) → o ≡ Some x → o ≡ None → ⊥
some_none o x e f = let clash : Some x ≡ None = sym e ∙ f in absurd (cc)

-- if somebody waits there is a row
pub has_row : (t : Kept) (n : ℕ) (u : Waiter) → In u (rows_of t n).queue → IsSome (get t n)
has_row t n u at = by_row (get t n) at
  where
    by_row : (o : Option SlotRow) → In u (row_there o).queue → IsSome o
    by_row None h = absurd h
    by_row (Some r) h = refl

-- if somebody holds something, too
pub held_row : (t : Kept) (n c : ℕ) → (mode_at (rows_of t) n c ≡ mode.N → ⊥) → IsSome (get t n)
held_row t n c h = by_row (get t n) h
  where
    by_row : (o : Option SlotRow) → ((row_there o).modes c ≡ mode.N → ⊥) → IsSome o
    by_row None h = absurd (h refl)
    by_row (Some r) h = refl

-- a row that is kept stands at END or below
pub row_end : (t : Kept) → IsSound t → (n : ℕ) → IsSome (get t n) → n ≤ END
row_end t s n h = ⊎_elim (λ (a : END < n). absurd (let none = s.near n a in let clash = subst IsSome none h in cc)) (λ (a : n ≤ END). a) (cases_lt END n)

-- no mode but a client's
abbrev pub NoStrangers : Row → Type 0
NoStrangers row = (c : ℕ) → 64 ≤ c → row.modes c ≡ mode.N

pub set_strangers : (modes : ℕ → Mode) (c : ℕ) (g : Mode) → c < 64 → ((d : ℕ) → 64 ≤ d → modes d ≡ mode.N) → (d : ℕ) → 64 ≤ d → set_mode modes c g d ≡ mode.N
set_strangers modes c g lt h d le = ap (λ b. if b then g else modes d) (ne_eqb d c (λ e. omega (arith, e, le, lt))) ∙ h d le

module _ (t u : Kept) (k : ℕ) (row : Row) (s : IsSet t u k row) where
  pub other_row : (n : ℕ) → n ≢ k → rows_of u n ≡ rows_of t n
  other_row n ne = ap row_there (s.others n ne)

  -- what holds of the row that is set, and of the others
  pub by_slot : (P : Row → Type 0) → P row → ((n : ℕ) → P (rows_of t n)) → (n : ℕ) → P (rows_of u n)
  by_slot P here rest n = eq_cases n k
      (λ e. subst (λ j. P (rows_of u j)) (sym e) (subst P (sym s.here) here))
      (λ ne. subst P (sym (other_row n ne)) (rest n))

  pub set_sound : IsSound t → k ≤ END → NoStrangers row → AreCompatible row.modes → ((v : Waiter) → In v row.queue → v.client < 64) → ((c : ℕ) → AreAlone (λ n. times c (rows_of u n).queue)) → IsSound u
  set_sound sound le strangers beside clients alone = record {
    near = λ n lt. s.others n (λ e. omega (arith, e, lt, le)) ∙ sound.near n lt;
    used = λ n r e. eq_cases n k (λ g. s.used r (ap (get u) (sym g) ∙ e)) (λ ne. sound.used n r (sym (s.others n ne) ∙ e));
    strangers = λ n. by_slot NoStrangers strangers (λ j. sound.strangers j) n;
    beside = λ n. by_slot (λ r. AreCompatible r.modes) beside (λ j. sound.beside j) n;
    clients = λ n. by_slot (λ r. (v : Waiter) → In v r.queue → v.client < 64) clients (λ j. sound.clients j) n;
    alone = alone;
  }

  -- and its queue stays
  module _ (queue : row.queue ≡ (rows_of t k).queue) where
    pub same_queue : (n : ℕ) → (rows_of u n).queue ≡ (rows_of t n).queue
    same_queue n = eq_cases n k
        (λ e. subst (λ j. (rows_of u j).queue ≡ (rows_of t j).queue) (sym e) (ap (λ (r : Row). r.queue) s.here ∙ queue))
        (λ ne. ap (λ (r : Row). r.queue) (other_row n ne))

    pub modes_sound : IsSound t → k ≤ END → NoStrangers row → AreCompatible row.modes → IsSound u
    modes_sound sound le strangers beside = set_sound sound le strangers beside
        (λ v at. sound.clients k v (subst (In v) queue at))
        (λ c i j ne. let x = sound.alone c i j ne in let a = ap (times c) (same_queue i) in let b = ap (times c) (same_queue j) in omega (arith, x, a, b))

  -- over the same index, if nobody new waits
  pub set_over : (m : Index) → IsOver m t → is_slot m k ≡ true → ((v : Waiter) → In v row.queue → (v.point ≤ END) × (slot_of m v.point ≡ k)) → IsOver m u
  set_over m over slot placed = record {
    near = over.near;
    within = λ n h. eq_cases n k (λ e. ap (is_slot m) e ∙ slot) (λ ne. over.within n (subst IsSome (s.others n ne) h));
    points = λ n v at. eq_cases n k
        (λ e. (placed v (subst (λ (r : Row). In v r.queue) s.here (subst (λ j. In v (rows_of u j).queue) e at))).0)
        (λ ne. over.points n v (subst (λ (r : Row). In v r.queue) (other_row n ne) at));
    placed = λ n v at. eq_cases n k
        (λ e. (placed v (subst (λ (r : Row). In v r.queue) s.here (subst (λ j. In v (rows_of u j).queue) e at))).1 ∙ sym e)
        (λ ne. over.placed n v (subst (λ (r : Row). In v r.queue) (other_row n ne) at));
  }

  pub fewer_over : (m : Index) → IsOver m t → is_slot m k ≡ true → ((v : Waiter) → In v row.queue → In v (rows_of t k).queue) → IsOver m u
  fewer_over m over slot fewer = set_over m over slot (λ v at. (over.points k v (fewer v at), over.placed k v (fewer v at)))

-- Who waits, by client

pub listed_same : (waiting : List (Option Waiter)) (t u : Kept) → ((n : ℕ) → (rows_of u n).queue ≡ (rows_of t n).queue) → AreListed waiting t → AreListed waiting u
listed_same waiting t u queue l = record {
  full = l.full;
  here = λ n v at. l.here n v (subst (In v) (queue n) at);
  there = λ c v e. let x = l.there c v e in (x.0, (x.1.0, subst (In v) (sym (queue x.1.0)) x.1.1));
}

-- they stand in other queues
pub listed_moved : (waiting : List (Option Waiter)) (t u : Kept) → ((n : ℕ) (v : Waiter) → In v (rows_of u n).queue → (j : ℕ) × In v (rows_of t j).queue) → ((n : ℕ) (v : Waiter) → In v (rows_of t n).queue → (j : ℕ) × In v (rows_of u j).queue) → AreListed waiting t → AreListed waiting u
listed_moved waiting t u came goes l = record {
  full = l.full;
  here = λ n v at. let x = came n v at in l.here x.0 v x.1;
  there = λ c v e. let x = l.there c v e in (x.0, goes x.1.0 v x.1.1);
}

-- one client no longer waits
pub listed_less : (waiting : List (Option Waiter)) (t u : Kept) (c : ℕ) → c < 64 → ((n : ℕ) (v : Waiter) → In v (rows_of u n).queue → In v (rows_of t n).queue × (v.client ≢ c)) → ((n : ℕ) (v : Waiter) → In v (rows_of t n).queue → v.client ≢ c → In v (rows_of u n).queue) → AreListed waiting t → AreListed (set waiting c None) u
listed_less waiting t u c lt less stay l = record {
  full = length-set waiting c None ∙ l.full;
  here = λ n v at. let x = less n v at in get_or-set_other waiting c v.client None None x.1 ∙ l.here n v x.0;
  there = λ d v e. eq_cases d c
      (λ f. absurd (some_none (waiter_in (set waiting c None) d) v e (ap (waiter_in (set waiting c None)) f ∙ get_or-set_same waiting c None None (subst (λ x. c < x) (sym l.full) lt))))
      (λ ne. let x = l.there d v (sym (get_or-set_other waiting c d None None ne) ∙ e) in (x.0, (x.1.0, stay x.1.0 v x.1.1 (λ f. ne (sym x.0 ∙ f)))));
}

-- one client waits from now on
pub listed_more : (waiting : List (Option Waiter)) (t u : Kept) (w : Waiter) (s : ℕ) → w.client < 64 → ((n : ℕ) (v : Waiter) → In v (rows_of t n).queue → v.client ≢ w.client) → ((n : ℕ) (v : Waiter) → In v (rows_of u n).queue → (v ≡ w) ⊎ In v (rows_of t n).queue) → In w (rows_of u s).queue → ((n : ℕ) (v : Waiter) → In v (rows_of t n).queue → In v (rows_of u n).queue) → AreListed waiting t → AreListed (set waiting w.client (Some w)) u
listed_more waiting t u w s lt free more at_s stay l = record {
  full = length-set waiting w.client (Some w) ∙ l.full;
  here = λ n v at. ⊎_elim
      (λ (e : v ≡ w). ap (λ y. waiter_in (set waiting w.client (Some w)) y.client) e ∙ get_or-set_same waiting w.client (Some w) None (subst (λ x. w.client < x) (sym l.full) lt) ∙ ap (λ y. Some y) (sym e))
      (λ (x : In v (rows_of t n).queue). get_or-set_other waiting w.client v.client (Some w) None (free n v x) ∙ l.here n v x)
      (more n v at);
  there = λ d v e. eq_cases d w.client
      (λ f. let is : w ≡ v = let both : Some w ≡ Some v = sym (get_or-set_same waiting w.client (Some w) None (subst (λ x. w.client < x) (sym l.full) lt)) ∙ ap (waiter_in (set waiting w.client (Some w))) (sym f) ∙ e in cc in
      (ap (λ y. y.client) (sym is) ∙ sym f, (s, subst (λ y. In y (rows_of u s).queue) is at_s)))
      (λ ne. let x = l.there d v (sym (get_or-set_other waiting w.client d (Some w) None ne) ∙ e) in (x.0, (x.1.0, stay x.1.0 v x.1.1)));
}

-- two waiters of one client are one, in one queue
pub one_queue : (t : Kept) → IsSound t → (i j : ℕ) (u v : Waiter) → In u (rows_of t i).queue → In v (rows_of t j).queue → u.client ≡ v.client → i ≡ j
one_queue t s i j u v a b e = eq_cases i j (λ f. f)
    (λ ne. absurd (let x = s.alone u.client i j ne in let y = in_times (rows_of t i).queue u a in let z = subst (λ c. 1 ≤ times c (rows_of t j).queue) (sym e) (in_times (rows_of t j).queue v b) in omega (arith, x, y, z)))

-- For an index

pub sound_table : (m : Index) (t : Kept) → IsOver m t → IsSound t → IsTable m (rows_of t)
sound_table m t over s = record {
  blank = λ n e. no_row n (get t n) refl e;
  strangers = λ n c le. s.strangers n c (let many = clients_are in omega (arith, le, many));
  beside = λ n. s.beside n;
  placed = λ n. in_to_all (IsPlaced m n) (rows_of t n).queue (λ u at. let x = s.clients n u at in (let many = clients_are in omega (arith, x, many), over.points n u at, over.placed n u at));
  once = λ n c. alone_here (λ i. times c (rows_of t i).queue) (s.alone c) n;
  nowhere_else = λ n k c ne e. times_none c (rows_of t k).queue (none_there c n k ne (first_of c (rows_of t n).queue) refl e);
}
  where
    no_row : (n : ℕ) (o : Option SlotRow) → get t n ≡ o → is_slot m n ≡ false → row_there (get t n) ≡ blank_row
    no_row n None f e = ap row_there f
    no_row n (Some r) f e = absurd (let here = over.within n (subst IsSome (sym f) refl) in let bad : true ≡ false = sym here ∙ e in cc)

    none_there : (c n k : ℕ) → n ≢ k → (o : Option Waiter) → first_of c (rows_of t n).queue ≡ o → is_some o ≡ true → times c (rows_of t k).queue ≡ 0
    none_there c n k ne None e f = absurd (cc)
    none_there c n k ne (Some u) e f = let x = first_in c (rows_of t n).queue u e in let y = s.alone c n k ne in let z = subst (λ d. 1 ≤ times d (rows_of t n).queue) x.1 (in_times (rows_of t n).queue u x.0) in omega (arith, y, z)
