-- A walk over the kept rows, in the order of their slots.
use Rattle.krl_table.proofs.Names.{◌≡◌, ◌≢◌, ℕ, ◌≤◌, ◌<◌, ◌+◌, Bool, true, false, ◌&&◌, [], Option, Some, None, IsSome, refl, sym, ap, subst, ◌∙◌, arith, ⊎_elim, cases_lt, nat_tests, fun_ext, get}
use Rattle.krl_table.proofs.Names.{Mode, meet, SlotRow, Row, blank_row, set_mode, Extent, Kept, row_of, row_there, rows_of, IsSet, IsAll, lowered_between, cleared_row, cleared_within, with_mode}
use Rattle.std.specs.Prelude.{nat_lt, nat_le, nat_eq, if◌then◌else◌}
use Rattle.krl_modes.specs.declared.mode.Mode.TheVariants as mode
use Rattle.krl_blocks.specs.ReservedMaps.{IsNextKey}
use Rattle.krl_table.proofs.Rows.RowChanges.{eq_cases}

-- the rows below the point are changed, and the others are as they were
pub record IsWalked (f : ℕ → Row → Row) (old new : Kept) (at : ℕ) : Type 0 where
  pub done : (n : ℕ) → n < at → rows_of new n ≡ f n (rows_of old n)
  pub rest : (n : ℕ) → at ≤ n → get new n ≡ get old n
  pub kept : (n : ℕ) → IsSome (get new n) → IsSome (get old n)
  pub used : (n : ℕ) (r : SlotRow) → get new n ≡ Some r → row_of r ≢ blank_row

some_is : (o : Option SlotRow) → (o ≡ None → ⊥) → IsSome o
some_is None h = absurd (h refl)
some_is (Some r) h = refl

-- no row is kept blank
abbrev pub AreUsed : Kept → Type 0
AreUsed t = (n : ℕ) (r : SlotRow) → get t n ≡ Some r → row_of r ≢ blank_row

module _ (f : ℕ → Row → Row) (old : Kept) where
  pub none_walked : (at : ℕ) → AreUsed old → ((n : ℕ) → n < at → f n (rows_of old n) ≡ rows_of old n) → IsWalked f old old at
  none_walked at used same = record { done = λ n lt. sym (same n lt); rest = λ n le. refl; kept = λ n h. h; used = used }

  module _ (keeps : (n : ℕ) → f n blank_row ≡ blank_row) (new : Kept) (at : ℕ) (w : IsWalked f old new at) where
    -- where no row is kept from the point on, nothing is changed
    none_left : (n : ℕ) → at ≤ n → get new n ≡ None → rows_of new n ≡ f n (rows_of old n)
    none_left n le e = ap row_there e ∙ sym (keeps n) ∙ ap (f n) (sym (ap row_there (sym (w.rest n le) ∙ e)))

    pub walk_step : (u : Kept) (s : ℕ) → IsNextKey new at s → IsSet new u s (f s (rows_of new s)) → IsWalked f old u (s + 1)
    walk_step u s next set = record {
      done = λ n lt. eq_cases n s
          (λ e. subst (λ k. rows_of u k ≡ f k (rows_of old k)) (sym e) (set.here ∙ ap (f s) (ap row_there (w.rest s next.above))))
          (λ ne. ap row_there (set.others n ne) ∙ ⊎_elim (λ (a : n < at). w.done n a) (λ (a : at ≤ n). none_left n a (next.least n a (omega (arith, lt, ne)))) (cases_lt n at));
      rest = λ n le. set.others n (λ e. omega (arith, e, le)) ∙ w.rest n (let a = next.above in omega (arith, le, a));
      kept = λ n h. eq_cases n s
          (λ e. subst (λ k. IsSome (get old k)) (sym e) (subst IsSome (w.rest s next.above) next.there))
          (λ ne. w.kept n (subst IsSome (set.others n ne) h));
      used = λ n r e. eq_cases n s
          (λ g. set.used r (ap (get u) (sym g) ∙ e))
          (λ ne. w.used n r (sym (set.others n ne) ∙ e));
    }

    -- no row is left
    pub walk_ends : ((n : ℕ) → at ≤ n → get new n ≡ None) → IsAll f old new
    walk_ends none = record {
      rows = λ n. ⊎_elim (λ (a : n < at). w.done n a) (λ (a : at ≤ n). none_left n a (none n a)) (cases_lt n at);
      kept = w.kept;
      used = w.used;
    }

    -- the rows that are left stay
    pub walk_stops : (s : ℕ) → IsNextKey new at s → ((n : ℕ) (row : Row) → s ≤ n → f n row ≡ row) → IsAll f old new
    walk_stops s next same = record {
      rows = λ n. ⊎_elim (λ (a : n < at). w.done n a)
          (λ (a : at ≤ n). ⊎_elim (λ (b : n < s). none_left n a (next.least n a b)) (λ (b : s ≤ n). ap row_there (w.rest n a) ∙ sym (same n (rows_of old n) b)) (cases_lt n s)) (cases_lt n at);
      kept = w.kept;
      used = w.used;
    }

-- Lower

blank_set : (c : ℕ) (g : Mode) → g ≡ mode.N → with_mode blank_row c g ≡ blank_row
blank_set c g e = λ i. record { modes = fun_ext (λ (d : ℕ). by_test (nat_eq d c)) i; queue = [] }
  where
    by_test : (b : Bool) → (if b then g else mode.N) ≡ mode.N
    by_test true = e
    by_test false = refl

pub meet_n : (keep : Mode) → meet mode.N keep ≡ mode.N
meet_n keep = grind arith

pub lower_keeps : (from hi c : ℕ) (keep : Mode) (n : ℕ) → lowered_between from hi c keep n blank_row ≡ blank_row
lower_keeps from hi c keep n = by_test (nat_le from n && nat_lt n hi)
  where
    by_test : (b : Bool) → (if b then with_mode blank_row c (meet mode.N keep) else blank_row) ≡ blank_row
    by_test true = blank_set c (meet mode.N keep) (meet_n keep)
    by_test false = refl

pub lower_before : (from hi c : ℕ) (keep : Mode) (n : ℕ) (row : Row) → n < from → lowered_between from hi c keep n row ≡ row
lower_before from hi c keep n row lt = let test : nat_le from n ≡ false = grind (arith, nat_tests) in
    ap (λ b. if b && nat_lt n hi then with_mode row c (meet (row.modes c) keep) else row) test

pub lower_past : (from hi c : ℕ) (keep : Mode) (n : ℕ) (row : Row) → hi ≤ n → lowered_between from hi c keep n row ≡ row
lower_past from hi c keep n row le = let test : nat_lt n hi ≡ false = grind (arith, nat_tests) in
    ap (λ (b : Bool). if b then with_mode row c (meet (row.modes c) keep) else row) (and_no (nat_le from n) (nat_lt n hi) test)
  where
    and_no : (a b : Bool) → b ≡ false → (a && b) ≡ false
    and_no true b e = e
    and_no false b e = refl

pub lower_here : (from hi c : ℕ) (keep : Mode) (n : ℕ) (row : Row) → from ≤ n → n < hi → lowered_between from hi c keep n row ≡ with_mode row c (meet (row.modes c) keep)
lower_here from hi c keep n row le lt = let a : nat_le from n ≡ true = grind (arith, nat_tests) in let b : nat_lt n hi ≡ true = grind (arith, nat_tests) in
    (λ i. if a i && b i then with_mode row c (meet (row.modes c) keep) else row)

-- Clear

pub clear_keeps : (c : ℕ) → (let row : Row = record { modes = set_mode (λ d. mode.N) c mode.N; queue = [] } in row) ≡ blank_row
clear_keeps c = λ i. record { modes = fun_ext (λ (d : ℕ). by_test (nat_eq d c)) i; queue = [] }
  where
    by_test : (b : Bool) → (if b then mode.N else mode.N) ≡ mode.N
    by_test true = refl
    by_test false = refl

pub clears_keep : (e : Extent) (c n : ℕ) → cleared_within e c n blank_row ≡ blank_row
clears_keep e c n = by_test (nat_le e.first n && nat_le n e.last)
  where
    by_test : (b : Bool) → (if b then cleared_row c blank_row else blank_row) ≡ blank_row
    by_test true = clear_keeps c
    by_test false = refl

pub clears_before : (e : Extent) (c n : ℕ) (row : Row) → n < e.first → cleared_within e c n row ≡ row
clears_before e c n row lt = let test : nat_le e.first n ≡ false = grind (arith, nat_tests) in ap (λ b. if b && nat_le n e.last then cleared_row c row else row) test

pub clears_past : (e : Extent) (c n : ℕ) (row : Row) → e.last < n → cleared_within e c n row ≡ row
clears_past e c n row lt = let test : nat_le n e.last ≡ false = grind (arith, nat_tests) in
    ap (λ (b : Bool). if b then cleared_row c row else row) (and_no (nat_le e.first n) (nat_le n e.last) test)
  where
    and_no : (a b : Bool) → b ≡ false → (a && b) ≡ false
    and_no true b e = e
    and_no false b e = refl

pub clears_here : (e : Extent) (c n : ℕ) (row : Row) → e.first ≤ n → n ≤ e.last → cleared_within e c n row ≡ cleared_row c row
clears_here e c n row a b = let x : nat_le e.first n ≡ true = grind (arith, nat_tests) in let y : nat_le n e.last ≡ true = grind (arith, nat_tests) in
    (λ i. if x i && y i then cleared_row c row else row)
