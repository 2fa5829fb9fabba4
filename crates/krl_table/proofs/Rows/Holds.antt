-- The slots at which a client holds something, one after another.
use Rattle.krl_table.proofs.Names.{◌≡◌, ◌≢◌, ℕ, ◌+◌, ◌≤◌, ◌<◌, List, [], ◌∷◌, ◌++◌, length, None, refl, sym, ap, subst, ⊎_elim, append_assoc, length-append, arith, append-nil, cases_lt, get, mode_at}
use Rattle.krl_table.proofs.Names.{Kept, rows_of, row_there}
use Rattle.krl_modes.specs.declared.mode.Mode.TheVariants as mode
use Rattle.krl_blocks.specs.ReservedMaps.{IsNextKey}
use Rattle.krl_table.specs.Holds.{AreHeld, HoldsAt, IsNextHeld}

-- no more slots than points were counted below this one
pub record AreCounted (t : Kept) (c at count : ℕ) : Type 0 where
  pub slots : List ℕ
  pub few : length slots ≤ at
  pub number : count ≡ length slots
  pub before : (rest : List ℕ) → AreHeld (rows_of t) c at rest → AreHeld (rows_of t) c 0 (slots ++ rest)

module _ (t : Kept) (c : ℕ) where
  -- nothing is held where no row is kept
  pub none_there : (n : ℕ) → get t n ≡ None → mode_at (rows_of t) n c ≡ mode.N
  none_there n e = ap (λ o. (row_there o).modes c) e

  -- nothing is held from the one point on below the other
  abbrev pub IsFree : ℕ → ℕ → Type 0
  IsFree from at = (k : ℕ) → from ≤ k → k < at → mode_at (rows_of t) k c ≡ mode.N

  -- nor as far as the next row, if that has N
  pub free_as_far : (at s : ℕ) → IsNextKey t at s → mode_at (rows_of t) s c ≡ mode.N → IsFree at (s + 1)
  free_as_far at s next free k a b =
      ⊎_elim (λ (lt : k < s). none_there k (next.least k a lt))
      (λ (le : s ≤ k). subst (λ n. mode_at (rows_of t) n c ≡ mode.N) (let x : s ≡ k = omega (arith, b, le) in x) free)
      (cases_lt k s)

  pub free_on : (from at to : ℕ) → IsFree from at → IsFree at to → IsFree from to
  free_on from at to h g k a b = ⊎_elim (λ (lt : k < at). h k a lt) (λ (le : at ≤ k). g k le b) (cases_lt k at)

  -- the next row where something is held
  pub next_held : (from at s : ℕ) → from ≤ at → IsFree from at → IsNextKey t at s → mode_at (rows_of t) s c ≢ mode.N → IsNextHeld (rows_of t) c from s
  next_held from at s le h next held = record {
    above = let a = next.above in omega (arith, le, a);
    held = held;
    least = λ k a b. ⊎_elim (λ (lt : k < at). h k a lt) (λ (ge : at ≤ k). none_there k (next.least k ge b)) (cases_lt k at);
  }

  -- no row is left
  pub none_held : (from at : ℕ) → IsFree from at → ((n : ℕ) → at ≤ n → get t n ≡ None) → AreHeld (rows_of t) c from []
  none_held from at h none k a = ⊎_elim (λ (lt : k < at). h k a lt) (λ (ge : at ≤ k). none_there k (none k ge)) (cases_lt k at)

  pub none_counted : AreCounted t c 0 0
  none_counted = record { slots = []; few = omega arith; number = refl; before = λ rest h. h }

  module _ (at count : ℕ) (h : AreCounted t c at count) where
    pub all_counted : ((n : ℕ) → at ≤ n → get t n ≡ None) → HoldsAt (rows_of t) c count
    all_counted none = record {
      slots = h.slots;
      held = subst (AreHeld (rows_of t) c 0) (append-nil h.slots) (h.before [] (λ n le. none_there n (none n le)));
      number = h.number;
    }

    module _ (s : ℕ) (next : IsNextKey t at s) where
      pub one_counted : mode_at (rows_of t) s c ≢ mode.N → AreCounted t c (s + 1) (count + 1)
      one_counted held = record {
        slots = h.slots ++ s ∷ [];
        few = let a = h.few in let b = next.above in let l = length-append h.slots (s ∷ []) in omega (arith, a, b, l);
        number = let a = h.number in let l = length-append h.slots (s ∷ []) in omega (arith, a, l);
        before = λ rest r. subst (AreHeld (rows_of t) c 0) (sym (append_assoc h.slots (s ∷ []) rest))
            (h.before (s ∷ rest) (record { above = next.above; held = held; least = λ k a b. none_there k (next.least k a b) }, subst (λ n. AreHeld (rows_of t) c n rest) (omega arith) r));
      }

      pub none_more : mode_at (rows_of t) s c ≡ mode.N → AreCounted t c (s + 1) count
      none_more free = record {
        slots = h.slots;
        few = let a = h.few in let b = next.above in omega (arith, a, b);
        number = h.number;
        before = λ rest r. h.before rest (lower rest r);
      }
        where
          below : IsFree at (s + 1)
          below = free_as_far at s next free

          lower : (rest : List ℕ) → AreHeld (rows_of t) c (s + 1) rest → AreHeld (rows_of t) c at rest
          lower [] r = λ n a. ⊎_elim (λ (lt : n < s + 1). below n a lt) (λ (le : s + 1 ≤ n). r n le) (cases_lt n (s + 1))
          lower (k ∷ ks) r = (
            record {
              above = let a = next.above in let b = r.0.above in omega (arith, a, b);
              held = r.0.held;
              least = λ n a b. ⊎_elim (λ (lt : n < s + 1). below n a lt) (λ (le : s + 1 ≤ n). r.0.least n le b) (cases_lt n (s + 1));
            },
            r.1,
          )
