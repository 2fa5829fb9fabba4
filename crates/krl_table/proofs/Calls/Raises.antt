-- A client's mode on one slot rises to what a waiter wants; and so on slot after slot.
use Rattle.krl_table.proofs.Names.{◌≡◌, ℕ, zero, suc, ◌-◌, ◌≤◌, ◌<◌, Bool, true, false, ◌&&◌, ◌||◌, List, [], ◌∷◌, ◌++◌, Option, Some, None, IfSome, length, refl, sym, ap, subst, ◌∙◌, append_assoc}
use Rattle.krl_table.proofs.Names.{arith, fun_ext, END, Mode, compatible, Waiter, Index, slot_of, is_slot, Row, Rows, blank_row, front_of, max_clients, is_compatible_in_row, with_mode}
use Rattle.krl_table.proofs.Names.{wanted, raised, raised_on, granted_first, is_wanted_compatible, is_open_to, goes_on, reached_after, reached_by, granted_by, Kept, rows_of, IsSet, IsOver}
use Rattle.krl_table.proofs.Names.{IsSound, AreListed}
use Rattle.std.specs.Prelude.{nat_eq, nat_lt, if◌then◌else◌}
use Rattle.krl_modes.specs.declared.mode.Mode.TheVariants as mode
use Rattle.krl_table.proofs.Rows.Below.{below_true, clients_are}
use Rattle.krl_table.proofs.Calls.Reaches.{reached_raised}
use Rattle.krl_table.proofs.Invariant.Compatible.{none_compatible, set_compatible, compatible_row}
use Rattle.krl_table.proofs.Invariant.Sounds.{set_strangers, modes_sound, same_queue, fewer_over, listed_same}

-- if nobody holds anything, anything can stand
pub blank_is_compatible : (c : ℕ) (g : Mode) → is_compatible_in_row blank_row c g ≡ true
blank_is_compatible c g = below_true max_clients (λ d. nat_eq d c || compatible g mode.N) (λ d. ap (λ b. nat_eq d c || b) (none_compatible g) ∙ or_yes (nat_eq d c))
  where
    or_yes : (b : Bool) → (b || true) ≡ true
    or_yes true = refl
    or_yes false = refl

module _ (t u : Kept) (k : ℕ) (w : Waiter) (sound : IsSound t) (client : w.client < 64) (s : IsSet t u k (with_mode (rows_of t k) w.client (wanted (rows_of t k) w))) where
  abbrev row : Row
  row = with_mode (rows_of t k) w.client (wanted (rows_of t k) w)

  pub raised_sound : k ≤ END → is_wanted_compatible (rows_of t) k w ≡ true → IsSound u
  raised_sound le is_compatible_there = modes_sound t u k row s refl sound le
      (set_strangers (rows_of t k).modes w.client (wanted (rows_of t k) w) client (sound.strangers k))
      (set_compatible (rows_of t k).modes w.client (wanted (rows_of t k) w) (sound.beside k)
      (compatible_row (rows_of t k) w.client (wanted (rows_of t k) w) (λ d lt. sound.strangers k d (let many = clients_are in omega (arith, lt, many))) is_compatible_there))

  pub raised_listed : (waiting : List (Option Waiter)) → AreListed waiting t → AreListed waiting u
  raised_listed waiting l = listed_same waiting t u (same_queue t u k row s refl) l

  pub raised_over : (m : Index) → IsOver m t → is_slot m k ≡ true → IsOver m u
  raised_over m over slot = fewer_over t u k row s m over slot (λ v at. at)

-- A grant that continues

nothing_more : (m : Index) (rows : Rows) (n : ℕ) (w : Waiter) (k : ℕ) → goes_on m rows n w ≡ false → reached_after m rows n w k ≡ []
nothing_more m rows n w zero e = refl
nothing_more m rows n w (suc k) e = ap (λ b. if b then slot_of m (suc n) ∷ reached_after m rows (slot_of m (suc n)) w k else []) e

one_more : (m : Index) (rows : Rows) (n : ℕ) (w : Waiter) (k : ℕ) → goes_on m rows n w ≡ true → reached_after m rows n w (suc k) ≡ slot_of m (suc n) ∷ reached_after m (raised rows (slot_of m (suc n)) w) (slot_of m (suc n)) w k
one_more m rows n w k e =
    ap (λ b. if b then slot_of m (suc n) ∷ reached_after m rows (slot_of m (suc n)) w k else []) e
    ∙ ap (λ ns. slot_of m (suc n) ∷ ns) (reached_raised m w rows (slot_of m (suc n)) k)

-- where the grant stands: these rows, the last slot, and how many are noted; what is left of it leads to one end
pub record IsGoing (r : ℕ) (m : Index) (first : Kept) (slot : ℕ) (w : Waiter) (noted : List ℕ) (t : Kept) (at : ℕ) (now : List ℕ) : Type 0 where
  pub over : IsOver m t
  pub rows : raised_on (rows_of first) (reached_after m (rows_of first) slot w (r - length noted)) w ≡ raised_on (rows_of t) (reached_after m (rows_of t) at w (r - length now)) w
  pub reached : noted ++ reached_after m (rows_of first) slot w (r - length noted) ≡ now ++ reached_after m (rows_of t) at w (r - length now)

pub begins : (r : ℕ) (m : Index) (t : Kept) (slot : ℕ) (w : Waiter) (noted : List ℕ) → IsOver m t → IsGoing r m t slot w noted t slot noted
begins r m t slot w noted over = record { over = over; rows = refl; reached = refl }

module _ (r : ℕ) (m : Index) (first : Kept) (slot : ℕ) (w : Waiter) (noted : List ℕ) (t : Kept) (at : ℕ) (now : List ℕ) (going : IsGoing r m first slot w noted t at now) where
  -- nothing is left
  pub ends_rows : reached_after m (rows_of t) at w (r - length now) ≡ [] → rows_of t ≡ raised_on (rows_of first) (reached_after m (rows_of first) slot w (r - length noted)) w
  ends_rows none = sym (going.rows ∙ ap (λ ns. raised_on (rows_of t) ns w) none)

  pub ends_reached : reached_after m (rows_of t) at w (r - length now) ≡ [] → now ≡ noted ++ reached_after m (rows_of first) slot w (r - length noted)
  ends_reached none = sym (going.reached ∙ ap (λ ns. now ++ ns) none ∙ append_nil now)
    where
      append_nil : (xs : List ℕ) → xs ++ [] ≡ xs
      append_nil [] = refl
      append_nil (x ∷ xs) = ap (λ ys. x ∷ ys) (append_nil xs)

  pub full_ends : r ≤ length now → reached_after m (rows_of t) at w (r - length now) ≡ []
  full_ends e = let zero_left : r - length now ≡ 0 = omega (arith, e) in ap (λ k. reached_after m (rows_of t) at w k) zero_left

  pub test_ends : goes_on m (rows_of t) at w ≡ false → reached_after m (rows_of t) at w (r - length now) ≡ []
  test_ends stops = nothing_more m (rows_of t) at w (r - length now) stops

  -- the next slot is reached
  pub goes : (u : Kept) (next : ℕ) → length now < r → slot_of m (suc at) ≡ next → goes_on m (rows_of t) at w ≡ true → ((n : ℕ) → rows_of u n ≡ raised (rows_of t) next w n) → IsOver m u → IsGoing r m first slot w noted u next (now ++ next ∷ [])
  goes u next room slot_is on rows over = record {
    over = over;
    rows = going.rows ∙ ap (λ ns. raised_on (rows_of t) ns w) step ∙ ap (λ (q : Rows). raised_on q (reached_after m (rows_of u) next w (r - length (now ++ next ∷ []))) w) (sym is_raised);
    reached = going.reached ∙ ap (λ ns. now ++ ns) step ∙ sym (append_assoc now (next ∷ []) (reached_after m (rows_of u) next w (r - length (now ++ next ∷ []))));
  }
    where
      is_raised : rows_of u ≡ raised (rows_of t) next w
      is_raised = fun_ext rows

      longer : (xs : List ℕ) → length (xs ++ next ∷ []) ≡ suc (length xs)
      longer [] = refl
      longer (x ∷ xs) = ap (λ n. suc n) (longer xs)

      left : r - length now ≡ suc (r - length (now ++ next ∷ []))
      left = let a = longer now in omega (arith, a, room)

      step : reached_after m (rows_of t) at w (r - length now) ≡ next ∷ reached_after m (rows_of u) next w (r - length (now ++ next ∷ []))
      step = ap (λ k. reached_after m (rows_of t) at w k) left ∙ one_more m (rows_of t) at w (r - length (now ++ next ∷ [])) on
          ∙ ap (λ s. s ∷ reached_after m (raised (rows_of t) s w) s w (r - length (now ++ next ∷ []))) slot_is
          ∙ ap (λ (q : Rows). next ∷ reached_after m q next w (r - length (now ++ next ∷ []))) (sym is_raised)

-- Tests

pub no_after_end : (m : Index) (rows : Rows) (n : ℕ) (w : Waiter) → nat_lt n END ≡ false → goes_on m rows n w ≡ false
no_after_end m rows n w e = ap (λ b. b && (nat_lt (suc n) w.hi && is_open_to rows (slot_of m (suc n)) w)) e

pub no_past : (m : Index) (rows : Rows) (n : ℕ) (w : Waiter) → nat_lt (suc n) w.hi ≡ false → goes_on m rows n w ≡ false
no_past m rows n w e = ap (λ b. nat_lt n END && (b && is_open_to rows (slot_of m (suc n)) w)) e ∙ and_false (nat_lt n END)
  where
    and_false : (b : Bool) → (b && false) ≡ false
    and_false true = refl
    and_false false = refl

pub by_take : (m : Index) (rows : Rows) (n next : ℕ) (w : Waiter) (b : Bool) → nat_lt n END ≡ true → nat_lt (suc n) w.hi ≡ true → slot_of m (suc n) ≡ next → is_open_to rows next w ≡ b → goes_on m rows n w ≡ b
by_take m rows n next w b near below is e = ap (λ x. x && (nat_lt (suc n) w.hi && is_open_to rows (slot_of m (suc n)) w)) near ∙ ap (λ x. x && is_open_to rows (slot_of m (suc n)) w) below ∙ ap (λ s. is_open_to rows s w) is ∙ e

-- A grant

-- one slot is noted
pub one_noted : (r : ℕ) (old new : List ℕ) (k : ℕ) → old ≡ [] → new ≡ old ++ k ∷ [] → r - length new ≡ r - 1
one_noted r old new k e f = ap (λ l. r - length l) (f ∙ ap (λ l. l ++ k ∷ []) e)

-- the point of a number
pub unwrapped : (o : Option ℕ) (x k : ℕ) → o ≡ Some x → IfSome o (λ p. p ≡ k) → x ≡ k
unwrapped None x k e h = absurd (cc)
unwrapped (Some y) x k e h = let same : y ≡ x = cc in sym same ∙ h

module _ (r : ℕ) (m : Index) (rows : Rows) (n : ℕ) (w : Waiter) (front : front_of (rows n).queue ≡ Some w) where
  by_front : (P : List Waiter → Type 0) → ((ws : List Waiter) → P (w ∷ ws)) → (ws : List Waiter) → front_of ws ≡ Some w → P ws
  by_front P h [] e = absurd (cc)
  by_front P h (v ∷ ws) e = let same : v ≡ w = cc in subst (λ x. P (x ∷ ws)) (sym same) (h ws)

  pub granted_from : granted_by r m rows n (rows n).queue ≡ raised_on (granted_first rows n) (reached_after m (granted_first rows n) n w (r - 1)) w
  granted_from = by_front (λ ws. granted_by r m rows n ws ≡ raised_on (granted_first rows n) (reached_after m (granted_first rows n) n w (r - 1)) w) (λ ws. refl) (rows n).queue front

  pub reached_from : reached_by r m rows n (rows n).queue ≡ n ∷ reached_after m (granted_first rows n) n w (r - 1)
  reached_from = by_front (λ ws. reached_by r m rows n ws ≡ n ∷ reached_after m (granted_first rows n) n w (r - 1)) (λ ws. refl) (rows n).queue front
