-- What holds of every table, in a form that is easy to keep; and what keeps it.
use Rattle.krl_server.proofs.Names.{◌≡◌, ◌≢◌, ℕ, zero, suc, ◌+◌, ◌≤◌, ◌<◌, Bool, true, false, ◌||◌, ◌&&◌, Some, None, List, [], ◌∷◌, ◌++◌, inl, inr, map, refl, sym, ap, subst, ◌∙◌, ⊎_elim, cond}
use Rattle.krl_server.proofs.Names.{arith, nat_eq, ne_eqb, cases_lt, nat_tests, is_some, AllByRecursion, list_all, list_any, nat_cmp, eq_by_cmp, find, END, Mode, compatible, Value, In, in_to_all}
use Rattle.krl_server.proofs.Names.{Waiter, first_of, eq_cases, Index, slots, is_slot, Rows, blank_row, max_clients, mode_at, is_compatible_there, IsPlaced, IsTable, times, AreCompatible}
use Rattle.krl_server.proofs.Names.{none_times, times_none, AreAlone, alone_here, none_compatible, or_true, all_below_at}
use Rattle.std.specs.FinMap as fin
use Rattle.krl_modes.specs.declared.mode.Mode.TheVariants as mode
use Rattle.krl_modes.proofs.Basics.{None-if_not_some, not_both}

-- Slots

end_in : (es : List (ℕ × Value)) → In END (map (λ e. e.0) es ++ END ∷ [])
end_in [] = inl refl
end_in (e ∷ es) = inr (end_in es)

keys_in : (es : List (ℕ × Value)) (n : ℕ) → find nat_cmp n es ≢ None → In n (map (λ e. e.0) es ++ END ∷ [])
keys_in [] n some = absurd (some refl)
keys_in (e ∷ es) n some = eq_cases n e.0 (λ f. inl f)
    (λ ne. let apart : eq_by_cmp nat_cmp n e.0 ≡ false = grind (arith, nat_tests) in inr (keys_in es n (λ none. some (ap (λ b. cond b (Some e.1) (find nat_cmp n es)) apart ∙ none))))

-- a slot stands in the list of all slots
pub slots_have : (m : Index) (n : ℕ) → is_slot m n ≡ true → In n (slots m)
slots_have m n e = eq_cases n END (λ f. subst (λ x. In x (slots m)) (sym f) (end_in (fin.entries m)))
    (λ ne. keys_in (fin.entries m) n (λ none. not_both (is_slot m n) e (ap (λ b. b || is_some (fin.get m n)) (ne_eqb n END ne) ∙ ap is_some (fin.get-entries m n ∙ none))))

pub all_in : (p : ℕ → Bool) (ns : List ℕ) (n : ℕ) → list_all p ns ≡ true → In n ns → p n ≡ true
all_in p [] n e at = absurd at
all_in p (x ∷ xs) n e at = by_test (p x) refl e (all_in p xs n) at
  where
    by_test : (b : Bool) → p x ≡ b → (b && list_all p xs) ≡ true → (list_all p xs ≡ true → In n xs → p n ≡ true) → In n (x ∷ xs) → p n ≡ true
    by_test true f g ih (inl h) = ap p h ∙ f
    by_test true f g ih (inr h) = ih g h
    by_test false f g ih h = absurd (cc)

pub any_in : (p : ℕ → Bool) (ns : List ℕ) (n : ℕ) → list_any p ns ≡ false → In n ns → p n ≡ false
any_in p [] n e at = absurd at
any_in p (x ∷ xs) n e at = by_test (p x) refl e (any_in p xs n) at
  where
    by_test : (b : Bool) → p x ≡ b → (b || list_any p xs) ≡ false → (list_any p xs ≡ false → In n xs → p n ≡ false) → In n (x ∷ xs) → p n ≡ false
    by_test true f g ih h = absurd (cc)
    by_test false f g ih (inl h) = ap p h ∙ f
    by_test false f g ih (inr h) = ih g h

-- Modes

pub same_compatible : (old new : ℕ → Mode) → ((d : ℕ) → new d ≡ old d) → AreCompatible old → AreCompatible new
same_compatible old new same h c d ne = subst (λ x. compatible x (new d) ≡ true) (sym (same c)) (subst (λ x. compatible (old c) x ≡ true) (sym (same d)) (h c d ne))

-- a compatible mode for one client leaves all compatible
pub compatible_row : (rows : Rows) (n c : ℕ) (g : Mode) → ((d : ℕ) → max_clients ≤ d → mode_at rows n d ≡ mode.N) → is_compatible_there rows n c g ≡ true → (d : ℕ) → d ≢ c → compatible g (mode_at rows n d) ≡ true
compatible_row rows n c g strangers e d ne = ⊎_elim
    (λ (lt : d < max_clients). or_true (nat_eq d c) (compatible g (mode_at rows n d)) (all_below_at max_clients (λ x. nat_eq x c || compatible g (mode_at rows n x)) d e lt) (ne_eqb d c ne))
    (λ (ge : max_clients ≤ d). subst (λ x. compatible g x ≡ true) (sym (strangers d ge)) (none_compatible g))
    (cases_lt d max_clients)

-- Tables

pub record IsKept (m : Index) (rows : Rows) : Type 0 where
  pub blank : (n : ℕ) → is_slot m n ≡ false → rows n ≡ blank_row
  pub strangers : (n c : ℕ) → max_clients ≤ c → mode_at rows n c ≡ mode.N
  pub beside : (n : ℕ) → AreCompatible (rows n).modes
  pub placed : (n : ℕ) (u : Waiter) → In u (rows n).queue → IsPlaced m n u
  pub alone : (c : ℕ) → AreAlone (λ n. times c (rows n).queue)

all_to_in : (P : Waiter → Type 0) (us : List Waiter) → AllByRecursion P us → (u : Waiter) → In u us → P u
all_to_in P [] h u at = absurd at
all_to_in P (v ∷ vs) h u (inl e) = subst P (sym e) h.0
all_to_in P (v ∷ vs) h u (inr at) = all_to_in P vs h.1 u at

pub kept_of : (m : Index) (rows : Rows) → IsTable m rows → IsKept m rows
kept_of m rows t = record {
  blank = t.blank;
  strangers = t.strangers;
  beside = t.beside;
  placed = λ n. all_to_in (IsPlaced m n) (rows n).queue (t.placed n);
  alone = λ c i j ne. by_first c i j ne (is_some (first_of c (rows i).queue)) refl;
}
  where
    by_first : (c i j : ℕ) → i ≢ j → (b : Bool) → is_some (first_of c (rows i).queue) ≡ b → times c (rows i).queue + times c (rows j).queue ≤ 1
    by_first c i j ne true e = let x = none_times c (rows j).queue (t.nowhere_else i j c ne e) in let y = t.once i c in omega (arith, x, y)
    by_first c i j ne false e = let x = none_times c (rows i).queue (None-if_not_some (first_of c (rows i).queue) e) in let y = t.once j c in omega (arith, x, y)

some_times : (c : ℕ) (us : List Waiter) → is_some (first_of c us) ≡ true → times c us ≡ 0 → ⊥
some_times c us e f = not_both (is_some (first_of c us)) e (ap is_some (times_none c us f))

pub table_of : (m : Index) (rows : Rows) → IsKept m rows → IsTable m rows
table_of m rows k = record {
  blank = k.blank;
  strangers = k.strangers;
  beside = k.beside;
  placed = λ n. in_to_all (IsPlaced m n) (rows n).queue (k.placed n);
  once = λ n c. alone_here (λ i. times c (rows i).queue) (k.alone c) n;
  nowhere_else = λ i j c ne e. times_none c (rows j).queue (zero_there c i j ne e);
}
  where
    zero_there : (c i j : ℕ) → i ≢ j → is_some (first_of c (rows i).queue) ≡ true → times c (rows j).queue ≡ 0
    zero_there c i j ne e = let x = k.alone c i j ne in by_zero (times c (rows i).queue) refl x
      where
        by_zero : (t : ℕ) → times c (rows i).queue ≡ t → times c (rows i).queue + times c (rows j).queue ≤ 1 → times c (rows j).queue ≡ 0
        by_zero zero f x = absurd (some_times c (rows i).queue e f)
        by_zero (suc t) f x = omega (arith, f, x)

-- on a slot that somebody waits at, or holds a mode at, the row is not blank
pub slot_waits : (m : Index) (rows : Rows) → IsKept m rows → (n : ℕ) (u : Waiter) → In u (rows n).queue → is_slot m n ≡ true
slot_waits m rows k n u at = by_slot (is_slot m n) refl
  where
    by_slot : (b : Bool) → is_slot m n ≡ b → b ≡ true
    by_slot true e = refl
    by_slot false e = absurd (subst (λ r. In u r.queue) (k.blank n e) at)

-- before anyone holds anything, whatever the index
pub blank_kept : (m : Index) → IsKept m (λ n. blank_row)
blank_kept m = record { blank = λ n e. refl; strangers = λ n c ge. refl; beside = λ n c d ne. refl; placed = λ n u at. absurd at; alone = λ c i j ne. omega arith }
