-- How a client waits.
use Rattle.krl_table.proofs.Names.{◌≡◌, ℕ, Bool, true, false, cond, List, [], ◌∷◌, Option, Some, None, inl, inr, refl, sym, ap, ◌∙◌, is_some, find, In, Waiter, first_of, Index, slots, waiter_at}
use Rattle.krl_table.proofs.Names.{waiter_of, Kept, rows_of, IsOver, IsSound, AreListed, waiter_in}
use Rattle.krl_table.proofs.Invariant.Rooms.{Lists, slots_have}
use Rattle.krl_table.proofs.Invariant.Sounds.{some_none, has_row}
use Rattle.krl_table.proofs.Invariant.Stands.{first_in, none_in, first_none}

-- Waiters

find_none : (p : ℕ → Bool) (ns : List ℕ) → ((n : ℕ) → p n ≡ false) → find p ns ≡ None
find_none p [] h = refl
find_none p (n ∷ ns) h = ap (λ b. cond b (Some n) (find p ns)) (h n) ∙ find_none p ns h

find_some : (p : ℕ → Bool) (ns : List ℕ) (n : ℕ) → Lists n ns → p n ≡ true → (k : ℕ) × ((find p ns ≡ Some k) × (p k ≡ true))
find_some p [] n at e = absurd at
find_some p (x ∷ xs) n at e = by_test (p x) refl at (λ h. find_some p xs n h e)
  where
    by_test : (b : Bool) → p x ≡ b → Lists n (x ∷ xs) → (Lists n xs → (k : ℕ) × ((find p xs ≡ Some k) × (p k ≡ true))) → (k : ℕ) × ((cond b (Some x) (find p xs) ≡ Some k) × (p k ≡ true))
    by_test true f h ih = (x, (refl, f))
    by_test false f (inl g) ih = absurd (let clash : p x ≡ true = ap p (sym g) ∙ e in cc)
    by_test false f (inr h) ih = ih h

pub some_first : (c : ℕ) (us : List Waiter) (u : Waiter) → In u us → u.client ≡ c → is_some (first_of c us) ≡ true
some_first c us u at e = by_first (first_of c us) refl
  where
    by_first : (o : Option Waiter) → first_of c us ≡ o → is_some o ≡ true
    by_first None f = absurd (none_in c us f u at e)
    by_first (Some v) f = refl

module _ (t : Kept) (sound : IsSound t) (waiting : List (Option Waiter)) (l : AreListed waiting t) (c : ℕ) where
  pub none_waits : waiter_in waiting c ≡ None → (n : ℕ) → first_of c (rows_of t n).queue ≡ None
  none_waits none n = first_none c (rows_of t n).queue (λ u at e. some_none (waiter_in waiting u.client) u (l.here n u at) (ap (waiter_in waiting) e ∙ none))

  module _ (m : Index) (over : IsOver m t) where
    abbrev here : ℕ → Bool
    here n = is_some (first_of c (rows_of t n).queue)

    found : (u : Waiter) → waiter_in waiting c ≡ Some u → (k : ℕ) → find here (slots m) ≡ Some k → here k ≡ true → Some u ≡ waiter_at (rows_of t) c (find here (slots m))
    found u is k e h = by_first (first_of c (rows_of t k).queue) refl h ∙ ap (waiter_at (rows_of t) c) (sym e)
      where
        by_first : (o : Option Waiter) → first_of c (rows_of t k).queue ≡ o → is_some o ≡ true → Some u ≡ first_of c (rows_of t k).queue
        by_first None f g = absurd (cc)
        by_first (Some v) f g = let x = first_in c (rows_of t k).queue v f in sym is ∙ ap (waiter_in waiting) (sym x.1) ∙ l.here k v x.0 ∙ sym f

    pub listed_waiter : waiter_in waiting c ≡ waiter_of m (rows_of t) c
    listed_waiter = by_waiter (waiter_in waiting c) refl
      where
        by_waiter : (o : Option Waiter) → waiter_in waiting c ≡ o → o ≡ waiter_at (rows_of t) c (find here (slots m))
        by_waiter None e = sym (ap (waiter_at (rows_of t) c) (find_none here (slots m) (λ n. ap is_some (none_waits e n))))
        by_waiter (Some u) e =
            let x = l.there c u e in
            let at = slots_have m x.1.0 (over.within x.1.0 (has_row t x.1.0 u x.1.1)) in
            let k = find_some here (slots m) x.1.0 at (some_first c (rows_of t x.1.0).queue u x.1.1 x.0) in
            found u e k.0 k.1.0 k.1.1
