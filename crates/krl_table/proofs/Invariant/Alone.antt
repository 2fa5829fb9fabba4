-- How often a client waits: in one queue, and in two.
use Rattle.krl_table.proofs.Names.{◌≡◌, ◌≢◌, ℕ, suc, ◌+◌, ◌≤◌, Bool, true, false, not, Some, None, List, [], ◌∷◌, ◌++◌, refl, sym, ap, subst, ◌∙◌, cond, inl, inr, arith, nat_eq, nat_tests}
use Rattle.krl_table.proofs.Names.{sum_by-cons, sum_by-append, nat_le, nat_lt, if◌then◌else◌, filter, In, Waiter, first_of, up_to, beyond, Row, queue_with, times}
use Rattle.krl_table.proofs.Rows.RowChanges.{eq_cases}

-- one or none
abbrev pub one : Bool → ℕ
one b = cond b 1 0

pub times_more : (c : ℕ) (u : Waiter) (us : List Waiter) → times c (u ∷ us) ≡ one (nat_eq c u.client) + times c us
times_more c u us = sum_by-cons (λ u. cond (nat_eq c u.client) 1 0) u us

pub times_both : (c : ℕ) (us vs : List Waiter) → times c (us ++ vs) ≡ times c us + times c vs
times_both c us vs = sum_by-append (λ u. cond (nat_eq c u.client) 1 0) us vs

-- a filter leaves no more
pub times_fewer : (c : ℕ) (f : Waiter → Bool) (us : List Waiter) → times c (filter f us) ≤ times c us
times_fewer c f [] = omega arith
times_fewer c f (u ∷ us) = by_test (f u) (times_fewer c f us)
  where
    by_test : (b : Bool) → times c (filter f us) ≤ times c us → times c (if b then u ∷ filter f us else filter f us) ≤ times c (u ∷ us)
    by_test true ih = omega (arith, ih, times_more c u us, times_more c u (filter f us))
    by_test false ih = omega (arith, ih, times_more c u us)

-- parted at a point
pub times_parted : (c k : ℕ) (us : List Waiter) → times c (up_to k us) + times c (beyond k us) ≡ times c us
times_parted c k [] = omega arith
times_parted c k (u ∷ us) = by_test (nat_le u.point k) (nat_lt k u.point) (grind (arith, nat_tests)) (times_parted c k us)
  where
    by_test : (a b : Bool) → b ≡ not a → times c (up_to k us) + times c (beyond k us) ≡ times c us → times c (if a then u ∷ up_to k us else up_to k us) + times c (if b then u ∷ beyond k us else beyond k us) ≡ times c (u ∷ us)
    by_test true true e ih = absurd (cc)
    by_test true false e ih = omega (arith, ih, times_more c u us, times_more c u (up_to k us))
    by_test false true e ih = omega (arith, ih, times_more c u us, times_more c u (beyond k us))
    by_test false false e ih = absurd (cc)

pub one_same : (a b : ℕ) → nat_eq a b ≡ nat_eq b a
one_same a b = grind (arith, nat_tests)

-- a client that doesn't wait there stands there no time
pub none_times : (c : ℕ) (us : List Waiter) → first_of c us ≡ None → times c us ≡ 0
none_times c [] e = omega arith
none_times c (u ∷ us) e = by_test (nat_eq u.client c) refl (none_times c us) e
  where
    by_test : (b : Bool) → nat_eq u.client c ≡ b → (first_of c us ≡ None → times c us ≡ 0) → (if b then Some u else first_of c us) ≡ None → times c (u ∷ us) ≡ 0
    by_test true f ih g = absurd (cc)
    by_test false f ih g = let none = ap one (one_same c u.client ∙ f) in omega (arith, times_more c u us, ih g, none)

pub times_none : (c : ℕ) (us : List Waiter) → times c us ≡ 0 → first_of c us ≡ None
times_none c [] e = refl
times_none c (u ∷ us) e = by_test (nat_eq u.client c) refl (times_none c us)
  where
    by_test : (b : Bool) → nat_eq u.client c ≡ b → (times c us ≡ 0 → first_of c us ≡ None) → (if b then Some u else first_of c us) ≡ None
    by_test true f ih = let is = ap one (one_same c u.client ∙ f) in absurd (omega (arith, times_more c u us, e, is))
    by_test false f ih = ih (omega (arith, times_more c u us, e))

-- one waiter more
pub times_with : (row : Row) (u : Waiter) (c : ℕ) → times c (queue_with row u) ≡ one (nat_eq c u.client) + times c row.queue
times_with row u c = by_held (Rattle.krl_modes.specs.Modes.at_most (row.modes u.client) Rattle.krl_modes.specs.declared.mode.Mode.TheVariants.N)
  where
    by_held : (b : Bool) → times c (if b then row.queue ++ (u ∷ []) else u ∷ row.queue) ≡ one (nat_eq c u.client) + times c row.queue
    by_held true = omega (arith, times_both c row.queue (u ∷ []), times_more c u [])
    by_held false = times_more c u row.queue

-- In two queues

-- of two numbered places never both
abbrev pub AreAlone : (ℕ → ℕ) → Type 0
AreAlone t = (i j : ℕ) → i ≢ j → t i + t j ≤ 1

pub alone_here : (t : ℕ → ℕ) → AreAlone t → (i : ℕ) → t i ≤ 1
alone_here t h i = let x = h i (suc i) (λ e. omega (arith, e)) in omega (arith, x)

pub alone_fewer : (t t' : ℕ → ℕ) → AreAlone t → ((j : ℕ) → t' j ≤ t j) → AreAlone t'
alone_fewer t t' h less i j ne = let x = h i j ne in let a = less i in let b = less j in omega (arith, x, a, b)

-- from no place to one
pub alone_new : (t t' : ℕ → ℕ) (n : ℕ) → ((j : ℕ) → t j ≡ 0) → t' n ≤ suc (t n) → ((j : ℕ) → j ≢ n → t' j ≤ t j) → AreAlone t'
alone_new t t' n free here less i j ne = eq_cases i n
    (λ e. let x = subst (λ y. t' y ≤ suc (t y)) (sym e) here in let a = free i in let b = free j in let c = less j (λ f. ne (e ∙ sym f)) in omega (arith, x, a, b, c))
    (λ ni. let c = less i ni in let a = free i in let b = free j in eq_cases j n
    (λ e. let x = subst (λ y. t' y ≤ suc (t y)) (sym e) here in omega (arith, x, a, b, c))
    (λ nj. let d = less j nj in omega (arith, a, b, c, d)))

-- between two places
pub alone_moved : (t t' : ℕ → ℕ) (n k : ℕ) → n ≢ k → AreAlone t → t' n + t' k ≤ t n + t k → ((j : ℕ) → j ≢ n → j ≢ k → t' j ≤ t j) → AreAlone t'
alone_moved t t' n k apart h sum less i j ne = eq_cases i n
    (λ e. subst (λ y. t' y + t' j ≤ 1) (sym e) (at_n j (λ f. ne (e ∙ sym f))))
    (λ ni. eq_cases i k
    (λ e. subst (λ y. t' y + t' j ≤ 1) (sym e) (at_k j (λ f. ne (e ∙ sym f))))
    (λ nk. let a = less i ni nk in eq_cases j n
    (λ e. let x = at_n i (λ f. ni f) in subst (λ y. t' i + t' y ≤ 1) (sym e) (omega (arith, x)))
    (λ nj. eq_cases j k
    (λ e. let x = at_k i (λ f. nk f) in subst (λ y. t' i + t' y ≤ 1) (sym e) (omega (arith, x)))
    (λ mj. let b = less j nj mj in let x = h i j ne in omega (arith, a, b, x)))))
  where
    at_n : (j : ℕ) → j ≢ n → t' n + t' j ≤ 1
    at_n j nj = let x = h n k apart in eq_cases j k
        (λ e. subst (λ y. t' n + t' y ≤ 1) (sym e) (omega (arith, sum, x)))
        (λ nk. let a = less j nj nk in let y = h n j (λ f. nj (sym f)) in let z = h k j (λ f. nk (sym f)) in omega (arith, sum, x, a, y, z))

    at_k : (j : ℕ) → j ≢ k → t' k + t' j ≤ 1
    at_k j nk = let x = h n k apart in eq_cases j n
        (λ e. subst (λ y. t' k + t' y ≤ 1) (sym e) (omega (arith, sum, x)))
        (λ nj. let a = less j nj nk in let y = h n j (λ f. nj (sym f)) in let z = h k j (λ f. nk (sym f)) in omega (arith, sum, x, a, y, z))

-- a waiter that stands there is counted
pub in_times : (us : List Waiter) (u : Waiter) → In u us → 1 ≤ times u.client us
in_times [] u at = absurd at
in_times (v ∷ vs) u (inl e) = let one_is : one (nat_eq u.client v.client) ≡ 1 = ap one (Rattle.std.proofs.Common.eq-eqb u.client v.client (ap (λ w. w.client) e)) in omega (arith, times_more u.client v vs, one_is)
in_times (v ∷ vs) u (inr at) = let x = in_times vs u at in omega (arith, times_more u.client v vs, x)
