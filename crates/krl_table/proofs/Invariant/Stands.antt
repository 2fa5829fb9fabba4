-- Who stands in a queue.
use Rattle.krl_table.proofs.Names.{◌≡◌, ◌≢◌, ℕ, Bool, true, false, not, cond, List, [], ◌∷◌, ◌++◌, Some, None, ◌⊎◌, inl, inr, refl, sym, ap, ◌∙◌, ⊎_elim, nat_eq, eqb-true, eq-eqb, ne_eqb, eqb-false}
use Rattle.krl_table.proofs.Names.{if◌then◌else◌, filter, at_most, In, in_both, in_left, in_right, Waiter, first_of, Row, unqueue, queue_with}
use Rattle.krl_modes.specs.declared.mode.Mode.TheVariants as mode

pub in_filter : (f : Waiter → Bool) (us : List Waiter) (u : Waiter) → In u (filter f us) → In u us × (f u ≡ true)
in_filter f [] u h = absurd h
in_filter f (v ∷ vs) u h = by_test (f v) refl (in_filter f vs u) h
  where
    by_test : (b : Bool) → f v ≡ b → (In u (filter f vs) → In u vs × (f u ≡ true)) → In u (cond b (v ∷ filter f vs) (filter f vs)) → In u (v ∷ vs) × (f u ≡ true)
    by_test true e ih (inl g) = (inl g, ap f g ∙ e)
    by_test true e ih (inr k) = let x = ih k in (inr x.0, x.1)
    by_test false e ih k = let x = ih k in (inr x.0, x.1)

-- and stays there
pub filter_in : (f : Waiter → Bool) (us : List Waiter) (u : Waiter) → In u us → f u ≡ true → In u (filter f us)
filter_in f [] u h e = absurd h
filter_in f (v ∷ vs) u (inl g) e = by_test (f v) (ap f (sym g) ∙ e)
  where
    by_test : (b : Bool) → b ≡ true → In u (cond b (v ∷ filter f vs) (filter f vs))
    by_test true h = inl g
    by_test false h = absurd (cc)
filter_in f (v ∷ vs) u (inr g) e = by_test (f v) (filter_in f vs u g e)
  where
    by_test : (b : Bool) → In u (filter f vs) → In u (cond b (v ∷ filter f vs) (filter f vs))
    by_test true h = inr h
    by_test false h = h

-- a queue with one waiter more
pub in_queue_with : (row : Row) (u v : Waiter) → In v (queue_with row u) → (v ≡ u) ⊎ In v row.queue
in_queue_with row u v = by_held (at_most (row.modes u.client) mode.N)
  where
    by_held : (b : Bool) → In v (if b then row.queue ++ (u ∷ []) else u ∷ row.queue) → (v ≡ u) ⊎ In v row.queue
    by_held true h = ⊎_elim (λ (a : In v row.queue). inr a) (λ (a : In v (u ∷ [])). ⊎_elim (λ (e : v ≡ u). inl e) (λ (x : ⊥). absurd x) a) (in_both row.queue (u ∷ []) v h)
    by_held false h = h

pub queue_with_in : (row : Row) (u v : Waiter) → (v ≡ u) ⊎ In v row.queue → In v (queue_with row u)
queue_with_in row u v h = by_held (at_most (row.modes u.client) mode.N)
  where
    by_held : (b : Bool) → In v (if b then row.queue ++ (u ∷ []) else u ∷ row.queue)
    by_held true = ⊎_elim (λ (e : v ≡ u). in_right row.queue (u ∷ []) v (inl e)) (λ (x : In v row.queue). in_left row.queue (u ∷ []) v x) h
    by_held false = h

-- the queue without a client's waiters
pub in_unqueue : (us : List Waiter) (c : ℕ) (u : Waiter) → In u (unqueue c us) → In u us × (u.client ≢ c)
in_unqueue us c u h = let x = in_filter (λ u. not (nat_eq c u.client)) us u h in (x.0, λ e. not_not (nat_eq c u.client) (eq-eqb c u.client (sym e)) x.1)
  where
    not_not : (b : Bool) → b ≡ true → not b ≡ true → ⊥
    not_not true e f = absurd (cc)
    not_not false e f = absurd (cc)

pub unqueue_in : (us : List Waiter) (c : ℕ) (u : Waiter) → In u us → u.client ≢ c → In u (unqueue c us)
unqueue_in us c u h ne = filter_in (λ u. not (nat_eq c u.client)) us u h (ap not (ne_eqb c u.client (λ e. ne (sym e))))

-- the first waiter of a client
pub first_in : (c : ℕ) (us : List Waiter) (u : Waiter) → first_of c us ≡ Some u → In u us × (u.client ≡ c)
first_in c [] u e = absurd (cc)
first_in c (v ∷ vs) u e = by_test (nat_eq v.client c) refl (first_in c vs u) e
  where
    by_test : (b : Bool) → nat_eq v.client c ≡ b → (first_of c vs ≡ Some u → In u vs × (u.client ≡ c)) → cond b (Some v) (first_of c vs) ≡ Some u → In u (v ∷ vs) × (u.client ≡ c)
    by_test true f ih h = let same : v ≡ u = cc in (inl (sym same), ap (λ w. w.client) (sym same) ∙ eqb-true v.client c f)
    by_test false f ih h = let x = ih h in (inr x.0, x.1)

pub none_in : (c : ℕ) (us : List Waiter) → first_of c us ≡ None → (u : Waiter) → In u us → u.client ≢ c
none_in c [] e u at = absurd at
none_in c (v ∷ vs) e u at = by_test (nat_eq v.client c) refl (λ h. none_in c vs h u) e at
  where
    by_test : (b : Bool) → nat_eq v.client c ≡ b → (first_of c vs ≡ None → In u vs → u.client ≢ c) → cond b (Some v) (first_of c vs) ≡ None → In u (v ∷ vs) → u.client ≢ c
    by_test true f ih h at = absurd (cc)
    by_test false f ih h (inl g) = λ k. eqb-false v.client c f (ap (λ w. w.client) (sym g) ∙ k)
    by_test false f ih h (inr x) = ih h x

pub first_none : (c : ℕ) (us : List Waiter) → ((u : Waiter) → In u us → u.client ≢ c) → first_of c us ≡ None
first_none c [] h = refl
first_none c (v ∷ vs) h = ap (λ b. cond b (Some v) (first_of c vs)) (ne_eqb v.client c (h v (inl refl))) ∙ first_none c vs (λ u at. h u (inr at))
