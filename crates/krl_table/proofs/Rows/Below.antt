-- What holds of each number below another.
use Rattle.krl_table.proofs.Names.{◌≡◌, ℕ, zero, suc, ◌+◌, ◌<◌, Bool, true, false, ◌&&◌, refl, sym, ap, subst, ◌∙◌, arith, all_below, max_clients}
use Rattle.krl_table.proofs.Rows.RowChanges.{eq_cases}
use Rattle.std.proofs.Math.Bool.{and-false}

pub below_more : (f : ℕ → Bool) (n : ℕ) → all_below n f ≡ true → f n ≡ true → all_below (n + 1) f ≡ true
below_more f n e h = let one : n + 1 ≡ suc n = omega arith in rw one (ap (λ b. b && all_below n f) h ∙ e)

pub below_true : (n : ℕ) (f : ℕ → Bool) → ((k : ℕ) → f k ≡ true) → all_below n f ≡ true
below_true zero f h = refl
below_true (suc n) f h = ap (λ b. b && all_below n f) (h n) ∙ below_true n f h

pub below_false : (f : ℕ → Bool) (m n : ℕ) → n < m → f n ≡ false → all_below m f ≡ false
below_false f zero n lt e = absurd (omega (arith, lt))
below_false f (suc m) n lt e = eq_cases n m
    (λ g. ap (λ b. b && all_below m f) (ap f (sym g) ∙ e))
    (λ ne. ap (λ b. f m && b) (below_false f m n (omega (arith, lt, ne)) e) ∙ and-false (f m))

pub clients_are : max_clients ≡ 64
unfolding max_clients
clients_are = refl

pub all_clients : (f : ℕ → Bool) (n : ℕ) → n ≡ 64 → all_below n f ≡ true → true ≡ all_below max_clients f
all_clients f n e h = subst (λ k. true ≡ all_below k f) (e ∙ sym clients_are) (sym h)

pub not_all_clients : (f : ℕ → Bool) (n : ℕ) → n < 64 → f n ≡ false → false ≡ all_below max_clients f
not_all_clients f n lt e = sym (below_false f max_clients n (subst (λ k. n < k) (sym clients_are) lt) e)
