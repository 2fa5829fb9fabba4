-- There is room for all that a step sends.
use Rattle.krl_server.proofs.Names.{◌≡◌, ℕ, zero, suc, ◌+◌, ◌≤◌, ◌<◌, Bool, true, false, ◌||◌, Some, List, [], ◌∷◌, ◌⊎◌, inl, inr, refl, sym, ap, subst, ◌∙◌, ⊎_elim, arith, nat_eq}
use Rattle.krl_server.proofs.Names.{eqb-true, is_some, if◌then◌else◌, list_any, ToServer, In, Waiter, first_of, eq_cases, Index, slots, is_slot, Rows, max_clients, waits, IsTable, Server}
use Rattle.krl_server.proofs.Names.{none_times, Case, effect, IsSound, waiting, count_below, waiting_clients}
use Rattle.krl_table.proofs.Rows.Waiters.{some_first}
use Rattle.krl_server.proofs.Invariant.Tabled.{slots_have, any_in}
use Rattle.krl_modes.proofs.Basics.{None-if_not_some, not_both}
use Rattle.krl_server.proofs.Outputs.Counted.{sum_below, slots_are, none_on, once_on, clients_of, slots_apart, times_on}
use Rattle.krl_server.proofs.Invariant.WaitersAfter.{asks, IsAsked, Came}

-- Waiters of a client

first_in : (c : ℕ) (us : List Waiter) → is_some (first_of c us) ≡ true → (u : Waiter) × In u us × (u.client ≡ c)
first_in c [] e = absurd (cc)
first_in c (u ∷ us) e = by_eq (nat_eq u.client c) refl e (first_in c us)
  where
    by_eq : (b : Bool) → nat_eq u.client c ≡ b → is_some (if b then Some u else first_of c us) ≡ true → (is_some (first_of c us) ≡ true → (v : Waiter) × In v us × (v.client ≡ c)) → (v : Waiter) × In v (u ∷ us) × (v.client ≡ c)
    by_eq true f g ih = (u, inl refl, eqb-true u.client c f)
    by_eq false f g ih = let x = ih g in (x.0, inr x.1, x.2)

any_some : (p : ℕ → Bool) (ns : List ℕ) → list_any p ns ≡ true → (n : ℕ) × In n ns × (p n ≡ true)
any_some p [] e = absurd (cc)
any_some p (n ∷ ns) e = by_test (p n) refl e (any_some p ns)
  where
    by_test : (b : Bool) → p n ≡ b → (b || list_any p ns) ≡ true → (list_any p ns ≡ true → (k : ℕ) × In k ns × (p k ≡ true)) → (k : ℕ) × In k (n ∷ ns) × (p k ≡ true)
    by_test true f g ih = (n, inl refl, f)
    by_test false f g ih = let x = ih g in (x.0, inr x.1, x.2)

some_any : (p : ℕ → Bool) (ns : List ℕ) (n : ℕ) → In n ns → p n ≡ true → list_any p ns ≡ true
some_any p [] n at e = absurd at
some_any p (k ∷ ks) n (inl f) e = ap (λ b. b || list_any p ks) (ap p (sym f) ∙ e)
some_any p (k ∷ ks) n (inr at) e = by_test (p k) (some_any p ks n at e)
  where
    by_test : (b : Bool) → list_any p ks ≡ true → (b || list_any p ks) ≡ true
    by_test true ih = refl
    by_test false ih = ih

-- a client that stands in a queue waits
pub in_waits : (m : Index) (rows : Rows) (n : ℕ) (u : Waiter) → IsTable m rows → In u (rows n).queue → waits m rows u.client ≡ true
in_waits m rows n u table at = some_any (λ n. is_some (first_of u.client (rows n).queue)) (slots m) n (slots_have m n (by_slot (is_slot m n) refl)) (some_first u.client (rows n).queue u at refl)
  where
    by_slot : (b : Bool) → is_slot m n ≡ b → is_slot m n ≡ true
    by_slot true e = e
    by_slot false e = absurd (subst (λ r. In u r.queue) (table.blank n e) at)

-- and the other way round
pub waits_in : (m : Index) (rows : Rows) (c : ℕ) → waits m rows c ≡ true → (n : ℕ) × (u : Waiter) × In u (rows n).queue × (u.client ≡ c)
waits_in m rows c e = let x = any_some (λ n. is_some (first_of c (rows n).queue)) (slots m) e in let y = first_in c (rows x.0).queue x.2 in (x.0, y.0, y.1, y.2)

-- Counting

one_of : Bool → ℕ
one_of b = if b then 1 else 0

count_fewer : (n : ℕ) (f g : ℕ → Bool) → ((c : ℕ) → f c ≡ true → g c ≡ true) → count_below n f ≤ count_below n g
count_fewer zero f g h = omega arith
count_fewer (suc n) f g h = let ih = count_fewer n f g h in by_tests (f n) (g n) (h n) ih
  where
    by_tests : (a b : Bool) → (a ≡ true → b ≡ true) → count_below n f ≤ count_below n g → (if a then 1 else 0) + count_below n f ≤ (if b then 1 else 0) + count_below n g
    by_tests true true e ih = omega (arith, ih)
    by_tests true false e ih = let x = e refl in absurd (cc)
    by_tests false true e ih = omega (arith, ih)
    by_tests false false e ih = omega (arith, ih)

-- one more at the most
count_one_more : (n : ℕ) (f g : ℕ → Bool) (d : ℕ) → ((c : ℕ) → f c ≡ true → (g c ≡ true) ⊎ (c ≡ d)) → count_below n f ≤ suc (count_below n g)
count_one_more zero f g d h = omega arith
count_one_more (suc n) f g d h = eq_cases n d
    (λ e. let rest = count_less n f g (λ c lt a. ⊎_elim (λ (x : g c ≡ true). x) (λ (x : c ≡ d). absurd (omega (arith, x, e, lt))) (h c a)) in by_tests (f n) (g n) rest)
    (λ ne. let ih = count_one_more n f g d h in by_both (f n) (g n) (λ a. ⊎_elim (λ (x : g n ≡ true). x) (λ (x : n ≡ d). absurd (ne x)) (h n a)) ih)
  where
    count_less : (n : ℕ) (f g : ℕ → Bool) → ((c : ℕ) → c < n → f c ≡ true → g c ≡ true) → count_below n f ≤ count_below n g
    count_less zero f g h = omega arith
    count_less (suc n) f g h = by_two (f n) (g n) (h n (omega arith)) (count_less n f g (λ c lt. h c (omega (arith, lt))))
      where
        by_two : (a b : Bool) → (a ≡ true → b ≡ true) → count_below n f ≤ count_below n g → (if a then 1 else 0) + count_below n f ≤ (if b then 1 else 0) + count_below n g
        by_two true true e ih = omega (arith, ih)
        by_two true false e ih = let x = e refl in absurd (cc)
        by_two false true e ih = omega (arith, ih)
        by_two false false e ih = omega (arith, ih)

    by_tests : (a b : Bool) → count_below n f ≤ count_below n g → (if a then 1 else 0) + count_below n f ≤ suc ((if b then 1 else 0) + count_below n g)
    by_tests true true ih = omega (arith, ih)
    by_tests true false ih = omega (arith, ih)
    by_tests false true ih = omega (arith, ih)
    by_tests false false ih = omega (arith, ih)

    by_both : (a b : Bool) → (a ≡ true → b ≡ true) → count_below n f ≤ suc (count_below n g) → (if a then 1 else 0) + count_below n f ≤ suc ((if b then 1 else 0) + count_below n g)
    by_both true true e ih = omega (arith, ih)
    by_both true false e ih = let x = e refl in absurd (cc)
    by_both false true e ih = omega (arith, ih)
    by_both false false e ih = omega (arith, ih)

sum_count : (n : ℕ) (f : ℕ → ℕ) (g : ℕ → Bool) → ((c : ℕ) → f c ≤ 1) → ((c : ℕ) → g c ≡ false → f c ≡ 0) → sum_below n f ≤ count_below n g
sum_count zero f g low none = omega arith
sum_count (suc n) f g low none = by_test (g n) refl (sum_count n f g low none) (low n)
  where
    by_test : (b : Bool) → g n ≡ b → sum_below n f ≤ count_below n g → f n ≤ 1 → f n + sum_below n f ≤ (if b then 1 else 0) + count_below n g
    by_test true e ih le = omega (arith, ih, le)
    by_test false e ih le = let x = none n e in omega (arith, ih, x)

-- no more wait than clients that do
pub few_waiting : (s : Server) → IsSound s → IsTable s.durable.index s.rows → waiting s ≤ waiting_clients s
few_waiting s sound table =
    let m = s.durable.index in
    let is = slots_are s.rows max_clients (slots m) (λ k. clients_of m s.rows table k (s.rows k).queue (table.placed k)) in
    let few = sum_count max_clients (λ c. times_on s.rows c (slots m)) (waits m s.rows)
    (λ c. once_on m s.rows table c (slots m) (slots_apart m sound.near))
    (λ c e. none_on s.rows c (slots m) (λ k at. none_times c (s.rows k).queue (None-if_not_some (first_of c (s.rows k).queue) (any_in (λ n. is_some (first_of c (s.rows n).queue)) (slots m) k e at)))) in
    omega (arith, is, few)

-- A case brings at most the waiter that it takes
module _ (s : Server) (m : ToServer) (k : Case) (came : Came s m k) (old : IsTable s.durable.index s.rows) where
  now_waits : (c : ℕ) → waits (effect s m k).server.durable.index (effect s m k).server.rows c ≡ true → (waits s.durable.index s.rows c ≡ true) ⊎ ((asks k ≡ true) × (c ≡ m.client))
  now_waits c e =
      let t = (effect s m k).server in
      let x = waits_in t.durable.index t.rows c e in
      ⊎_elim (λ (y : (j : ℕ) × In x.1 (s.rows j).queue). inl (subst (λ d. waits s.durable.index s.rows d ≡ true) x.3 (in_waits s.durable.index s.rows y.0 x.1 old y.1)))
      (λ (y : (asks k ≡ true) × (x.1.client ≡ m.client) × IsAsked m x.1 k). inr (y.0, sym x.3 ∙ y.1)) (came x.0 x.1 x.2)

  pub no_more_clients : asks k ≡ false → waiting_clients (effect s m k).server ≤ waiting_clients s
  no_more_clients isnt = count_fewer max_clients (waits (effect s m k).server.durable.index (effect s m k).server.rows) (waits s.durable.index s.rows)
      (λ c e. ⊎_elim (λ (x : waits s.durable.index s.rows c ≡ true). x) (λ (x : (asks k ≡ true) × (c ≡ m.client)). absurd (not_both (asks k) x.0 isnt)) (now_waits c e))

  pub one_more_client : waiting_clients (effect s m k).server ≤ suc (waiting_clients s)
  one_more_client = count_one_more max_clients (waits (effect s m k).server.durable.index (effect s m k).server.rows) (waits s.durable.index s.rows) m.client
      (λ c e. ⊎_elim (λ (x : waits s.durable.index s.rows c ≡ true). inl x) (λ (x : (asks k ≡ true) × (c ≡ m.client)). inr x.1) (now_waits c e))
