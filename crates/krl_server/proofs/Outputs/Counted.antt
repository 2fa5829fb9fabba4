-- Few wait, and so few are answered and few are called back.
use Rattle.krl_server.proofs.Names.{◌≡◌, ℕ, zero, suc, ◌+◌, ◌≤◌, ◌<◌, Bool, true, false, Option, Some, None, List, [], ◌∷◌, ◌++◌, map, length, inl, inr, refl, sym, ap, subst, ◌∙◌, ⊎_elim, arith}
use Rattle.krl_server.proofs.Names.{nat_eq, eq-eqb, ne_eqb, cases_lt, none-some, is_some, AllByRecursion, nat_cmp, find, END, Value, In, Waiter, first_of, eq_cases, Index, slots}
use Rattle.krl_server.proofs.Names.{Rows, one, times, times_more, none_times, max_clients, IsPlaced, IsTable, waiting_on, AreApart, Rises, find_here, From, from_above, find_past, keys_of_map_rise}
use Rattle.std.specs.FinMap as map

-- Slots stand once in their list

pub keys_under : (es : List (ℕ × Value)) → Rises es → ((k : ℕ) → END ≤ k → find nat_cmp k es ≡ None) → AllByRecursion (λ e. e.0 < END) es
keys_under [] h near = tt
keys_under (e ∷ es) h near =
    let under : e.0 < END = ⊎_elim (λ (a : e.0 < END). a) (λ (a : END ≤ e.0). absurd (none-some e.1 (sym (near e.0 a) ∙ find_here e es))) (cases_lt e.0 END) in
    (under, keys_under es h.1 (λ k a. sym (find_past k e es (λ f. omega (arith, f, under, a))) ∙ near k a))

pub above_all : (k : ℕ) (es : List (ℕ × Value)) (j : ℕ) → From k es → k ≤ END → In j (map (λ e. e.0) es ++ END ∷ []) → k ≤ j
above_all k [] j h le (inl e) = omega (arith, e, le)
above_all k [] j h le (inr e) = absurd e
above_all k (x ∷ es) j h le (inl e) = omega (arith, e, h.0)
above_all k (x ∷ es) j h le (inr at) = above_all k es j h.1 le at

apart : (es : List (ℕ × Value)) → Rises es → AllByRecursion (λ e. e.0 < END) es → AreApart (map (λ e. e.0) es ++ END ∷ [])
apart [] h under = ((λ at. at), tt)
apart (e ∷ es) h under = ((λ at. let le = above_all (suc e.0) es e.0 (from_above e.0 es h.0) (let u = under.0 in omega (arith, u)) at in omega (arith, le)), apart es h.1 under.1)

pub slots_apart : (m : Index) → ((q : ℕ) → END ≤ q → map.get m q ≡ None) → AreApart (slots m)
slots_apart m near =
    let rising = keys_of_map_rise m in
    apart (map.entries m) rising (keys_under (map.entries m) rising (λ k a. sym (map.get-entries m k) ∙ near k a))

-- Waiters, by client

-- how often the client waits on some slots
abbrev pub times_on : Rows → ℕ → List ℕ → ℕ
times_on rows c [] = 0
times_on rows c (n ∷ ns) = times c (rows n).queue + times_on rows c ns

-- the sum of f below n
abbrev pub sum_below : ℕ → (ℕ → ℕ) → ℕ
sum_below zero f = 0
sum_below (suc n) f = f n + sum_below n f

pub sum_zero : (n : ℕ) → sum_below n (λ c. 0) ≡ 0
sum_zero zero = refl
sum_zero (suc n) = let ih = sum_zero n in omega (arith, ih)

pub sum_add : (n : ℕ) (f g : ℕ → ℕ) → sum_below n (λ c. f c + g c) ≡ sum_below n f + sum_below n g
sum_add zero f g = refl
sum_add (suc n) f g = let ih = sum_add n f g in omega (arith, ih)

sum_same : (n : ℕ) (f g : ℕ → ℕ) → ((c : ℕ) → c < n → f c ≡ g c) → sum_below n f ≡ sum_below n g
sum_same zero f g h = refl
sum_same (suc n) f g h = let x = h n (omega arith) in let ih = sum_same n f g (λ c lt. h c (omega (arith, lt))) in omega (arith, x, ih)

pub sum_ones : (n : ℕ) (f : ℕ → ℕ) → ((c : ℕ) → f c ≤ 1) → sum_below n f ≤ n
sum_ones zero f h = omega arith
sum_ones (suc n) f h = let x = h n in let ih = sum_ones n f h in omega (arith, x, ih)

-- one client among n
pub sum_one : (n d : ℕ) → d < n → sum_below n (λ c. one (nat_eq c d)) ≡ 1
sum_one zero d lt = absurd (omega (arith, lt))
sum_one (suc n) d lt = eq_cases n d
    (λ e. let here = ap one (eq-eqb n d e) in
    let rest = sum_same n (λ c. one (nat_eq c d)) (λ c. 0) (λ c l. ap one (ne_eqb c d (λ f. omega (arith, e, f, l)))) in
    let none = sum_zero n in omega (arith, here, rest, none))
    (λ ne. let here = ap one (ne_eqb n d ne) in let ih = sum_one n d (omega (arith, ne, lt)) in omega (arith, here, ih))

-- numbers below n that stand once are no more than n
abbrev pub often : ℕ → List ℕ → ℕ
often c [] = 0
often c (d ∷ ds) = one (nat_eq c d) + often c ds

numbers_are : (n : ℕ) (ds : List ℕ) → ((d : ℕ) → In d ds → d < n) → length ds ≡ sum_below n (λ c. often c ds)
numbers_are n [] h = sym (sum_zero n)
numbers_are n (d ∷ ds) h =
    let ih = numbers_are n ds (λ e at. h e (inr at)) in
    let add = sum_add n (λ c. one (nat_eq c d)) (λ c. often c ds) in
    let one = sum_one n d (h d (inl refl)) in
    omega (arith, ih, add, one)

never : (c : ℕ) (ds : List ℕ) → (In c ds → ⊥) → often c ds ≡ 0
never c [] h = refl
never c (d ∷ ds) h = let x = ap one (ne_eqb c d (λ e. h (inl e))) in let ih = never c ds (λ at. h (inr at)) in omega (arith, x, ih)

as_one_low : (b : Bool) → one b ≤ 1
as_one_low true = omega arith
as_one_low false = omega arith

once_each : (c : ℕ) (ds : List ℕ) → AreApart ds → often c ds ≤ 1
once_each c [] h = omega arith
once_each c (d ∷ ds) h = eq_cases c d
    (λ e. let low = as_one_low (nat_eq c d) in let rest = never c ds (λ at. h.0 (subst (λ x. In x ds) e at)) in omega (arith, low, rest))
    (λ ne. let x = ap one (ne_eqb c d ne) in let ih = once_each c ds h.1 in omega (arith, x, ih))

pub few_apart : (n : ℕ) (ds : List ℕ) → AreApart ds → ((d : ℕ) → In d ds → d < n) → length ds ≤ n
few_apart n ds apart h = let is = numbers_are n ds h in let ones = sum_ones n (λ c. often c ds) (λ c. once_each c ds apart) in omega (arith, is, ones)

-- each waiter is some client's
queue_is : (n : ℕ) (us : List Waiter) → AllByRecursion (λ u. u.client < n) us → length us ≡ sum_below n (λ c. times c us)
queue_is n [] h = sym (sum_zero n)
queue_is n (u ∷ us) h =
    let ih = queue_is n us h.1 in
    let split = sum_same n (λ c. times c (u ∷ us)) (λ c. one (nat_eq c u.client) + times c us) (λ c lt. times_more c u us) in
    let add = sum_add n (λ c. one (nat_eq c u.client)) (λ c. times c us) in
    let one = sum_one n u.client h.0 in
    omega (arith, ih, split, add, one)

pub slots_are : (rows : Rows) (n : ℕ) (ns : List ℕ) → ((k : ℕ) → AllByRecursion (λ u. u.client < n) (rows k).queue) → waiting_on rows ns ≡ sum_below n (λ c. times_on rows c ns)
slots_are rows n [] h = sym (sum_zero n)
slots_are rows n (k ∷ ns) h =
    let ih = slots_are rows n ns h in
    let here = queue_is n (rows k).queue (h k) in
    let add = sum_add n (λ c. times c (rows k).queue) (λ c. times_on rows c ns) in
    omega (arith, ih, here, add)

-- a client that waits in a queue is found there
found : (c : ℕ) (us : List Waiter) → 1 ≤ times c us → is_some (first_of c us) ≡ true
found c us le = by_first (first_of c us) refl
  where
    by_first : (o : Option Waiter) → first_of c us ≡ o → is_some o ≡ true
    by_first None e = absurd (let none = none_times c us e in omega (arith, none, le))
    by_first (Some u) e = refl

pub none_on : (rows : Rows) (c : ℕ) (ns : List ℕ) → ((k : ℕ) → In k ns → times c (rows k).queue ≡ 0) → times_on rows c ns ≡ 0
none_on rows c [] h = refl
none_on rows c (n ∷ ns) h = let x = h n (inl refl) in let ih = none_on rows c ns (λ k at. h k (inr at)) in omega (arith, x, ih)

module _ (m : Index) (rows : Rows) (table : IsTable m rows) where
  times_once : (c n : ℕ) → times c (rows n).queue ≤ 1
  times_once c n = table.once n c

  -- a client waits on at most one of the slots
  pub once_on : (c : ℕ) (ns : List ℕ) → AreApart ns → times_on rows c ns ≤ 1
  once_on c [] h = omega arith
  once_on c (n ∷ ns) h = ⊎_elim
      (λ (lt : times c (rows n).queue < 1). let ih = once_on c ns h.1 in omega (arith, ih, lt))
      (λ (le : 1 ≤ times c (rows n).queue).
      let here = times_once c n in
      let rest = none_on rows c ns (λ k at. none_times c (rows k).queue (table.nowhere_else n k c (λ e. h.0 (subst (λ x. In x ns) (sym e) at)) (found c (rows n).queue le))) in
      omega (arith, here, rest))
      (cases_lt (times c (rows n).queue) 1)

  pub clients_of : (n : ℕ) (us : List Waiter) → AllByRecursion (IsPlaced m n) us → AllByRecursion (λ u. u.client < max_clients) us
  clients_of n [] h = tt
  clients_of n (u ∷ us) h = (h.0.0, clients_of n us h.1)

  -- no more wait than there are clients
  pub few_wait : (ns : List ℕ) → AreApart ns → waiting_on rows ns ≤ max_clients
  few_wait ns h =
      let is = slots_are rows max_clients ns (λ k. clients_of k (rows k).queue (table.placed k)) in
      let ones = sum_ones max_clients (λ c. times_on rows c ns) (λ c. once_on c ns h) in
      omega (arith, is, ones)
