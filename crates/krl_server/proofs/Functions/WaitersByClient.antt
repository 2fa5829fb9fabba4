-- Who waits, by client.
use Rattle.std.proofs.Common.{◌≡◌, ℕ, zero, suc, ◌+◌, ◌<◌, Bool, true, false, not, ◌||◌, Some, List, [], ◌∷◌, refl, ap, ◌∙◌, subst, find, arith}
use Rattle.krl_server.proofs.Names.{nat_eq, is_some, nat_lt, if◌then◌else◌, list_any, END, ToServer, first_of, Index, slots, Rows, max_clients, waiter_at, waiter_of, waits, is_malformed}
use Rattle.krl_server.proofs.Names.{count_below}
use Rattle.std.proofs.lemmas.Bool.{ltb-true, or_parts, not-false}
use Rattle.krl_server.proofs.Outputs.Numbers.{sixty_four}

-- a client that waits has a waiter
pub waiter_waits : (m : Index) (rows : Rows) (c : ℕ) → is_some (waiter_of m rows c) ≡ waits m rows c
waiter_waits m rows c = by_slots (slots m)
  where
    by_slots : (ns : List ℕ) → is_some (waiter_at rows c (find (λ n. is_some (first_of c (rows n).queue)) ns)) ≡ list_any (λ n. is_some (first_of c (rows n).queue)) ns
    by_slots [] = refl
    by_slots (n ∷ ns) = by_test (is_some (first_of c (rows n).queue)) refl (by_slots ns)
      where
        by_test : (b : Bool) → is_some (first_of c (rows n).queue) ≡ b → is_some (waiter_at rows c (find (λ n. is_some (first_of c (rows n).queue)) ns)) ≡ list_any (λ n. is_some (first_of c (rows n).queue)) ns → is_some (waiter_at rows c (if b then Some n else find (λ n. is_some (first_of c (rows n).queue)) ns)) ≡ (b || list_any (λ n. is_some (first_of c (rows n).queue)) ns)
        by_test true e ih = e
        by_test false e ih = ih

-- if nobody waits, no client does
no_slot : (rows : Rows) (c : ℕ) → ((n : ℕ) → (rows n).queue ≡ []) → (ns : List ℕ) → list_any (λ n. is_some (first_of c (rows n).queue)) ns ≡ false
no_slot rows c none [] = refl
no_slot rows c none (n ∷ ns) = ap (λ q. is_some (first_of c q) || list_any (λ k. is_some (first_of c (rows k).queue)) ns) (none n) ∙ no_slot rows c none ns

pub none_count : (m : Index) (rows : Rows) (k : ℕ) → ((n : ℕ) → (rows n).queue ≡ []) → count_below k (waits m rows) ≡ 0
none_count m rows zero none = refl
none_count m rows (suc k) none = let ih = none_count m rows k none in ap (λ b. (if b then 1 else 0) + count_below k (waits m rows)) (no_slot rows k none (slots m)) ∙ omega (arith, ih)

-- the number of a client
pub not_malformed : (m : ToServer) → is_malformed m ≡ false → m.client < 64
not_malformed m e =
    let x = or_parts (not (nat_lt m.client max_clients)) (nat_eq m.incarnation 0 || nat_lt END m.incarnation) e in
    subst (λ k. m.client < k) sixty_four (ltb-true m.client max_clients (not-false (nat_lt m.client max_clients) x.0))
