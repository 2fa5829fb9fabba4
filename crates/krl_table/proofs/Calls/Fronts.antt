-- The first waiter of a slot goes, or a waiter more comes.
use Rattle.krl_table.proofs.Names.{◌≡◌, ◌≢◌, ℕ, suc, ◌+◌, ◌≤◌, ◌<◌, Bool, true, false, List, [], ◌∷◌, Option, Some, None, IsSome, IfSome, ◌⊎◌, inl, inr, set, refl, sym, ap, subst, ◌∙◌, ⊎_elim, arith}
use Rattle.krl_table.proofs.Names.{nat_eq, eq-eqb, ne_eqb, END, In, Waiter, first_of, Index, slot_of, is_slot, Row, front_of, with_queue, queue_with, grant_first, behind_first, wanted}
use Rattle.krl_table.proofs.Names.{is_wanted_compatible, Kept, rows_of, IsSet, IsOver, IsSound, AreCompatible, AreListed, times, unlisted}
use Rattle.krl_table.proofs.Rows.RowChanges.{eq_cases}
use Rattle.krl_table.proofs.Rows.Below.{clients_are}
use Rattle.krl_table.proofs.Invariant.Alone.{one, times_more, times_with, none_times, in_times}
use Rattle.krl_table.proofs.Invariant.Compatible.{set_compatible, compatible_row}
use Rattle.krl_table.proofs.Invariant.Stands.{in_queue_with, queue_with_in, none_in}
use Rattle.krl_table.proofs.Invariant.Sounds.{NoStrangers, set_strangers, has_row, other_row, set_sound, modes_sound, same_queue, fewer_over, set_over, one_queue, listed_same, listed_less, listed_more}

-- the row of slot k is another, without its first waiter w
module _ (t u : Kept) (k : ℕ) (row : Row) (w : Waiter) (ws : List Waiter) (sound : IsSound t) (s : IsSet t u k row) (queue : (rows_of t k).queue ≡ w ∷ ws) (rest : row.queue ≡ ws) where
  first : In w (rows_of t k).queue
  first = subst (In w) (sym queue) (inl refl)

  at_k : (rows_of u k).queue ≡ ws
  at_k = ap (λ (r : Row). r.queue) s.here ∙ rest

  at_other : (n : ℕ) → n ≢ k → (rows_of u n).queue ≡ (rows_of t n).queue
  at_other n ne = ap (λ (r : Row). r.queue) (other_row t u k row s n ne)

  fewer_here : (v : Waiter) → In v row.queue → In v (rows_of t k).queue
  fewer_here v at = subst (In v) (sym queue) (inr (subst (In v) rest at))

  -- a client that waits now waited before
  before : (n : ℕ) (v : Waiter) → In v (rows_of u n).queue → In v (rows_of t n).queue
  before n v at = eq_cases n k
      (λ e. subst (λ y. In v (rows_of t y).queue) (sym e) (subst (In v) (sym queue) (inr (subst (In v) at_k (subst (λ y. In v (rows_of u y).queue) e at)))))
      (λ ne. subst (In v) (at_other n ne) at)

  fewer : (c n : ℕ) → times c (rows_of u n).queue ≤ times c (rows_of t n).queue
  fewer c n = eq_cases n k
      (λ e. subst (λ y. times c (rows_of u y).queue ≤ times c (rows_of t y).queue) (sym e) (let a = ap (times c) at_k in let b = ap (times c) queue in let d = times_more c w ws in omega (arith, a, b, d)))
      (λ ne. let a = ap (times c) (at_other n ne) in omega (arith, a))

  pub front_sound : k ≤ END → NoStrangers row → AreCompatible row.modes → IsSound u
  front_sound le strangers beside = set_sound t u k row s sound le strangers beside (λ v at. sound.clients k v (fewer_here v at))
      (λ c i j ne. let x = sound.alone c i j ne in let a = fewer c i in let b = fewer c j in omega (arith, x, a, b))

  -- nobody of that client waits any more
  gone : (n : ℕ) (v : Waiter) → In v (rows_of u n).queue → v.client ≢ w.client
  gone n v at e =
      let n_is : n ≡ k = one_queue t sound n k v w (before n v at) first e in
      let here : In v ws = subst (In v) at_k (subst (λ y. In v (rows_of u y).queue) n_is at) in
      let a = subst (λ c. 1 ≤ times c ws) e (in_times ws v here) in
      let b = times_more w.client w ws in
      let d : one (nat_eq w.client w.client) ≡ 1 = ap one (eq-eqb w.client w.client refl) in
      let f = sound.alone w.client k (suc k) (λ (g : k ≡ suc k). omega (arith, g)) in
      let q = ap (times w.client) queue in
      omega (arith, a, b, d, f, q)

  pub front_listed : (waiting : List (Option Waiter)) → AreListed waiting t → AreListed (set waiting w.client None) u
  front_listed waiting l = listed_less waiting t u w.client (sound.clients k w first)
      (λ n v at. (before n v at, gone n v at))
      (λ n v at ne. eq_cases n k
      (λ e. subst (λ y. In v (rows_of u y).queue) (sym e) (subst (In v) (sym at_k) (⊎_elim (λ (f : v ≡ w). absurd (ne (ap (λ y. y.client) f))) (λ (x : In v ws). x) (subst (In v) queue (subst (λ y. In v (rows_of t y).queue) e at)))))
      (λ nk. subst (In v) (sym (at_other n nk)) at)) l

module _ (t : Kept) (k : ℕ) (sound : IsSound t) where
  -- the first waiter is a client's
  pub front_client : IfSome (front_of (rows_of t k).queue) (λ w. w.client < 64)
  front_client = by_queue (rows_of t k).queue refl
    where
      by_queue : (ws : List Waiter) → (rows_of t k).queue ≡ ws → IfSome (front_of ws) (λ w. w.client < 64)
      by_queue [] q = tt
      by_queue (w ∷ ws) q = sound.clients k w (subst (In w) (sym q) (inl refl))

-- the list of first waiters, of whom nobody is
at_nobody : (waiting : List (Option Waiter)) (u : Kept) (first : Option Waiter) (ws : List Waiter) (x : Option Waiter) → first ≡ front_of ws → front_of ws ≡ x → AreListed (unlisted waiting x) u → AreListed (unlisted waiting first) u
at_nobody waiting u one ws x is e l = subst (λ o. AreListed (unlisted waiting o) u) (sym (is ∙ e)) l

-- Grant

module _ (t u : Kept) (k : ℕ) (sound : IsSound t) (le : k ≤ END) (s : IsSet t u k (grant_first (rows_of t k) (rows_of t k).queue)) where
  pub granted_sound : IfSome (front_of (rows_of t k).queue) (λ w. is_wanted_compatible (rows_of t) k w ≡ true) →
      IsSound u
  granted_sound is_compatible_there = by_queue (rows_of t k).queue refl s is_compatible_there
    where
      by_queue : (ws : List Waiter) → (rows_of t k).queue ≡ ws → IsSet t u k (grant_first (rows_of t k) ws) → IfSome (front_of ws) (λ w. is_wanted_compatible (rows_of t) k w ≡ true) → IsSound u
      by_queue [] q s h = modes_sound t u k (rows_of t k) s refl sound le (sound.strangers k) (sound.beside k)
      by_queue (w ∷ ws) q s h = front_sound t u k (grant_first (rows_of t k) (w ∷ ws)) w ws sound s q refl le
          (set_strangers (rows_of t k).modes w.client (wanted (rows_of t k) w) (sound.clients k w (subst (In w) (sym q) (inl refl))) (sound.strangers k))
          (set_compatible (rows_of t k).modes w.client (wanted (rows_of t k) w) (sound.beside k)
          (compatible_row (rows_of t k) w.client (wanted (rows_of t k) w) (λ d lt. sound.strangers k d (let many = clients_are in omega (arith, lt, many))) h))

  pub granted_listed : (waiting : List (Option Waiter)) (first : Option Waiter) → first ≡ front_of (rows_of t k).queue → AreListed waiting t → AreListed (unlisted waiting first) u
  granted_listed waiting first is l = by_queue (rows_of t k).queue refl s
    where
      by_queue : (ws : List Waiter) → (rows_of t k).queue ≡ ws → IsSet t u k (grant_first (rows_of t k) ws) → AreListed (unlisted waiting first) u
      by_queue [] q s = at_nobody waiting u first (rows_of t k).queue None is (ap front_of q) (listed_same waiting t u (same_queue t u k (rows_of t k) s refl) l)
      by_queue (x ∷ ws) q s = at_nobody waiting u first (rows_of t k).queue (Some x) is (ap front_of q) (front_listed t u k (grant_first (rows_of t k) (x ∷ ws)) x ws sound s q refl waiting l)

  pub granted_over : (m : Index) → IsOver m t → is_slot m k ≡ true → IsOver m u
  granted_over m over slot = fewer_over t u k (grant_first (rows_of t k) (rows_of t k).queue) s m over slot (λ v at. ⊎_elim (λ (x : In v (rows_of t k).queue). x) (λ (x : In v (rows_of t k).queue). x) (by_queue (rows_of t k).queue v at))
    where
      by_queue : (ws : List Waiter) (v : Waiter) → In v (grant_first (rows_of t k) ws).queue → In v (rows_of t k).queue ⊎ In v ws
      by_queue [] v at = inl at
      by_queue (w ∷ ws) v at = inr (inr at)

-- Drop

module _ (t u : Kept) (k : ℕ) (sound : IsSound t) (le : k ≤ END) (s : IsSet t u k (with_queue (rows_of t k) (behind_first (rows_of t k).queue))) where
  pub dropped_sound : IsSound u
  dropped_sound = by_queue (rows_of t k).queue refl s
    where
      by_queue : (ws : List Waiter) → (rows_of t k).queue ≡ ws → IsSet t u k (with_queue (rows_of t k) (behind_first ws)) → IsSound u
      by_queue [] q s = modes_sound t u k (with_queue (rows_of t k) []) s (sym q) sound le (sound.strangers k) (sound.beside k)
      by_queue (w ∷ ws) q s = front_sound t u k (with_queue (rows_of t k) ws) w ws sound s q refl le (sound.strangers k) (sound.beside k)

  pub dropped_listed : (waiting : List (Option Waiter)) (first : Option Waiter) → first ≡ front_of (rows_of t k).queue → AreListed waiting t → AreListed (unlisted waiting first) u
  dropped_listed waiting first is l = by_queue (rows_of t k).queue refl s
    where
      by_queue : (ws : List Waiter) → (rows_of t k).queue ≡ ws → IsSet t u k (with_queue (rows_of t k) (behind_first ws)) → AreListed (unlisted waiting first) u
      by_queue [] q s = at_nobody waiting u first (rows_of t k).queue None is (ap front_of q) (listed_same waiting t u (same_queue t u k (with_queue (rows_of t k) []) s (sym q)) l)
      by_queue (x ∷ ws) q s = at_nobody waiting u first (rows_of t k).queue (Some x) is (ap front_of q) (front_listed t u k (with_queue (rows_of t k) ws) x ws sound s q refl waiting l)

  pub dropped_over : (m : Index) → IsOver m t → is_slot m k ≡ true → IsOver m u
  dropped_over m over slot = fewer_over t u k (with_queue (rows_of t k) (behind_first (rows_of t k).queue)) s m over slot (λ v at. by_queue (rows_of t k).queue v at)
    where
      by_queue : (ws : List Waiter) (v : Waiter) → In v (behind_first ws) → In v ws
      by_queue [] v at = at
      by_queue (w ∷ ws) v at = inr at

-- Enqueue

module _ (t u : Kept) (k : ℕ) (w : Waiter) (sound : IsSound t) (s : IsSet t u k (with_queue (rows_of t k) (queue_with (rows_of t k) w))) (client : w.client < 64) (free : (n : ℕ) → first_of w.client (rows_of t n).queue ≡ None) where
  abbrev row : Row
  row = with_queue (rows_of t k) (queue_with (rows_of t k) w)

  queue_at : (rows_of u k).queue ≡ queue_with (rows_of t k) w
  queue_at = ap (λ (r : Row). r.queue) s.here

  queue_off : (n : ℕ) → n ≢ k → (rows_of u n).queue ≡ (rows_of t n).queue
  queue_off n ne = ap (λ (r : Row). r.queue) (other_row t u k row s n ne)

  -- it, or a waiter that waited before
  now : (n : ℕ) (v : Waiter) → In v (rows_of u n).queue → ((v ≡ w) × (n ≡ k)) ⊎ In v (rows_of t n).queue
  now n v at = eq_cases n k
      (λ f. ⊎_elim (λ (g : v ≡ w). inl (g, f)) (λ (x : In v (rows_of t k).queue). inr (subst (λ y. In v (rows_of t y).queue) (sym f) x)) (in_queue_with (rows_of t k) w v (subst (In v) queue_at (subst (λ y. In v (rows_of u y).queue) f at))))
      (λ ne. inr (subst (In v) (queue_off n ne) at))

  -- the client waits once
  more_times : (c i j : ℕ) → i ≢ j → times c (rows_of u i).queue + times c (rows_of u j).queue ≤ 1
  more_times c i j ne = eq_cases c w.client
      (λ f. by_place i j ne f)
      (λ nc. let x = sound.alone c i j ne in let a = same_times c i nc in let b = same_times c j nc in omega (arith, x, a, b))
    where
      same_times : (c n : ℕ) → c ≢ w.client → times c (rows_of u n).queue ≡ times c (rows_of t n).queue
      same_times c n nc = eq_cases n k
          (λ f. subst (λ y. times c (rows_of u y).queue ≡ times c (rows_of t y).queue) (sym f) (let a = ap (times c) queue_at in let b = times_with (rows_of t k) w c in let d = ap one (ne_eqb c w.client nc) in omega (arith, a, b, d)))
          (λ nk. ap (times c) (queue_off n nk))

      before_none : (n : ℕ) → c ≡ w.client → times c (rows_of t n).queue ≡ 0
      before_none n f = subst (λ y. times y (rows_of t n).queue ≡ 0) (sym f) (none_times w.client (rows_of t n).queue (free n))

      one_most : (b : Bool) → one b ≤ 1
      one_most true = omega arith
      one_most false = omega arith

      at_k : c ≡ w.client → times c (rows_of u k).queue ≤ 1
      at_k f = let a = ap (times c) queue_at in let b = times_with (rows_of t k) w c in let d = one_most (nat_eq c w.client) in let g = before_none k f in omega (arith, a, b, d, g)

      off_k : (n : ℕ) → n ≢ k → c ≡ w.client → times c (rows_of u n).queue ≡ 0
      off_k n nk f = ap (times c) (queue_off n nk) ∙ before_none n f

      by_place : (i j : ℕ) → i ≢ j → c ≡ w.client → times c (rows_of u i).queue + times c (rows_of u j).queue ≤ 1
      by_place i j ne f = eq_cases i k
          (λ g. let a = subst (λ y. times c (rows_of u y).queue ≤ 1) (sym g) (at_k f) in let b = off_k j (λ h. ne (g ∙ sym h)) f in omega (arith, a, b))
          (λ ni. let a = off_k i ni f in eq_cases j k
          (λ g. let b = subst (λ y. times c (rows_of u y).queue ≤ 1) (sym g) (at_k f) in omega (arith, a, b))
          (λ nj. let b = off_k j nj f in omega (arith, a, b)))

  pub more_sound : k ≤ END → IsSound u
  more_sound le = set_sound t u k row s sound le (sound.strangers k) (sound.beside k)
      (λ v at. ⊎_elim (λ (e : v ≡ w). subst (λ x. x.client < 64) (sym e) client) (λ (x : In v (rows_of t k).queue). sound.clients k v x) (in_queue_with (rows_of t k) w v at))
      more_times

  pub more_over : (m : Index) → IsOver m t → is_slot m k ≡ true → w.point ≤ END → slot_of m w.point ≡ k → IsOver m u
  more_over m over slot le is = set_over t u k row s m over slot
      (λ v at. ⊎_elim
      (λ (e : v ≡ w). subst (λ (x : Waiter). (x.point ≤ END) × (slot_of m x.point ≡ k)) (sym e) (le, is))
      (λ (x : In v (rows_of t k).queue). (over.points k v x, over.placed k v x)) (in_queue_with (rows_of t k) w v at))

  pub more_listed : (waiting : List (Option Waiter)) → AreListed waiting t → AreListed (set waiting w.client (Some w)) u
  more_listed waiting l = listed_more waiting t u w k client
      (λ n v at. none_in w.client (rows_of t n).queue (free n) v at)
      (λ n v at. ⊎_elim (λ (x : (v ≡ w) × (n ≡ k)). inl x.0) (λ (x : In v (rows_of t n).queue). inr x) (now n v at))
      (subst (In w) (sym queue_at) (queue_with_in (rows_of t k) w w (inl refl)))
      (λ n v at. eq_cases n k
      (λ f. subst (λ y. In v (rows_of u y).queue) (sym f) (subst (In v) (sym queue_at) (queue_with_in (rows_of t k) w v (inr (subst (λ y. In v (rows_of t y).queue) f at)))))
      (λ ne. subst (In v) (sym (queue_off n ne)) at)) l

-- if somebody waits first there is a row
pub front_there : (t : Kept) (k : ℕ) (w : Waiter) → front_of (rows_of t k).queue ≡ Some w → IsSome (Rattle.std.specs.FinMap.get t k)
front_there t k w e = has_row t k w (by_queue (rows_of t k).queue e)
  where
    by_queue : (ws : List Waiter) → front_of ws ≡ Some w → In w ws
    by_queue [] f = absurd (cc)
    by_queue (v ∷ vs) f = let same : v ≡ w = cc in inl (sym same)
