-- A waiter that goes to a slot where nobody waits, and is granted there.
use Rattle.krl_table.proofs.Names.{◌≡◌, ℕ, ◌-◌, Bool, true, false, not, ◌&&◌, List, [], ◌∷◌, ◌++◌, Some, refl, sym, ap, ◌∙◌, nat_eq, eq-eqb, fun_ext, if◌then◌else◌, at_most, Waiter, Index, slot_of, Row}
use Rattle.krl_table.proofs.Names.{Rows, front_of, set_row, set_mode, with_mode, with_queue, wanted, queue_with, enqueued, grant_first, granted_first, raised, raised_on, asks_absent}
use Rattle.krl_table.proofs.Names.{is_wanted_compatible, nobody_waits, is_granted_at_once, reached_after, reached_slots, granted}
use Rattle.krl_modes.specs.declared.mode.Mode.TheVariants as mode
use Rattle.krl_table.proofs.Calls.Raises.{granted_from, reached_from}

no_queue : (us : List Waiter) → nobody_waits us ≡ true → us ≡ []
no_queue [] e = refl
no_queue (u ∷ us) e = absurd (cc)

-- if the tests come out so
pub at_once_is : (m : Index) (rows : Rows) (u : Waiter) (n : ℕ) (free absent : Bool) → slot_of m u.point ≡ n →
    (nobody_waits (rows n).queue && is_wanted_compatible rows n u) ≡ free → asks_absent m u ≡ absent → is_granted_at_once m rows u ≡ (free && not absent)
at_once_is m rows u n free absent at e f =
    ap (λ k. nobody_waits (rows k).queue && (is_wanted_compatible rows k u && not (asks_absent m u))) at
    ∙ moved (nobody_waits (rows n).queue) (is_wanted_compatible rows n u) (not (asks_absent m u)) ∙ ap (λ b. b && not (asks_absent m u)) e ∙ ap (λ b. free && not b) f
  where
    moved : (a b d : Bool) → (a && (b && d)) ≡ ((a && b) && d)
    moved true b d = refl
    moved false b d = refl

module _ (m : Index) (rows : Rows) (u : Waiter) (n : ℕ) (at : slot_of m u.point ≡ n) (free : nobody_waits (rows n).queue ≡ true) where
  none : (rows n).queue ≡ []
  none = no_queue (rows n).queue free

  -- it is the only one there
  alone : queue_with (rows n) u ≡ u ∷ []
  alone = ap (λ q. if at_most ((rows n).modes u.client) mode.N then q ++ u ∷ [] else u ∷ q) none ∙ either (at_most ((rows n).modes u.client) mode.N)
    where
      either : (b : Bool) → (if b then u ∷ [] else u ∷ []) ≡ u ∷ []
      either true = refl
      either false = refl

  abbrev queued : Rows
  queued = set_row rows n (with_queue (rows n) (u ∷ []))

  queued_is : enqueued m rows u ≡ queued
  queued_is = ap (λ k. set_row rows k (with_queue (rows k) (queue_with (rows k) u))) at ∙ ap (λ q. set_row rows n (with_queue (rows n) q)) alone

  here : queued n ≡ with_queue (rows n) (u ∷ [])
  here = ap (λ b. if b then with_queue (rows n) (u ∷ []) else rows n) (eq-eqb n n refl)

  granted_row : grant_first (queued n) (queued n).queue ≡ with_mode (rows n) u.client (wanted (rows n) u)
  granted_row = ap (λ (r : Row). grant_first r r.queue) here ∙ (λ i. record { modes = set_mode (rows n).modes u.client (wanted (rows n) u); queue = sym none i })

  first_is : granted_first queued n ≡ raised rows n u
  first_is = fun_ext (λ (k : ℕ). by_test k (nat_eq k n))
    where
      by_test : (k : ℕ) (b : Bool) → (if b then grant_first (queued n) (queued n).queue else (if b then with_queue (rows n) (u ∷ []) else rows k)) ≡ (if b then with_mode (rows n) u.client (wanted (rows n) u) else rows k)
      by_test k true = granted_row
      by_test k false = refl

  front : front_of (queued n).queue ≡ Some u
  front = ap (λ (r : Row). front_of r.queue) here

  pub at_once_granted : (j : ℕ) → granted j m (enqueued m rows u) (slot_of m u.point) ≡ raised_on (raised rows n u) (reached_after m (raised rows n u) n u (j - 1)) u
  at_once_granted j = ap (λ k. granted j m (enqueued m rows u) k) at ∙ ap (λ (r : Rows). granted j m r n) queued_is ∙ granted_from j m queued n u front
      ∙ ap (λ (r : Rows). raised_on r (reached_after m r n u (j - 1)) u) first_is

  pub at_once_reached : (j : ℕ) → reached_slots j m (enqueued m rows u) (slot_of m u.point) ≡ n ∷ reached_after m (raised rows n u) n u (j - 1)
  at_once_reached j = ap (λ k. reached_slots j m (enqueued m rows u) k) at ∙ ap (λ (r : Rows). reached_slots j m r n) queued_is ∙ reached_from j m queued n u front
      ∙ ap (λ (r : Rows). n ∷ reached_after m r n u (j - 1)) first_is
