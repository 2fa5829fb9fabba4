-- The machine comes to a world that shows any opening: each client that was registered started up to its incarnation, was
-- registered with it and left, and the server crashed and started up to the epoch. It wrote nothing.
use Rattle.krl_world.proofs.Names.{◌≡◌, ◌≢◌, ℕ, zero, suc, ◌≤◌, ◌∙◌, Bool, true, false, Option, Some, None, List, [], ◌∷◌, ◌⊎◌, inl, inr, refl, sym, ap, subst, arith, nat_eq, if◌then◌else◌, eq-eqb}
use Rattle.krl_world.proofs.Names.{ne_eqb, eqb-true, AllByRecursion, IsDistinct, none-some, same_Some, END, Value, Shared, Link, Notice, LinkSteps, starts, crashes, leaves, registers, sees_off, idle}
use Rattle.krl_world.proofs.Names.{next, steps_reachable, steps_on, link_steps, Record, Register, record_of, not_left, HasIncarnations, incarnation_or_0, IsRecord, IsIdle}
use Rattle.std.proofs.lemmas.Map.Keys.{IsDistinct-head, IsDistinct-tail}
use Rattle.std.specs.Map.{keys_of}
use Rattle.krl_modes.proofs.Basics.{not_both}
use Rattle.krl_machine.specs.Links as links
use Rattle.krl_machine.specs.Worlds as machine
use Rattle.krl_machine.specs.Worlds.{Changed, crash, start, finish, Steps, none, more, Reachable, begun, blank_link}

-- One link

-- the Hellos of a client that started so many times
abbrev hellos_to : ℕ → List ℕ
hellos_to zero = []
hellos_to (suc n) = suc n ∷ hellos_to n

-- it is down in this incarnation, and nobody heard of it
abbrev down_as : ℕ → Link
down_as n = record blank_link { client = record blank_link.client { inc = n }; hellos = hellos_to n }

down_steps : (s : Shared) (n : ℕ) (l : Link) → LinkSteps s (down_as n) l → LinkSteps s blank_link l
down_steps s zero l h = h
down_steps s (suc n) l h = down_steps s n l (next (starts refl) (next crashes h))

abbrev byes_of : Option Record → List ℕ
byes_of None = []
byes_of (Some r) = r.incarnation ∷ []

abbrev notices_of : Option Record → List Notice
notices_of None = []
notices_of (Some r) = record { inc = r.incarnation; epoch = 1 } ∷ []

abbrev is_known : Option Record → Bool
is_known None = false
is_known (Some r) = true

-- the link of a client with this record, which has left
abbrev link_of : Option Record → Link
link_of o = record blank_link {
  client = record blank_link.client { inc = incarnation_or_0 o };
  reg = incarnation_or_0 o;
  left = is_known o;
  hellos = hellos_to (incarnation_or_0 o);
  byes = byes_of o;
  notices = notices_of o;
}

-- the server of the first epoch serves
abbrev shared_at : (ℕ → Option Value) → ℕ → Shared
shared_at index epoch = record { epoch = epoch; phase = links.Serving; index = index; end = END }

not_down : links.Serving ≢ links.Down
not_down e = cc

gone_steps : (index : ℕ → Option Value) (r : Record) (n : ℕ) → r.incarnation ≡ suc n → LinkSteps (shared_at index 1) blank_link (link_of (Some r))
gone_steps index r n e = subst (λ m. LinkSteps (shared_at index 1) blank_link (gone_as m)) (sym e) (down_steps (shared_at index 1) n (gone_as (suc n)) last)
  where
    gone_as : ℕ → Link
    gone_as m = record blank_link { client = record blank_link.client { inc = m }; reg = m; left = true; hellos = hellos_to m; byes = m ∷ []; notices = record { inc = m; epoch = 1 } ∷ [] }

    last : LinkSteps (shared_at index 1) (down_as n) (gone_as (suc n))
    last = next (starts refl) (next (registers (suc n) (inl refl) not_down (omega arith)) (next (leaves refl) (next (sees_off (suc n) (inl refl) not_down refl) idle)))

-- All links

abbrev pub links_of : Register → ℕ → Link
links_of es c = link_of (record_of es c)

abbrev pub world_at : (ℕ → Option Value) → ℕ → Register → machine.World
world_at index epoch es = record { shared = shared_at index epoch; links = links_of es; log = [] }

one_more : (es : Register) (e : ℕ × Record) → Changed (links_of es) (links_of (e ∷ es)) e.0 (link_of (Some e.1))
one_more es e = record {
  here = ap (λ (b : Bool). link_of (if b then Some e.1 else record_of es e.0)) (eq-eqb e.0 e.0 refl);
  rest = λ d ne. ap (λ (b : Bool). link_of (if b then Some e.1 else record_of es d)) (ne_eqb d e.0 ne);
}

absent : (es : Register) (k : ℕ) → AllByRecursion (λ y. nat_eq k y ≡ false) (keys_of es) → record_of es k ≡ None
absent [] k h = refl
absent (x ∷ xs) k h = ap (λ (b : Bool). if b then Some x.1 else record_of xs k) h.0 ∙ absent xs k h.1

own_record : (x : ℕ × Record) (xs : Register) → record_of (x ∷ xs) x.0 ≡ Some x.1
own_record x xs = ap (λ (b : Bool). if b then Some x.1 else record_of xs x.0) (eq-eqb x.0 x.0 refl)

known_later : (x : ℕ × Record) (xs : Register) (c : ℕ) (r : Record) → record_of xs x.0 ≡ None → record_of xs c ≡ Some r → record_of (x ∷ xs) c ≡ Some r
known_later x xs c r n e = by_test (nat_eq c x.0) refl
  where
    by_test : (b : Bool) → nat_eq c x.0 ≡ b → (if b then Some x.1 else record_of xs c) ≡ Some r
    by_test true i = let j : record_of xs c ≡ None = subst (λ y. record_of xs y ≡ None) (sym (eqb-true c x.0 i)) n in absurd (none-some r (sym j ∙ e))
    by_test false i = e

positive : (n : ℕ) → 1 ≤ n → (m : ℕ) × (n ≡ suc m)
positive zero h = absurd (omega (arith, h))
positive (suc n) h = (n, refl)

known_steps : (index : ℕ → Option Value) (es : Register) → IsDistinct nat_eq (keys_of es) → HasIncarnations es → Steps (world_at index 1 []) (world_at index 1 es)
known_steps index [] once h = none
known_steps index (x ∷ xs) once h =
    let gone = absent xs x.0 (IsDistinct-head nat_eq x.0 (keys_of xs) once) in
    let p = positive x.1.incarnation (h x.0 x.1 (own_record x xs)).0 in
    steps_on (known_steps index xs (IsDistinct-tail nat_eq x.0 (keys_of xs) once) (λ c r e. h c r (known_later x xs c r gone e)))
    (link_steps (shared_at index 1) [] x.0 blank_link (link_of (Some x.1)) (links_of xs) (links_of (x ∷ xs)) (ap link_of gone) (gone_steps index x.1 p.0 p.1) (one_more xs x))

-- Epochs

gone_or_unknown : (o : Option Record) → ((link_of o).left ≡ true) ⊎ ((link_of o).reg ≡ 0)
gone_or_unknown None = inr refl
gone_or_unknown (Some r) = inl refl

next_epoch : (index : ℕ → Option Value) (e : ℕ) (es : Register) → Steps (world_at index e es) (world_at index (suc e) es)
next_epoch index e es = more (more (more none (crash not_down)) (start (λ c. false) refl (λ c i. gone_or_unknown (record_of es c)))) (finish refl (λ c. refl))

epochs : (index : ℕ → Option Value) (e : ℕ) (es : Register) → Steps (world_at index 1 es) (world_at index (suc e) es)
epochs index zero es = none
epochs index (suc e) es = steps_on (epochs index e es) (next_epoch index (suc e) es)

pub opening_reached : (index : ℕ → Option Value) (e : ℕ) (es : Register) → IsDistinct nat_eq (keys_of es) → HasIncarnations es → Reachable index END (world_at index (suc e) es)
opening_reached index e es once h = steps_reachable index END (world_at index 1 []) (world_at index (suc e) es) begun (steps_on (known_steps index es once h) (epochs index e es))

-- What it shows

pub left_all : (es : Register) → not_left es ≡ [] → (c : ℕ) (r : Record) → record_of es c ≡ Some r → r.left ≡ true
left_all [] h c r e = absurd (none-some r e)
left_all (x ∷ xs) h c r e = by_left x.1.left refl h (nat_eq c x.0) e (λ k. left_all xs k c r)
  where
    by_left : (b : Bool) → x.1.left ≡ b → (if b then not_left xs else x.0 ∷ not_left xs) ≡ [] → (a : Bool) → (if a then Some x.1 else record_of xs c) ≡ Some r → (not_left xs ≡ [] → record_of xs c ≡ Some r → r.left ≡ true) → r.left ≡ true
    by_left true f h true e later = sym (ap (λ (y : Record). y.left) (same_Some x.1 r e)) ∙ f
    by_left true f h false e later = later h e
    by_left false f h a e later = absurd (cc)

known_by : (o : Option Record) → ((r : Record) → o ≡ Some r → r.left ≡ true) → IsRecord o (link_of o)
known_by None h = record { reg = refl; left = refl; done = refl }
known_by (Some r) h = let gone : r.left ≡ true = h r refl in
    record { reg = refl; left = sym gone; done = λ n. absurd (not_both r.left gone n); applied = λ o n e. absurd (not_both r.left gone n) }

pub opening_known : (es : Register) → not_left es ≡ [] → (c : ℕ) → IsRecord (record_of es c) (links_of es c)
opening_known es h c = known_by (record_of es c) (left_all es h c)

pub opening_idle : (es : Register) (c : ℕ) → IsIdle (links_of es c)
opening_idle es c = record { missing = refl; last_push = refl; acked = refl; range = λ q. refl; key = λ q. refl }
