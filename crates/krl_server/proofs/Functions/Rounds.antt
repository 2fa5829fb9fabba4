-- One walk upward over the slots answers all waiters that can be answered.
use Rattle.krl_server.proofs.Names.{◌≡◌, ◌≢◌, ℕ, suc, ◌≤◌, ◌<◌, Bool, true, false, not, ◌&&◌, ◌||◌, Option, Some, None, List, [], ◌∷◌, ◌++◌, map, inl, inr, refl, sym, ap, subst, ◌∙◌, ⊎_elim}
use Rattle.krl_server.proofs.Names.{append_assoc, arith, nat_eq, cases_lt, append-nil, none-some, same_Some, nat_lt, is_some, if◌then◌else◌, AllByRecursion, END, Value, ToClient, PushBody, In}
use Rattle.krl_server.proofs.Names.{Waiter, eq_cases, Index, slots, is_slot, Row, all_below, max_clients, wanted, with_queue, behind_first, front_dropped, reached_slots, granted, asks_absent}
use Rattle.krl_server.proofs.Names.{is_wanted_compatible, IsTable, Session, Server, set_session, Done, with_session, with_rows, push_to, pushes, silent, holdings, Turn, can_push, is_answerable}
use Rattle.krl_server.proofs.Names.{turn_at, turn_among, next_turn, tells_absent, grants, answer_first, AnswersWaiters, goes_on, stops, waiting, IsSound, turn_here, HasTurned, Rises, from_above}
use Rattle.krl_server.proofs.Names.{keys_of_map_rise}
use Rattle.std.specs.FinMap as fin
use Rattle.krl_messages.specs.declared.to_client.PushBody.TheVariants as push
use Rattle.krl_server.proofs.Updates.{row_other, session_here, session_other}
use Rattle.krl_server.proofs.Tests.{if_both}
use Rattle.krl_server.proofs.Outputs.Counted.{above_all, keys_under}
use Rattle.krl_server.proofs.Invariant.Tabled.{slots_have}
use Rattle.krl_server.proofs.Outputs.Ends.{pushes_rows, turn_durable, turn_less}
use Rattle.krl_server.proofs.Grants.{granted_below, granted_compatible}
use Rattle.krl_server.proofs.Invariant.AnswersSound.{turn_sound}
use Rattle.krl_server.proofs.Invariant.Kept.{turn_table}

-- Answers so far

-- whatever answers follow, these come before
abbrev pub HasBegun : Server → Server → List ToClient → Type 0
HasBegun s t outs = (u : Server) (later : List ToClient) → AnswersWaiters t u later → AnswersWaiters s u (outs ++ later)

pub begun : (s : Server) → HasBegun s s []
begun s u later h = h

pub one_more : (s t : Server) (turn : Turn) (outs more : List ToClient) → HasBegun s t outs → next_turn t ≡ Some turn → (answer_first t turn).outs ≡ more → HasBegun s (answer_first t turn).server (outs ++ more)
one_more s t turn outs more h e is u later rest = subst (AnswersWaiters s u) (sym (append_assoc outs more later)) (h u (more ++ later) (subst (λ x. AnswersWaiters t u (x ++ later)) is (goes_on t u turn later e rest)))

pub all_told : (s t : Server) (outs : List ToClient) → HasBegun s t outs → next_turn t ≡ None → AnswersWaiters s t outs
all_told s t outs h e = subst (AnswersWaiters s t) (append-nil outs) (h t [] (stops t e))

-- The order of the slots

-- each is less than all after it
abbrev pub Ascends : List ℕ → Type 0
Ascends [] = Unit {0}
Ascends (n ∷ ns) = ((k : ℕ) → In k ns → n < k) × Ascends ns

keys_ascend : (es : List (ℕ × Value)) → Rises es → AllByRecursion (λ e. e.0 < END) es → Ascends (map (λ e. e.0) es ++ END ∷ [])
keys_ascend [] h under = ((λ k at. absurd at), tt)
keys_ascend (e ∷ es) h under = ((λ k at. let le = above_all (suc e.0) es k (from_above e.0 es h.0) (let u = under.0 in omega (arith, u)) at in omega (arith, le)), keys_ascend es h.1 under.1)

pub slots_ascend : (m : Index) → ((q : ℕ) → END ≤ q → fin.get m q ≡ None) → Ascends (slots m)
slots_ascend m near =
    let rising = keys_of_map_rise m in
    keys_ascend (fin.entries m) rising (keys_under (fin.entries m) rising (λ k a. sym (fin.get-entries m k) ∙ near k a))

-- Who is next

-- nobody below this point can be answered
abbrev pub NoneBelow : Server → ℕ → Type 0
NoneBelow s at = (n : ℕ) → n < at → turn_here s n ≡ None

at_none : (s : Server) (n : ℕ) (us : List Waiter) (later : Option Turn) → turn_at s n us None ≡ None → turn_at s n us later ≡ later
at_none s n [] later e = refl
at_none s n (u ∷ us) later e = by_test (is_answerable s n u) e
  where
    by_test : (b : Bool) → (if b then Some (let x : Turn = record { slot = n; waiter = u } in x) else None) ≡ None → (if b then Some (let x : Turn = record { slot = n; waiter = u } in x) else later) ≡ later
    by_test true e = absurd (cc)
    by_test false e = refl

at_some : (s : Server) (n : ℕ) (us : List Waiter) (later : Option Turn) (t : Turn) → turn_at s n us None ≡ Some t → turn_at s n us later ≡ Some t
at_some s n [] later t e = absurd (none-some t e)
at_some s n (u ∷ us) later t e = by_test (is_answerable s n u) e
  where
    by_test : (b : Bool) → (if b then Some (let x : Turn = record { slot = n; waiter = u } in x) else None) ≡ Some t → (if b then Some (let x : Turn = record { slot = n; waiter = u } in x) else later) ≡ Some t
    by_test true e = e
    by_test false e = absurd (none-some t e)

among_first : (s : Server) (n : ℕ) (t : Turn) (ns : List ℕ) → Ascends ns → In n ns → NoneBelow s n → turn_here s n ≡ Some t → turn_among s ns ≡ Some t
among_first s n t [] up at none e = absurd at
among_first s n t (k ∷ ks) up (inl f) none e = at_some s k (s.rows k).queue (turn_among s ks) t (subst (λ x. turn_here s x ≡ Some t) f e)
among_first s n t (k ∷ ks) up (inr at) none e = at_none s k (s.rows k).queue (turn_among s ks) (none k (up.0 n at)) ∙ among_first s n t ks up.1 at none e

pub none_among : (s : Server) (ns : List ℕ) → ((n : ℕ) → turn_here s n ≡ None) → turn_among s ns ≡ None
none_among s [] h = refl
none_among s (n ∷ ns) h = at_none s n (s.rows n).queue (turn_among s ns) (h n) ∙ none_among s ns h

-- the least slot whose first waiter can be answered
pub next_is : (s : Server) (n : ℕ) (t : Turn) → ((q : ℕ) → END ≤ q → fin.get s.durable.index q ≡ None) → is_slot s.durable.index n ≡ true → NoneBelow s n → turn_here s n ≡ Some t → next_turn s ≡ Some t
next_is s n t near there none e = among_first s n t (slots s.durable.index) (slots_ascend s.durable.index near) (slots_have s.durable.index n there) none e

-- a client that waits nowhere from a point on can't be answered there
pub empty_none : (s : Server) (n : ℕ) → (s.rows n).queue ≡ [] → turn_here s n ≡ None
empty_none s n e = ap (λ q. turn_at s n q None) e

-- if nobody is next, nobody can be answered at any slot
at_nothing : (s : Server) (n : ℕ) (us : List Waiter) (later : Option Turn) → turn_at s n us later ≡ None → (turn_at s n us None ≡ None) × (later ≡ None)
at_nothing s n [] later e = (refl, e)
at_nothing s n (u ∷ us) later e = by_test (is_answerable s n u) e
  where
    by_test : (b : Bool) → (if b then Some (let x : Turn = record { slot = n; waiter = u } in x) else later) ≡ None → ((if b then Some (let x : Turn = record { slot = n; waiter = u } in x) else None) ≡ None) × (later ≡ None)
    by_test true f = absurd (cc)
    by_test false f = (refl, f)

among_none : (s : Server) (ns : List ℕ) → turn_among s ns ≡ None → (n : ℕ) → In n ns → turn_here s n ≡ None
among_none s [] e n at = absurd at
among_none s (k ∷ ks) e n (inl f) = subst (λ x. turn_here s x ≡ None) (sym f) (at_nothing s k (s.rows k).queue (turn_among s ks) e).0
among_none s (k ∷ ks) e n (inr at) = among_none s ks (at_nothing s k (s.rows k).queue (turn_among s ks) e).1 n at

pub none_here : (s : Server) → IsTable s.durable.index s.rows → next_turn s ≡ None → (n : ℕ) → turn_here s n ≡ None
none_here s table e n = by_slot (is_slot s.durable.index n) refl
  where
    by_slot : (b : Bool) → is_slot s.durable.index n ≡ b → turn_here s n ≡ None
    by_slot true f = among_none s (slots s.durable.index) e n (slots_have s.durable.index n f)
    by_slot false f = empty_none s n (ap (λ (r : Row). r.queue) (table.blank n f))

pub none_up_to : (s : Server) (from n : ℕ) → NoneBelow s from → ((k : ℕ) → from ≤ k → k < n → (s.rows k).queue ≡ []) → NoneBelow s n
none_up_to s from n none gap k lt = ⊎_elim (λ (a : k < from). none k a) (λ (a : from ≤ k). empty_none s k (gap k a lt)) (cases_lt k from)

pub none_past : (s : Server) (n : ℕ) → NoneBelow s n → turn_here s n ≡ None → NoneBelow s (suc n)
none_past s n none e k lt = eq_cases k n (λ f. subst (λ x. turn_here s x ≡ None) (sym f) e) (λ ne. none k (omega (arith, lt, ne)))

pub none_at_all : (s : Server) (from : ℕ) → NoneBelow s from → ((k : ℕ) → from ≤ k → (s.rows k).queue ≡ []) → next_turn s ≡ None
none_at_all s from none gap = none_among s (slots s.durable.index) (λ n. ⊎_elim (λ (a : n < from). none n a) (λ (a : from ≤ n). empty_none s n (gap n a)) (cases_lt n from))

-- An answer makes nobody answerable at a lower slot

no_push : (l : Session) (body : PushBody) → l.unacked ≡ Some body → can_push l ≡ true → ⊥
no_push l body e f = let x = ap (λ o. not (is_some o) && nat_lt l.last_push END) e in let y : false ≡ true = sym x ∙ f in absurd (cc)

pushes_can : (s : Server) (c : ℕ) (body : PushBody) (d : ℕ) → can_push ((pushes s c body).server.sessions d) ≡ true → can_push (s.sessions d) ≡ true
pushes_can s c body d = if_both (λ (x : Done). can_push (x.server.sessions d) ≡ true → can_push (s.sessions d) ≡ true) (nat_lt (s.sessions c).last_push END)
    (record { server = with_session s c (record (s.sessions c) { last_push = suc (s.sessions c).last_push; unacked = Some body }); outs = push_to s c (suc (s.sessions c).last_push) body ∷ [] }) (silent s)
    (λ f. eq_cases d c
    (λ e. absurd (no_push (set_session s.sessions c (record (s.sessions c) { last_push = suc (s.sessions c).last_push; unacked = Some body }) d) body
    (ap (λ l. l.unacked) (ap (set_session s.sessions c (record (s.sessions c) { last_push = suc (s.sessions c).last_push; unacked = Some body })) e ∙ session_here s.sessions c (record (s.sessions c) { last_push = suc (s.sessions c).last_push; unacked = Some body }))) f))
    (λ ne. sym (ap can_push (session_other s.sessions c d (record (s.sessions c) { last_push = suc (s.sessions c).last_push; unacked = Some body }) ne)) ∙ f))
    (λ f. f)

pub turn_can : (s : Server) (t : Turn) (d : ℕ) → can_push ((answer_first s t).server.sessions d) ≡ true → can_push (s.sessions d) ≡ true
turn_can s t d = if_both (λ (x : Done). can_push (x.server.sessions d) ≡ true → can_push (s.sessions d) ≡ true) (asks_absent s.durable.index t.waiter) (tells_absent s t) (grants s t)
    (pushes_can (with_rows s (front_dropped s.rows t.slot)) t.waiter.client (push.Absent t.waiter.req t.waiter.point) d)
    (pushes_can (with_rows s (granted s.durable.reach s.durable.index s.rows t.slot)) t.waiter.client (push.Grant t.waiter.req (holdings (with_rows s (granted s.durable.reach s.durable.index s.rows t.slot)) t.waiter.client (reached_slots s.durable.reach s.durable.index s.rows t.slot))) d)

turn_row : (s : Server) (t : Turn) (k : ℕ) → k < t.slot → (answer_first s t).server.rows k ≡ s.rows k
turn_row s t k lt = if_both (λ (x : Done). x.server.rows k ≡ s.rows k) (asks_absent s.durable.index t.waiter) (tells_absent s t) (grants s t)
    (ap (λ r. r k) (pushes_rows (with_rows s (front_dropped s.rows t.slot)) t.waiter.client (push.Absent t.waiter.req t.waiter.point)) ∙ row_other s.rows t.slot (with_queue (s.rows t.slot) (behind_first (s.rows t.slot).queue)) k (λ e. omega (arith, e, lt)))
    (ap (λ r. r k) (pushes_rows (with_rows s (granted s.durable.reach s.durable.index s.rows t.slot)) t.waiter.client (push.Grant t.waiter.req (holdings (with_rows s (granted s.durable.reach s.durable.index s.rows t.slot)) t.waiter.client (reached_slots s.durable.reach s.durable.index s.rows t.slot)))) ∙ granted_below s.durable.reach s.durable.index s.rows t.slot k lt)

-- nor does it change a row at which somebody waits, next to its own
pub turn_row_beside : (s : Server) (t : Turn) (k : ℕ) (v : Waiter) (vs : List Waiter) → k ≢ t.slot → (s.rows k).queue ≡ v ∷ vs → (answer_first s t).server.rows k ≡ s.rows k
turn_row_beside s t k v vs ne queue = if_both (λ (x : Done). x.server.rows k ≡ s.rows k) (asks_absent s.durable.index t.waiter) (tells_absent s t) (grants s t)
    (ap (λ r. r k) (pushes_rows (with_rows s (front_dropped s.rows t.slot)) t.waiter.client (push.Absent t.waiter.req t.waiter.point)) ∙ row_other s.rows t.slot (with_queue (s.rows t.slot) (behind_first (s.rows t.slot).queue)) k ne)
    (ap (λ r. r k) (pushes_rows (with_rows s (granted s.durable.reach s.durable.index s.rows t.slot)) t.waiter.client (push.Grant t.waiter.req (holdings (with_rows s (granted s.durable.reach s.durable.index s.rows t.slot)) t.waiter.client (reached_slots s.durable.reach s.durable.index s.rows t.slot)))) ∙ granted_compatible s.durable.reach s.durable.index s.rows t.slot k v vs ne queue)

module _ (s u : Server) (k : ℕ) (index : u.durable ≡ s.durable) (row : u.rows k ≡ s.rows k) (can : (v : Waiter) → In v (s.rows k).queue → can_push (u.sessions v.client) ≡ true → can_push (s.sessions v.client) ≡ true) where
  same_has : (v : Waiter) → (asks_absent u.durable.index v || is_wanted_compatible u.rows k v) ≡ (asks_absent s.durable.index v || is_wanted_compatible s.rows k v)
  same_has v = ap (λ d. asks_absent d.index v || is_wanted_compatible u.rows k v) index ∙ ap (λ (r : Row). asks_absent s.durable.index v || all_below max_clients (λ d. nat_eq d v.client || Rattle.krl_modes.specs.Modes.compatible (wanted r v) (r.modes d))) row

  fewer : (a b x y : Bool) → (a ≡ true → b ≡ true) → x ≡ y → (b && y) ≡ false → (a && x) ≡ false
  fewer false b x y f e g = refl
  fewer true b x y f e g = e ∙ sym (ap (λ t. t && y) (f refl)) ∙ g

  not_yet : (v : Waiter) → In v (s.rows k).queue → is_answerable s k v ≡ false → is_answerable u k v ≡ false
  not_yet v at e = fewer (can_push (u.sessions v.client)) (can_push (s.sessions v.client)) _ _ (can v at) (same_has v) e

  by_queue : (us : List Waiter) → ((v : Waiter) → In v us → In v (s.rows k).queue) → turn_at s k us None ≡ None → turn_at u k us None ≡ None
  by_queue [] all e = refl
  by_queue (v ∷ vs) all e = by_test (is_answerable s k v) refl e
    where
      by_test : (b : Bool) → is_answerable s k v ≡ b → (if b then Some (let x : Turn = record { slot = k; waiter = v } in x) else None) ≡ None → turn_at u k (v ∷ vs) None ≡ None
      by_test true f g = absurd (cc)
      by_test false f g = ap (λ b. if b then Some (let x : Turn = record { slot = k; waiter = v } in x) else None) (not_yet v (all v (inl refl)) f)

  pub still_none : turn_here s k ≡ None → turn_here u k ≡ None
  still_none e = ap (λ r. turn_at u k r.queue None) row ∙ by_queue (s.rows k).queue (λ v at. at) e

pub none_after : (s : Server) (t : Turn) → NoneBelow s t.slot → NoneBelow (answer_first s t).server t.slot
none_after s t none k lt = still_none s (answer_first s t).server k (turn_durable s t) (turn_row s t k lt) (λ v at. turn_can s t v.client) (none k lt)

-- One round of the walk

turn_slot : (s : Server) (n : ℕ) (us : List Waiter) (t : Turn) → turn_at s n us None ≡ Some t → t.slot ≡ n
turn_slot s n [] t e = absurd (none-some t e)
turn_slot s n (u ∷ us) t e = by_test (is_answerable s n u) e
  where
    by_test : (b : Bool) → (if b then Some (let x : Turn = record { slot = n; waiter = u } in x) else None) ≡ Some t → t.slot ≡ n
    by_test true f = let x : Turn = record { slot = n; waiter = u } in ap (λ y. y.slot) (sym (same_Some x t f))
    by_test false f = absurd (none-some t f)

-- what holds after the turn at the next slot where somebody waits
pub record IsRound (s u : Server) (n : ℕ) (o : ToClient) : Type 0 where
  pub turn : Turn
  pub next : next_turn s ≡ Some turn
  pub outs : (answer_first s turn).outs ≡ o ∷ []
  pub is : u ≡ (answer_first s turn).server
  pub sound : IsSound u
  pub table : IsTable u.durable.index u.rows
  pub none : NoneBelow u n
  pub less : suc (waiting u) ≤ waiting s
  pub slot : turn.slot ≡ n

pub round : (s u : Server) (from n : ℕ) (o : ToClient) → IsSound s → IsTable s.durable.index s.rows → NoneBelow s from → is_slot s.durable.index n ≡ true → ((k : ℕ) → from ≤ k → k < n → (s.rows k).queue ≡ []) → HasTurned s u n o → IsRound s u n o
round s u from n o sound table none there gap h =
    let below = none_up_to s from n none gap in
    let next = next_is s n h.turn sound.near there below h.here in
    let slot = turn_slot s n (s.rows n).queue h.turn h.here in
    let v = (answer_first s h.turn).server in
    record {
      turn = h.turn;
      next = next;
      outs = h.out;
      is = h.server;
      slot = slot;
      sound = subst IsSound (sym h.server) (turn_sound s h.turn sound next);
      table = subst (λ x. IsTable x.durable.index x.rows) (sym h.server) (turn_table s h.turn next table);
      none = subst (λ x. NoneBelow x n) (sym h.server) (subst (NoneBelow v) slot (none_after s h.turn (subst (NoneBelow s) (sym slot) below)));
      less = subst (λ x. suc (waiting x) ≤ waiting s) (sym h.server) (turn_less s h.turn next);
    }
