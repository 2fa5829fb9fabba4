-- The callbacks, as the code makes them.
use Rattle.krl_server.proofs.Names.{◌≡◌, ◌||◌, nat_eq, ℕ, zero, suc, ◌+◌, ◌≤◌, ◌<◌, Bool, true, false, Some, None, List, [], ◌∷◌, ◌++◌, length, inl, inr, refl, sym, ap, subst, ◌∙◌, append_assoc}
use Rattle.krl_server.proofs.Names.{arith, length-append, append-nil, if◌then◌else◌, Mode, Bounds, compatible, cap, END, ToClient, In, Waiter, is_slot, slots, span_of, front_of, max_clients}
use Rattle.krl_server.proofs.Names.{mode_at, wanted, asks_absent, Server, callback_to, is_compatible, callbacks_from, callbacks_for, callbacks_at, callbacks_among, callbacks, Sent, Sends}
use Rattle.krl_server.proofs.Names.{callback_if}
use Rattle.std.specs.FinMap as fin
use Rattle.krl_server.proofs.Invariant.Tabled.{slots_have}
use Rattle.krl_server.proofs.Functions.Boxes.{sends_more, sends_length}
use Rattle.krl_server.proofs.Outputs.Numbers.{sixty_four}
use Rattle.krl_server.proofs.Functions.FirstTurn.{front_is}
use Rattle.krl_server.proofs.Functions.Rounds.{Ascends, slots_ascend}

-- the callback to one client, by what was looked up
pub callback_is : (s : Server) (n : ℕ) (u : Waiter) (d : ℕ) (w held : Mode) (span : Bounds) (more : List ToClient)
    → more ≡ (if nat_eq d u.client || compatible w held then [] else callback_to s d span (cap w) ∷ [])
    → w ≡ wanted (s.rows n) u → held ≡ mode_at s.rows n d → span ≡ span_of s.durable.index n → more ≡ callback_if s n u d
callback_is s n u d w held span more is wants holds spans =
    is
    ∙ ap (λ x. if nat_eq d u.client || compatible x held then [] else callback_to s d span (cap x) ∷ []) wants
    ∙ ap (λ x. if nat_eq d u.client || compatible (wanted (s.rows n) u) x then [] else callback_to s d span (cap (wanted (s.rows n) u)) ∷ []) holds
    ∙ ap (λ x. if is_compatible s n u d then [] else callback_to s d x (cap (wanted (s.rows n) u)) ∷ []) spans

-- one client after another
pub from_one : (s : Server) (n : ℕ) (u : Waiter) (d k : ℕ) → callbacks_from s n u d (suc k) ≡ callback_if s n u d ++ callbacks_from s n u (suc d) k
from_one s n u d k = by_compatible (is_compatible s n u d)
  where
    by_compatible : (b : Bool) → (if b then callbacks_from s n u (suc d) k else callback_to s d (span_of s.durable.index n) (cap (wanted (s.rows n) u)) ∷ callbacks_from s n u (suc d) k) ≡ (if b then [] else callback_to s d (span_of s.durable.index n) (cap (wanted (s.rows n) u)) ∷ []) ++ callbacks_from s n u (suc d) k
    by_compatible true = refl
    by_compatible false = refl

-- what was sent to the clients below d, and what is left
pub record IsCalled (s : Server) (n : ℕ) (u : Waiter) (d : ℕ) (old new : Sent) : Type 0 where
  pub outs : List ToClient
  pub left : ℕ
  pub clients : d + left ≡ 64
  pub sends : Sends old new outs
  pub all : outs ++ callbacks_from s n u d left ≡ callbacks_from s n u 0 max_clients

pub same_box : (a : Sent) → Sends a a []
same_box a = record { sent = sym (append-nil a.sent); room = omega arith }

pub none_called : (s : Server) (n : ℕ) (u : Waiter) (box : Sent) → IsCalled s n u 0 box box
none_called s n u box = record { outs = []; left = max_clients; clients = let e = sixty_four in omega (arith, e); sends = same_box box; all = refl }

-- there is room for the next callback
pub room_for_one : (s : Server) (n : ℕ) (u : Waiter) (d : ℕ) (old new : Sent) (more : List ToClient) → d < 64 → IsCalled s n u d old new → more ≡ callback_if s n u d → length old.sent + length (callbacks_from s n u 0 max_clients) ≤ old.room → length new.sent + length more ≤ new.room
room_for_one s n u d old new more lt h is room = by_left h.left refl
  where
    by_left : (k : ℕ) → h.left ≡ k → length new.sent + length more ≤ new.room
    by_left zero e = absurd (let x = h.clients in omega (arith, x, e, lt))
    by_left (suc k) e =
        let all = sym (ap (λ l. length l) h.all) ∙ ap (λ x. length (h.outs ++ callbacks_from s n u d x)) e ∙ ap (λ l. length (h.outs ++ l)) (from_one s n u d k) in
        let a = length-append h.outs (callback_if s n u d ++ callbacks_from s n u (suc d) k) in
        let b = length-append (callback_if s n u d) (callbacks_from s n u (suc d) k) in
        let c = ap (λ l. length l) is in
        let l = sends_length old new h.outs h.sends in
        let r = h.sends.room in
        omega (arith, all, a, b, c, l, r, room)

pub one_called : (s : Server) (n : ℕ) (u : Waiter) (d : ℕ) (old new box : Sent) (more : List ToClient) → d < 64 → IsCalled s n u d old new → more ≡ callback_if s n u d → Sends new box more → IsCalled s n u (suc d) old box
one_called s n u d old new box more lt h is sends = by_left h.left refl
  where
    by_left : (k : ℕ) → h.left ≡ k → IsCalled s n u (suc d) old box
    by_left zero e = absurd (let x = h.clients in omega (arith, x, e, lt))
    by_left (suc k) e = record {
      outs = h.outs ++ more;
      left = k;
      clients = let x = h.clients in omega (arith, x, e);
      sends = sends_more old new box h.outs more h.sends sends;
      all = append_assoc h.outs more (callbacks_from s n u (suc d) k) ∙ ap (λ l. h.outs ++ (l ++ callbacks_from s n u (suc d) k)) is ∙ ap (λ l. h.outs ++ l) (sym (from_one s n u d k)) ∙ ap (λ x. h.outs ++ callbacks_from s n u d x) (sym e) ∙ h.all;
    }

pub all_called : (s : Server) (n : ℕ) (u : Waiter) (d : ℕ) (old new : Sent) → 64 ≤ d → IsCalled s n u d old new → Sends old new (callbacks_from s n u 0 max_clients)
all_called s n u d old new le h = subst (Sends old new) (by_left h.left refl) h.sends
  where
    by_left : (k : ℕ) → h.left ≡ k → h.outs ≡ callbacks_from s n u 0 max_clients
    by_left zero e = sym (append-nil h.outs) ∙ ap (λ x. h.outs ++ callbacks_from s n u d x) (sym e) ∙ h.all
    by_left (suc k) e = absurd (let x = h.clients in omega (arith, x, e, le))

-- callbacks are sent for a waiter that asks for an entry that is there
pub for_is : (s : Server) (n : ℕ) (u : Waiter) (b : Bool) → b ≡ asks_absent s.durable.index u → b ≡ false → callbacks_for s n u ≡ callbacks_from s n u 0 max_clients
for_is s n u b e f = ap (λ b. if b then [] else callbacks_from s n u 0 max_clients) (sym e ∙ f)

-- All slots

-- what is left of a list of slots after one of them
pub record IsBehind (s : Server) (n : ℕ) (ns rest : List ℕ) : Type 0 where
  pub all : callbacks_among s ns ≡ callbacks_at s n (s.rows n).queue ++ callbacks_among s rest
  pub up : Ascends rest
  pub past : (k : ℕ) → In k rest → n < k
  pub have : (k : ℕ) → In k ns → n < k → In k rest

behind : (s : Server) (n : ℕ) (ns : List ℕ) → Ascends ns → In n ns → ((k : ℕ) → In k ns → k < n → (s.rows k).queue ≡ []) → (rest : List ℕ) × IsBehind s n ns rest
behind s n [] up at gap = absurd at
behind s n (k ∷ ks) up (inl f) gap = (
  ks,
  record {
    all = ap (λ x. callbacks_at s x (s.rows x).queue ++ callbacks_among s ks) (sym f);
    up = up.1;
    past = λ j at. subst (λ x. x < j) (sym f) (up.0 j at);
    have = λ j at lt. past_first j at lt;
  },
)
  where
    past_first : (j : ℕ) → In j (k ∷ ks) → n < j → In j ks
    past_first j (inl g) lt = absurd (omega (arith, f, g, lt))
    past_first j (inr at) lt = at
behind s n (k ∷ ks) up (inr at) gap =
    let ih = behind s n ks up.1 at (λ j h. gap j (inr h)) in
    let below = up.0 n at in (
      ih.0,
      record {
        all = ap (λ q. callbacks_at s k q ++ callbacks_among s ks) (gap k (inl refl) below) ∙ ih.1.all;
        up = ih.1.up;
        past = ih.1.past;
        have = λ j h lt. past_later ih.0 j h lt below ih.1.have;
      },
    )
  where
    past_later : (rest : List ℕ) (j : ℕ) → In j (k ∷ ks) → n < j → k < n → ((i : ℕ) → In i ks → n < i → In i rest) → In j rest
    past_later rest j (inl g) lt low have = absurd (omega (arith, g, lt, low))
    past_later rest j (inr h) lt low have = have j h lt

-- what was sent for the slots below this point, and the slots that are left
pub record AreCalled (s : Server) (from : ℕ) (old new : Sent) : Type 0 where
  pub outs : List ToClient
  pub rest : List ℕ
  pub sends : Sends old new outs
  pub all : outs ++ callbacks_among s rest ≡ callbacks s
  pub up : Ascends rest
  pub past : (k : ℕ) → In k rest → from ≤ k
  pub have : (k : ℕ) → is_slot s.durable.index k ≡ true → from ≤ k → In k rest

pub nobody_called : (s : Server) (box : Sent) → ((q : ℕ) → END ≤ q → fin.get s.durable.index q ≡ None) → AreCalled s 0 box box
nobody_called s box near = record {
  outs = [];
  rest = slots s.durable.index;
  sends = same_box box;
  all = refl;
  up = slots_ascend s.durable.index near;
  past = λ k at. omega arith;
  have = λ k e le. slots_have s.durable.index k e;
}

module _ (s : Server) (from n : ℕ) (old new : Sent) (h : AreCalled s from old new) (there : is_slot s.durable.index n ≡ true) (above : from ≤ n) (gap : (k : ℕ) → from ≤ k → k < n → (s.rows k).queue ≡ []) where
  cut : (rest : List ℕ) × IsBehind s n h.rest rest
  cut = behind s n h.rest h.up (h.have n there above) (λ k at lt. gap k (h.past k at) lt)

  -- there is room for the callbacks at the next slot
  pub room_for_slot : length old.sent + length (callbacks s) ≤ old.room → length new.sent + length (callbacks_at s n (s.rows n).queue) ≤ new.room
  room_for_slot room =
      let all = sym (ap (λ l. length l) h.all) ∙ ap (λ l. length (h.outs ++ l)) cut.1.all in
      let a = length-append h.outs (callbacks_at s n (s.rows n).queue ++ callbacks_among s cut.0) in
      let b = length-append (callbacks_at s n (s.rows n).queue) (callbacks_among s cut.0) in
      let l = sends_length old new h.outs h.sends in
      let r = h.sends.room in
      omega (arith, all, a, b, l, r, room)

  pub slot_called : (box : Sent) → Sends new box (callbacks_at s n (s.rows n).queue) → AreCalled s (suc n) old box
  slot_called box sends = record {
    outs = h.outs ++ callbacks_at s n (s.rows n).queue;
    rest = cut.0;
    sends = sends_more old new box h.outs (callbacks_at s n (s.rows n).queue) h.sends sends;
    all = append_assoc h.outs (callbacks_at s n (s.rows n).queue) (callbacks_among s cut.0) ∙ ap (λ l. h.outs ++ l) (sym cut.1.all) ∙ h.all;
    up = cut.1.up;
    past = λ k at. let x = cut.1.past k at in omega (arith, x);
    have = λ k e le. cut.1.have k (h.have k e (omega (arith, le, above))) (omega (arith, le));
  }

none_among : (s : Server) (ns : List ℕ) → ((k : ℕ) → In k ns → (s.rows k).queue ≡ []) → callbacks_among s ns ≡ []
none_among s [] h = refl
none_among s (n ∷ ns) h = ap (λ q. callbacks_at s n q ++ callbacks_among s ns) (h n (inl refl)) ∙ none_among s ns (λ k at. h k (inr at))

pub slots_called : (s : Server) (from : ℕ) (old new : Sent) → AreCalled s from old new → ((k : ℕ) → from ≤ k → (s.rows k).queue ≡ []) → Sends old new (callbacks s)
slots_called s from old new h gap = subst (Sends old new) (sym (append-nil h.outs) ∙ ap (λ l. h.outs ++ l) (sym (none_among s h.rest (λ k at. gap k (h.past k at)))) ∙ h.all) h.sends

-- a slot where this one waits first
pub at_first : (s : Server) (n : ℕ) (us : List Waiter) (u : Waiter) → front_of us ≡ Some u → callbacks_at s n us ≡ callbacks_for s n u
at_first s n us u e = ap (callbacks_at s n) (front_is us u e)
