-- What a place or the server does is a step of the world.
use Rattle.std.proofs.Common.{◌≡◌, ◌≢◌, ℕ, ◌≤◌, ◌<◌, cond, Some, None, Option, inl, inr, List, [], ◌++◌, length, set, refl, sym, ap, subst, ◌∙◌, ⊎_elim, eq-eqb, ne_eqb, append-nil}
use Rattle.krl_world.proofs.Names.{lt-ltb, le-ltb, get_or-set_same, get_or-set_other, eq_cases, ToServer, Message, Step, Answer, Refused, State, ClientPlace, set_place, seated, from_clients, Steps}
use Rattle.krl_world.proofs.Names.{NeedsMemory, refusal_of, of_client, KeptWorld, meaning, places_of, place_of, kept_nobody, IsRefused}
use Rattle.std.proofs.Math.Path.{fun_ext}
use Rattle.std.specs.Prelude.{if◌then◌else◌, Ok, Err}
use Rattle.krl_world.specs.declared.node.ClientPlace.{ClientPlace as KeptClientPlace}
use Rattle.krl_steps.specs.declared.refused.Refused.TheVariants as refused
use Rattle.krl_world.specs.Steps as steps

-- Steps

pub takes : (w v : State) (s : Step) (a : Answer) → refusal_of w s ≡ None → steps.Does w s a v → Steps w s (Ok a) v
unfolding Steps
takes w v s a e d = (e, d)

pub refuses : (w v : State) (s : Step) (r : Refused) → v ≡ w → refusal_of w s ≡ Some r → Steps w s (Err r) v
unfolding Steps
refuses w v s r e d = (e, inl d)

-- the refusal that is due, or want of memory
pub refuses_by : (w v : State) (s : Step) (r : Refused) (due : Option Refused) (mem : Type 0) → v ≡ w → refusal_of w s ≡ due → (mem → NeedsMemory w s) → IsRefused due mem r → Steps w s (Err r) v
unfolding Steps
refuses_by w v s r due mem e f m x = (e, ⊎_elim (λ (h : due ≡ Some r). inl (f ∙ h)) (λ (h : (due ≡ None) × (r ≡ refused.OutOfMemory) × mem). inr (f ∙ h.0, h.1, m h.2)) x)

pub lacks_memory : (w v : State) (s : Step) → v ≡ w → refusal_of w s ≡ None → NeedsMemory w s → Steps w s (Err refused.OutOfMemory) v
unfolding Steps
lacks_memory w v s e d m = (e, inr (d, refl, m))

-- Client numbers

pub is_no_client : (c : ℕ) (r : Option Refused) → 63 < c → of_client c r ≡ Some refused.BadClient
is_no_client c r h = ap (λ b. cond b (Some refused.BadClient) r) (lt-ltb 63 c h)

pub is_client : (c : ℕ) (r : Option Refused) → c ≤ 63 → of_client c r ≡ r
is_client c r h = ap (λ b. cond b (Some refused.BadClient) r) (le-ltb 63 c h)

-- Places

pub place_here : (places : ℕ → ClientPlace) (c : ℕ) (x : ClientPlace) → set_place places c x c ≡ x
place_here places c x = ap (λ b. if b then x else places c) (eq-eqb c c refl)

pub place_other : (places : ℕ → ClientPlace) (c d : ℕ) (x : ClientPlace) → d ≢ c → set_place places c x d ≡ places d
place_other places c d x ne = ap (λ b. if b then x else places d) (ne_eqb d c ne)

-- another place for one client
pub places_set : (places : List KeptClientPlace) (c : ℕ) (x : KeptClientPlace) → c < length places → places_of (set places c x) ≡ set_place (places_of places) c (place_of x)
places_set places c x lt = fun_ext (λ d. eq_cases d c
    (λ e. subst (λ y. places_of (set places c x) y ≡ set_place (places_of places) c (place_of x) y) (sym e) (ap place_of (get_or-set_same places c x kept_nobody lt) ∙ sym (place_here (places_of places) c (place_of x))))
    (λ ne. ap place_of (get_or-set_other places c d x kept_nobody ne) ∙ sym (place_other (places_of places) c d (place_of x) ne)))

-- the same place again changes nothing
pub same_place : (places : ℕ → ClientPlace) (c : ℕ) → set_place places c (places c) ≡ places
same_place places c = fun_ext (λ d. eq_cases d c
    (λ e. subst (λ y. set_place places c (places c) y ≡ places y) (sym e) (place_here places c (places c)))
    (λ ne. place_other places c d (places c) ne))

-- the world with another place, and more that was sent
pub seated_by : (w : KeptWorld) (c : ℕ) (x : KeptClientPlace) (sent : List Message) (y : ClientPlace) (ms : List ToServer) → c < length w.places → place_of x ≡ y → sent ≡ w.sent ++ from_clients ms → meaning (record w { places = set w.places c x; sent = sent }) ≡ seated (meaning w) c y ms
seated_by w c x sent y ms lt e f = λ t. record (meaning w) { places = (places_set w.places c x lt ∙ ap (set_place (places_of w.places) c) e) t; sent = f t }

-- and if nothing is sent
pub seated_quietly : (w : KeptWorld) (c : ℕ) (x : KeptClientPlace) (y : ClientPlace) → c < length w.places → place_of x ≡ y → meaning (record w { places = set w.places c x }) ≡ seated (meaning w) c y []
seated_quietly w c x y lt e = seated_by w c x w.sent y [] lt e (sym (append-nil w.sent))

-- if nothing happened
pub unchanged_by : (w : KeptWorld) (c : ℕ) (x : KeptClientPlace) (sent : List Message) → c < length w.places → place_of x ≡ places_of w.places c → sent ≡ w.sent → meaning (record w { places = set w.places c x; sent = sent }) ≡ meaning w
unchanged_by w c x sent lt e f = λ t. record (meaning w) { places = (places_set w.places c x lt ∙ ap (set_place (places_of w.places) c) e ∙ same_place (places_of w.places) c) t; sent = f t }
