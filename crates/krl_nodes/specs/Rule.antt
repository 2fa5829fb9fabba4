-- The rule of the one table: the post is at home or with one seat; there is the server's view, and one of each seated
-- client; and the views and the post are the state of a reachable world.
use Rattle.std.specs.Prelude.{◌≡◌, ◌≢◌, ◌⊎◌, ℕ, List, [], ◌∷◌, Some, None, slice_get}
use mathlib.Core.Option as opt
use lib.ListN.{get_elem?}
use Rattle.atomic_table.specs.Table.{State as Table}
use Rattle.krl_messages.specs.Values.{Value}
use Rattle.krl_world.specs.declared.message.Message.{Message}
use Rattle.krl_world.specs.States.{ServerPlace, ClientPlace, State, unused}
use Rattle.krl_world.specs.Steps.{IsReachedByRun}
use Rattle.krl_world.specs.declared.message.Message.TheVariants as message
use Rattle.krl_messages.specs.declared.to_server.ToServer.{ToServer}
use Rattle.krl_messages.specs.declared.to_client.ToClient.{ToClient}
use Rattle.krl_nodes.specs.Mail.{Mail}
use Rattle.krl_nodes.specs.Letters.{letters_to}
use Rattle.krl_nodes.specs.Shown.{Shown, ServerAt, ClientAt, Nobody, Gone, shown}
use Rattle.krl_nodes.specs.declared.post.Chair.{Chair}
use Rattle.krl_nodes.specs.declared.post.Chair.TheVariants.{Taken, Free}
use Rattle.krl_nodes.specs.declared.view.View.{View}

-- of each view, by its seat
abbrev pub Each : List View → (ℕ → View → Type 0) → Type 0
Each views P = (i : ℕ) (v : View) → get_elem? views i ≡ opt.some v → P i v

-- (i) the word is 0 and the post at home, or the word is 1 and one seat holds it, its view naming it

pub record AtHome (words : List ℕ) (homes : List (opt.Option Mail)) (views : List View) (mail : Mail) : Type 0 where
  pub word : words ≡ 0 ∷ []
  pub slot : homes ≡ opt.some mail ∷ []
  pub none_holds : Each views (λ i v. v.held ≡ None)

pub record IsOut (words : List ℕ) (homes : List (opt.Option Mail)) (views : List View) (mail : Mail) : Type 0 where
  pub word : words ≡ 1 ∷ []
  pub slot : homes ≡ opt.none ∷ []
  pub holder : ℕ
  pub view : View
  pub there : get_elem? views holder ≡ opt.some view
  pub names : view.held ≡ Some mail
  pub others : Each views (λ i v. i ≢ holder → v.held ≡ None)

abbrev pub Kept : List ℕ → List (opt.Option Mail) → List View → Mail → Type 0
Kept words homes views mail = AtHome words homes views mail ⊎ IsOut words homes views mail

-- (ii) the first seat is the server's; each client that the post notes as seated has exactly one view, and no other
-- client has one

-- the seat i may show this, if the client c sits at the seat `at c`
abbrev pub Sits : (ℕ → ℕ) → List Chair → ℕ → Shown → Type 0
Sits at chairs i (ServerAt d) = i ≡ 0
Sits at chairs i (ClientAt c x) = (i ≡ at c) × (slice_get chairs c ≡ Some Taken)
Sits at chairs i Nobody = Unit {0}
Sits at chairs i Gone = Unit {0}

abbrev pub IsServer : Shown → Type 0
IsServer n = (d : ServerPlace) × (n ≡ ServerAt d)

abbrev pub IsClient : ℕ → Shown → Type 0
IsClient c n = (x : ClientPlace) × (n ≡ ClientAt c x)

-- the view of this seat is such a one
abbrev pub HasView : List View → ℕ → (Shown → Type 0) → Type 0
HasView views i P = (v : View) × (get_elem? views i ≡ opt.some v) × P (shown v.node)

pub record Seated (at : ℕ → ℕ) (chairs : List Chair) (views : List View) : Type 0 where
  pub each : Each views (λ i v. Sits at chairs i (shown v.node))
  pub server : HasView views 0 IsServer
  pub every : (c : ℕ) → slice_get chairs c ≡ Some Taken → HasView views (at c) (IsClient c)

-- (iii) the views and the post are the state of this world, which is reachable

abbrev pub NamesAs : Shown → Type 0 → Type 0
NamesAs (ServerAt d) P = P
NamesAs (ClientAt c x) P = P
NamesAs Nobody P = P
NamesAs Gone P = Unit {0}  -- a spent view names nothing

abbrev pub Names : List (ℕ × Value) → View → Type 0
Names opening v = NamesAs (shown v.node) (v.opening ≡ opening)

-- what is shown is so in the world
abbrev pub Agrees : State → Shown → Type 0
Agrees w (ServerAt d) = w.server ≡ d
Agrees w (ClientAt c x) = w.places c ≡ x
Agrees w Nobody = Unit {0}
Agrees w Gone = Unit {0}

-- the message stands among all that were ever sent
abbrev pub StandsIn : Message → List Message → Type 0
StandsIn l sent = (i : ℕ) × (slice_get sent i ≡ Some l)

-- so do all letters of the post; those to a client are to it
pub record AllSent (mail : Mail) (sent : List Message) : Type 0 where
  pub to_server : (k : ℕ) (m : ToServer) → slice_get mail.to_server k ≡ Some m → StandsIn (message.ToServer m) sent
  pub to_clients : (c k : ℕ) (m : ToClient) → slice_get (letters_to c mail) k ≡ Some m →
      (m.client ≡ c) × StandsIn (message.ToClient m) sent

-- a client that is down, and this greatest incarnation
abbrev pub down_at : ℕ → ClientPlace
down_at i = record { last_incarnation = i; client = None }

abbrev pub AllAway : List Chair → State → Type 0
AllAway chairs w = (c i : ℕ) → slice_get chairs c ≡ Some (Free i) → w.places c ≡ down_at i

-- some list of taken steps leads to the world from these entries
abbrev pub ReachableFrom : List (ℕ × Value) → State → Type 0
ReachableFrom entries w = IsReachedByRun w × (w.opening ≡ unused entries)

pub record Running (mail : Mail) (views : List View) (w : State) : Type 0 where
  pub reach : ReachableFrom mail.opening w
  pub names : Each views (λ i v. Names mail.opening v)
  pub agree : Each views (λ i v. Agrees w (shown v.node))
  pub away : AllAway mail.chairs w
  pub letters : AllSent mail w.sent

pub record Holds (s : Table Mail View) : Type 0 where
  pub mail : Mail
  pub at : ℕ → ℕ
  pub world : State
  pub kept : Kept s.words s.homes s.views mail
  pub seated : Seated at mail.chairs s.views
  pub running : Running mail s.views world
