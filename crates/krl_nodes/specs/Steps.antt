-- What each kind of step asks and answers.
use Rattle.std.specs.Prelude.{◌≡◌, ◌≢◌, ◌⊎◌, ◌+◌, ℕ, suc, List, [], ◌∷◌, Option, Some, None, Ok, slice_get, slice_set}
use Rattle.atomic_table.specs.Table as table
use Rattle.krl_messages.specs.Values.{Value}
use Rattle.krl_world.specs.declared.message.Message.{Message}
use Rattle.krl_steps.specs.declared.step.Step.{Step}
use Rattle.krl_steps.specs.declared.answer.Answer.{Answer}
use Rattle.krl_world.specs.declared.node.ServerPlace.{ServerPlace as KeptNode}
use Rattle.krl_world.specs.States.{ServerPlace, ClientPlace, State}
use Rattle.krl_world.specs.Steps as world
use Rattle.krl_nodes.specs.Mail.{Mail}
use Rattle.krl_nodes.specs.Shown.{Shown, ServerAt, ClientAt, Nobody, Gone, shown}
use Rattle.krl_nodes.specs.Rule.{Names, Agrees, AllSent, AllAway, ReachableFrom, down_at}
use Rattle.krl_nodes.specs.declared.post.Chair.{Chair}
use Rattle.krl_nodes.specs.declared.post.Chair.TheVariants.{Taken, Free}
use Rattle.krl_nodes.specs.declared.view.Exchange.{Exchange}
use Rattle.krl_nodes.specs.declared.view.View.{View}
use Rattle.krl_nodes.specs.declared.view.Node.{Node}
use Rattle.krl_nodes.specs.declared.view.Node.TheVariants.{Server, Blank, Spent}

-- a view of a seat that does not hold the post
abbrev pub view_of : List (ℕ × Value) → Node → Option Exchange → ℕ → View
view_of opening n last given = record { opening = opening; held = None; node = n; last = last; given = given }

abbrev pub first_view : List (ℕ × Value) → KeptNode → View
first_view opening d = view_of opening (Server d) None 0

-- the view of a seat that took the post
abbrev pub holding : View → Mail → View
holding v mail = record { opening = v.opening; held = Some mail; node = v.node; last = v.last; given = v.given }

-- that of a new seat next to it
abbrev pub blank_of : View → View
blank_of v = view_of v.opening Blank None 0

abbrev pub spent_view : View
spent_view = view_of [] Spent None 0

-- the view of a seat that took in another, whose last exchange it keeps, and whose exchanges it counts as its own
abbrev pub joined_view : View → View → View
joined_view v w =
    record { opening = v.opening; held = v.held; node = v.node; last = w.last; given = v.given + w.given }

-- the post that was taken, and the one that is given back
abbrev pub exchange_of : Option Mail → List (ℕ × Mail) → Option Exchange
exchange_of None xs = None
exchange_of (Some mail) [] = None
exchange_of (Some mail) (x ∷ xs) = Some (record { taken = mail; given = x.1 })

-- the view of a seat that gave the post back, and is this node from now on
abbrev pub given_view : table.Me Mail View → Node → View
given_view m next = view_of m.0.opening next (exchange_of m.0.held m.1) (suc m.0.given)

abbrev pub IsLive : Shown → Type 0
IsLive Gone = ⊥
IsLive n = Unit {0}

-- some world that is reachable from these entries shows this
abbrev pub Agreeable : List (ℕ × Value) → Shown → Type 0
Agreeable opening n = (w : State) × ReachableFrom opening w × Agrees w n

abbrev pub HasChair : List Chair → Shown → Type 0
HasChair chairs (ClientAt c x) = slice_get chairs c ≡ Some Taken
HasChair chairs n = Unit {0}

-- what a seat knows of the post that it took
pub record Found (mail : Mail) (v : View) : Type 0 where
  pub world : State
  pub names : Names mail.opening v
  pub reach : ReachableFrom mail.opening world
  pub agrees : Agrees world (shown v.node)
  pub away : AllAway mail.chairs world
  pub letters : AllSent mail world.sent
  pub chair : HasChair mail.chairs (shown v.node)

abbrev pub Took : table.Me Mail View → table.Me Mail View → Type 0
Took m m' = (mail : Mail) × (m' ≡ (holding m.0 mail, (0, mail) ∷ m.1)) × Found mail m.0

-- kinds 1 and 2: the post is taken if the word was 0
abbrev pub took : table.Me Mail View → ℕ → table.Me Mail View → Type 0
took m n m' = (n ≡ 0 → Took m m') × (n ≢ 0 → m' ≡ m)

abbrev pub ServerMoves : State → Shown → Shown → State → Type 0
ServerMoves w n n' w' =
    (d d' : ServerPlace) × (n ≡ ServerAt d) × (n' ≡ ServerAt d') × (w'.server ≡ d')
    × ((c : ℕ) → w'.places c ≡ w.places c)

abbrev pub ClientMoves : State → Shown → Shown → State → Type 0
ClientMoves w n n' w' =
    (c : ℕ) × (x x' : ClientPlace) × (n ≡ ClientAt c x) × (n' ≡ ClientAt c x') × (w'.server ≡ w.server)
    × (w'.places c ≡ x')
    × ((d : ℕ) → d ≢ c → w'.places d ≡ w.places d)

-- the nodes of the world differ only at this one
abbrev pub IsMove : State → Shown → Shown → State → Type 0
IsMove w n n' w' = ServerMoves w n n' w' ⊎ ClientMoves w n n' w'

-- a step of the world w, at the node that it shows so, after which it shows that, and all letters of the post were sent
pub record Event (w : State) (n n' : Shown) (mail : Mail) : Type 0 where
  pub step : Step
  pub answer : Answer
  pub after : State
  pub taken : world.Steps w step (Ok answer) after
  pub move : IsMove w n n' after
  pub sent : AllSent mail after.sent

-- kind 3: exactly one step of the world, at this node
pub record Acts (mail : Mail) (n : Shown) (mail' : Mail) (n' : Shown) : Type 0 where
  pub opening : mail'.opening ≡ mail.opening
  pub chairs : mail'.chairs ≡ mail.chairs
  pub order : (w : State) → ReachableFrom mail.opening w → Agrees w n → AllSent mail w.sent →
      Event w n n' mail'

-- no letter comes
pub record HasNoMore (mail mail' : Mail) : Type 0 where
  pub opening : mail'.opening ≡ mail.opening
  pub chairs : mail'.chairs ≡ mail.chairs
  pub letters : (sent : List Message) → AllSent mail sent → AllSent mail' sent

-- kind 4: no order, and at most a letter is lost
abbrev pub Rests : Mail → Shown → Mail → Shown → Type 0
Rests mail n mail' n' = HasNoMore mail mail' × (n' ≡ n)

-- the post with this chair for a client
abbrev pub with_chair : Mail → ℕ → Chair → Mail
with_chair mail c chair =
    record {
      opening = mail.opening;
      to_server = mail.to_server;
      to_clients = mail.to_clients;
      chairs = slice_set mail.chairs c chair;
    }

-- kind 5: a blank seat becomes a client that is down, or such a client's seat becomes blank
abbrev pub SitsDown : Mail → Shown → Mail → Shown → Type 0
SitsDown mail n mail' n' =
    (c i : ℕ) × (n ≡ Nobody) × (slice_get mail.chairs c ≡ Some (Free i)) × (n' ≡ ClientAt c (down_at i))
    × (mail' ≡ with_chair mail c Taken)

abbrev pub GetsUp : Mail → Shown → Mail → Shown → Type 0
GetsUp mail n mail' n' =
    (c i : ℕ) × (n ≡ ClientAt c (down_at i)) × (n' ≡ Nobody) × (mail' ≡ with_chair mail c (Free i))

abbrev pub Change : Mail → Shown → Mail → Shown → Type 0
Change mail n mail' n' =
    Rests mail n mail' n' ⊎ (Acts mail n mail' n' ⊎ (SitsDown mail n mail' n' ⊎ GetsUp mail n mail' n'))

-- the seat holds the post, which is changed, and may give it back as this node
pub record MayGive (m : table.Me Mail View) (next : Node) : Type 0 where
  pub taken : Mail
  pub given : Mail
  pub held : m.0.held ≡ Some taken
  pub has : m.1 ≡ (0, given) ∷ []
  pub live : IsLive (shown m.0.node)
  pub change : Change taken (shown m.0.node) given (shown next)

-- kinds 3, 4 and 5
abbrev pub gave : Node → table.Me Mail View → ℕ → table.Me Mail View → Type 0
gave next m n m' = (m' ≡ (given_view m next, [])) × Agreeable m.0.opening (shown next)

-- a seat that no node has, and that does not hold the post
abbrev pub IsBlank : View → Type 0
IsBlank v = (v.node ≡ Blank) × (v.held ≡ None)

-- no letter waits, nobody is seated, and no client was ever up
pub record IsNewPost (mail : Mail) : Type 0 where
  pub letters : (sent : List Message) → AllSent mail sent
  pub nobody : (c : ℕ) → slice_get mail.chairs c ≡ Some Taken → ⊥
  pub never : (c i : ℕ) → slice_get mail.chairs c ≡ Some (Free i) → i ≡ 0
