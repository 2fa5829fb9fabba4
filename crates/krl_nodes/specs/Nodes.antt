-- What contracts see of a node, and how its seat at the table stands for it.
use Rattle.std.specs.Prelude.{◌≡◌, ◌<◌, ◌+◌, ℕ, suc, Bool, true, false, List, [], ◌∷◌, Option, Some, None, Result, Ok, Err, ◌≤◌}
use Rattle.std.specs.Prelude.{slice_get, slice_set, ◌≤◌}
use Rattle.krl_modes.specs.declared.limits.TheConstants.{MAX_CLIENTS}
use Rattle.atomic_table.specs.Table as table
use Rattle.atomic_table.specs.Seated.{TableId}
use Rattle.atomic_table.specs.declared.shared.Seat.{Seat as Ticket}
use Rattle.krl_messages.specs.Values.{Value}
use Rattle.krl_durable.specs.Index.{range}
use Rattle.krl_durable.specs.Registers.{Durable}
use Rattle.krl_client.specs.declared.status.Status.{Status}
use Rattle.krl_client.specs.Clients.{Client}
use Rattle.krl_client.specs.Shown.{status_of}
use Rattle.krl_client.specs.declared.scan_answer.ScanAnswer.{ScanAnswer}
use Rattle.krl_client.specs.declared.scan_answer.ScanAnswer.TheVariants as scan_answer
use Rattle.krl_client.specs.Commands.{ScanGives, scan_refusal}
use Rattle.krl_world.specs.declared.node.ClientPlace.{ClientPlace as KeptClientPlace}
use Rattle.krl_world.specs.declared.node.ServerPlace.{ServerPlace as KeptNode}
use Rattle.krl_steps.specs.declared.refused.Refused.{Refused}
use Rattle.krl_steps.specs.declared.refused.Refused.TheVariants as refused
use Rattle.krl_steps.specs.declared.step.Command.TheVariants as command
use Rattle.krl_world.specs.States.{ServerPlace, ClientPlace, State, durable_of, index_of, fresh}
use Rattle.krl_world.specs.Steps.{span, named, CommandNeedsMemory}
use Rattle.krl_steps.specs.Refusals.{refused_by_client}
use Rattle.krl_world.specs.PlaceSteps.{IsRefused}
use Rattle.krl_world.specs.Fields.{node_of, place_of}
use Rattle.krl_nodes.specs.Mail.{Mail}
use Rattle.krl_nodes.specs.Shown.{ClientAt, shown}
use Rattle.krl_nodes.specs.Rule.{ReachableFrom}
use Rattle.krl_nodes.specs.Steps.{view_of, with_chair, Agreeable}
use Rattle.krl_nodes.specs.Turns.{Picks, ServerActs, ClientActs, ServerActsBy, ClientActsBy}
use Rattle.krl_nodes.specs.declared.post.Chair.{Chair}
use Rattle.krl_nodes.specs.declared.post.Chair.TheVariants.{Taken, Free}
use Rattle.krl_nodes.specs.declared.policy.Pick.TheVariants.{Take}
use Rattle.krl_nodes.specs.declared.orders.ServerOrder.{ServerOrder}
use Rattle.krl_nodes.specs.declared.orders.ClientOrder.{ClientOrder}
use Rattle.krl_nodes.specs.declared.orders.Turn.{Turn}
use Rattle.krl_nodes.specs.declared.refused.NotSeated.{NotSeated}
use Rattle.krl_nodes.specs.declared.refused.NotSeated.TheVariants as not_seated
use Rattle.krl_nodes.specs.declared.view.Exchange.{Exchange}
use Rattle.krl_nodes.specs.declared.view.View.{View}
use Rattle.krl_nodes.specs.declared.view.Node.{Node}

-- the server with its seat: the office, the entries that the world began with, the post that it last took and what it
-- gave back for it, how often it gave the post back, the server, and which clients it seated
pub record SeatedServer : Type 0 where
  pub office : TableId
  pub opening : List (ℕ × Value)
  pub last : Option Exchange
  pub given : ℕ
  pub desk : KeptNode
  pub seated : List Bool

-- a client with its seat
pub record SeatedClient : Type 0 where
  pub office : TableId
  pub opening : List (ℕ × Value)
  pub last : Option Exchange
  pub given : ℕ
  pub number : ℕ
  pub seat : KeptClientPlace

abbrev pub server_shown : SeatedServer → ServerPlace
server_shown n = node_of n.desk

abbrev pub client_shown : SeatedClient → ClientPlace
client_shown n = place_of n.seat

-- the seat holds no post, its view is this node, and some reachable world has the node so
pub record IsAt (t : Ticket Mail View) (n : Node) : Type 0 where
  pub me : t.me ≡ (view_of t.me.0.opening n t.me.0.last t.me.0.given, [])
  pub stands : Agreeable t.me.0.opening (shown n)

abbrev pub HoldsPost : table.Me Mail View → Type 0
HoldsPost m = (mail : Mail) × (m.1 ≡ (0, mail) ∷ [])

-- the post that the seat holds is changed so, and its view is not
pub record Changes (m m' : table.Me Mail View) (P : Mail → Mail → Type 0) : Type 0 where
  pub before : Mail
  pub after : Mail
  pub had : m.1 ≡ (0, before) ∷ []
  pub has : m' ≡ (m.0, (0, after) ∷ [])
  pub so : P before after

-- the post was taken and given back, and these two are so
pub record Exchanged (last : Option Exchange) (P : Mail → Mail → Type 0) : Type 0 where
  pub taken : Mail
  pub given : Mail
  pub last_is : last ≡ Some (record { taken = taken; given = given })
  pub so : P taken given

-- Turns

-- the order is carried out, if an order for a letter is for the oldest
abbrev pub ServerTurns : ServerOrder → SeatedServer → Result Turn Refused → SeatedServer → Type 0
ServerTurns o n r n' =
    Exchanged n'.last (λ mail mail'. ServerActs (Take 0) o mail (server_shown n) mail' (server_shown n') r)

abbrev pub ClientTurns : ClientOrder → SeatedClient → Result Turn Refused → SeatedClient → Type 0
ClientTurns o n r n' =
    Exchanged n'.last (λ mail mail'. ClientActs (Take 0) o n.number mail (client_shown n) mail' (client_shown n') r)

-- and if it is for the one that the policy picks
abbrev pub ServerTurnsBy : {P : Type 0} → Picks P → ServerOrder → SeatedServer → P → Result Turn Refused
    → SeatedServer →
    P → Type 0
ServerTurnsBy picks o n q r n' q' =
    Exchanged n'.last (λ mail mail'. ServerActsBy picks o mail (server_shown n) q mail' (server_shown n') r q')

abbrev pub ClientTurnsBy : {P : Type 0} → Picks P → ClientOrder → SeatedClient → P → Result Turn Refused
    → SeatedClient →
    P → Type 0
ClientTurnsBy picks o n q r n' q' =
    Exchanged n'.last (λ mail mail'. ClientActsBy picks o n.number mail (client_shown n) q mail' (client_shown n') r q')

abbrev pub IsSameServer : SeatedServer → SeatedServer → Type 0
IsSameServer n n' = (n'.office ≡ n.office) × (n'.opening ≡ n.opening) × (n'.seated ≡ n.seated)

abbrev pub IsSameClient : SeatedClient → SeatedClient → Type 0
IsSameClient n n' = (n'.office ≡ n.office) × (n'.opening ≡ n.opening) × (n'.number ≡ n.number)

-- Scans

-- what a client that is there answers, from its own cache
abbrev pub ScansAs : Option Client → ℕ → ℕ → Result ScanAnswer Refused → Type 0
ScansAs None lo hi r = r ≡ Err refused.Down
ScansAs (Some k) lo hi (Ok a) = (scan_refusal (span lo hi) ≡ None) × ScanGives k (span lo hi) a
ScansAs (Some k) lo hi (Err e) =
    IsRefused (named refused_by_client (scan_refusal (span lo hi))) (CommandNeedsMemory k (command.Scan lo hi)) e

-- the rows are those of the index
abbrev pub RowsAre : List (ℕ × Value) → Result ScanAnswer Refused → Type 0
RowsAre rows (Ok (scan_answer.Rows xs)) = xs ≡ rows
RowsAre rows (Ok (scan_answer.Miss p)) = Unit {0}
RowsAre rows (Ok (scan_answer.Pending k)) = Unit {0}
RowsAre rows (Err e) = Unit {0}

-- in every reachable world that has the client so, the rows are that range of the index; and there is such a world
pub record ScansIndex (n : SeatedClient) (lo hi : ℕ) (r : Result ScanAnswer Refused) : Type 0 where
  pub stands : Agreeable n.opening (ClientAt n.number (client_shown n))
  pub rows : (w : State) → ReachableFrom n.opening w → w.places n.number ≡ client_shown n →
      RowsAre (range (index_of w) lo hi) r

-- Seats

-- the client has no seat; it gets this one
abbrev pub IsSeated : ℕ → Chair → Mail → Mail → Type 0
IsSeated c Taken mail mail' = (slice_get mail.chairs c ≡ Some Taken) × (mail' ≡ mail)
IsSeated c (Free i) mail mail' = (slice_get mail.chairs c ≡ Some (Free i)) × (mail' ≡ with_chair mail c Taken)

-- the client is down, and has the incarnation that the post noted; the post notes that it is seated
abbrev pub WasFree : SeatedClient → Type 0
WasFree n = Exchanged n.last (λ mail mail'.
    (slice_get mail.chairs n.number ≡ Some (Free n.seat.last_incarnation)) × (mail' ≡ with_chair mail n.number Taken))

-- the post notes the client as seated
abbrev pub WasTaken : ℕ → Option Exchange → Type 0
WasTaken c last = Exchanged last (λ mail mail'. (slice_get mail.chairs c ≡ Some Taken) × (mail' ≡ mail))

-- it notes it as not seated, with this incarnation
abbrev pub IsFreed : ℕ → ℕ → Option Exchange → Type 0
IsFreed c i last = Exchanged last (λ mail mail'. mail' ≡ with_chair mail c (Free i))

pub record IsNewClient (s : SeatedServer) (c : ℕ) (n : SeatedClient) : Type 0 where
  pub office : n.office ≡ s.office
  pub opening : n.opening ≡ s.opening
  pub number : n.number ≡ c
  pub down : n.seat.client ≡ None
  pub free : WasFree n
  pub once : n.given ≡ 1

-- which clients the server seated
abbrev pub NoneSeated : List Bool → Type 0
NoneSeated seated = (c : ℕ) → slice_get seated c ≡ Some true → ⊥

abbrev pub SomeSeated : List Bool → Type 0
SomeSeated seated = (c : ℕ) × (slice_get seated c ≡ Some true)

-- the server after these more exchanges, of which this was the last
abbrev pub with_last : SeatedServer → Option Exchange → ℕ → SeatedServer
with_last s last more = record {
  office = s.office;
  opening = s.opening;
  last = last;
  given = s.given + more;
  desk = s.desk;
  seated = s.seated;
}

-- the server with the client seated, or not
abbrev pub with_seated : SeatedServer → ℕ → Bool → SeatedServer
with_seated s c b = record {
  office = s.office;
  opening = s.opening;
  last = s.last;
  given = s.given;
  desk = s.desk;
  seated = slice_set s.seated c b;
}

-- what survives is that of a reachable world
abbrev pub Survives : List (ℕ × Value) → Durable → Type 0
Survives opening d = (w : State) × ReachableFrom opening w × (durable_of w.server ≡ d)

-- a new office: its server runs on these entries, and nobody is seated
pub record IsOpened (office : TableId) (entries : List (ℕ × Value)) (n : SeatedServer) : Type 0 where
  pub same : n.office ≡ office
  pub opening : n.opening ≡ entries
  pub server : server_shown n ≡ (fresh entries).server
  pub nobody : NoneSeated n.seated

-- no seat was given: the number is none of a client, or the post, which was taken once, notes the client as seated
abbrev pub NotSeatedFor : ℕ → SeatedServer → SeatedServer → NotSeated → Type 0
NotSeatedFor c s s' not_seated.BadClient = (MAX_CLIENTS ≤ c) × (s' ≡ s)
NotSeatedFor c s s' not_seated.Seated = (c < MAX_CLIENTS) × (s' ≡ with_last s s'.last 1) × WasTaken c s'.last

-- the client's seat is taken back by one exchange, and the server counts the client's exchanges as its own
pub record IsRetired (n : SeatedClient) (s s' : SeatedServer) : Type 0 where
  pub server : s' ≡ with_seated (with_last s s'.last (suc n.given)) n.number false
  pub freed : IsFreed n.number n.seat.last_incarnation s'.last

abbrev pub client_of_node : SeatedClient → Option Client
client_of_node n = (client_shown n).client

-- what a client that is there shows of itself
abbrev pub status_at : Option Client → Option Status
status_at None = None
status_at (Some k) = Some (status_of k)
