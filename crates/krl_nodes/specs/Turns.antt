-- What each order to a node answers, and what it makes of the node and of the post.
use Rattle.std.specs.Prelude.{◌≡◌, ◌<◌, ◌⊎◌, ℕ, suc, List, [], ◌∷◌, Option, Some, None, length, Result, Ok, Err}
use Rattle.krl_messages.specs.declared.to_server.ToServer.{ToServer}
use Rattle.krl_messages.specs.declared.to_client.ToClient.{ToClient}
use Rattle.krl_durable.specs.Registers.{Durable}
use Rattle.krl_server.specs.Servers as servers
use Rattle.krl_server.specs.Steps as serving
use Rattle.krl_client.specs.Clients.{Client, begun}
use Rattle.krl_client.specs.FieldSteps.{Follows, IsTick}
use Rattle.krl_client.specs.Ticks.{says_hello}
use Rattle.krl_client.specs.Messages as receiver
use Rattle.krl_steps.specs.declared.answer.Answer.{Answer}
use Rattle.krl_steps.specs.declared.answer.Answer.TheVariants as answered
use Rattle.krl_steps.specs.declared.refused.Refused.{Refused}
use Rattle.krl_steps.specs.declared.refused.Refused.TheVariants as refused
use Rattle.krl_steps.specs.declared.step.Command.{Command}
use Rattle.krl_world.specs.States.{ServerPlace, Up, Down, ClientPlace, from_clients}
use Rattle.krl_world.specs.Steps.{of_client, if_runs, named, command_refusal, server_down, server_start, CommandNeedsMemory}
use Rattle.krl_steps.specs.Refusals.{refused_by_client}
use Rattle.krl_world.specs.PlaceSteps.{IsRefused, CommandedAt, starting_refusal}
use Rattle.krl_nodes.specs.Mail.{Mail}
use Rattle.krl_nodes.specs.Letters.{letters_to, left_by, IsPicked, Delivers, Loses, with_to_server, with_to_client}
use Rattle.krl_nodes.specs.Letters.{with_said, with_sent}
use Rattle.krl_nodes.specs.Rule.{down_at}
use Rattle.krl_nodes.specs.declared.policy.Pick.{Pick}
use Rattle.krl_nodes.specs.declared.orders.ServerOrder.{ServerOrder}
use Rattle.krl_nodes.specs.declared.orders.ServerOrder.TheVariants as server_order
use Rattle.krl_nodes.specs.declared.orders.ClientOrder.{ClientOrder}
use Rattle.krl_nodes.specs.declared.orders.ClientOrder.TheVariants as client_order
use Rattle.krl_nodes.specs.declared.orders.Turn.{Turn}
use Rattle.krl_nodes.specs.declared.orders.Turn.TheVariants.{Did, Idle, Lost}

-- Letters

-- the server reads the letter, and sends these; one that is down loses it
abbrev pub ServerReads : ServerPlace → ToServer → ServerPlace → List ToClient → Type 0
ServerReads (Up s) m (Up t) outs = serving.ServerStep s m t outs
ServerReads (Up s) m (Down d) outs = ⊥
ServerReads (Down d) m next outs = (next ≡ Down d) × (outs ≡ [])

-- so does a client
abbrev pub ClientReads : Option Client → ToClient → Option Client → List ToServer → Type 0
ClientReads None m next list = (next ≡ None) × (list ≡ [])
ClientReads (Some k) m next list = (n : Client) × (next ≡ Some n) × Follows k (receiver.client_case_of k m) n list

-- the server reads the letter that is picked, and what it sends goes to the end of the letters to each client
pub record ServerTakes (p : Pick) (mail : Mail) (d : ServerPlace) (mail' : Mail) (d' : ServerPlace) : Type 0 where
  pub delivers : Delivers p
  pub letter : ToServer
  pub outs : List ToClient
  pub picked : IsPicked p mail.to_server letter
  pub reads : ServerReads d letter d' outs
  pub post : mail' ≡ with_sent (with_to_server mail (left_by p mail.to_server)) outs

-- so does a client, and what it sends goes to the end of the letters to the server
pub record ClientTakes (p : Pick) (c : ℕ) (mail : Mail) (x : ClientPlace) (mail' : Mail)
    (x' : ClientPlace) : Type 0 where
  pub delivers : Delivers p
  pub letter : ToClient
  pub list : List ToServer
  pub picked : IsPicked p (letters_to c mail) letter
  pub reads : ClientReads x.client letter x'.client list
  pub last_incarnation : x'.last_incarnation ≡ x.last_incarnation
  pub post : mail' ≡ with_said (with_to_client mail c (left_by p (letters_to c mail))) list

-- the letter that is picked is lost
pub record ServerLoses (p : Pick) (mail : Mail) (d : ServerPlace) (mail' : Mail) (d' : ServerPlace) : Type 0 where
  pub loses : Loses p
  pub some : 0 < length mail.to_server
  pub node : d' ≡ d
  pub post : mail' ≡ with_to_server mail (left_by p mail.to_server)

pub record ClientLoses (p : Pick) (c : ℕ) (mail : Mail) (x : ClientPlace) (mail' : Mail)
    (x' : ClientPlace) : Type 0 where
  pub loses : Loses p
  pub some : 0 < length (letters_to c mail)
  pub node : x' ≡ x
  pub post : mail' ≡ with_to_client mail c (left_by p (letters_to c mail))

-- what was done is what the turn did
abbrev pub did_of : Result Answer Refused → Result Turn Refused
did_of (Ok a) = Ok (Did a)
did_of (Err r) = Err r

-- a call that has nothing to report was done
abbrev pub done_if : Result (Unit {0}) Refused → Result Answer Refused
done_if (Ok u) = Ok answered.Done
done_if (Err r) = Err r

-- The server

-- why the order is refused, apart from memory
abbrev pub server_due : ServerOrder → ServerPlace → Option Refused
server_due server_order.Letter d = None
server_due (server_order.Nudge c) d = of_client c (server_down d)
server_due server_order.Crash d = server_down d
server_due server_order.Start d = server_start d

abbrev pub ServerNeedsMemory : ServerOrder → Mail → ServerPlace → Type 0
ServerNeedsMemory server_order.Letter mail d = 0 < length mail.to_server
ServerNeedsMemory (server_order.Nudge c) mail d = Unit {0}
ServerNeedsMemory server_order.Crash mail d = ⊥
ServerNeedsMemory server_order.Start mail d = Unit {0}

pub record Nudges (c : ℕ) (mail : Mail) (d : ServerPlace) (mail' : Mail) (d' : ServerPlace) : Type 0 where
  pub server : servers.Server
  pub was : d ≡ Up server
  pub now : d' ≡ d
  pub post : mail' ≡ with_sent mail (serving.nudge server c)

pub record Crashes (mail : Mail) (d : ServerPlace) (mail' : Mail) (d' : ServerPlace) : Type 0 where
  pub server : servers.Server
  pub was : d ≡ Up server
  pub now : d' ≡ Down (serving.crash server)
  pub post : mail' ≡ mail

pub record Starts (mail : Mail) (d : ServerPlace) (mail' : Mail) (d' : ServerPlace) : Type 0 where
  pub durable : Durable
  pub was : d ≡ Down durable
  pub now : d' ≡ Up (serving.start durable)
  pub post : mail' ≡ mail

-- an order of the server that is answered Done
abbrev pub ServerDoes : Pick → ServerOrder → Mail → ServerPlace → Mail → ServerPlace → Type 0
ServerDoes p server_order.Letter mail d mail' d' = ServerTakes p mail d mail' d'
ServerDoes p (server_order.Nudge c) mail d mail' d' = Nudges c mail d mail' d'
ServerDoes p server_order.Crash mail d mail' d' = Crashes mail d mail' d'
ServerDoes p server_order.Start mail d mail' d' = Starts mail d mail' d'

-- the post and the node are as they were
pub record IsSame {A : Type 0} (mail : Mail) (a : A) (mail' : Mail) (a' : A) : Type 0 where
  pub post : mail' ≡ mail
  pub node : a' ≡ a

-- the node is idle on this order
abbrev pub ServerIdles : ServerOrder → Mail → Type 0
ServerIdles server_order.Letter mail = mail.to_server ≡ []
ServerIdles (server_order.Nudge c) mail = ⊥
ServerIdles server_order.Crash mail = ⊥
ServerIdles server_order.Start mail = ⊥

-- a letter is lost on this order
abbrev pub ServerLets : Pick → ServerOrder → Mail → ServerPlace → Mail → ServerPlace → Type 0
ServerLets p server_order.Letter mail d mail' d' = ServerLoses p mail d mail' d'
ServerLets p (server_order.Nudge c) mail d mail' d' = ⊥
ServerLets p server_order.Crash mail d mail' d' = ⊥
ServerLets p server_order.Start mail d mail' d' = ⊥

-- the order is carried out; or there is no letter; or one is lost; or the order is refused, for the first reason that
-- is due, or, if none is, for want of memory, if it takes some
abbrev pub ServerActs : Pick → ServerOrder → Mail → ServerPlace → Mail → ServerPlace → Result Turn Refused → Type 0
ServerActs p o mail d mail' d' (Ok (Did a)) =
    (a ≡ answered.Done) × (server_due o d ≡ None) × ServerDoes p o mail d mail' d'
ServerActs p o mail d mail' d' (Ok Idle) = ServerIdles o mail × IsSame mail d mail' d'
ServerActs p o mail d mail' d' (Ok Lost) = ServerLets p o mail d mail' d'
ServerActs p o mail d mail' d' (Err r) =
    IsRefused (server_due o d) (ServerNeedsMemory o mail d) r × IsSame mail d mail' d'

-- A client

abbrev pub client_due : ClientOrder → ℕ → ClientPlace → Option Refused
client_due client_order.Letter c x = None
client_due (client_order.Command what) c x = if_runs x.client (λ k. named refused_by_client (command_refusal k what))
client_due client_order.Tick c x = if_runs x.client (λ k. None)
client_due client_order.Start c x = starting_refusal c x
client_due client_order.Crash c x = if_runs x.client (λ k. None)

abbrev pub ClientNeedsMemory : ClientOrder → ℕ → Mail → ClientPlace → Type 0
ClientNeedsMemory client_order.Letter c mail x = 0 < length (letters_to c mail)
ClientNeedsMemory (client_order.Command what) c mail x = (k : Client) × (x.client ≡ Some k) × CommandNeedsMemory k what
ClientNeedsMemory client_order.Tick c mail x = Unit {0}
ClientNeedsMemory client_order.Start c mail x = Unit {0}
ClientNeedsMemory client_order.Crash c mail x = ⊥

-- a command that is obeyed, and what the client sends with it
pub record Obeys (what : Command) (mail : Mail) (x : ClientPlace) (mail' : Mail)
    (x' : ClientPlace) (a : Answer) : Type 0 where
  pub list : List ToServer
  pub obeyed : CommandedAt x.client what x'.client [] (from_clients list) (Ok a)
  pub last_incarnation : x'.last_incarnation ≡ x.last_incarnation
  pub post : mail' ≡ with_said mail list

pub record Ticks (mail : Mail) (x : ClientPlace) (mail' : Mail) (x' : ClientPlace) (a : Answer) : Type 0 where
  pub client : Client
  pub list : List ToServer
  pub was : x.client ≡ Some client
  pub done : a ≡ answered.Done
  pub now : x' ≡ x
  pub tick : IsTick client list
  pub post : mail' ≡ with_said mail list

-- the client sent again what is not answered
abbrev pub HasTicked : Client → Mail → Mail → Type 0
HasTicked k mail mail' = (list : List ToServer) × IsTick k list × (mail' ≡ with_said mail list)

pub record ClientStarts (c : ℕ) (mail : Mail) (x : ClientPlace) (mail' : Mail)
    (x' : ClientPlace) (a : Answer) : Type 0 where
  pub done : a ≡ answered.Done
  pub now : x' ≡ record { last_incarnation = suc x.last_incarnation; client = Some (begun c (suc x.last_incarnation)) }
  pub post : mail' ≡ with_said mail (says_hello (begun c (suc x.last_incarnation)) ∷ [])

pub record ClientCrashes (mail : Mail) (x : ClientPlace) (mail' : Mail) (x' : ClientPlace) (a : Answer) : Type 0 where
  pub client : Client
  pub was : x.client ≡ Some client
  pub done : a ≡ answered.Done
  pub now : x' ≡ down_at x.last_incarnation
  pub post : mail' ≡ mail

abbrev pub ClientDoes : Pick → ClientOrder → ℕ → Mail → ClientPlace → Mail → ClientPlace → Answer → Type 0
ClientDoes p client_order.Letter c mail x mail' x' a = (a ≡ answered.Done) × ClientTakes p c mail x mail' x'
ClientDoes p (client_order.Command what) c mail x mail' x' a = Obeys what mail x mail' x' a
ClientDoes p client_order.Tick c mail x mail' x' a = Ticks mail x mail' x' a
ClientDoes p client_order.Start c mail x mail' x' a = ClientStarts c mail x mail' x' a
ClientDoes p client_order.Crash c mail x mail' x' a = ClientCrashes mail x mail' x' a

abbrev pub ClientIdles : ClientOrder → ℕ → Mail → Type 0
ClientIdles client_order.Letter c mail = letters_to c mail ≡ []
ClientIdles (client_order.Command what) c mail = ⊥
ClientIdles client_order.Tick c mail = ⊥
ClientIdles client_order.Start c mail = ⊥
ClientIdles client_order.Crash c mail = ⊥

abbrev pub ClientLets : Pick → ClientOrder → ℕ → Mail → ClientPlace → Mail → ClientPlace → Type 0
ClientLets p client_order.Letter c mail x mail' x' = ClientLoses p c mail x mail' x'
ClientLets p (client_order.Command what) c mail x mail' x' = ⊥
ClientLets p client_order.Tick c mail x mail' x' = ⊥
ClientLets p client_order.Start c mail x mail' x' = ⊥
ClientLets p client_order.Crash c mail x mail' x' = ⊥

abbrev pub ClientActs : Pick → ClientOrder → ℕ → Mail → ClientPlace → Mail → ClientPlace → Result Turn Refused → Type 0
ClientActs p o c mail x mail' x' (Ok (Did a)) = (client_due o c x ≡ None) × ClientDoes p o c mail x mail' x' a
ClientActs p o c mail x mail' x' (Ok Idle) = ClientIdles o c mail × IsSame mail x mail' x'
ClientActs p o c mail x mail' x' (Ok Lost) = ClientLets p o c mail x mail' x'
ClientActs p o c mail x mail' x' (Err r) =
    IsRefused (client_due o c x) (ClientNeedsMemory o c mail x) r × IsSame mail x mail' x'

-- By a policy

-- what a call of a policy's `pick` comes to: the policy, how many letters there are, the pick, and the policy after it
abbrev pub Picks : Type 0 → Type 1
Picks P = P → ℕ → Pick → P → Type 0

-- the policy is asked if some letter waits
abbrev pub Asks : {P : Type 0} → Picks P → ℕ → P → Pick → P → Type 0
Asks picks n q p q' = ((n ≡ 0) × (q' ≡ q)) ⊎ ((0 < n) × picks q n p q')

-- and if the order asks for a letter
abbrev pub ServerAsks : {P : Type 0} → Picks P → ServerOrder → Mail → P → Pick → P → Type 0
ServerAsks picks server_order.Letter mail q p q' = Asks picks (length mail.to_server) q p q'
ServerAsks picks (server_order.Nudge c) mail q p q' = q' ≡ q
ServerAsks picks server_order.Crash mail q p q' = q' ≡ q
ServerAsks picks server_order.Start mail q p q' = q' ≡ q

abbrev pub ClientAsks : {P : Type 0} → Picks P → ClientOrder → ℕ → Mail → P → Pick → P → Type 0
ClientAsks picks client_order.Letter c mail q p q' = Asks picks (length (letters_to c mail)) q p q'
ClientAsks picks (client_order.Command what) c mail q p q' = q' ≡ q
ClientAsks picks client_order.Tick c mail q p q' = q' ≡ q
ClientAsks picks client_order.Start c mail q p q' = q' ≡ q
ClientAsks picks client_order.Crash c mail q p q' = q' ≡ q

-- memory was refused before the policy was asked
abbrev pub IsUnasked : {P : Type 0} → Result Turn Refused → P → P → Type 0
IsUnasked r q q' = (r ≡ Err refused.OutOfMemory) × (q' ≡ q)

abbrev pub ServerActsBy : {P : Type 0} → Picks P → ServerOrder → Mail → ServerPlace → P → Mail → ServerPlace →
    Result Turn Refused → P → Type 0
ServerActsBy picks o mail d q mail' d' r q' =
    (p : Pick) × (ServerAsks picks o mail q p q' ⊎ IsUnasked r q q') × ServerActs p o mail d mail' d' r

abbrev pub ClientActsBy : {P : Type 0} → Picks P → ClientOrder → ℕ → Mail → ClientPlace → P → Mail → ClientPlace →
    Result Turn Refused → P → Type 0
ClientActsBy picks o c mail x q mail' x' r q' =
    (p : Pick) × (ClientAsks picks o c mail q p q' ⊎ IsUnasked r q q') × ClientActs p o c mail x mail' x' r
