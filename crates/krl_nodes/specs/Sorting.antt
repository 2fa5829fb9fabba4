-- How what was sent last is put after the letters to each node.
use Rattle.std.specs.Prelude.{◌≡◌, ◌<◌, ℕ, Bool, true, false, nat_eq, List, [], ◌∷◌, ◌++◌, length, reverse, replicate, Some}
use Rattle.std.specs.Prelude.{slice_get, Result, Ok, Err}
use Rattle.krl_modes.specs.declared.limits.TheConstants.{MAX_CLIENTS}
use Rattle.krl_messages.specs.Values.{Value}
use Rattle.krl_messages.specs.declared.to_server.ToServer.{ToServer}
use Rattle.krl_messages.specs.declared.to_client.ToClient.{ToClient}
use Rattle.krl_world.specs.declared.message.Message.{Message}
use Rattle.krl_world.specs.declared.message.Message.TheVariants as message
use Rattle.krl_world.specs.States.{ServerPlace, ClientPlace, from_clients, from_server}
use Rattle.krl_steps.specs.declared.answer.Answer.TheVariants as answered
use Rattle.krl_steps.specs.declared.refused.Refused.{Refused}
use Rattle.krl_steps.specs.declared.refused.Refused.TheVariants as refused
use Rattle.krl_nodes.specs.Mail.{Mail}
use Rattle.krl_nodes.specs.Letters.{from_client, by_server, sorted, left_by, mail_of, IsPicked, Delivers, Loses}
use Rattle.krl_nodes.specs.declared.policy.Pick.{Pick}
use Rattle.krl_nodes.specs.declared.orders.Turn.{Turn}
use Rattle.krl_nodes.specs.declared.orders.Turn.TheVariants.{Did, Idle, Lost}
use Rattle.krl_nodes.specs.declared.post.Chair.TheVariants.{Free}
use Rattle.krl_nodes.specs.Turns.{ServerReads, ClientReads}
use Rattle.krl_nodes.specs.declared.post.Reader.{Reader}
use Rattle.krl_nodes.specs.declared.post.Reader.TheVariants as reader

-- the letters with the messages after them are the same letters with those messages
pub record AreSorted (a : List ToServer) (b : List (List ToClient)) (ms : List Message) (a' : List ToServer)
    (b' : List (List ToClient)) (ms' : List Message) : Type 0 where
  pub to_server : a' ++ from_client ms' ≡ a ++ from_client ms
  pub to_clients : sorted 0 b' (by_server ms') ≡ sorted 0 b (by_server ms)

-- if the last message is the oldest
abbrev pub AreSortedBack : List ToServer → List (List ToClient) → List Message → List ToServer →
    List (List ToClient) → List Message → Type 0
AreSortedBack a b ms a' b' ms' = AreSorted a b (reverse ms) a' b' (reverse ms')

-- the message is put after the letters to its reader, whatever comes after it
abbrev pub IsPut : List ToServer → List (List ToClient) → Message → List ToServer → List (List ToClient) → Type 0
IsPut a b m a' b' = (rest : List Message) → AreSorted a b (m ∷ rest) a' b' rest

-- the message is to this reader
abbrev pub is_for : Reader → Message → Bool
is_for reader.Server (message.ToServer m) = true
is_for reader.Server (message.ToClient m) = false
is_for (reader.Client c) (message.ToServer m) = false
is_for (reader.Client c) (message.ToClient m) = nat_eq m.client c

-- one of the messages is to the reader, or none is
abbrev pub HasOne : Reader → List Message → Type 0
HasOne r ms = (i : ℕ) × (m : Message) × (slice_get ms i ≡ Some m) × (is_for r m ≡ true)

abbrev pub HasNone : Reader → List Message → Type 0
HasNone r ms = (i : ℕ) (m : Message) → slice_get ms i ≡ Some m → is_for r m ≡ false

-- the server read the letter, and what it sent comes after the messages
pub record HasHeard (d : ServerPlace) (m : ToServer) (d' : ServerPlace) (old new : List Message) : Type 0 where
  pub outs : List ToClient
  pub reads : ServerReads d m d' outs
  pub sent : new ≡ old ++ from_server outs

-- so did a client
pub record HasRead (x : ClientPlace) (m : ToClient) (x' : ClientPlace) (old new : List Message) : Type 0 where
  pub list : List ToServer
  pub reads : ClientReads x.client m x'.client list
  pub last_incarnation : x'.last_incarnation ≡ x.last_incarnation
  pub sent : new ≡ old ++ from_clients list

-- a node read the letter that was picked among these, or there was none, or it was lost; or memory was refused
abbrev pub HasTaken : {A M : Type 0} → (A → M → A → List Message → List Message → Type 0) → Pick → List M → A →
    List Message → List M → A → List Message → Result Turn Refused → Type 0
HasTaken {A} {M} R p xs a ms xs' a' ms' (Ok (Did r)) =
    (r ≡ answered.Done) × Delivers p × (xs' ≡ left_by p xs) × ((m : M) × IsPicked p xs m × R a m a' ms ms')
HasTaken R p xs a ms xs' a' ms' (Ok Idle) = (xs ≡ []) × (xs' ≡ xs) × (a' ≡ a) × (ms' ≡ ms)
HasTaken R p xs a ms xs' a' ms' (Ok Lost) =
    Loses p × (0 < length xs) × (xs' ≡ left_by p xs) × (a' ≡ a) × (ms' ≡ ms)
HasTaken R p xs a ms xs' a' ms' (Err r) =
    (r ≡ refused.OutOfMemory) × (0 < length xs) × (xs' ≡ xs) × (a' ≡ a) × (ms' ≡ ms)

-- the post of a new office
abbrev pub IsNew : List (ℕ × Value) → Mail → Type 0
IsNew opening mail = mail ≡ mail_of opening [] (replicate MAX_CLIENTS []) [] (replicate MAX_CLIENTS (Free 0))
