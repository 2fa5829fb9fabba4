-- Which letters wait for a node, which of them is picked, and where new ones go.
use Rattle.std.specs.Prelude.{◌≡◌, ◌<◌, ℕ, suc, ◌-◌, cond, nat_eq, nat_lt, if◌then◌else◌, List, [], ◌∷◌, ◌++◌, length, remove}
use Rattle.std.specs.Prelude.{Some, slice_get, slice_set, slice_index_or}
use Rattle.krl_modes.specs.declared.limits.TheConstants.{MAX_CLIENTS}
use Rattle.krl_messages.specs.Values.{Value}
use Rattle.krl_messages.specs.declared.to_server.ToServer.{ToServer}
use Rattle.krl_messages.specs.declared.to_client.ToClient.{ToClient}
use Rattle.krl_world.specs.declared.message.Message.{Message}
use Rattle.krl_world.specs.declared.message.Message.TheVariants as message
use Rattle.krl_nodes.specs.Mail.{Mail}
use Rattle.krl_nodes.specs.declared.post.Chair.{Chair}
use Rattle.krl_nodes.specs.declared.post.Reader.{Reader}
use Rattle.krl_nodes.specs.declared.post.Reader.TheVariants as reader
use Rattle.krl_nodes.specs.declared.policy.Pick.{Pick}
use Rattle.krl_nodes.specs.declared.policy.Pick.TheVariants.{Take, Copy, Lose}

-- the letters to a client
abbrev pub letters_to : ℕ → Mail → List ToClient
letters_to c mail = slice_index_or mail.to_clients c []

-- the place i among n, or the last
abbrev pub up_to_last : ℕ → ℕ → ℕ
up_to_last i n = if nat_lt i n then i else n - 1

-- the place that is picked among n letters
abbrev pub position_of : Pick → ℕ → ℕ
position_of (Take i) n = up_to_last i n
position_of (Copy i) n = up_to_last i n
position_of (Lose i) n = up_to_last i n

-- what is left of the letters
abbrev pub left_by : {A : Type 0} → Pick → List A → List A
left_by (Take i) xs = remove xs (up_to_last i (length xs))
left_by (Copy i) xs = xs
left_by (Lose i) xs = remove xs (up_to_last i (length xs))

-- those of the messages that a client sent
abbrev pub from_client : List Message → List ToServer
from_client [] = []
from_client (message.ToServer m ∷ ms) = m ∷ from_client ms
from_client (message.ToClient m ∷ ms) = from_client ms

-- and those that the server sent
abbrev pub by_server : List Message → List ToClient
by_server [] = []
by_server (message.ToServer m ∷ ms) = by_server ms
by_server (message.ToClient m ∷ ms) = m ∷ by_server ms

-- those of the messages that are to this client
abbrev pub only_to : ℕ → List ToClient → List ToClient
only_to c [] = []
only_to c (m ∷ ms) = cond (nat_eq m.client c) (m ∷ only_to c ms) (only_to c ms)

-- each client's letters with those of the messages that are to it after them, from client c on
abbrev pub sorted : ℕ → List (List ToClient) → List ToClient → List (List ToClient)
sorted c [] ms = []
sorted c (xs ∷ rest) ms = (xs ++ only_to c ms) ∷ sorted (suc c) rest ms

-- the letter that is picked among these
abbrev pub IsPicked : {A : Type 0} → Pick → List A → A → Type 0
IsPicked p xs x = slice_get xs (position_of p (length xs)) ≡ Some x

-- the pick delivers the letter, or loses it
abbrev pub Delivers : Pick → Type 0
Delivers (Take i) = Unit {0}
Delivers (Copy i) = Unit {0}
Delivers (Lose i) = ⊥

abbrev pub Loses : Pick → Type 0
Loses (Take i) = ⊥
Loses (Copy i) = ⊥
Loses (Lose i) = Unit {0}

-- The post

-- the reader is the server, or a client with a number below 64
abbrev pub IsReader : Reader → Type 0
IsReader reader.Server = Unit {0}
IsReader (reader.Client c) = c < MAX_CLIENTS

-- how many letters wait for it
abbrev pub waiting_for : Reader → Mail → ℕ
waiting_for reader.Server mail = length mail.to_server
waiting_for (reader.Client c) mail = length (letters_to c mail)

-- the post with these letters to the server
abbrev pub with_to_server : Mail → List ToServer → Mail
with_to_server mail list =
    record { opening = mail.opening; to_server = list; to_clients = mail.to_clients; chairs = mail.chairs }

-- the post with these letters to a client
abbrev pub with_to_client : Mail → ℕ → List ToClient → Mail
with_to_client mail c list = record {
  opening = mail.opening;
  to_server = mail.to_server;
  to_clients = slice_set mail.to_clients c list;
  chairs = mail.chairs;
}

-- after a client sent these, at the end of the letters to the server
abbrev pub with_said : Mail → List ToServer → Mail
with_said mail list = with_to_server mail (mail.to_server ++ list)

-- after the server sent these, each at the end of the letters to its client
abbrev pub with_sent : Mail → List ToClient → Mail
with_sent mail outs = record {
  opening = mail.opening;
  to_server = mail.to_server;
  to_clients = sorted 0 mail.to_clients outs;
  chairs = mail.chairs;
}

-- what is sorted, and after it what was sent last
abbrev pub mail_of : List (ℕ × Value) → List ToServer → List (List ToClient) → List Message → List Chair → Mail
mail_of opening to_server to_clients unsorted chairs = record {
  opening = opening;
  to_server = to_server ++ from_client unsorted;
  to_clients = sorted 0 to_clients (by_server unsorted);
  chairs = chairs;
}
