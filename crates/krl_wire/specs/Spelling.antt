-- The one spelling of each message in version 1, as a list of bytes.
use Rattle.std.specs.Prelude.{ℕ, Bool, true, false, List, [], ◌∷◌, ◌++◌, length, Option, Some, None}
use Rattle.std.specs.List.{flat_map}
use Rattle.std.specs.Int.{w32, w64, to_le_bytes}
use Rattle.krl_modes.specs.Spans.{Bounds}
use Rattle.krl_modes.specs.declared.mode.Mode.{Mode}
use Rattle.krl_modes.specs.declared.mode.Mode.TheVariants as mode
use Rattle.krl_modes.specs.declared.part.RangePart.{RangePart}
use Rattle.krl_modes.specs.declared.part.RangePart.TheVariants as range
use Rattle.krl_modes.specs.declared.part.KeyPart.{KeyPart}
use Rattle.krl_modes.specs.declared.part.KeyPart.TheVariants as key
use Rattle.krl_messages.specs.Values.{Value}
use Rattle.krl_messages.specs.declared.outcome.Outcome.{Outcome}
use Rattle.krl_messages.specs.declared.outcome.Outcome.TheVariants as outcome
use Rattle.krl_messages.specs.declared.holding.Holding.{Holding}
use Rattle.krl_messages.specs.declared.range_pieces.RangePiece.{RangePiece}
use Rattle.krl_messages.specs.declared.key_pieces.KeyPiece.{KeyPiece}
use Rattle.krl_messages.specs.declared.pieces.Pieces.{Pieces}
use Rattle.krl_messages.specs.declared.write_op.WriteOp.{WriteOp}
use Rattle.krl_messages.specs.declared.write_op.WriteOp.TheVariants as write
use Rattle.krl_messages.specs.declared.to_server.ToServer.{ToServer}
use Rattle.krl_messages.specs.declared.to_server.ToServerBody.{ToServerBody}
use Rattle.krl_messages.specs.declared.to_server.ToServerBody.TheVariants as said
use Rattle.krl_messages.specs.declared.to_server.RequestBody.{RequestBody}
use Rattle.krl_messages.specs.declared.to_server.RequestBody.TheVariants as asked
use Rattle.krl_messages.specs.declared.to_client.ToClient.{ToClient}
use Rattle.krl_messages.specs.declared.to_client.ToClientBody.{ToClientBody}
use Rattle.krl_messages.specs.declared.to_client.ToClientBody.TheVariants as told
use Rattle.krl_messages.specs.declared.to_client.PushBody.{PushBody}
use Rattle.krl_messages.specs.declared.to_client.PushBody.TheVariants as push

-- eight bytes, the lowest first
abbrev pub number : ℕ → List ℕ
number n = to_le_bytes w64 n

-- four bytes, the lowest first
abbrev pub count : ℕ → List ℕ
count n = to_le_bytes w32 n

abbrev pub range_tag : RangePart → ℕ
range_tag range.N = 0
range_tag range.S = 1
range_tag range.I = 2
range_tag range.X = 3

abbrev pub key_tag : KeyPart → ℕ
key_tag key.N = 0
key_tag key.S = 1
key_tag key.U = 2
key_tag key.X = 3

abbrev pub mode_tag : Mode → ℕ
mode_tag mode.N = 0
mode_tag mode.S = 1
mode_tag mode.U = 2
mode_tag mode.X = 3
mode_tag mode.RangeSS = 4
mode_tag mode.RangeSU = 5
mode_tag mode.RangeIN = 6
mode_tag mode.RangeIS = 7
mode_tag mode.RangeIU = 8
mode_tag mode.RangeIX = 9
mode_tag mode.RangeXS = 10
mode_tag mode.RangeXU = 11
mode_tag mode.RangeXX = 12

abbrev pub outcome_tag : Outcome → ℕ
outcome_tag outcome.Applied = 0
outcome_tag outcome.Exists = 1
outcome_tag outcome.Absent = 2
outcome_tag outcome.NotHeld = 3
outcome_tag outcome.Full = 4

abbrev pub span : Bounds → List ℕ
span s = number s.lo ++ number s.hi

-- how many bytes, in one byte, and the bytes
abbrev pub value : Value → List ℕ
value v = length v ∷ v

-- a flag, and the value if there is one
abbrev pub optional : Option Value → List ℕ
optional None = 0 ∷ []
optional (Some v) = 1 ∷ value v

abbrev pub holding : Holding → List ℕ
holding h = span h.span ++ mode_tag h.mode ∷ optional h.value

-- how many, in one byte, and the holdings
abbrev pub holdings : List Holding → List ℕ
holdings hs = length hs ∷ flat_map holding hs

-- how many, in four bytes, and the items
abbrev pub list : {X : Type 0} → (X → List ℕ) → List X → List ℕ
list item xs = count (length xs) ++ flat_map item xs

abbrev pub range_piece : RangePiece → List ℕ
range_piece p = span p.span ++ range_tag p.part ∷ []

abbrev pub key_piece : KeyPiece → List ℕ
key_piece p = number p.point ++ key_tag p.part ∷ []

abbrev pub pieces : Pieces → List ℕ
pieces p = list range_piece p.ranges ++ list key_piece p.keys

-- the kind of a write, and of one that takes the lock that it needs
abbrev pub write_kind : WriteOp → Bool → ℕ
write_kind (write.Insert k v) false = 4
write_kind (write.Put k v) false = 5
write_kind (write.Delete k) false = 6
write_kind (write.Insert k v) true = 9
write_kind (write.Put k v) true = 10
write_kind (write.Delete k) true = 11

-- the kind of each message to the server, and what it has after its head
abbrev pub request_kind : RequestBody → ℕ
request_kind (asked.Lock req point hi m) = 3
request_kind (asked.Write n change seizes) = write_kind change seizes
request_kind (asked.Release s m) = 7
request_kind asked.Ack = 8

abbrev pub request_body : RequestBody → List ℕ
request_body (asked.Lock req point hi m) = number req ++ number point ++ number hi ++ mode_tag m ∷ []
request_body (asked.Write n (write.Insert k v) seizes) = number n ++ number k ++ value v
request_body (asked.Write n (write.Put k v) seizes) = number n ++ number k ++ value v
request_body (asked.Write n (write.Delete k) seizes) = number n ++ number k
request_body (asked.Release s m) = span s ++ mode_tag m ∷ []
request_body asked.Ack = []

abbrev pub to_server_kind : ToServerBody → ℕ
to_server_kind said.Hello = 0
to_server_kind said.Bye = 1
to_server_kind (said.Report epoch p) = 2
to_server_kind (said.Request r) = request_kind r.body

abbrev pub to_server_body : ToServerBody → List ℕ
to_server_body said.Hello = []
to_server_body said.Bye = []
to_server_body (said.Report epoch p) = number epoch ++ pieces p
to_server_body (said.Request r) = number r.epoch ++ number r.seen ++ request_body r.body

-- the version, the kind, the client's number, the incarnation, and the rest
abbrev pub to_server : ToServer → List ℕ
to_server m = 1 ∷ to_server_kind m.body ∷ number m.client ++ number m.incarnation ++ to_server_body m.body

-- the kind of each message to a client, and what it has after its head
abbrev pub push_kind : PushBody → ℕ
push_kind (push.Grant req hs) = 17
push_kind (push.Absent req point) = 18
push_kind (push.Answer n o h) = 19

abbrev pub push_body : PushBody → List ℕ
push_body (push.Grant req hs) = number req ++ holdings hs
push_body (push.Absent req point) = number req ++ number point
push_body (push.Answer n o h) = number n ++ outcome_tag o ∷ holding h

abbrev pub to_client_kind : ToClientBody → ℕ
to_client_kind (told.Epoch epoch) = 16
to_client_kind (told.Push epoch n b) = push_kind b
to_client_kind (told.Callback epoch s keep) = 20

abbrev pub to_client_body : ToClientBody → List ℕ
to_client_body (told.Epoch epoch) = number epoch
to_client_body (told.Push epoch n b) = number epoch ++ number n ++ push_body b
to_client_body (told.Callback epoch s keep) = number epoch ++ span s ++ mode_tag keep ∷ []

-- the version, the kind, the client's number, the incarnation, and the rest
abbrev pub to_client : ToClient → List ℕ
to_client m = 1 ∷ to_client_kind m.body ∷ number m.client ++ number m.incarnation ++ to_client_body m.body
