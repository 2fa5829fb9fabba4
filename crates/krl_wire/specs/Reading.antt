-- Reading from the left, field by field, up to the first fault.
use Rattle.std.specs.Prelude.{◌≡◌, ℕ, Bool, true, false, zero, suc, List, [], ◌∷◌, length, take, drop, ◌/◌, slice_get, Option, Some, None, Result, Ok, Err, nat_lt, nat_le, ◌==◌, ◌&&◌, if◌then◌else◌}
use Rattle.std.specs.Int.{Width, w32, w64, byte_len, from_le_bytes}
use Rattle.krl_modes.specs.Names.{all_modes}
use Rattle.krl_modes.specs.Spans.{Bounds}
use Rattle.krl_modes.specs.declared.point.TheConstants.{TOP}
use Rattle.krl_modes.specs.declared.part.RangePart.{RangePart}
use Rattle.krl_modes.specs.declared.part.RangePart.TheVariants as range
use Rattle.krl_modes.specs.declared.part.KeyPart.{KeyPart}
use Rattle.krl_modes.specs.declared.part.KeyPart.TheVariants as key
use Rattle.krl_messages.specs.Values.{Value}
use Rattle.krl_messages.specs.declared.outcome.Outcome.{Outcome}
use Rattle.krl_messages.specs.declared.outcome.Outcome.TheVariants as outcome
use Rattle.krl_messages.specs.declared.holding.Holding.{Holding}
use Rattle.krl_messages.specs.declared.range_pieces.RangePiece.{RangePiece}
use Rattle.krl_messages.specs.declared.key_pieces.KeyPiece.{KeyPiece}
use Rattle.krl_messages.specs.declared.pieces.Pieces.{Pieces}
use Rattle.krl_messages.specs.declared.write_op.WriteOp.TheVariants as write
use Rattle.krl_messages.specs.declared.to_server.ToServer.{ToServer}
use Rattle.krl_messages.specs.declared.to_server.ToServerBody.{ToServerBody}
use Rattle.krl_messages.specs.declared.to_server.ToServerBody.TheVariants as said
use Rattle.krl_messages.specs.declared.to_server.RequestBody.{RequestBody}
use Rattle.krl_messages.specs.declared.to_server.RequestBody.TheVariants as asked
use Rattle.krl_messages.specs.declared.to_client.ToClient.{ToClient}
use Rattle.krl_messages.specs.declared.to_client.ToClientBody.{ToClientBody}
use Rattle.krl_messages.specs.declared.to_client.ToClientBody.TheVariants as told
use Rattle.krl_messages.specs.declared.to_client.PushBody.{PushBody}
use Rattle.krl_messages.specs.declared.to_client.PushBody.TheVariants as push
use Rattle.krl_wire.specs.declared.fault.Fault.{Fault}
use Rattle.krl_wire.specs.declared.fault.Fault.TheVariants as fault
use Rattle.krl_wire.specs.declared.fault.ReadError.{ReadError}
use Rattle.krl_wire.specs.declared.fault.ReadError.TheVariants as errors

infixl 10 ◌>>=◌
abbrev pub ◌>>=◌ : {A B : Type 0} → Result A Fault → (A → Result B Fault) → Result B Fault
(Ok x) >>= f = f x
(Err e) >>= f = Err e

-- A reader answers what reading gives, and leaves what reading leaves.
abbrev pub Reads : {X : Type 0} → Result X Fault → List ℕ → Result (X × List ℕ) Fault → Type 0
Reads (Ok x) rest read = read ≡ Ok (x, rest)
Reads (Err f) rest read = read ≡ Err f

-- The same, unless memory runs out.
abbrev pub Fails : {X : Type 0} → ReadError → Result X Fault → Type 0
Fails errors.OutOfMemory read = Unit {0}
Fails (errors.Fault f) read = read ≡ Err f

abbrev pub ReadsIfRoom : {X : Type 0} → Result X ReadError → List ℕ → Result (X × List ℕ) Fault → Type 0
ReadsIfRoom (Ok x) rest read = read ≡ Ok (x, rest)
ReadsIfRoom (Err e) rest read = Fails e read

abbrev pub GivesIfRoom : {X : Type 0} → Result X ReadError → Result X Fault → Type 0
GivesIfRoom (Ok x) read = read ≡ Ok x
GivesIfRoom (Err e) read = Fails e read

-- Each field is read as a value and the bytes after it.
unfoldable pub byte_at : List ℕ → Result (ℕ × List ℕ) Fault
byte_at [] = Err fault.Short
byte_at (b ∷ rest) = Ok (b, rest)

abbrev pub number_at : Width → List ℕ → Result (ℕ × List ℕ) Fault
number_at w bytes =
    if nat_lt (length bytes) (byte_len w)
    then Err fault.Short
    else Ok (from_le_bytes w (take (byte_len w) bytes), drop (byte_len w) bytes)

abbrev pub of_place : {X : Type 0} → Option X → Fault → List ℕ → Result (X × List ℕ) Fault
of_place None f rest = Err f
of_place (Some x) f rest = Ok (x, rest)

-- a tag is a place in a table
unfoldable pub tag_at : {X : Type 0} → List X → Fault → List ℕ → Result (X × List ℕ) Fault
tag_at table f bytes = do
  t ← byte_at bytes
  of_place (slice_get table t.0) f t.1

abbrev pub all_ranges : List RangePart
all_ranges = range.N ∷ range.S ∷ range.I ∷ range.X ∷ []

abbrev pub all_keys : List KeyPart
all_keys = key.N ∷ key.S ∷ key.U ∷ key.X ∷ []

abbrev pub all_outcomes : List Outcome
all_outcomes = outcome.Applied ∷ outcome.Exists ∷ outcome.Absent ∷ outcome.NotHeld ∷ outcome.Full ∷ []

unfoldable pub span_at : List ℕ → Result (Bounds × List ℕ) Fault
span_at bytes = do
  lo ← number_at w64 bytes
  hi ← number_at w64 lo.1
  if nat_lt lo.0 hi.0 && nat_le hi.0 TOP then Ok (record { lo = lo.0; hi = hi.0 }, hi.1) else Err fault.Span

unfoldable pub value_at : List ℕ → Result (Value × List ℕ) Fault
value_at bytes = do
  len ← byte_at bytes
  if nat_lt 32 len.0 then Err fault.Length
      else (if nat_lt (length len.1) len.0 then Err fault.Short else Ok (take len.0 len.1, drop len.0 len.1))

unfoldable pub some_value_at : List ℕ → Result (Option Value × List ℕ) Fault
some_value_at bytes = do
  v ← value_at bytes
  Ok (Some v.0, v.1)

unfoldable pub optional_at : List ℕ → Result (Option Value × List ℕ) Fault
optional_at bytes = do
  flag ← byte_at bytes
  if flag.0 == 0 then Ok (None, flag.1) else (if flag.0 == 1 then some_value_at flag.1 else Err fault.Flag)

unfoldable pub holding_at : List ℕ → Result (Holding × List ℕ) Fault
holding_at bytes = do
  s ← span_at bytes
  m ← tag_at all_modes fault.Mode s.1
  v ← optional_at m.1
  Ok (record { span = s.0; mode = m.0; value = v.0 }, v.1)

-- a holding that begins at this point or later
unfoldable pub holding_from : ℕ → List ℕ → Result (Holding × List ℕ) Fault
holding_from least bytes = do
  h ← holding_at bytes
  if nat_lt h.0.span.lo least then Err fault.Order else Ok (h.0, h.1)

-- so many holdings, the first at this point or later, each of the others after the one before
unfoldable pub holdings_from : ℕ → ℕ → List ℕ → Result (List Holding × List ℕ) Fault
holdings_from zero least bytes = Ok ([], bytes)
holdings_from (suc n) least bytes = do
  h ← holding_from least bytes
  hs ← holdings_from n h.0.span.hi h.1
  Ok (h.0 ∷ hs.0, hs.1)

unfoldable pub holdings_at : List ℕ → Result (List Holding × List ℕ) Fault
holdings_at bytes = do
  n ← byte_at bytes
  if nat_le 1 n.0 && nat_le n.0 128 then holdings_from n.0 0 n.1 else Err fault.Count

unfoldable pub range_piece_at : List ℕ → Result (RangePiece × List ℕ) Fault
range_piece_at bytes = do
  s ← span_at bytes
  p ← tag_at all_ranges fault.Part s.1
  Ok (record { span = s.0; part = p.0 }, p.1)

unfoldable pub key_piece_at : List ℕ → Result (KeyPiece × List ℕ) Fault
key_piece_at bytes = do
  n ← number_at w64 bytes
  p ← tag_at all_keys fault.Part n.1
  Ok (record { point = n.0; part = p.0 }, p.1)

-- a count of items of this size, no more than the bytes after it can hold
unfoldable pub count_at : ℕ → List ℕ → Result (ℕ × List ℕ) Fault
count_at size bytes = do
  n ← number_at w32 bytes
  if nat_lt (length n.1 / size) n.0 then Err fault.Short else Ok (n.0, n.1)

-- so many items, each read so
unfoldable pub items_at : {X : Type 0} → (List ℕ → Result (X × List ℕ) Fault) → ℕ → List ℕ
    → Result (List X × List ℕ) Fault
items_at item zero bytes = Ok ([], bytes)
items_at item (suc n) bytes = do
  first ← item bytes
  others ← items_at item n first.1
  Ok (first.0 ∷ others.0, others.1)

-- a count, and so many items
unfoldable pub list_at : {X : Type 0} → ℕ → (List ℕ → Result (X × List ℕ) Fault) → List ℕ
    → Result (List X × List ℕ) Fault
list_at size item bytes = do
  n ← count_at size bytes
  items_at item n.0 n.1

unfoldable pub pieces_at : List ℕ → Result (Pieces × List ℕ) Fault
pieces_at bytes = do
  rs ← list_at 17 range_piece_at bytes
  ks ← list_at 9 key_piece_at rs.1
  Ok (record { ranges = rs.0; keys = ks.0 }, ks.1)

unfoldable pub lock_at : List ℕ → Result (RequestBody × List ℕ) Fault
lock_at bytes = do
  req ← number_at w64 bytes
  point ← number_at w64 req.1
  hi ← number_at w64 point.1
  m ← tag_at all_modes fault.Mode hi.1
  Ok (asked.Lock req.0 point.0 hi.0 m.0, m.1)

-- a write, which takes the lock that it needs or not
unfoldable pub insert_at : Bool → List ℕ → Result (RequestBody × List ℕ) Fault
insert_at seizes bytes = do
  n ← number_at w64 bytes
  k ← number_at w64 n.1
  v ← value_at k.1
  Ok (asked.Write n.0 (write.Insert k.0 v.0) seizes, v.1)

unfoldable pub put_at : Bool → List ℕ → Result (RequestBody × List ℕ) Fault
put_at seizes bytes = do
  n ← number_at w64 bytes
  k ← number_at w64 n.1
  v ← value_at k.1
  Ok (asked.Write n.0 (write.Put k.0 v.0) seizes, v.1)

unfoldable pub delete_at : Bool → List ℕ → Result (RequestBody × List ℕ) Fault
delete_at seizes bytes = do
  n ← number_at w64 bytes
  k ← number_at w64 n.1
  Ok (asked.Write n.0 (write.Delete k.0) seizes, k.1)

unfoldable pub release_at : List ℕ → Result (RequestBody × List ℕ) Fault
release_at bytes = do
  s ← span_at bytes
  m ← tag_at all_modes fault.Mode s.1
  Ok (asked.Release s.0 m.0, m.1)

-- of the kinds 3 to 11
unfoldable pub request_body_at : ℕ → List ℕ → Result (RequestBody × List ℕ) Fault
request_body_at kind bytes =
    if kind == 3 then lock_at bytes
    else (if kind == 4 then insert_at false bytes
    else (if kind == 5 then put_at false bytes
    else (if kind == 6 then delete_at false bytes
    else (if kind == 7 then release_at bytes
    else (if kind == 8 then Ok (asked.Ack, bytes)
    else (if kind == 9 then insert_at true bytes
    else (if kind == 10 then put_at true bytes
    else delete_at true bytes)))))))

unfoldable pub request_at : ℕ → List ℕ → Result (ToServerBody × List ℕ) Fault
request_at kind bytes = do
  epoch ← number_at w64 bytes
  seen ← number_at w64 epoch.1
  body ← request_body_at kind seen.1
  Ok (said.Request (record { epoch = epoch.0; seen = seen.0; body = body.0 }), body.1)

unfoldable pub report_at : List ℕ → Result (ToServerBody × List ℕ) Fault
report_at bytes = do
  epoch ← number_at w64 bytes
  p ← pieces_at epoch.1
  Ok (said.Report epoch.0 p.0, p.1)

-- of the kinds 0 to 11
unfoldable pub to_server_body_at : ℕ → List ℕ → Result (ToServerBody × List ℕ) Fault
to_server_body_at kind bytes =
    if kind == 0 then Ok (said.Hello, bytes)
    else (if kind == 1 then Ok (said.Bye, bytes)
    else (if kind == 2 then report_at bytes
    else request_at kind bytes))

-- a kind from the first of these to the last
unfoldable pub kind_at : ℕ → ℕ → List ℕ → Result (ℕ × List ℕ) Fault
kind_at first last bytes = do
  k ← byte_at bytes
  if nat_le first k.0 && nat_le k.0 last then Ok (k.0, k.1) else Err fault.Kind

-- the version, and such a kind
unfoldable pub head_at : ℕ → ℕ → List ℕ → Result (ℕ × List ℕ) Fault
head_at first last bytes = do
  v ← byte_at bytes
  if v.0 == 1 then kind_at first last v.1 else Err fault.Version

-- nothing is left
abbrev pub ended : {X : Type 0} → X → List ℕ → Result X Fault
ended x rest = if length rest == 0 then Ok x else Err fault.Trailing

unfoldable pub to_server_of : List ℕ → Result ToServer Fault
to_server_of bytes = do
  kind ← head_at 0 11 bytes
  sender ← number_at w64 kind.1
  incarnation ← number_at w64 sender.1
  body ← to_server_body_at kind.0 incarnation.1
  ended (record { client = sender.0; incarnation = incarnation.0; body = body.0 }) body.1

-- the bytes begin as a report does
abbrev pub BeginsReport : List ℕ → Type 0
BeginsReport bytes = (rest : List ℕ) × (bytes ≡ 1 ∷ 2 ∷ rest)

-- the bytes begin as a grant does
abbrev pub BeginsGrant : List ℕ → Type 0
BeginsGrant bytes = (rest : List ℕ) × (bytes ≡ 1 ∷ 17 ∷ rest)

unfoldable pub grant_at : List ℕ → Result (PushBody × List ℕ) Fault
grant_at bytes = do
  req ← number_at w64 bytes
  hs ← holdings_at req.1
  Ok (push.Grant req.0 hs.0, hs.1)

unfoldable pub absent_at : List ℕ → Result (PushBody × List ℕ) Fault
absent_at bytes = do
  req ← number_at w64 bytes
  point ← number_at w64 req.1
  Ok (push.Absent req.0 point.0, point.1)

unfoldable pub answer_at : List ℕ → Result (PushBody × List ℕ) Fault
answer_at bytes = do
  n ← number_at w64 bytes
  o ← tag_at all_outcomes fault.Outcome n.1
  h ← holding_at o.1
  Ok (push.Answer n.0 o.0 h.0, h.1)

-- of the kinds 17 to 19
unfoldable pub push_body_at : ℕ → List ℕ → Result (PushBody × List ℕ) Fault
push_body_at kind bytes =
    if kind == 17 then grant_at bytes
    else (if kind == 18 then absent_at bytes
    else answer_at bytes)

unfoldable pub push_at : ℕ → List ℕ → Result (ToClientBody × List ℕ) Fault
push_at kind bytes = do
  epoch ← number_at w64 bytes
  n ← number_at w64 epoch.1
  body ← push_body_at kind n.1
  Ok (told.Push epoch.0 n.0 body.0, body.1)

unfoldable pub epoch_at : List ℕ → Result (ToClientBody × List ℕ) Fault
epoch_at bytes = do
  epoch ← number_at w64 bytes
  Ok (told.Epoch epoch.0, epoch.1)

unfoldable pub callback_at : List ℕ → Result (ToClientBody × List ℕ) Fault
callback_at bytes = do
  epoch ← number_at w64 bytes
  s ← span_at epoch.1
  m ← tag_at all_modes fault.Mode s.1
  Ok (told.Callback epoch.0 s.0 m.0, m.1)

-- of the kinds 16 to 20
unfoldable pub to_client_body_at : ℕ → List ℕ → Result (ToClientBody × List ℕ) Fault
to_client_body_at kind bytes =
    if kind == 16 then epoch_at bytes
    else (if kind == 20 then callback_at bytes
    else push_at kind bytes)

unfoldable pub to_client_of : List ℕ → Result ToClient Fault
to_client_of bytes = do
  kind ← head_at 16 20 bytes
  receiver ← number_at w64 kind.1
  incarnation ← number_at w64 receiver.1
  body ← to_client_body_at kind.0 incarnation.1
  ended (record { client = receiver.0; incarnation = incarnation.0; body = body.0 }) body.1
