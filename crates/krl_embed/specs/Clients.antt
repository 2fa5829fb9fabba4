-- What the calls on a client do: with the client, with what waits to be sent, and what they answer.
use Rattle.std.specs.Prelude.{◌≡◌, ℕ, List, [], ◌∷◌, ◌++◌, length, nat_le, if◌then◌else◌, slice_get, Option, Some, None}
use Rattle.std.specs.Prelude.{Result, Ok, Err}
use Rattle.std.specs.Global.{Vec}
use Rattle.krl_modes.specs.Names.{all_modes}
use Rattle.krl_modes.specs.declared.mode.Mode.{Mode}
use Rattle.krl_modes.specs.Spans.{Bounds}
use Rattle.krl_messages.specs.Values.{Value}
use Rattle.krl_messages.specs.declared.write_op.WriteOp.{WriteOp}
use Rattle.krl_messages.specs.declared.write_op.WriteOp.TheVariants as write
use Rattle.krl_messages.specs.declared.to_server.ToServer.{ToServer}
use Rattle.krl_messages.specs.declared.to_client.ToClient.{ToClient}
use Rattle.krl_wire.specs.declared.fault.Fault.{Fault}
use Rattle.krl_wire.specs.declared.fault.Fault.TheVariants as fault
use Rattle.krl_wire.specs.Reading as reading
use Rattle.krl_client.specs.Clients.{Client, free_pin}
use Rattle.krl_client.specs.Fields.{KeptClient, meaning}
use Rattle.krl_client.specs.FieldSteps.{Follows, IsTick}
use Rattle.krl_client.specs.Messages.{client_case_of}
use Rattle.krl_client.specs.Commands as commands
use Rattle.krl_client.specs.declared.refused.CommandRefused.{CommandRefused}
use Rattle.krl_client.specs.declared.refused.CommandRefused.TheVariants as command_refused
use Rattle.krl_client.specs.declared.scan_answer.ScanAnswer.TheVariants as scan_answer
use Rattle.krl_embed.specs.declared.rows.Row.{Row}
use Rattle.krl_embed.specs.declared.reply.Reply.{Reply}
use Rattle.krl_embed.specs.declared.code.Code.{Code}
use Rattle.krl_embed.specs.declared.code.Code.TheVariants as code
use Rattle.krl_embed.specs.Replies.{code_of}
use Rattle.krl_embed.specs.Frames.{said_frames, WaitsBy}
use Rattle.krl_embed.specs.Rows.{Copies, max_value_bytes}

abbrev pub fault_number : Fault → ℕ
fault_number fault.Short = 0
fault_number fault.Version = 1
fault_number fault.Kind = 2
fault_number fault.Span = 3
fault_number fault.Mode = 4
fault_number fault.Part = 5
fault_number fault.Outcome = 6
fault_number fault.Flag = 7
fault_number fault.Length = 8
fault_number fault.Count = 9
fault_number fault.Order = 10
fault_number fault.Trailing = 11

abbrev pub refusal_code : CommandRefused → Code
refusal_code command_refused.OutOfMemory = code.OutOfMemory
refusal_code command_refused.BadPoint = code.BadPoint
refusal_code command_refused.BadSpan = code.BadSpan
refusal_code command_refused.NotJoined = code.NotJoined
refusal_code command_refused.Busy = code.Busy
refusal_code command_refused.NotHeld = code.NotHeld
refusal_code command_refused.Pinned = code.Pinned
refusal_code command_refused.Writing = code.Writing
refusal_code command_refused.TooManyPins = code.TooManyPins
refusal_code command_refused.Spent = code.Spent

-- The client becomes such, and gives such messages, which wait after all others, or are lost; or nothing changes, for
-- want of memory.
abbrev pub Did : (KeptClient → List ToServer → Type 0) → KeptClient → List ℕ → KeptClient → List ℕ → Option Code →
    Type 0
Did Becomes k old l new (Some code.Done) =
    (list : List ToServer) × Becomes l list × (new ≡ old ++ said_frames list)
Did Becomes k old l new (Some code.Unsaid) = (list : List ToServer) × Becomes l list × (new ≡ old)
Did Becomes k old l new (Some code.OutOfMemory) = (l ≡ k) × (new ≡ old)
Did Becomes k old l new _ = ⊥

-- nothing changes, and this is why
abbrev pub Refused : Code → KeptClient → List ℕ → KeptClient → List ℕ → Option Code → Type 0
Refused due k old l new c = (l ≡ k) × (new ≡ old) × (c ≡ Some due)

-- Bytes that are no message change nothing. The reply names the fault, unless the bytes begin as a grant does and the
-- memory for its list is refused before the fault is found.
abbrev pub IsUnread : List ℕ → Fault → KeptClient → List ℕ → KeptClient → List ℕ → Reply → Option Code → Type 0
IsUnread bytes f k old l new r (Some code.BadMessage) = (l ≡ k) × (new ≡ old) × (r.detail ≡ fault_number f)
IsUnread bytes f k old l new r (Some code.OutOfMemory) =
    (l ≡ k) × (new ≡ old) × (r.detail ≡ 0) × reading.BeginsGrant bytes
IsUnread bytes f k old l new r _ = ⊥

-- the client is given these bytes, of which this is read
abbrev pub HearsRead : List ℕ → Result ToClient Fault → KeptClient → List ℕ → KeptClient → List ℕ → Reply → Type 0
HearsRead bytes (Err f) k old l new r = IsUnread bytes f k old l new r (code_of r)
HearsRead bytes (Ok m) k old l new r =
    (r.detail ≡ 0)
    × Did (λ x list. Follows (meaning k) (client_case_of (meaning k) m) (meaning x) list) k old l new (code_of r)

abbrev pub Hears : List ℕ → KeptClient → List ℕ → KeptClient → List ℕ → Reply → Type 0
Hears bytes k old l new r = HearsRead bytes (reading.to_client_of bytes) k old l new r

-- it sends again what is not answered
abbrev pub Ticks : KeptClient → List ℕ → KeptClient → List ℕ → Reply → Type 0
Ticks k old l new r =
    (r.detail ≡ 0) × Did (λ x list. (x ≡ k) × IsTick (meaning k) list) k old l new (code_of r)

-- what a command sends waits, or it is refused and nothing more waits
abbrev pub SaidOr : Result (Vec ToServer) CommandRefused → List ℕ → List ℕ → Option Code → Type 0
SaidOr (Ok list) old new c = WaitsBy (said_frames list.items) old new c
SaidOr (Err r) old new c = (new ≡ old) × (c ≡ Some (refusal_code r))

-- a command is refused for what is due; otherwise it is done, and makes this client and gives this message
abbrev pub Commanded : Option CommandRefused → Client → ToServer
    → KeptClient → List ℕ → KeptClient → List ℕ → Option Code → Type 0
Commanded (Some due) next m k old l new c = Refused (refusal_code due) k old l new c
Commanded None next m k old l new c =
    Did (λ x list. (meaning x ≡ next) × (list ≡ m ∷ [])) k old l new c

-- a lock, in a mode that is one
abbrev pub LocksIn : Option Mode → ℕ → ℕ → KeptClient → List ℕ → KeptClient → List ℕ → Reply → Type 0
LocksIn None point hi k old l new r = Refused code.BadMode k old l new (code_of r)
LocksIn (Some m) point hi k old l new r =
    let next = commands.locked (meaning k) point hi m in
    Commanded (commands.lock_refusal (meaning k) point hi) next (commands.says_lock next point hi m) k old l new
    (code_of r)

-- the mode is given by its place among all modes
abbrev pub Locks : ℕ → ℕ → ℕ → KeptClient → List ℕ → KeptClient → List ℕ → Reply → Type 0
Locks point hi place k old l new r =
    (r.detail ≡ 0) × LocksIn (slice_get all_modes place) point hi k old l new r

-- a write; there is none if its value is too long
abbrev pub Writes : Option WriteOp → KeptClient → List ℕ → KeptClient → List ℕ → Reply → Type 0
Writes None k old l new r = (r.detail ≡ 0) × Refused code.BadValue k old l new (code_of r)
Writes (Some op) k old l new r =
    let next = commands.wrote (meaning k) op in
    (r.detail ≡ 0)
    × Commanded (commands.write_refusal (meaning k) op) next (commands.says_write next op) k old l new (code_of r)

-- a write that takes the lock that it needs, if that is free
abbrev pub WritesTaking : Option WriteOp → KeptClient → List ℕ → KeptClient → List ℕ → Reply → Type 0
WritesTaking None k old l new r = (r.detail ≡ 0) × Refused code.BadValue k old l new (code_of r)
WritesTaking (Some op) k old l new r =
    let next = commands.seized (meaning k) op in
    (r.detail ≡ 0)
    × Commanded (commands.seize_refusal (meaning k) op) next (commands.says_write next op) k old l new (code_of r)

-- a value has at most 32 bytes
abbrev pub insert_of : ℕ → List ℕ → Option WriteOp
insert_of key bytes = if nat_le (length bytes) max_value_bytes then Some (write.Insert key bytes) else None

abbrev pub put_of : ℕ → List ℕ → Option WriteOp
put_of key bytes = if nat_le (length bytes) max_value_bytes then Some (write.Put key bytes) else None

-- what is held of a span above a mode is given back; there is no mode if its place is not among all modes
abbrev pub Lowers : Bounds → Option Mode → KeptClient → List ℕ → KeptClient → List ℕ → Reply → Type 0
Lowers s None k old l new r = (r.detail ≡ 0) × Refused code.BadMode k old l new (code_of r)
Lowers s (Some keep) k old l new r =
    (r.detail ≡ 0)
    × Commanded (commands.lower_refusal (meaning k) s) (commands.belief_lowered (meaning k) s keep)
    (commands.says_release (meaning k) s keep) k old l new (code_of r)

-- a pin is refused for what is due; otherwise the detail is the pin
abbrev pub PinsAs : Option CommandRefused → Bounds → KeptClient → List ℕ → KeptClient → List ℕ → Reply → Type 0
PinsAs (Some due) s k old l new r = (r.detail ≡ 0) × Refused (refusal_code due) k old l new (code_of r)
PinsAs None s k old l new r =
    (code_of r ≡ Some code.Done) × (new ≡ old) × (free_pin (meaning k) ≡ Some r.detail)
    × (meaning l ≡ commands.pinned (meaning k) s r.detail)

abbrev pub Pins : Bounds → KeptClient → List ℕ → KeptClient → List ℕ → Reply → Type 0
Pins s k old l new r = PinsAs (commands.pin_refusal (meaning k) s) s k old l new r

abbrev pub UnpinsAs : Option CommandRefused → ℕ → KeptClient → List ℕ → KeptClient → List ℕ → Reply → Type 0
UnpinsAs (Some due) id k old l new r = Refused (refusal_code due) k old l new (code_of r)
UnpinsAs None id k old l new r =
    (code_of r ≡ Some code.Done) × (new ≡ old) × (meaning l ≡ commands.unpinned (meaning k) id)

abbrev pub Unpins : ℕ → KeptClient → List ℕ → KeptClient → List ℕ → Reply → Type 0
Unpins id k old l new r = (r.detail ≡ 0) × UnpinsAs (commands.unpin_refusal (meaning k) id) id k old l new r

-- the client's answer, if it finds rows: they are copied into the room, or it is too short
abbrev pub FindsRows : Client → Bounds → List Row → List Row → Reply → Type 0
FindsRows k s was now r =
    (found : List (ℕ × Value)) × commands.ScanGives k s (scan_answer.Rows found) × Copies found was now r

-- what a scan answers; the room stays as it was unless it finds rows
abbrev pub Finds : Client → Bounds → List Row → List Row → Reply → Option Code → Type 0
Finds k s was now r (Some code.Done) = FindsRows k s was now r
Finds k s was now r (Some code.TooShort) = FindsRows k s was now r
Finds k s was now r (Some code.Miss) = commands.ScanGives k s (scan_answer.Miss r.detail) × (now ≡ was)
Finds k s was now r (Some code.Pending) = commands.ScanGives k s (scan_answer.Pending r.detail) × (now ≡ was)
Finds k s was now r (Some code.BadSpan) =
    (commands.scan_refusal s ≡ Some command_refused.BadSpan) × (now ≡ was) × (r.detail ≡ 0)
Finds k s was now r _ = ⊥

abbrev pub Scans : Bounds → List Row → List Row → KeptClient → Reply → Type 0
Scans s was now k r = Finds (meaning k) s was now r (code_of r)
