-- The lines that a script prints.
use Rattle.std.specs.Prelude.{ℕ, nat_lt, if◌then◌else◌, List, [], ◌∷◌, ◌++◌, codes, Option, None, Some, Result, Ok, Err, nat_le}
use Rattle.std.specs.List.{flat_map}
use Rattle.std.specs.Fmt.{decimal}
use Rattle.krl_modes.specs.declared.point.TheConstants.{END}
use Rattle.krl_modes.specs.declared.part.RangePart.{RangePart}
use Rattle.krl_modes.specs.declared.part.KeyPart.{KeyPart}
use Rattle.krl_modes.specs.declared.mode.Mode.{Mode}
use Rattle.krl_modes.specs.declared.mode.Mode.TheVariants as mode
use Rattle.krl_modes.specs.Names.{range_part_name, key_part_name, mode_name}
use Rattle.krl_modes.specs.Modes.{compatible, join}
use Rattle.std.specs.FinMap as map
use Rattle.krl_modes.specs.declared.limits.TheConstants.{MAX_CLIENTS}
use Rattle.hex.specs.Hex.{encode_lower}
use Rattle.krl_messages.specs.Values.{Value}
use Rattle.krl_messages.specs.Numbers.{number_of}
use Rattle.krl_messages.specs.declared.outcome.Outcome.{Outcome}
use Rattle.krl_messages.specs.declared.outcome.Outcome.TheVariants as outcome
use Rattle.krl_durable.specs.Index.{Index}
use Rattle.krl_client.specs.declared.status.Status.{Status}
use Rattle.krl_client.specs.declared.status.LockStatus.{LockStatus}
use Rattle.krl_client.specs.declared.status.LockStatus.TheVariants as lock
use Rattle.krl_client.specs.declared.status.WriteStatus.{WriteStatus}
use Rattle.krl_client.specs.declared.status.WriteStatus.TheVariants as written
use Rattle.krl_client.specs.Clients.{Client}
use Rattle.krl_client.specs.Shown.{status_of}
use Rattle.krl_steps.specs.declared.applied_write.AppliedWrite.{AppliedWrite}
use Rattle.krl_steps.specs.declared.answer.Answer.{Answer}
use Rattle.krl_steps.specs.declared.answer.Answer.TheVariants as answered
use Rattle.krl_steps.specs.Names.{refusal_name}
use Rattle.krl_steps.specs.declared.refused.Refused.{Refused}
use Rattle.krl_steps.specs.declared.refused.Refused.TheVariants as refused
use Rattle.krl_text.specs.declared.fault.SyntaxFault.{SyntaxFault}
use Rattle.krl_text.specs.declared.fault.SyntaxFault.TheVariants.{TextTooLong, TooManyLines, LineTooLong, UnknownWord, MissingArgument, ExtraArgument, BadNumber, BadPair, BadValue, BadMode, LateSeed}

-- a text as a line
abbrev pub line_of : List ℕ → List ℕ
line_of text = text ++ 10 ∷ []

-- the line of a refusal
abbrev pub refused_line : Refused → List ℕ
refused_line r = line_of (codes "refused " ++ refusal_name r)

abbrev pub number_or_bytes : Option ℕ → Value → List ℕ
number_or_bytes (Some n) v = decimal n
number_or_bytes None v = codes "x" ++ encode_lower v

-- a value: its number if it has eight bytes; otherwise 'x' and its bytes as two hexadecimal digits each
abbrev pub value_text : Value → List ℕ
value_text v = number_or_bytes (number_of v) v

-- a row: a space, the key, '=' and the value
abbrev pub row_text : ℕ × Value → List ℕ
row_text row = codes " " ++ decimal row.0 ++ codes "=" ++ value_text row.1

-- the line of a scan's rows
abbrev pub rows_line : List (ℕ × Value) → List ℕ
rows_line rows = line_of (codes "rows" ++ flat_map row_text rows)

-- what an answer prints
abbrev pub answer_lines : Answer → List ℕ
answer_lines answered.Done = []
answer_lines (answered.Pinned id) = line_of (codes "pin " ++ decimal id)
answer_lines (answered.Rows rows) = rows_line rows
answer_lines (answered.Miss p) = line_of (codes "miss " ++ decimal p)
answer_lines (answered.Pending k) = line_of (codes "pending " ++ decimal k)

-- what a step of the world prints
abbrev pub outcome_lines : Result Answer Refused → List ℕ
outcome_lines (Ok a) = answer_lines a
outcome_lines (Err r) = refused_line r

-- The line of what a client holds at a point. A client above 63 is refused, and then a point above
-- END.
abbrev pub hold_line : ℕ → ℕ → RangePart → KeyPart → List ℕ
hold_line c p r k =
    if nat_le MAX_CLIENTS c then refused_line refused.BadClient
    else (if nat_lt END p then refused_line refused.BadPoint
    else line_of (codes "hold " ++ range_part_name r ++ codes " " ++ key_part_name k))

-- what became of the last lock request of this incarnation
abbrev pub lock_text : LockStatus → List ℕ
lock_text lock.NotAsked = codes "none"
lock_text lock.Waiting = codes "waiting"
lock_text lock.Granted = codes "granted"
lock_text lock.Absent = codes "absent"
lock_text lock.Dropped = codes "dropped"

abbrev pub outcome_name : Outcome → List ℕ
outcome_name outcome.Applied = codes "Applied"
outcome_name outcome.Exists = codes "Exists"
outcome_name outcome.Absent = codes "Absent"
outcome_name outcome.NotHeld = codes "NotHeld"
outcome_name outcome.Full = codes "Full"

-- what became of the last write of this incarnation, after its number
abbrev pub write_text : WriteStatus → List ℕ
write_text written.NotWritten = codes "none"
write_text (written.Waiting n) = decimal n ++ codes " waiting"
write_text (written.Judged n o) = decimal n ++ codes " " ++ outcome_name o

-- the epoch, the last push that was accepted, the last lock request and the last write
abbrev pub status_text : Status → List ℕ
status_text s =
    codes "status " ++ decimal s.epoch ++ codes " " ++ decimal s.seen ++ codes " "
    ++ lock_text s.lock ++ codes " " ++ write_text s.write

-- the line of the client that runs, if one does
abbrev pub state_line : Option Client → List ℕ
state_line None = line_of (codes "status down")
state_line (Some k) = line_of (status_text (status_of k))

-- the line of a client's state; a client above 63 is refused
abbrev pub status_line : ℕ → Option Client → List ℕ
status_line c k = if nat_le MAX_CLIENTS c then refused_line refused.BadClient else state_line k

-- a number after a space
abbrev pub number_text : ℕ → List ℕ
number_text n = codes " " ++ decimal n

-- the line of the clients that have not reported, in order of first registration
abbrev pub list_line : List ℕ → List ℕ
list_line clients = line_of (codes "missing" ++ flat_map number_text clients)

-- the line of the index, in key order
abbrev pub index_line : Index → List ℕ
index_line m = line_of (codes "index" ++ flat_map row_text (map.entries m))

-- an applied write: its client, incarnation and number
abbrev pub applied_text : AppliedWrite → List ℕ
applied_text w =
    codes " " ++ decimal w.client ++ codes "." ++ decimal w.incarnation ++ codes "." ++ decimal w.number

-- the line of the applied writes, oldest first
abbrev pub writes_line : List AppliedWrite → List ℕ
writes_line writes = line_of (codes "writes" ++ flat_map applied_text writes)

-- the line of whether what clients hold is compatible, or the least point at which it is not
abbrev pub check_line : Option ℕ → List ℕ
check_line None = line_of (codes "sound")
check_line (Some p) = line_of (codes "unsound " ++ decimal p)

-- the published modes, in the order of the tables
abbrev pub published : List Mode
published =
    mode.S ∷ mode.U ∷ mode.X ∷ mode.RangeSS ∷ mode.RangeSU ∷ mode.RangeIN ∷ mode.RangeXX ∷ []

-- the pairs of published modes whose joins are the conversion modes
abbrev pub conversions : List (Mode × Mode)
conversions =
    (mode.S, mode.RangeIN) ∷ (mode.U, mode.RangeIN) ∷ (mode.X, mode.RangeIN)
    ∷ (mode.RangeIN, mode.RangeSS) ∷ (mode.RangeIN, mode.RangeSU) ∷ []

-- the name of the second mode, if it is compatible with the first
abbrev pub beside_text : Mode → Mode → List ℕ
beside_text m other = if compatible m other then codes " " ++ mode_name other else []

-- a mode, and the published modes that are compatible with it
abbrev pub compatible_line : Mode → List ℕ
compatible_line m =
    line_of (codes "compat " ++ mode_name m ++ codes ":" ++ flat_map (beside_text m) published)

-- two modes and their join
abbrev pub join_line : Mode × Mode → List ℕ
join_line pair =
    line_of (codes "join " ++ mode_name pair.0 ++ codes " " ++ mode_name pair.1
    ++ codes " = " ++ mode_name (join pair.0 pair.1))

-- the tables of modes
unfoldable pub modes_lines : List ℕ
modes_lines = flat_map compatible_line published ++ flat_map join_line conversions

-- the same tables, as they are read
abbrev pub tables_of_modes : List (List ℕ)
tables_of_modes =
    codes "compat S: S U RangeS-S RangeS-U RangeI-N"
    ∷ codes "compat U: S RangeS-S RangeI-N"
    ∷ codes "compat X: RangeI-N"
    ∷ codes "compat RangeS-S: S U RangeS-S RangeS-U"
    ∷ codes "compat RangeS-U: S RangeS-S"
    ∷ codes "compat RangeI-N: S U X RangeI-N"
    ∷ codes "compat RangeX-X:"
    ∷ codes "join S RangeI-N = RangeI-S"
    ∷ codes "join U RangeI-N = RangeI-U"
    ∷ codes "join X RangeI-N = RangeI-X"
    ∷ codes "join RangeI-N RangeS-S = RangeX-S"
    ∷ codes "join RangeI-N RangeS-U = RangeX-U"
    ∷ []

-- the line of deliveries that reached their bound
abbrev pub unsettled_line : List ℕ
unsettled_line = line_of (codes "unsettled")

-- a fault as a transcript reports it
abbrev pub fault_text : SyntaxFault → List ℕ
fault_text TextTooLong = codes "text too long"
fault_text TooManyLines = codes "too many lines"
fault_text LineTooLong = codes "line too long"
fault_text UnknownWord = codes "unknown word"
fault_text MissingArgument = codes "missing argument"
fault_text ExtraArgument = codes "extra argument"
fault_text BadNumber = codes "bad number"
fault_text BadPair = codes "bad pair"
fault_text BadValue = codes "bad value"
fault_text BadMode = codes "bad mode"
fault_text LateSeed = codes "late seed"

-- the line of a fault in the line of number n
abbrev pub fault_line : ℕ → SyntaxFault → List ℕ
fault_line n what = line_of (codes "fault line " ++ decimal n ++ codes ": " ++ fault_text what)
