-- The case that a message meets, in the order of judging. The numbers are those of docs/PROTOCOL.md, "The server".
use Rattle.std.specs.Prelude.{ℕ, suc, Bool, true, false, not, ◌&&◌, ◌||◌, Option, Some, None, List, [], ◌∷◌, nat_eq, nat_lt, nat_le, if◌then◌else◌}
use Rattle.krl_modes.specs.declared.point.TheConstants.{END, TOP}
use Rattle.krl_modes.specs.declared.mode.Mode.{Mode}
use Rattle.krl_modes.specs.Spans.{Bounds}
use Rattle.krl_modes.specs.Constants.{max_clients}
use Rattle.krl_messages.specs.declared.pieces.Pieces.{Pieces}
use Rattle.krl_messages.specs.declared.write_op.WriteOp.{WriteOp}
use Rattle.krl_messages.specs.declared.outcome.Outcome.{Outcome}
use Rattle.krl_messages.specs.declared.to_server.ToServer.{ToServer}
use Rattle.krl_messages.specs.declared.to_server.ToServerBody.{ToServerBody}
use Rattle.krl_messages.specs.declared.to_server.ToServerBody.TheVariants as said
use Rattle.krl_messages.specs.declared.to_server.Request.{Request}
use Rattle.krl_messages.specs.declared.to_server.RequestBody.{RequestBody}
use Rattle.krl_messages.specs.declared.to_server.RequestBody.TheVariants as asked
use Rattle.krl_messages.specs.declared.to_client.PushBody.{PushBody}
use Rattle.krl_durable.specs.declared.record.Record.{Record}
use Rattle.krl_durable.specs.Registers.{record_of}
use Rattle.krl_messages.specs.Writes.{op_key}
use Rattle.krl_durable.specs.Writes.{held, judge}
use Rattle.krl_table.specs.Rows.{column, waits}
use Rattle.krl_table.specs.Reports.{conflicts}
use Rattle.krl_server.specs.Servers.{Server, is_recovering, lists}
use Rattle.krl_server.specs.Seizing.{may_seize}

-- what a message comes to
pub data Case : Type 0 where
  Ignored : Case
  Registers : Case  -- a new incarnation
  Leaves : Case
  Tells : Case  -- Epoch is sent, and nothing else happens
  Alarms : Case  -- the report contradicts another client's modes
  Rebuilds : Pieces → Case
  Repeats : PushBody → Case  -- the push that is not acknowledged is sent again
  Acknowledges : Case  -- the last push is acknowledged, and nothing more
  Lowers : Bounds → Mode → Case
  Waits : ℕ → ℕ → ℕ → Mode → Case  -- request number, point, end, mode
  Judges : ℕ → WriteOp → Outcome → Case  -- a new write, and its number
  SeizesLock : ℕ → WriteOp → Case  -- a new write that is applied with the lock that it seizes, and its number
  AnswersAgain : ℕ → WriteOp → Outcome → Case  -- the last write, and its number

-- a test, and the case that is met if it holds, or unless it holds
pub data Rule : Type 0 where
  If : Bool → Case → Rule
  Unless : Bool → Case → Rule

-- the case of the first rule that decides, or this one if none does
abbrev pub first_rule : List Rule → Case → Case
first_rule [] other = other
first_rule (If test met ∷ rules) other = if test then met else first_rule rules other
first_rule (Unless test met ∷ rules) other = if test then first_rule rules other else met

-- the outcome of a new write of the client
abbrev pub judged : Server → ℕ → WriteOp → Outcome
judged s c op = judge s.durable.room s.durable.index op (held s.durable.index (column s.rows c) op)

-- the last write again. If no write was judged there is no outcome
abbrev pub case_of_repeated_write : ℕ → WriteOp → Option Outcome → Case
case_of_repeated_write number op None = Acknowledges
case_of_repeated_write number op (Some o) = AnswersAgain number op o

-- the key is no key, or the number is none of a write
abbrev pub is_bad_write : ℕ → WriteOp → Bool
is_bad_write number op = not (nat_lt (op_key op) END) || (nat_eq number 0 || nat_lt END number)

-- a new write: it seizes the lock that it needs, if it asks for that and the lock is free; or it is judged by what its
-- client holds
abbrev pub case_of_new_write : Server → ℕ → ℕ → WriteOp → Bool → Case
case_of_new_write s c number op seizes =
    if seizes && may_seize s c op then SeizesLock number op else Judges number op (judged s c op)

-- 9: a write of the next number, or of the last one's, or one that is passed over
abbrev pub case_of_write : Server → ℕ → Record → ℕ → WriteOp → Bool → Case
case_of_write s c r number op seizes =
    first_rule (
    If (is_bad_write number op) Acknowledges
    ∷ If (nat_eq number (suc r.last)) (case_of_new_write s c number op seizes)
    ∷ If (nat_eq number r.last) (case_of_repeated_write number op r.outcome)
    ∷ []
    ) Acknowledges

-- the points from this one on below hi are some points
abbrev pub has_points : ℕ → ℕ → Bool
has_points point hi = not (nat_lt END point) && (nat_lt point hi && nat_le hi TOP)

-- 9: a lock request of the next number, from a client that does not wait, or one that is passed over
abbrev pub case_of_lock : Server → ℕ → ℕ → ℕ → ℕ → Mode → Case
case_of_lock s c req point hi g =
    if nat_eq req (suc (s.sessions c).last_request) && (not (waits s.durable.index s.rows c) && has_points point hi)
    then Waits req point hi g else Acknowledges

-- 9: what is asked by a client that has seen the last push
abbrev pub case_of_request : Server → ℕ → Record → RequestBody → Case
case_of_request s c r (asked.Lock req point hi g) = case_of_lock s c req point hi g
case_of_request s c r (asked.Write number op seizes) = case_of_write s c r number op seizes
case_of_request s c r (asked.Release span keep) = Lowers span keep
case_of_request s c r asked.Ack = Acknowledges

-- 8: `seen` is one less than the number of the push that is not acknowledged, or any other number
abbrev pub case_of_late : ℕ → ℕ → Option PushBody → Case
case_of_late seen last_push None = Ignored
case_of_late seen last_push (Some body) = if nat_eq (suc seen) last_push then Repeats body else Ignored

-- 9 if the last push was seen, and otherwise 8
abbrev pub case_of_seen : Server → ℕ → Record → Request → Case
case_of_seen s c r request =
    if nat_eq request.seen (s.sessions c).last_push then case_of_request s c r request.body
    else case_of_late request.seen (s.sessions c).last_push (s.sessions c).unacked

-- 6: a report, of a client that is missing or of any other
abbrev pub case_of_report : Server → ℕ → Pieces → Case
case_of_report s c pieces =
    first_rule (
    Unless (lists s.missing c) Ignored
    ∷ If (conflicts s.durable.index s.rows c pieces) Alarms
    ∷ []
    ) (Rebuilds pieces)

-- of the registered incarnation, which has not left: Hello is in 2, and Bye is 4
abbrev pub case_of_body : Server → ℕ → Record → ToServerBody → Case
case_of_body s c r said.Hello = Tells
case_of_body s c r said.Bye = Leaves
case_of_body s c r (said.Report epoch pieces) =
    if nat_eq epoch s.durable.epoch then case_of_report s c pieces else Tells  -- 6, or 5
case_of_body s c r (said.Request request) =
    first_rule (
    Unless (nat_eq request.epoch s.durable.epoch) Tells  -- 5
    ∷ If (is_recovering s.missing) Ignored  -- 7
    ∷ []
    ) (case_of_seen s c r request)

-- 2 and 3: of an incarnation above the registered one, or if none is registered
abbrev pub case_of_newer : ToServerBody → Case
case_of_newer said.Hello = Registers
case_of_newer other = Ignored

-- by the record of its client
abbrev pub case_of_record : Server → ToServer → Option Record → Case
case_of_record s m None = case_of_newer m.body
case_of_record s m (Some r) =
    first_rule (
    If (nat_lt r.incarnation m.incarnation) (case_of_newer m.body)  -- 2 and 3
    ∷ If (nat_lt m.incarnation r.incarnation || r.left) Ignored  -- 3
    ∷ []
    ) (case_of_body s m.client r m.body)

-- 1: the sender's number or incarnation is none of a client
abbrev pub is_malformed : ToServer → Bool
is_malformed m = not (nat_lt m.client max_clients) || (nat_eq m.incarnation 0 || nat_lt END m.incarnation)

-- the case of a message
abbrev pub case_of : Server → ToServer → Case
case_of s m = if is_malformed m then Ignored else case_of_record s m (record_of s.durable.register m.client)

-- the step reports Alarm
abbrev pub is_alarm : Case → Bool
is_alarm Alarms = true
is_alarm other = false

-- the case registers the message's client again, or marks it left
abbrev pub clears : Case → Bool
clears Registers = true
clears Leaves = true
clears other = false
