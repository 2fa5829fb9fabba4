-- What a client refuses, in the written order, and what each command makes of it.
use Rattle.std.specs.Prelude.{◌≡◌, ℕ, suc, Bool, true, false, ◌&&◌, ◌||◌, not, Option, Some, None, is_some, List, [], ◌∷◌, if◌then◌else◌, nat_lt, nat_le}
use Rattle.krl_modes.specs.declared.point.TheConstants.{END}
use Rattle.krl_modes.specs.declared.mode.Mode.{Mode}
use Rattle.krl_modes.specs.Parts.{lets_insert, is_range_X, is_key_X}
use Rattle.krl_modes.specs.Spans.{Bounds, contains}
use Rattle.krl_modes.specs.declared.limits.TheConstants.{MAX_CLIENTS, MAX_PINS}
use Rattle.krl_messages.specs.declared.write_op.WriteOp.{WriteOp}
use Rattle.krl_messages.specs.declared.write_op.WriteOp.TheVariants as write
use Rattle.krl_messages.specs.declared.to_server.ToServer.{ToServer}
use Rattle.krl_messages.specs.declared.to_server.RequestBody.TheVariants as asked
use Rattle.krl_messages.specs.declared.to_server.ToServerBody.TheVariants as said
use Rattle.krl_messages.specs.Values.{Value}
use Rattle.krl_messages.specs.Writes.{op_key, can_seize}
use Rattle.krl_cache.specs.declared.scanned.Scanned.TheVariants as scanned
use Rattle.krl_cache.specs.Beliefs.{Belief, is_span, lower, Scans}
use Rattle.krl_client.specs.declared.refused.CommandRefused.{CommandRefused}
use Rattle.krl_client.specs.declared.refused.CommandRefused.TheVariants as command_refused
use Rattle.krl_client.specs.declared.refused.StartRefused.{StartRefused}
use Rattle.krl_client.specs.declared.refused.StartRefused.TheVariants as start_refused
use Rattle.krl_client.specs.declared.scan_answer.ScanAnswer.{ScanAnswer}
use Rattle.krl_client.specs.declared.scan_answer.ScanAnswer.TheVariants as scan_answer
use Rattle.krl_client.specs.Clients.{Client, Waiting, Outstanding, outstanding, has_joined, is_waiting, is_writing_in, meets_pin, free_pin, with_pin, from, requests}

-- what a write needs of what the client believes
abbrev pub holds_for : Belief → WriteOp → Bool
holds_for b (write.Insert k v) = lets_insert (b.range_at k)
holds_for b (write.Put k v) = is_key_X (b.key_at k)
holds_for b (write.Delete k) =
    is_key_X (b.key_at k) && is_range_X (b.range_at k) && is_range_X (b.range_at (suc k))

-- Refusals

-- a test, and the refusal that is due if it holds
pub record Reason : Type 0 where
  pub holds : Bool
  pub refusal : CommandRefused

-- the refusal, if this holds
abbrev pub due : CommandRefused → Bool → Reason
due r b = record { holds = b; refusal = r }

-- the first that is due
abbrev pub first_reason : List Reason → Option CommandRefused
first_reason [] = None
first_reason (r ∷ rs) = if r.holds then Some r.refusal else first_reason rs

-- why a lock request is refused: here and below in the order of judging, memory aside
abbrev pub lock_refusal : Client → ℕ → ℕ → Option CommandRefused
lock_refusal k point hi =
    first_reason (
    due command_refused.BadPoint (nat_lt END point)
    ∷ due command_refused.BadSpan (not (is_span (record { lo = point; hi = hi })))
    ∷ due command_refused.NotJoined (not (has_joined k))
    ∷ due command_refused.Busy (is_waiting k.asked)
    ∷ due command_refused.Spent (nat_le END k.req)
    ∷ []
    )

-- a write by what the client holds
abbrev pub write_refusal : Client → WriteOp → Option CommandRefused
write_refusal k change =
    first_reason (
    due command_refused.BadPoint (nat_le END (op_key change))
    ∷ due command_refused.NotJoined (not (has_joined k))
    ∷ due command_refused.Writing (is_some (outstanding k.written))
    ∷ due command_refused.NotHeld (not (holds_for k.belief change))
    ∷ due command_refused.Spent (nat_le END k.writes)
    ∷ []
    )

-- a write that seizes the lock that it needs. What the client holds matters only to a write that seizes none
abbrev pub seize_refusal : Client → WriteOp → Option CommandRefused
seize_refusal k change =
    first_reason (
    due command_refused.BadPoint (nat_le END (op_key change))
    ∷ due command_refused.NotJoined (not (has_joined k))
    ∷ due command_refused.Writing (is_some (outstanding k.written))
    ∷ due command_refused.NotHeld (not (can_seize change || holds_for k.belief change))
    ∷ due command_refused.Spent (nat_le END k.writes)
    ∷ []
    )

-- a scan
abbrev pub scan_refusal : Bounds → Option CommandRefused
scan_refusal s = first_reason (due command_refused.BadSpan (not (is_span s)) ∷ [])

-- that a span is given back
abbrev pub lower_refusal : Client → Bounds → Option CommandRefused
lower_refusal k s =
    first_reason (
    due command_refused.BadSpan (not (is_span s))
    ∷ due command_refused.NotJoined (not (has_joined k))
    ∷ due command_refused.Writing (is_writing_in k s)
    ∷ due command_refused.Pinned (meets_pin k s)
    ∷ []
    )

-- a pin
abbrev pub pin_refusal : Client → Bounds → Option CommandRefused
pin_refusal k s =
    first_reason (
    due command_refused.BadSpan (not (is_span s))
    ∷ due command_refused.TooManyPins (not (is_some (free_pin k)))
    ∷ []
    )

-- the end of a pin
abbrev pub unpin_refusal : Client → ℕ → Option CommandRefused
unpin_refusal k id =
    first_reason (
    due command_refused.NotHeld (nat_le MAX_PINS id || not (is_some (k.pins id)))
    ∷ []
    )

-- why no client starts
abbrev pub start_refusal : ℕ → ℕ → Option StartRefused
start_refusal c incarnation =
    if nat_le MAX_CLIENTS c
    then Some start_refused.BadClient
    else (if nat_lt END incarnation then Some start_refused.Spent else None)

-- Effects of a command that is not refused, and what it sends

-- a range is asked for
abbrev pub locked : Client → ℕ → ℕ → Mode → Client
locked k point hi mode = record k { req = suc k.req; asked = Waiting point hi mode }

-- and this asks the server for it
abbrev pub says_lock : Client → ℕ → ℕ → Mode → ToServer
says_lock k point hi mode = requests k (asked.Lock k.req point hi mode)

-- a write is asked for, and whether it seizes the lock that it needs
abbrev pub issued : Client → WriteOp → Bool → Client
issued k change seizes = record k { writes = suc k.writes; written = Outstanding change; seizes = seizes }

-- by what the client holds
abbrev pub wrote : Client → WriteOp → Client
wrote k change = issued k change false

-- by a lock that it seizes
abbrev pub seized : Client → WriteOp → Client
seized k change = issued k change true

-- and this asks the server for it
abbrev pub says_write : Client → WriteOp → ToServer
says_write k change = requests k (asked.Write k.writes change k.seizes)

-- of each point of the span it keeps the meet of what it holds and this mode
abbrev pub belief_lowered : Client → Bounds → Mode → Client
belief_lowered k s keep = record k { belief = lower s keep k.belief }

-- and this tells the server
abbrev pub says_release : Client → Bounds → Mode → ToServer
says_release k s keep = requests k (asked.Release s keep)

-- the span is pinned by this id
abbrev pub pinned : Client → Bounds → ℕ → Client
pinned k s id = record k { pins = with_pin k.pins id (Some s) }

-- the id is free again
abbrev pub unpinned : Client → ℕ → Client
unpinned k id = record k { pins = with_pin k.pins id None }

-- the client leaves
abbrev pub says_bye : Client → ToServer
says_bye k = from k said.Bye

-- Scans

-- Pending exactly if the outstanding write's key lies in the span; otherwise what the cache finds
pub data ScanGives (k : Client) (s : Bounds) : ScanAnswer → Type 0 where
  is_pending :
      (change : WriteOp)
      → outstanding k.written ≡ Some change → contains s (op_key change) ≡ true
      → ScanGives k s (scan_answer.Pending (op_key change))
  finds_rows :
      (rows : List (ℕ × Value))
      → is_writing_in k s ≡ false → Scans k.belief s (scanned.Rows rows)
      → ScanGives k s (scan_answer.Rows rows)
  misses :
      (p : ℕ)
      → is_writing_in k s ≡ false → Scans k.belief s (scanned.Miss p) → ScanGives k s (scan_answer.Miss p)
