-- What a client is, and what it shows of itself.
use Rattle.std.specs.Prelude.{ℕ, zero, suc, Bool, true, false, ◌||◌, Option, Some, None, if◌then◌else◌, nat_eq, nat_lt}
use Rattle.krl_modes.specs.declared.mode.Mode.{Mode}
use Rattle.krl_modes.specs.Spans.{Bounds, contains, meets}
use Rattle.krl_modes.specs.declared.limits.TheConstants.{MAX_PINS}
use Rattle.krl_messages.specs.declared.write_op.WriteOp.{WriteOp}
use Rattle.krl_messages.specs.declared.outcome.Outcome.{Outcome}
use Rattle.krl_messages.specs.declared.to_server.ToServer.{ToServer}
use Rattle.krl_messages.specs.declared.to_server.ToServerBody.{ToServerBody}
use Rattle.krl_messages.specs.declared.to_server.ToServerBody.TheVariants as said
use Rattle.krl_messages.specs.declared.to_server.RequestBody.{RequestBody}
use Rattle.krl_messages.specs.Writes.{op_key}
use Rattle.krl_messages.specs.Members.{map_or}
use Rattle.krl_cache.specs.Beliefs.{Belief, no_belief}

-- the last lock request of this incarnation
pub data LockRequest : Type 0 where
  NotAsked Granted Absent Dropped : LockRequest
  Waiting : (point hi : ℕ) (mode : Mode) → LockRequest

-- its last write
pub data LastWrite : Type 0 where
  Unwritten : LastWrite
  Outstanding : (change : WriteOp) → LastWrite
  Judged : (outcome : Outcome) → LastWrite

-- a client that runs
pub record Client : Type 0 where
  pub number : ℕ
  pub incarnation : ℕ
  pub epoch : ℕ  -- 0 before it has joined
  pub seen : ℕ  -- the number of the last push that it accepted in this epoch
  pub req : ℕ  -- the number of its last lock request in this epoch
  pub asked : LockRequest
  pub writes : ℕ  -- the number of its last write
  pub written : LastWrite
  pub seizes : Bool  -- its last write seizes the lock that it needs, if that is free
  pub belief : Belief
  pub pins : ℕ → Option Bounds  -- 0 to 7

-- nothing is pinned
abbrev pub no_pins : ℕ → Option Bounds
no_pins i = None

-- a client that starts
abbrev pub begun : ℕ → ℕ → Client
begun number incarnation = record {
  number = number;
  incarnation = incarnation;
  epoch = 0;
  seen = 0;
  req = 0;
  asked = NotAsked;
  writes = 0;
  written = Unwritten;
  seizes = false;
  belief = no_belief;
  pins = no_pins;
}

-- the client has learned an epoch
abbrev pub has_joined : Client → Bool
has_joined k = nat_lt 0 k.epoch

-- Its requests and writes

-- the lock request is not answered yet
abbrev pub is_waiting : LockRequest → Bool
is_waiting (Waiting point hi mode) = true
is_waiting other = false

-- the write that is not answered yet
abbrev pub outstanding : LastWrite → Option WriteOp
outstanding (Outstanding change) = Some change
outstanding other = None

-- the span contains the outstanding write's key
abbrev pub is_writing_in : Client → Bounds → Bool
is_writing_in k s = map_or (outstanding k.written) false (λ change. contains s (op_key change))

-- Its pins

-- the span meets one of the first n pins
abbrev pub meets_one : (ℕ → Option Bounds) → ℕ → Bounds → Bool
meets_one pins zero s = false
meets_one pins (suc n) s = map_or (pins n) false (meets s) || meets_one pins n s

-- the span meets a pin
abbrev pub meets_pin : Client → Bounds → Bool
meets_pin k s = meets_one k.pins MAX_PINS s

-- the least free id from i on, of n
abbrev pub free_from : (ℕ → Option Bounds) → ℕ → ℕ → Option ℕ
free_from pins i zero = None
free_from pins i (suc n) = map_or (pins i) (Some i) (λ s. free_from pins (suc i) n)

-- the least free id
abbrev pub free_pin : Client → Option ℕ
free_pin k = free_from k.pins 0 MAX_PINS

-- the pins with another one of this id
abbrev pub with_pin : (ℕ → Option Bounds) → ℕ → Option Bounds → ℕ → Option Bounds
with_pin pins i s j = if nat_eq j i then s else pins j

-- What it sends

-- a message of the client
abbrev pub from : Client → ToServerBody → ToServer
from k what = record { client = k.number; incarnation = k.incarnation; body = what }

-- a request, with its epoch and the last push that it accepted
abbrev pub requests : Client → RequestBody → ToServer
requests k what =
    from k (said.Request (record { epoch = k.epoch; seen = k.seen; body = what }))
