-- What the fields of a client stand for.
use Rattle.std.specs.Prelude.{ℕ, Bool, Option, None, List, slice_index_or}
use Rattle.krl_modes.specs.Spans.{Bounds}
use Rattle.krl_cache.specs.Maps.{Maps, maps_believe}
use Rattle.krl_client.specs.declared.lock_request.LockRequest as kept_asked
use Rattle.krl_client.specs.declared.lock_request.LockRequest.TheVariants as lock_request
use Rattle.krl_client.specs.declared.last_write.LastWrite as kept_written
use Rattle.krl_client.specs.declared.last_write.LastWrite.TheVariants as written
use Rattle.krl_client.specs.Clients.{Client, LockRequest, NotAsked, Waiting, Granted, Absent, Dropped, LastWrite, Unwritten, Outstanding, Judged}

-- its last lock request
abbrev pub asked_of : kept_asked.LockRequest → LockRequest
asked_of lock_request.NotAsked = NotAsked
asked_of (lock_request.Waiting point hi mode) = Waiting point hi mode
asked_of lock_request.Granted = Granted
asked_of lock_request.Absent = Absent
asked_of lock_request.Dropped = Dropped

-- its last write
abbrev pub written_of : kept_written.LastWrite → LastWrite
written_of written.Unwritten = Unwritten
written_of (written.Outstanding change) = Outstanding change
written_of (written.Judged outcome) = Judged outcome

-- the pin of an id, if pins stand in the order of their ids
abbrev pub pins_of : List (Option Bounds) → ℕ → Option Bounds
pins_of spans id = slice_index_or spans id None

-- what the fields hold, apart from its memory
pub record KeptClient : Type 0 where
  pub number : ℕ
  pub incarnation : ℕ
  pub epoch : ℕ
  pub seen : ℕ
  pub req : ℕ
  pub asked : kept_asked.LockRequest
  pub writes : ℕ
  pub written : kept_written.LastWrite
  pub seizes : Bool
  pub cache : Maps
  pub pins : List (Option Bounds)

-- the client that it stands for
abbrev pub meaning : KeptClient → Client
meaning k = record {
  number = k.number;
  incarnation = k.incarnation;
  epoch = k.epoch;
  seen = k.seen;
  req = k.req;
  asked = asked_of k.asked;
  writes = k.writes;
  written = written_of k.written;
  seizes = k.seizes;
  belief = maps_believe k.cache;
  pins = pins_of k.pins;
}
