-- What clients and servers show of themselves, as C sees it.
use Rattle.std.specs.Prelude.{◌≡◌, ◌<◌, ℕ, Bool, true, false, List, [], ◌∷◌, ◌++◌, length, drop, Option, Some, None}
use Rattle.krl_wire.specs.Spelling.{range_tag, key_tag}
use Rattle.krl_durable.specs.declared.record.Record.{Record}
use Rattle.krl_durable.specs.Registers as registers
use Rattle.krl_client.specs.Clients.{Client}
use Rattle.krl_client.specs.Shown.{held, status_of}
use Rattle.krl_client.specs.Commands.{says_bye}
use Rattle.krl_client.specs.Fields as clients
use Rattle.krl_client.specs.declared.status.LockStatus.{LockStatus}
use Rattle.krl_client.specs.declared.status.LockStatus.TheVariants as lock
use Rattle.krl_client.specs.declared.status.WriteStatus.{WriteStatus}
use Rattle.krl_client.specs.declared.status.WriteStatus.TheVariants as written
use Rattle.krl_server.specs.declared.state.State.{State}
use Rattle.krl_server.specs.declared.phase.Phase.{Phase}
use Rattle.krl_server.specs.declared.phase.Phase.TheVariants as phase
use Rattle.krl_server.specs.Settled.{phase_of}
use Rattle.krl_server.specs.StateMeaning as servers
use Rattle.krl_embed.specs.declared.code.Code.{Code}
use Rattle.krl_embed.specs.declared.code.Code.TheVariants as code
use Rattle.krl_embed.specs.declared.client_shows.ClientState.{ClientState}
use Rattle.krl_embed.specs.declared.client_shows.Held.{Held}
use Rattle.krl_embed.specs.declared.endpoint.Endpoint.{Endpoint}
use Rattle.krl_embed.specs.declared.endpoint.Role.{Role}
use Rattle.krl_embed.specs.declared.endpoint.Role.TheVariants as role
use Rattle.krl_embed.specs.declared.reply.Reply.{Reply}
use Rattle.krl_embed.specs.declared.server_calls.ServerState.{ServerState}
use Rattle.krl_embed.specs.declared.server_calls.Recorded.{Recorded}
use Rattle.krl_embed.specs.declared.records.RecordRow.{RecordRow}
use Rattle.krl_embed.specs.Replies.{code_of}
use Rattle.krl_embed.specs.Changes.{outcome_number, optional_outcome_number}
use Rattle.krl_embed.specs.Frames.{said_frames, WaitsBy}
use Rattle.krl_embed.specs.Endpoints.{IsCode}

abbrev pub lock_number : LockStatus → ℕ
lock_number lock.NotAsked = 0
lock_number lock.Waiting = 1
lock_number lock.Granted = 2
lock_number lock.Absent = 3
lock_number lock.Dropped = 4

-- the three numbers of the last write
abbrev pub IsWriteState : WriteStatus → ClientState → Type 0
IsWriteState written.NotWritten r = (r.write ≡ 0) × (r.number ≡ 0) × (r.outcome ≡ 0)
IsWriteState (written.Waiting n) r = (r.write ≡ 1) × (r.number ≡ n) × (r.outcome ≡ 0)
IsWriteState (written.Judged n o) r = (r.write ≡ 2) × (r.number ≡ n) × (r.outcome ≡ outcome_number o)

abbrev pub IsState : Client → ClientState → Type 0
IsState k r =
    IsCode code.Done r.reply × (r.epoch ≡ (status_of k).epoch) × (r.seen ≡ (status_of k).seen)
    × (r.lock ≡ lock_number (status_of k).lock) × IsWriteState (status_of k).write r

abbrev pub IsBlank : Code → ClientState → Type 0
IsBlank c r =
    IsCode c r.reply × (r.epoch ≡ 0) × (r.seen ≡ 0) × (r.lock ≡ 0) × (r.write ≡ 0) × (r.number ≡ 0)
    × (r.outcome ≡ 0)

abbrev pub IsHeld : Client → ℕ → Held → Type 0
IsHeld k p r = IsCode code.Done r.reply × (r.range ≡ range_tag (held k p).0) × (r.key ≡ key_tag (held k p).1)

abbrev pub HoldsNothing : Code → Held → Type 0
HoldsNothing c r = IsCode c r.reply × (r.range ≡ 0) × (r.key ≡ 0)

abbrev pub phase_number : Phase → ℕ
phase_number phase.Recovering = 0
phase_number phase.Serving = 1

abbrev pub IsServerState : State → ServerState → Type 0
IsServerState s r =
    IsCode code.Done r.reply × (r.epoch ≡ (servers.meaning s).durable.epoch)
    × (r.phase ≡ phase_number (phase_of (servers.meaning s).missing))

abbrev pub IsNoServerState : Code → ServerState → Type 0
IsNoServerState c r = IsCode c r.reply × (r.epoch ≡ 0) × (r.phase ≡ 0)

-- what is found is in front of the room's old numbers, or the room is too short and nothing changes
abbrev pub CopiesAs : List ℕ → List ℕ → List ℕ → Option Code → Type 0
CopiesAs found was now (Some code.Done) = now ≡ found ++ drop (length found) was
CopiesAs found was now (Some code.TooShort) = (length was < length found) × (now ≡ was)
CopiesAs found was now _ = ⊥

abbrev pub Copies : List ℕ → List ℕ → List ℕ → Reply → Type 0
Copies found was now r = (r.detail ≡ length found) × CopiesAs found was now (code_of r)

-- or memory is refused
abbrev pub TellsMissingAs : List ℕ → List ℕ → List ℕ → Reply → Option Code → Type 0
TellsMissingAs found was now r (Some code.OutOfMemory) = (now ≡ was) × (r.detail ≡ 0)
TellsMissingAs found was now r _ = Copies found was now r

abbrev pub TellsMissing : List ℕ → List ℕ → State → Reply → Type 0
TellsMissing was now s r = TellsMissingAs (servers.meaning s).missing was now r (code_of r)

abbrev pub flag : Bool → ℕ
flag true = 1
flag false = 0

-- the row of a client's record
abbrev pub record_row : ℕ → Record → RecordRow
record_row c r = record {
  client = c;
  incarnation = r.incarnation;
  last = r.last;
  outcome = optional_outcome_number r.outcome;
  left = flag r.left;
}

-- nobody's record
abbrev pub no_record : RecordRow
no_record = record { client = 0; incarnation = 0; last = 0; outcome = 0; left = 0 }

abbrev pub IsNotRecorded : Code → Recorded → Type 0
IsNotRecorded c r = IsCode c r.reply × (r.record ≡ no_record)

abbrev pub TellsRecord : ℕ → Option Record → Recorded → Type 0
TellsRecord c None r = IsNotRecorded code.BadClient r
TellsRecord c (Some x) r = IsCode code.Done r.reply × (r.record ≡ record_row c x)

abbrev pub IsRecorded : ℕ → State → Recorded → Type 0
IsRecorded c s r = TellsRecord c (registers.record_of (servers.meaning s).durable.register c) r

-- Leaving

-- the client is gone, and its Bye is kept; if memory is refused it stays
abbrev pub GoesTo : Role → Role → Code → Type 0
GoesTo (role.Client k) (role.Left bye) c = bye ≡ says_bye (clients.meaning k) ∷ []
GoesTo (role.Client k) (role.Client l) c = (l ≡ k) × (c ≡ code.OutOfMemory)
GoesTo (role.Client k) (role.Server s) c = ⊥
GoesTo (role.Left bye) now c = now ≡ role.Left bye
GoesTo (role.Server s) now c = (now ≡ role.Server s) × (c ≡ code.NoClient)

-- the Bye waits after all others, or is lost; a client that is gone sends it again
abbrev pub LeavesRole : Role → List ℕ → Role → List ℕ → Reply → Type 0
LeavesRole (role.Client k) old (role.Left bye) new r =
    (bye ≡ says_bye (clients.meaning k) ∷ []) × WaitsBy (said_frames bye) old new (code_of r) × (r.detail ≡ 0)
LeavesRole (role.Client k) old (role.Client l) new r = (l ≡ k) × (new ≡ old) × IsCode code.OutOfMemory r
LeavesRole (role.Client k) old (role.Server s) new r = ⊥
LeavesRole (role.Left bye) old now new r =
    (now ≡ role.Left bye) × WaitsBy (said_frames bye) old new (code_of r) × (r.detail ≡ 0)
LeavesRole (role.Server s) old now new r = (now ≡ role.Server s) × (new ≡ old) × IsCode code.NoClient r

abbrev pub Leaves : Endpoint → Endpoint → Reply → Type 0
Leaves e f r = LeavesRole e.role e.outgoing f.role f.outgoing r
