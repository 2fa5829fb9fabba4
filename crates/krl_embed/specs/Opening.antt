-- What opening a client or a server does.
use Rattle.std.specs.Prelude.{◌≡◌, ◌≤◌, ◌<◌, ◌⊎◌, ℕ, suc, List, [], ◌∷◌, length, map, Option, Some, None, nat_eq, true, nat_le}
use Rattle.std.specs.Prelude.{if◌then◌else◌, ◌==◌, nat_lt, unwrap_or, nat_le}
use Rattle.std.specs.List.{AllByRecursion, IsDistinct}
use Rattle.std.specs.Map.{keys_of}
use Rattle.krl_modes.specs.declared.point.TheConstants.{END}
use Rattle.krl_modes.specs.declared.limits.TheConstants.{MAX_CLIENTS}
use Rattle.krl_durable.specs.declared.refused.EntriesRefused.{EntriesRefused}
use Rattle.krl_durable.specs.declared.refused.EntriesRefused.TheVariants as entries_refused
use Rattle.krl_durable.specs.declared.limits.Limits.{Limits}
use Rattle.krl_durable.specs.Registers.{Durable}
use Rattle.krl_durable.specs.Remade.{of_parts}
use Rattle.krl_durable.specs.InitialEntries.{Refuses, AreGood}
use Rattle.krl_durable.specs.Writes.{IsRoom, IsReach}
use Rattle.krl_client.specs.Clients.{begun}
use Rattle.krl_client.specs.Ticks.{says_hello}
use Rattle.krl_client.specs.Fields as clients
use Rattle.krl_server.specs.StateMeaning as servers
use Rattle.krl_server.specs.Steps.{start}
use Rattle.krl_embed.specs.declared.code.Code.{Code}
use Rattle.krl_embed.specs.declared.code.Code.TheVariants as code
use Rattle.krl_embed.specs.declared.endpoint.Endpoint.{Endpoint}
use Rattle.krl_embed.specs.declared.endpoint.Role.{Role}
use Rattle.krl_embed.specs.declared.endpoint.Role.TheVariants as role
use Rattle.krl_embed.specs.declared.records.RecordRow.{RecordRow}
use Rattle.krl_embed.specs.declared.reply.Reply.{Reply}
use Rattle.krl_embed.specs.declared.rows.Row.{Row}
use Rattle.krl_embed.specs.Replies.{code_of}
use Rattle.krl_embed.specs.Rows.{entry_of, HasValue, IsTooLong}
use Rattle.krl_embed.specs.Records.{IsFirstBad, is_record, record_of}
use Rattle.krl_embed.specs.Frames.{said_frames}
use Rattle.krl_embed.specs.Endpoints.{IsCode}
use Rattle.krl_embed.specs.Notes.{opening}

-- a client that starts, whose Hello waits
abbrev pub IsBegunRole : ℕ → ℕ → Role → Type 0
IsBegunRole number incarnation (role.Client k) = clients.meaning k ≡ begun number incarnation
IsBegunRole number incarnation (role.Left bye) = ⊥
IsBegunRole number incarnation (role.Server s) = ⊥

abbrev pub IsBegun : ℕ → ℕ → Endpoint → Type 0
IsBegun number incarnation e =
    IsBegunRole number incarnation e.role
    × (e.outgoing ≡ said_frames (says_hello (begun number incarnation) ∷ [])) × (e.notes ≡ opening)

-- why no client starts, apart from memory: the first of these
abbrev pub client_refusal : ℕ → ℕ → Option Code
client_refusal number incarnation =
    if nat_le MAX_CLIENTS number then Some code.BadClient
    else (if incarnation == 0 then Some code.BadIncarnation
    else (if nat_lt END incarnation then Some code.Spent else None))

-- a closed handle is open afterwards exactly if the code is Done
abbrev pub BeginsClosed : ℕ → ℕ → Option Endpoint → Reply → Type 0
BeginsClosed number incarnation None r = IsCode (unwrap_or (client_refusal number incarnation) code.OutOfMemory) r
BeginsClosed number incarnation (Some e) r =
    IsCode code.Done r × (client_refusal number incarnation ≡ None) × IsBegun number incarnation e

abbrev pub Begins : ℕ → ℕ → Option Endpoint → Option Endpoint → Reply → Type 0
Begins number incarnation None after r = BeginsClosed number incarnation after r
Begins number incarnation (Some e) after r = (after ≡ Some e) × IsCode code.OpenAlready r

-- what was kept, with these limits
abbrev pub parts : Limits → ℕ → List Row → List RecordRow → Durable
parts l epoch entries records = of_parts l (map entry_of entries) epoch (map record_of records)

-- a server that starts on what was kept
abbrev pub IsStartedRole : Durable → Role → Type 0
IsStartedRole d (role.Server s) = servers.meaning s ≡ start d
IsStartedRole d (role.Client k) = ⊥
IsStartedRole d (role.Left bye) = ⊥

abbrev pub refused_code : EntriesRefused → Code
refused_code entries_refused.OutOfMemory = code.OutOfMemory
refused_code entries_refused.BadKey = code.BadKey
refused_code entries_refused.Twice = code.Twice
refused_code entries_refused.Full = code.Full

-- what is reported of a record at this place that is refused: its place, if it is bad
abbrev pub place_said : Code → ℕ → ℕ
place_said code.BadRecord i = i
place_said _ i = 0

-- the record at the detail's place is the first bad one, or memory is refused
abbrev pub RefusesRecordsAs : List RecordRow → ℕ → Option Code → Type 0
RefusesRecordsAs records i (Some code.BadRecord) = IsFirstBad records i
RefusesRecordsAs records i (Some code.OutOfMemory) = i ≡ 0
RefusesRecordsAs records i _ = ⊥

abbrev pub RefusesRecords : List RecordRow → Reply → Type 0
RefusesRecords records r = RefusesRecordsAs records r.detail (code_of r)

-- there is an epoch for the start, and each value fits
abbrev pub HasValues : ℕ → List Row → Type 0
HasValues epoch entries = (epoch < END) × AllByRecursion HasValue entries

-- in addition, each record is a client's, and no client has two
pub record HasParts (epoch : ℕ) (entries : List Row) (records : List RecordRow) : Type 0 where
  pub below : epoch < END
  pub values : AllByRecursion HasValue entries
  pub each : AllByRecursion (λ r. is_record r ≡ true) records
  pub once : IsDistinct nat_eq (keys_of (map record_of records))

-- no index with this room begins with the entries, of which nothing else is wrong
abbrev pub RefusesEntries : ℕ → ℕ → List Row → List RecordRow → ℕ → EntriesRefused → Type 0
RefusesEntries room epoch entries records i why =
    HasParts epoch entries records × Refuses room (map entry_of entries) why × (i ≡ 0)

-- why none starts with this room: the first reason in the order of these lines, or memory
abbrev pub RefusesParts : ℕ → ℕ → List Row → List RecordRow → ℕ → Option Code → Type 0
RefusesParts room epoch entries records i (Some code.Spent) = (END ≤ epoch) × (i ≡ 0)
RefusesParts room epoch entries records i (Some code.BadValue) = (epoch < END) × IsTooLong entries i
RefusesParts room epoch entries records i (Some code.BadRecord) = HasValues epoch entries × IsFirstBad records i
RefusesParts room epoch entries records i (Some code.Full) =
    RefusesEntries room epoch entries records i entries_refused.Full
RefusesParts room epoch entries records i (Some code.BadKey) =
    RefusesEntries room epoch entries records i entries_refused.BadKey
RefusesParts room epoch entries records i (Some code.Twice) =
    RefusesEntries room epoch entries records i entries_refused.Twice
RefusesParts room epoch entries records i (Some code.OutOfMemory) = i ≡ 0
RefusesParts room epoch entries records i _ = ⊥

abbrev pub RefusesKept : ℕ → ℕ → List Row → List RecordRow → Reply → Type 0
RefusesKept room epoch entries records r = RefusesParts room epoch entries records r.detail (code_of r)

-- a server can have these limits
abbrev pub AreLimits : Limits → Type 0
AreLimits l = IsRoom l.room × IsReach l.reach

-- or none can: the room is refused first
abbrev pub RefusesLimits : Limits → Reply → Type 0
RefusesLimits l r =
    ((IsRoom l.room → ⊥) × IsCode code.BadRoom r)
    ⊎ (IsRoom l.room × (IsReach l.reach → ⊥) × IsCode code.BadReach r)

-- no server can have such limits; or one can, and none starts
abbrev pub RefusesOpening : Limits → ℕ → List Row → List RecordRow → Reply → Type 0
RefusesOpening l epoch entries records r =
    RefusesLimits l r ⊎ (AreLimits l × RefusesKept l.room epoch entries records r)

-- nothing is wrong with the limits, nor with what was kept
pub record MayOpen (l : Limits) (epoch : ℕ) (entries : List Row) (records : List RecordRow) : Type 0 where
  pub limits : AreLimits l
  pub parts : HasParts epoch entries records
  pub few : length (map entry_of entries) ≤ l.room
  pub keys : AreGood (map entry_of entries) (length (map entry_of entries))

abbrev pub OpensClosed : Limits → ℕ → List Row → List RecordRow → Option Endpoint → Reply → Type 0
OpensClosed l epoch entries records None r = RefusesOpening l epoch entries records r
OpensClosed l epoch entries records (Some e) r =
    (code_of r ≡ Some code.Done) × (r.detail ≡ suc epoch) × MayOpen l epoch entries records
    × IsStartedRole (parts l epoch entries records) e.role × (e.outgoing ≡ []) × (e.notes ≡ opening)

abbrev pub Opens : Limits → ℕ → List Row → List RecordRow → Option Endpoint → Option Endpoint → Reply → Type 0
Opens l epoch entries records None after r = OpensClosed l epoch entries records after r
Opens l epoch entries records (Some e) after r = (after ≡ Some e) × IsCode code.OpenAlready r
