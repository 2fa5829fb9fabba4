-- Writes: what each needs, how it is judged, and what it makes of the index and the register.
use Rattle.std.specs.Prelude.{ℕ, suc, ◌≤◌, Bool, not, ◌&&◌, nat_lt, length, Option, Some, None, is_some, if◌then◌else◌}
use Rattle.std.specs.FinMap as map
use Rattle.krl_modes.specs.declared.mode.Mode.{Mode}
use Rattle.krl_modes.specs.Modes.{range_of, key_of}
use Rattle.krl_modes.specs.Parts.{lets_insert, is_range_X, is_key_X}
use Rattle.krl_modes.specs.declared.limits.TheConstants.{MAX_ROOM, MAX_HOLDINGS}
use Rattle.krl_messages.specs.declared.write_op.WriteOp.{WriteOp}
use Rattle.krl_messages.specs.declared.write_op.WriteOp.TheVariants as write
use Rattle.krl_messages.specs.declared.outcome.Outcome.{Outcome}
use Rattle.krl_messages.specs.declared.outcome.Outcome.TheVariants as outcome
use Rattle.krl_messages.specs.Writes.{is_applied}
use Rattle.krl_messages.specs.Members.{map_or}
use Rattle.krl_durable.specs.declared.record.Record.{Record}
use Rattle.krl_durable.specs.Index.{Index, slot_of}
use Rattle.krl_durable.specs.Registers.{Durable, record_of, with_record}

-- an index can have room for so many entries
abbrev pub IsRoom : ℕ → Type 0
IsRoom n = (1 ≤ n) × (n ≤ MAX_ROOM)

-- a grant can reach at most so many slots
abbrev pub IsReach : ℕ → Type 0
IsReach n = (1 ≤ n) × (n ≤ MAX_HOLDINGS)

-- the writer's modes, by slot, are what the write needs
abbrev pub held : Index → (ℕ → Mode) → WriteOp → Bool
held m modes (write.Insert k v) = lets_insert (range_of (modes (slot_of m k)))
held m modes (write.Put k v) = is_key_X (key_of (modes k))
held m modes (write.Delete k) =
    is_key_X (key_of (modes k)) && is_range_X (range_of (modes k))
    && is_range_X (range_of (modes (slot_of m (suc k))))

-- an insert, if its key is an entry, the writer may, the index has no room
abbrev pub judged_insert : Bool → Bool → Bool → Outcome
judged_insert present may full =
    if present then outcome.Exists
    else (if may then (if full then outcome.Full else outcome.Applied) else outcome.NotHeld)

-- a put or delete, if its key is an entry, the writer may
abbrev pub judged_change : Bool → Bool → Outcome
judged_change present may =
    if present then (if may then outcome.Applied else outcome.NotHeld) else outcome.Absent

-- how a write is judged in an index with room for so many entries, by whether the writer has what it needs
abbrev pub judge : ℕ → Index → WriteOp → Bool → Outcome
judge room m (write.Insert k v) may =
    judged_insert (is_some (map.get m k)) may (not (nat_lt (length (map.entries m)) room))
judge room m (write.Put k v) may = judged_change (is_some (map.get m k)) may
judge room m (write.Delete k) may = judged_change (is_some (map.get m k)) may

-- what a write makes of the index
abbrev pub written : Index → WriteOp → Index
written m (write.Insert k v) = map.insert m k v
written m (write.Put k v) = map.insert m k v
written m (write.Delete k) = map.remove m k

-- it does so only if it is Applied
abbrev pub index_after : Index → WriteOp → Outcome → Index
index_after m op o = if is_applied o then written m op else m

-- the next write of a client, and its outcome, noted in its record
abbrev pub noted : Record → Outcome → Record
noted r o = record r { last = suc r.last; outcome = Some o }

-- the next write of a registered client with this outcome: done and noted, all at once
abbrev pub applied : Durable → ℕ → WriteOp → Outcome → Durable
applied d c op o =
    map_or (record_of d.register c) d
    (λ r. record d { index = index_after d.index op o; register = with_record d.register c (noted r o) })
