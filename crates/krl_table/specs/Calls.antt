-- What each call makes of the rows. A report is the subject of a file of its own.
use Rattle.std.specs.Prelude.{ℕ, suc, not, ◌&&◌, nat_eq, List, [], ◌∷◌, ◌++◌, if◌then◌else◌}
use Rattle.std.specs.List.{filter}
use Rattle.krl_modes.specs.declared.part.RangePart.{RangePart}
use Rattle.krl_modes.specs.declared.part.RangePart.TheVariants as range
use Rattle.krl_modes.specs.declared.part.KeyPart.TheVariants as key
use Rattle.krl_modes.specs.declared.mode.Mode.{Mode}
use Rattle.krl_modes.specs.declared.mode.Mode.TheVariants as mode
use Rattle.krl_modes.specs.Modes.{range_of, at_most, at_or_above, join, meet}
use Rattle.krl_modes.specs.Spans.{Bounds, within}
use Rattle.krl_queue.specs.declared.waiter.Waiter.{Waiter}
use Rattle.krl_queue.specs.Waiting.{up_to, beyond}
use Rattle.krl_durable.specs.Index.{Index, slot_of, span_of, is_slot}
use Rattle.krl_table.specs.Rows.{Row, Rows, blank_row, mode_at, set_row, set_mode}

-- the row with what another mode for this client makes of it
abbrev pub with_mode : Row → ℕ → Mode → Row
with_mode row c g = record row { modes = set_mode row.modes c g }

-- the row with other waiters
abbrev pub with_queue : Row → List Waiter → Row
with_queue row queue = record row { queue = queue }

-- lower: on each slot whose span lies within this one, the client's mode is lowered to keep
abbrev pub lowered : Index → Rows → ℕ → Bounds → Mode → Rows
lowered m rows c span keep n =
    if is_slot m n && within (span_of m n) span then with_mode (rows n) c (meet (mode_at rows n c) keep) else rows n

-- the queue without the client's waiter
abbrev pub unqueue : ℕ → List Waiter → List Waiter
unqueue c queue = filter (λ u. not (nat_eq c u.client)) queue

-- clear: the client's modes become N, and its waiter is removed
abbrev pub cleared : Rows → ℕ → Rows
cleared rows c n = record { modes = set_mode (rows n).modes c mode.N; queue = unqueue c (rows n).queue }

-- it comes after all others, or before them if its client already holds a mode there
abbrev pub queue_with : Row → Waiter → List Waiter
queue_with row u = if at_most (row.modes u.client) mode.N then row.queue ++ u ∷ [] else u ∷ row.queue

-- enqueue: the waiter goes to the slot of its point
abbrev pub enqueued : Index → Rows → Waiter → Rows
enqueued m rows u =
    let n = slot_of m u.point in
    set_row rows n (with_queue (rows n) (queue_with (rows n) u))

-- on a new slot, the mode of another client than its writer, which has this range part on the old
-- one
abbrev pub mode_beside : RangePart → Mode
mode_beside range.I = mode.RangeIN
mode_beside other = mode.N

-- on a new slot: its writer has the range part that it had on the old one, and key part X
abbrev pub split_modes : (ℕ → Mode) → ℕ → ℕ → Mode
split_modes modes c d = if nat_eq d c then at_or_above (range_of (modes c)) key.X else mode_beside (range_of (modes d))

-- k becomes a slot, cut from the slot n
abbrev pub split_at : Rows → ℕ → ℕ → ℕ → Rows
split_at rows n k c =
    set_row (set_row rows n (with_queue (rows n) (beyond k (rows n).queue))) k
    (record { modes = split_modes (rows n).modes c; queue = up_to k (rows n).queue })

-- split: k, which is no key yet, becomes a slot, written by c; the waiters up to k move there
abbrev pub split : Index → Rows → ℕ → ℕ → Rows
split m rows k c = split_at rows (slot_of m k) k c

-- the slot k goes, and its points are those of the slot n from now on
abbrev pub merge_into : Rows → ℕ → ℕ → Rows
merge_into rows n k = set_row (set_row rows n (with_queue (rows n) ((rows k).queue ++ (rows n).queue))) k blank_row

-- merge: the slot k goes, and its waiters stand before those of the next slot
abbrev pub merged : Index → Rows → ℕ → Rows
merged m rows k = merge_into rows (slot_of m (suc k)) k

-- what a waiter wants: the least mode above what it asks and what its client holds there
abbrev pub wanted : Row → Waiter → Mode
wanted row u = join (row.modes u.client) u.mode

-- the row with this queue, once its first waiter has what it wants there
abbrev pub grant_first : Row → List Waiter → Row
grant_first row [] = row
grant_first row (u ∷ us) = record { modes = set_mode row.modes u.client (wanted row u); queue = us }

-- the slot's first waiter gets what it wants there, and no longer waits
abbrev pub granted_first : Rows → ℕ → Rows
granted_first rows n = set_row rows n (grant_first (rows n) (rows n).queue)

-- the waiter's client gets what it wants on this slot
abbrev pub raised : Rows → ℕ → Waiter → Rows
raised rows n u = set_row rows n (with_mode (rows n) u.client (wanted (rows n) u))

-- and on each of these slots, one after another
abbrev pub raised_on : Rows → List ℕ → Waiter → Rows
raised_on rows [] u = rows
raised_on rows (n ∷ ns) u = raised_on (raised rows n u) ns u

-- the others, if the first no longer waits
abbrev pub behind_first : List Waiter → List Waiter
behind_first [] = []
behind_first (u ∷ us) = us

-- drop_front: the slot's first waiter no longer waits
abbrev pub front_dropped : Rows → ℕ → Rows
front_dropped rows n = set_row rows n (with_queue (rows n) (behind_first (rows n).queue))
