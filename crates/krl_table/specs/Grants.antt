-- What a grant gives: a first waiter what it wants on its slot, and on the slots after it as far as that is free.
use Rattle.std.specs.Prelude.{ℕ, zero, suc, ◌-◌, Bool, true, false, not, ◌&&◌, nat_eq, nat_lt, List, [], ◌∷◌, if◌then◌else◌}
use Rattle.krl_modes.specs.declared.point.TheConstants.{END}
use Rattle.krl_modes.specs.Modes.{needs_entry}
use Rattle.krl_queue.specs.declared.waiter.Waiter.{Waiter}
use Rattle.krl_durable.specs.Index.{Index, slot_of}
use Rattle.krl_table.specs.Rows.{Rows}
use Rattle.krl_table.specs.Calls.{granted_first, raised_on}
use Rattle.krl_table.specs.Replies.{is_wanted_compatible}

-- the queue is empty
abbrev pub nobody_waits : List Waiter → Bool
nobody_waits [] = true
nobody_waits (u ∷ us) = false

-- the slot is open to a waiter of another slot, or to a write: nobody waits there, what it wants there is compatible
-- with what all others hold, and it does not ask only for an entry if there is none
abbrev pub is_open_to : Rows → ℕ → Waiter → Bool
is_open_to rows n u =
    nobody_waits (rows n).queue && (is_wanted_compatible rows n u && not (needs_entry u.mode && nat_eq n END))

-- after slot n comes another, whose span begins below the end of what the waiter asks for, and which is open to it
abbrev pub goes_on : Index → Rows → ℕ → Waiter → Bool
goes_on m rows n u = nat_lt n END && (nat_lt (suc n) u.hi && is_open_to rows (slot_of m (suc n)) u)

-- the slots after n that the grant reaches, in ascending order, k at the most: the first that it does not reach ends it
abbrev pub reached_after : Index → Rows → ℕ → Waiter → ℕ → List ℕ
reached_after m rows n u zero = []
reached_after m rows n u (suc k) =
    if goes_on m rows n u
    then slot_of m (suc n) ∷ reached_after m rows (slot_of m (suc n)) u k
    else []

-- the slots that a grant at slot n with this queue reaches, r at the most: that is the reach of the server
abbrev pub reached_by : ℕ → Index → Rows → ℕ → List Waiter → List ℕ
reached_by r m rows n [] = []
reached_by r m rows n (u ∷ us) = n ∷ reached_after m (granted_first rows n) n u (r - 1)

-- the slots that a grant at slot n reaches
abbrev pub reached_slots : ℕ → Index → Rows → ℕ → List ℕ
reached_slots r m rows n = reached_by r m rows n (rows n).queue

-- what a grant at slot n with this queue makes of the rows
abbrev pub granted_by : ℕ → Index → Rows → ℕ → List Waiter → Rows
granted_by r m rows n [] = rows
granted_by r m rows n (u ∷ us) = raised_on (granted_first rows n) (reached_after m (granted_first rows n) n u (r - 1)) u

-- grant: the slot's first waiter gets what it wants on each of them, and no longer waits
abbrev pub granted : ℕ → Index → Rows → ℕ → Rows
granted r m rows n = granted_by r m rows n (rows n).queue
