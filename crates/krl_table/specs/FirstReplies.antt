-- What a first waiter can be answered, and which is granted at once.
use Rattle.std.specs.Prelude.{ℕ, Bool, not, ◌&&◌, nat_eq, nat_lt, List, [], ◌∷◌, Option, Some, None, if◌then◌else◌}
use Rattle.krl_modes.specs.declared.point.TheConstants.{END}
use Rattle.krl_modes.specs.Modes.{needs_entry}
use Rattle.krl_queue.specs.declared.waiter.Waiter.{Waiter}
use Rattle.krl_durable.specs.Index.{Index, slot_of}
use Rattle.krl_table.specs.declared.reply.Reply.{Reply}
use Rattle.krl_table.specs.declared.reply.Reply.TheVariants as reply
use Rattle.krl_table.specs.Rows.{Row, Rows, is_compatible_in_row}
use Rattle.krl_table.specs.Calls.{wanted}
use Rattle.krl_table.specs.Replies.{asks_absent, is_wanted_compatible}
use Rattle.krl_table.specs.Grants.{nobody_waits}

-- what a waiter can be answered, if its client has acknowledged every push
abbrev pub reply_to : Index → Rows → ℕ → Waiter → Option Reply
reply_to m rows n u =
    if asks_absent m u then Some reply.Absent else (if is_wanted_compatible rows n u then Some reply.Grant else None)

abbrev pub first_reply : Index → Rows → ℕ → List Waiter → Option Reply
first_reply m rows n [] = None
first_reply m rows n (u ∷ us) = reply_to m rows n u

-- answerable: what the slot's first waiter can be answered
abbrev pub answerable : Index → Rows → ℕ → Bool → Option Reply
answerable m rows n acked = if acked then first_reply m rows n (rows n).queue else None

-- waiting on slot n, which is that of its point, it asks for an entry, and there is none
abbrev pub lacks_entry : ℕ → Waiter → Bool
lacks_entry n u = needs_entry u.mode && not (nat_eq u.point n && nat_lt n END)

abbrev pub first_reply_on : ℕ → Row → List Waiter → Option Reply
first_reply_on n row [] = None
first_reply_on n row (u ∷ us) =
    if lacks_entry n u
    then Some reply.Absent
    else (if is_compatible_in_row row u.client (wanted row u) then Some reply.Grant else None)

-- the same, by only the slot's row
abbrev pub row_reply : ℕ → Row → Option Reply
row_reply n row = first_reply_on n row row.queue

-- grant_at_once: on the waiter's slot nobody waits, what it wants is compatible with what all others hold, and it does
-- not ask for an entry if there is none
abbrev pub is_granted_at_once : Index → Rows → Waiter → Bool
is_granted_at_once m rows u =
    nobody_waits (rows (slot_of m u.point)).queue && (is_wanted_compatible rows (slot_of m u.point) u
    && not (asks_absent m u))
