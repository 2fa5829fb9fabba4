-- The waiters as they are kept, by client.
use Rattle.std.specs.Prelude.{◌≡◌, nat_lt, if◌then◌else◌, set, ℕ, ◌≤◌, ◌<◌, min, List, Option, Some, None, length, slice_index_or}
use Rattle.krl_modes.specs.declared.limits.TheConstants.{MAX_CLIENTS}
use Rattle.krl_messages.specs.Members.{In}
use Rattle.krl_queue.specs.declared.waiter.Waiter.{Waiter}
use Rattle.krl_table.specs.Kept.{Kept, rows_of}

-- how the client waits, by what is kept by client
abbrev pub waiter_in : List (Option Waiter) → ℕ → Option Waiter
waiter_in waiting c = slice_index_or waiting c None

-- without this waiter
abbrev pub unlisted : List (Option Waiter) → Option Waiter → List (Option Waiter)
unlisted waiting None = waiting
unlisted waiting (Some u) = set waiting u.client None

-- each client that waits, waits for a point below this one
abbrev pub AllWaitBelow : List (Option Waiter) → ℕ → Type 0
AllWaitBelow waiting low =
    (c : ℕ) (u : Waiter) → c < MAX_CLIENTS → waiter_in waiting c ≡ Some u → u.point < low

-- some client waits for the point, which is at or above low, and none for a lesser one that is
pub record IsLeastPoint (waiting : List (Option Waiter)) (low p : ℕ) : Type 0 where
  pub above : low ≤ p
  pub some : (c : ℕ) × (u : Waiter) × (waiter_in waiting c ≡ Some u) × (u.point ≡ p)
  pub least : (c : ℕ) (u : Waiter) → c < MAX_CLIENTS → waiter_in waiting c ≡ Some u → low ≤ u.point
      → p ≤ u.point

-- the lesser of the points
abbrev pub lesser_point : Option ℕ → ℕ → Option ℕ
lesser_point None q = Some q
lesser_point (Some p) q = Some (min p q)

-- the lesser of a point and the waiter's, which counts only at or above low
abbrev pub lesser : Option ℕ → Option Waiter → ℕ → Option ℕ
lesser least None low = least
lesser least (Some u) low = if nat_lt u.point low then least else lesser_point least u.point

-- what is kept by client are the waiters that stand in the queues
pub record AreListed (waiting : List (Option Waiter)) (t : Kept) : Type 0 where
  pub full : length waiting ≡ MAX_CLIENTS
  pub here : (n : ℕ) (u : Waiter) → In u (rows_of t n).queue → waiter_in waiting u.client ≡ Some u
  pub there : (c : ℕ) (u : Waiter) → waiter_in waiting c ≡ Some u →
      (u.client ≡ c) × ((n : ℕ) × In u (rows_of t n).queue)
