-- Who waits, and where somebody does.
use Rattle.std.specs.Prelude.{◌≡◌, ◌≢◌, ℕ, suc, ◌<◌, ◌≤◌, List, [], ◌∷◌, None, Option, Some, is_some, find}
use Rattle.krl_queue.specs.Waiting.{first_of}
use Rattle.krl_queue.specs.declared.waiter.Waiter.{Waiter}
use Rattle.krl_durable.specs.Index.{Index, slots}
use Rattle.krl_table.specs.Rows.{Rows}

-- the client has no waiter
abbrev pub WaitsNowhere : Rows → ℕ → Type 0
WaitsNowhere rows c = (n : ℕ) → first_of c (rows n).queue ≡ None

-- nobody waits at the slots from one up to another
abbrev pub NobodyWaits : Rows → ℕ → ℕ → Type 0
NobodyWaits rows from to = (n : ℕ) → from ≤ n → n < to → (rows n).queue ≡ []

-- somebody waits at the slot, and nobody at those below it from this point on
pub record IsNextWaiting (rows : Rows) (from n : ℕ) : Type 0 where
  pub above : from ≤ n
  pub some : (rows n).queue ≢ []
  pub least : NobodyWaits rows from n

-- these are the slots from this point on at which somebody waits, each once, in ascending order
abbrev pub AreWaiting : Rows → ℕ → List ℕ → Type 0
AreWaiting rows from [] = (n : ℕ) → from ≤ n → (rows n).queue ≡ []
AreWaiting rows from (n ∷ ns) = IsNextWaiting rows from n × AreWaiting rows (suc n) ns

-- the first waiter of a slot
abbrev pub front_of : List Waiter → Option Waiter
front_of [] = None
front_of (u ∷ us) = Some u

-- the slot on which the client waits
abbrev pub place_of : Index → Rows → ℕ → Option ℕ
place_of m rows c = find (λ n. is_some (first_of c (rows n).queue)) (slots m)

abbrev pub waiter_at : Rows → ℕ → Option ℕ → Option Waiter
waiter_at rows c None = None
waiter_at rows c (Some n) = first_of c (rows n).queue

-- how it waits there
abbrev pub waiter_of : Index → Rows → ℕ → Option Waiter
waiter_of m rows c = waiter_at rows c (place_of m rows c)
