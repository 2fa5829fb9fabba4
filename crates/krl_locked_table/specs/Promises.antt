-- What holds of each reachable world: what a reader answers from memory is the table.
use Rattle.std.specs.Prelude.{◌≡◌, ℕ, ◌+◌, ◌≤◌, ◌<◌, true, false, Option, Some, None}
use Rattle.krl_cached_table.specs.Worlds.{row_after}
use Rattle.krl_cached_table.specs.Promises.{range}
use Rattle.krl_locked_table.specs.Worlds.{Setting, IsPlaceOf, Load, World}
use Rattle.krl_locked_table.specs.Steps.{Steps, Reachable}

-- the client's tenure of the place is the one that it took before it loaded the rows
abbrev pub HasTenure : World → Load → ℕ → Type 0
HasTenure w l p = (l.places p ≡ true) × (w.tenure l.client p ≡ l.tenures p)

-- At this moment a read takes the row of the key from memory, and when the last question began that was answered. It
-- looks at each tenure, and then at the clock, at the same moment or later
pub record Answers (g : Setting) (w : World) (key : ℕ) (row : Option ℕ) : Type 0 where
  pub load : ℕ
  pub kept : (w.loads load).is_kept ≡ true
  pub taken : (w.loads load).rows key ≡ row
  pub tenures : (p : ℕ) → IsPlaceOf g key p → (look : World) × Steps g w look × HasTenure look (w.loads load) p
  pub clock : (look : World) × Steps g w look × (look.now < (w.loads load).answered + g.patience)

-- What a read returns is the table at that moment, whether the key has a row or not. A read of several keys takes all
-- its rows at one moment, and looks at the tenures one after another
abbrev pub AnswersAreTable : Type 0
AnswersAreTable =
    (g : Setting) (w : World) (key : ℕ) (row : Option ℕ) → Reachable g w → Answers g w key row →
    row ≡ row_after w.changes key

-- and so it is of a range as a list, in which no row is missing and none is too many
abbrev pub RangesAreTable : Type 0
RangesAreTable =
    (g : Setting) (w : World) (lo n : ℕ) (row_of : ℕ → Option ℕ) → Reachable g w →
    ((key : ℕ) → lo ≤ key → key < lo + n → Answers g w key (row_of key)) →
    range row_of lo n ≡ range (row_after w.changes) lo n

-- The laws are not empty. Somewhere a read finds in memory that a key has no row. Later, after the agent has given up
-- the stripe's lock for a transaction, it finds the row that this transaction made. It still does after another
-- transaction has made a row of a stripe that nobody keeps. Then the agent ends, a transaction that has waited changes
-- the row, and a read that loads by the agent's successor finds that
pub record AnswersSomewhere : Type 0 where
  pub setting : Setting
  pub patient : 0 < setting.patience
  pub before : World
  pub after : World
  pub last : World
  pub succeeded : World
  pub reachable : Reachable setting before
  pub no_row : Answers setting before 3 None
  pub changed : Steps setting before after
  pub row : Answers setting after 3 (Some 5)
  pub changed_elsewhere : Steps setting after last
  pub saw_open : (last.transactions 1).settled (setting.stripe_of 4) ≡ true
  pub other_row : row_after last.changes 4 ≡ Some 6
  pub same_row : Answers setting last 3 (Some 5)
  pub without_agent : World
  pub ended : Steps setting last without_agent
  pub no_agent : without_agent.is_alive ≡ false
  pub changed_without : Steps setting without_agent succeeded
  pub next_nonce : last.nonce < succeeded.nonce
  pub next_row : Answers setting succeeded 3 (Some 7)
