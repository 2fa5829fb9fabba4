-- What holds of each reachable world: what a reader answers from memory is the table.
use Rattle.std.specs.Prelude.{◌≡◌, ℕ, zero, suc, ◌+◌, ◌≤◌, ◌<◌, true, false, Option, Some, None, List, [], ◌∷◌}
use Rattle.krl_cached_table.specs.Worlds.{Setting, IsPlaceOf, row_after, Load, World}
use Rattle.krl_cached_table.specs.Steps.{Holds, Step, Steps, Reachable}

-- the client's tenure of the place is the one that it took before it loaded the rows
abbrev pub HasTenure : World → Load → ℕ → Type 0
HasTenure w l p = (l.places p ≡ true) × (w.tenure l.client p ≡ l.tenures p)

-- at this moment a read takes the row of the key from memory, and it looks at each tenure at the same moment or later
pub record Answers (g : Setting) (w : World) (key : ℕ) (row : Option ℕ) : Type 0 where
  pub load : ℕ
  pub kept : (w.loads load).is_kept ≡ true
  pub taken : (w.loads load).rows key ≡ row
  pub tenures : (p : ℕ) → IsPlaceOf g key p → (look : World) × Steps g w look × HasTenure look (w.loads load) p

-- What a read returns is the table at that moment, whether the key has a row or not. A read of several keys takes all
-- its rows at one moment, and looks at the tenures one after another
abbrev pub AnswersAreTable : Type 0
AnswersAreTable =
    (g : Setting) (w : World) (key : ℕ) (row : Option ℕ) → Reachable g w → Answers g w key row →
    row ≡ row_after w.changes key

abbrev pub with_row : ℕ → Option ℕ → List (ℕ × ℕ) → List (ℕ × ℕ)
with_row key None rows = rows
with_row key (Some row) rows = (key, row) ∷ rows

-- the rows of the n keys from lo on, in order
abbrev pub range : (ℕ → Option ℕ) → ℕ → ℕ → List (ℕ × ℕ)
range row_of lo zero = []
range row_of lo (suc n) = with_row lo (row_of lo) (range row_of (suc lo) n)

-- and so it is of a range as a list, in which no row is missing and none is too many
abbrev pub RangesAreTable : Type 0
RangesAreTable =
    (g : Setting) (w : World) (lo n : ℕ) (row_of : ℕ → Option ℕ) → Reachable g w →
    ((key : ℕ) → lo ≤ key → key < lo + n → Answers g w key (row_of key)) →
    range row_of lo n ≡ range (row_after w.changes) lo n

-- The laws are not empty. Somewhere a read finds in memory that a key has no row. Later, after a transaction has taken
-- the stripe back, it finds the row that this transaction made. It still does after another transaction has skipped a
-- stripe and the mark of another table, by which nobody had kept a row. If the database crashes before all this, then a
-- transaction after its next start skips the stripe, and a later read finds its row. If it is suspended and resumed
-- instead, and suspended again while a reader holds the stripe, then a transaction commits without a worker, and a read
-- after the database was opened finds its row
pub record AnswersSomewhere : Type 0 where
  pub setting : Setting
  pub before : World
  pub after : World
  pub last : World
  pub reachable : Reachable setting before
  pub no_row : Answers setting before 3 None
  pub changed : Steps setting before after
  pub took : (after.transactions 0).took_back (setting.stripe_of 3) ≡ true
  pub row : Answers setting after 3 (Some 5)
  pub changed_elsewhere : Steps setting after last
  pub skipped_stripe : (last.transactions 1).skipped (setting.stripe_of 4) ≡ true
  pub skipped_mark : (last.transactions 1).skipped (setting.mark_of 2) ≡ true
  pub other_row : row_after last.changes 4 ≡ Some 6
  pub row_of_other_table : row_after last.changes 2 ≡ Some 8
  pub same_row : Answers setting last 3 (Some 5)
  pub down : World
  pub crashed : Steps setting before down
  pub is_down : down.is_up ≡ false
  pub restarted : World
  pub changed_since : Steps setting down restarted
  pub skipped_since : (restarted.transactions 0).skipped (setting.stripe_of 3) ≡ true
  pub row_since : Answers setting restarted 3 (Some 5)
  pub suspended : World
  pub went_on : Steps setting before suspended
  pub resumed : World
  pub joined : Steps setting suspended resumed
  pub is_read : Holds resumed 1 (setting.stripe_of 3)
  pub suspended_again : World
  pub fell_back : Step setting resumed suspended_again
  pub without_krl : suspended_again.is_suspended ≡ true
  pub opened : World
  pub changed_without_krl : Steps setting suspended_again opened
  pub row_made_without_krl : Answers setting opened 3 (Some 5)
