-- Tables of a database, of which clients of krl keep rows in memory. A place is a key of krl: a stripe of a table, to
-- which some of its keys belong, the mark of a table, or that of the cluster. A row is a number here.
use Rattle.std.specs.Prelude.{ℕ, Bool, true, false, Option, None, List, [], ◌∷◌, ◌≡◌, ◌⊎◌, if◌then◌else◌, ◌==◌}
use Rattle.krl_modes.specs.declared.part.KeyPart.{KeyPart}
use Rattle.krl_modes.specs.declared.part.KeyPart.TheVariants as part

-- what does not change
pub record Setting : Type 0 where
  pub stripe_of : ℕ → ℕ  -- by key of a table
  pub mark_of : ℕ → ℕ  -- by key: the mark of its table
  pub cluster_mark : ℕ
  pub is_worker : ℕ → Bool  -- by client of krl. The others are readers

-- a reader holds each place of a key while it keeps the row, so a worker takes the row back by any of them
abbrev pub IsPlaceOf : Setting → ℕ → ℕ → Type 0
IsPlaceOf g key p = (p ≡ g.stripe_of key) ⊎ ((p ≡ g.mark_of key) ⊎ (p ≡ g.cluster_mark))

-- The tables

-- a key, and its row from then on
pub record Change : Type 0 where
  pub key : ℕ
  pub row : Option ℕ

-- the row that these changes leave at a key, the last first. None: there is no row
abbrev pub row_after : List Change → ℕ → Option ℕ
row_after [] key = None
row_after (c ∷ cs) key = if key == c.key then c.row else row_after cs key

-- Transactions

pub data Stage : Type 0 where
  Running : Stage
  Prepared : Stage
  Committed : Stage  -- its commit record is on the disk, and nobody sees it yet
  Visible : Stage  -- everybody sees it, and it still has its locks
  Recovering : Stage  -- its commit record is on the disk, and the database has crashed
  Ended : Stage  -- it was rolled back, or is visible, and has no locks

pub record Transaction : Type 0 where
  pub stage : Stage
  pub changes : List Change  -- the last first
  pub found_nonce : Bool  -- it found that the cluster's mark has the nonce of this start
  -- by place
  pub gave_notice : ℕ → Bool
  pub took_back : ℕ → Bool
  pub skipped : ℕ → Bool  -- it found that no reader had kept a row by it, and did not take it back

-- a number that shared memory has of each place: twice how often it was taken back, and one more if a reader may have
-- kept a row by it since
pub record Count : Type 0 where
  pub recalls : ℕ
  pub is_kept : Bool

-- Readers

-- what krl.quiet has found of a place
pub data PlaceStage : Type 0 where
  Held : PlaceStage  -- nothing yet: the reader has taken its tenure
  Counted : ℕ → PlaceStage  -- it counts as kept, after so many recalls
  Unnoticed : ℕ → PlaceStage  -- after that nobody had given notice
  Quiet : PlaceStage  -- after that the count was still the same

-- a load of rows
pub record Load : Type 0 where
  pub client : ℕ
  pub places : ℕ → Bool  -- those that the client held, and of which it asks krl.quiet
  pub tenures : ℕ → ℕ  -- by place
  pub nonce : ℕ  -- the value that the client found in the cluster's mark
  pub found_open : Bool  -- krl.quiet has found the database open, and no crash has ended the call
  pub stage : ℕ → PlaceStage  -- by place
  pub is_kept : Bool  -- the rows are in memory
  pub rows : ℕ → Option ℕ  -- by key of a table

-- All of it

pub record World : Type 0 where
  -- krl
  pub held : ℕ → ℕ → KeyPart  -- by client and place
  pub tenure : ℕ → ℕ → ℕ  -- by client and place: it is another one after each loss
  pub nonce : ℕ  -- the value that the cluster's mark has
  -- the database
  pub is_up : Bool
  pub start : ℕ  -- how often it started, or its workers joined krl again: it stands for the nonce that they drew then
  pub is_closed : Bool  -- krl.quiet returns false
  pub is_suspended : Bool  -- transactions commit without krl
  pub was_suspended : Bool  -- and krl.quiet has returned false ever since
  pub changes : List Change  -- of the transactions that became visible, the last first
  pub transactions : ℕ → Transaction
  pub counts : ℕ → Count  -- by place
  -- memory
  pub loads : ℕ → Load

-- The first world

abbrev pub new_transaction : Transaction
new_transaction = record {
  stage = Running;
  changes = [];
  found_nonce = false;
  gave_notice = λ p. false;
  took_back = λ p. false;
  skipped = λ p. false;
}

abbrev pub new_count : Count
new_count = record { recalls = 0; is_kept = false }

-- nothing has been asked, and nothing is in memory
abbrev pub new_load : ℕ → (ℕ → Bool) → (ℕ → ℕ) → ℕ → Load
new_load client places tenures nonce = record {
  client = client;
  places = places;
  tenures = tenures;
  nonce = nonce;
  found_open = false;
  stage = λ p. Held;
  is_kept = false;
  rows = λ key. None;
}

-- the tables have the rows that these changes leave, nobody holds anything, and the cluster's mark has the nonce of no
-- start
abbrev pub first : List Change → World
first changes = record {
  held = λ c p. part.N;
  tenure = λ c p. 0;
  nonce = 0;
  is_up = true;
  start = 1;
  is_closed = false;
  is_suspended = false;
  was_suspended = false;
  changes = changes;
  transactions = λ t. new_transaction;
  counts = λ p. new_count;
  loads = λ n. new_load 0 (λ p. false) (λ p. 0) 0;
}
