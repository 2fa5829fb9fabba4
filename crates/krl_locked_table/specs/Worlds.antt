-- Tables of a database, of which clients of krl keep rows in memory by locks of the database alone. A place is a lock
-- of the database and a key of krl: a stripe of a table, to which some of its keys belong, or the table. A moment is a
-- number here, and so is a row.
use Rattle.std.specs.Prelude.{ℕ, Bool, true, false, Option, None, List, [], ◌≡◌, ◌⊎◌}
use Rattle.krl_modes.specs.declared.part.KeyPart.{KeyPart}
use Rattle.krl_modes.specs.declared.part.KeyPart.TheVariants as part
use Rattle.krl_cached_table.specs.Worlds.{Change, Stage, Running}

-- what does not change
pub record Setting : Type 0 where
  pub stripe_of : ℕ → ℕ  -- by key of a table
  pub table_of : ℕ → ℕ  -- by key: the place of its table
  pub is_agent : ℕ → Bool  -- by client of krl. The others are readers
  pub patience : ℕ  -- for how long an answer of the agent's database is good

-- a reader holds each place of a key while it keeps the row, so the agent takes the row back by any of them
abbrev pub IsPlaceOf : Setting → ℕ → ℕ → Type 0
IsPlaceOf g key p = (p ≡ g.stripe_of key) ⊎ (p ≡ g.table_of key)

-- Transactions

pub record Transaction : Type 0 where
  pub stage : Stage
  pub changes : List Change  -- the last first
  -- by place
  pub shares : ℕ → Bool  -- it shares the lock with other transactions, until it has ended
  pub waits : ℕ → Option ℕ  -- since that moment, at which it had the lock
  pub settled : ℕ → Bool  -- while it had the lock it saw an open agent, or it has waited for the patience of readers

-- Readers

-- a load of rows, and the reader's questions about them
pub record Load : Type 0 where
  pub client : ℕ
  pub places : ℕ → Bool  -- those that the client held
  pub tenures : ℕ → ℕ  -- by place
  pub nonce : ℕ  -- the value that the client found at krl
  pub found_nonce : Bool  -- it found the same nonce in the database
  pub locked : ℕ → Bool  -- by place: after that it found that the agent has the lock, and does not give it up
  pub is_kept : Bool  -- the rows are in memory
  pub rows : ℕ → Option ℕ  -- by key of a table
  pub answered : ℕ  -- when the last question began that was answered, or the load
  pub asked : ℕ  -- when the last question began
  pub found_open : Bool  -- after that it found an open agent

-- All of it

pub record World : Type 0 where
  pub now : ℕ
  -- krl
  pub held : ℕ → ℕ → KeyPart  -- by client and place
  pub tenure : ℕ → ℕ → ℕ  -- by client and place: it is another one after each loss
  pub mark : ℕ  -- the nonce of an agent, as krl has it
  -- the database
  pub is_up : Bool
  pub changes : List Change  -- of the transactions that became visible, the last first
  pub transactions : ℕ → Transaction
  pub nonce : ℕ  -- the last one that was drawn
  -- the agent's session in the database
  pub is_alive : Bool  -- there is one
  pub alive_since : ℕ
  pub has_drawn : Bool  -- it has drawn a nonce
  pub is_open : Bool
  -- by place
  pub locks : ℕ → Bool  -- it has the lock for itself
  pub gives_up : ℕ → Bool  -- it has announced that it gives up the lock
  pub recalled : ℕ → Bool  -- after that krl took the place back from all readers
  -- memory
  pub loads : ℕ → Load

-- The first world

abbrev pub new_transaction : Transaction
new_transaction = record {
  stage = Running;
  changes = [];
  shares = λ p. false;
  waits = λ p. None;
  settled = λ p. false;
}

-- at this moment a load begins: nothing has been asked, and nothing is in memory
abbrev pub new_load : ℕ → (ℕ → Bool) → (ℕ → ℕ) → ℕ → ℕ → Load
new_load client places tenures nonce now = record {
  client = client;
  places = places;
  tenures = tenures;
  nonce = nonce;
  found_nonce = false;
  locked = λ p. false;
  is_kept = false;
  rows = λ key. None;
  answered = now;
  asked = now;
  found_open = false;
}

-- the tables have the rows that these changes leave, nobody holds anything, there is no agent, and krl has the nonce of
-- none
abbrev pub first : List Change → World
first changes = record {
  now = 0;
  held = λ c p. part.N;
  tenure = λ c p. 0;
  mark = 0;
  is_up = true;
  changes = changes;
  transactions = λ t. new_transaction;
  nonce = 1;
  is_alive = false;
  alive_since = 0;
  has_drawn = false;
  is_open = false;
  locks = λ p. false;
  gives_up = λ p. false;
  recalled = λ p. false;
  loads = λ n. new_load 0 (λ p. false) (λ p. 0) 0 0;
}
