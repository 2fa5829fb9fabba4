-- What the second client of a run reads.
use Rattle.std.specs.Prelude.{◌≡◌, ℕ, List, [], ◌∷◌, Some, slice_get}
use Rattle.std.specs.Int.{w64, to_be_bytes}
use Rattle.krl_messages.specs.Values.{Value}
use Rattle.krl_durable.specs.Index.{range}
use Rattle.krl_world.specs.States.{State, index_of}
use Rattle.krl_nodes.specs.Rule.{ReachableFrom}

-- the entries that a run begins with
abbrev pub seeds : List (ℕ × Value)
seeds = (10, to_be_bytes w64 1) ∷ (20, to_be_bytes w64 2) ∷ []

-- the most turns of a client
abbrev pub max_turns : ℕ
max_turns = 10000

-- some row has the key
abbrev pub HasKey : ℕ → List (ℕ × Value) → Type 0
HasKey key rows = (i : ℕ) × (row : ℕ × Value) × (slice_get rows i ≡ Some row) × (row.0 ≡ key)

-- the rows contain key 15, and are those from 11 on below 21 of the index in a world that is reachable from these
-- entries
pub record IsFound (opening rows : List (ℕ × Value)) : Type 0 where
  pub found : HasKey 15 rows
  pub world : State
  pub reached : ReachableFrom opening world
  pub rows_are : rows ≡ range (index_of world) 11 21
