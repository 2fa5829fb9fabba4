-- Scans over several servers.
use Rattle.std.specs.Prelude.{◌≡◌, ◌≤◌, ◌↔◌, ℕ, List, [], ◌∷◌, ◌++◌, Some}
use Rattle.std.specs.FinMap as map
use Rattle.krl_modes.specs.Spans.{IsPointOf}
use Rattle.krl_messages.specs.Values.{Value}
use Rattle.krl_durable.specs.Index.{Index, range}
use Rattle.krl_world.specs.States.{State, index_of}
use Rattle.krl_shards.specs.declared.part.Part.{Part}
use Rattle.krl_shards.specs.Partition.{last_shard, span_of, IsPartition}
use Rattle.krl_shards.specs.Parts.{Follow}
use Rattle.krl_world_laws.specs.Systems.{System}
use Rattle.krl_world_laws.specs.Readers.{Rows, AnswersScan, IsStill}

-- A world for each shard, by its number, is a moment of all of them.
abbrev pub Moment : Type 0
Moment = ℕ → State

-- Each shard has a world of the system: these are seen of them
abbrev pub views : (s : System) → (ℕ → s.World) → Moment
views s x i = s.view (x i)

-- moves of the system lead to the world of each shard
abbrev pub AreReached : (s : System) → List ℕ → (ℕ → s.World) → Type 0
AreReached s bounds x = (i : ℕ) → i ≤ last_shard bounds → s.IsReached (x i)

-- All indexes together

-- at each point, the index has what the index of that point's shard has there
abbrev pub IsTogether : List ℕ → Moment → Index → Type 0
IsTogether bounds w m =
    (i k : ℕ) → i ≤ last_shard bounds → IsPointOf (span_of bounds i) k → map.get m k ≡ map.get (index_of (w i)) k

-- each index has keys of its own shard only: no write is sent elsewhere
abbrev pub KeepToShards : List ℕ → Moment → Type 0
KeepToShards bounds w =
    (i k : ℕ) (v : Value) → i ≤ last_shard bounds → map.get (index_of (w i)) k ≡ Some v → IsPointOf (span_of bounds i) k

-- an index has this entry
abbrev pub HasEntry : List ℕ → Moment → ℕ → Value → Type 0
HasEntry bounds w k v = (i : ℕ) × (i ≤ last_shard bounds) × (map.get (index_of (w i)) k ≡ Some v)

-- the union of all indexes
abbrev pub IsUnion : List ℕ → Moment → Index → Type 0
IsUnion bounds w m = (k : ℕ) (v : Value) → (map.get m k ≡ Some v) ↔ HasEntry bounds w k v

-- Scans

-- each part's client answers it, in the world of the part's shard; the rows of the parts stand one after another
abbrev pub AnswerAll : Moment → (ℕ → ℕ) → List Part → Rows → Type 0
AnswerAll w c [] rows = rows ≡ []
AnswerAll w c (p ∷ ps) rows =
    (some : Rows) × (rest : Rows) × AnswersScan (w p.shard) (c p.shard) p.lo p.hi some × AnswerAll w c ps rest
    × (rows ≡ some ++ rest)

-- each part's client answers it in some world of its own, in which it is as it is at the moment
abbrev pub AnswerMeanwhile : Moment → (ℕ → ℕ) → List Part → Rows → Type 0
AnswerMeanwhile w c [] rows = rows ≡ []
AnswerMeanwhile w c (p ∷ ps) rows =
    (v : State) × (some : Rows) × (rest : Rows) × IsStill v (w p.shard) (c p.shard)
    × AnswersScan v (c p.shard) p.lo p.hi some × AnswerMeanwhile w c ps rest × (rows ≡ some ++ rest)

-- The laws

abbrev pub ScanOfAll : System → Type 0
ScanOfAll s =
    (bounds : List ℕ) (x : ℕ → s.World) (c : ℕ → ℕ) (m : Index) (lo hi : ℕ) (parts : List Part) (rows : Rows) →
    AreReached s bounds x → IsTogether bounds (views s x) m → Follow bounds hi lo hi parts →
    AnswerAll (views s x) c parts rows → rows ≡ range m lo hi

abbrev pub ScanMeanwhile : System → Type 0
ScanMeanwhile s =
    (bounds : List ℕ) (x : ℕ → s.World) (c : ℕ → ℕ) (m : Index) (lo hi : ℕ) (parts : List Part) (rows : Rows) →
    AreReached s bounds x → IsTogether bounds (views s x) m → Follow bounds hi lo hi parts →
    AnswerMeanwhile (views s x) c parts rows → rows ≡ range m lo hi

-- what has the entries of the union is what the indexes are together
abbrev pub TogetherIsUnion : Type 0
TogetherIsUnion =
    (bounds : List ℕ) (w : Moment) (m : Index) → IsPartition bounds → KeepToShards bounds w →
    IsUnion bounds w m → IsTogether bounds w m

-- there is such an index
abbrev pub SomeTogether : Type 0
SomeTogether = (bounds : List ℕ) (w : Moment) → IsPartition bounds → (m : Index) × IsTogether bounds w m
