-- A scan over several servers by a process whose clients have leases.
use Rattle.std.specs.Prelude.{◌≡◌, ◌≤◌, ℕ, List, [], ◌∷◌, ◌++◌}
use Rattle.krl_durable.specs.Index.{Index, range}
use Rattle.krl_shards.specs.declared.part.Part.{Part}
use Rattle.krl_shards.specs.Partition.{last_shard}
use Rattle.krl_shards.specs.Parts.{Follow}
use Rattle.krl_leases.specs.Clocks.{Limits}
use Rattle.krl_world_laws.specs.Systems.{System}
use Rattle.krl_world_laws.specs.Readers.{Rows, IsStill}
use Rattle.krl_world_laws.specs.Leases.Leased.{Machines, AllAgree, Leased, Event, IsRunning, Runs, IsReached}
use Rattle.krl_world_laws.specs.Leases.Laws.{Reads, MayHandOver}
use Rattle.krl_world_laws.specs.Shards.Scans.{Moment, IsTogether}

-- A shard at the moment of a scan, and the process there: by which number, and as which incarnation
pub record Shard (s : System) : Type 0 where
  pub limits : Limits
  pub machines : Machines
  pub world : Leased s
  pub client : ℕ
  pub incarnation : ℕ

-- the shards' worlds without their leases
abbrev pub moment : (s : System) → (ℕ → Shard s) → Moment
moment s x i = s.view (x i).world.world

-- the clocks of each shard agree, and its world is reached
abbrev pub AllReached : (s : System) → List ℕ → (ℕ → Shard s) → Type 0
AllReached s bounds x =
    (i : ℕ) → i ≤ last_shard bounds →
    AllAgree (x i).limits (x i).machines × IsReached s (x i).limits (x i).machines (x i).world

-- The process holds its client of this shard from the moment of the scan on, reads these rows from it, and hands them
-- over after a check of its lease, whatever happens between. A client that is evicted before is no part of the system
-- any more, and what it reads may be anything
pub record HandsOver (s : System) (x : Shard s) (lo hi : ℕ) (rows : Rows) : Type 0 where
  pub reading : Leased s  -- when it reads
  pub before : List Event
  pub since : Runs s x.limits x.machines x.world before reading
  pub held : IsRunning (s.view reading.world) x.client x.incarnation →
      IsStill (s.view x.world.world) (s.view reading.world) x.client
  pub reads : Reads s reading x.client x.incarnation lo hi rows
  pub checking : Leased s  -- when it checks its lease
  pub between : List Event
  pub until : Runs s x.limits x.machines reading between checking
  pub may : MayHandOver s x.machines checking x.client x.incarnation

-- so for each part; the rows of the parts stand one after another
abbrev pub HandsOverAll : (s : System) → (ℕ → Shard s) → List Part → Rows → Type 0
HandsOverAll s x [] rows = rows ≡ []
HandsOverAll s x (p ∷ ps) rows =
    (some : Rows) × (rest : Rows) × HandsOver s (x p.shard) p.lo p.hi some × HandsOverAll s x ps rest
    × (rows ≡ some ++ rest)

-- what is handed over is that range of all indexes together at the moment from which on all clients were held
abbrev pub ScanWithLeases : System → Type 0
ScanWithLeases s =
    (bounds : List ℕ) (x : ℕ → Shard s) (m : Index) (lo hi : ℕ) (parts : List Part) (rows : Rows) →
    AllReached s bounds x → IsTogether bounds (moment s x) m → Follow bounds hi lo hi parts →
    HandsOverAll s x parts rows → rows ≡ range m lo hi
