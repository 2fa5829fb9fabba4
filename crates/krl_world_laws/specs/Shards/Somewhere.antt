-- Scans over several servers that come to something, so that what holds of all is not vacuous.
use Rattle.std.specs.Prelude.{◌≡◌, ℕ, List, [], ◌∷◌}
use Rattle.krl_durable.specs.Index.{Index, range}
use Rattle.krl_shards.specs.declared.part.Part.{Part}
use Rattle.krl_shards.specs.Partition.{IsPartition}
use Rattle.krl_shards.specs.Parts.{Follow}
use Rattle.krl_world_laws.specs.Systems.{worlds}
use Rattle.krl_world_laws.specs.Shards.Scans.{Moment, AreReached, IsTogether, AnswerAll}
use Rattle.krl_world_laws.specs.Shards.Leased.{Shard, moment, AllReached, HandsOverAll}

-- two shards: the points below 5, and those from 5 on
abbrev pub two : List ℕ
two = 5 ∷ []

-- what each has of the points below 11
abbrev pub halves : List Part
halves = record { shard = 0; lo = 0; hi = 5 } ∷ record { shard = 1; lo = 5; hi = 11 } ∷ []

-- a scan of both from caches only gives an entry
pub record ScansBoth (w : Moment) (m : Index) : Type 0 where
  pub partition : IsPartition two
  pub reachable : AreReached worlds two w
  pub together : IsTogether two w m
  pub parts : Follow two 11 0 11 halves
  pub answers : AnswerAll w (λ i. 0) halves ((10, 1 ∷ []) ∷ [])
  pub rows : (10, 1 ∷ []) ∷ [] ≡ range m 0 11

abbrev pub ScansBothSomewhere : Type 0
ScansBothSomewhere = (w : Moment) × (m : Index) × ScansBoth w m

-- The same with leases: the process has terms of both shards' servers, and hands the entry over
pub record HandsBothOver (x : ℕ → Shard worlds) (m : Index) : Type 0 where
  pub reached : AllReached worlds two x
  pub together : IsTogether two (moment worlds x) m
  pub parts : Follow two 11 0 11 halves
  pub hands : HandsOverAll worlds x halves ((10, 1 ∷ []) ∷ [])

abbrev pub HandsOverSomewhere : Type 0
HandsOverSomewhere = (x : ℕ → Shard worlds) × (m : Index) × HandsBothOver x m
