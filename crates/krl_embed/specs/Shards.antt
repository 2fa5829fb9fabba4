-- Which shard has a point, and what each shard has of a span, as C sees it.
use Rattle.std.specs.Prelude.{◌≡◌, ◌<◌, ◌≤◌, ℕ, List, ◌++◌, length, drop, map, Option, Some}
use Rattle.krl_modes.specs.Spans.{Bounds}
use Rattle.krl_modes.specs.PointSets.{last_point, past_points, IsWhole}
use Rattle.krl_shards.specs.declared.part.Part.{Part}
use Rattle.krl_shards.specs.Partition.{max_shards, IsPartition, IsShardOf, IsOnlyShardOf}
use Rattle.krl_shards.specs.Parts.{Follow, AreWithin, Ascend, AreAllOf}
use Rattle.krl_embed.specs.declared.code.Code.{Code}
use Rattle.krl_embed.specs.declared.code.Code.TheVariants as code
use Rattle.krl_embed.specs.declared.reply.Reply.{Reply}
use Rattle.krl_embed.specs.declared.shards.PartRow.{PartRow}
use Rattle.krl_embed.specs.Replies.{code_of}

-- these are bounds of shards: each shard has a point, and there are not too many
abbrev pub AreBounds : List ℕ → Type 0
AreBounds bounds = (length bounds < max_shards) × IsPartition bounds

-- The shard of a point

-- the shard has the point, and no other shard has it
abbrev pub HasPoint : List ℕ → ℕ → ℕ → Type 0
HasPoint bounds p i = IsShardOf bounds p i × IsOnlyShardOf bounds p i

-- The detail is the shard. Otherwise the bounds are none, or the point lies past the last one.
abbrev pub TellsShardAs : List ℕ → ℕ → ℕ → Option Code → Type 0
TellsShardAs bounds p i (Some code.Done) = AreBounds bounds × HasPoint bounds p i
TellsShardAs bounds p i (Some code.BadShards) = (AreBounds bounds → ⊥) × (i ≡ 0)
TellsShardAs bounds p i (Some code.BadPoint) = AreBounds bounds × (last_point < p) × (i ≡ 0)
TellsShardAs bounds p i _ = ⊥

abbrev pub TellsShard : List ℕ → ℕ → Reply → Type 0
TellsShard bounds p r = TellsShardAs bounds p r.detail (code_of r)

-- The parts of a span

-- these are all parts of the span, one after another, each in its shard
pub record ArePartsOf (bounds : List ℕ) (s : Bounds) (ps : List Part) : Type 0 where
  pub follow : Follow bounds s.hi s.lo s.hi ps
  pub within : AreWithin bounds s ps
  pub ascend : Ascend ps
  pub all : AreAllOf s ps

-- the part, as C sees it
abbrev pub row_of : Part → PartRow
row_of p = record { shard = p.shard; lo = p.lo; hi = p.hi }

-- Done: the parts are in front of the room's old ones; TooShort: the room is too short, and nothing changes. The
-- detail is how many parts there are.
abbrev pub CopiesAs : List Part → List PartRow → List PartRow → Option Code → Type 0
CopiesAs found was now (Some code.Done) = now ≡ map row_of found ++ drop (length found) was
CopiesAs found was now (Some code.TooShort) = (length was < length found) × (now ≡ was)
CopiesAs found was now _ = ⊥

abbrev pub Copies : List Part → List PartRow → List PartRow → Reply → Type 0
Copies found was now r = (r.detail ≡ length found) × CopiesAs found was now (code_of r)

abbrev pub CopiesParts : List ℕ → Bounds → List PartRow → List PartRow → Reply → Type 0
CopiesParts bounds s was now r =
    AreBounds bounds × ((ps : List Part) × ArePartsOf bounds s ps × Copies ps was now r)

-- some point lies in the span, and none past the last point
abbrev pub IsSpan : Bounds → Type 0
IsSpan s = IsWhole s × (s.hi ≤ past_points)

-- The parts go into the room. Otherwise the bounds are none, or the span is none, and the room stays as it was.
abbrev pub TellsPartsAs : List ℕ → Bounds → List PartRow → List PartRow → Reply → Option Code → Type 0
TellsPartsAs bounds s was now r (Some code.Done) = CopiesParts bounds s was now r
TellsPartsAs bounds s was now r (Some code.TooShort) = CopiesParts bounds s was now r
TellsPartsAs bounds s was now r (Some code.BadShards) = (AreBounds bounds → ⊥) × (r.detail ≡ 0) × (now ≡ was)
TellsPartsAs bounds s was now r (Some code.BadSpan) =
    AreBounds bounds × (IsSpan s → ⊥) × (r.detail ≡ 0) × (now ≡ was)
TellsPartsAs bounds s was now r _ = ⊥

abbrev pub TellsParts : List ℕ → Bounds → List PartRow → List PartRow → Reply → Type 0
TellsParts bounds s was now r = TellsPartsAs bounds s was now r (code_of r)
