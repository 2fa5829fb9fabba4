-- What is to become of the starts of a map when a part is put on a span.
use Rattle.std.specs.Prelude.{◌≡◌, ◌≢◌, ℕ, suc, Bool, false, Option, None, Some, nat_eq, if◌then◌else◌}
use Rattle.std.specs.BTreeMap.{BTreeMap}
use Rattle.krl_modes.specs.declared.part.RangePart.{RangePart}
use Rattle.krl_cache.specs.declared.adopt.StartChange.{StartChange}
use Rattle.krl_cache.specs.declared.adopt.Plan.{Plan}
use Rattle.krl_cache.specs.Entries.{lies_in}
use Rattle.krl_cache.specs.Maps.{part_at}
use Rattle.krl_cache.specs.MapSteps.{IsFree, HoldsBefore, CanUndo}

-- the part begins, unless it held before
abbrev pub IsBegun : RangePart → RangePart → Option RangePart → Type 0
IsBegun before part None = part ≡ before
IsBegun before part (Some v) = (v ≡ part) × (part ≢ before)

-- the part of a start that was taken, if one was
abbrev pub part_taken : Option (ℕ × RangePart) → Option RangePart
part_taken None = None
part_taken (Some e) = Some e.1

-- what stands once what is new was put in: what stood, otherwise what is to stand
abbrev pub opened : Option RangePart → Option RangePart → Option RangePart
opened None becomes = becomes
opened (Some v) becomes = Some v

abbrev pub open_at : StartChange → Option RangePart
open_at c = opened c.was c.becomes

-- at both ends of a span, within it, and elsewhere
abbrev pub placed : ℕ → ℕ → ℕ → Option RangePart → Option RangePart → Option RangePart → Option RangePart
placed lo hi q low high other =
    if nat_eq q lo then low else if nat_eq q hi then high else if lies_in lo hi q then None else other

-- the starts once what is new at both ends was put in, and once all is done
abbrev pub opens : (ℕ → Option RangePart) → ℕ → ℕ → Plan → ℕ → Option RangePart
opens f lo hi x q =
    if nat_eq q hi then open_at x.high else if nat_eq q lo then open_at x.low else f q

abbrev pub closes : (ℕ → Option RangePart) → ℕ → ℕ → Plan → ℕ → Option RangePart
closes f lo hi x q = placed lo hi q x.low.becomes x.high.becomes (f q)

-- what stands at the ends and between, and what is to stand there when the part is put on the span
pub record IsPlan (f : ℕ → Option RangePart) (lo hi : ℕ) (part : RangePart) (x : Plan) : Type 0 where
  pub before : RangePart
  pub holds : HoldsBefore f lo before
  pub low_was : f lo ≡ x.low.was
  pub high_was : f hi ≡ x.high.was
  pub low : IsBegun before part x.low.becomes
  pub high : IsBegun part (part_at f hi) x.high.becomes
  pub free : x.within ≡ false → IsFree f (suc lo) hi

-- to take out both points, if they are fresh, leads back
abbrev pub CanShut : BTreeMap ℕ RangePart → BTreeMap ℕ RangePart → ℕ → ℕ → Bool → Bool → Type 0
CanShut old new lo hi low high =
    (mid : BTreeMap ℕ RangePart) × CanUndo old mid lo low × CanUndo mid new hi high

-- taking both points out of the map `given` leads back
abbrev pub Shuts : BTreeMap ℕ RangePart → BTreeMap ℕ RangePart → ℕ → ℕ → Bool → Bool → Type 0
Shuts given out lo hi low high =
    (first now : BTreeMap ℕ RangePart) → CanShut first now lo hi low high
    → given.entries ≡ now.entries → out.entries ≡ first.entries
