use Rattle.std.proofs.Common.{◌≡◌, ◌++◌, ℕ, drop}
use Rattle.krl_modes.specs.declared.point.TheConstants.{TOP}
use Rattle.krl_cache.specs.Kept.{first_range_at, AreMerged}
use Rattle.krl_cache.specs.Entries.{StandWithin}
use Rattle.krl_cache_laws.proofs.pieces.merged.Given as goal

abbrev pub invariant-loop-piece : goal.invariant-loop-piece
invariant-loop-piece l = record {
  stand : StandWithin 0 TOP (l.list.items ++ drop l.piece-index l.pieces);
  said : (p : ℕ) → first_range_at (l.list.items ++ drop l.piece-index l.pieces) p ≡ first_range_at l.pieces p;
  merged : AreMerged l.list.items;
}
