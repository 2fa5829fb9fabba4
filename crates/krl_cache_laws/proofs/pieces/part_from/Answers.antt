use Rattle.std.proofs.Common.{◌≡◌, ℕ, sym, subst, arith}
use Rattle.krl_modes.specs.declared.point.TheConstants.{TOP}
use Rattle.krl_modes.specs.declared.part.RangePart.TheVariants as range
use Rattle.krl_cache.specs.Kept.{first_range_at}
use Rattle.krl_cache_laws.proofs.Clipped.{found_over, found_said, found_none}
use Rattle.krl_cache_laws.proofs.pieces.part_from.Goals as goal

pub returns-in-Some : goal.returns-in-Some
returns-in-Some c =
    let xs = c.args.pieces.now in
    let x = c.in-Some.piece in
    let over = found_over 0 TOP xs c.args.p x c.requires.stand (sym c.in-Some.ensures) in
    record { more = omega (arith, over.1, c.hi.ensures.end); holds = λ q l u. found_said 0 TOP xs c.args.p q x c.requires.stand (sym c.in-Some.ensures) l (omega (arith, u, c.hi.ensures.end)) }

pub returns-in-None : goal.returns-in-None
returns-in-None c =
    let xs = c.args.pieces.now in
    record {
      more = omega arith;
      holds = λ q l u. let same : c.args.p ≡ q = omega arith in subst (λ (n : ℕ). first_range_at xs n ≡ range.N) same (found_none xs c.args.p (sym c.in-None.ensures));
    }
