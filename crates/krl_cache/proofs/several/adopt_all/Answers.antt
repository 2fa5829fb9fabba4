use Rattle.std.proofs.Common.{◌≡◌, ℕ, ◌≤◌, ◌<◌, List, [], ◌∷◌, length, refl, sym, subst, arith}
use Rattle.krl_modes.specs.declared.part.RangePart.{RangePart}
use Rattle.krl_messages.specs.declared.holding.Holding.{Holding}
use Rattle.krl_cache.specs.Joined.{AreJoined}
use Rattle.krl_cache.proofs.Beside.{joined_some}
use Rattle.krl_cache.proofs.several.adopt_all.Goals as goal

joined_long : (hs : List Holding) (lo hi : ℕ) (part : RangePart) → 1 ≤ length hs → AreJoined hs lo hi part → lo < hi
joined_long [] lo hi part some given = absurd (omega (arith, some))
joined_long (h ∷ rest) lo hi part some given = joined_some (h ∷ rest) h rest lo hi part refl given

pub adopt_joined-requires-clause-some : goal.adopt_joined-requires-clause-some
adopt_joined-requires-clause-some c =
    joined_long c.as_slice-holdings.result.now c.lo-lo.result c.in-Some-joined_to.hi _
    (subst (λ (l : List Holding). 1 ≤ length l) (sym c.as_slice-holdings.ensures.holdings) c.as_slice-holdings.ensures.few.0)
    c.in-Some-joined_to.ensures
