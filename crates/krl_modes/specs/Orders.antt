-- Orders, their bounds, and compatibility.
use Rattle.std.specs.Prelude.{◌≡◌, Bool, IsTrue}

-- each is at most itself, two that are at most each other are the same, and what is at most b is at most
-- whatever b is at most
pub record IsPartialOrder {A : Type 0} (at_most : A → A → Bool) : Type 0 where
  pub reflexive : (a : A) → IsTrue (at_most a a)
  pub antisymmetric : (a b : A) → IsTrue (at_most a b) → IsTrue (at_most b a) → a ≡ b
  pub transitive : (a b c : A) → IsTrue (at_most a b) → IsTrue (at_most b c) → IsTrue (at_most a c)

-- the bound is above both, and at most each that is above both
pub record IsLeastUpperBound {A : Type 0} (at_most : A → A → Bool) (a b bound : A) : Type 0 where
  pub above_first : IsTrue (at_most a bound)
  pub above_second : IsTrue (at_most b bound)
  pub least : (c : A) → IsTrue (at_most a c) → IsTrue (at_most b c) → IsTrue (at_most bound c)

-- the bound is below both, and each that is below both is at most the bound
pub record IsGreatestLowerBound {A : Type 0} (at_most : A → A → Bool) (a b bound : A) : Type 0 where
  pub below_first : IsTrue (at_most bound a)
  pub below_second : IsTrue (at_most bound b)
  pub greatest : (c : A) → IsTrue (at_most c a) → IsTrue (at_most c b) → IsTrue (at_most c bound)

-- which are compatible: it does not matter which comes first, and what is compatible with c may be
-- lowered
pub record IsCompatibility {A : Type 0} (at_most compatible : A → A → Bool) : Type 0 where
  pub symmetric : (a b : A) → compatible a b ≡ compatible b a
  pub downward : (a b c : A) → IsTrue (at_most a b) → IsTrue (compatible b c) → IsTrue (compatible a c)
