-- What a test and an option show. Every crate takes these from here.
use Rattle.std.proofs.Common.{◌≡◌, Bool, true, false, Option, Some, None, is_some, refl}
pub use Rattle.std.proofs.option.Match.{None-if_not_some}

pub not_both : (b : Bool) → b ≡ true → b ≡ false → ⊥
not_both true e f = cc
not_both false e f = cc

pub Some-if_some : {A : Type 0} (o : Option A) → is_some o ≡ true → (x : A) × (o ≡ Some x)
Some-if_some None e = absurd (cc)
Some-if_some (Some x) e = (x, refl)
