-- What the slot of a point and the span of a slot are, in plain words.
use Rattle.std.specs.Prelude.{◌≡◌, ◌≤◌, ◌<◌, ℕ, suc, true, false, Option, None, Some}
use Rattle.krl_durable.specs.Index.{Index, is_slot}

-- the point after a key, or 0
abbrev pub behind : Option ℕ → ℕ
behind None = 0
behind (Some k) = suc k

-- n is the least slot at or above the point
pub record IsSlotOf (m : Index) (p n : ℕ) : Type 0 where
  pub slot : is_slot m n ≡ true
  pub above : p ≤ n
  pub least : (k : ℕ) → p ≤ k → k < n → is_slot m k ≡ false

-- the points from low on up to the slot n hold no slot before it, and low is 0 or comes after a slot
pub record IsSpanOf (m : Index) (n low : ℕ) : Type 0 where
  pub up_to : low ≤ n
  pub alone : (k : ℕ) → low ≤ k → k < n → is_slot m k ≡ false
  pub behind : (k : ℕ) → low ≡ suc k → is_slot m k ≡ true
