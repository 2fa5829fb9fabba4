-- What is assumed of clocks, and of the servers that grant leases.
use Rattle.std.specs.Prelude.{◌≡◌, ◌⊎◌, ◌<◌, ◌≤◌, ℕ, ◌+◌, ◌*◌}
use Rattle.krl_leases.specs.declared.length.TheConstants.{FOR_EVER}
use Rattle.krl_leases.specs.declared.length.Terms.{Terms}
use Rattle.krl_leases.specs.Lengths.{stretched}

-- What the clock of the client's machine shows at each moment of real time, and that of each machine on which a server
-- may run. A machine that has booted again is another one. What a clock shows while nobody reads it does not count: one
-- that stands still then agrees with all others
pub record Clocks : Type 0 where
  pub client : ℕ → ℕ
  pub server : ℕ → ℕ → ℕ  -- by machine

-- what the operator sees to: no server has a smaller drift, and no lease that ends is longer
pub record Limits : Type 0 where
  pub drift : ℕ
  pub longest : ℕ

-- While the client's clock advances by less than a lease, the clock of each server's machine advances by less than that
-- lease with the drift. Nothing is assumed of what the clocks show, of delays, or of how long anything stands still.
pub record Agree (limits : Limits) (clocks : Clocks) : Type 0 where
  pub rises : (m x y : ℕ) → x ≤ y → clocks.server m x ≤ clocks.server m y
  pub rates : (m x y length : ℕ) → x ≤ y → length ≤ limits.longest →
      clocks.client y < clocks.client x + length → clocks.server m y < clocks.server m x + stretched limits.drift length

-- a server may have these terms
pub record MayGrant (limits : Limits) (terms : Terms) : Type 0 where
  pub drift : limits.drift ≤ terms.drift
  pub number : terms.length ≤ FOR_EVER
  pub length : (terms.length ≤ limits.longest) ⊎ (terms.length ≡ FOR_EVER)

-- clocks that run steadily: in no span of time does a server's gain more on the client's than the drift, in percent
pub record AreSteady (limits : Limits) (clocks : Clocks) : Type 0 where
  pub rises : (m x y : ℕ) → x ≤ y → clocks.server m x ≤ clocks.server m y
  pub steady : (m x y : ℕ) → x ≤ y →
      100 * clocks.server m y + (100 + limits.drift) * clocks.client x
      ≤ 100 * clocks.server m x + (100 + limits.drift) * clocks.client y
