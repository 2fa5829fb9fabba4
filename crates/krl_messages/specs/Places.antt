-- What holds of each list of holdings.
use Rattle.std.specs.Prelude.{◌≤◌, List, length}
use Rattle.krl_messages.specs.declared.holding.Holding.{Holding}
use Rattle.krl_messages.specs.Ascending.{Ascend}
use Rattle.krl_modes.specs.declared.limits.TheConstants.{MAX_HOLDINGS}

-- some holdings, in order
pub record AreHoldings (hs : List Holding) : Type 0 where
  pub some : 1 ≤ length hs
  pub few : length hs ≤ MAX_HOLDINGS
  pub ascend : Ascend hs
