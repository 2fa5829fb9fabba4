-- At how many slots a client holds something.
use Rattle.std.specs.Prelude.{◌≡◌, ◌≢◌, ℕ, suc, ◌<◌, ◌≤◌, List, [], ◌∷◌, length}
use Rattle.krl_modes.specs.declared.mode.Mode.TheVariants as mode
use Rattle.krl_table.specs.Rows.{Rows, mode_at}

-- the client holds a mode other than N at the slot, and none at those below it from this point on
pub record IsNextHeld (rows : Rows) (c from n : ℕ) : Type 0 where
  pub above : from ≤ n
  pub held : mode_at rows n c ≢ mode.N
  pub least : (k : ℕ) → from ≤ k → k < n → mode_at rows k c ≡ mode.N

-- these are the slots from this point on at which it does, each once, in ascending order
abbrev pub AreHeld : Rows → ℕ → ℕ → List ℕ → Type 0
AreHeld rows c from [] = (n : ℕ) → from ≤ n → mode_at rows n c ≡ mode.N
AreHeld rows c from (n ∷ ns) = IsNextHeld rows c from n × AreHeld rows c (suc n) ns

-- they are so many
pub record HoldsAt (rows : Rows) (c count : ℕ) : Type 0 where
  pub slots : List ℕ
  pub held : AreHeld rows c 0 slots
  pub number : count ≡ length slots
