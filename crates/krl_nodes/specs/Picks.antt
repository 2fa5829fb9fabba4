-- What becomes of a letter, if that is drawn.
use Rattle.std.specs.Prelude.{◌≡◌, ℕ, nat_eq, nat_lt, if◌then◌else◌}
use Rattle.rand_pcg.specs.Lcg.{Lcg}
use Rattle.krl_draws.specs.Generator.{Draw, below, always, ◌>>=◌}
use Rattle.krl_nodes.specs.declared.policy.Pick.{Pick}
use Rattle.krl_nodes.specs.declared.policy.Pick.TheVariants.{Take, Copy, Lose}

-- what becomes of the letter in this place, by a number below eight
abbrev pub fate : ℕ → ℕ → Pick
fate n at = if nat_eq n 0 then Lose at else (if nat_lt n 3 then Copy at else Take at)

-- one letter in eight is lost and two are delivered without being taken out; each of the letters may be the one
abbrev pub picked : ℕ → Draw Pick
picked letters = below 8 >>= λ n. below letters >>= λ at. always (fate n at)

-- what a drawn policy picks
abbrev pub drawn_picks : Lcg → ℕ → Pick → Lcg → Type 0
drawn_picks before letters pick after = let drawn : Pick × Lcg = (pick, after) in drawn ≡ picked letters before
