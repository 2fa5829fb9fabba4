-- Whether what clients hold is compatible, looked at point by point.
use Rattle.std.specs.Prelude.{ℕ, zero, suc, ◌-◌, ◌&&◌, Bool, true, not, List, [], ◌∷◌, ◌++◌, Option}
use Rattle.std.specs.List.{find}
use Rattle.krl_modes.specs.declared.point.TheConstants.{END}
use Rattle.krl_modes.specs.Parts.{ranges_compatible, keys_compatible}
use Rattle.krl_modes.specs.declared.limits.TheConstants.{MAX_CLIENTS}
use Rattle.krl_world.specs.States.{State, range_held, key_held}

-- two clients hold compatible parts at the point
abbrev pub are_compatible : State → ℕ → ℕ → ℕ → Bool
are_compatible w p c d =
    ranges_compatible (range_held w c p) (range_held w d p)
    && keys_compatible (key_held w c p) (key_held w d p)

-- it is so of each number below n
unfoldable pub all_below : ℕ → (ℕ → Bool) → Bool
all_below zero f = true
all_below (suc n) f = all_below n f && f n

-- each two of the first n clients hold compatible parts at the point
abbrev pub is_sound_at : State → ℕ → ℕ → Bool
is_sound_at w n p = all_below n (λ c. all_below c (are_compatible w p c))

-- the numbers below n, the least first
unfoldable pub numbers_below : ℕ → List ℕ
numbers_below zero = []
numbers_below (suc n) = numbers_below n ++ n ∷ []

-- the first of these points at which two of the first n clients hold incompatible parts
abbrev pub first_unsound : State → ℕ → List ℕ → Option ℕ
first_unsound w n points = find (λ p. not (is_sound_at w n p)) points

-- the points that `check` looks at
abbrev pub checked_points : List ℕ
checked_points = numbers_below 64 ++ (END - 1) ∷ END ∷ []

-- the least of them at which two clients hold incompatible parts
unfoldable pub unsound_point : State → Option ℕ
unsound_point w = first_unsound w MAX_CLIENTS checked_points
