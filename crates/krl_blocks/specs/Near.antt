use Rattle.std.specs.Prelude.{◌<◌, ◌^◌, ℕ, List, [], ◌∷◌}

-- all of these numbers are below 2^63
abbrev pub AreNear : List ℕ → Type 0
AreNear [] = Unit {0}
AreNear (n ∷ ns) = (n < 2 ^ 63) × AreNear ns

-- all of these entries have keys below 2^63
abbrev pub AreKeysNear : {V : Type 0} → List (ℕ × V) → Type 0
AreKeysNear [] = Unit {0}
AreKeysNear (e ∷ es) = (e.0 < 2 ^ 63) × AreKeysNear es
