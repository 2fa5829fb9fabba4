-- What stands in a list, and what is made of something if it is there.
use Rattle.std.specs.Prelude.{◌≡◌, List, [], ◌∷◌, ◌⊎◌, Option, None, Some}

-- x stands in the list
abbrev pub In : {A : Type 0} → A → List A → Type 0
In x [] = ⊥
In x (y ∷ ys) = (x ≡ y) ⊎ In x ys

-- what f makes of what is there, or d if nothing is: Rust's map_or
abbrev pub map_or : {A B : Type 0} → Option A → B → (A → B) → B
map_or None d f = d
map_or (Some x) d f = f x
