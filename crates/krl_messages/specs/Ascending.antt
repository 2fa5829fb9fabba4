-- Holdings in ascending order.
use Rattle.std.specs.Prelude.{ℕ, ◌≤◌, nat_le, Bool, true, ◌&&◌, List, [], ◌∷◌, length}
use Rattle.krl_modes.specs.declared.limits.TheConstants.{MAX_HOLDINGS}
use Rattle.krl_messages.specs.declared.holding.Holding.{Holding}

-- the span ends before the next holding's begins, or where it begins
abbrev pub IsBefore : Holding → List Holding → Type 0
IsBefore h [] = Unit {0}
IsBefore h (k ∷ ks) = h.span.hi ≤ k.span.lo

-- in ascending order, no point in two of them
abbrev pub Ascend : List Holding → Type 0
Ascend [] = Unit {0}
Ascend (h ∷ hs) = IsBefore h hs × Ascend hs

-- the same as a test; the first span begins at this point or after it
abbrev pub ascend_from : ℕ → List Holding → Bool
ascend_from least [] = true
ascend_from least (h ∷ hs) = nat_le least h.span.lo && ascend_from h.span.hi hs

-- whether these are some holdings in order, and not too many
abbrev pub are_holdings : List Holding → Bool
are_holdings hs = (nat_le 1 (length hs) && nat_le (length hs) MAX_HOLDINGS) && ascend_from 0 hs
