-- The test whether holdings ascend.
use Rattle.std.proofs.Common.{◌≡◌, ◌≤◌, ℕ, Bool, true, ◌&&◌, List, [], ◌∷◌, length, refl, nat_le, arith}
use Rattle.std.proofs.lemmas.Bool.{leb-true, le-leb, and_parts, and_from}
use Rattle.krl_messages.specs.declared.holding.Holding.{Holding}
use Rattle.krl_messages.specs.Ascending.{Ascend, ascend_from, are_holdings}
use Rattle.krl_modes.specs.declared.limits.TheConstants.{MAX_HOLDINGS}
use Rattle.krl_messages.specs.Places.{AreHoldings}

up : (least : ℕ) (hs : List Holding) → ascend_from least hs ≡ true → Ascend hs
up least [] e = tt
up least (h ∷ []) e = (tt, tt)
up least (h ∷ k ∷ ks) e =
    let rest = (and_parts (nat_le least h.span.lo) (ascend_from h.span.hi (k ∷ ks)) e).1 in
    (leb-true h.span.hi k.span.lo (and_parts (nat_le h.span.hi k.span.lo) (ascend_from k.span.hi ks) rest).0, up h.span.hi (k ∷ ks) rest)

-- the first span begins at this point or after it
abbrev BeginsFrom : ℕ → List Holding → Type 0
BeginsFrom least [] = Unit {0}
BeginsFrom least (h ∷ hs) = least ≤ h.span.lo

down : (least : ℕ) (hs : List Holding) → BeginsFrom least hs → Ascend hs → ascend_from least hs ≡ true
down least [] le up = refl
down least (h ∷ []) le up = and_from (nat_le least h.span.lo) true (le-leb least h.span.lo le) refl
down least (h ∷ k ∷ ks) le up = and_from (nat_le least h.span.lo) (ascend_from h.span.hi (k ∷ ks)) (le-leb least h.span.lo le) (down h.span.hi (k ∷ ks) up.0 up.1)

from_0 : (hs : List Holding) → BeginsFrom 0 hs
from_0 [] = tt
from_0 (h ∷ hs) = omega arith

pub are_so : (hs : List Holding) → are_holdings hs ≡ true → AreHoldings hs
are_so hs e =
    let both = and_parts (nat_le 1 (length hs) && nat_le (length hs) MAX_HOLDINGS) (ascend_from 0 hs) e in
    let lengths = and_parts (nat_le 1 (length hs)) (nat_le (length hs) MAX_HOLDINGS) both.0 in
    record { some = leb-true 1 (length hs) lengths.0; few = leb-true (length hs) MAX_HOLDINGS lengths.1; ascend = up 0 hs both.1 }

pub so_are : (hs : List Holding) → AreHoldings hs → are_holdings hs ≡ true
so_are hs h =
    and_from (nat_le 1 (length hs) && nat_le (length hs) MAX_HOLDINGS) (ascend_from 0 hs)
    (and_from (nat_le 1 (length hs)) (nat_le (length hs) MAX_HOLDINGS) (le-leb 1 (length hs) h.some) (le-leb (length hs) MAX_HOLDINGS h.few))
    (down 0 hs (from_0 hs) h.ascend)
