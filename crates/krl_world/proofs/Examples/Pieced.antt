-- Pieces that describe what the clients of these runs believe.
use Rattle.krl_world.proofs.Names.{◌≡◌, Bool, true, false, Some, [], ◌∷◌, refl, if◌then◌else◌, nat_eq, ℕ, suc, arith, nat_tests, RangePart, KeyPart, range_meet, key_meet, contains, Pieces, Holding}
use Rattle.krl_world.proofs.Names.{adopt, lower, no_belief, Describes, span}
use Rattle.krl_modes.specs.declared.part.RangePart.TheVariants as range
use Rattle.krl_modes.specs.declared.part.KeyPart.TheVariants as key
use Rattle.krl_modes.specs.declared.mode.Mode.TheVariants as mode
use Rattle.krl_world.proofs.Examples.Worked.{gap}
use Rattle.krl_world.proofs.Examples.Running.{no_pieces}

-- these parts on the gap below 10 and the entry there
abbrev pub pieces_of : RangePart → KeyPart → Pieces
pieces_of r k = record { ranges = record { span = span 0 11; part = r } ∷ []; keys = record { point = 10; part = k } ∷ [] }

key_by : (k : KeyPart) (p : ℕ) (t u v : Bool) → contains (span 0 11) p ≡ t → nat_eq (suc p) 11 ≡ u → nat_eq p 10 ≡ v → (if v then k else key.N) ≡ (if t then (if u then k else key.N) else key.N)
key_by k p true true true e f g = refl
key_by k p true false false e f g = refl
key_by k p false true false e f g = refl
key_by k p false false false e f g = refl
key_by k p true true false e f g = grind (arith, nat_tests)
key_by k p true false true e f g = grind (arith, nat_tests)
key_by k p false u true e f g = grind (arith, nat_tests)

pub told_gap : Describes (pieces_of range.S key.S) (adopt gap no_belief)
told_gap = record { ranges_in_order = (omega arith, omega arith, omega arith, tt); merged = (λ e. absurd (cc), tt, tt); keys_in_order = (omega arith, omega arith, refl, tt); ranges = λ p. refl; keys = λ p. key_by key.S p (contains (span 0 11) p) (nat_eq (suc p) 11) (nat_eq p 10) refl refl refl }

-- the same gap, held exclusively
abbrev pub gap_alone : Holding
gap_alone = record { span = span 0 11; mode = mode.RangeXX; value = Some (1 ∷ []) }

pub told_alone : Describes (pieces_of range.X key.X) (adopt gap_alone no_belief)
told_alone = record { ranges_in_order = (omega arith, omega arith, omega arith, tt); merged = (λ e. absurd (cc), tt, tt); keys_in_order = (omega arith, omega arith, refl, tt); ranges = λ p. refl; keys = λ p. key_by key.X p (contains (span 0 11) p) (nat_eq (suc p) 11) (nat_eq p 10) refl refl refl }

-- nothing is left of the gap that was given up

no_range : (t : Bool) → range.N ≡ (if t then range_meet (if t then range.S else range.N) range.N else (if t then range.S else range.N))
no_range true = refl
no_range false = refl

no_key : (t u : Bool) → key.N ≡ (if t then key_meet (if t then (if u then key.S else key.N) else key.N) key.N else (if t then (if u then key.S else key.N) else key.N))
no_key true true = refl
no_key true false = refl
no_key false u = refl

pub told_given_up : Describes no_pieces (lower (span 0 11) mode.N (adopt gap no_belief))
told_given_up = record { ranges_in_order = tt; merged = tt; keys_in_order = tt; ranges = λ p. no_range (contains (span 0 11) p); keys = λ p. no_key (contains (span 0 11) p) (nat_eq (suc p) 11) }
