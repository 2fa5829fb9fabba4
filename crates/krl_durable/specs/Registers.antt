-- The register: a record of each client that ever registered, in order of first registration.
use Rattle.std.specs.Prelude.{◌≡◌, ℕ, ◌≤◌, true, false, not, nat_eq, is_some, List, [], ◌∷◌, Option, Some, None, if◌then◌else◌}
use Rattle.krl_modes.specs.declared.point.TheConstants.{END}
use Rattle.krl_messages.specs.Members.{map_or}
use Rattle.krl_durable.specs.declared.record.Record.{Record}
use Rattle.krl_durable.specs.Index.{Index}

-- the clients and their records
abbrev pub Register : Type 0
Register = List (ℕ × Record)

-- what survives a restart
pub record Durable : Type 0 where
  -- how many entries the index has room for
  pub room : ℕ
  -- how many slots one grant reaches at most
  pub reach : ℕ
  pub index : Index
  pub epoch : ℕ
  pub register : Register

-- the record of a client, if it is registered
abbrev pub record_of : Register → ℕ → Option Record
record_of [] c = None
record_of (e ∷ es) c = if nat_eq c e.0 then Some e.1 else record_of es c

-- the register with this record of the client: in its place, or last
abbrev pub with_record : Register → ℕ → Record → Register
with_record [] c r = (c, r) ∷ []
with_record (e ∷ es) c r = if nat_eq c e.0 then (c, r) ∷ es else e ∷ with_record es c r

-- the clients that have not left, by first registration
abbrev pub not_left : Register → List ℕ
not_left [] = []
not_left (e ∷ es) = if e.1.left then not_left es else e.0 ∷ not_left es

-- of this incarnation no write has been judged
abbrev pub new_record : ℕ → Record
new_record incarnation = record { incarnation = incarnation; left = false; last = 0; outcome = None }

-- the client is registered with this incarnation
abbrev pub registered : Durable → ℕ → ℕ → Durable
registered d c incarnation = record d { register = with_record d.register c (new_record incarnation) }

-- the registered client is marked left
abbrev pub departed : Durable → ℕ → Durable
departed d c =
    map_or (record_of d.register c) d
    (λ (r : Record). record d { register = with_record d.register c (record r { left = true }) })

-- no write has a number above END
abbrev pub HasLasts : Register → Type 0
HasLasts register = (c : ℕ) (r : Record) → record_of register c ≡ Some r → r.last ≤ END

-- an incarnation: a number from 1 to END
abbrev pub IsIncarnation : ℕ → Type 0
IsIncarnation n = (1 ≤ n) × (n ≤ END)

-- each client registered with an incarnation
abbrev pub HasIncarnations : Register → Type 0
HasIncarnations register =
    (c : ℕ) (r : Record) → record_of register c ≡ Some r → IsIncarnation r.incarnation

-- there is an outcome exactly if a write was judged
abbrev pub HasOutcomes : Register → Type 0
HasOutcomes register =
    (c : ℕ) (r : Record) → record_of register c ≡ Some r → is_some r.outcome ≡ not (nat_eq r.last 0)
