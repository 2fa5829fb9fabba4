-- The register, by what an `IndexMap` states of its entries.
use Rattle.krl_durable.proofs.Names.{◌≡◌, ℕ, Bool, true, false, cond, nat_eq, List, [], ◌∷◌, Option, None, Some, refl, sym, ap, subst, ◌∙◌, is_some, nat_lt, IsSome, IfSome, AllByRecursion}
use Rattle.krl_durable.proofs.Names.{filter_map, lookup, set_value, Record, Register, record_of, with_record, not_left, HasOutcomes, HasLasts, HasIncarnations, IsRow, IsRecord, missing_of}
use Rattle.indexmap.specs.IndexMap.{insert_entry}
use borrow.Author.Tests.{eqb-true}

-- a look-up finds the client's record
pub record_seen : (es : Register) (c : ℕ) → lookup (nat_eq c) es ≡ record_of es c
record_seen [] c = refl
record_seen (e ∷ es) c = ap (cond (nat_eq c e.0) (Some e.1)) (record_seen es c)

-- an insert keeps the key that stands there, which is the client's number
set_one : (c k : ℕ) (r : Record) (es xs ys : Register) (b : Bool) → nat_eq c k ≡ b → xs ≡ ys → cond b ((k, r) ∷ es) xs ≡ cond b ((c, r) ∷ es) ys
set_one c k r es xs ys true h e = ap (λ (n : ℕ). (n, r) ∷ es) (sym (eqb-true c k h))
set_one c k r es xs ys false h e = e

pub set_seen : (es : Register) (c : ℕ) (r : Record) → insert_entry nat_eq es c r ≡ with_record es c r
set_seen [] c r = refl
set_seen (e ∷ es) c r = set_one c e.0 r es _ _ (nat_eq c e.0) refl (ap (λ rest. e ∷ rest) (set_seen es c r))

-- so does a write to the value of a key that is there
pub replaced_seen : (es : Register) (c : ℕ) (r : Record) → IsSome (record_of es c) → set_value (nat_eq c) es r ≡ with_record es c r
replaced_seen [] c r h = absurd (let bad : false ≡ true = h in cc)
replaced_seen (e ∷ es) c r h = replaced_one (nat_eq c e.0) refl h (replaced_seen es c r)
  where
    replaced_one : (b : Bool) → nat_eq c e.0 ≡ b → is_some (cond b (Some e.1) (record_of es c)) ≡ true → (IsSome (record_of es c) → set_value (nat_eq c) es r ≡ with_record es c r)
        → cond b ((e.0, r) ∷ es) (e ∷ set_value (nat_eq c) es r) ≡ cond b ((c, r) ∷ es) (e ∷ with_record es c r)
    replaced_one true is there rest = ap (λ (n : ℕ). (n, r) ∷ es) (sym (eqb-true c e.0 is))
    replaced_one false is there rest = ap (λ (more : Register). e ∷ more) (rest there)

kept_one : (c : ℕ) (r : Record) (e : ℕ × Record) (es more : Register) (b : Bool) → IsRow (c, r) → IsRow e → AllByRecursion IsRow es → AllByRecursion IsRow more → AllByRecursion IsRow (cond b ((c, r) ∷ es) (e ∷ more))
kept_one c r e es more true new here rest after = (new, rest)
kept_one c r e es more false new here rest after = (here, after)

-- each row is as it should be, after one is set too
pub rows_with : (es : Register) (c : ℕ) (r : Record) → AllByRecursion IsRow es → IsRow (c, r) → AllByRecursion IsRow (with_record es c r)
rows_with [] c r h new = (new, tt)
rows_with (e ∷ es) c r h new = kept_one c r e es (with_record es c r) (nat_eq c e.0) new h.0 h.1 (rows_with es c r h.1 new)

-- the number of a client with a record is below 64
pub client_below : (es : Register) (c : ℕ) → AllByRecursion IsRow es → IsSome (record_of es c) → nat_lt c 64 ≡ true
client_below [] c h there = absurd (let bad : false ≡ true = there in cc)
client_below (e ∷ es) c h there = one (nat_eq c e.0) refl there (client_below es c h.1)
  where
    one : (b : Bool) → nat_eq c e.0 ≡ b → is_some (cond b (Some e.1) (record_of es c)) ≡ true → (IsSome (record_of es c) → nat_lt c 64 ≡ true) → nat_lt c 64 ≡ true
    one true is there rest = ap (λ (n : ℕ). nat_lt n 64) (eqb-true c e.0 is) ∙ h.0.0
    one false is there rest = rest there

-- what each row has, the record that is found has
records_seen : (es : Register) (c : ℕ) (r : Record) → AllByRecursion IsRow es → record_of es c ≡ Some r → IsRecord r
records_seen [] c r h found = absurd (let bad : None ≡ Some r = found in cc)
records_seen (e ∷ es) c r h found = one (nat_eq c e.0) found (records_seen es c r h.1)
  where
    one : (b : Bool) → cond b (Some e.1) (record_of es c) ≡ Some r → (record_of es c ≡ Some r → IsRecord r) → IsRecord r
    one true found rest = subst IsRecord (let same : e.1 ≡ r = cc in same) h.0.1
    one false found rest = rest found

pub outcomes_seen : (es : Register) → AllByRecursion IsRow es → HasOutcomes es
outcomes_seen es h c r found = (records_seen es c r h found).0

pub lasts_seen : (es : Register) → AllByRecursion IsRow es → HasLasts es
lasts_seen es h c r found = (records_seen es c r h found).1

pub incarnations_seen : (es : Register) → AllByRecursion IsRow es → HasIncarnations es
incarnations_seen es h c r found = (records_seen es c r h found).2

-- so has the one of each client that has one
pub record_kept : (es : Register) (c : ℕ) (found : Option Record) → AllByRecursion IsRow es → found ≡ record_of es c → IfSome found IsRecord
record_kept es c None h e = tt
record_kept es c (Some r) h e = records_seen es c r h (sym e)

pub clients_seen : (es : Register) → AllByRecursion IsRow es → AllByRecursion (λ e. nat_lt e.0 64 ≡ true) es
clients_seen [] h = tt
clients_seen (e ∷ es) h = (h.0.0, clients_seen es h.1)

-- the clients of the rows that have not left
pub missing_seen : (es : Register) → filter_map missing_of es ≡ not_left es
missing_seen [] = refl
missing_seen (e ∷ es) = one e.1.left refl (missing_seen es)
  where
    one : (b : Bool) → e.1.left ≡ b → filter_map missing_of es ≡ not_left es → filter_map missing_of (e ∷ es) ≡ not_left (e ∷ es)
    one true is h = rw is h
    one false is h = rw is (ap (λ (rest : List ℕ). e.0 ∷ rest) h)
