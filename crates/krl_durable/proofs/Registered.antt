-- Records that are set one after another make the register that they stand in.
use Rattle.krl_durable.proofs.Names.{◌≡◌, ℕ, zero, suc, ◌<◌, false, nat_eq, [], ◌∷◌, length, take, get_or, refl, sym, ap, arith, ne_eqb, AllByRecursion, IsDistinct, keys_of, Record, Register}
use Rattle.krl_durable.proofs.Names.{with_record, IsRow}
use Rattle.std.proofs.lemmas.Bool.{eqb-false}
use Rattle.std.proofs.lemmas.Map.Keys.{IsDistinct-head, IsDistinct-tail}

-- what each row has, the one at a place has
pub row_at : (es : Register) (i : ℕ) (d : ℕ × Record) → AllByRecursion IsRow es → i < length es → IsRow (get_or es i d)
row_at [] i d h lt = absurd (omega (arith, lt))
row_at (e ∷ es) zero d h lt = h.0
row_at (e ∷ es) (suc i) d h lt = row_at es i d h.1 (omega (arith, lt))

apart_at : (k : ℕ) (es : Register) (i : ℕ) (d : ℕ × Record) → AllByRecursion (λ y. nat_eq k y ≡ false) (keys_of es) → i < length es → nat_eq k (get_or es i d).0 ≡ false
apart_at k [] i d h lt = absurd (omega (arith, lt))
apart_at k (e ∷ es) zero d h lt = h.0
apart_at k (e ∷ es) (suc i) d h lt = apart_at k es i d h.1 (omega (arith, lt))

other_way : (a b : ℕ) → nat_eq a b ≡ false → nat_eq b a ≡ false
other_way a b e = ne_eqb b a (λ f. eqb-false a b e (sym f))

-- the next record, of a client that has none yet, comes last
pub next_set : (es : Register) (i : ℕ) (d : ℕ × Record) → IsDistinct nat_eq (keys_of es) → i < length es → with_record (take i es) (get_or es i d).0 (get_or es i d).1 ≡ take (suc i) es
next_set [] i d once lt = absurd (omega (arith, lt))
next_set (e ∷ es) zero d once lt = refl
next_set (e ∷ es) (suc i) d once lt =
    let c = (get_or es i d).0 in
    let apart : nat_eq c e.0 ≡ false = other_way e.0 c (apart_at e.0 es i d (IsDistinct-head nat_eq e.0 (keys_of es) once) (omega (arith, lt))) in
    rw apart (ap (λ (rest : Register). e ∷ rest) (next_set es i d (IsDistinct-tail nat_eq e.0 (keys_of es) once) (omega (arith, lt))))
