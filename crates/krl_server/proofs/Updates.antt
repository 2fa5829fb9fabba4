-- What is set at one place is there, and every other place is as it was.
use Rattle.krl_server.proofs.Names.{◌≡◌, ◌≢◌, ℕ, Bool, true, false, [], ◌∷◌, Some, None, refl, sym, ap, subst, ◌∙◌, nat_eq, eq-eqb, ne_eqb, eqb-true, arith, cond, not, List, nat_tests, nat_cmp}
use Rattle.krl_server.proofs.Names.{eq_by_cmp, Value, Record, Register, record_of, with_record, Index, eq_cases, Row, Rows, mode_at, set_row, column, Session, set_session, lists}
use Rattle.krl_server.proofs.Names.{unlist}
use Rattle.std.specs.Prelude.{if◌then◌else◌, ◌||◌}
use Rattle.std.specs.Cmp.{nat_cmp_total}
use Rattle.std.specs.FinMap as map

pub row_here : (rows : Rows) (n : ℕ) (row : Row) → set_row rows n row n ≡ row
row_here rows n row = ap (λ b. if b then row else rows n) (eq-eqb n n refl)

pub row_other : (rows : Rows) (n : ℕ) (row : Row) (k : ℕ) → k ≢ n → set_row rows n row k ≡ rows k
row_other rows n row k ne = ap (λ b. if b then row else rows k) (ne_eqb k n ne)

pub session_here : (sessions : ℕ → Session) (c : ℕ) (x : Session) → set_session sessions c x c ≡ x
session_here sessions c x = ap (λ b. if b then x else sessions c) (eq-eqb c c refl)

pub session_other : (sessions : ℕ → Session) (c d : ℕ) (x : Session) → d ≢ c → set_session sessions c x d ≡ sessions d
session_other sessions c d x ne = ap (λ b. if b then x else sessions d) (ne_eqb d c ne)

pub record_here : (es : Register) (c : ℕ) (x : Record) → record_of (with_record es c x) c ≡ Some x
record_here [] c x = ap (λ b. if b then Some x else None) (eq-eqb c c refl)
record_here (e ∷ es) c x = by_eq (nat_eq c e.0) refl (record_here es c x)
  where
    by_eq : (b : Bool) → nat_eq c e.0 ≡ b → record_of (with_record es c x) c ≡ Some x → record_of (if b then (c, x) ∷ es else e ∷ with_record es c x) c ≡ Some x
    by_eq true f ih = ap (λ b. if b then Some x else record_of es c) (eq-eqb c c refl)
    by_eq false f ih = ap (λ b. if b then Some e.1 else record_of (with_record es c x) c) f ∙ ih

pub record_other : (es : Register) (c d : ℕ) (x : Record) → d ≢ c → record_of (with_record es c x) d ≡ record_of es d
record_other [] c d x ne = ap (λ b. if b then Some x else None) (ne_eqb d c ne)
record_other (e ∷ es) c d x ne = by_eq (nat_eq c e.0) refl (record_other es c d x ne)
  where
    by_eq : (b : Bool) → nat_eq c e.0 ≡ b → record_of (with_record es c x) d ≡ record_of es d → record_of (if b then (c, x) ∷ es else e ∷ with_record es c x) d ≡ (if nat_eq d e.0 then Some e.1 else record_of es d)
    by_eq true f ih = ap (λ b. if b then Some x else record_of es d) (ne_eqb d c ne) ∙ sym (ap (λ b. if b then Some e.1 else record_of es d) (ne_eqb d e.0 (λ g. ne (g ∙ sym (eqb-true c e.0 f)))))
    by_eq false f ih = ap (λ y. if nat_eq d e.0 then Some e.1 else y) ih

-- the modes of a row that is set are as they were, if they are in it
pub row_modes : (rows : Rows) (n : ℕ) (row : Row) (c : ℕ) → (rows n).modes c ≡ row.modes c → (k : ℕ) → mode_at rows k c ≡ mode_at (set_row rows n row) k c
row_modes rows n row c e k = eq_cases k n
    (λ f. subst (λ x. mode_at rows x c ≡ mode_at (set_row rows n row) x c) (sym f) (e ∙ sym (ap (λ x. x.modes c) (row_here rows n row))))
    (λ ne. sym (ap (λ x. x.modes c) (row_other rows n row k ne)))

pub get_here : (m : Index) (k : ℕ) (v : Value) → map.get (map.insert m k v) k ≡ Some v
get_here m k v = let same : eq_by_cmp nat_cmp k k ≡ true = grind (arith, nat_tests) in map.get-insert nat_cmp_total m k v k ∙ ap (λ b. cond b (Some v) (map.get m k)) same

pub get_other : (m : Index) (k : ℕ) (v : Value) (q : ℕ) → q ≢ k → map.get (map.insert m k v) q ≡ map.get m q
get_other m k v q ne = let apart : eq_by_cmp nat_cmp q k ≡ false = grind (arith, nat_tests) in map.get-insert nat_cmp_total m k v q ∙ ap (λ b. cond b (Some v) (map.get m q)) apart

-- rows of which n has another queue and k is another row have the same modes but at k
pub set_modes : (rows : Rows) (n k d j : ℕ) (at_n at_k : Row) → at_n.modes ≡ (rows n).modes → j ≢ k → column (set_row (set_row rows n at_n) k at_k) d j ≡ column rows d j
set_modes rows n k d j at_n at_k e ne = ap (λ x. x.modes d) (row_other (set_row rows n at_n) k at_k j ne) ∙ sym (row_modes rows n at_n d (sym (ap (λ f. f d) e)) j)

pub gone_here : (m : Index) (k : ℕ) → map.get (map.remove m k) k ≡ None
gone_here m k = let same : eq_by_cmp nat_cmp k k ≡ true = grind (arith, nat_tests) in map.get-remove nat_cmp_total m k k ∙ ap (λ b. cond b None (map.get m k)) same

pub gone_other : (m : Index) (k q : ℕ) → q ≢ k → map.get (map.remove m k) q ≡ map.get m q
gone_other m k q ne = let apart : eq_by_cmp nat_cmp q k ≡ false = grind (arith, nat_tests) in map.get-remove nat_cmp_total m k q ∙ ap (λ b. cond b None (map.get m q)) apart

pub unlist_here : (ms : List ℕ) (c : ℕ) → lists (unlist ms c) c ≡ false
unlist_here [] c = refl
unlist_here (d ∷ ds) c = by_eq (nat_eq c d) refl (unlist_here ds c)
  where
    by_eq : (b : Bool) → nat_eq c d ≡ b → lists (unlist ds c) c ≡ false → lists (if not b then d ∷ unlist ds c else unlist ds c) c ≡ false
    by_eq true e h = h
    by_eq false e h = ap (λ b. b || lists (unlist ds c) c) e ∙ h

pub unlist_other : (ms : List ℕ) (c d : ℕ) → d ≢ c → lists (unlist ms c) d ≡ lists ms d
unlist_other [] c d ne = refl
unlist_other (e ∷ es) c d ne = by_eq (nat_eq c e) refl (unlist_other es c d ne)
  where
    by_eq : (b : Bool) → nat_eq c e ≡ b → lists (unlist es c) d ≡ lists es d → lists (if not b then e ∷ unlist es c else unlist es c) d ≡ (nat_eq d e || lists es d)
    by_eq true f h = h ∙ sym (ap (λ b. b || lists es d) (ne_eqb d e (λ g. ne (g ∙ sym (eqb-true c e f)))))
    by_eq false f h = ap (λ y. nat_eq d e || y) h
