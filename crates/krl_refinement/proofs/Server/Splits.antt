-- What an Insert and a Put that are Applied make of the table, for the machine.
use Rattle.krl_refinement.proofs.Names.{◌≡◌, ℕ, ◌≤◌, ◌<◌, true, List, Some, None, refl, ap, ◌∙◌, arith, eq-eqb, ne_eqb, if◌then◌else◌, END, RangePart, range_of, key_of, at_or_above}
use Rattle.krl_refinement.proofs.Names.{lets_insert, is_key_X, Value, Index, slot_of, Rows, Row, column, set_row, mode_beside, split, Phase, Insert, Put, Link, Logged, WorldInv, Written}
use Rattle.krl_refinement.proofs.Names.{insert_written, put_written, row_here, get_here, get_other, set_modes, slot_here}
use Rattle.std.specs.FinMap as map
use Rattle.krl_modes.specs.Weights.{reads, inserts}
use Rattle.krl_modes.specs.declared.part.KeyPart.TheVariants as key
use Rattle.krl_machine.proofs.Refines.{Shows}
use Rattle.krl_table.proofs.Calls.Merges.{key_X}
use Rattle.krl_refinement.proofs.Server.Meaning.{seen_in}

may_insert : (a : RangePart) → lets_insert a ≡ true → inserts a ≡ 1
may_insert a e = grind arith

beside_range : (a : RangePart) → reads a ≡ 0 → range_of (mode_beside a) ≡ a
beside_range a e = grind arith

beside_key : (a : RangePart) → key_of (mode_beside a) ≡ key.N
beside_key a = grind arith

set_here : (rows : Rows) (n k d : ℕ) (at_n at_k : Row) → column (set_row (set_row rows n at_n) k at_k) d k ≡ at_k.modes d
set_here rows n k d at_n at_k = ap (λ x. x.modes d) (row_here (set_row rows n at_n) k at_k)

module _ (m : Index) (epoch : ℕ) (phase : Phase) (near : (q : ℕ) → END ≤ q → map.get m q ≡ None) (of : ℕ → Link) (log : List Logged) (rows : Rows) (shows : (d : ℕ) → Shows (seen_in m epoch phase) (of d) (column rows d)) (inv : WorldInv (record { shared = seen_in m epoch phase; links = of; log = log })) (c : ℕ) where
  pub insert_shown : (k : ℕ) (v : Value) → k < END → map.get m k ≡ None → lets_insert (range_of (column rows c (slot_of m k))) ≡ true → Written (record { shared = seen_in m epoch phase; links = of; log = log }) c (Insert k v) (map.get (map.insert m k v)) (column (split m rows k c))
  insert_shown k v lt absent may =
      let n = slot_of m k in
      let x = slot_here m near k (omega arith) in
      insert_written (record { shared = seen_in m epoch phase; links = of; log = log }) c (column rows) near shows inv k v n (map.get (map.insert m k v)) (column (split m rows k c)) lt absent (get_here m k v) (get_other m k v) x.0 x.1
      (may_insert (range_of (column rows c n)) may)
      (set_here rows n k c _ _ ∙ ap (λ b. if b then at_or_above (range_of ((rows n).modes c)) key.X else mode_beside (range_of ((rows n).modes c))) (eq-eqb c c refl))
      (λ d ne quiet. let e = set_here rows n k d _ _ ∙ ap (λ b. if b then at_or_above (range_of ((rows n).modes c)) key.X else mode_beside (range_of ((rows n).modes d))) (ne_eqb d c ne) in
      (ap range_of e ∙ beside_range (range_of (column rows d n)) quiet, ap key_of e ∙ beside_key (range_of (column rows d n))))
      (λ d j ne. set_modes rows n k d j _ _ refl ne)

  pub put_shown : (k : ℕ) (v u : Value) → k < END → map.get m k ≡ Some u → is_key_X (key_of (column rows c k)) ≡ true → Written (record { shared = seen_in m epoch phase; links = of; log = log }) c (Put k v) (map.get (map.insert m k v)) (column rows)
  put_shown k v u lt present may =
      put_written (record { shared = seen_in m epoch phase; links = of; log = log }) c (column rows) near shows inv k v u (map.get (map.insert m k v)) lt present (get_here m k v) (get_other m k v) (key_X (key_of (column rows c k)) may)
