-- A test that every mode passes, computed over the whole table, and the rule that it gives.
use Rattle.std.proofs.Common.{Bool, true, false, arith}
use Rattle.std.specs.Prelude.{IsTrue}
use Rattle.std.specs.List.{list_all}
use Rattle.std.proofs.lemmas.Bool.{and_parts}
use Rattle.krl_modes.specs.declared.mode.Mode.{Mode}
use Rattle.krl_modes.specs.Names.{all_modes}

-- the second test is passed wherever the first is
abbrev pub implies : Bool → Bool → Bool
implies true b = b
implies false b = true

pub implies_use : (a b : Bool) → IsTrue (implies a b) → IsTrue a → IsTrue b
implies_use true b h e = h
implies_use false b h e = cc

pub by_table : (p : Mode → Bool) → IsTrue (list_all p all_modes) → (m : Mode) → IsTrue (p m)
by_table p h m = grind (arith, and_parts)

pub by_table_2 : (p : Mode → Mode → Bool) → IsTrue (list_all (λ a. list_all (p a) all_modes) all_modes) → (a b : Mode) → IsTrue (p a b)
by_table_2 p h a b = by_table (p a) (by_table (λ a. list_all (p a) all_modes) h a) b

pub by_table_3 : (p : Mode → Mode → Mode → Bool) → IsTrue (list_all (λ a. list_all (λ b. list_all (p a b) all_modes) all_modes) all_modes) → (a b c : Mode) → IsTrue (p a b c)
by_table_3 p h a b c = by_table (p a b) (by_table_2 (λ a b. list_all (p a b) all_modes) h a b) c
