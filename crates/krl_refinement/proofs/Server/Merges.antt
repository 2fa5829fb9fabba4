-- What a Delete that is Applied makes of the table, for the machine.
use Rattle.krl_refinement.proofs.Names.{◌≡◌, ℕ, suc, ◌≤◌, ◌<◌, true, List, Some, None, refl, arith, END, range_of, key_of, is_range_X, is_key_X, Value, Index, slot_of, Rows, column, merged, Phase}
use Rattle.krl_refinement.proofs.Names.{Delete, Link, Logged, WorldInv, Written, delete_written, set_modes, gone_here, gone_other, slot_here}
use Rattle.std.specs.FinMap as map
use Rattle.krl_modes.proofs.PartLaws.{range_is_X}
use Rattle.krl_machine.proofs.Refines.{Shows}
use Rattle.krl_table.proofs.Calls.Merges.{key_X}
use Rattle.krl_refinement.proofs.Server.Meaning.{seen_in}

module _ (m : Index) (epoch : ℕ) (phase : Phase) (near : (q : ℕ) → END ≤ q → map.get m q ≡ None) (of : ℕ → Link) (log : List Logged) (rows : Rows) (shows : (d : ℕ) → Shows (seen_in m epoch phase) (of d) (column rows d)) (inv : WorldInv (record { shared = seen_in m epoch phase; links = of; log = log })) (c : ℕ) where
  pub delete_shown : (k : ℕ) (u : Value) → k < END → map.get m k ≡ Some u → is_key_X (key_of (column rows c k)) ≡ true → is_range_X (range_of (column rows c k)) ≡ true → is_range_X (range_of (column rows c (slot_of m (suc k)))) ≡ true → Written (record { shared = seen_in m epoch phase; links = of; log = log }) c (Delete k) (map.get (map.remove m k)) (column (merged m rows k))
  delete_shown k u lt present x rx rx' =
      let n = slot_of m (suc k) in
      let y = slot_here m near (suc k) (omega arith) in
      delete_written (record { shared = seen_in m epoch phase; links = of; log = log }) c (column rows) near shows inv k u n (map.get (map.remove m k)) (column (merged m rows k)) lt present (gone_here m k) (gone_other m k) y.0 y.1
      (key_X (key_of (column rows c k)) x) (range_is_X (range_of (column rows c k)) rx) (range_is_X (range_of (column rows c n)) rx')
      (λ d j ne. set_modes rows n k d j _ _ refl ne)
