-- A write that is Applied keeps what holds of every table.
use Rattle.krl_server.proofs.Names.{◌≡◌, ◌≢◌, ℕ, suc, ◌+◌, ◌≤◌, ◌<◌, true, false, ◌||◌, Some, None, ◌++◌, refl, sym, ap, ◌∙◌, arith, nat_eq, ne_eqb, is_some, END, range_of, Value, WriteOp}
use Rattle.krl_server.proofs.Names.{up_to, beyond, eq_cases, Index, slot_of, is_slot, op_key, held, judge, written, Row, Rows, blank_row, max_clients, mode_at, column, set_row, with_queue}
use Rattle.krl_server.proofs.Names.{split_modes, split, merged, rows_written, times, AreCompatible, times_both, times_parted, AreAlone, alone_moved, split_compatible}
use Rattle.std.specs.FinMap as map
use Rattle.krl_messages.specs.declared.write_op.WriteOp.TheVariants as write
use Rattle.krl_messages.specs.declared.outcome.Outcome.TheVariants as outcome
use Rattle.krl_modes.specs.Parts.{lets_insert}
use Rattle.krl_server.proofs.Slots.{slot_here}
use Rattle.krl_server.proofs.Updates.{row_here, row_other, get_here, get_other, gone_other}
use Rattle.krl_server.proofs.Invariant.Placed.{two_rows, ArePlaced, put_placed, split_from, split_placed, merge_from, merge_placed, split_strangers, merge_strangers}
use Rattle.krl_server.proofs.Invariant.WritesSound.{insert_may, change_may}
use Rattle.krl_modes.proofs.Basics.{None-if_not_some, not_both, Some-if_some}
use mathlib.Core.Bool.{or-true}
use Rattle.krl_server.proofs.Invariant.Tabled.{IsKept}
use Rattle.krl_server.proofs.Invariant.TableKept.{slot_there}

-- Two rows that are others

-- the waiters of two rows are parted in another way
pub moved_alone : (rows : Rows) (n k : ℕ) (at_n at_k : Row) → n ≢ k → ((c : ℕ) → times c at_n.queue + times c at_k.queue ≡ times c (rows n).queue + times c (rows k).queue) → ((c : ℕ) → AreAlone (λ j. times c (rows j).queue)) → (c : ℕ) → AreAlone (λ j. times c (set_row (set_row rows n at_n) k at_k j).queue)
moved_alone rows n k at_n at_k ne sum alone c = alone_moved (λ j. times c (rows j).queue) (λ j. times c (set_row (set_row rows n at_n) k at_k j).queue) n k ne (alone c)
    (let x = ap (λ r. times c r.queue) (row_other (set_row rows n at_n) k at_k n ne ∙ row_here rows n at_n) in let y = ap (λ r. times c r.queue) (row_here (set_row rows n at_n) k at_k) in let z = sum c in omega (arith, x, y, z))
    (λ j jn jk. let x = ap (λ r. times c r.queue) (row_other (set_row rows n at_n) k at_k j jk ∙ row_other rows n at_n j jn) in omega (arith, x))

module _ (m : Index) (near : (q : ℕ) → END ≤ q → map.get m q ≡ None) (rows : Rows) (kept : IsKept m rows) where
  placed : ArePlaced m rows
  placed n u at = let p = kept.placed n u at in (p.1, p.2)

  put_kept : (k : ℕ) (v w : Value) → k < END → map.get m k ≡ Some w → IsKept (map.insert m k v) rows
  put_kept k v w lt present = record {
    blank = λ j e. kept.blank j (still j e);
    strangers = kept.strangers;
    beside = kept.beside;
    placed = λ j u at. let p = put_placed m near rows placed k v w present near' j u at in ((kept.placed j u at).0, p.0, p.1);
    alone = kept.alone;
  }
    where
      near' : (q : ℕ) → END ≤ q → map.get (map.insert m k v) q ≡ None
      near' q le = get_other m k v q (λ f. omega (arith, f, le, lt)) ∙ near q le

      still : (j : ℕ) → is_slot (map.insert m k v) j ≡ false → is_slot m j ≡ false
      still j e = eq_cases j k
          (λ f. absurd (not_both (is_slot (map.insert m k v) j) (ap (λ o. nat_eq j END || is_some o) (ap (map.get (map.insert m k v)) f ∙ get_here m k v) ∙ or-true (nat_eq j END)) e))
          (λ ne. ap (λ o. nat_eq j END || is_some o) (sym (get_other m k v j ne)) ∙ e)

  split_kept : (k : ℕ) (v : Value) (c : ℕ) → k < END → c < max_clients → map.get m k ≡ None → lets_insert (range_of (mode_at rows (slot_of m k) c)) ≡ true → IsKept (map.insert m k v) (split m rows k c)
  split_kept k v c lt own absent may = record {
    blank = λ j e. two_rows rows n k j at_n at_k (λ r. r ≡ blank_row)
        (λ f. absurd (not_both (is_slot (map.insert m k v) j) (ap (λ o. nat_eq j END || is_some o) (ap (map.get (map.insert m k v)) f ∙ get_here m k v) ∙ or-true (nat_eq j END)) e))
        (λ ne f. absurd (not_both (is_slot m j) (ap (is_slot m) f ∙ there) (still j ne e)))
        (λ ne no. kept.blank j (still j ne e));
    strangers = split_strangers m rows k c own kept.strangers;
    beside = λ j. two_rows rows n k j at_n at_k (λ r. AreCompatible r.modes) (λ f. split_compatible (rows n).modes c may (kept.beside n)) (λ ne f. kept.beside n) (λ ne no. kept.beside j);
    placed = λ j u at. let p = split_placed m near rows placed k v c lt absent near' j u at in let f = split_from m near rows placed k v c lt absent near' j u at in ((kept.placed f.0 u f.1).0, p.0, p.1);
    alone = moved_alone rows n k at_n at_k apart (λ c. let x = times_parted c k (rows n).queue in let y = ap (λ r. times c r.queue) (kept.blank k gone) in omega (arith, x, y)) kept.alone;
  }
    where
      n : ℕ
      n = slot_of m k

      at_n : Row
      at_n = with_queue (rows (slot_of m k)) (beyond k (rows (slot_of m k)).queue)

      at_k : Row
      at_k = record { modes = split_modes (rows (slot_of m k)).modes c; queue = up_to k (rows (slot_of m k)).queue }

      there : is_slot m (slot_of m k) ≡ true
      there = slot_there m near k (omega (arith, lt))

      gone : is_slot m k ≡ false
      gone = ap (λ o. nat_eq k END || is_some o) absent ∙ ap (λ b. b || false) (ne_eqb k END (λ f. omega (arith, f, lt)))

      apart : slot_of m k ≢ k
      apart f = not_both (is_slot m k) (ap (is_slot m) (sym f) ∙ there) gone

      near' : (q : ℕ) → END ≤ q → map.get (map.insert m k v) q ≡ None
      near' q le = get_other m k v q (λ f. omega (arith, f, le, lt)) ∙ near q le

      still : (j : ℕ) → j ≢ k → is_slot (map.insert m k v) j ≡ false → is_slot m j ≡ false
      still j ne e = ap (λ o. nat_eq j END || is_some o) (sym (get_other m k v j ne)) ∙ e

  merge_kept : (k : ℕ) (w : Value) → k < END → map.get m k ≡ Some w → IsKept (map.remove m k) (merged m rows k)
  merge_kept k w lt present = record {
    blank = λ j e. two_rows rows n k j at_n blank_row (λ r. r ≡ blank_row) (λ f. refl)
        (λ ne f. absurd (not_both (is_slot m j) (ap (is_slot m) f ∙ slot_there m near (suc k) (omega (arith, lt))) (still j ne e)))
        (λ ne no. kept.blank j (still j ne e));
    strangers = merge_strangers m rows k kept.strangers;
    beside = λ j. two_rows rows n k j at_n blank_row (λ r. AreCompatible r.modes) (λ f c d ne. refl) (λ ne f. kept.beside n) (λ ne no. kept.beside j);
    placed = λ j u at. let p = merge_placed m near rows placed k w lt present near' j u at in let f = merge_from m near rows placed k w lt present near' j u at in ((kept.placed f.0 u f.1).0, p.0, p.1);
    alone = moved_alone rows n k at_n blank_row apart (λ c. let x = times_both c (rows k).queue (rows n).queue in omega (arith, x)) kept.alone;
  }
    where
      n : ℕ
      n = slot_of m (suc k)

      at_n : Row
      at_n = with_queue (rows (slot_of m (suc k))) ((rows k).queue ++ (rows (slot_of m (suc k))).queue)

      apart : slot_of m (suc k) ≢ k
      apart f = let x = (slot_here m near (suc k) (omega (arith, lt))).1.0 in omega (arith, f, x)

      near' : (q : ℕ) → END ≤ q → map.get (map.remove m k) q ≡ None
      near' q le = gone_other m k q (λ f. omega (arith, f, le, lt)) ∙ near q le

      still : (j : ℕ) → j ≢ k → is_slot (map.remove m k) j ≡ false → is_slot m j ≡ false
      still j ne e = ap (λ o. nat_eq j END || is_some o) (sym (gone_other m k j ne)) ∙ e

  -- the write of c
  pub written_kept : (room c : ℕ) (op : WriteOp) → c < max_clients → op_key op < END → judge room m op (held m (column rows c) op) ≡ outcome.Applied → IsKept (written m op) (rows_written m rows c op)
  written_kept room c (write.Insert k v) own lt e = let x = insert_may (is_some (map.get m k)) _ _ e in split_kept k v c lt own (None-if_not_some (map.get m k) x.0) x.1
  written_kept room c (write.Put k v) own lt e = let p = Some-if_some (map.get m k) (change_may (is_some (map.get m k)) _ e).0 in put_kept k v p.0 lt p.1
  written_kept room c (write.Delete k) own lt e = let p = Some-if_some (map.get m k) (change_may (is_some (map.get m k)) _ e).0 in merge_kept k p.0 lt p.1
