-- What a write that is Applied makes of a table of modes by slot: its condition, and every row after it.
use Rattle.krl_machine.proofs.Names.{◌≡◌, ◌≢◌, ℕ, suc, ◌<◌, Option, Some, None, sym, ap, subst, ◌∙◌, arith, none-some, Mode, range_of, key_of, at_or_above, Value, reads, inserts, rank, RangesAgree}
use Rattle.krl_machine.proofs.Names.{KeysAgree, off_slot, Op, Insert, Put, Delete, IsSlot, InSpan, range_at, key_at, World, Applies, replaced, deleted, reads_bound}
use Rattle.krl_modes.specs.declared.part.RangePart.TheVariants as range
use Rattle.krl_modes.specs.declared.part.KeyPart.TheVariants as key
use Rattle.krl_machine.proofs.Modes.{range_of-has_mode, key_of-has_mode, is_N, is_KN}
use Rattle.krl_machine.proofs.Worlds.{WorldInv}
use Rattle.krl_machine.proofs.Tables.{KeysNear, range_slot, key_slot, range_span, table_same, same_slots, split_range, merge_range, merge_key}
use Rattle.krl_machine.proofs.Refines.{Shows, insert_applies, insert_aside, delete_aside}

-- the table after is that of the index after: c may do the write, its range parts stay, and all others' rows stay

pub record Written (w : World) (c : ℕ) (op : Op) (index : ℕ → Option Value) (after : ℕ → ℕ → Mode) : Type 0 where
  pub applies : Applies w.shared (w.links c) index (key_at (record w.shared { index = index }) (after c)) op
  pub near : KeysNear (record w.shared { index = index })
  pub own : (q : ℕ) → (w.links c).top_range q ≡ range_at (record w.shared { index = index }) (after c) q
  pub aside : (d : ℕ) → d ≢ c → Shows (record w.shared { index = index }) (w.links d) (after d)

module _ (w : World) (c : ℕ) (modes : ℕ → ℕ → Mode) (near : KeysNear w.shared) (shows : (d : ℕ) → Shows w.shared (w.links d) (modes d)) (inv : WorldInv w) where
  -- two clients' parts at one point agree, as the tables have them
  beside : (d q : ℕ) → d ≢ c → RangesAgree (range_at w.shared (modes c) q) (range_at w.shared (modes d) q) × KeysAgree (key_at w.shared (modes c) q) (key_at w.shared (modes d) q)
  beside d q ne =
      let a = inv.agree c d (λ e. ne (sym e)) q in
      subst (λ x. RangesAgree x (range_at w.shared (modes d) q) × KeysAgree (key_at w.shared (modes c) q) (key_at w.shared (modes d) q)) ((shows c).range q)
      (subst (λ x. RangesAgree ((w.links c).top_range q) x × KeysAgree (key_at w.shared (modes c) q) (key_at w.shared (modes d) q)) ((shows d).range q)
      (subst (λ x. RangesAgree ((w.links c).top_range q) ((w.links d).top_range q) × KeysAgree x (key_at w.shared (modes d) q)) ((shows c).key q)
      (subst (λ x. RangesAgree ((w.links c).top_range q) ((w.links d).top_range q) × KeysAgree ((w.links c).top_key q) x) ((shows d).key q) a)))

  -- k becomes a slot, in the span of the slot n: the writer has X on it, each other client that may insert there has the same on both
  pub insert_written : (k : ℕ) (v : Value) (n : ℕ) (index : ℕ → Option Value) (after : ℕ → ℕ → Mode) → k < w.shared.end → w.shared.index k ≡ None → index k ≡ Some v → ((q : ℕ) → q ≢ k → index q ≡ w.shared.index q) → IsSlot w.shared n → InSpan w.shared n k → inserts (range_of (modes c n)) ≡ 1 → after c k ≡ at_or_above (range_of (modes c n)) key.X → ((d : ℕ) → d ≢ c → reads (range_of (modes d n)) ≡ 0 → (range_of (after d k) ≡ range_of (modes d n)) × (key_of (after d k) ≡ key.N)) → ((d m : ℕ) → m ≢ k → after d m ≡ modes d m) → Written w c (Insert k v) index after
  insert_written k v n index after lt absent at rest slot span may writer others same =
      let part : (d : ℕ) → range_at w.shared (modes d) k ≡ range_of (modes d n) = λ d. range_span w.shared near (modes d) n k slot span in
      let ins : inserts (range_at w.shared (modes c) k) ≡ 1 = ap inserts (part c) ∙ may in
      let parts : (d : ℕ) (m : ℕ) → m ≢ k → (range_of (after d m) ≡ range_of (modes d m)) × (key_of (after d m) ≡ key_of (modes d m)) = λ d m ne. (ap range_of (same d m ne), ap key_of (same d m ne)) in
      let own_range : range_of (after c k) ≡ range_at w.shared (modes c) k = ap range_of writer ∙ range_of-has_mode (range_of (modes c n)) key.X (omega (arith, reads_bound (range_of (modes c n))), omega (arith, reads_bound (range_of (modes c n)), may)) ∙ sym (part c) in
      let own_key : key_of (after c k) ≡ key.X = ap key_of writer ∙ key_of-has_mode (range_of (modes c n)) key.X (omega (arith, reads_bound (range_of (modes c n))), omega (arith, reads_bound (range_of (modes c n)), may)) in
      record {
        applies = insert_applies w.shared (w.links c) k v index (modes c) (after c) near (shows c) lt absent at rest ins own_range own_key (parts c);
        near = λ q le. rest q (λ e. omega (arith, e)) ∙ near q le;
        own = λ q. (shows c).range q ∙ sym (split_range w.shared near k v index (modes c) (after c) lt absent at rest own_range (parts c) q);
        aside = λ d ne.
            let quiet : reads (range_at w.shared (modes d) k) ≡ 0 = let a = beside d k ne in omega (arith, a.0, ins) in
            let o = others d ne (sym (ap reads (part d)) ∙ quiet) in
            insert_aside w.shared (w.links d) k v index (modes d) (after d) near (shows d) lt absent at rest quiet (o.0 ∙ sym (part d)) o.1 (parts d);
      }

  -- the value at k changes, and no mode does
  pub put_written : (k : ℕ) (v u : Value) (index : ℕ → Option Value) → k < w.shared.end → w.shared.index k ≡ Some u → index k ≡ Some v → ((q : ℕ) → q ≢ k → index q ≡ w.shared.index q) → key_of (modes c k) ≡ key.X → Written w c (Put k v) index modes
  put_written k v u index lt present at rest x =
      let gone : (q : ℕ) → w.shared.index q ≡ None → index q ≡ None = λ q none. rest q (λ e. none-some u (sym none ∙ ap w.shared.index e ∙ present)) ∙ none in
      let came : (q : ℕ) → index q ≡ None → w.shared.index q ≡ None = λ q none. sym (rest q (λ e. none-some v (sym none ∙ ap index e ∙ at))) ∙ none in
      let same : (d q : ℕ) → (range_at (record w.shared { index = index }) (modes d) q ≡ range_at w.shared (modes d) q) × (key_at (record w.shared { index = index }) (modes d) q ≡ key_at w.shared (modes d) q) = λ d. same_slots w.shared near index gone came (modes d) in
      record {
        applies = replaced k v u lt present ((shows c).key k ∙ key_slot w.shared near (modes c) k (λ far none. none-some u (sym none ∙ present)) ∙ x) at rest (λ q. (same c q).1 ∙ sym ((shows c).key q));
        near = λ q le. gone q (near q le);
        own = λ q. (shows c).range q ∙ sym (same c q).0;
        aside = λ d ne. record { range = λ q. (shows d).range q ∙ sym (same d q).0; key = λ q. (shows d).key q ∙ sym (same d q).1 };
      }

  -- the slot k goes. The point above it lies in the span of the slot n; what stands at k afterwards is not read
  pub delete_written : (k : ℕ) (u : Value) (n : ℕ) (index : ℕ → Option Value) (after : ℕ → ℕ → Mode) → k < w.shared.end → w.shared.index k ≡ Some u → index k ≡ None → ((q : ℕ) → q ≢ k → index q ≡ w.shared.index q) → IsSlot w.shared n → InSpan w.shared n (suc k) → key_of (modes c k) ≡ key.X → range_of (modes c k) ≡ range.X → range_of (modes c n) ≡ range.X → ((d m : ℕ) → m ≢ k → after d m ≡ modes d m) → Written w c (Delete k) index after
  delete_written k u n index after lt present at rest slot span x rx rx' same =
      let less : KeysNear (record w.shared { index = index }) = λ q le. rest q (λ e. omega (arith, e)) ∙ near q le in
      let here : IsSlot w.shared k = λ far none. none-some u (sym none ∙ present) in
      let kx : key_at w.shared (modes c) k ≡ key.X = key_slot w.shared near (modes c) k here ∙ x in
      let ra : range_at w.shared (modes c) k ≡ range.X = range_slot w.shared near (modes c) k here ∙ rx in
      let rb : range_at w.shared (modes c) (suc k) ≡ range.X = range_span w.shared near (modes c) n (suc k) slot span ∙ rx' in
      -- at the slots that are left the modes are as before
      let read : (d q : ℕ) → (range_at (record w.shared { index = index }) (modes d) q ≡ range_at (record w.shared { index = index }) (after d) q) × (key_at (record w.shared { index = index }) (modes d) q ≡ key_at (record w.shared { index = index }) (after d) q) =
      λ d. table_same (record w.shared { index = index }) less (modes d) (after d) (λ m s. sym (same d m (λ e. s (λ f. omega (arith, e, f)) (ap index e ∙ at)))) in
      let off : key_at w.shared (modes c) k ≡ off_slot (range_at w.shared (modes c) k) = kx ∙ sym (ap off_slot ra) in
      record {
        applies = deleted k u lt present ((shows c).key k ∙ kx) ((shows c).range k ∙ ra) ((shows c).range (suc k) ∙ rb) at rest
            (λ q. sym (read c q).1 ∙ merge_key w.shared near k u index (modes c) lt present at rest (ra ∙ sym rb) off q ∙ sym ((shows c).key q));
        near = less;
        own = λ q. (shows c).range q ∙ sym (merge_range w.shared near k u index (modes c) lt present at rest (ra ∙ sym rb) off q) ∙ (read c q).0;
        aside = λ d ne.
            let a = beside d k ne in let b = beside d (suc k) ne in
            let r3 : rank (key_at w.shared (modes c) k) ≡ 3 = ap rank kx in
            let r1 : reads (range_at w.shared (modes c) k) ≡ 1 = ap reads ra in let i1 : inserts (range_at w.shared (modes c) k) ≡ 1 = ap inserts ra in
            let r2 : reads (range_at w.shared (modes c) (suc k)) ≡ 1 = ap reads rb in let i2 : inserts (range_at w.shared (modes c) (suc k)) ≡ 1 = ap inserts rb in
            let y = delete_aside w.shared (w.links d) k u index (modes d) near (shows d) lt present at rest
            (is_N (range_at w.shared (modes d) k) (omega (arith, a.0, i1)) (omega (arith, a.0, r1)))
            (is_N (range_at w.shared (modes d) (suc k)) (omega (arith, b.0, i2)) (omega (arith, b.0, r2)))
            (is_KN (key_at w.shared (modes d) k) (omega (arith, a.1, r3))) in
            record { range = λ q. y.range q ∙ (read d q).0; key = λ q. y.key q ∙ (read d q).1 };
      }
