-- The changes of a table of modes by slot are steps of the world on rows.
use Rattle.krl_machine.proofs.Names.{◌≡◌, ◌≢◌, ℕ, suc, ◌<◌, Option, Some, None, sym, ap, subst, ◌∙◌, arith, Mode, range_of, key_of, Value, reads, inserts, RangeAtMost, KeyAtMost, RangesAgree}
use Rattle.krl_machine.proofs.Names.{KeysAgree, off_slot, Serving, Insert, Shared, Link, IsSlot, range_at, key_at, World, Changed, Applies, inserted, Step, raises}
use Rattle.krl_modes.specs.declared.part.RangePart.TheVariants as range
use Rattle.krl_modes.specs.declared.part.KeyPart.TheVariants as key
use Rattle.krl_machine.proofs.Modes.{rank-off_slot, is_KN}
use Rattle.krl_machine.proofs.Worlds.{eq_cases, WorldInv}
use Rattle.krl_machine.proofs.Tables.{KeysNear, table_row, table_below, table_agree, range_slot, key_slot, key_off, split_range, split_key, split_here, merge_range, merge_key}

-- the row of the link is that of this column of modes
pub record Shows (s : Shared) (l : Link) (modes : ℕ → Mode) : Type 0 where
  pub range : (q : ℕ) → l.top_range q ≡ range_at s modes q
  pub key : (q : ℕ) → l.top_key q ≡ key_at s modes q

-- a grant at the slot n, of a mode at or above the client's own that is compatible with all others there
pub grant_raises : (w : World) (modes : ℕ → ℕ → Mode) → KeysNear w.shared → ((d : ℕ) → Shows w.shared (w.links d) (modes d)) → WorldInv w → w.shared.phase ≡ Serving → (c n : ℕ) → IsSlot w.shared n → (new : ℕ → Mode) → ((m : ℕ) → m ≢ n → new m ≡ modes c m) → RangeAtMost (range_of (modes c n)) (range_of (new n)) × KeyAtMost (key_of (modes c n)) (key_of (new n)) → ((d : ℕ) → d ≢ c → RangesAgree (range_of (new n)) (range_of (modes d n)) × KeysAgree (key_of (new n)) (key_of (modes d n))) → (links : ℕ → Link) → Changed w.links links c (record (w.links c) { top_range = range_at w.shared new; top_key = key_at w.shared new }) → Step w (record w { links = links })
grant_raises w modes near shows inv serving c n slot new rest up agree links ch =
    raises c (range_at w.shared new) (key_at w.shared new) links serving (table_row w.shared near new)
    (λ q. rw ((shows c).range q) (rw ((shows c).key q) (table_below w.shared near (modes c) new below q)))
    (λ d ne q. rw ((shows d).range q) (rw ((shows d).key q) (table_agree w.shared near new (modes d) (agrees d ne) q)))
    ch
  where
    below : (m : ℕ) → IsSlot w.shared m → RangeAtMost (range_of (modes c m)) (range_of (new m)) × KeyAtMost (key_of (modes c m)) (key_of (new m))
    below m s = eq_cases m n (λ e. subst (λ x. RangeAtMost (range_of (modes c x)) (range_of (new x)) × KeyAtMost (key_of (modes c x)) (key_of (new x))) (sym e) up) (λ ne. rw (rest m ne) ((omega arith, omega arith), omega arith))

    before : (d : ℕ) → d ≢ c → (m : ℕ) → IsSlot w.shared m → RangesAgree (range_of (modes c m)) (range_of (modes d m)) × KeysAgree (key_of (modes c m)) (key_of (modes d m))
    before d ne m s =
        let a = inv.agree c d (λ e. ne (sym e)) m in
        subst (λ x. RangesAgree x (range_of (modes d m)) × KeysAgree (key_of (modes c m)) (key_of (modes d m))) ((shows c).range m ∙ range_slot w.shared near (modes c) m s)
        (subst (λ x. RangesAgree ((w.links c).top_range m) x × KeysAgree (key_of (modes c m)) (key_of (modes d m))) ((shows d).range m ∙ range_slot w.shared near (modes d) m s)
        (subst (λ x. RangesAgree ((w.links c).top_range m) ((w.links d).top_range m) × KeysAgree x (key_of (modes d m))) ((shows c).key m ∙ key_slot w.shared near (modes c) m s)
        (subst (λ x. RangesAgree ((w.links c).top_range m) ((w.links d).top_range m) × KeysAgree ((w.links c).top_key m) x) ((shows d).key m ∙ key_slot w.shared near (modes d) m s) a)))

    agrees : (d : ℕ) → d ≢ c → (m : ℕ) → IsSlot w.shared m → RangesAgree (range_of (new m)) (range_of (modes d m)) × KeysAgree (key_of (new m)) (key_of (modes d m))
    agrees d ne m s = eq_cases m n (λ e. subst (λ x. RangesAgree (range_of (new x)) (range_of (modes d x)) × KeysAgree (key_of (new x)) (key_of (modes d x))) (sym e) (agree d ne)) (λ nm. rw (rest m nm) (before d ne m s))

-- an insert: the writer's new slot has its old range part there, and X
pub insert_applies : (s : Shared) (l : Link) (k : ℕ) (v : Value) (index : ℕ → Option Value) (old new : ℕ → Mode) → KeysNear s → Shows s l old → k < s.end → s.index k ≡ None → index k ≡ Some v → ((q : ℕ) → q ≢ k → index q ≡ s.index q) → inserts (range_at s old k) ≡ 1 → (range_of (new k)) ≡ range_at s old k → (key_of (new k)) ≡ key.X → ((n : ℕ) → n ≢ k → (range_of (new n) ≡ range_of (old n)) × (key_of (new n) ≡ key_of (old n))) → Applies s l index (key_at (record s { index = index }) new) (Insert k v)
insert_applies s l k v index old new near shows lt absent at rest may part x others =
    inserted k v lt absent (ap inserts (shows.range k) ∙ may) at rest
    (split_here s near k v index old new lt absent at rest part others ∙ x)
    (λ q ne. split_key s near k v index old new lt absent at rest part others q ne ∙ sym (shows.key q))

-- and the row of each other client stays, if its new slot has its old range part and no key part
pub insert_aside : (s : Shared) (l : Link) (k : ℕ) (v : Value) (index : ℕ → Option Value) (old new : ℕ → Mode) → KeysNear s → Shows s l old → k < s.end → s.index k ≡ None → index k ≡ Some v → ((q : ℕ) → q ≢ k → index q ≡ s.index q) → reads (range_at s old k) ≡ 0 → (range_of (new k)) ≡ range_at s old k → (key_of (new k)) ≡ key.N → ((n : ℕ) → n ≢ k → (range_of (new n) ≡ range_of (old n)) × (key_of (new n) ≡ key_of (old n))) → Shows (record s { index = index }) l new
insert_aside s l k v index old new near shows lt absent at rest quiet part none others = record {
  range = λ q. shows.range q ∙ sym (split_range s near k v index old new lt absent at rest part others q);
  key = λ q. eq_cases q k
      (λ e. subst (λ x. l.top_key x ≡ key_at (record s { index = index }) new x) (sym e)
      (shows.key k ∙ is_KN (key_at s old k) (rw (key_off s near old k (λ f. omega (arith, f)) absent) (omega (arith, rank-off_slot (range_at s old k), quiet)))
      ∙ sym none ∙ sym (split_here s near k v index old new lt absent at rest part others)))
      (λ ne. shows.key q ∙ sym (split_key s near k v index old new lt absent at rest part others q ne));
}

-- a delete: no row changes of a client that holds N on both gaps and at the key
pub delete_aside : (s : Shared) (l : Link) (k : ℕ) (u : Value) (index : ℕ → Option Value) (modes : ℕ → Mode) → KeysNear s → Shows s l modes → k < s.end → s.index k ≡ Some u → index k ≡ None → ((q : ℕ) → q ≢ k → index q ≡ s.index q) → range_at s modes k ≡ range.N → range_at s modes (suc k) ≡ range.N → key_at s modes k ≡ key.N → Shows (record s { index = index }) l modes
delete_aside s l k u index modes near shows lt present at rest r r' n = record {
  range = λ q. shows.range q ∙ sym (merge_range s near k u index modes lt present at rest (r ∙ sym r') (n ∙ sym (ap off_slot r)) q);
  key = λ q. shows.key q ∙ sym (merge_key s near k u index modes lt present at rest (r ∙ sym r') (n ∙ sym (ap off_slot r)) q);
}
