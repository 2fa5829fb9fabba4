-- The world's steps keep the invariant.
use Rattle.krl_machine.proofs.Names.{◌≡◌, ◌≢◌, ℕ, suc, ◌≤◌, ◌<◌, Bool, true, false, Option, Some, None, ◌∷◌, ◌⊎◌, inl, inr, refl, sym, ap, subst, ◌∙◌, ⊎_elim, arith, cases_lt, none-some}
use Rattle.krl_machine.proofs.Names.{KeyPart, Value, In, reads, inserts, rank, RangeAtMost, KeyAtMost, RangesAgree, KeysAgree, IsMode, off_slot, Serving, Op, Delete, op_key, Said}
use Rattle.krl_machine.proofs.Names.{Write, Shared, Link, belief, LinkStep, Passes, IsSlot, IsRow, registers, sees_off, takes_release, reads_bound, rank_bound}
use Rattle.krl_machine.proofs.Names.{World, Applies, inserted, replaced, deleted, wrote_by}
use Rattle.krl_modes.specs.declared.part.RangePart.TheVariants as range
use Rattle.krl_machine.proofs.Modes.{rank-off_slot, is_N, is_KN}
use Rattle.krl_machine.proofs.Basics.{IsBlank, IsTrueOf, Known, Inv}
use Rattle.krl_machine.proofs.Points.{epoch_cases}
use Rattle.krl_machine.proofs.RowChanges.{cut_falls}
use Rattle.krl_machine.proofs.Belief.{none_live}
use Rattle.krl_machine.proofs.Kept.{known_blank}
use Rattle.krl_machine.proofs.Links.{not_both}

pub eq_cases : {A : Type 0} (m n : ℕ) → (m ≡ n → A) → (m ≢ n → A) → A
eq_cases m n f g = ⊎_elim (λ (a : m < n). g (λ e. omega (arith, e))) (λ (a : n ≤ m). ⊎_elim (λ (b : n < m). g (λ e. omega (arith, e))) (λ (b : m ≤ n). f (omega arith)) (cases_lt n m)) (cases_lt m n)

-- two rows agree at each point
abbrev pub Agree : Link → Link → Type 0
Agree l m = (q : ℕ) → RangesAgree (l.top_range q) (m.top_range q) × KeysAgree (l.top_key q) (m.top_key q)

pub record WorldInv (w : World) : Type 0 where
  pub links : (c : ℕ) → Inv w.shared (w.links c)
  pub agree : (c d : ℕ) → c ≢ d → Agree (w.links c) (w.links d)

-- another client's write at k: what is asked of the index and of this client's row there
pub record Aside (s : Shared) (l : Link) (index : ℕ → Option Value) (k : ℕ) : Type 0 where
  pub rest : (q : ℕ) → q ≢ k → index q ≡ s.index q
  pub row : IsRow (record s { index = index }) l.top_range l.top_key
  pub quiet : rank (l.top_key k) ≡ 0
  pub empty : s.index k ≡ None → 1 ≤ reads (l.top_range k) → index k ≡ None

module _ (s : Shared) (l : Link) (index : ℕ → Option Value) (k : ℕ) (i : Inv s l) (a : Aside s l index k) where
  -- what is stated of a point within the row stays true
  aside_true : (q : ℕ) (t : Said) → RangeAtMost t.range (l.top_range q) × KeyAtMost t.key (l.top_key q) → IsTrueOf s q t → IsTrueOf (record s { index = index }) q t
  aside_true q t low h = eq_cases q k
      (λ e. record {
        entry = λ far r. absurd (omega (arith, low.1, r, subst (λ x. rank (l.top_key x) ≡ 0) (sym e) a.quiet));
        empty = λ n r. ap index e ∙ a.empty (sym (ap s.index e) ∙ h.empty n r) (subst (λ x. 1 ≤ reads (l.top_range x)) e (omega (arith, low.0, r)));
      })
      (λ ne. record { entry = λ far r. a.rest q ne ∙ h.entry far r; empty = λ n r. a.rest q ne ∙ h.empty n r })

  -- and so does that a read key stands there
  aside_gone : (q : ℕ) → index q ≡ None → (x : KeyPart) → KeyAtMost x (l.top_key q) → 1 ≤ rank x → s.index q ≡ None
  aside_gone q none x low h = eq_cases q k (λ e. absurd (omega (arith, low, h, subst (λ x. rank (l.top_key x) ≡ 0) (sym e) a.quiet))) (λ ne. sym (a.rest q ne) ∙ none)

  pub aside_inv : s.phase ≡ Serving → Inv (record s { index = index }) l
  aside_inv serving = record {
    standing = i.standing;
    counting = i.counting;
    belief = i.belief;
    live_pushes = λ p at live. let v = i.live_pushes p at live in record {
      says = λ q t e. let x = v.says q t e in record {
        low = x.low;
        covers = x.covers;
        gone = λ far none h. x.gone far (aside_gone q none t.key x.low.1 h) h;
        known = aside_true q t x.low x.known;
      };
      answer = v.answer;
    };
    released = i.released;
    known = record {
      gone = λ q far none h. i.known.gone q far (aside_gone q none (l.key q) (i.belief.bound q).1 h) h;
      deleting = i.known.deleting;
      says = λ q free. aside_true q (belief l q) (i.belief.bound q) (i.known.says q free);
    };
    writing = i.writing;
    recovery = i.recovery;
    rows = record { top = a.row; new = λ g. absurd (not_both serving g) };
  }

-- the slots after a write
slot_before : (s : Shared) (index : ℕ → Option Value) (k : ℕ) (u : Value) → s.index k ≡ Some u → ((q : ℕ) → q ≢ k → index q ≡ s.index q) → (n : ℕ) → IsSlot (record s { index = index }) n → IsSlot s n
slot_before s index k u present rest n slot end none = eq_cases n k (λ e. none-some u (sym none ∙ ap s.index e ∙ present)) (λ ne. slot end (rest n ne ∙ none))

-- a write of l stands aside of m
pub aside : (s : Shared) (l m : Link) (index : ℕ → Option Value) (key : ℕ → KeyPart) (op : Op) → Applies s l index key op → Agree l m → Inv s m → Aside s m index (op_key op)
aside s l m index key op (inserted k v near absent ins at rest kx kr) agree i =
    let g = (agree k).0 in
    let none : reads (m.top_range k) ≡ 0 = omega (arith, g, ins) in
    let quiet : rank (m.top_key k) ≡ 0 = rw (i.rows.top.off k (λ e. omega (arith, e)) absent) (omega (arith, none, rank-off_slot (m.top_range k))) in
    record {
      rest = rest;
      row = record {
        same = λ q end none. i.rows.top.same q end (eq_cases q k (λ e. absurd (none-some v (sym none ∙ ap index e ∙ at))) (λ ne. sym (rest q ne) ∙ none));
        past = i.rows.top.past;
        mode = λ n slot. eq_cases n k (λ e. subst (λ x. IsMode (m.top_range x) (m.top_key x)) (sym e)
            (omega (arith, none, quiet), omega (arith, none, quiet)))
            (λ ne. i.rows.top.mode n (λ end none. slot end (rest n ne ∙ none)));
        off = λ q end none. i.rows.top.off q end (eq_cases q k (λ e. absurd (none-some v (sym none ∙ ap index e ∙ at))) (λ ne. sym (rest q ne) ∙ none));
      };
      quiet = quiet;
      empty = λ e h. absurd (omega (arith, h, none));
    }
aside s l m index key op (replaced k v u near present x at rest kr) agree i =
    let g = (agree k).1 in
    let kx : rank (l.top_key k) ≡ 3 = ap rank x in
    let quiet : rank (m.top_key k) ≡ 0 = omega (arith, g, kx) in
    record {
      rest = rest;
      row = record {
        same = λ q end none. i.rows.top.same q end (eq_cases q k (λ e. absurd (none-some v (sym none ∙ ap index e ∙ at))) (λ ne. sym (rest q ne) ∙ none));
        past = i.rows.top.past;
        mode = λ n slot. i.rows.top.mode n (slot_before s index k u present rest n slot);
        off = λ q end none. i.rows.top.off q end (eq_cases q k (λ e. absurd (none-some v (sym none ∙ ap index e ∙ at))) (λ ne. sym (rest q ne) ∙ none));
      };
      quiet = quiet;
      empty = λ e h. absurd (none-some u (sym e ∙ present));
    }
aside s l m index key op (deleted k u near present x rx rx' at rest kr) agree i =
    let g = agree k in
    let g' = (agree (suc k)).0 in
    let kx : rank (l.top_key k) ≡ 3 = ap rank x in
    let quiet : rank (m.top_key k) ≡ 0 = omega (arith, g.1, kx) in
    let ra : reads (l.top_range k) ≡ 1 = ap reads rx in
    let ia : inserts (l.top_range k) ≡ 1 = ap inserts rx in
    let rb : reads (l.top_range (suc k)) ≡ 1 = ap reads rx' in
    let ib : inserts (l.top_range (suc k)) ≡ 1 = ap inserts rx' in
    let none_here : m.top_range k ≡ range.N = is_N (m.top_range k) (omega (arith, g.0, ra, ia)) (omega (arith, g.0, ra, ia)) in
    let none_there : m.top_range (suc k) ≡ range.N = is_N (m.top_range (suc k)) (omega (arith, g', rb, ib)) (omega (arith, g', rb, ib)) in
    record {
      rest = rest;
      row = record {
        same = λ q end none. eq_cases q k (λ e. subst (λ x. m.top_range x ≡ m.top_range (suc x)) (sym e) (none_here ∙ sym none_there)) (λ ne. i.rows.top.same q end (sym (rest q ne) ∙ none));
        past = i.rows.top.past;
        mode = λ n slot. i.rows.top.mode n (slot_before s index k u present rest n slot);
        off = λ q end none. eq_cases q k (λ e. subst (λ x. m.top_key x ≡ off_slot (m.top_range x)) (sym e) (rw none_here (is_KN (m.top_key k) (omega (arith, quiet))))) (λ ne. i.rows.top.off q end (sym (rest q ne) ∙ none));
      };
      quiet = quiet;
      empty = λ e h. at;
    }

-- the writer itself: its row grows by the key part at an inserted key
key_grows : (s : Shared) (l : Link) (index : ℕ → Option Value) (key : ℕ → KeyPart) (op : Op) → Applies s l index key op → (q : ℕ) → KeyAtMost (l.top_key q) (key q)
key_grows s l index key op (inserted k v near absent ins at rest kx kr) q = eq_cases q k (λ e. subst (λ x. KeyAtMost (l.top_key x) (key x)) (sym e) (rw kx (rank_bound (l.top_key k)))) (λ ne. rw (kr q ne) (omega arith))
key_grows s l index key op (replaced k v u near present x at rest kr) q = rw (kr q) (omega arith)
key_grows s l index key op (deleted k u near present x rx rx' at rest kr) q = rw (kr q) (omega arith)

own_row : (s : Shared) (l : Link) (index : ℕ → Option Value) (key : ℕ → KeyPart) (op : Op) → Applies s l index key op → Inv s l → IsRow (record s { index = index }) l.top_range key
own_row s l index key op (inserted k v near absent ins at rest kx kr) i = record {
  same = λ q end none. i.rows.top.same q end (eq_cases q k (λ e. absurd (none-some v (sym none ∙ ap index e ∙ at))) (λ ne. sym (rest q ne) ∙ none));
  past = λ q far. let p = i.rows.top.past q far in (p.0, kr q (λ e. omega (arith, e)) ∙ p.1);
  mode = λ n slot. eq_cases n k (λ e. subst (λ x. IsMode (l.top_range x) (key x)) (sym e) (rw kx (omega (arith, reads_bound (l.top_range k)), omega (arith, reads_bound (l.top_range k), ins))))
      (λ ne. rw (kr n ne) (i.rows.top.mode n (λ end none. slot end (rest n ne ∙ none))));
  off = λ q end none. eq_cases q k (λ e. absurd (none-some v (sym none ∙ ap index e ∙ at))) (λ ne. kr q ne ∙ i.rows.top.off q end (sym (rest q ne) ∙ none));
}
own_row s l index key op (replaced k v u near present x at rest kr) i = record {
  same = λ q end none. i.rows.top.same q end (eq_cases q k (λ e. absurd (none-some v (sym none ∙ ap index e ∙ at))) (λ ne. sym (rest q ne) ∙ none));
  past = λ q far. let p = i.rows.top.past q far in (p.0, kr q ∙ p.1);
  mode = λ n slot. rw (kr n) (i.rows.top.mode n (slot_before s index k u present rest n slot));
  off = λ q end none. kr q ∙ i.rows.top.off q end (eq_cases q k (λ e. absurd (none-some v (sym none ∙ ap index e ∙ at))) (λ ne. sym (rest q ne) ∙ none));
}
own_row s l index key op (deleted k u near present x rx rx' at rest kr) i = record {
  same = λ q end none. eq_cases q k (λ e. subst (λ x. l.top_range x ≡ l.top_range (suc x)) (sym e) (rx ∙ sym rx')) (λ ne. i.rows.top.same q end (sym (rest q ne) ∙ none));
  past = λ q far. let p = i.rows.top.past q far in (p.0, kr q ∙ p.1);
  mode = λ n slot. rw (kr n) (i.rows.top.mode n (slot_before s index k u present rest n slot));
  off = λ q end none. kr q ∙ eq_cases q k (λ e. subst (λ x. l.top_key x ≡ off_slot (l.top_range x)) (sym e) (rw rx x)) (λ ne. i.rows.top.off q end (sym (rest q ne) ∙ none));
}

-- its belief of the index
rest_true : (s : Shared) (l : Link) (index : ℕ → Option Value) (q : ℕ) → index q ≡ s.index q → IsTrueOf s q (belief l q) → IsTrueOf (record s { index = index }) q (belief l q)
rest_true s l index q same h = record { entry = λ far r. same ∙ h.entry far r; empty = λ n r. same ∙ h.empty n r }

own_known : (s : Shared) (l : Link) (index : ℕ → Option Value) (key : ℕ → KeyPart) (op : Op) → Applies s l index key op → Known s l → l.out ≡ Some op → Known (record s { index = index }) l
own_known s l index key op (inserted k v near absent ins at rest kx kr) i o = record {
  gone = λ q end none h. eq_cases q k (λ e. absurd (none-some v (sym none ∙ ap index e ∙ at))) (λ ne. i.gone q end (sym (rest q ne) ∙ none) h);
  deleting = i.deleting;
  says = λ q free. rest_true s l index q (rest q (λ e. free op o (sym e))) (i.says q free);
}
own_known s l index key op (replaced k v u near present x at rest kr) i o = record {
  gone = λ q end none h. eq_cases q k (λ e. absurd (none-some v (sym none ∙ ap index e ∙ at))) (λ ne. i.gone q end (sym (rest q ne) ∙ none) h);
  deleting = i.deleting;
  says = λ q free. rest_true s l index q (rest q (λ e. free op o (sym e))) (i.says q free);
}
own_known s l index key op (deleted k u near present x rx rx' at rest kr) i o = record {
  gone = λ q end none h. eq_cases q k (λ e. subst (λ x. l.out ≡ Some (Delete x)) (sym e) o) (λ ne. i.gone q end (sym (rest q ne) ∙ none) h);
  deleting = i.deleting;
  says = λ q free. rest_true s l index q (rest q (λ e. free op o (sym e))) (i.says q free);
}

-- a new write from a client that runs under the registered incarnation is its outstanding one
module _ (s : Shared) (l : Link) (m : Write) (i : Inv s l) (at : In m l.writes) (ok : Passes s l m.head) (next : m.number ≡ suc l.done) where
  is_out : (o : Option Op) → l.out ≡ o → l.up ≡ true → l.inc ≡ l.reg → l.out ≡ Some m.op
  is_out None o u e = let c = i.writing.counted u e in absurd (omega (arith, c.2 o, (i.writing.writes m at (ok.inc ∙ sym e)).0, next))
  is_out (Some op) o u e =
      let c = i.writing.counted u e in let x = i.writing.writes m at (ok.inc ∙ sym e) in
      o ∙ ap Some (sym (x.1 op o (omega (arith, x.0, c.1, next))))

  blank_or_out : (up : Bool) → l.up ≡ up → (IsBlank l × l.out ≡ None) ⊎ (l.out ≡ Some m.op)
  blank_or_out false u = inl (i.belief.down u, i.writing.down u)
  blank_or_out true u = ⊎_elim (λ (more : l.reg < l.inc). epoch_cases l.epoch (λ e. inl (i.belief.early e, (i.writing.fresh u e).1)) (λ h. absurd (omega (arith, i.standing.joined h))))
      (λ (less : l.inc ≤ l.reg). inr (is_out l.out refl u (omega (arith, i.standing.reg)))) (cases_lt l.reg l.inc)

  pub own_inv : (index : ℕ → Option Value) (key : ℕ → KeyPart) → Applies s l index key m.op → Inv (record s { index = index }) (record l { done = suc l.done; applied = true; wrote = wrote_by l m ∷ l.wrote; top_key = key })
  own_inv index key ap' = record {
    standing = i.standing;
    counting = i.counting;
    belief = record { down = i.belief.down; early = i.belief.early; bound = λ q. let b = i.belief.bound q in (b.0, omega (arith, b.1, key_grows s l index key m.op ap' q)) };
    live_pushes = λ p pat live. absurd (none_live s l m.head p i.standing i.counting (i.counting.writes m at) ok pat live);
    released = i.released;
    known = ⊎_elim (λ (b : IsBlank l × l.out ≡ None). known_blank (record s { index = index }) l b.0 b.1) (λ (o : l.out ≡ Some m.op). own_known s l index key m.op ap' i.known o) (blank_or_out l.up refl);
    writing = record {
      writes = i.writing.writes;
      counted = λ u e. let c = i.writing.counted u e in let x = (i.writing.writes m at (ok.inc ∙ sym e)).0 in (omega (arith, x, next), omega (arith, c.1), λ o. absurd (omega (arith, c.2 o, x, next)));
      some = i.writing.some;
      answers = λ p pat e. omega (arith, i.writing.answers p pat e);
      fresh = i.writing.fresh;
      down = i.writing.down;
    };
    recovery = record {
      reports = λ g. absurd (not_both ok.serving g);
      covers = i.recovery.covers;
      low = λ g. absurd (not_both ok.serving g);
      high = i.recovery.high;
    };
    rows = record { top = own_row s l index key m.op ap' i; new = λ g. absurd (not_both ok.serving g) };
  }

-- and its row still agrees with the others'
pub own_agrees : (s : Shared) (l m : Link) (index : ℕ → Option Value) (key : ℕ → KeyPart) (op : Op) → Applies s l index key op → Agree l m → Inv s m → (q : ℕ) → RangesAgree (l.top_range q) (m.top_range q) × KeysAgree (key q) (m.top_key q)
own_agrees s l m index key op (inserted k v near absent ins at rest kx kr) agree i q = (
  (agree q).0,
  eq_cases q k (λ e. subst (λ x. KeysAgree (key x) (m.top_key x)) (sym e)
      (let g = (agree k).0 in rw (i.rows.top.off k (λ e. omega (arith, e)) absent) (rw kx (omega (arith, g, ins, rank-off_slot (m.top_range k))))))
      (λ ne. rw (kr q ne) (agree q).1),
)
own_agrees s l m index key op (replaced k v u near present x at rest kr) agree i q = ((agree q).0, rw (kr q) (agree q).1)
own_agrees s l m index key op (deleted k u near present x rx rx' at rest kr) agree i q = ((agree q).0, rw (kr q) (agree q).1)

-- a step of a link lowers its row at most
pub top_falls : (s : Shared) (l l' : Link) → LinkStep s l l' → Inv s l → (q : ℕ) → RangeAtMost (l'.top_range q) (l.top_range q) × KeyAtMost (l'.top_key q) (l.top_key q)
top_falls s l l' (registers h at on newer) i q = ((omega arith, omega arith), omega arith)
top_falls s l l' (sees_off b at on same) i q = ((omega arith, omega arith), omega arith)
top_falls s l l' (takes_release r range key rat ok acked slots row) i q = cut_falls s l r range key row i.rows.top slots q
top_falls s l l' _ i q = ((omega arith, omega arith), omega arith)
