-- The groups Belief and Released last.
use Rattle.krl_machine.proofs.Names.{◌≡◌, ◌≢◌, ℕ, ◌≤◌, ◌<◌, Option, Some, None, unwrap_or, ◌⊎◌, inl, inr, refl, sym, ◌∙◌, ⊎_elim, true≢false, arith, cases_lt, RangePart, KeyPart, In}
use Rattle.krl_machine.proofs.Names.{rank, RangeAtMost, KeyAtMost, off_slot, Head, Push, Release, Shared, Link, LinkStep, Said, IsLive, belief, adopted, Passes, IsSlot, IsRow, SlotLowered}
use Rattle.krl_machine.proofs.Names.{starts, crashes, leaves, joins, accepts, lowers, registers, sees_off, takes_release, rank_bound}
use Rattle.krl_machine.proofs.Names.{each_more}
use Rattle.krl_modes.specs.declared.part.RangePart.TheVariants as range
use Rattle.krl_machine.proofs.Modes.{is_X}
use Rattle.krl_machine.proofs.Basics.{Standing, Counting, IsBlank, Belief, Released, Known, Inv}
use Rattle.krl_machine.proofs.Points.{lowered_below, lowered_within, epoch_cases}
use Rattle.krl_machine.proofs.RowChanges.{blank_below, cut_within}

-- a client that isn't of the registered incarnation holds nothing
pub stranger_blank : (s : Shared) (l : Link) → Standing s l → Belief l → l.inc ≢ l.reg → IsBlank l
stranger_blank s l st b ne = epoch_cases l.epoch (λ e. b.early e) (λ h. absurd (ne (st.joined h)))

-- what a passing head shows of a client of the registered incarnation
pub passing : (s : Shared) (l : Link) (a : Head) → Standing s l → Counting s l → In a l.heads → Passes s l a → l.inc ≡ l.reg → (a.epoch ≡ l.epoch) × (a.seen ≡ l.seen) × (l.seen ≡ l.last_push) × (l.epoch ≡ s.epoch)
passing s l a st c at ok same =
    let h = (c.heads a at).1 (ok.inc ∙ sym same) in
    let e : l.epoch ≡ s.epoch = omega (arith, h.0, ok.epoch, st.epoch) in
    let f : a.epoch ≡ l.epoch = omega (arith, e, ok.epoch) in
    let g = h.1 f in
    let b = c.seen same e in
    (f, omega (arith, g, b.0, ok.seen), omega (arith, g, b.0, ok.seen), e)

-- the client of a push that is live has the registered incarnation
pub live_registered : (s : Shared) (l : Link) (p : Push) → Standing s l → Counting s l → In p l.pushes → IsLive l p → l.inc ≡ l.reg
live_registered s l p st c at live = let low : p.inc ≤ l.reg = (c.pushes p at).reg in omega (arith, live.inc, st.reg)

-- if the server counts all pushes as seen, none is live
pub none_live : (s : Shared) (l : Link) (a : Head) (p : Push) → Standing s l → Counting s l → In a l.heads → Passes s l a → In p l.pushes → IsLive l p → ⊥
none_live s l a p st c ha ok at live =
    let same = live_registered s l p st c at live in
    let f = passing s l a st c ha ok same in
    let up = (c.pushes p at).last_push (live.inc ∙ same) (live.epoch ∙ f.3) in
    omega (arith, up, live.number, f.2)

-- at a point off the slots a key part is that of a delete that the client has not yet learned of
pub off_ok : (s : Shared) (l : Link) → Known s l → (q : ℕ) (r : RangePart) → q ≢ s.end → s.index q ≡ None → RangeAtMost (l.range q) r → KeyAtMost (l.key q) (off_slot r)
off_ok s l k q r far none below = epoch_cases (rank (l.key q)) (λ e. omega (arith, e)) (λ h.
    let del = k.gone q far none h in
    let x = k.deleting q del in
    let rx : RangeAtMost range.X r = rw x at below in
    let is : r ≡ range.X = is_X r (omega (arith, rx)) (omega (arith, rx)) in
    rw is (omega (arith, rank_bound (l.key q))))

belief_blank : (l l' : Link) → IsBlank l' → Belief l'
belief_blank l l' b = record { down = λ u. b; early = λ e. b; bound = λ q. blank_below (l'.range q) (l'.key q) (l'.top_range q) (l'.top_key q) (b q).0 (b q).1 }

-- after an accepted push, each point is as the push states or as before
pub by_said : (l : Link) (p : Push) (q : ℕ) (P : Said → Type 0) → ((t : Said) → p.says q ≡ Some t → P t) → (p.says q ≡ None → P (belief l q)) → P (adopted l p q)
by_said l p q P spoken silent = by_option (p.says q) refl
  where
    by_option : (o : Option Said) → p.says q ≡ o → P (unwrap_or o (belief l q))
    by_option None e = silent e
    by_option (Some t) e = spoken t e

-- a release is obeyed
obeyed : (s : Shared) (l : Link) (r : Release) (ranges : ℕ → RangePart) (keys : ℕ → KeyPart) → Inv s l → In r l.releases → Passes s l r.head → ((n : ℕ) → IsSlot s n → SlotLowered s r l ranges keys n) → IsRow s ranges keys → (q : ℕ) → RangeAtMost (l.range q) (ranges q) × KeyAtMost (l.key q) (keys q)
obeyed s l r ranges keys i at ok slots row q = known_inc (cases_lt l.inc l.reg)
  where
    in_table : l.inc ≡ l.reg → RangeAtMost (l.range q) (ranges q) × KeyAtMost (l.key q) (keys q)
    in_table same =
        let f = passing s l r.head i.standing i.counting (i.counting.releases r at) ok same in
        cut_within s l r ranges keys row i.rows.top slots l.range l.key (λ p g far none h. off_ok s l i.known p g far none h) i.belief.bound
        (i.released r at (ok.inc ∙ sym same) f.0 f.1) q

    known_inc : (l.inc < l.reg) ⊎ (l.reg ≤ l.inc) → RangeAtMost (l.range q) (ranges q) × KeyAtMost (l.key q) (keys q)
    known_inc (inl lt) = absurd (omega (arith, i.standing.reg))
    known_inc (inr le) = ⊎_elim
        (λ (more : l.reg < l.inc). let b = stranger_blank s l i.standing i.belief (λ e. omega (arith, e)) q in blank_below (l.range q) (l.key q) (ranges q) (keys q) b.0 b.1)
        (λ (less : l.inc ≤ l.reg). in_table (omega arith)) (cases_lt l.reg l.inc)

pub belief_kept : (s : Shared) (l l' : Link) → LinkStep s l l' → Inv s l → Belief l'
belief_kept s l l' (starts down) i = belief_blank l l' (λ q. (refl, refl))
belief_kept s l l' crashes i = belief_blank l l' (λ q. (refl, refl))
belief_kept s l l' (leaves up) i = belief_blank l l' (λ q. (refl, refl))
belief_kept s l l' (joins n at up same later) i = record { down = i.belief.down; early = λ e. absurd (omega (arith, e)); bound = i.belief.bound }
belief_kept s l l' (accepts p out at live after) i = record {
  down = λ u. absurd (true≢false (sym live.up ∙ u));
  early = λ e. absurd (omega (arith, e, live.epoch, (i.counting.pushes p at).low));
  bound = λ q. by_said l p q (λ t. RangeAtMost t.range (l.top_range q) × KeyAtMost t.key (l.top_key q)) (λ t e. ((i.live_pushes p at live).says q t e).low) (λ silent. i.belief.bound q);
}
belief_kept s l l' (lowers r range key up old head mode free points) i = record {
  down = λ u. absurd (true≢false (sym up ∙ u));
  early = λ e. absurd (omega (arith, e));
  bound = λ q. let b = i.belief.bound q in let c = lowered_below r.lo r.last r.range r.key (l.range q) (l.key q) (range q) (key q) q (points q) in
      ((omega (arith, b, c), omega (arith, b, c)), omega (arith, b, c));
}
belief_kept s l l' (registers h at on newer) i =
    let le : h ≤ l.inc = i.standing.hellos h at in
    belief_blank l l' (stranger_blank s l i.standing i.belief (λ e. omega (arith, e)))
belief_kept s l l' (sees_off b at on same) i =
    belief_blank l l' (epoch_cases l.epoch (λ e. i.belief.early e) (λ h. i.belief.down ((i.standing.byes b at).1 (same ∙ sym (i.standing.joined h)))))
belief_kept s l l' (takes_release r range key at ok acked slots row) i = record {
  down = i.belief.down;
  early = i.belief.early;
  bound = obeyed s l r range key i at ok slots row;
}
belief_kept s l l' _ i = i.belief

pub released_kept : (s : Shared) (l l' : Link) → LinkStep s l l' → Inv s l → Released l'
released_kept s l l' (starts down) i = λ r at inc epoch seen q low up. ((omega arith, omega arith), omega arith)
released_kept s l l' crashes i = λ r at inc epoch seen q low up. ((omega arith, omega arith), omega arith)
released_kept s l l' (leaves u) i = λ r at inc epoch seen q low up. ((omega arith, omega arith), omega arith)
released_kept s l l' (joins n an u same later) i = λ r at inc epoch seen q low up.
    let h = ((i.counting.heads r.head (i.counting.releases r at)).1 inc).0 in absurd (omega (arith, h, epoch))
released_kept s l l' (accepts p out pat live after) i = λ r at inc epoch seen q low up.
    let h = ((i.counting.heads r.head (i.counting.releases r at)).1 inc).1 epoch in absurd (omega (arith, h, seen))
released_kept s l l' (lowers r range key u old head mode free points) i =
    each_more (λ r'. r'.head.inc ≡ l.inc → r'.head.epoch ≡ l.epoch → r'.head.seen ≡ l.seen → (q : ℕ) → r'.lo ≤ q → q ≤ r'.last → RangeAtMost (range q) r'.range × KeyAtMost (key q) r'.key) r l.releases
    (λ a b c q low up. lowered_within r.lo r.last r.range r.key (l.range q) (l.key q) (range q) (key q) q (points q) low up)
    (λ r' at a b c q low up. let old = i.released r' at a b c q low up in let d = lowered_below r.lo r.last r.range r.key (l.range q) (l.key q) (range q) (key q) q (points q) in
    ((omega (arith, old, d), omega (arith, old, d)), omega (arith, old, d)))
released_kept s l l' _ i = i.released
