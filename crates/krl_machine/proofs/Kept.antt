-- The groups Pushed, Known and Writing last.
use Rattle.krl_machine.proofs.Names.{◌≡◌, ◌≢◌, ℕ, suc, ◌≤◌, ◌<◌, min, Option, Some, None, ◌⊎◌, inl, inr, refl, sym, ap, subst, ◌∙◌, ⊎_elim, true≢false, arith, none-some, same_Some, RangePart}
use Rattle.krl_machine.proofs.Names.{KeyPart, reads, rank, RangeAtMost, IsMode, Op, Insert, Put, Delete, op_key, Push, Said, Shared, Link, LinkStep, IsLive, adopted, Lowered, untouched, lowered}
use Rattle.krl_machine.proofs.Names.{MaySay, at_slot, off_slots, AnswersLast, OutAfter, MayIssue, starts, crashes, leaves, joins, accepts, lowers, issues, writes_again, registers, sees_off}
use Rattle.krl_machine.proofs.Names.{takes_release, refuses, pushes, reads-range_meet, rank-key_meet, each_more}
use Rattle.krl_modes.specs.declared.part.RangePart.TheVariants as range
use Rattle.krl_modes.specs.declared.part.KeyPart.TheVariants as key
use Rattle.krl_machine.proofs.Modes.{is_X, is_KN}
use Rattle.krl_machine.proofs.Basics.{IsBlank, IsTrueOf, LiveAt, LiveOk, Pushed, NotAt, Known, Writing, Inv}
use Rattle.krl_machine.proofs.Points.{lowered_below, epoch_cases}
use Rattle.krl_machine.proofs.Belief.{live_registered, none_live, by_said}

-- what a new push states of one point
new_said : (s : Shared) (l : Link) (q : ℕ) (t : Said) → Inv s l → MaySay s l q t → LiveAt s l q t
new_said s l q t i (at_slot slot r k entry) = record {
  low = rw r (rw k ((omega arith, omega arith), omega arith));
  covers = rw r (i.belief.bound q).0;
  gone = λ far none h. slot far none;
  known = record {
    entry = entry;
    empty = λ n h. let m : IsMode t.range t.key = rw r (rw k (i.rows.top.mode q slot)) in let z : rank t.key ≡ 0 = ap rank n in absurd (omega (arith, m, h, z));
  };
}
new_said s l q t i (off_slots far none r k) = record {
  low = rw r (rw k ((omega arith, omega arith), omega arith));
  covers = rw r (i.belief.bound q).0;
  gone = λ f n h. let z : rank t.key ≡ 0 = ap rank k in omega (arith, h, z);
  known = record { entry = λ f h. let z : rank t.key ≡ 0 = ap rank k in absurd (omega (arith, h, z)); empty = λ n h. none };
}

new_push : (s : Shared) (l : Link) (p : Push) → Inv s l → p.inc ≡ l.reg → ((q : ℕ) (t : Said) → p.says q ≡ Some t → MaySay s l q t) → (p.answers ≡ 0) ⊎ AnswersLast l p → p.inc ≡ l.inc → LiveOk s l p
new_push s l p i inc says answers same = record {
  says = λ q t e. new_said s l q t i (says q t e);
  answer = λ op o a. ⊎_elim (λ (z : p.answers ≡ 0). absurd (omega (arith, z, a, i.writing.some op o)))
      (λ (w : AnswersLast l p).
      let e = (i.writing.writes w.write w.sent (w.inc ∙ sym inc ∙ same)).1 op o (w.number ∙ sym w.answers ∙ a) in
      subst (λ x. p.says (op_key x) ≢ None) e w.speaks) answers;
}

pub pushed_kept : (s : Shared) (l l' : Link) → LinkStep s l l' → Inv s l → Pushed s l'
pushed_kept s l l' (starts down) i = λ p at live. let c : p.inc ≤ l.reg = (i.counting.pushes p at).reg in absurd (omega (arith, live.inc, i.standing.reg))
pushed_kept s l l' crashes i = λ p at live. absurd (true≢false (sym live.up))
pushed_kept s l l' (leaves up) i = λ p at live. absurd (true≢false (sym live.up))
pushed_kept s l l' (joins n an up same later) i = λ p at live. absurd (omega (arith, ((i.counting.pushes p at).seen live.inc).0, live.epoch))
pushed_kept s l l' (accepts p out pat live after) i = λ p' at live'. absurd (omega (arith, ((i.counting.pushes p' at).seen live'.inc).1 live'.epoch, live'.number))
pushed_kept s l l' (lowers r range key up old head mode free points) i = λ p at live.
    let v = i.live_pushes p at live in
    record {
      says = λ q t e. let x = v.says q t e in let d = lowered_below r.lo r.last r.range r.key (l.range q) (l.key q) (range q) (key q) q (points q) in
          record { low = x.low; covers = (omega (arith, x.covers, d), omega (arith, x.covers, d)); gone = x.gone; known = x.known };
      answer = v.answer;
    }
pushed_kept s l l' (issues op up old none may) i = λ p at live.
    let v = i.live_pushes p at live in
    let same = live_registered s l p i.standing i.counting at live in
    record {
      says = v.says;
      answer = λ op' o a. absurd (omega (arith, i.writing.answers p at (live.inc ∙ same), (i.writing.counted up same).0, a));
    }
pushed_kept s l l' (registers h hat on newer) i = λ p at live.
    let c : p.inc ≤ l.reg = (i.counting.pushes p at).reg in let le : h ≤ l.inc = i.standing.hellos h hat in absurd (omega (arith, live.inc))
pushed_kept s l l' (sees_off b bat on same) i = λ p at live.
    let r = live_registered s l p i.standing i.counting at live in
    absurd (true≢false (sym live.up ∙ (i.standing.byes b bat).1 (same ∙ sym r)))
pushed_kept s l l' (takes_release r range key rat ok acked slots row) i = λ p at live.
    absurd (none_live s l r.head p i.standing i.counting (i.counting.releases r rat) ok at live)
pushed_kept s l l' (pushes p a ha ainc aepoch serving here acked inc epoch number says answers) i =
    each_more (λ p'. IsLive l p' → LiveOk s l p') p l.pushes (λ live. new_push s l p i inc says answers live.inc) i.live_pushes
pushed_kept s l l' _ i = i.live_pushes

pub known_blank : (s : Shared) (l : Link) → IsBlank l → l.out ≡ None → Known s l
known_blank s l b o = record {
  gone = λ q far none h. let e : rank (l.key q) ≡ 0 = ap rank (b q).1 in absurd (omega (arith, e));
  deleting = λ q d. absurd (none-some (Delete q) (sym o ∙ d));
  says = λ q free. record {
    entry = λ far h. let e : rank (l.key q) ≡ 0 = ap rank (b q).1 in absurd (omega (arith, e));
    empty = λ k h. let e : reads (l.range q) ≡ 0 = ap reads (b q).0 in absurd (omega (arith, e));
  };
}

out_after_some : (l : Link) (p : Push) (out : Option Op) (op : Op) → OutAfter l p out → out ≡ Some op → l.out ≡ Some op
out_after_some l p out op (inl a) o = absurd (none-some op (sym a.1 ∙ o))
out_after_some l p out op (inr a) o = sym a.1 ∙ o

-- after an accepted push, at one point
module _ (s : Shared) (l : Link) (p : Push) (out : Option Op) (v : LiveOk s l p) (k : Known s l) (after : OutAfter l p out) (q : ℕ) where
  -- a write that is outstanding no longer was answered, by a push that speaks of its key
  still : p.says q ≡ None → (op : Op) → l.out ≡ Some op → op_key op ≡ q → out ≡ Some op
  still silent op o at = ⊎_elim
      (λ (a : (p.answers ≡ l.issued) × (out ≡ None)). absurd (v.answer op o a.0 (ap p.says at ∙ silent)))
      (λ (a : (p.answers ≢ l.issued) × (out ≡ l.out)). a.1 ∙ o) after

  gone_after : q ≢ s.end → s.index q ≡ None → 1 ≤ rank (adopted l p q).key → out ≡ Some (Delete q)
  gone_after far none = by_said l p q (λ t. 1 ≤ rank t.key → out ≡ Some (Delete q))
      (λ t e h. absurd ((v.says q t e).gone far none h))
      (λ silent h. still silent (Delete q) (k.gone q far none h) refl)

  deleting_after : out ≡ Some (Delete q) → (adopted l p q).range ≡ range.X
  deleting_after o =
      let x = k.deleting q (out_after_some l p out (Delete q) after o) in
      by_said l p q (λ t. t.range ≡ range.X)
      (λ t e. let c : RangeAtMost range.X t.range = subst (λ y. RangeAtMost y t.range) x (v.says q t e).covers in is_X t.range (omega (arith, c)) (omega (arith, c)))
      (λ silent. x)

  says_after : ((op : Op) → out ≡ Some op → op_key op ≢ q) → IsTrueOf s q (adopted l p q)
  says_after free = by_said l p q (IsTrueOf s q) (λ t e. (v.says q t e).known) (λ silent. k.says q (λ op o at. free op (still silent op o at) at))

-- after a lowering, at one point
empty_lowered : (s : Shared) (l : Link) (lo last : ℕ) (kr : RangePart) (kk : KeyPart) (q : ℕ) (r : RangePart) (k : KeyPart) → IsMode kr kk → Lowered lo last kr kk (l.range q) (l.key q) r k q → Known s l → NotAt l q → k ≡ key.N → 1 ≤ reads r → s.index q ≡ None
empty_lowered s l lo last kr kk q r k mode (untouched far er ek) known free n h = (known.says q free).empty (sym ek ∙ n) (subst (λ x. 1 ≤ reads x) er h)
empty_lowered s l lo last kr kk q r k mode (lowered low up er ek) known free n h =
    let a : rank k ≡ 0 = ap rank n in
    let b : rank k ≡ min (rank (l.key q)) (rank kk) = ap rank ek ∙ rank-key_meet (l.key q) kk in
    let c : reads r ≡ min (reads (l.range q)) (reads kr) = ap reads er ∙ reads-range_meet (l.range q) kr in
    (known.says q free).empty (is_KN (l.key q) (omega (arith, mode))) (omega arith)

deleting_lowered : (l : Link) (lo last : ℕ) (kr : RangePart) (kk : KeyPart) (q : ℕ) (r : RangePart) (k : KeyPart) → Lowered lo last kr kk (l.range q) (l.key q) r k q → (q < lo) ⊎ (last < q) → l.range q ≡ range.X → r ≡ range.X
deleting_lowered l lo last kr kk q r k (untouched far er ek) out x = er ∙ x
deleting_lowered l lo last kr kk q r k (lowered low up er ek) out x = absurd (⊎_elim (λ (a : q < lo). omega arith) (λ (a : last < q). omega arith) out)

entry_lowered : (s : Shared) (l : Link) (lo last : ℕ) (kr : RangePart) (kk : KeyPart) (q : ℕ) (r : RangePart) (k : KeyPart) → Lowered lo last kr kk (l.range q) (l.key q) r k q → 1 ≤ rank k → 1 ≤ rank (l.key q)
entry_lowered s l lo last kr kk q r k low h = omega (arith, lowered_below lo last kr kk (l.range q) (l.key q) r k q low)

issue_deleting : (l : Link) (op : Op) → MayIssue l op → (q : ℕ) → Some op ≡ Some (Delete q) → l.range q ≡ range.X
issue_deleting l (Insert k v) may q e = absurd (cc)
issue_deleting l (Put k v) may q e = absurd (cc)
issue_deleting l (Delete k) may q e = let f : k ≡ q = cc in subst (λ x. l.range x ≡ range.X) f may

pub known_kept : (s : Shared) (l l' : Link) → LinkStep s l l' → Inv s l → Known s l'
known_kept s l l' (starts down) i = known_blank s l' (λ q. (refl, refl)) refl
known_kept s l l' crashes i = known_blank s l' (λ q. (refl, refl)) refl
known_kept s l l' (leaves up) i = known_blank s l' (λ q. (refl, refl)) refl
known_kept s l l' (accepts p out at live after) i = record {
  gone = gone_after s l p out (i.live_pushes p at live) i.known after;
  deleting = deleting_after s l p out (i.live_pushes p at live) i.known after;
  says = says_after s l p out (i.live_pushes p at live) i.known after;
}
known_kept s l l' (lowers r range key up old head mode free points) i = record {
  gone = λ q end none h. i.known.gone q end none (entry_lowered s l r.lo r.last r.range r.key q (range q) (key q) (points q) h);
  deleting = λ q d. deleting_lowered l r.lo r.last r.range r.key q (range q) (key q) (points q) (free (Delete q) d) (i.known.deleting q d);
  says = λ q not. record {
    entry = λ end h. (i.known.says q not).entry end (entry_lowered s l r.lo r.last r.range r.key q (range q) (key q) (points q) h);
    empty = empty_lowered s l r.lo r.last r.range r.key q (range q) (key q) mode (points q) i.known not;
  };
}
known_kept s l l' (issues op up old none may) i = record {
  gone = λ q end no h. absurd (none-some (Delete q) (sym none ∙ i.known.gone q end no h));
  deleting = λ q d. issue_deleting l op may q d;
  says = λ q not. i.known.says q (λ op' o. absurd (none-some op' (sym none ∙ o)));
}
known_kept s l l' _ i = i.known

out_after_none : (l : Link) (p : Push) (out : Option Op) → OutAfter l p out → out ≡ None → (p.answers ≡ l.issued) ⊎ (l.out ≡ None)
out_after_none l p out (inl a) o = inl a.0
out_after_none l p out (inr a) o = inr (sym a.1 ∙ o)

pub writing_kept : (s : Shared) (l l' : Link) → LinkStep s l l' → Inv s l → Writing l'
writing_kept s l l' (starts down) i = record {
  writes = λ w at e. let h : w.head.inc ≤ l.inc = (i.counting.heads w.head (i.counting.writes w at)).0 in absurd (omega arith);
  counted = λ u e. absurd (omega (arith, i.standing.reg));
  some = λ op e. absurd (none-some op e);
  answers = i.writing.answers;
  fresh = λ u e. (refl, refl);
  down = λ u. refl;
}
writing_kept s l l' crashes i = record {
  writes = λ w at e. ((i.writing.writes w at e).0, λ op o. absurd (none-some op o));
  counted = λ u e. absurd (true≢false (sym u));
  some = λ op e. absurd (none-some op e);
  answers = i.writing.answers;
  fresh = λ u e. absurd (true≢false (sym u));
  down = λ u. refl;
}
writing_kept s l l' (leaves up) i = record {
  writes = λ w at e. ((i.writing.writes w at e).0, λ op o. absurd (none-some op o));
  counted = λ u e. absurd (true≢false (sym u));
  some = λ op e. absurd (none-some op e);
  answers = i.writing.answers;
  fresh = λ u e. absurd (true≢false (sym u));
  down = λ u. refl;
}
writing_kept s l l' (joins n at up same later) i = record {
  writes = i.writing.writes;
  counted = i.writing.counted;
  some = i.writing.some;
  answers = i.writing.answers;
  fresh = λ u e. absurd (omega (arith, e));
  down = i.writing.down;
}
writing_kept s l l' (accepts p out at live after) i =
    let same = live_registered s l p i.standing i.counting at live in
    record {
      writes = λ w wat e. let x = i.writing.writes w wat e in (x.0, λ op o. x.1 op (out_after_some l p out op after o));
      counted = λ u e. let c = i.writing.counted u e in (c.0, c.1, λ o. ⊎_elim (λ (a : p.answers ≡ l.issued). omega (arith, c.0, i.writing.answers p at (live.inc ∙ same), a)) (λ (a : l.out ≡ None). c.2 a) (out_after_none l p out after o));
      some = λ op o. i.writing.some op (out_after_some l p out op after o);
      answers = i.writing.answers;
      fresh = λ u e. absurd (omega (arith, e, live.epoch, (i.counting.pushes p at).low));
      down = λ u. absurd (true≢false (sym live.up ∙ u));
    }
writing_kept s l l' (issues op up old none may) i = record {
  writes = each_more (λ w. w.head.inc ≡ l.inc → (w.number ≤ suc l.issued) × ((op' : Op) → Some op ≡ Some op' → w.number ≡ suc l.issued → w.op ≡ op')) _ l.writes
      (λ e. (omega arith, λ op' o n. same_Some op op' o))
      (λ w at e. let x = i.writing.writes w at e in (omega (arith, x.0), λ op' o n. absurd (omega (arith, x.0, n))));
  counted = λ u e. let c = i.writing.counted u e in let d = c.2 none in (omega (arith, d), omega (arith, d), λ o. absurd (none-some op (sym o)));
  some = λ op' o. omega arith;
  answers = i.writing.answers;
  fresh = λ u e. absurd (omega (arith, e));
  down = λ u. absurd (true≢false (sym up ∙ u));
}
writing_kept s l l' (writes_again op up old out) i = record {
  writes = each_more (λ w. w.head.inc ≡ l.inc → (w.number ≤ l.issued) × ((op' : Op) → l.out ≡ Some op' → w.number ≡ l.issued → w.op ≡ op')) _ l.writes
      (λ e. (omega arith, λ op' o n. same_Some op op' (sym out ∙ o)))
      i.writing.writes;
  counted = i.writing.counted;
  some = i.writing.some;
  answers = i.writing.answers;
  fresh = i.writing.fresh;
  down = i.writing.down;
}
writing_kept s l l' (registers h at on newer) i =
    let le : h ≤ l.inc = i.standing.hellos h at in
    record {
      writes = i.writing.writes;
      counted = λ u e. let z = epoch_cases l.epoch (λ x. (i.writing.fresh u x).0) (λ x. absurd (omega (arith, i.standing.joined x))) in (omega arith, omega (arith, z), λ o. sym z);
      some = i.writing.some;
      answers = λ p pat e. let c : p.inc ≤ l.reg = (i.counting.pushes p pat).reg in absurd (omega arith);
      fresh = i.writing.fresh;
      down = i.writing.down;
    }
writing_kept s l l' (refuses w at ok acked next) i = record {
  writes = i.writing.writes;
  counted = λ u e. let c = i.writing.counted u e in let x = (i.writing.writes w at (ok.inc ∙ sym e)).0 in (omega (arith, x, next), omega (arith, c.1), λ o. absurd (omega (arith, c.2 o, x, next)));
  some = i.writing.some;
  answers = λ p pat e. omega (arith, i.writing.answers p pat e);
  fresh = i.writing.fresh;
  down = i.writing.down;
}
writing_kept s l l' (pushes p a ha ainc aepoch serving here acked inc epoch number says answers) i = record {
  writes = i.writing.writes;
  counted = i.writing.counted;
  some = i.writing.some;
  answers = each_more (λ p'. p'.inc ≡ l.reg → p'.answers ≤ l.done) p l.pushes
      (λ e. ⊎_elim (λ (z : p.answers ≡ 0). omega (arith, z)) (λ (w : AnswersLast l p). omega (arith, w.answers)) answers)
      i.writing.answers;
  fresh = i.writing.fresh;
  down = i.writing.down;
}
writing_kept s l l' _ i = i.writing
