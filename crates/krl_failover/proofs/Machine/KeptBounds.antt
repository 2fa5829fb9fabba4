-- The steps of a link keep what is stated of the bound, and of old servers that recover.
use Rattle.krl_failover.proofs.Machine.Names.{◌≡◌, ◌≢◌, ℕ, ◌≤◌, ◌<◌, ◌∷◌, false, None, ◌⊎◌, inl, inr, refl, sym, ap, subst, ◌∙◌, ⊎_elim, true≢false, arith, each_more, In, KeyAtMost, Recovering, Notice, Push, Release, Report, Shared, Link, LinkStep, IsRebuilt, off_slot}
use Rattle.krl_failover.proofs.Machine.Names.{starts, crashes, leaves, joins, accepts, lowers, reports_again, registers, notifies, sees_off, takes_report, takes_release, refuses, pushes}
use Rattle.krl_modes.specs.declared.part.RangePart.TheVariants as range
use Rattle.krl_modes.specs.declared.part.KeyPart.TheVariants as key
use Rattle.krl_machine.proofs.Basics.{Inv}
use Rattle.krl_machine.proofs.Points.{lowered_below, lowered_within}
use Rattle.krl_machine.proofs.Belief.{live_registered, off_ok}
use Rattle.krl_machine.proofs.Links.{not_both}
use Rattle.krl_failover.specs.Fenced.{Kept}
use Rattle.krl_machine.proofs.RowChanges.{Below}
use Rattle.krl_failover.proofs.Machine.Basics.{Extra, Old, Top, Gather}

-- one more report, which states what the client believes
module _ (s : Shared) (l : Link) (b : ℕ) (z : Kept) (n : ℕ) (i : Inv s l) (t : Top s l b z) where
  mine : Report
  mine = record { inc = l.inc; epoch = n; range = l.range; key = l.key }

  told_more : z.reg ≡ l.reg → (r : Release) → In r l.releases → r.head.inc ≡ l.reg → r.head.epoch ≡ b → r.head.seen ≡ z.last → (x : Report) → In x (record { inc = l.inc; epoch = n; range = l.range; key = l.key } ∷ l.reports) → x.inc ≡ l.reg → b < x.epoch → (q : ℕ) → r.lo ≤ q → q ≤ r.last → Below (x.range q) (x.key q) r.range r.key
  told_more zr r rat a c d = each_more (λ x. x.inc ≡ l.reg → b < x.epoch → (q : ℕ) → r.lo ≤ q → q ≤ r.last → Below (x.range q) (x.key q) r.range r.key) _ l.reports
      (λ e f q lo hi. t.belief zr r rat a c d e q lo hi) (t.sent.told zr r rat a c d)

  reports_more : l.left ≡ false → (x : Report) → In x (record { inc = l.inc; epoch = n; range = l.range; key = l.key } ∷ l.reports) → x.inc ≡ l.reg → b < x.epoch → (q : ℕ) → Below (x.range q) (x.key q) (l.top_range q) (l.top_key q)
  reports_more lf = each_more (λ x. x.inc ≡ l.reg → b < x.epoch → (q : ℕ) → Below (x.range q) (x.key q) (l.top_range q) (l.top_key q)) _ l.reports
      (λ e f q. i.belief.bound q) (t.reports lf)

  off_more : (x : Report) → In x (record { inc = l.inc; epoch = n; range = l.range; key = l.key } ∷ l.reports) → x.inc ≡ l.reg → b < x.epoch → (q : ℕ) → q ≢ s.end → s.index q ≡ None → KeyAtMost (x.key q) (off_slot (x.range q))
  off_more = each_more (λ x. x.inc ≡ l.reg → b < x.epoch → (q : ℕ) → q ≢ s.end → s.index q ≡ None → KeyAtMost (x.key q) (off_slot (x.range q))) _ l.reports
      (λ e f q far none. off_ok s l i.known q (l.range q) far none (omega arith, omega arith)) t.sent.off

  covers_more : (x : Report) → In x (record { inc = l.inc; epoch = n; range = l.range; key = l.key } ∷ l.reports) → x.inc ≡ l.reg → b < x.epoch → l.inc ≡ l.reg → (q : ℕ) → Below (l.range q) (l.key q) (x.range q) (x.key q)
  covers_more = each_more (λ x. x.inc ≡ l.reg → b < x.epoch → l.inc ≡ l.reg → (q : ℕ) → Below (l.range q) (l.key q) (x.range q) (x.key q)) _ l.reports
      (λ e f g q. ((omega arith, omega arith), omega arith)) t.covers

  new_more : ((q : ℕ) → (l.new_range q ≡ range.N) × (l.new_key q ≡ key.N))
      ⊎ ((x : Report) × In x (record { inc = l.inc; epoch = n; range = l.range; key = l.key } ∷ l.reports) × (x.inc ≡ l.reg) × (x.epoch ≡ s.epoch) × IsRebuilt s x l.new_range l.new_key)
  new_more = ⊎_elim (λ a. inl a) (λ a. inr (a.0, inr a.1, a.2, a.3, a.4)) t.new

order_more : (s : Shared) (l : Link) (b : ℕ) (z : Kept) (n : ℕ) → Inv s l → Top s l b z → l.epoch ≤ n → (x y : Report) → In x (record { inc = l.inc; epoch = n; range = l.range; key = l.key } ∷ l.reports) → In y (record { inc = l.inc; epoch = n; range = l.range; key = l.key } ∷ l.reports) → x.inc ≡ l.reg → y.inc ≡ l.reg → b < y.epoch → y.epoch < x.epoch → (q : ℕ) → Below (x.range q) (x.key q) (y.range q) (y.key q)
order_more s l b z n i t le x y (inl e) (inl f) xi yi low lt q = absurd (omega (arith, ap (λ r. r.epoch) e, ap (λ r. r.epoch) f, lt))
order_more s l b z n i t le x y (inl e) (inr at) xi yi low lt q = subst (λ r. Below (r.range q) (r.key q) (y.range q) (y.key q)) (sym e) (t.covers y at yi low (sym (ap (λ r. r.inc) e) ∙ xi) q)
order_more s l b z n i t le x y (inr at) (inl f) xi yi low lt q = absurd (omega (arith, (i.standing.reports x at).1 (xi ∙ sym yi ∙ ap (λ r. r.inc) f), ap (λ r. r.epoch) f, lt, le))
order_more s l b z n i t le x y (inr at) (inr to) xi yi low lt q = t.sent.order x y at to xi yi low lt q

pub top_kept : (s : Shared) (l l' : Link) (b : ℕ) (z : Kept) → LinkStep s l l' → s.phase ≡ Recovering → b < s.epoch → Inv s l → Extra s l → Old s l b z → Top s l b z → Top s l' b z
top_kept s l l' b z (starts down) rec lt i x o t = record {
  sent = t.sent;
  belief = λ zr r rat a c d e. absurd (omega (arith, i.standing.reg, e));
  reports = t.reports;
  covers = λ y yat a c e. absurd (omega (arith, i.standing.reg, e));
  new = t.new;
}
top_kept s l l' b z crashes rec lt i x o t = record {
  sent = t.sent;
  belief = λ zr r rat a c d e q lo hi. ((omega arith, omega arith), omega arith);
  reports = t.reports;
  covers = λ y yat a c e q. ((omega arith, omega arith), omega arith);
  new = t.new;
}
top_kept s l l' b z (leaves up) rec lt i x o t = record {
  sent = t.sent;
  belief = λ zr r rat a c d e q lo hi. ((omega arith, omega arith), omega arith);
  reports = t.reports;
  covers = λ y yat a c e q. ((omega arith, omega arith), omega arith);
  new = t.new;
}
top_kept s l l' b z (joins n at up same later) rec lt i x o t = record {
  sent = record {
    same = t.sent.same;
    low = t.sent.low;
    told = told_more s l b z n.epoch i t;
    off = off_more s l b z n.epoch i t;
    order = order_more s l b z n.epoch i t (omega arith);
  };
  belief = t.belief;
  reports = reports_more s l b z n.epoch i t;
  covers = covers_more s l b z n.epoch i t;
  new = new_more s l b z n.epoch i t;
}
top_kept s l l' b z (reports_again up old) rec lt i x o t = record {
  sent = record {
    same = t.sent.same;
    low = t.sent.low;
    told = told_more s l b z l.epoch i t;
    off = off_more s l b z l.epoch i t;
    order = order_more s l b z l.epoch i t (omega arith);
  };
  belief = t.belief;
  reports = reports_more s l b z l.epoch i t;
  covers = covers_more s l b z l.epoch i t;
  new = new_more s l b z l.epoch i t;
}
top_kept s l l' b z (accepts p out at live after) rec lt i x o t =
    let same = live_registered s l p i.standing i.counting at live in
    let low : p.epoch ≤ b = t.sent.low p at (live.inc ∙ same) in
    record {
      sent = t.sent;
      belief = λ zr r rat a c d e q lo hi. absurd (
          let h = (i.counting.heads r.head (i.counting.releases r rat)).1 (a ∙ sym e) in
          let at_b : l.epoch ≡ b = omega (arith, h.0, c, low, live.epoch) in
          let u = o.session.pushes zr p at (live.inc ∙ same) (live.epoch ∙ at_b) in
          let v = h.1 (c ∙ sym at_b) in omega (arith, u, v, d, live.number));
      reports = t.reports;
      covers = λ y yat a c e. absurd (omega (arith, (i.standing.reports y yat).1 (a ∙ sym e), low, live.epoch, c));
      new = t.new;
    }
top_kept s l l' b z (lowers r0 range key up old head mode free points) rec lt i x o t = record {
  sent = record {
    same = t.sent.same;
    low = t.sent.low;
    told = λ zr. each_more (λ r. r.head.inc ≡ l.reg → r.head.epoch ≡ b → r.head.seen ≡ z.last → (y : Report) → In y l.reports → y.inc ≡ l.reg → b < y.epoch → (q : ℕ) → r.lo ≤ q → q ≤ r.last → Below (y.range q) (y.key q) r.range r.key) r0 l.releases
        (λ a c d y yat e f. absurd (
        let g : l.epoch ≡ b = subst (λ h. h.epoch ≡ b) head c in
        omega (arith, (i.standing.reports y yat).1 (e ∙ sym (i.standing.joined old)), f, g)))
        (t.sent.told zr);
    off = t.sent.off;
    order = t.sent.order;
  };
  belief = λ zr. each_more (λ r. r.head.inc ≡ l.reg → r.head.epoch ≡ b → r.head.seen ≡ z.last → l.inc ≡ l.reg → (q : ℕ) → r.lo ≤ q → q ≤ r.last → Below (range q) (key q) r.range r.key) r0 l.releases
      (λ a c d e q lo hi. lowered_within r0.lo r0.last r0.range r0.key (l.range q) (l.key q) (range q) (key q) q (points q) lo hi)
      (λ r rat a c d e q lo hi. let y = t.belief zr r rat a c d e q lo hi in let w = lowered_below r0.lo r0.last r0.range r0.key (l.range q) (l.key q) (range q) (key q) q (points q) in
      ((omega (arith, y, w), omega (arith, y, w)), omega (arith, y, w)));
  reports = t.reports;
  covers = λ y yat a c e q. let v = t.covers y yat a c e q in let w = lowered_below r0.lo r0.last r0.range r0.key (l.range q) (l.key q) (range q) (key q) q (points q) in
      ((omega (arith, v, w), omega (arith, v, w)), omega (arith, v, w));
  new = t.new;
}
top_kept s l l' b z (registers h at on newer) rec lt i x o t = record {
  sent = record {
    same = λ r. absurd (omega (arith, o.reg, r));
    low = λ p pat e. let y : p.inc ≤ l.reg = (i.counting.pushes p pat).reg in absurd (omega arith);
    told = λ r. absurd (omega (arith, o.reg, r));
    off = λ y yat e. absurd (omega (arith, x.reports y yat, e));
    order = λ y w yat wat e. absurd (omega (arith, x.reports y yat, e));
  };
  belief = λ r. absurd (omega (arith, o.reg, r));
  reports = λ lf y yat e. absurd (omega (arith, x.reports y yat, e));
  covers = λ y yat e. absurd (omega (arith, x.reports y yat, e));
  new = inl (λ q. (refl, refl));
}
top_kept s l l' b z (sees_off c at on same) rec lt i x o t = record {
  sent = t.sent;
  belief = t.belief;
  reports = λ lf. absurd (true≢false lf);
  covers = t.covers;
  new = inl (λ q. (refl, refl));
}
top_kept s l l' b z (takes_report r range key at on missing same now built) rec lt i x o t = record {
  sent = t.sent;
  belief = t.belief;
  reports = t.reports;
  covers = t.covers;
  new = inr (r, at, same, now, built);
}
top_kept s l l' b z (takes_release r range key rat ok acked slots row) rec lt i x o t = absurd (not_both ok.serving rec)
top_kept s l l' b z (refuses w at ok acked next) rec lt i x o t = absurd (not_both ok.serving rec)
top_kept s l l' b z (pushes p a ha ainc aepoch serving here acked inc epoch number says answers) rec lt i x o t = absurd (not_both serving rec)
top_kept s l l' b z _ rec lt i x o t = t

pub gather_kept : (s : Shared) (l l' : Link) (b e : ℕ) (z : Kept) → LinkStep s l l' → b < e → e < s.epoch → Inv s l → ((p : Push) → In p l.pushes → p.inc ≡ l.reg → p.epoch ≤ b) → Old s l e z → Gather s l e z → Gather s l' e z
gather_kept s l l' b e z (starts down) lt lt' i low o g = record {
  new = g.new;
  present = λ m r u f. absurd (omega (arith, i.standing.reg, f));
  high = λ m h q. ((omega arith, omega arith), omega arith);
  later = g.later;
}
gather_kept s l l' b e z crashes lt lt' i low o g = record {
  new = g.new;
  present = λ m r u f. absurd (true≢false (sym u));
  high = λ m h q. ((omega arith, omega arith), omega arith);
  later = g.later;
}
gather_kept s l l' b e z (leaves up) lt lt' i low o g = record {
  new = g.new;
  present = λ m r u f. absurd (true≢false (sym u));
  high = λ m h q. ((omega arith, omega arith), omega arith);
  later = g.later;
}
gather_kept s l l' b e z (joins n at up same later) lt lt' i low o g = record {
  new = ⊎_elim (λ a. inl a) (λ a. inr (a.0, inr a.1, a.2, a.3, a.4)) g.new;
  present = λ m r u f. inl (⊎_elim (λ (a : e ≤ l.epoch). omega (arith, a, later)) (λ (a : (l.epoch ≡ 0) × ((n : Notice) → In n l.notices → n.inc ≡ l.reg → e ≤ n.epoch)). a.1 n at (same ∙ f)) (g.present m r u f));
  high = g.high;
  later = λ m h. each_more (λ x. x.inc ≡ l.reg → e < x.epoch → (q : ℕ) → Below (x.range q) (x.key q) (z.new_range q) (z.new_key q)) _ l.reports (λ a c q. g.high m h q) (g.later m h);
}
gather_kept s l l' b e z (reports_again up old) lt lt' i low o g = record {
  new = ⊎_elim (λ a. inl a) (λ a. inr (a.0, inr a.1, a.2, a.3, a.4)) g.new;
  present = g.present;
  high = g.high;
  later = λ m h. each_more (λ x. x.inc ≡ l.reg → e < x.epoch → (q : ℕ) → Below (x.range q) (x.key q) (z.new_range q) (z.new_key q)) _ l.reports (λ a c q. g.high m h q) (g.later m h);
}
gather_kept s l l' b e z (accepts p out at live after) lt lt' i low o g =
    let same = live_registered s l p i.standing i.counting at live in
    record {
      new = g.new;
      present = g.present;
      later = g.later;
      high = λ m h. absurd (⊎_elim (λ (a : e ≤ l.epoch). omega (arith, a, low p at (live.inc ∙ same), live.epoch))
          (λ (a : (l.epoch ≡ 0) × ((n : Notice) → In n l.notices → n.inc ≡ l.reg → e ≤ n.epoch)). omega (arith, a.0, live.epoch, (i.counting.pushes p at).low))
          (g.present m h.0 live.up same));
    }
gather_kept s l l' b e z (lowers r0 range key up old head mode free points) lt lt' i low o g = record {
  new = g.new;
  present = g.present;
  later = g.later;
  high = λ m h q. let v = g.high m h q in let w = lowered_below r0.lo r0.last r0.range r0.key (l.range q) (l.key q) (range q) (key q) q (points q) in
      ((omega (arith, v, w), omega (arith, v, w)), omega (arith, v, w));
}
gather_kept s l l' b e z (registers h at on newer) lt lt' i low o g = record {
  new = g.new;
  present = λ m r. absurd (omega (arith, o.reg, r));
  high = λ m r. absurd (omega (arith, o.reg, r.0));
  later = λ m r. absurd (omega (arith, o.reg, r.0));
}
gather_kept s l l' b e z (notifies on) lt lt' i low o g = record {
  new = g.new;
  high = g.high;
  later = g.later;
  present = λ m r u f. ⊎_elim (λ a. inl a) (λ a. inr (a.0, each_more (λ n. n.inc ≡ l.reg → e ≤ n.epoch) _ l.notices (λ k. omega arith) a.1)) (g.present m r u f);
}
gather_kept s l l' b e z (sees_off c at on same) lt lt' i low o g = record {
  new = g.new;
  present = λ m r u f. absurd (true≢false (sym u ∙ (i.standing.byes c at).1 (same ∙ sym f)));
  high = λ m h. absurd (true≢false h.1);
  later = λ m h. absurd (true≢false h.1);
}
gather_kept s l l' b e z _ lt lt' i low o g = g
