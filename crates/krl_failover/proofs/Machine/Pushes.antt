-- A notice of an old server, and a push of one.
use Rattle.krl_failover.proofs.Machine.Names.{◌≡◌, ◌≢◌, ℕ, suc, ◌≤◌, ◌<◌, ◌∷◌, true, false, Some, None, inl, inr, sym, ap, subst, ◌∙◌, ⊎_elim, true≢false, arith, each_more, In, rank, IsMode, op_key, Notice, Push, Said, Shared, Link, IsLive, MaySay, at_slot, off_slots, Wrote}
use Rattle.krl_machine.proofs.Basics.{Inv, LiveAt, LiveOk, PushOk}
use Rattle.krl_machine.proofs.Writes.{Wrotes}
use Rattle.krl_failover.specs.Fenced.{Kept, IsHere, MayPush, AnswersKept}
use Rattle.krl_failover.proofs.Machine.Basics.{Old, Top}

-- A notice

pub notice_inv : (s : Shared) (l : Link) (e : ℕ) (z : Kept) → e < s.epoch → Old s l e z → Inv s l → Inv s (record l { notices = record { inc = z.reg; epoch = e } ∷ l.notices })
notice_inv s l e z lt o i = record {
  standing = record {
    server = i.standing.server;
    reg = i.standing.reg;
    counts = i.standing.counts;
    epoch = i.standing.epoch;
    joined = i.standing.joined;
    stays = i.standing.stays;
    hellos = i.standing.hellos;
    byes = i.standing.byes;
    notices = each_more (λ n. (n.inc ≤ l.reg) × (n.epoch ≤ s.epoch)) _ l.notices (o.reg, omega arith) i.standing.notices;
    reports = i.standing.reports;
    present = λ m u f. ⊎_elim (λ (a : l.epoch ≡ s.epoch). inl a)
        (λ (a : (l.epoch ≡ 0) × ((n : Notice) → In n l.notices → n.inc ≡ l.reg → n.epoch ≡ s.epoch)).
        inr (a.0, each_more (λ n. n.inc ≡ l.reg → n.epoch ≡ s.epoch) _ l.notices (λ g. absurd (omega (arith, o.present g m u f, a.0, i.standing.server))) a.1))
        (i.standing.present m u f);
    serving = i.standing.serving;
  };
  counting = i.counting;
  belief = i.belief;
  live_pushes = i.live_pushes;
  released = i.released;
  known = i.known;
  writing = i.writing;
  recovery = i.recovery;
  rows = i.rows;
}

-- A push

-- what a new push states of one point
new_said : (s : Shared) (l : Link) (q : ℕ) (t : Said) → Inv s l → MaySay s l q t → LiveAt s l q t
new_said s l q t i (at_slot slot r k entry) = record {
  low = rw r (rw k ((omega arith, omega arith), omega arith));
  covers = rw r (i.belief.bound q).0;
  gone = λ far none h. slot far none;
  known = record {
    entry = entry;
    empty = λ n h. let m : IsMode t.range t.key = rw r (rw k (i.rows.top.mode q slot)) in let z : rank t.key ≡ 0 = ap rank n in absurd (omega (arith, m, h, z));
  };
}
new_said s l q t i (off_slots far none r k) = record {
  low = rw r (rw k ((omega arith, omega arith), omega arith));
  covers = rw r (i.belief.bound q).0;
  gone = λ f n h. let z : rank t.key ≡ 0 = ap rank k in omega (arith, h, z);
  known = record { entry = λ f h. let z : rank t.key ≡ 0 = ap rank k in absurd (omega (arith, h, z)); empty = λ n h. none };
}

module _ (s : Shared) (l : Link) (e : ℕ) (z : Kept) (p : Push) (i : Inv s l) (o : Old s l e z) (one : 1 ≤ e) (lt : e < s.epoch) (may : MayPush l e z p) where
  -- a client of the push's incarnation is of the registered one
  to_here : p.inc ≡ l.inc → (z.reg ≡ l.reg) × (l.inc ≡ l.reg)
  to_here f = (omega (arith, may.inc, f, o.reg, i.standing.reg), omega (arith, may.inc, f, o.reg, i.standing.reg))

  push_ok : PushOk s (record l { pushes = p ∷ l.pushes }) p
  push_ok = record {
    reg = omega (arith, may.inc, o.reg);
    low = omega (arith, may.epoch);
    epoch = omega (arith, may.epoch);
    seen = λ f.
        let h = (i.counting.heads may.head may.heard).1 (may.head_inc ∙ sym may.inc ∙ f) in (
          omega (arith, h.0, may.head_epoch, may.epoch),
          λ g. let x = to_here f in omega (arith, may.number, o.session.acked x.0 x.1 (sym g ∙ may.epoch) may.acked),
        );
    last_push = λ f g. absurd (omega (arith, may.epoch, g));
    phase = λ g. absurd (omega (arith, may.epoch, g));
  }

  pub push_inv : (IsLive l p → LiveOk s l p) → Inv s (record l { pushes = p ∷ l.pushes })
  push_inv ok = record {
    standing = i.standing;
    counting = record {
      heads = i.counting.heads;
      head_epochs = i.counting.head_epochs;
      pushes = each_more (λ p'. PushOk s (record l { pushes = p ∷ l.pushes }) p') p l.pushes push_ok
          (λ p' at. let c = i.counting.pushes p' at in record { reg = c.reg; low = c.low; epoch = c.epoch; seen = c.seen; last_push = c.last_push; phase = c.phase });
      seen = i.counting.seen;
      acked = i.counting.acked;
      early = i.counting.early;
      releases = i.counting.releases;
      writes = i.counting.writes;
    };
    belief = i.belief;
    live_pushes = each_more (λ p'. IsLive l p' → LiveOk s l p') p l.pushes ok i.live_pushes;
    released = i.released;
    known = i.known;
    writing = record {
      writes = i.writing.writes;
      counted = i.writing.counted;
      some = i.writing.some;
      answers = each_more (λ p'. p'.inc ≡ l.reg → p'.answers ≤ l.done) p l.pushes
          (λ f. ⊎_elim (λ (a : p.answers ≡ 0). omega (arith, a)) (λ (a : AnswersKept l z p). omega (arith, a.answers, o.done (sym may.inc ∙ f))) may.answers)
          i.writing.answers;
      fresh = i.writing.fresh;
      down = i.writing.down;
    };
    recovery = i.recovery;
    rows = i.rows;
  }

  -- by the last server that served, from its rows
  pub bound_live : Top s l e z → IsHere l z → ((q : ℕ) (t : Said) → p.says q ≡ Some t → MaySay s l q t) → IsLive l p → LiveOk s l p
  bound_live t here says live = record {
    says = λ q u f. new_said s l q u i (says q u f);
    answer = λ op out a. ⊎_elim (λ (w : p.answers ≡ 0). absurd (omega (arith, w, a, i.writing.some op out)))
        (λ (w : AnswersKept l z p).
        let x = (i.writing.writes w.write w.sent (w.inc ∙ sym may.inc ∙ live.inc)).1 op out (w.number ∙ sym w.answers ∙ a) in
        subst (λ x. p.says (op_key x) ≢ None) x w.speaks) may.answers;
  }

  pub push_old : Old s (record l { pushes = p ∷ l.pushes }) e (record z { last = suc z.last; acked = false })
  push_old = record {
    reg = o.reg;
    done = o.done;
    session = record {
      seen = λ r f g. let a = o.session.acked r f g may.acked in (omega (arith, a), omega (arith, a));
      acked = λ r f g a. absurd (true≢false (sym a));
      early = λ r f g. absurd (omega (arith, ((i.counting.heads may.head may.heard).1 (may.head_inc ∙ r ∙ sym f)).0, may.head_epoch, g));
      pushes = λ r. each_more (λ p'. p'.inc ≡ l.reg → p'.epoch ≡ e → p'.number ≤ suc z.last) p l.pushes (λ f g. omega (arith, may.number)) (λ p' at f g. omega (arith, o.session.pushes r p' at f g));
    };
    heads = λ r a at f g. omega (arith, o.heads r a at f g);
    present = o.present;
    judged = o.judged;
  }

  pub push_other : (f : ℕ) (y : Kept) → f ≢ e → Old s l f y → Old s (record l { pushes = p ∷ l.pushes }) f y
  push_other f y ne x = record {
    reg = x.reg;
    done = x.done;
    session = record {
      seen = x.session.seen;
      acked = x.session.acked;
      early = x.session.early;
      pushes = λ r. each_more (λ p'. p'.inc ≡ l.reg → p'.epoch ≡ f → p'.number ≤ y.last) p l.pushes (λ g h. absurd (ne (sym h ∙ may.epoch))) (x.session.pushes r);
    };
    heads = x.heads;
    present = x.present;
    judged = x.judged;
  }

  -- the last server that served pushes itself, or another one does
  pub push_top : Top s l e z → Top s (record l { pushes = p ∷ l.pushes }) e (record z { last = suc z.last; acked = false })
  push_top t = record {
    sent = record {
      same = t.sent.same;
      low = each_more (λ p'. p'.inc ≡ l.reg → p'.epoch ≤ e) p l.pushes (λ f. omega (arith, may.epoch)) t.sent.low;
      told = λ zr r at a c d. absurd (omega (arith, o.heads zr r.head (i.counting.releases r at) a c, d));
      off = t.sent.off;
      order = t.sent.order;
    };
    belief = λ zr r at a c d. absurd (omega (arith, o.heads zr r.head (i.counting.releases r at) a c, d));
    reports = t.reports;
    covers = t.covers;
    new = t.new;
  }

  pub push_top_other : (b : ℕ) (y : Kept) → (p.inc ≡ l.reg → e ≤ b) → Top s l b y → Top s (record l { pushes = p ∷ l.pushes }) b y
  push_top_other b y older t = record {
    sent = record {
      same = t.sent.same;
      low = each_more (λ p'. p'.inc ≡ l.reg → p'.epoch ≤ b) p l.pushes (λ f. omega (arith, may.epoch, older f)) t.sent.low;
      told = t.sent.told;
      off = t.sent.off;
      order = t.sent.order;
    };
    belief = t.belief;
    reports = t.reports;
    covers = t.covers;
    new = t.new;
  }

  pub push_wrotes : Wrotes l → Wrotes (record l { pushes = p ∷ l.pushes })
  push_wrotes w = record {
    low = w.low;
    did = w.did;
    did_not = w.did_not;
    sent = w.sent;
    same = w.same;
    sent_out = w.sent_out;
    told = each_more (λ p'. 1 ≤ p'.answers → p'.applied ≡ true → (x : Wrote) × In x l.wrote × (x.inc ≡ p'.inc) × (x.number ≡ p'.answers)) p l.pushes
        (λ some t. ⊎_elim (λ (a : p.answers ≡ 0). absurd (omega (arith, a)))
        (λ (a : AnswersKept l z p). let d = o.judged.did (sym a.applied ∙ t) (omega (arith, a.answers)) a.write a.sent a.inc a.number in (d.0, d.1, d.2 ∙ sym may.inc, d.3 ∙ sym a.answers)) may.answers)
        w.told;
    told_not = each_more (λ p'. 1 ≤ p'.answers → p'.applied ≡ false → (x : Wrote) → In x l.wrote → x.inc ≡ p'.inc → x.number ≢ p'.answers) p l.pushes
        (λ some t. ⊎_elim (λ (a : p.answers ≡ 0). absurd (omega (arith, a)))
        (λ (a : AnswersKept l z p). λ x at f g. o.judged.did_not (sym a.applied ∙ t) x at (f ∙ may.inc) (g ∙ a.answers)) may.answers)
        w.told_not;
  }
