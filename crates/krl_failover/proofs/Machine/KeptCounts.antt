-- The steps of a link keep the counts of old servers.
use Rattle.krl_failover.proofs.Machine.Names.{◌≡◌, ℕ, ◌≤◌, ◌<◌, sym, subst, ◌∙◌, true≢false, arith, each_more, In, Shared, Link, LinkStep, Wrote}
use Rattle.krl_failover.proofs.Machine.Names.{starts, crashes, leaves, joins, accepts, lowers, issues, speaks, writes_again, reports_again, registers, sees_off, takes_report, refuses, pushes}
use Rattle.krl_machine.proofs.Basics.{Inv}
use Rattle.krl_machine.proofs.Belief.{live_registered}
use Rattle.krl_machine.proofs.Writes.{Wrotes}
use Rattle.krl_failover.specs.Fenced.{Kept}
use Rattle.krl_failover.proofs.Machine.Basics.{Extra, Old}

-- a client that has joined an epoch is of the registered incarnation
own_reg : (s : Shared) (l : Link) → Inv s l → 1 ≤ l.epoch → l.inc ≤ l.reg
own_reg s l i h = omega (arith, i.standing.joined h)

own_seen : (s : Shared) (l : Link) → Inv s l → l.inc ≡ l.reg → l.epoch ≡ s.epoch → l.seen ≤ l.last_push
own_seen s l i e f = (i.counting.seen e f).0

pub extra_kept : (s : Shared) (l l' : Link) → LinkStep s l l' → Inv s l → Extra s l → Extra s l'
extra_kept s l l' (joins n at up same later) i x = record {
  heads = x.heads;
  reports = each_more (λ r. r.inc ≤ l.reg) _ l.reports (let le : n.inc ≤ l.reg = (i.standing.notices n at).0 in omega arith) x.reports;
  seen = x.seen;
}
extra_kept s l l' (reports_again up old) i x = record {
  heads = x.heads;
  reports = each_more (λ r. r.inc ≤ l.reg) _ l.reports (own_reg s l i old) x.reports;
  seen = x.seen;
}
extra_kept s l l' (accepts p out at live after) i x =
    let same = live_registered s l p i.standing i.counting at live in
    record {
      heads = each_more (λ a. a.inc ≤ l.reg) _ l.heads (omega (arith, same)) x.heads;
      reports = x.reports;
      seen = each_more (λ a. a.inc ≡ l.reg → a.epoch ≡ s.epoch → a.seen ≤ l.last_push) _ l.heads
          (λ e f. omega (arith, live.number, (i.counting.pushes p at).last_push (live.inc ∙ e) (live.epoch ∙ f))) x.seen;
    }
extra_kept s l l' (lowers r range key up old head mode free points) i x = record {
  heads = each_more (λ a. a.inc ≤ l.reg) _ l.heads (subst (λ a. a.inc ≤ l.reg) (sym head) (own_reg s l i old)) x.heads;
  reports = x.reports;
  seen = each_more (λ a. a.inc ≡ l.reg → a.epoch ≡ s.epoch → a.seen ≤ l.last_push) _ l.heads
      (subst (λ a. a.inc ≡ l.reg → a.epoch ≡ s.epoch → a.seen ≤ l.last_push) (sym head) (own_seen s l i)) x.seen;
}
extra_kept s l l' (issues op up old out may) i x = record {
  heads = each_more (λ a. a.inc ≤ l.reg) _ l.heads (own_reg s l i old) x.heads;
  reports = x.reports;
  seen = each_more (λ a. a.inc ≡ l.reg → a.epoch ≡ s.epoch → a.seen ≤ l.last_push) _ l.heads (own_seen s l i) x.seen;
}
extra_kept s l l' (speaks up old) i x = record {
  heads = each_more (λ a. a.inc ≤ l.reg) _ l.heads (own_reg s l i old) x.heads;
  reports = x.reports;
  seen = each_more (λ a. a.inc ≡ l.reg → a.epoch ≡ s.epoch → a.seen ≤ l.last_push) _ l.heads (own_seen s l i) x.seen;
}
extra_kept s l l' (writes_again op up old out) i x = record {
  heads = each_more (λ a. a.inc ≤ l.reg) _ l.heads (own_reg s l i old) x.heads;
  reports = x.reports;
  seen = each_more (λ a. a.inc ≡ l.reg → a.epoch ≡ s.epoch → a.seen ≤ l.last_push) _ l.heads (own_seen s l i) x.seen;
}
extra_kept s l l' (registers h at on newer) i x = record {
  heads = λ a m. omega (arith, x.heads a m);
  reports = λ r m. omega (arith, x.reports r m);
  seen = λ a m e. absurd (omega (arith, x.heads a m, e));
}
extra_kept s l l' (pushes p a ha ainc aepoch serving here acked inc epoch number says answers) i x = record {
  heads = x.heads;
  reports = x.reports;
  seen = λ a m e f. omega (arith, x.seen a m e f);
}
extra_kept s l l' _ i x = x

pub old_kept : (s : Shared) (l l' : Link) (e : ℕ) (z : Kept) → LinkStep s l l' → e < s.epoch → Inv s l → Wrotes l → Old s l e z → Old s l' e z
old_kept s l l' e z (starts down) lt i w o = record {
  reg = o.reg;
  done = o.done;
  session = record {
    seen = λ r f g. absurd (omega (arith, i.standing.reg, f));
    acked = λ r f g. absurd (omega (arith, i.standing.reg, f));
    early = λ r f g. absurd (omega (arith, i.standing.reg, f));
    pushes = o.session.pushes;
  };
  heads = o.heads;
  present = λ r m u f. absurd (omega (arith, i.standing.reg, f));
  judged = o.judged;
}
old_kept s l l' e z crashes lt i w o = record {
  reg = o.reg;
  done = o.done;
  session = o.session;
  heads = o.heads;
  present = λ r m u f. absurd (true≢false (sym u));
  judged = o.judged;
}
old_kept s l l' e z (leaves up) lt i w o = record {
  reg = o.reg;
  done = o.done;
  session = o.session;
  heads = o.heads;
  present = λ r m u f. absurd (true≢false (sym u));
  judged = o.judged;
}
old_kept s l l' e z (joins n at up same later) lt i w o = record {
  reg = o.reg;
  done = o.done;
  session = record {
    seen = λ r f g. let y = o.session.early r f (omega (arith, g)) in (omega (arith, y), omega (arith, y));
    acked = λ r f g a. o.session.early r f (omega (arith, g));
    early = λ r f g. o.session.early r f (omega (arith, g));
    pushes = o.session.pushes;
  };
  heads = o.heads;
  present = λ r m u f. let y = o.present r m u f in let top : n.epoch ≤ s.epoch = (i.standing.notices n at).1 in absurd (omega (arith, y, later));
  judged = o.judged;
}
old_kept s l l' e z (accepts p out at live after) lt i w o = record {
  reg = o.reg;
  done = o.done;
  session = record {
    seen = λ r f g. let up = o.session.pushes r p at (live.inc ∙ f) (live.epoch ∙ g) in let b = o.session.seen r f g in (omega (arith, live.number, up), omega (arith, b.1));
    acked = λ r f g a. let up = o.session.pushes r p at (live.inc ∙ f) (live.epoch ∙ g) in absurd (omega (arith, live.number, up, o.session.acked r f g a));
    early = o.session.early;
    pushes = o.session.pushes;
  };
  heads = λ r. each_more (λ a. a.inc ≡ l.reg → a.epoch ≡ e → a.seen ≤ z.last) _ l.heads
      (λ f g. omega (arith, live.number, o.session.pushes r p at (live.inc ∙ f) (live.epoch ∙ g))) (o.heads r);
  present = o.present;
  judged = o.judged;
}
old_kept s l l' e z (lowers r0 range key up old head mode free points) lt i w o = record {
  reg = o.reg;
  done = o.done;
  session = o.session;
  heads = λ r. each_more (λ a. a.inc ≡ l.reg → a.epoch ≡ e → a.seen ≤ z.last) _ l.heads
      (subst (λ a. a.inc ≡ l.reg → a.epoch ≡ e → a.seen ≤ z.last) (sym head) (λ f g. (o.session.seen r f g).0)) (o.heads r);
  present = o.present;
  judged = o.judged;
}
old_kept s l l' e z (issues op up old out may) lt i w o = record {
  reg = o.reg;
  done = o.done;
  session = o.session;
  heads = λ r. each_more (λ a. a.inc ≡ l.reg → a.epoch ≡ e → a.seen ≤ z.last) _ l.heads (λ f g. (o.session.seen r f g).0) (o.heads r);
  present = o.present;
  judged = record {
    did = λ a b. each_more (λ m. m.head.inc ≡ z.reg → m.number ≡ z.done → (x : Wrote) × In x l.wrote × (x.inc ≡ z.reg) × (x.number ≡ z.done)) _ l.writes
        (λ f g. let r : z.reg ≡ l.reg = omega (arith, o.reg, i.standing.reg, f) in absurd (omega (arith, o.done r, (i.writing.counted up (f ∙ r)).0, g))) (o.judged.did a b);
    did_not = o.judged.did_not;
  };
}
old_kept s l l' e z (speaks up old) lt i w o = record {
  reg = o.reg;
  done = o.done;
  session = o.session;
  heads = λ r. each_more (λ a. a.inc ≡ l.reg → a.epoch ≡ e → a.seen ≤ z.last) _ l.heads (λ f g. (o.session.seen r f g).0) (o.heads r);
  present = o.present;
  judged = o.judged;
}
old_kept s l l' e z (writes_again op up old out) lt i w o = record {
  reg = o.reg;
  done = o.done;
  session = o.session;
  heads = λ r. each_more (λ a. a.inc ≡ l.reg → a.epoch ≡ e → a.seen ≤ z.last) _ l.heads (λ f g. (o.session.seen r f g).0) (o.heads r);
  present = o.present;
  judged = record {
    did = λ a b. each_more (λ m. m.head.inc ≡ z.reg → m.number ≡ z.done → (x : Wrote) × In x l.wrote × (x.inc ≡ z.reg) × (x.number ≡ z.done)) _ l.writes
        (λ f g. let y = w.sent_out op out in o.judged.did a b y.0 y.1 (y.2 ∙ f) (y.3 ∙ g)) (o.judged.did a b);
    did_not = o.judged.did_not;
  };
}
old_kept s l l' e z (registers h at on newer) lt i w o = record {
  reg = omega (arith, o.reg);
  done = λ r. absurd (omega (arith, o.reg, r));
  session = record {
    seen = λ r. absurd (omega (arith, o.reg, r));
    acked = λ r. absurd (omega (arith, o.reg, r));
    early = λ r. absurd (omega (arith, o.reg, r));
    pushes = λ r. absurd (omega (arith, o.reg, r));
  };
  heads = λ r. absurd (omega (arith, o.reg, r));
  present = λ r. absurd (omega (arith, o.reg, r));
  judged = o.judged;
}
old_kept s l l' e z (sees_off b at on same) lt i w o = record {
  reg = o.reg;
  done = o.done;
  session = o.session;
  heads = o.heads;
  present = λ r m u f. absurd (true≢false (sym u ∙ (i.standing.byes b at).1 (same ∙ sym f)));
  judged = o.judged;
}
old_kept s l l' e z (takes_report x range key at on missing same now built) lt i w o = record {
  reg = o.reg;
  done = o.done;
  session = o.session;
  heads = o.heads;
  present = λ r m u f. let low = (i.standing.reports x at).1 (same ∙ sym f) in omega (arith, low, now, i.standing.epoch);
  judged = o.judged;
}
old_kept s l l' e z (refuses m at ok acked next) lt i w o = record {
  reg = o.reg;
  done = λ r. omega (arith, o.done r);
  session = o.session;
  heads = o.heads;
  present = o.present;
  judged = o.judged;
}
old_kept s l l' e z (pushes p a ha ainc aepoch serving here acked inc epoch number says answers) lt i w o = record {
  reg = o.reg;
  done = o.done;
  session = record {
    seen = o.session.seen;
    acked = o.session.acked;
    early = o.session.early;
    pushes = λ r. each_more (λ p'. p'.inc ≡ l.reg → p'.epoch ≡ e → p'.number ≤ z.last) p l.pushes (λ f g. absurd (omega (arith, epoch, g))) (o.session.pushes r);
  };
  heads = o.heads;
  present = o.present;
  judged = o.judged;
}
old_kept s l l' e z _ lt i w o = o
