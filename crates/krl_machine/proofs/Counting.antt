-- The group Counting lasts.
use Rattle.krl_machine.proofs.Names.{◌≡◌, ℕ, suc, ◌≤◌, List, ◌∷◌, inl, inr, refl, sym, subst, ◌∙◌, true≢false, arith, In, each_more, Head, Shared, Link, LinkStep, head_of, starts, joins, accepts}
use Rattle.krl_machine.proofs.Names.{lowers, issues, speaks, writes_again, registers, takes_head, pushes}
use Rattle.krl_machine.proofs.Basics.{Standing, Counting, HeadOk, PushOk}

-- a new head that is the client's own
heads_more : (l : Link) (hs : List Head) (seen : ℕ) → l.seen ≤ seen → ((a : Head) → In a hs → HeadOk l a) → (a : Head) → In a (record { inc = l.inc; epoch = l.epoch; seen = seen } ∷ hs) → (a.inc ≤ l.inc) × (a.inc ≡ l.inc → (a.epoch ≤ l.epoch) × (a.epoch ≡ l.epoch → a.seen ≤ seen))
heads_more l hs seen le h =
    each_more (λ a. (a.inc ≤ l.inc) × (a.inc ≡ l.inc → (a.epoch ≤ l.epoch) × (a.epoch ≡ l.epoch → a.seen ≤ seen))) _ hs
    (omega arith, λ e. (omega arith, λ e. omega arith))
    (λ a m. ((h a m).0, λ e. (((h a m).1 e).0, λ f. omega (arith, ((h a m).1 e).1 f))))

-- the epoch of a new head that is the client's own
epochs_more : (s : Shared) (l : Link) (hs : List Head) (seen : ℕ) → l.epoch ≤ s.epoch → ((a : Head) → In a hs → a.epoch ≤ s.epoch) → (a : Head) → In a (record { inc = l.inc; epoch = l.epoch; seen = seen } ∷ hs) → a.epoch ≤ s.epoch
epochs_more s l hs seen le h = each_more (λ a. a.epoch ≤ s.epoch) _ hs le h

pub counting_kept : (s : Shared) (l l' : Link) → LinkStep s l l' → Standing s l → Counting s l → Counting s l'
counting_kept s l l' (starts down) st i = record {
  heads = λ a m. let le : a.inc ≤ l.inc = (i.heads a m).0 in (omega arith, λ e. absurd (omega arith));
  head_epochs = i.head_epochs;
  pushes = λ p m. let c = i.pushes p m in let le : p.inc ≤ l.reg = c.reg in
      record { reg = c.reg; low = c.low; epoch = c.epoch; seen = λ e. absurd (omega (arith, st.reg)); last_push = c.last_push; phase = c.phase };
  seen = λ e. absurd (omega (arith, st.reg));
  acked = λ e. absurd (omega (arith, st.reg));
  early = λ e. absurd (omega (arith, st.reg));
  releases = i.releases;
  writes = i.writes;
}
counting_kept s l l' (joins n at up same later) st i =
    let le : n.inc ≤ l.reg = (st.notices n at).0 in
    let lt : n.epoch ≤ s.epoch = (st.notices n at).1 in
    record {
      heads = λ a m. let h = i.heads a m in (h.0, λ e. let low = (h.1 e).0 in (omega (arith, low), λ f. absurd (omega (arith, low))));
      head_epochs = i.head_epochs;
      pushes = λ p m. let c = i.pushes p m in
          record { reg = c.reg; low = c.low; epoch = c.epoch; seen = λ e. let low = (c.seen e).0 in (omega (arith, low), λ f. absurd (omega (arith, low))); last_push = c.last_push; phase = c.phase };
      seen = λ e f. let z = i.early e (omega arith) in (omega (arith, z), omega (arith, z));
      acked = λ e f a. i.early e (omega arith);
      early = λ e f. i.early e (omega arith);
      releases = i.releases;
      writes = i.writes;
    }
counting_kept s l l' (accepts p out at live after) st i =
    let c = i.pushes p at in
    record {
      heads = heads_more l l.heads (suc l.seen) (omega arith) i.heads;
      head_epochs = epochs_more s l l.heads (suc l.seen) st.epoch i.head_epochs;
      pushes = λ p m. let c = i.pushes p m in
          record { reg = c.reg; low = c.low; epoch = c.epoch; seen = λ e. let low = c.seen e in (low.0, λ f. omega (arith, low.1 f)); last_push = c.last_push; phase = c.phase };
      seen = λ e f. let up = c.last_push (live.inc ∙ e) (live.epoch ∙ f) in let b = i.seen e f in (omega (arith, live.number, up), omega (arith, b.1));
      acked = λ e f a. let up = c.last_push (live.inc ∙ e) (live.epoch ∙ f) in let b = i.seen e f in omega (arith, live.number, up, b.1);
      early = i.early;
      releases = λ r m. inr (i.releases r m);
      writes = λ w m. inr (i.writes w m);
    }
counting_kept s l l' (lowers r range key up old head mode free points) st i = record {
  heads = each_more (HeadOk l) _ l.heads (subst (HeadOk l) (sym head) (omega arith, λ e. (omega arith, λ e. omega arith))) i.heads;
  head_epochs = each_more (λ a. a.epoch ≤ s.epoch) _ l.heads (subst (λ a. a.epoch ≤ s.epoch) (sym head) st.epoch) i.head_epochs;
  pushes = i.pushes;
  seen = i.seen;
  acked = i.acked;
  early = i.early;
  releases = each_more (λ r'. In r'.head (r.head ∷ l.heads)) _ l.releases (inl refl) (λ r m. inr (i.releases r m));
  writes = λ w m. inr (i.writes w m);
}
counting_kept s l l' (issues op up old out may) st i = record {
  heads = heads_more l l.heads l.seen (omega arith) i.heads;
  head_epochs = epochs_more s l l.heads l.seen st.epoch i.head_epochs;
  pushes = i.pushes;
  seen = i.seen;
  acked = i.acked;
  early = i.early;
  releases = λ r m. inr (i.releases r m);
  writes = each_more (λ w. In w.head (head_of l ∷ l.heads)) _ l.writes (inl refl) (λ r m. inr (i.writes r m));
}
counting_kept s l l' (speaks up old) st i = record {
  heads = heads_more l l.heads l.seen (omega arith) i.heads;
  head_epochs = epochs_more s l l.heads l.seen st.epoch i.head_epochs;
  pushes = i.pushes;
  seen = i.seen;
  acked = i.acked;
  early = i.early;
  releases = λ r m. inr (i.releases r m);
  writes = λ w m. inr (i.writes w m);
}
counting_kept s l l' (writes_again op up old out) st i = record {
  heads = heads_more l l.heads l.seen (omega arith) i.heads;
  head_epochs = epochs_more s l l.heads l.seen st.epoch i.head_epochs;
  pushes = i.pushes;
  seen = i.seen;
  acked = i.acked;
  early = i.early;
  releases = λ r m. inr (i.releases r m);
  writes = each_more (λ w. In w.head (head_of l ∷ l.heads)) _ l.writes (inl refl) (λ r m. inr (i.writes r m));
}
counting_kept s l l' (registers h at on newer) st i =
    record {
      heads = i.heads;
      head_epochs = i.head_epochs;
      pushes = λ p m. let c = i.pushes p m in let low : p.inc ≤ l.reg = c.reg in
          record { reg = omega arith; low = c.low; epoch = c.epoch; seen = c.seen; last_push = λ e. absurd (omega arith); phase = c.phase };
      seen = λ e f. absurd (omega (arith, st.joined (omega (arith, st.server))));
      acked = λ e f. absurd (omega (arith, st.joined (omega (arith, st.server))));
      early = λ e f. refl;
      releases = i.releases;
      writes = i.writes;
    }
counting_kept s l l' (takes_head a at ok) st i = record {
  heads = i.heads;
  head_epochs = i.head_epochs;
  pushes = i.pushes;
  seen = i.seen;
  acked = λ e f t. let h = ((i.heads a at).1 (ok.inc ∙ sym e)).1 (ok.epoch ∙ sym f) in let b = i.seen e f in omega (arith, h, ok.seen, b.0);
  early = i.early;
  releases = i.releases;
  writes = i.writes;
}
counting_kept s l l' (pushes p a at ainc aepoch serving here acked inc epoch number says answers) st i = record {
  heads = i.heads;
  head_epochs = i.head_epochs;
  pushes = each_more (λ p. PushOk s l' p) _ l.pushes
      (record {
        reg = omega (arith, inc);
        low = omega (arith, epoch, st.server);
        epoch = omega (arith, epoch);
        seen = λ e. let h = (i.heads a at).1 (ainc ∙ sym inc ∙ e) in (omega (arith, h.0, aepoch, epoch), λ f. omega (arith, number, i.acked (sym e ∙ inc) (sym f ∙ epoch) acked));
        last_push = λ e f. omega (arith, number);
        phase = λ e g. absurd (cc);
      })
      (λ p m. let c = i.pushes p m in record { reg = c.reg; low = c.low; epoch = c.epoch; seen = c.seen; last_push = λ e f. omega (arith, c.last_push e f); phase = c.phase });
  seen = λ e f. let b = i.acked e f acked in (omega (arith, b), omega (arith, b));
  acked = λ e f t. absurd (true≢false (sym t));
  early = λ e f. absurd (omega (arith, ((i.heads a at).1 (ainc ∙ sym e)).0, aepoch));
  releases = i.releases;
  writes = i.writes;
}
counting_kept s l l' _ st i = i
