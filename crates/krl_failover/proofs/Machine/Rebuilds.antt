-- An old server that recovers takes a report, and has every report.
use Rattle.krl_failover.proofs.Machine.Names.{◌≡◌, ℕ, suc, ◌≤◌, ◌<◌, false, inl, inr, refl, sym, ap, ◌∙◌, ⊎_elim, arith, cases_lt, In, RangePart, KeyPart, Notice, Push, Report, Shared, Link, IsLive, IsRow, IsRebuilt, off_slot}
use Rattle.krl_modes.specs.declared.part.RangePart.TheVariants as range
use Rattle.krl_modes.specs.declared.part.KeyPart.TheVariants as key
use Rattle.krl_machine.proofs.Basics.{Inv}
use Rattle.krl_machine.proofs.Belief.{live_registered, off_ok}
use Rattle.krl_machine.proofs.Writes.{Wrotes}
use Rattle.krl_failover.specs.Fenced.{Kept, IsHere, Finished, here_rows, gone_rows}
use Rattle.krl_machine.proofs.RowChanges.{Below, blank_below, rebuilt_below, rebuilt_above}
use Rattle.krl_failover.proofs.Machine.Basics.{Extra, Old, Top, Gather}
use Rattle.krl_failover.proofs.Machine.BoundRows.{off_mono}

-- An old server that recovers takes a report

module _ (s : Shared) (l : Link) (b e : ℕ) (y z : Kept) (r : Report) (ranges : ℕ → RangePart) (keys : ℕ → KeyPart) (i : Inv s l) (t : Top s l b y)
    (lt : b < e) (at : In r l.reports) (inc : r.inc ≡ z.reg) (epoch : r.epoch ≡ e) (built : IsRebuilt s r ranges keys) where
  stranger : (q : ℕ) → l.reg < l.inc → (l.range q ≡ range.N) × (l.key q ≡ key.N)
  stranger q more = ⊎_elim (λ (a : l.epoch < 1). i.belief.early (omega arith) q) (λ (a : 1 ≤ l.epoch). absurd (omega (arith, i.standing.joined a))) (cases_lt l.epoch 1)

  pub took_gather : Gather s l e (record z { missing = false; new_range = ranges; new_key = keys })
  took_gather = record {
    new = inr (r, at, inc, epoch, built);
    present = λ m zr u g. inl (let h = (i.standing.reports r at).1 (inc ∙ zr ∙ sym g) in omega (arith, h, epoch));
    high = λ m h q. ⊎_elim
        (λ (more : l.reg < l.inc). let c = stranger q more in blank_below (l.range q) (l.key q) (ranges q) (keys q) c.0 c.1)
        (λ (less : l.inc ≤ l.reg). rebuilt_above s r ranges keys l.top_range l.top_key built i.rows.top l.range l.key
        (λ q g far none k. off_ok s l i.known q g far none k) i.belief.bound
        (t.covers r at (inc ∙ h.0) (omega (arith, epoch)) (omega (arith, i.standing.reg))) q)
        (cases_lt l.reg l.inc);
    later = λ m h x xat xi xe q. rebuilt_above s r ranges keys l.top_range l.top_key built i.rows.top x.range x.key
        (λ q g far none k. off_mono (x.range q) g (x.key q) (t.sent.off x xat xi (omega (arith, xe)) q far none) k)
        (t.reports h.1 x xat xi (omega (arith, xe)))
        (t.sent.order x r xat at xi (inc ∙ h.0) (omega (arith, epoch)) (omega (arith, epoch, xe))) q;
  }

-- It has every report

blank_row : (s : Shared) (ranges : ℕ → RangePart) (keys : ℕ → KeyPart) → ((q : ℕ) → (ranges q ≡ range.N) × (keys q ≡ key.N)) → IsRow s ranges keys
blank_row s ranges keys h = record {
  same = λ q a b. (h q).0 ∙ sym (h (suc q)).0;
  past = λ q a. h q;
  mode = λ n a. rw (h n).0 (rw (h n).1 (omega arith, omega arith));
  off = λ q a b. (h q).1 ∙ sym (ap off_slot (h q).0);
}

module _ (s : Shared) (l : Link) (b e : ℕ) (y z : Kept) (i : Inv s l) (t : Top s l b y) (g : Gather s l e z) (lt : b < e) (e_lt : e < s.epoch) (all : z.missing ≡ false) where
  new_row : IsRow s z.new_range z.new_key
  new_row = ⊎_elim (λ (a : (q : ℕ) → (z.new_range q ≡ range.N) × (z.new_key q ≡ key.N)). blank_row s z.new_range z.new_key a)
      (λ (a : (x : Report) × In x l.reports × (x.inc ≡ z.reg) × (x.epoch ≡ e) × IsRebuilt s x z.new_range z.new_key). a.4.row) g.new

  none_live_here : IsHere l z → (p : Push) → In p l.pushes → IsLive l p → ⊥
  none_live_here h p at live =
      let same = live_registered s l p i.standing i.counting at live in
      ⊎_elim (λ (a : e ≤ l.epoch). omega (arith, a, t.sent.low p at (live.inc ∙ same), live.epoch))
      (λ (a : (l.epoch ≡ 0) × ((n : Notice) → In n l.notices → n.inc ≡ l.reg → e ≤ n.epoch)). omega (arith, a.0, live.epoch, (i.counting.pushes p at).low))
      (g.present all h.0 live.up same)

  here_inv : IsHere l z → Inv s (record l { top_range = z.new_range; top_key = z.new_key })
  here_inv h = record {
    standing = i.standing;
    counting = i.counting;
    belief = record { down = i.belief.down; early = i.belief.early; bound = g.high all h };
    live_pushes = λ p at live. absurd (none_live_here h p at live);
    released = i.released;
    known = i.known;
    writing = i.writing;
    recovery = record {
      reports = λ k m x xat xi xe. g.later all h x xat xi (omega (arith, xe));
      covers = i.recovery.covers;
      low = λ k q. ⊎_elim
          (λ (a : (q : ℕ) → (l.new_range q ≡ range.N) × (l.new_key q ≡ key.N)). blank_below (l.new_range q) (l.new_key q) (z.new_range q) (z.new_key q) (a q).0 (a q).1)
          (λ (a : (x : Report) × In x l.reports × (x.inc ≡ l.reg) × (x.epoch ≡ s.epoch) × IsRebuilt s x l.new_range l.new_key).
          rebuilt_below s a.0 l.new_range l.new_key z.new_range z.new_key a.4 new_row (g.later all h a.0 a.1 a.2 (omega (arith, a.3))) q)
          t.new;
      high = i.recovery.high;
    };
    rows = record { top = new_row; new = i.rows.new };
  }

  pub finished_inv : (l' : Link) → Finished l z l' → Inv s l'
  finished_inv l' (here_rows h) = here_inv h
  finished_inv l' (gone_rows h) = i

  pub finished_falls : (l' : Link) → Finished l z l' → (q : ℕ) → Below (l'.top_range q) (l'.top_key q) (l.top_range q) (l.top_key q)
  finished_falls l' (here_rows h) q = ⊎_elim
      (λ (a : (q : ℕ) → (z.new_range q ≡ range.N) × (z.new_key q ≡ key.N)). blank_below (z.new_range q) (z.new_key q) (l.top_range q) (l.top_key q) (a q).0 (a q).1)
      (λ (a : (x : Report) × In x l.reports × (x.inc ≡ z.reg) × (x.epoch ≡ e) × IsRebuilt s x z.new_range z.new_key).
      rebuilt_below s a.0 z.new_range z.new_key l.top_range l.top_key a.4 i.rows.top (t.reports h.1 a.0 a.1 (a.2 ∙ h.0) (omega (arith, a.3))) q)
      g.new
  finished_falls l' (gone_rows h) q = ((omega arith, omega arith), omega arith)

  pub finished_top : (l' : Link) → Finished l z l' → (f : ℕ) (x : Kept) → e ≤ f → Top s l f x → Top s l' f x
  finished_top l' (here_rows h) f x le u = record {
    sent = u.sent;
    belief = u.belief;
    reports = λ lf r at ri re. g.later all h r at ri (omega (arith, re));
    covers = u.covers;
    new = u.new;
  }
  finished_top l' (gone_rows h) f x le u = u

pub finished_gather : (s : Shared) (l l' : Link) (z : Kept) → Finished l z l' → (f : ℕ) (x : Kept) → Gather s l f x → Gather s l' f x
finished_gather s l l' z (here_rows h) f x g = g
finished_gather s l l' z (gone_rows h) f x g = g

pub finished_extra : (s : Shared) (l l' : Link) (z : Kept) → Finished l z l' → Extra s l → Extra s l'
finished_extra s l l' z (here_rows h) x = x
finished_extra s l l' z (gone_rows h) x = x

pub finished_old : (s : Shared) (l l' : Link) (z : Kept) → Finished l z l' → (f : ℕ) (x : Kept) → Old s l f x → Old s l' f x
finished_old s l l' z (here_rows h) f x o = o
finished_old s l l' z (gone_rows h) f x o = o

pub finished_wrotes : (l l' : Link) (z : Kept) → Finished l z l' → Wrotes l → Wrotes l' × (l'.wrote ≡ l.wrote)
finished_wrotes l l' z (here_rows h) w = (w, refl)
finished_wrotes l l' z (gone_rows h) w = (w, refl)

pub finished_who : (l l' : Link) (z : Kept) → Finished l z l' → (l'.reg ≡ l.reg) × (l'.up ≡ l.up) × (l'.inc ≡ l.inc) × (l'.epoch ≡ l.epoch)
finished_who l l' z (here_rows h) = (refl, refl, refl, refl)
finished_who l l' z (gone_rows h) = (refl, refl, refl, refl)
