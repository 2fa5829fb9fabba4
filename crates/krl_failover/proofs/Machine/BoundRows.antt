-- A row of the bound grows, or is lowered by a release that the server of the bound's epoch obeys.
use Rattle.krl_failover.proofs.Machine.Names.{◌≡◌, ℕ, ◌≤◌, ◌<◌, sym, ◌∙◌, ⊎_elim, arith, cases_lt, In, RangePart, KeyPart, RangeAtMost, KeyAtMost, Recovering, Push, Release, Report, Shared, Link, IsLive, IsRow, IsSlot, IsRebuilt, SlotLowered, off_slot}
use Rattle.krl_modes.specs.declared.part.RangePart.TheVariants as range
use Rattle.krl_modes.specs.declared.part.KeyPart.TheVariants as key
use Rattle.krl_machine.proofs.Modes.{rank-off_slot}
use Rattle.krl_machine.proofs.Basics.{Inv}
use Rattle.krl_machine.proofs.Belief.{live_registered, off_ok}
use Rattle.krl_failover.specs.Fenced.{Kept, IsHere}
use Rattle.krl_machine.proofs.RowChanges.{Below, blank_below, rebuilt_below, cut_within}
use Rattle.krl_failover.proofs.Machine.Basics.{Old, Top}

pub raised_top : (s : Shared) (l : Link) (range : ℕ → RangePart) (key : ℕ → KeyPart) (b : ℕ) (z : Kept) → ((q : ℕ) → Below (l.top_range q) (l.top_key q) (range q) (key q)) → Top s l b z → Top s (record l { top_range = range; top_key = key }) b z
raised_top s l range key b z up t = record {
  sent = t.sent;
  belief = t.belief;
  reports = λ lf x at e f q. let y = t.reports lf x at e f q in let u = up q in ((omega (arith, y, u), omega (arith, y, u)), omega (arith, y, u));
  covers = t.covers;
  new = t.new;
}

pub off_mono : (a g : RangePart) (k : KeyPart) → KeyAtMost k (off_slot a) → RangeAtMost a g → KeyAtMost k (off_slot g)
off_mono a g k h b = omega (arith, rank-off_slot a, rank-off_slot g, h, b)

-- the last server that served obeys a release of an incarnation that is here
module _ (s : Shared) (l : Link) (b : ℕ) (z : Kept) (r : Release) (ranges : ℕ → RangePart) (keys : ℕ → KeyPart) (i : Inv s l) (o : Old s l b z) (t : Top s l b z)
    (rec : s.phase ≡ Recovering) (lt : b < s.epoch) (here : IsHere l z) (at : In r l.releases) (inc : r.head.inc ≡ z.reg) (epoch : r.head.epoch ≡ b) (seen : r.head.seen ≡ z.last)
    (slots : (n : ℕ) → IsSlot s n → SlotLowered s r l ranges keys n) (row : IsRow s ranges keys) where
  reports_cut : (x : Report) → In x l.reports → x.inc ≡ l.reg → b < x.epoch → (q : ℕ) → Below (x.range q) (x.key q) (ranges q) (keys q)
  reports_cut x xat e f = cut_within s l r ranges keys row i.rows.top slots x.range x.key
      (λ q g far none h. off_mono (x.range q) g (x.key q) (t.sent.off x xat e f q far none) h)
      (t.reports here.1 x xat e f)
      (t.sent.told here.0 r at (inc ∙ here.0) epoch seen x xat e f)

  belief_cut : (q : ℕ) → Below (l.range q) (l.key q) (ranges q) (keys q)
  belief_cut q = ⊎_elim
      (λ (more : l.reg < l.inc). let c = blank q more in blank_below (l.range q) (l.key q) (ranges q) (keys q) c.0 c.1)
      (λ (less : l.inc ≤ l.reg). let e : l.inc ≡ l.reg = omega (arith, i.standing.reg) in
      cut_within s l r ranges keys row i.rows.top slots l.range l.key
      (λ q g far none h. off_ok s l i.known q g far none h) i.belief.bound (t.belief here.0 r at (inc ∙ here.0) epoch seen e) q)
      (cases_lt l.reg l.inc)
    where
      blank : (q : ℕ) → l.reg < l.inc → (l.range q ≡ range.N) × (l.key q ≡ key.N)
      blank q more = ⊎_elim (λ (a : l.epoch < 1). i.belief.early (omega arith) q) (λ (a : 1 ≤ l.epoch). absurd (omega (arith, i.standing.joined a))) (cases_lt l.epoch 1)

  new_cut : (q : ℕ) → Below (l.new_range q) (l.new_key q) (ranges q) (keys q)
  new_cut q = ⊎_elim
      (λ (a : (q : ℕ) → (l.new_range q ≡ range.N) × (l.new_key q ≡ key.N)). blank_below (l.new_range q) (l.new_key q) (ranges q) (keys q) (a q).0 (a q).1)
      (λ (a : (x : Report) × In x l.reports × (x.inc ≡ l.reg) × (x.epoch ≡ s.epoch) × IsRebuilt s x l.new_range l.new_key).
      rebuilt_below s a.0 l.new_range l.new_key ranges keys a.4 row (reports_cut a.0 a.1 a.2 (omega (arith, a.3))) q)
      t.new

  none_live : (p : Push) → In p l.pushes → IsLive l p → ⊥
  none_live p pat live =
      let same = live_registered s l p i.standing i.counting pat live in
      let low = t.sent.low p pat (live.inc ∙ same) in
      let h = (i.counting.heads r.head (i.counting.releases r at)).1 (inc ∙ here.0 ∙ sym same) in
      let at_b : l.epoch ≡ b = omega (arith, h.0, epoch, low, live.epoch) in
      let u = o.session.pushes here.0 p pat (live.inc ∙ same) (live.epoch ∙ at_b) in
      let v = h.1 (epoch ∙ sym at_b) in
      omega (arith, u, v, seen, live.number)

  pub cut_inv : Inv s (record l { top_range = ranges; top_key = keys })
  cut_inv = record {
    standing = i.standing;
    counting = i.counting;
    belief = record { down = i.belief.down; early = i.belief.early; bound = belief_cut };
    live_pushes = λ p pat live. absurd (none_live p pat live);
    released = i.released;
    known = i.known;
    writing = i.writing;
    recovery = record {
      reports = λ g m x xat e f. reports_cut x xat e (omega (arith, f));
      covers = i.recovery.covers;
      low = λ g. new_cut;
      high = i.recovery.high;
    };
    rows = record { top = row; new = i.rows.new };
  }

  pub cut_top : (e : ℕ) (y : Kept) → b ≤ e → Top s l e y → Top s (record l { top_range = ranges; top_key = keys }) e y
  cut_top e y le u = record {
    sent = u.sent;
    belief = u.belief;
    reports = λ lf x xat g h. reports_cut x xat g (omega (arith, h));
    covers = u.covers;
    new = u.new;
  }
