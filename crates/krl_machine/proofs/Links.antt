-- The groups Gathered and Rows last, and so all of Inv.
use Rattle.krl_machine.proofs.Names.{◌≡◌, ℕ, ◌≤◌, ◌<◌, refl, sym, ◌∙◌, ⊎_elim, true≢false, arith, cases_lt, RangePart, KeyPart, In, each_more, RangeAtMost, KeyAtMost, Phase}
use Rattle.krl_machine.proofs.Names.{Recovering, Serving, Notice, Push, Shared, Link, LinkStep, IsRow, no_range, no_key, starts, crashes, leaves, joins, accepts}
use Rattle.krl_machine.proofs.Names.{lowers, reports_again, registers, sees_off, takes_report, takes_release}
use Rattle.krl_machine.proofs.Basics.{IsBlank, Recovery, Rows, Inv}
use Rattle.krl_machine.proofs.Points.{lowered_below, epoch_cases}
use Rattle.krl_machine.proofs.RowChanges.{blank_below, rebuilt_below, rebuilt_above}
use Rattle.krl_machine.proofs.Standing.{standing_kept}
use Rattle.krl_machine.proofs.Counting.{counting_kept}
use Rattle.krl_machine.proofs.Belief.{stranger_blank, live_registered, off_ok, belief_kept, released_kept}
use Rattle.krl_machine.proofs.Kept.{pushed_kept, known_kept, writing_kept}

pub not_both : {p : Phase} → p ≡ Serving → p ≡ Recovering → ⊥
not_both a b = absurd (cc)

-- no push of a recovery's epoch is live
none_recovering : (s : Shared) (l : Link) (p : Push) → Inv s l → s.phase ≡ Recovering → In p l.pushes → p.epoch ≡ s.epoch → ⊥
none_recovering s l p i g at e = (i.counting.pushes p at).phase e g

blank_high : (l : Link) (range : ℕ → RangePart) (key : ℕ → KeyPart) → IsBlank l → (q : ℕ) → RangeAtMost (l.range q) (range q) × KeyAtMost (l.key q) (key q)
blank_high l range key b q = blank_below (l.range q) (l.key q) (range q) (key q) (b q).0 (b q).1

pub recovery_kept : (s : Shared) (l l' : Link) → LinkStep s l l' → Inv s l → Recovery s l'
recovery_kept s l l' (starts down) i = record {
  reports = i.recovery.reports;
  covers = λ g m r at e f h q. ((omega arith, omega arith), omega arith);
  low = i.recovery.low;
  high = λ g m q. ((omega arith, omega arith), omega arith);
}
recovery_kept s l l' crashes i = record {
  reports = i.recovery.reports;
  covers = λ g m r at e f h q. ((omega arith, omega arith), omega arith);
  low = i.recovery.low;
  high = λ g m q. ((omega arith, omega arith), omega arith);
}
recovery_kept s l l' (leaves up) i = record {
  reports = i.recovery.reports;
  covers = λ g m r at e f h q. ((omega arith, omega arith), omega arith);
  low = i.recovery.low;
  high = λ g m q. ((omega arith, omega arith), omega arith);
}
recovery_kept s l l' (joins n an up same later) i = record {
  reports = λ g m. each_more (λ r. r.inc ≡ l.reg → r.epoch ≡ s.epoch → (q : ℕ) → RangeAtMost (r.range q) (l.top_range q) × KeyAtMost (r.key q) (l.top_key q)) _ l.reports
      (λ a b. i.belief.bound) (i.recovery.reports g m);
  covers = λ g m. each_more (λ r. r.inc ≡ l.reg → r.epoch ≡ s.epoch → r.inc ≡ l.inc → (q : ℕ) → RangeAtMost (l.range q) (r.range q) × KeyAtMost (l.key q) (r.key q)) _ l.reports
      (λ a b c q. ((omega arith, omega arith), omega arith)) (i.recovery.covers g m);
  low = i.recovery.low;
  high = i.recovery.high;
}
recovery_kept s l l' (reports_again up old) i = record {
  reports = λ g m. each_more (λ r. r.inc ≡ l.reg → r.epoch ≡ s.epoch → (q : ℕ) → RangeAtMost (r.range q) (l.top_range q) × KeyAtMost (r.key q) (l.top_key q)) _ l.reports
      (λ a b. i.belief.bound) (i.recovery.reports g m);
  covers = λ g m. each_more (λ r. r.inc ≡ l.reg → r.epoch ≡ s.epoch → r.inc ≡ l.inc → (q : ℕ) → RangeAtMost (l.range q) (r.range q) × KeyAtMost (l.key q) (r.key q)) _ l.reports
      (λ a b c q. ((omega arith, omega arith), omega arith)) (i.recovery.covers g m);
  low = i.recovery.low;
  high = i.recovery.high;
}
recovery_kept s l l' (accepts p out at live after) i = record {
  reports = i.recovery.reports;
  covers = λ g m r rat a b c. absurd (
      let low = (i.standing.reports r rat).1 c in let top = i.standing.epoch in let e : l.epoch ≡ s.epoch = omega (arith, low, b) in
      none_recovering s l p i g at (live.epoch ∙ e));
  low = i.recovery.low;
  high = λ g m. absurd (⊎_elim (λ (e : l.epoch ≡ s.epoch). none_recovering s l p i g at (live.epoch ∙ e))
      (λ (e : (l.epoch ≡ 0) × ((n : Notice) → In n l.notices → n.inc ≡ l.reg → n.epoch ≡ s.epoch)). omega (arith, e.0, live.epoch, (i.counting.pushes p at).low))
      (i.standing.present m live.up (live_registered s l p i.standing i.counting at live)));
}
recovery_kept s l l' (lowers r range key up old head mode free points) i = record {
  reports = i.recovery.reports;
  covers = λ g m r' at a b c q. let x = i.recovery.covers g m r' at a b c q in let d = lowered_below r.lo r.last r.range r.key (l.range q) (l.key q) (range q) (key q) q (points q) in
      ((omega (arith, x, d), omega (arith, x, d)), omega (arith, x, d));
  low = i.recovery.low;
  high = λ g m q. let x = i.recovery.high g m q in let d = lowered_below r.lo r.last r.range r.key (l.range q) (l.key q) (range q) (key q) q (points q) in
      ((omega (arith, x, d), omega (arith, x, d)), omega (arith, x, d));
}
recovery_kept s l l' (registers h at on newer) i =
    let le : h ≤ l.inc = i.standing.hellos h at in
    record {
      reports = λ g m. absurd (true≢false (sym m));
      covers = λ g m. absurd (true≢false (sym m));
      low = λ g q. ((omega arith, omega arith), omega arith);
      high = λ g m. blank_high l no_range no_key (stranger_blank s l i.standing i.belief (λ e. omega (arith, e)));
    }
recovery_kept s l l' (sees_off b at on same) i = record {
  reports = λ g m. absurd (true≢false (sym m));
  covers = λ g m. absurd (true≢false (sym m));
  low = λ g q. ((omega arith, omega arith), omega arith);
  high = λ g m. blank_high l no_range no_key (epoch_cases l.epoch (λ e. i.belief.early e) (λ h. i.belief.down ((i.standing.byes b at).1 (same ∙ sym (i.standing.joined h)))));
}
recovery_kept s l l' (takes_report r range key at on missing same now built) i = record {
  reports = λ g m. absurd (true≢false (sym m));
  covers = λ g m. absurd (true≢false (sym m));
  low = λ g. rebuilt_below s r range key l.top_range l.top_key built i.rows.top (i.recovery.reports on missing r at same now);
  high = λ g m. ⊎_elim
      (λ (more : l.reg < l.inc). blank_high l range key (stranger_blank s l i.standing i.belief (λ e. omega (arith, e))))
      (λ (less : l.inc ≤ l.reg). rebuilt_above s r range key l.top_range l.top_key built i.rows.top l.range l.key (λ q g far none h. off_ok s l i.known q g far none h) i.belief.bound
      (i.recovery.covers on missing r at same now (omega (arith, same, i.standing.reg))))
      (cases_lt l.reg l.inc);
}
recovery_kept s l l' (takes_release r range key rat ok acked slots row) i = record {
  reports = λ g. absurd (not_both ok.serving g);
  covers = i.recovery.covers;
  low = λ g. absurd (not_both ok.serving g);
  high = i.recovery.high;
}
recovery_kept s l l' _ i = i.recovery

pub row_none : (s : Shared) → IsRow s no_range no_key
row_none s = record { same = λ q a b. refl; past = λ q a. (refl, refl); mode = λ n a. (omega arith, omega arith); off = λ q a b. refl }

rows_kept : (s : Shared) (l l' : Link) → LinkStep s l l' → Inv s l → Rows s l'
rows_kept s l l' (registers h at on newer) i = record { top = row_none s; new = λ g. row_none s }
rows_kept s l l' (sees_off b at on same) i = record { top = row_none s; new = λ g. row_none s }
rows_kept s l l' (takes_report r range key at on missing same now built) i = record { top = i.rows.top; new = λ g. built.row }
rows_kept s l l' (takes_release r range key rat ok acked slots row) i = record { top = row; new = i.rows.new }
rows_kept s l l' _ i = i.rows

-- each step of a link keeps all
pub link_kept : (s : Shared) (l l' : Link) → LinkStep s l l' → Inv s l → Inv s l'
link_kept s l l' step i = record {
  standing = standing_kept s l l' step i.standing;
  counting = counting_kept s l l' step i.standing i.counting;
  belief = belief_kept s l l' step i;
  live_pushes = pushed_kept s l l' step i;
  released = released_kept s l l' step i;
  known = known_kept s l l' step i;
  writing = writing_kept s l l' step i;
  recovery = recovery_kept s l l' step i;
  rows = rows_kept s l l' step i;
}
