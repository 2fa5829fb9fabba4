-- The group Standing lasts.
use Rattle.krl_machine.proofs.Names.{◌≡◌, suc, ◌≤◌, ◌<◌, false, inl, inr, refl, sym, ◌∙◌, ⊎_elim, true≢false, arith, cases_lt, each_more, Shared, Link, LinkStep, starts, crashes, leaves, joins}
use Rattle.krl_machine.proofs.Names.{hellos_again, reports_again, registers, notifies, sees_off, takes_report}
use Rattle.krl_machine.proofs.Basics.{Standing}

pub standing_kept : (s : Shared) (l l' : Link) → LinkStep s l l' → Standing s l → Standing s l'
standing_kept s l l' (starts down) i = record {
  server = i.server;
  reg = let a : l.reg ≤ l.inc = i.reg in omega arith;
  counts = λ u. omega arith;
  epoch = omega arith;
  joined = λ h. absurd (omega arith);
  stays = λ a e. absurd (omega (arith, i.reg));
  hellos = each_more (λ h. h ≤ suc l.inc) _ _ (omega arith) (λ h m. omega (arith, i.hellos h m));
  byes = λ b m. let le : b ≤ l.inc = (i.byes b m).0 in (omega arith, λ e. absurd (omega arith));
  notices = i.notices;
  reports = λ r m. let le : r.inc ≤ l.inc = (i.reports r m).0 in (omega arith, λ e. absurd (omega arith), (i.reports r m).2);
  present = λ h u e. absurd (omega (arith, i.reg));
  serving = i.serving;
}
standing_kept s l l' crashes i = record {
  server = i.server;
  reg = i.reg;
  counts = λ u. absurd (cc);
  epoch = i.epoch;
  joined = i.joined;
  stays = λ a e. refl;
  hellos = i.hellos;
  byes = λ b m. ((i.byes b m).0, λ e. refl);
  notices = i.notices;
  reports = i.reports;
  present = λ h u e. absurd (cc);
  serving = i.serving;
}
standing_kept s l l' (leaves up) i = record {
  server = i.server;
  reg = i.reg;
  counts = λ u. absurd (cc);
  epoch = i.epoch;
  joined = i.joined;
  stays = λ a e. refl;
  hellos = i.hellos;
  byes = each_more (λ b. (b ≤ l.inc) × (b ≡ l.inc → false ≡ false)) _ _ (omega arith, λ e. refl) (λ b m. ((i.byes b m).0, λ e. refl));
  notices = i.notices;
  reports = i.reports;
  present = λ h u e. absurd (cc);
  serving = i.serving;
}
standing_kept s l l' (joins n at up same later) i =
    let le : n.inc ≤ l.reg = (i.notices n at).0 in
    let lt : n.epoch ≤ s.epoch = (i.notices n at).1 in
    record {
      server = i.server;
      reg = i.reg;
      counts = i.counts;
      epoch = lt;
      joined = λ h. omega (arith, i.reg);
      stays = i.stays;
      hellos = i.hellos;
      byes = i.byes;
      notices = i.notices;
      reports = each_more (λ r. (r.inc ≤ l.inc) × (r.inc ≡ l.inc → r.epoch ≤ n.epoch) × (r.epoch ≤ s.epoch)) _ _ (omega arith, (λ e. omega arith), lt)
          (λ r m. let low = (i.reports r m).1 in ((i.reports r m).0, (λ e. omega (arith, low e)), (i.reports r m).2));
      present = λ h u e. ⊎_elim (λ a. inl (omega (arith, a))) (λ b. inl (b.1 n at (omega (arith, e)))) (i.present h u e);
      serving = i.serving;
    }
standing_kept s l l' (hellos_again up) i = record {
  server = i.server;
  reg = i.reg;
  counts = i.counts;
  epoch = i.epoch;
  joined = i.joined;
  stays = i.stays;
  hellos = each_more (λ h. h ≤ l.inc) _ _ (omega arith) i.hellos;
  byes = i.byes;
  notices = i.notices;
  reports = i.reports;
  present = i.present;
  serving = i.serving;
}
standing_kept s l l' (reports_again up old) i = record {
  server = i.server;
  reg = i.reg;
  counts = i.counts;
  epoch = i.epoch;
  joined = i.joined;
  stays = i.stays;
  hellos = i.hellos;
  byes = i.byes;
  notices = i.notices;
  reports = each_more (λ r. (r.inc ≤ l.inc) × (r.inc ≡ l.inc → r.epoch ≤ l.epoch) × (r.epoch ≤ s.epoch)) _ _ (omega arith, (λ e. omega arith), i.epoch) i.reports;
  present = i.present;
  serving = i.serving;
}
standing_kept s l l' (registers h at on newer) i =
    let le : h ≤ l.inc = i.hellos h at in
    record {
      server = i.server;
      reg = le;
      counts = i.counts;
      epoch = i.epoch;
      joined = λ b. absurd (omega (arith, i.joined b));
      stays = λ a e. absurd (cc);
      hellos = i.hellos;
      byes = i.byes;
      notices = each_more (λ n. (n.inc ≤ h) × (n.epoch ≤ s.epoch)) _ _ (omega arith, omega arith) (λ n m. (omega (arith, (i.notices n m).0), (i.notices n m).1));
      reports = i.reports;
      present = λ a u e. inr (fresh e, each_more (λ n. n.inc ≡ h → n.epoch ≡ s.epoch) _ _ (λ e. refl) (λ n m e. absurd (omega (arith, (i.notices n m).0))));
      serving = λ x. refl;
    }
  where
    fresh : l.inc ≡ h → l.epoch ≡ 0
    fresh e = ⊎_elim (λ (a : l.epoch < 1). omega arith) (λ (b : 1 ≤ l.epoch). absurd (omega (arith, i.joined b))) (cases_lt l.epoch 1)
standing_kept s l l' (notifies on) i = record {
  server = i.server;
  reg = i.reg;
  counts = i.counts;
  epoch = i.epoch;
  joined = i.joined;
  stays = i.stays;
  hellos = i.hellos;
  byes = i.byes;
  notices = each_more (λ n. (n.inc ≤ l.reg) × (n.epoch ≤ s.epoch)) _ _ (omega arith, omega arith) i.notices;
  reports = i.reports;
  present = λ a u e. ⊎_elim (λ x. inl x) (λ x. inr (x.0, each_more (λ n. n.inc ≡ l.reg → n.epoch ≡ s.epoch) _ _ (λ e. refl) x.1)) (i.present a u e);
  serving = i.serving;
}
standing_kept s l l' (sees_off b at on same) i =
    let gone = (i.byes b at).1 in
    record {
      server = i.server;
      reg = i.reg;
      counts = i.counts;
      epoch = i.epoch;
      joined = i.joined;
      stays = λ a e. gone (same ∙ sym e);
      hellos = i.hellos;
      byes = i.byes;
      notices = i.notices;
      reports = i.reports;
      present = λ a u e. absurd (true≢false (sym u ∙ gone (same ∙ sym e)));
      serving = λ x. refl;
    }
standing_kept s l l' (takes_report r range key at on missing same now rebuilt) i =
    let low = (i.reports r at).1 in
    record {
      server = i.server;
      reg = i.reg;
      counts = i.counts;
      epoch = i.epoch;
      joined = i.joined;
      stays = i.stays;
      hellos = i.hellos;
      byes = i.byes;
      notices = i.notices;
      reports = i.reports;
      present = λ a u e. inl (omega (arith, i.epoch, low (omega (arith, e))));
      serving = λ x. refl;
    }
standing_kept s l l' _ i = i
