-- A step of a load keeps its facts.
use Rattle.std.proofs.Common.{◌≡◌, ◌∙◌, ◌≤◌, ◌<◌, ℕ, ◌⊎◌, inl, inr, Bool, true, false, refl, sym, subst, ⊎_elim, true≢false, arith}
use Rattle.std.proofs.lemmas.Bool.{false_from_ne_true}
use Rattle.krl_cached_table.specs.Worlds.{row_after}
use Rattle.krl_cached_table.proofs.Transactions.{put_true}
use Rattle.krl_locked_table.specs.Worlds.{Setting, Load, World, new_load}
use Rattle.krl_locked_table.specs.Steps.{LoadStep, begins, begins_elsewhere, finds_nonce, finds_locked, takes_rows, asks, finds_open, is_answered}
use Rattle.krl_locked_table.proofs.Sound.{IsUnansweredAfter, IsGuarded, IsOver, IsHome, IsGuardedWhileHeld, LoadFacts, Sound}

pub new_load_kept : (g : Setting) (w : World) (client : ℕ) (places : ℕ → Bool) (tenures : ℕ → ℕ) (nonce : ℕ) → nonce ≤ w.nonce → IsHome g w (new_load client places tenures nonce w.now) ⊎ (nonce < w.nonce) → LoadFacts g w (new_load client places tenures nonce w.now)
new_load_kept g w client places tenures nonce known home = record {
  past = record { nonce = known; answered = omega arith; asked = omega arith };
  home = home;
  found = λ found. absurd (true≢false (sym found));
  locked = λ p locked. absurd (true≢false (sym locked));
  rows = λ kept. absurd (true≢false (sym kept));
}

-- A question goes on
module _ (g : Setting) (w : World) (l : Load) (answered asked : ℕ) (found_open : Bool) (unanswered : (end : ℕ) → IsUnansweredAfter w l end → IsUnansweredAfter w (record l { answered = answered; asked = asked; found_open = found_open }) end) where
  abbrev later : Load
  later = record l { answered = answered; asked = asked; found_open = found_open }

  still_guarded : (p : ℕ) → IsGuarded g w l p → IsGuarded g w later p
  still_guarded p (inl a) = inl a
  still_guarded p (inr b) = inr (
    b.0,
    record {
      past = b.1.past;
      unanswered = unanswered b.0 b.1.unanswered;
      alive = b.1.alive;
      opened = b.1.opened;
      waits = b.1.waits;
      settled = b.1.settled;
    },
  )

  pub question_kept : answered ≤ w.now → asked ≤ w.now → LoadFacts g w l → LoadFacts g w later
  question_kept is_past began h = record {
    past = record { nonce = h.past.nonce; answered = is_past; asked = began };
    home = h.home;
    found = h.found;
    locked = λ p locked. ((h.locked p locked).0, λ t. still_guarded p ((h.locked p locked).1 t));
    rows = λ kept key listed. record {
      guarded = λ p i. let k : IsGuardedWhileHeld g w l p = (h.rows kept key listed).guarded p i in (k.0, λ t. still_guarded p (k.1 t));
      row = λ t. ⊎_elim (λ (row : l.rows key ≡ row_after w.changes key). inl row) (λ (over : IsOver g w l). inr (over.0, over.1, unanswered over.0 over.2)) ((h.rows kept key listed).row t);
    };
  }

pub load_kept : (g : Setting) (w : World) (l m : Load) → Sound g w → LoadStep g w l m → LoadFacts g w l → LoadFacts g w m
load_kept g w l m s (begins c places reader holds) h =
    new_load_kept g w c places (w.tenure c) w.mark s.session.mark (inl (record { reader = reader; past = λ p listed. omega arith; holds = λ p t. holds p t.0 }))
load_kept g w l m s (begins_elsewhere c nonce places tenures older) h = new_load_kept g w c places tenures nonce (omega arith) (inr older)
load_kept g w l m s (finds_nonce same) h = record {
  past = h.past;
  home = h.home;
  found = λ found. ⊎_elim (λ (a : IsHome g w l). a) (λ (b : l.nonce < w.nonce). absurd (omega arith)) h.home;
  locked = h.locked;
  rows = h.rows;
}
load_kept g w l m s (finds_locked p found locks kept) h = record {
  past = h.past;
  home = h.home;
  found = h.found;
  locked = λ q locked. ⊎_elim
      (λ (e : q ≡ p). subst (IsGuardedWhileHeld g w l) (sym e) (h.found found, λ t. inl (locks, false_from_ne_true (w.recalled p) (λ recalled. true≢false (sym (s.session.recalled p recalled) ∙ kept)))))
      (λ (a : l.locked q ≡ true). h.locked q a) (put_true l.locked p q locked);
  rows = h.rows;
}
load_kept g w l m s (takes_rows locked) h = record {
  past = h.past;
  home = h.home;
  found = h.found;
  locked = h.locked;
  rows = λ kept key listed. record { guarded = λ p i. h.locked p (locked p (listed p i)); row = λ t. inl refl };
}
load_kept g w l m s asks h =
    question_kept g w l l.answered w.now false (λ end u. record { answered = u.answered; asked = λ found. absurd (true≢false (sym found)); drawn = u.drawn }) h.past.answered (omega arith) h
load_kept g w l m s (finds_open opened) h =
    question_kept g w l l.answered l.asked true (λ end u. record { answered = u.answered; asked = λ found. inr (u.drawn (s.session.opened opened)); drawn = u.drawn }) h.past.answered h.past.asked h
load_kept g w l m s (is_answered found same) h =
    question_kept g w l l.asked l.asked l.found_open
    (λ end u. record {
      answered = ⊎_elim (λ (a : l.asked ≤ end). a) (λ (b : l.nonce < w.nonce). absurd (omega arith)) (u.asked found);
      asked = u.asked;
      drawn = u.drawn;
    }) h.past.asked h.past.asked h
