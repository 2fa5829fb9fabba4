-- What the agent does keeps a world sound, and so does its end.
use Rattle.std.proofs.Common.{◌≡◌, ◌<◌, ◌≤◌, ◌+◌, ℕ, suc, ◌⊎◌, inl, inr, Bool, true, false, refl, sym, subst, ⊎_elim, ◌∙◌, true≢false, eqb, arith}
use Rattle.std.proofs.lemmas.Bool.{cond_both, cond-false}
use Rattle.krl_cached_table.specs.Steps.{put}
use Rattle.krl_cached_table.proofs.Sound.{put_at}
use Rattle.krl_cached_table.proofs.Transactions.{put_true, put_keeps}
use Rattle.krl_cached_table.proofs.Loads.{locked}
use Rattle.krl_locked_table.specs.Worlds.{Setting, Load, World}
use Rattle.krl_locked_table.specs.Steps.{IsExclusive, HasLock, without_agent}
use Rattle.krl_locked_table.proofs.Sound.{HasNotEnded, SessionFacts, IsRead, IsGuarded, IsPast, Sound, excluded}
use Rattle.krl_locked_table.proofs.Frames.{Frame, goes_same, all_framed}

put_false : (f : ℕ → Bool) (n m : ℕ) → put f n false m ≡ true → f m ≡ true
put_false f n m = cond_both (eqb m n) false (f m) (λ b. b ≡ true → f m ≡ true) (λ e t. absurd (true≢false (sym t))) (λ e t. t)

put_both : (f h : ℕ → Bool) (n m : ℕ) → (f m ≡ true → h m ≡ true) → put f n false m ≡ true → put h n false m ≡ true
put_both f h n m step = cond_both (eqb m n) false (f m) (λ b. b ≡ true → put h n false m ≡ true)
    (λ e t. absurd (true≢false (sym t))) (λ e t. cond-false (eqb m n) false (h m) e ∙ step t)

module _ (g : Setting) (w : World) (lives : Bool) (since : ℕ) (drew : Bool) (last mark : ℕ) (answers : Bool) (locks gives_up recalled : ℕ → Bool) where
  abbrev acted : World
  acted =
      record w {
        is_alive = lives;
        alive_since = since;
        has_drawn = drew;
        nonce = last;
        mark = mark;
        is_open = answers;
        locks = locks;
        gives_up = gives_up;
        recalled = recalled;
      }

  pub record IsAllowed : Type 0 where
    pub alive : lives ≡ true → ((w.is_alive ≡ true) × (since ≡ w.alive_since)) ⊎ (w.now ≤ since)
    pub drawn : drew ≡ true → (w.has_drawn ≡ true) ⊎ (w.nonce < last)
    pub nonce : w.nonce ≤ last
    pub opened : answers ≡ true → (w.is_open ≡ true) ⊎ ((w.is_alive ≡ true) × (w.alive_since + g.patience ≤ w.now))
    pub locked : (l : Load) (p : ℕ) → IsPast w l → IsRead g w p → w.locks p ≡ true → w.recalled p ≡ false → IsGuarded g acted l p
    pub exclusive : (t p : ℕ) → locks p ≡ true → HasLock (w.transactions t) p → ⊥
    pub session : SessionFacts acted

  acting : IsAllowed → Frame g w acted
  acting a = record {
    home = λ l h. h;
    tenure = λ l p h t. t;
    now = omega arith;
    nonce = a.nonce;
    alive = a.alive;
    drawn = a.drawn;
    opened = a.opened;
    transactions = λ t. goes_same g w (w.transactions t);
    locked = a.locked;
    rows = λ l key k. inl refl;
  }

  act_kept : IsAllowed → Sound g w → Sound g acted
  act_kept a s = record {
    compatible = s.compatible;
    session = a.session;
    proper = s.proper;
    exclusive = a.exclusive;
    recovered = s.recovered;
    loads = all_framed g w acted (acting a) s;
  }

module _ (g : Setting) (w : World) (s : Sound g w) where
  pub alive_kept : w.is_up ≡ true → Sound g (record w { is_alive = true; alive_since = w.now })
  alive_kept up = act_kept g w true w.now w.has_drawn w.nonce w.mark w.is_open w.locks w.gives_up w.recalled (record {
    alive = λ a. inr (omega arith);
    drawn = λ d. inl d;
    nonce = omega arith;
    opened = λ o. inl o;
    locked = λ l p past read a b. inl (a, b);
    exclusive = s.exclusive;
    session = record { up = λ a. up; locked = λ p a. refl; drawn = λ d. refl; opened = s.session.opened; recalled = s.session.recalled; mark = s.session.mark };
  }) s

  pub drawn_kept : w.is_alive ≡ true → Sound g (record w { has_drawn = true; nonce = suc w.nonce })
  drawn_kept alive = act_kept g w w.is_alive w.alive_since true (suc w.nonce) w.mark w.is_open w.locks w.gives_up w.recalled (record {
    alive = λ a. inl (a, refl);
    drawn = λ d. inr (omega arith);
    nonce = omega arith;
    opened = λ o. inl o;
    locked = λ l p past read a b. inl (a, b);
    exclusive = s.exclusive;
    session = record {
      up = s.session.up;
      locked = s.session.locked;
      drawn = λ d. alive;
      opened = λ o. refl;
      recalled = s.session.recalled;
      mark = let old : w.mark ≤ w.nonce = s.session.mark in omega arith;
    };
  }) s

  pub written_kept : Sound g (record w { mark = w.nonce })
  written_kept = act_kept g w w.is_alive w.alive_since w.has_drawn w.nonce w.nonce w.is_open w.locks w.gives_up w.recalled (record {
    alive = λ a. inl (a, refl);
    drawn = λ d. inl d;
    nonce = omega arith;
    opened = λ o. inl o;
    locked = λ l p past read a b. inl (a, b);
    exclusive = s.exclusive;
    session = record {
      up = s.session.up;
      locked = s.session.locked;
      drawn = s.session.drawn;
      opened = s.session.opened;
      recalled = s.session.recalled;
      mark = omega arith;
    };
  }) s

  pub opened_kept : w.has_drawn ≡ true → w.alive_since + g.patience ≤ w.now → Sound g (record w { is_open = true })
  opened_kept drawn late = act_kept g w w.is_alive w.alive_since w.has_drawn w.nonce w.mark true w.locks w.gives_up w.recalled (record {
    alive = λ a. inl (a, refl);
    drawn = λ d. inl d;
    nonce = omega arith;
    opened = λ o. inr (s.session.drawn drawn, late);
    locked = λ l p past read a b. inl (a, b);
    exclusive = s.exclusive;
    session = record {
      up = s.session.up;
      locked = s.session.locked;
      drawn = s.session.drawn;
      opened = λ o. drawn;
      recalled = s.session.recalled;
      mark = s.session.mark;
    };
  }) s

  -- The locks of places change
  module _ (locks gives_up recalled : ℕ → Bool) where
    abbrev relocked : World
    relocked = record w { locks = locks; gives_up = gives_up; recalled = recalled }

    relocked_kept : ((p : ℕ) → IsRead g w p → w.locks p ≡ true → w.recalled p ≡ false → (locks p ≡ true) × (recalled p ≡ false)) → ((p : ℕ) → locks p ≡ true → w.is_alive ≡ true) → ((t p : ℕ) → locks p ≡ true → HasLock (w.transactions t) p → ⊥) → ((p : ℕ) → recalled p ≡ true → gives_up p ≡ true) → Sound g relocked
    relocked_kept still alive exclusive announced = act_kept g w w.is_alive w.alive_since w.has_drawn w.nonce w.mark w.is_open locks gives_up recalled (record {
      alive = λ a. inl (a, refl);
      drawn = λ d. inl d;
      nonce = omega arith;
      opened = λ o. inl o;
      locked = λ l p past read a b. inl (still p read a b);
      exclusive = exclusive;
      session = record {
        up = s.session.up;
        locked = alive;
        drawn = s.session.drawn;
        opened = s.session.opened;
        recalled = announced;
        mark = s.session.mark;
      };
    }) s

  pub taken_kept : (p : ℕ) → w.is_alive ≡ true → ((t : ℕ) → HasLock (w.transactions t) p → ⊥) → Sound g (record w { locks = put w.locks p true })
  taken_kept p alive nobody = relocked_kept (put w.locks p true) w.gives_up w.recalled
      (λ q read a b. (put_keeps w.locks p q a, b)) (λ q a. alive)
      (λ t q a h. ⊎_elim (λ (e : q ≡ p). nobody t (subst (HasLock (w.transactions t)) e h)) (λ (before : w.locks q ≡ true). s.exclusive t q before h) (put_true w.locks p q a))
      s.session.recalled

  pub announced_kept : (p : ℕ) → Sound g (record w { gives_up = put w.gives_up p true })
  announced_kept p = relocked_kept w.locks (put w.gives_up p true) w.recalled (λ q read a b. (a, b)) s.session.locked s.exclusive (λ q a. put_keeps w.gives_up p q (s.session.recalled q a))

  pub recalled_kept : (p : ℕ) → w.gives_up p ≡ true → IsExclusive g w p → Sound g (record w { recalled = put w.recalled p true })
  recalled_kept p announced exclusive = relocked_kept w.locks w.gives_up (put w.recalled p true)
      (λ q read a b. (a, put_at (λ r. r ≡ false) w.recalled p true q (λ e. absurd (excluded g w q s.compatible read (subst (IsExclusive g w) (sym e) exclusive))) b))
      s.session.locked s.exclusive
      (λ q a. ⊎_elim (λ (e : q ≡ p). subst (λ r. w.gives_up r ≡ true) (sym e) announced) (λ (before : w.recalled q ≡ true). s.session.recalled q before) (put_true w.recalled p q a))

  pub given_up_kept : (p : ℕ) → w.recalled p ≡ true → Sound g (record w { locks = put w.locks p false; gives_up = put w.gives_up p false; recalled = put w.recalled p false })
  given_up_kept p recalled = relocked_kept (put w.locks p false) (put w.gives_up p false) (put w.recalled p false)
      (λ q read a b. (
        put_at (λ r. r ≡ true) w.locks p false q (λ e. absurd (true≢false (sym (subst (λ r. w.recalled r ≡ true) (sym e) recalled) ∙ b))) a,
        put_at (λ r. r ≡ false) w.recalled p false q (λ e. refl) b,
      ))
      (λ q a. s.session.locked q (put_false w.locks p q a)) (λ t q a h. s.exclusive t q (put_false w.locks p q a) h)
      (λ q. put_both w.recalled w.gives_up p q (s.session.recalled q))

  pub lock_kept : (p : ℕ) → Sound g (record w { gives_up = put w.gives_up p false; recalled = put w.recalled p false })
  lock_kept p = relocked_kept w.locks (put w.gives_up p false) (put w.recalled p false)
      (λ q read a b. (a, put_at (λ r. r ≡ false) w.recalled p false q (λ e. refl) b)) s.session.locked s.exclusive
      (λ q. put_both w.recalled w.gives_up p q (s.session.recalled q))

  -- Its session ends: no transaction that has not ended shares a lock that it had

  pub nobody_shares : (t p : ℕ) → w.locks p ≡ true → HasNotEnded (w.transactions t) → (w.transactions t).shares p ≡ true → ⊥
  nobody_shares t p locks n shares =
      s.exclusive t p locks (locked (w.transactions t).stage (s.recovered (s.session.up (s.session.locked p locks)) t) n, shares)

  lost_now : (l : Load) (p : ℕ) → IsPast w l → w.locks p ≡ true → IsGuarded g (without_agent w) l p
  lost_now l p past locks = inr (
    w.now,
    record {
      past = omega arith;
      unanswered = record { answered = past.answered; asked = λ found. inl past.asked; drawn = λ d. absurd (true≢false (sym d)) };
      alive = λ a. absurd (true≢false (sym a));
      opened = λ o. absurd (true≢false (sym o));
      waits = λ t since n e. absurd (nobody_shares t p locks n ((s.proper t).waited p since e));
      settled = λ t n e. absurd (nobody_shares t p locks n ((s.proper t).settled p e));
    },
  )

  pub ended_kept : Sound g (without_agent w)
  ended_kept = act_kept g w false w.alive_since false w.nonce w.mark false (λ p. false) (λ p. false) (λ p. false) (record {
    alive = λ a. absurd (true≢false (sym a));
    drawn = λ d. absurd (true≢false (sym d));
    nonce = omega arith;
    opened = λ o. absurd (true≢false (sym o));
    locked = λ l p past read a b. lost_now l p past a;
    exclusive = λ t p a. absurd (true≢false (sym a));
    session = record {
      up = λ a. absurd (true≢false (sym a));
      locked = λ p a. absurd (true≢false (sym a));
      drawn = λ d. absurd (true≢false (sym d));
      opened = λ o. absurd (true≢false (sym o));
      recalled = λ p a. absurd (true≢false (sym a));
      mark = s.session.mark;
    };
  }) s
