-- What a step leaves of the facts on loads.
use Rattle.std.proofs.Common.{◌≡◌, ◌<◌, ◌≤◌, ◌+◌, ℕ, ◌⊎◌, inl, inr, true, false, Some, ◌∙◌, ⊎_elim, arith}
use Rattle.krl_cached_table.specs.Worlds.{row_after}
use Rattle.krl_locked_table.specs.Worlds.{Setting, IsPlaceOf, Transaction, Load, World}
use Rattle.krl_locked_table.specs.Steps.{HasLock}
use Rattle.krl_locked_table.specs.Promises.{HasTenure}
use Rattle.krl_locked_table.proofs.Sound.{HasNotEnded, IsRead, IsUnansweredAfter, IsLost, IsGuarded, IsOver, IsHome, IsGuardedWhileHeld, RowFacts, IsPast, LoadFacts, Sound}

-- A transaction goes on: it waits since now, and is settled by an open agent, or since it has waited
pub record Goes (g : Setting) (w : World) (x y : Transaction) : Type 0 where
  pub waits : (p since : ℕ) → HasNotEnded y → y.waits p ≡ Some since → (HasNotEnded x × (x.waits p ≡ Some since)) ⊎ (since ≡ w.now)
  pub settled : (p : ℕ) → HasNotEnded y → y.settled p ≡ true → (HasNotEnded x × (x.settled p ≡ true)) ⊎ ((w.is_open ≡ true) ⊎ ((since : ℕ) × HasNotEnded x × (x.waits p ≡ Some since) × (since + g.patience ≤ w.now)))
  pub lock : (p : ℕ) → HasLock y p → HasLock x p ⊎ (w.locks p ≡ false)

pub goes_same : (g : Setting) (w : World) (x : Transaction) → Goes g w x x
goes_same g w x = record { waits = λ p since n e. inl (n, e); settled = λ p n e. inl (n, e); lock = λ p h. inl h }

-- from w to v no load loses its facts
pub record Frame (g : Setting) (w v : World) : Type 0 where
  pub home : (l : Load) → IsHome g w l → IsHome g v l
  pub tenure : (l : Load) (p : ℕ) → IsHome g w l → HasTenure v l p → HasTenure w l p
  pub now : w.now ≤ v.now
  pub nonce : w.nonce ≤ v.nonce
  pub alive : v.is_alive ≡ true → ((w.is_alive ≡ true) × (v.alive_since ≡ w.alive_since)) ⊎ (w.now ≤ v.alive_since)
  pub drawn : v.has_drawn ≡ true → (w.has_drawn ≡ true) ⊎ (w.nonce < v.nonce)
  pub opened : v.is_open ≡ true → (w.is_open ≡ true) ⊎ ((w.is_alive ≡ true) × (w.alive_since + g.patience ≤ w.now))
  pub transactions : (t : ℕ) → Goes g w (w.transactions t) (v.transactions t)
  pub locked : (l : Load) (p : ℕ) → IsPast w l → IsRead g w p → w.locks p ≡ true → w.recalled p ≡ false → IsGuarded g v l p
  pub rows : (l : Load) (key : ℕ) → ((p : ℕ) → IsPlaceOf g key p → IsGuarded g w l p) → (row_after w.changes key ≡ row_after v.changes key) ⊎ IsOver g w l

module _ (g : Setting) (w v : World) (f : Frame g w v) (l : Load) (before : IsPast w l) where
  unanswered_later : (end : ℕ) → IsUnansweredAfter w l end → IsUnansweredAfter v l end
  unanswered_later end h =
      let known : w.nonce ≤ v.nonce = f.nonce in
      let own : l.nonce ≤ w.nonce = before.nonce in
      record {
        answered = h.answered;
        asked = λ found. ⊎_elim (λ (a : l.asked ≤ end). inl a) (λ (b : l.nonce < w.nonce). inr (omega arith)) (h.asked found);
        drawn = λ drawn. ⊎_elim (λ (a : w.has_drawn ≡ true). let b : l.nonce < w.nonce = h.drawn a in omega arith) (λ (b : w.nonce < v.nonce). omega arith) (f.drawn drawn);
      }

  lost_later : (p end : ℕ) → IsLost g w l p end → IsLost g v l p end
  lost_later p end h =
      let past : end ≤ w.now = h.past in
      let later : w.now ≤ v.now = f.now in
      record {
        past = omega arith;
        unanswered = unanswered_later end h.unanswered;
        alive = λ alive. ⊎_elim
            (λ (a : (w.is_alive ≡ true) × (v.alive_since ≡ w.alive_since)). let b : end ≤ w.alive_since = h.alive a.0 in let same : v.alive_since ≡ w.alive_since = a.1 in omega arith)
            (λ (b : w.now ≤ v.alive_since). omega arith) (f.alive alive);
        opened = λ opened. ⊎_elim
            (λ (a : w.is_open ≡ true). let b : end + g.patience ≤ w.now = h.opened a in omega arith)
            (λ (a : (w.is_alive ≡ true) × (w.alive_since + g.patience ≤ w.now)). let b : end ≤ w.alive_since = h.alive a.0 in let c : w.alive_since + g.patience ≤ w.now = a.1 in omega arith)
            (f.opened opened);
        waits = λ t since n e. ⊎_elim
            (λ (a : HasNotEnded (w.transactions t) × ((w.transactions t).waits p ≡ Some since)). h.waits t since a.0 a.1)
            (λ (new : since ≡ w.now). omega arith) ((f.transactions t).waits p since n e);
        settled = λ t n e. ⊎_elim
            (λ (a : HasNotEnded (w.transactions t) × ((w.transactions t).settled p ≡ true)). let b : end + g.patience ≤ w.now = h.settled t a.0 a.1 in omega arith)
            (⊎_elim
            (λ (o : w.is_open ≡ true). let b : end + g.patience ≤ w.now = h.opened o in omega arith)
            (λ (a : (since : ℕ) × HasNotEnded (w.transactions t) × ((w.transactions t).waits p ≡ Some since) × (since + g.patience ≤ w.now)).
            let b : end ≤ a.0 = h.waits t a.0 a.1 a.2 in let c : a.0 + g.patience ≤ w.now = a.3 in omega arith))
            ((f.transactions t).settled p n e);
      }

  guarded_later : (p : ℕ) → IsRead g w p → IsGuarded g w l p → IsGuarded g v l p
  guarded_later p read (inl a) = f.locked l p before read a.0 a.1
  guarded_later p read (inr b) = inr (b.0, lost_later p b.0 b.1)

  over_later : IsOver g w l → IsOver g v l
  over_later h =
      let over : h.0 + g.patience ≤ w.now = h.1 in
      let later : w.now ≤ v.now = f.now in
      (h.0, omega arith, unanswered_later h.0 h.2)

  held_later : (p : ℕ) → IsGuardedWhileHeld g w l p → IsGuardedWhileHeld g v l p
  held_later p h = (
    f.home l h.0,
    λ t. let had : HasTenure w l p = f.tenure l p h.0 t in guarded_later p (l.client, h.0.reader, h.0.holds p had) (h.1 had),
  )

  row_later : (key : ℕ) → RowFacts g w l key → RowFacts g v l key
  row_later key h = record {
    guarded = λ p i. held_later p (h.guarded p i);
    row = λ t. let had : (p : ℕ) → IsPlaceOf g key p → HasTenure w l p = λ p i. f.tenure l p (h.guarded p i).0 (t p i) in
        ⊎_elim
        (λ (row : l.rows key ≡ row_after w.changes key). ⊎_elim
        (λ (same : row_after w.changes key ≡ row_after v.changes key). inl (row ∙ same)) (λ (over : IsOver g w l). inr (over_later over))
        (f.rows l key (λ p i. (h.guarded p i).1 (had p i))))
        (λ (over : IsOver g w l). inr (over_later over)) (h.row had);
  }

pub load_framed : (g : Setting) (w v : World) → Frame g w v → (l : Load) → LoadFacts g w l → LoadFacts g v l
load_framed g w v f l h =
    let now : w.now ≤ v.now = f.now in
    let nonce : w.nonce ≤ v.nonce = f.nonce in
    let own : l.nonce ≤ w.nonce = h.past.nonce in
    let answered : l.answered ≤ w.now = h.past.answered in
    let asked : l.asked ≤ w.now = h.past.asked in
    record {
      past = record { nonce = omega arith; answered = omega arith; asked = omega arith };
      home = ⊎_elim (λ (a : IsHome g w l). inl (f.home l a)) (λ (b : l.nonce < w.nonce). inr (omega arith)) h.home;
      found = λ found. f.home l (h.found found);
      locked = λ p locked. held_later g w v f l h.past p (h.locked p locked);
      rows = λ kept key listed. row_later g w v f l h.past key (h.rows kept key listed);
    }

-- of all loads
pub all_framed : (g : Setting) (w v : World) → Frame g w v → Sound g w → (n : ℕ) → LoadFacts g v (w.loads n)
all_framed g w v f s n = load_framed g w v f (w.loads n) (s.loads n)
