-- What a step leaves of the facts on loads.
use Rattle.std.proofs.Common.{◌≡◌, ◌<◌, ◌≤◌, ℕ, ◌⊎◌, inl, inr, true, false, refl, sym, ◌∙◌, ⊎_elim, true≢false, arith}
use Rattle.std.proofs.lemmas.Bool.{cases_lt}
use Rattle.krl_cached_table.specs.Worlds.{Setting, IsPlaceOf, row_after, Transaction, PlaceStage, Held, Counted, Unnoticed, Quiet, Load, World}
use Rattle.krl_cached_table.specs.Steps.{put, IsCompatible, IsExclusive}
use Rattle.krl_cached_table.specs.Promises.{HasTenure}
use Rattle.krl_cached_table.proofs.Sound.{put_all, HasNotEnded, HasFound, IsRead, IsTrusted, CountsAsKept, NobodyTook, IsUnnoticed, IsGuarded, IsHome, WhileHeld, PlaceFacts, RowFacts, IsAnswered, LoadFacts, Sound, excluded}

-- from w to v no load loses its facts
pub record Frame (g : Setting) (w v : World) : Type 0 where
  pub home : (l : Load) → IsHome g w l → IsHome g v l
  pub tenure : (l : Load) (p : ℕ) → IsHome g w l → HasTenure v l p → HasTenure w l p
  pub start : w.start ≤ v.start
  pub up : w.is_up ≡ true → v.is_up ≡ true
  pub active : (p : ℕ) → IsRead g w p → w.was_suspended ≡ false → v.was_suspended ≡ false
  pub counted : (p recalls : ℕ) → w.is_up ≡ true → CountsAsKept (w.counts p) recalls → CountsAsKept (v.counts p) recalls
  pub unnoticed : (p recalls : ℕ) → IsRead g w p → w.was_suspended ≡ false → w.is_up ≡ true → IsUnnoticed w p recalls → IsUnnoticed v p recalls
  pub guarded : (p : ℕ) → IsRead g w p → IsRead g w g.cluster_mark → w.was_suspended ≡ false → IsGuarded w p → IsGuarded v p
  pub rows : (key : ℕ) → ((p : ℕ) → IsPlaceOf g key p → IsGuarded w p) → row_after w.changes key ≡ row_after v.changes key

read_by : (g : Setting) (w : World) (l : Load) (p : ℕ) → IsHome g w l → HasTenure w l p → IsRead g w p
read_by g w l p h t = (l.client, h.reader, h.holds p t)

pub concluded : (g : Setting) (w : World) (l : Load) (p : ℕ) {A B : Type 0} → WhileHeld g w l p A → (A → B) → WhileHeld g w l p B
concluded g w l p h step = (h.0, λ t m. ((h.1 t m).0, step (h.1 t m).1))

while_held : (g : Setting) (w v : World) → Frame g w v → (l : Load) (p : ℕ) {A B : Type 0} → WhileHeld g w l p A → (IsRead g w p → IsRead g w g.cluster_mark → w.was_suspended ≡ false → A → B) → WhileHeld g v l p B
while_held g w v f l p h step = (
  f.home l h.0,
  λ t m. let place : HasTenure w l p = f.tenure l p h.0 t in
      let mark : HasTenure w l g.cluster_mark = f.tenure l g.cluster_mark h.0 m in
      let read : IsRead g w p = read_by g w l p h.0 place in
      let k = h.1 place mark in
      (f.active p read k.0, step read (read_by g w l g.cluster_mark h.0 mark) k.0 k.1),
)

framed : (g : Setting) (w v : World) → Frame g w v → (l : Load) → (l.found_open ≡ true → w.is_up ≡ true) → (p : ℕ) (s : PlaceStage) → PlaceFacts g w l p s → PlaceFacts g v l p s
framed g w v f l up p Held h = tt
framed g w v f l up p (Counted recalls) h = while_held g w v f l p h (λ read mark active c found. f.counted p recalls (up found) (c found))
framed g w v f l up p (Unnoticed recalls) h = while_held g w v f l p h (λ read mark active u found. f.unnoticed p recalls read active (up found) (u found))
framed g w v f l up p Quiet h = while_held g w v f l p h (λ read mark active k. f.guarded p read mark active k)

row_framed : (g : Setting) (w v : World) → Frame g w v → (l : Load) → (l.found_open ≡ true → w.is_up ≡ true) → (key : ℕ) → RowFacts g w l key → RowFacts g v l key
row_framed g w v f l up key h = record {
  quiet = λ p i. framed g w v f l up p Quiet (h.quiet p i);
  row = λ t. let before : (p : ℕ) → IsPlaceOf g key p → HasTenure w l p = λ p i. f.tenure l p (h.quiet p i).0 (t p i) in
      h.row before ∙ f.rows key (λ p i. ((h.quiet p i).1 (before p i) (before g.cluster_mark (inr (inr refl)))).1);
}

pub load_framed : (g : Setting) (w v : World) → Frame g w v → (l : Load) → LoadFacts g w l → LoadFacts g v l
load_framed g w v f l h =
    let later : w.start ≤ v.start = f.start in
    let up : l.found_open ≡ true → w.is_up ≡ true = λ found. (h.answered found).up in
    record {
      home = ⊎_elim (λ (a : IsHome g w l). inl (f.home l a)) (λ (b : l.nonce < w.start). inr (omega arith)) h.home;
      answered = λ found. let a : IsAnswered g w l = h.answered found in
          record {
            up = f.up a.up;
            home = f.home l a.home;
            active = λ p t. let before : HasTenure w l p = f.tenure l p a.home t in f.active p (read_by g w l p a.home before) (a.active p before);
          };
      places = λ p listed. framed g w v f l up p (l.stage p) (h.places p listed);
      rows = λ kept key listed. row_framed g w v f l up key (h.rows kept key listed);
    }

-- of all loads
pub all_framed : (g : Setting) (w v : World) → Frame g w v → Sound g w → (n : ℕ) → LoadFacts g v (w.loads n)
all_framed g w v f s n = load_framed g w v f (w.loads n) (s.loads n)

-- a place has come to another stage
pub staged : (g : Setting) (w : World) (l : Load) (p : ℕ) (s : PlaceStage) → LoadFacts g w l → (l.places p ≡ true → PlaceFacts g w l p s) → LoadFacts g w (record l { stage = put l.stage p s })
staged g w l p s h here = record {
  home = h.home;
  answered = h.answered;
  places = put_all (λ q t. l.places q ≡ true → PlaceFacts g w l q t) l.stage p s here h.places;
  rows = h.rows;
}

-- A transaction goes on: what it took back or skipped is what it had, or the moment allows it

pub record Goes (g : Setting) (w : World) (x y : Transaction) : Type 0 where
  pub took : (p : ℕ) → HasNotEnded y → y.took_back p ≡ true → (HasNotEnded x × (x.took_back p ≡ true)) ⊎ (IsExclusive g w p ⊎ (w.is_suspended ≡ true))
  pub skipped : (p : ℕ) → HasNotEnded y → y.skipped p ≡ true → (HasNotEnded x × (x.skipped p ≡ true)) ⊎ (HasFound x × ((w.counts p).is_kept ≡ false))
  pub found : HasFound y → HasFound x ⊎ (w.nonce ≡ w.start)

module _ (g : Setting) (w : World) (f : ℕ → Transaction) (compatible : IsCompatible w.held) (suspended : w.is_suspended ≡ true → w.was_suspended ≡ true) (goes : (t : ℕ) → Goes g w (w.transactions t) (f t)) where
  abbrev gone : World
  gone = record w { transactions = f }

  nobody_took : (p : ℕ) → IsRead g w p → w.was_suspended ≡ false → NobodyTook w p → NobodyTook gone p
  nobody_took p read active nobody t not_ended took =
      ⊎_elim (λ (a : HasNotEnded (w.transactions t) × ((w.transactions t).took_back p ≡ true)). nobody t a.0 a.1)
      (⊎_elim (λ (x : IsExclusive g w p). excluded g w p compatible read x) (λ (s : w.is_suspended ≡ true). true≢false (sym (suspended s) ∙ active)))
      ((goes t).took p not_ended took)

  taken_since : (p recalls : ℕ) → CountsAsKept (w.counts p) recalls → (w.counts p).is_kept ≡ false → recalls < (w.counts p).recalls
  taken_since p recalls c unkept =
      let past : recalls ≤ (w.counts p).recalls = c.past in
      ⊎_elim (λ (a : recalls < (w.counts p).recalls). a)
      (λ (b : (w.counts p).recalls ≤ recalls). absurd (true≢false (sym (c.kept (omega arith)) ∙ unkept)))
      (cases_lt recalls (w.counts p).recalls)

  was_trusted : IsTrusted gone → IsTrusted w
  was_trusted (inl new) = inl new
  was_trusted (inr s) = ⊎_elim
      (λ (a : HasFound (w.transactions s.0)). inr (s.0, a)) (λ (new : w.nonce ≡ w.start). inl new) ((goes s.0).found s.1)

  pub going : Frame g w gone
  going = record {
    home = λ l h. h;
    tenure = λ l p h t. t;
    start = omega arith;
    up = λ up. up;
    active = λ p read a. a;
    counted = λ p recalls up c. c;
    unnoticed = λ p recalls read active up u. record {
      counted = u.counted;
      took = nobody_took p read active u.took;
      skipped = λ s not_ended skip. ⊎_elim
          (λ (a : HasNotEnded (w.transactions s) × ((w.transactions s).skipped p ≡ true)). u.skipped s a.0 a.1)
          (λ (b : HasFound (w.transactions s) × ((w.counts p).is_kept ≡ false)). taken_since p recalls u.counted b.1)
          ((goes s).skipped p not_ended skip);
    };
    guarded = λ p read mark active k. record {
      took = nobody_took p read active k.took;
      skipped = λ s not_ended skip. ⊎_elim
          (λ (a : HasNotEnded (w.transactions s) × ((w.transactions s).skipped p ≡ true)). k.skipped s a.0 a.1)
          (λ (b : HasFound (w.transactions s) × ((w.counts p).is_kept ≡ false)). true≢false (sym (k.kept (inr (s, b.0))) ∙ b.1))
          ((goes s).skipped p not_ended skip);
      kept = λ trusted. k.kept (was_trusted trusted);
    };
    rows = λ key k. refl;
  }
