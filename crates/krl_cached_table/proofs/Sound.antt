-- What holds of each reachable world.
use Rattle.std.proofs.Common.{refl, ◌≡◌, ◌≢◌, ◌<◌, ◌≤◌, ℕ, ◌⊎◌, true, false, sym, ◌∙◌, ap, subst, eqb, true≢false}
use Rattle.std.proofs.lemmas.Bool.{eqb-true, eq-eqb, cond_both, cond-true}
use Rattle.krl_modes.specs.Parts.{keys_compatible, reads_key}
use Rattle.krl_modes.specs.declared.part.KeyPart.{KeyPart}
use Rattle.krl_modes.specs.declared.part.KeyPart.TheVariants as part
use Rattle.krl_cached_table.specs.Worlds.{Setting, IsPlaceOf, row_after, Stage, Running, Prepared, Committed, Visible, Recovering, Ended, Transaction, Count, PlaceStage, Held, Counted, Unnoticed, Quiet, Load, World}
use Rattle.krl_cached_table.specs.Steps.{put, IsCompatible, Holds, IsExclusive, AreSettled}
use Rattle.krl_cached_table.specs.Promises.{HasTenure}

-- what holds of the one that was put there, and of each other one, holds of all
pub put_all : {A : Type 0} (P : ℕ → A → Type 0) (f : ℕ → A) (n : ℕ) (x : A) → P n x → ((m : ℕ) → P m (f m)) → (m : ℕ) → P m (put f n x m)
put_all P f n x here rest m = cond_both (eqb m n) x (f m) (P m) (λ e. subst (λ k. P k x) (sym (eqb-true m n e)) here) (λ e. rest m)

pub put_at : {A : Type 0} (P : A → Type 0) (f : ℕ → A) (n : ℕ) (x : A) (m : ℕ) → (m ≡ n → P x) → P (f m) → P (put f n x m)
put_at P f n x m here rest = cond_both (eqb m n) x (f m) P (λ e. here (eqb-true m n e)) (λ e. rest)

pub put_here : {A : Type 0} (f : ℕ → A) (n : ℕ) (x : A) → put f n x n ≡ x
put_here f n x = cond-true (eqb n n) x (f n) (eq-eqb n n refl)

-- Transactions

-- its changes are fixed, and it may become visible
abbrev pub IsFixed : Stage → Type 0
IsFixed Running = ⊥
IsFixed Prepared = Unit {0}
IsFixed Committed = Unit {0}
IsFixed Visible = ⊥
IsFixed Recovering = Unit {0}
IsFixed Ended = ⊥

-- it asked for nothing before its notice
abbrev pub IsProper : Setting → Transaction → Type 0
IsProper g x =
    record {
      took : (p : ℕ) → x.took_back p ≡ true → x.gave_notice p ≡ true;
      skipped : (p : ℕ) → x.skipped p ≡ true → x.gave_notice p ≡ true;
      settled : IsFixed x.stage → AreSettled g x;
    }

abbrev pub HasNotEnded : Transaction → Type 0
HasNotEnded x = x.stage ≢ Ended

-- it goes by the counts
abbrev pub HasFound : Transaction → Type 0
HasFound x = (x.stage ≡ Running) × (x.found_nonce ≡ true)

-- Places

-- a reader holds the place
abbrev pub IsRead : Setting → World → ℕ → Type 0
IsRead g w p = (c : ℕ) × (g.is_worker c ≡ false) × Holds w c p

-- the counts show what readers keep: a transaction goes by them, or may do so
abbrev pub IsTrusted : World → Type 0
IsTrusted w = (w.nonce ≡ w.start) ⊎ ((t : ℕ) × HasFound (w.transactions t))

-- it counts as kept, or was taken back since
abbrev pub CountsAsKept : Count → ℕ → Type 0
CountsAsKept k recalls =
    record {
      past : recalls ≤ k.recalls;
      kept : k.recalls ≡ recalls → k.is_kept ≡ true;
    }

-- no transaction that has not ended took the place back
abbrev pub NobodyTook : World → ℕ → Type 0
NobodyTook w p = (t : ℕ) → HasNotEnded (w.transactions t) → (w.transactions t).took_back p ≡ true → ⊥

-- nobody had given notice, and who skipped the place since then found that it was taken back
abbrev pub IsUnnoticed : World → ℕ → ℕ → Type 0
IsUnnoticed w p recalls =
    record {
      counted : CountsAsKept (w.counts p) recalls;
      took : NobodyTook w p;
      skipped : (t : ℕ) → HasNotEnded (w.transactions t) → (w.transactions t).skipped p ≡ true → recalls < (w.counts p).recalls;
    }

-- no transaction may become visible that has settled the place
abbrev pub IsGuarded : World → ℕ → Type 0
IsGuarded w p =
    record {
      took : NobodyTook w p;
      skipped : (t : ℕ) → HasNotEnded (w.transactions t) → (w.transactions t).skipped p ≡ true → ⊥;
      kept : IsTrusted w → (w.counts p).is_kept ≡ true;
    }

-- Loads

-- the reader is a client of the workers' krl, and holds each place of which it has the tenure
abbrev pub IsHome : Setting → World → Load → Type 0
IsHome g w l =
    record {
      reader : g.is_worker l.client ≡ false;
      past : (p : ℕ) → l.places p ≡ true → l.tenures p ≤ w.tenure l.client p;
      holds : (p : ℕ) → HasTenure w l p → Holds w l.client p;
    }

-- while it has the tenures of the place and of the cluster's mark, the database was not suspended since it was closed,
-- and A holds
abbrev pub WhileHeld : Setting → World → Load → ℕ → Type 0 → Type 0
WhileHeld g w l p A =
    IsHome g w l × (HasTenure w l p → HasTenure w l g.cluster_mark → (w.was_suspended ≡ false) × A)

abbrev pub PlaceFacts : Setting → World → Load → ℕ → PlaceStage → Type 0
PlaceFacts g w l p Held = Unit {0}
PlaceFacts g w l p (Counted recalls) = WhileHeld g w l p (l.found_open ≡ true → CountsAsKept (w.counts p) recalls)
PlaceFacts g w l p (Unnoticed recalls) = WhileHeld g w l p (l.found_open ≡ true → IsUnnoticed w p recalls)
PlaceFacts g w l p Quiet = WhileHeld g w l p (IsGuarded w p)

-- the row that is in memory is that of the table, as long as the reader has the tenures
abbrev pub RowFacts : Setting → World → Load → ℕ → Type 0
RowFacts g w l key =
    record {
      quiet : (p : ℕ) → IsPlaceOf g key p → PlaceFacts g w l p Quiet;
      row : ((p : ℕ) → IsPlaceOf g key p → HasTenure w l p) → l.rows key ≡ row_after w.changes key;
    }

-- krl.quiet answers only clients of the workers' krl, and not after the database was suspended until it is opened
abbrev pub IsAnswered : Setting → World → Load → Type 0
IsAnswered g w l =
    record {
      up : w.is_up ≡ true;
      home : IsHome g w l;
      active : (p : ℕ) → HasTenure w l p → w.was_suspended ≡ false;
    }

pub record LoadFacts (g : Setting) (w : World) (l : Load) : Type 0 where
  pub home : IsHome g w l ⊎ (l.nonce < w.start)
  pub answered : l.found_open ≡ true → IsAnswered g w l
  pub places : (p : ℕ) → l.places p ≡ true → PlaceFacts g w l p (l.stage p)
  pub rows : l.is_kept ≡ true → (key : ℕ) → ((p : ℕ) → IsPlaceOf g key p → l.places p ≡ true) → RowFacts g w l key

-- All of it

pub record Sound (g : Setting) (w : World) : Type 0 where
  pub compatible : IsCompatible w.held
  pub nonce : w.nonce ≤ w.start
  pub proper : (t : ℕ) → IsProper g (w.transactions t)
  pub suspended : w.is_suspended ≡ true → w.was_suspended ≡ true
  pub closed : w.was_suspended ≡ true → w.is_closed ≡ true
  pub found : w.is_up ≡ false → (t : ℕ) → HasFound (w.transactions t) → ⊥
  pub recovered : w.is_up ≡ true → (t : ℕ) → (w.transactions t).stage ≢ Recovering
  pub loads : (n : ℕ) → LoadFacts g w (w.loads n)

-- Who reads a place excludes a worker that holds it in X

pub reads_no_X : (k : KeyPart) → reads_key k ≡ true → keys_compatible k part.X ≡ true → ⊥
reads_no_X part.N r c = true≢false (sym r)
reads_no_X part.S r c = true≢false (sym c)
reads_no_X part.U r c = true≢false (sym c)
reads_no_X part.X r c = true≢false (sym c)

pub excluded : (g : Setting) (w : World) (p : ℕ) → IsCompatible w.held → IsRead g w p → IsExclusive g w p → ⊥
excluded g w p compatible r x =
    reads_no_X (w.held r.0 p) r.2 (subst (λ k. keys_compatible (w.held r.0 p) k ≡ true) x.2 (compatible r.0 x.0 p another))
  where
    another : r.0 ≢ x.0
    another e = true≢false (sym x.1 ∙ ap g.is_worker (sym e) ∙ r.1)
