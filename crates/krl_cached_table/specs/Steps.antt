-- What may happen, in any order, and what it leaves.
use Rattle.std.specs.Prelude.{◌≡◌, ◌≢◌, ℕ, suc, ◌<◌, Bool, true, false, List, [], ◌∷◌, ◌++◌, ◌⊎◌, if◌then◌else◌, ◌==◌}
use Rattle.krl_modes.specs.Parts.{keys_compatible, reads_key}
use Rattle.krl_modes.specs.declared.part.KeyPart.{KeyPart}
use Rattle.krl_modes.specs.declared.part.KeyPart.TheVariants as part
use Rattle.krl_cached_table.specs.Worlds.{Setting, IsPlaceOf, Change, row_after, Stage, Running, Prepared, Committed, Visible, Recovering, Ended, Transaction, Held, Counted, Unnoticed, Quiet, Load, World, new_transaction, new_count, new_load, first}

-- the same, but for one place
abbrev pub put : {A : Type 0} → (ℕ → A) → ℕ → A → ℕ → A
put f n x m = if m == n then x else f m

-- krl

-- what krl promises: no two clients hold incompatible parts of one key. It is the half on keys of the clause
-- `compatible` of the theorem `headline` of krl_world
abbrev pub IsCompatible : (ℕ → ℕ → KeyPart) → Type 0
IsCompatible held = (c d p : ℕ) → c ≢ d → keys_compatible (held c p) (held d p) ≡ true

-- the client may read the place
abbrev pub Holds : World → ℕ → ℕ → Type 0
Holds w c p = reads_key (w.held c p) ≡ true

-- a worker holds the place so that nobody else may read it
abbrev pub IsExclusive : Setting → World → ℕ → Type 0
IsExclusive g w p = (d : ℕ) × (g.is_worker d ≡ true) × (w.held d p ≡ part.X)

-- the leases of all readers have ended
abbrev pub NobodyReads : Setting → World → Type 0
NobodyReads g w = (c p : ℕ) → g.is_worker c ≡ false → Holds w c p → ⊥

-- each client has either another tenure of a place, or lost nothing of it
abbrev pub NotesLosses : World → (ℕ → ℕ → KeyPart) → (ℕ → ℕ → ℕ) → Type 0
NotesLosses w held tenure = (c p : ℕ) →
    (w.tenure c p < tenure c p)
    ⊎ ((tenure c p ≡ w.tenure c p) × (reads_key (w.held c p) ≡ true → reads_key (held c p) ≡ true))

-- A transaction

-- a notice is a lock of the transaction. A crash leaves those of prepared transactions only
abbrev pub has_locks : Stage → Bool
has_locks Running = true
has_locks Prepared = true
has_locks Committed = true
has_locks Visible = true
has_locks Recovering = false
has_locks Ended = false

abbrev pub HasNotice : Transaction → ℕ → Type 0
HasNotice x p = (has_locks x.stage ≡ true) × (x.gave_notice p ≡ true)

-- it gave notice of the place, and after that took it back, or found that it need not
abbrev pub IsSettled : Transaction → ℕ → Type 0
IsSettled x p = (x.gave_notice p ≡ true) × ((x.took_back p ≡ true) ⊎ (x.skipped p ≡ true))

-- one of the changes is of the key
abbrev pub IsChanged : ℕ → List Change → Type 0
IsChanged key [] = ⊥
IsChanged key (c ∷ cs) = (key ≡ c.key) ⊎ IsChanged key cs

-- it may commit: of each changed key one place is settled
abbrev pub AreSettled : Setting → Transaction → Type 0
AreSettled g x = (key : ℕ) → IsChanged key x.changes → (p : ℕ) × IsPlaceOf g key p × IsSettled x p

-- what changes nothing but the transaction x
pub data TransactionStep (g : Setting) (w : World) (x : Transaction) : Transaction → Type 0 where
  -- another transaction, by the same number
  begins_another : x.stage ≡ Ended → TransactionStep g w x new_transaction
  changes_row : (c : Change) → x.stage ≡ Running → TransactionStep g w x (record x { changes = c ∷ x.changes })
  gives_notice : (p : ℕ) → x.stage ≡ Running →
      TransactionStep g w x (record x { gave_notice = put x.gave_notice p true })
  -- while the cluster is suspended, nobody keeps anything
  takes_back : (p : ℕ) → x.stage ≡ Running →
      x.gave_notice p ≡ true →
      IsExclusive g w p ⊎ (w.is_suspended ≡ true) →
      TransactionStep g w x (record x { took_back = put x.took_back p true })
  -- before the cluster's mark has the nonce of this start, the counts do not show what readers keep
  finds_nonce : x.stage ≡ Running → w.is_up ≡ true →
      w.nonce ≡ w.start →
      TransactionStep g w x (record x { found_nonce = true })
  -- nobody keeps a row by the place
  skips : (p : ℕ) → x.stage ≡ Running → x.gave_notice p ≡ true →
      x.found_nonce ≡ true →
      (w.counts p).is_kept ≡ false →
      TransactionStep g w x (record x { skipped = put x.skipped p true })
  prepares : x.stage ≡ Running → AreSettled g x → TransactionStep g w x (record x { stage = Prepared })
  commits : x.stage ≡ Running → AreSettled g x → TransactionStep g w x (record x { stage = Committed })
  commits_prepared : x.stage ≡ Prepared → TransactionStep g w x (record x { stage = Committed })
  rolls_back : (x.stage ≡ Running) ⊎ (x.stage ≡ Prepared) → TransactionStep g w x (record x { stage = Ended })
  ends : x.stage ≡ Visible → TransactionStep g w x (record x { stage = Ended })

-- what a crash of the database leaves of a transaction
abbrev pub crashed : Stage → Transaction → Transaction
crashed Running x = record x { stage = Ended }
crashed Prepared x = x
crashed Committed x = record x { stage = Recovering }
crashed Visible x = record x { stage = Ended }
crashed Recovering x = x
crashed Ended x = x

-- A load

-- the database answers krl.quiet: it is up and not closed, and the nonce is that of this start
abbrev pub IsOpen : World → Load → Type 0
IsOpen w l = (w.is_up ≡ true) × (w.is_closed ≡ false) × (l.nonce ≡ w.start)

abbrev pub NobodyGaveNotice : World → ℕ → Type 0
NobodyGaveNotice w p = (t : ℕ) → HasNotice (w.transactions t) p → ⊥

-- What changes nothing but the load l. The parts of a call of krl.quiet are finds_open, and then, of each place,
-- counts_as_kept, below, sees_no_notice and finds_count
pub data LoadStep (g : Setting) (w : World) (l : Load) : Load → Type 0 where
  begins : (c : ℕ) (places : ℕ → Bool) → g.is_worker c ≡ false →
      ((p : ℕ) → places p ≡ true → Holds w c p) →
      LoadStep g w l (new_load c places (w.tenure c) w.nonce)
  -- by a client of another server of krl, or of one whose store went back. The cluster's mark has an older nonce there
  begins_elsewhere : (c nonce : ℕ) (places : ℕ → Bool) (tenures : ℕ → ℕ) → nonce < w.start →
      LoadStep g w l (new_load c places tenures nonce)
  finds_open : IsOpen w l → LoadStep g w l (record l { found_open = true; stage = λ p. Held })
  sees_no_notice : (p recalls : ℕ) → l.stage p ≡ Counted recalls → l.found_open ≡ true → NobodyGaveNotice w p →
      LoadStep g w l (record l { stage = put l.stage p (Unnoticed recalls) })
  finds_count : (p recalls : ℕ) → l.stage p ≡ Unnoticed recalls → l.found_open ≡ true →
      (w.counts p).recalls ≡ recalls →
      (w.counts p).is_kept ≡ true →
      LoadStep g w l (record l { stage = put l.stage p Quiet })
  -- krl.quiet has returned true
  takes_rows : ((p : ℕ) → l.places p ≡ true → l.stage p ≡ Quiet) →
      LoadStep g w l (record l { is_kept = true; rows = row_after w.changes })

-- All of it

-- the transaction becomes visible
abbrev pub shown : World → ℕ → Stage → World
shown w t stage =
    record w {
      changes = (w.transactions t).changes ++ w.changes;
      transactions = put w.transactions t (record (w.transactions t) { stage = stage });
    }

pub data Step (g : Setting) (w : World) : World → Type 0 where
  -- locks are granted and given back, leases end, clients start and are killed
  locks_change : (held : ℕ → ℕ → KeyPart) (tenure : ℕ → ℕ → ℕ) → IsCompatible held → NotesLosses w held tenure →
      Step g w (record w { held = held; tenure = tenure })
  takes_cluster_mark : IsExclusive g w g.cluster_mark → Step g w (record w { nonce = w.start })
  -- transactions
  transacts : (t : ℕ) (x : Transaction) → TransactionStep g w (w.transactions t) x →
      Step g w (record w { transactions = put w.transactions t x })
  counts_recall : (t p : ℕ) → (w.transactions t).stage ≡ Running →
      (w.transactions t).took_back p ≡ true →
      Step g w (record w {
        counts = put w.counts p (record { recalls = suc (w.counts p).recalls; is_kept = false });
      })
  becomes_visible : (t : ℕ) → (w.transactions t).stage ≡ Committed → Step g w (shown w t Visible)
  -- the database
  crashes : Step g w (record w {
    is_up = false;
    transactions = λ t. crashed (w.transactions t).stage (w.transactions t);
    loads = λ n. record (w.loads n) { found_open = false };
  })
  recovers : (t : ℕ) → (w.transactions t).stage ≡ Recovering → Step g w (shown w t Ended)
  starts : w.is_up ≡ false →
      ((t : ℕ) → (w.transactions t).stage ≢ Recovering) →
      Step g w (record w { is_up = true; start = suc w.start; counts = λ p. new_count })
  -- the database is suspended, after it was closed to krl.quiet, and resumed. Until it is opened it may be suspended
  -- again: nobody has kept anything since
  closes : Step g w (record w { is_closed = true })
  suspends : w.is_closed ≡ true → NobodyReads g w → Step g w (record w { is_suspended = true; was_suspended = true })
  resumes : Step g w (record w { is_suspended = false })
  suspends_again : w.was_suspended ≡ true → Step g w (record w { is_suspended = true })
  opens : w.is_suspended ≡ false → Step g w (record w { is_closed = false; was_suspended = false })
  joins_again : Step g w (record w { start = suc w.start })
  -- readers
  loads : (n : ℕ) (l : Load) → LoadStep g w (w.loads n) l → Step g w (record w { loads = put w.loads n l })
  counts_as_kept : (n p : ℕ) → (w.loads n).stage p ≡ Held → (w.loads n).found_open ≡ true →
      Step g w (record w {
        counts = put w.counts p (record (w.counts p) { is_kept = true });
        loads = put w.loads n (record (w.loads n) {
          stage = put (w.loads n).stage p (Counted (w.counts p).recalls);
        });
      })

-- steps, one after another, or none
pub data Steps (g : Setting) : World → World → Type 0 where
  none : {w : World} → Steps g w w
  more : {u v w : World} → Steps g u v → Step g v w → Steps g u w

-- steps lead from a first world to this one
pub data Reachable (g : Setting) : World → Type 0 where
  begun : (changes : List Change) → Reachable g (first changes)
  stepped : (w v : World) → Reachable g w → Step g w v → Reachable g v
