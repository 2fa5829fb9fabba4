-- What may happen, in any order, and what it leaves.
use Rattle.std.specs.Prelude.{◌≡◌, ◌≢◌, ℕ, suc, ◌+◌, ◌≤◌, ◌<◌, Bool, true, false, Some, List, ◌∷◌, ◌++◌, ◌⊎◌}
use Rattle.krl_modes.specs.Parts.{reads_key}
use Rattle.krl_modes.specs.declared.part.KeyPart.{KeyPart}
use Rattle.krl_modes.specs.declared.part.KeyPart.TheVariants as part
use Rattle.krl_cached_table.specs.Worlds.{Change, row_after, Stage, Running, Prepared, Committed, Visible, Recovering, Ended}
use Rattle.krl_cached_table.specs.Steps.{put, IsCompatible, has_locks, IsChanged}
use Rattle.krl_locked_table.specs.Worlds.{Setting, IsPlaceOf, Transaction, Load, World, new_transaction, new_load, first}

-- krl, whose one premise is IsCompatible of krl_cached_table

-- the client may read the place
abbrev pub Holds : World → ℕ → ℕ → Type 0
Holds w c p = reads_key (w.held c p) ≡ true

-- an agent holds the place so that nobody else may read it
abbrev pub IsExclusive : Setting → World → ℕ → Type 0
IsExclusive g w p = (d : ℕ) × (g.is_agent d ≡ true) × (w.held d p ≡ part.X)

-- each client has either another tenure of a place, or lost nothing of it
abbrev pub NotesLosses : World → (ℕ → ℕ → KeyPart) → (ℕ → ℕ → ℕ) → Type 0
NotesLosses w held tenure = (c p : ℕ) →
    (w.tenure c p < tenure c p)
    ⊎ ((tenure c p ≡ w.tenure c p) × (reads_key (w.held c p) ≡ true → reads_key (held c p) ≡ true))

-- A transaction

-- it shares the lock. A crash leaves the locks of prepared transactions only
abbrev pub HasLock : Transaction → ℕ → Type 0
HasLock x p = (has_locks x.stage ≡ true) × (x.shares p ≡ true)

-- it may commit: of each changed key one place is settled
abbrev pub AreSettled : Setting → Transaction → Type 0
AreSettled g x = (key : ℕ) → IsChanged key x.changes → (p : ℕ) × IsPlaceOf g key p × (x.settled p ≡ true)

-- what changes nothing but the transaction x
pub data TransactionStep (g : Setting) (w : World) (x : Transaction) : Transaction → Type 0 where
  -- another transaction, by the same number
  begins_another : x.stage ≡ Ended → TransactionStep g w x new_transaction
  changes_row : (c : Change) → x.stage ≡ Running → TransactionStep g w x (record x { changes = c ∷ x.changes })
  shares_lock : (p : ℕ) → x.stage ≡ Running →
      w.locks p ≡ false →
      TransactionStep g w x (record x { shares = put x.shares p true })
  sees_open : (p : ℕ) → x.stage ≡ Running → x.shares p ≡ true →
      w.is_open ≡ true →
      TransactionStep g w x (record x { settled = put x.settled p true })
  begins_to_wait : (p : ℕ) → x.stage ≡ Running → x.shares p ≡ true →
      TransactionStep g w x (record x { waits = put x.waits p (Some w.now) })
  has_waited : (p since : ℕ) → x.stage ≡ Running → x.waits p ≡ Some since →
      since + g.patience ≤ w.now →
      TransactionStep g w x (record x { settled = put x.settled p true })
  prepares : x.stage ≡ Running → AreSettled g x → TransactionStep g w x (record x { stage = Prepared })
  commits : x.stage ≡ Running → AreSettled g x → TransactionStep g w x (record x { stage = Committed })
  commits_prepared : x.stage ≡ Prepared → TransactionStep g w x (record x { stage = Committed })
  rolls_back : (x.stage ≡ Running) ⊎ (x.stage ≡ Prepared) → TransactionStep g w x (record x { stage = Ended })
  ends : x.stage ≡ Visible → TransactionStep g w x (record x { stage = Ended })

-- what a crash of the database leaves of a transaction
abbrev pub crashed : Stage → Transaction → Transaction
crashed Running x = record x { stage = Ended }
crashed Prepared x = x
crashed Committed x = record x { stage = Recovering }
crashed Visible x = record x { stage = Ended }
crashed Recovering x = x
crashed Ended x = x

-- A load

-- what changes nothing but the load l
pub data LoadStep (g : Setting) (w : World) (l : Load) : Load → Type 0 where
  begins : (c : ℕ) (places : ℕ → Bool) → g.is_agent c ≡ false →
      ((p : ℕ) → places p ≡ true → Holds w c p) →
      LoadStep g w l (new_load c places (w.tenure c) w.mark w.now)
  -- by a client of another server of krl, or of one whose store went back, which has an older nonce
  begins_elsewhere : (c nonce : ℕ) (places : ℕ → Bool) (tenures : ℕ → ℕ) →
      nonce < w.nonce →
      LoadStep g w l (new_load c places tenures nonce w.now)
  finds_nonce : l.nonce ≡ w.nonce → LoadStep g w l (record l { found_nonce = true })
  finds_locked : (p : ℕ) → l.found_nonce ≡ true →
      w.locks p ≡ true →
      w.gives_up p ≡ false →
      LoadStep g w l (record l { locked = put l.locked p true })
  -- after all places were found locked
  takes_rows : ((p : ℕ) → l.places p ≡ true → l.locked p ≡ true) →
      LoadStep g w l (record l { is_kept = true; rows = row_after w.changes })
  -- a question, which finds an open agent and then the load's nonce, or is not answered
  asks : LoadStep g w l (record l { asked = w.now; found_open = false })
  finds_open : w.is_open ≡ true → LoadStep g w l (record l { found_open = true })
  is_answered : l.found_open ≡ true →
      l.nonce ≡ w.nonce →
      LoadStep g w l (record l { answered = l.asked })

-- All of it

-- the transaction becomes visible
abbrev pub shown : World → ℕ → Stage → World
shown w t stage =
    record w {
      changes = (w.transactions t).changes ++ w.changes;
      transactions = put w.transactions t (record (w.transactions t) { stage = stage });
    }

-- the agent's session has ended, and with it all its locks
abbrev pub without_agent : World → World
without_agent w =
    record w {
      is_alive = false;
      has_drawn = false;
      is_open = false;
      locks = λ p. false;
      gives_up = λ p. false;
      recalled = λ p. false;
    }

pub data Step (g : Setting) (w : World) : World → Type 0 where
  time_passes : Step g w (record w { now = suc w.now })
  -- locks are granted and given back, leases end, clients start and are killed
  locks_change : (held : ℕ → ℕ → KeyPart) (tenure : ℕ → ℕ → ℕ) → IsCompatible held → NotesLosses w held tenure →
      Step g w (record w { held = held; tenure = tenure })
  -- the agent
  becomes_alive : w.is_up ≡ true → w.is_alive ≡ false →
      Step g w (record w { is_alive = true; alive_since = w.now })
  draws_nonce : w.is_alive ≡ true → Step g w (record w { has_drawn = true; nonce = suc w.nonce })
  writes_nonce : w.has_drawn ≡ true → Step g w (record w { mark = w.nonce })
  opens : w.has_drawn ≡ true →
      w.alive_since + g.patience ≤ w.now →
      Step g w (record w { is_open = true })
  takes_lock : (p : ℕ) → w.is_alive ≡ true →
      ((t : ℕ) → HasLock (w.transactions t) p → ⊥) →
      Step g w (record w { locks = put w.locks p true })
  announces : (p : ℕ) → w.is_alive ≡ true → Step g w (record w { gives_up = put w.gives_up p true })
  recalls : (p : ℕ) → w.gives_up p ≡ true →
      IsExclusive g w p →
      Step g w (record w { recalled = put w.recalled p true })
  -- at any moment after that, though krl may have given the place to a reader since
  gives_up_lock : (p : ℕ) → w.recalled p ≡ true →
      Step g w (record w {
        locks = put w.locks p false;
        gives_up = put w.gives_up p false;
        recalled = put w.recalled p false;
      })
  keeps_lock : (p : ℕ) →
      Step g w (record w { gives_up = put w.gives_up p false; recalled = put w.recalled p false })
  agent_ends : Step g w (without_agent w)
  -- transactions
  transacts : (t : ℕ) (x : Transaction) → TransactionStep g w (w.transactions t) x →
      Step g w (record w { transactions = put w.transactions t x })
  becomes_visible : (t : ℕ) → (w.transactions t).stage ≡ Committed → Step g w (shown w t Visible)
  -- the database
  crashes : Step g w (record (without_agent w) {
    is_up = false;
    transactions = λ t. crashed (w.transactions t).stage (w.transactions t);
  })
  recovers : (t : ℕ) → (w.transactions t).stage ≡ Recovering → Step g w (shown w t Ended)
  starts : w.is_up ≡ false →
      ((t : ℕ) → (w.transactions t).stage ≢ Recovering) →
      Step g w (record w { is_up = true })
  -- readers
  loads : (n : ℕ) (l : Load) → LoadStep g w (w.loads n) l → Step g w (record w { loads = put w.loads n l })

-- steps, one after another, or none
pub data Steps (g : Setting) : World → World → Type 0 where
  none : {w : World} → Steps g w w
  more : {u v w : World} → Steps g u v → Step g v w → Steps g u w

-- steps lead from a first world to this one
pub data Reachable (g : Setting) : World → Type 0 where
  begun : (changes : List Change) → Reachable g (first changes)
  stepped : (w v : World) → Reachable g w → Step g w v → Reachable g v
