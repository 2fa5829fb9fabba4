-- What holds of each reachable world.
use Rattle.std.proofs.Common.{◌≡◌, ◌≢◌, ◌<◌, ◌≤◌, ◌+◌, ℕ, ◌⊎◌, true, false, Some, sym, ◌∙◌, ap, subst, true≢false}
use Rattle.krl_modes.specs.Parts.{keys_compatible}
use Rattle.krl_cached_table.specs.Worlds.{row_after, Recovering, Ended}
use Rattle.krl_cached_table.specs.Steps.{IsCompatible}
use Rattle.krl_cached_table.proofs.Sound.{IsFixed, reads_no_X}
use Rattle.krl_locked_table.specs.Worlds.{Setting, IsPlaceOf, Transaction, Load, World}
use Rattle.krl_locked_table.specs.Steps.{Holds, IsExclusive, HasLock, AreSettled}
use Rattle.krl_locked_table.specs.Promises.{HasTenure}

-- Transactions

-- it waited, and saw an open agent, while it had the lock
abbrev pub IsProper : Setting → Transaction → Type 0
IsProper g x =
    record {
      waited : (p since : ℕ) → x.waits p ≡ Some since → x.shares p ≡ true;
      settled : (p : ℕ) → x.settled p ≡ true → x.shares p ≡ true;
      fixed : IsFixed x.stage → AreSettled g x;
    }

abbrev pub HasNotEnded : Transaction → Type 0
HasNotEnded x = x.stage ≢ Ended

-- The agent

abbrev pub SessionFacts : World → Type 0
SessionFacts w =
    record {
      up : w.is_alive ≡ true → w.is_up ≡ true;
      locked : (p : ℕ) → w.locks p ≡ true → w.is_alive ≡ true;
      drawn : w.has_drawn ≡ true → w.is_alive ≡ true;
      opened : w.is_open ≡ true → w.has_drawn ≡ true;
      recalled : (p : ℕ) → w.recalled p ≡ true → w.gives_up p ≡ true;
      mark : w.mark ≤ w.nonce;
    }

-- Places

-- a reader holds the place
abbrev pub IsRead : Setting → World → ℕ → Type 0
IsRead g w p = (c : ℕ) × (g.is_agent c ≡ false) × Holds w c p

-- no answer to the load is of a moment after this one, and none will be
abbrev pub IsUnansweredAfter : World → Load → ℕ → Type 0
IsUnansweredAfter w l end =
    record {
      answered : l.answered ≤ end;
      asked : l.found_open ≡ true → (l.asked ≤ end) ⊎ (l.nonce < w.nonce);
      drawn : w.has_drawn ≡ true → l.nonce < w.nonce;
    }

-- the agent that had the lock has ended at this moment, and each transaction that had the lock since waits for readers
abbrev pub IsLost : Setting → World → Load → ℕ → ℕ → Type 0
IsLost g w l p end =
    record {
      past : end ≤ w.now;
      unanswered : IsUnansweredAfter w l end;
      alive : w.is_alive ≡ true → end ≤ w.alive_since;
      opened : w.is_open ≡ true → end + g.patience ≤ w.now;
      waits : (t since : ℕ) → HasNotEnded (w.transactions t) → (w.transactions t).waits p ≡ Some since → end ≤ since;
      settled : (t : ℕ) → HasNotEnded (w.transactions t) → (w.transactions t).settled p ≡ true → end + g.patience ≤ w.now;
    }

-- the agent has the lock, and krl did not take the place back; or that agent has ended
abbrev pub IsGuarded : Setting → World → Load → ℕ → Type 0
IsGuarded g w l p = ((w.locks p ≡ true) × (w.recalled p ≡ false)) ⊎ ((end : ℕ) × IsLost g w l p end)

-- the last answer is no longer good
abbrev pub IsOver : Setting → World → Load → Type 0
IsOver g w l = (end : ℕ) × (end + g.patience ≤ w.now) × IsUnansweredAfter w l end

-- Loads

-- the reader is a client of the agent's krl, and holds each place of which it has the tenure
abbrev pub IsHome : Setting → World → Load → Type 0
IsHome g w l =
    record {
      reader : g.is_agent l.client ≡ false;
      past : (p : ℕ) → l.places p ≡ true → l.tenures p ≤ w.tenure l.client p;
      holds : (p : ℕ) → HasTenure w l p → Holds w l.client p;
    }

abbrev pub IsGuardedWhileHeld : Setting → World → Load → ℕ → Type 0
IsGuardedWhileHeld g w l p = IsHome g w l × (HasTenure w l p → IsGuarded g w l p)

-- the row that is in memory is that of the table, as long as the reader has the tenures and an answer that is good
abbrev pub RowFacts : Setting → World → Load → ℕ → Type 0
RowFacts g w l key =
    record {
      guarded : (p : ℕ) → IsPlaceOf g key p → IsGuardedWhileHeld g w l p;
      row : ((p : ℕ) → IsPlaceOf g key p → HasTenure w l p) → (l.rows key ≡ row_after w.changes key) ⊎ IsOver g w l;
    }

-- what the load has is of this moment at the latest
abbrev pub IsPast : World → Load → Type 0
IsPast w l = record { nonce : l.nonce ≤ w.nonce; answered : l.answered ≤ w.now; asked : l.asked ≤ w.now }

pub record LoadFacts (g : Setting) (w : World) (l : Load) : Type 0 where
  pub past : IsPast w l
  pub home : IsHome g w l ⊎ (l.nonce < w.nonce)
  pub found : l.found_nonce ≡ true → IsHome g w l
  pub locked : (p : ℕ) → l.locked p ≡ true → IsGuardedWhileHeld g w l p
  pub rows : l.is_kept ≡ true → (key : ℕ) → ((p : ℕ) → IsPlaceOf g key p → l.places p ≡ true) → RowFacts g w l key

-- All of it

pub record Sound (g : Setting) (w : World) : Type 0 where
  pub compatible : IsCompatible w.held
  pub session : SessionFacts w
  pub proper : (t : ℕ) → IsProper g (w.transactions t)
  pub exclusive : (t p : ℕ) → w.locks p ≡ true → HasLock (w.transactions t) p → ⊥
  pub recovered : w.is_up ≡ true → (t : ℕ) → (w.transactions t).stage ≢ Recovering
  pub loads : (n : ℕ) → LoadFacts g w (w.loads n)

-- Who reads a place excludes an agent that holds it in X
pub excluded : (g : Setting) (w : World) (p : ℕ) → IsCompatible w.held → IsRead g w p → IsExclusive g w p → ⊥
excluded g w p compatible r x =
    reads_no_X (w.held r.0 p) r.2 (subst (λ k. keys_compatible (w.held r.0 p) k ≡ true) x.2 (compatible r.0 x.0 p another))
  where
    another : r.0 ≢ x.0
    another e = true≢false (sym x.1 ∙ ap g.is_agent (sym e) ∙ r.1)
