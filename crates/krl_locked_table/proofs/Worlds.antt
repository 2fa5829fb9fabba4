-- Each step keeps a world sound.
use Rattle.std.proofs.Common.{◌≡◌, ◌≢◌, ◌∙◌, ◌<◌, ◌≤◌, ℕ, suc, ◌⊎◌, inl, inr, true, false, List, [], ◌∷◌, ◌++◌, refl, sym, subst, ⊎_elim, true≢false, eqb, arith}
use Rattle.std.proofs.lemmas.Bool.{eqb-true, cond_both}
use Rattle.krl_modes.specs.declared.part.KeyPart.{KeyPart}
use Rattle.krl_modes.specs.Parts.{reads_key}
use Rattle.krl_cached_table.specs.Worlds.{Change, row_after, Stage, Visible, Recovering, Ended}
use Rattle.krl_cached_table.specs.Steps.{put, IsCompatible, has_locks, IsChanged}
use Rattle.krl_cached_table.proofs.Sound.{put_all, IsFixed}
use Rattle.krl_cached_table.proofs.Transactions.{committed_not_ended, recovering_not_ended}
use Rattle.krl_locked_table.specs.Worlds.{Setting, IsPlaceOf, Transaction, Load, World, first}
use Rattle.krl_locked_table.specs.Steps.{Holds, NotesLosses, HasLock, TransactionStep, crashed, shown, without_agent, Step, time_passes, locks_change, becomes_alive, draws_nonce, writes_nonce, opens, takes_lock, announces, recalls, gives_up_lock, keeps_lock, agent_ends, transacts, becomes_visible, crashes, recovers, starts, loads, Reachable, begun, stepped}
use Rattle.krl_locked_table.specs.Promises.{HasTenure}
use Rattle.krl_locked_table.proofs.Sound.{IsProper, HasNotEnded, IsLost, IsGuarded, IsOver, IsHome, LoadFacts, Sound}
use Rattle.krl_locked_table.proofs.Frames.{Goes, goes_same, Frame, load_framed, all_framed}
use Rattle.krl_locked_table.proofs.Transactions.{goes_to, step_goes, crash_goes, proper_unfixed, new_proper, step_proper, crash_proper, step_recovered}
use Rattle.krl_locked_table.proofs.Loads.{load_kept}
use Rattle.krl_locked_table.proofs.Agent.{alive_kept, drawn_kept, written_kept, opened_kept, taken_kept, announced_kept, recalled_kept, given_up_kept, lock_kept, nobody_shares, ended_kept}

-- Time passes

module _ (g : Setting) (w : World) where
  abbrev later : World
  later = record w { now = suc w.now }

  passing : Frame g w later
  passing = record {
    home = λ l h. h;
    tenure = λ l p h t. t;
    now = omega arith;
    nonce = omega arith;
    alive = λ a. inl (a, refl);
    drawn = λ d. inl d;
    opened = λ o. inl o;
    transactions = λ t. goes_same g w (w.transactions t);
    locked = λ l p past read a b. inl (a, b);
    rows = λ l key k. inl refl;
  }

  time_kept : Sound g w → Sound g later
  time_kept s = record {
    compatible = s.compatible;
    session = s.session;
    proper = s.proper;
    exclusive = s.exclusive;
    recovered = s.recovered;
    loads = all_framed g w later passing s;
  }

-- Locks of krl change

module _ (g : Setting) (w : World) (held : ℕ → ℕ → KeyPart) (tenure : ℕ → ℕ → ℕ) (notes : NotesLosses w held tenure) where
  abbrev relocked : World
  relocked = record w { held = held; tenure = tenure }

  pub later_tenure : (c p : ℕ) → w.tenure c p ≤ tenure c p
  later_tenure c p = ⊎_elim (λ (a : w.tenure c p < tenure c p). omega arith)
      (λ (b : (tenure c p ≡ w.tenure c p) × (reads_key (w.held c p) ≡ true → reads_key (held c p) ≡ true)). let same : tenure c p ≡ w.tenure c p = b.0 in omega arith) (notes c p)

  same_tenure : (c p since : ℕ) → since ≤ w.tenure c p → tenure c p ≡ since → w.tenure c p ≡ since
  same_tenure c p since past e = let rises : w.tenure c p ≤ tenure c p = later_tenure c p in omega arith

  still_holds : (c p since : ℕ) → since ≤ w.tenure c p → tenure c p ≡ since → Holds w c p → reads_key (held c p) ≡ true
  still_holds c p since past e holds = ⊎_elim (λ (a : w.tenure c p < tenure c p). absurd (omega arith))
      (λ (b : (tenure c p ≡ w.tenure c p) × (reads_key (w.held c p) ≡ true → reads_key (held c p) ≡ true)). b.1 holds) (notes c p)

  had_tenure : (l : Load) (p : ℕ) → IsHome g w l → HasTenure relocked l p → HasTenure w l p
  had_tenure l p h t = (t.0, same_tenure l.client p (l.tenures p) (h.past p t.0) t.1)

  still_home : (l : Load) → IsHome g w l → IsHome g relocked l
  still_home l h = record {
    reader = h.reader;
    past = λ p listed. let past : l.tenures p ≤ w.tenure l.client p = h.past p listed in
        let later : w.tenure l.client p ≤ tenure l.client p = later_tenure l.client p in
        omega arith;
    holds = λ p t. still_holds l.client p (l.tenures p) (h.past p t.0) t.1 (h.holds p (had_tenure l p h t));
  }

  relocking : Frame g w relocked
  relocking = record {
    home = still_home;
    tenure = had_tenure;
    now = omega arith;
    nonce = omega arith;
    alive = λ a. inl (a, refl);
    drawn = λ d. inl d;
    opened = λ o. inl o;
    transactions = λ t. goes_same g w (w.transactions t);
    locked = λ l p past read a b. inl (a, b);
    rows = λ l key k. inl refl;
  }

  locks_kept : IsCompatible held → Sound g w → Sound g relocked
  locks_kept compatible s = record {
    compatible = compatible;
    session = s.session;
    proper = s.proper;
    exclusive = s.exclusive;
    recovered = s.recovered;
    loads = all_framed g w relocked relocking s;
  }

-- Transactions go on

module _ (g : Setting) (w : World) (f : ℕ → Transaction) (goes : (t : ℕ) → Goes g w (w.transactions t) (f t)) where
  abbrev gone : World
  gone = record w { transactions = f }

  going : Frame g w gone
  going = record {
    home = λ l h. h;
    tenure = λ l p h t. t;
    now = omega arith;
    nonce = omega arith;
    alive = λ a. inl (a, refl);
    drawn = λ d. inl d;
    opened = λ o. inl o;
    transactions = goes;
    locked = λ l p past read a b. inl (a, b);
    rows = λ l key k. inl refl;
  }

  still_exclusive : Sound g w → (t p : ℕ) → w.locks p ≡ true → HasLock (f t) p → ⊥
  still_exclusive s t p locks h = ⊎_elim (λ (a : HasLock (w.transactions t) p). s.exclusive t p locks a) (λ (free : w.locks p ≡ false). true≢false (sym locks ∙ free)) ((goes t).lock p h)

  gone_kept : ((t : ℕ) → IsProper g (f t)) → (w.is_up ≡ true → (t : ℕ) → (f t).stage ≢ Recovering) → Sound g w → Sound g gone
  gone_kept proper recovered s = record {
    compatible = s.compatible;
    session = s.session;
    proper = proper;
    exclusive = still_exclusive s;
    recovered = recovered;
    loads = all_framed g w gone going s;
  }

all_go : (g : Setting) (w : World) (t : ℕ) (x : Transaction) → Goes g w (w.transactions t) x → (u : ℕ) → Goes g w (w.transactions u) (put w.transactions t x u)
all_go g w t x goes = put_all (λ u y. Goes g w (w.transactions u) y) w.transactions t x goes (λ u. goes_same g w (w.transactions u))

transaction_kept : (g : Setting) (w : World) (t : ℕ) (x : Transaction) → TransactionStep g w (w.transactions t) x → Sound g w → Sound g (record w { transactions = put w.transactions t x })
transaction_kept g w t x step s = gone_kept g w (put w.transactions t x) (all_go g w t x (step_goes g w (w.transactions t) x step))
    (put_all (λ u y. IsProper g y) w.transactions t x (step_proper g w (w.transactions t) x step (s.proper t)) s.proper)
    (λ up. put_all (λ u (y : Transaction). y.stage ≢ Recovering) w.transactions t x (step_recovered g w (w.transactions t) x step (s.recovered up t)) (s.recovered up))
    s

-- A transaction becomes visible

changed_or_same : (xs ys : List Change) (key : ℕ) → IsChanged key xs ⊎ (row_after ys key ≡ row_after (xs ++ ys) key)
changed_or_same [] ys key = inr refl
changed_or_same (c ∷ cs) ys key =
    cond_both (eqb key c.key) c.row (row_after (cs ++ ys) key) (λ r. IsChanged key (c ∷ cs) ⊎ (row_after ys key ≡ r))
    (λ e. inl (inl (eqb-true key c.key e)))
    (λ e. ⊎_elim (λ (i : IsChanged key cs). inl (inr i)) (λ (same : row_after ys key ≡ row_after (cs ++ ys) key). inr same) (changed_or_same cs ys key))

module _ (g : Setting) (w : World) (t : ℕ) (stage : Stage) (s : Sound g w) (not_ended : HasNotEnded (w.transactions t)) (fixed : IsFixed (w.transactions t).stage) (locks : has_locks stage ≡ true → has_locks (w.transactions t).stage ≡ true) where
  abbrev x : Transaction
  x = w.transactions t

  abbrev y : Transaction
  y = record (w.transactions t) { stage = stage }

  -- whoever keeps a row of a changed key answers no more
  over : (l : Load) (key : ℕ) → ((p : ℕ) → IsPlaceOf g key p → IsGuarded g w l p) → IsChanged key x.changes → IsOver g w l
  over l key k i =
      let settled : (p : ℕ) × IsPlaceOf g key p × (x.settled p ≡ true) = (s.proper t).fixed fixed key i in
      ⊎_elim
      (λ (a : (w.locks settled.0 ≡ true) × (w.recalled settled.0 ≡ false)). absurd (nobody_shares g w s t settled.0 a.0 not_ended ((s.proper t).settled settled.0 settled.2)))
      (λ (b : (end : ℕ) × IsLost g w l settled.0 end). (b.0, b.1.settled t not_ended settled.2, b.1.unanswered))
      (k settled.0 settled.1)

  showing : Frame g w (shown w t stage)
  showing =
      let f : Frame g w (record w { transactions = put w.transactions t y }) = going g w (put w.transactions t y) (all_go g w t y (goes_to g w x stage not_ended locks)) in
      record {
        home = f.home;
        tenure = f.tenure;
        now = f.now;
        nonce = f.nonce;
        alive = f.alive;
        drawn = f.drawn;
        opened = f.opened;
        transactions = f.transactions;
        locked = f.locked;
        rows = λ l key k. ⊎_elim (λ (i : IsChanged key x.changes). inr (over l key k i)) (λ (same : row_after w.changes key ≡ row_after (x.changes ++ w.changes) key). inl same)
            (changed_or_same x.changes w.changes key);
      }

  shown_kept : (IsFixed stage → ⊥) → stage ≢ Recovering → Sound g (shown w t stage)
  shown_kept unfixed recovered = record {
    compatible = s.compatible;
    session = s.session;
    proper = put_all (λ u z. IsProper g z) w.transactions t y (proper_unfixed g x stage unfixed (s.proper t)) s.proper;
    exclusive = still_exclusive g w (put w.transactions t y) (all_go g w t y (goes_to g w x stage not_ended locks)) s;
    recovered = λ up. put_all (λ u (z : Transaction). z.stage ≢ Recovering) w.transactions t y recovered (s.recovered up);
    loads = all_framed g w (shown w t stage) showing s;
  }

-- The database crashes, which ends the agent's session, and starts

crash_kept : (g : Setting) (w : World) → Sound g w → Sound g (record (without_agent w) { is_up = false; transactions = λ t. crashed (w.transactions t).stage (w.transactions t) })
crash_kept g w s =
    let v : World = without_agent w in
    let ended : Sound g v = ended_kept g w s in
    let f : ℕ → Transaction = λ t. crashed (w.transactions t).stage (w.transactions t) in
    let goes : (t : ℕ) → Goes g v (v.transactions t) (f t) = λ t. crash_goes g v (w.transactions t) (w.transactions t).stage refl in
    let frame : Frame g v (record v { transactions = f }) = going g v f goes in
    let v2 : World = record v { is_up = false; transactions = f } in
    let down : Frame g v v2 = record {
      home = frame.home;
      tenure = frame.tenure;
      now = frame.now;
      nonce = frame.nonce;
      alive = frame.alive;
      drawn = frame.drawn;
      opened = frame.opened;
      transactions = frame.transactions;
      locked = frame.locked;
      rows = frame.rows;
    } in
    record {
      compatible = ended.compatible;
      session = record {
        up = λ a. absurd (true≢false (sym a));
        locked = ended.session.locked;
        drawn = ended.session.drawn;
        opened = ended.session.opened;
        recalled = ended.session.recalled;
        mark = ended.session.mark;
      };
      proper = λ t. crash_proper g (w.transactions t) (w.transactions t).stage refl (s.proper t);
      exclusive = λ t p a. absurd (true≢false (sym a));
      recovered = λ up. absurd (true≢false (sym up));
      loads = all_framed g v v2 down ended;
    }

module _ (g : Setting) (w : World) (recovered : (t : ℕ) → (w.transactions t).stage ≢ Recovering) where
  abbrev started : World
  started = record w { is_up = true }

  starting : Frame g w started
  starting = record {
    home = λ l h. h;
    tenure = λ l p h t. t;
    now = omega arith;
    nonce = omega arith;
    alive = λ a. inl (a, refl);
    drawn = λ d. inl d;
    opened = λ o. inl o;
    transactions = λ t. goes_same g w (w.transactions t);
    locked = λ l p past read a b. inl (a, b);
    rows = λ l key k. inl refl;
  }

  started_kept : Sound g w → Sound g started
  started_kept s = record {
    compatible = s.compatible;
    session = record {
      up = λ a. refl;
      locked = s.session.locked;
      drawn = s.session.drawn;
      opened = s.session.opened;
      recalled = s.session.recalled;
      mark = s.session.mark;
    };
    proper = s.proper;
    exclusive = s.exclusive;
    recovered = λ up. recovered;
    loads = all_framed g w started starting s;
  }

-- A load goes on

module _ (g : Setting) (w : World) (n : ℕ) (l : Load) where
  abbrev with_load : World
  with_load = record w { loads = put w.loads n l }

  loading : Frame g w with_load
  loading = record {
    home = λ l h. h;
    tenure = λ l p h t. t;
    now = omega arith;
    nonce = omega arith;
    alive = λ a. inl (a, refl);
    drawn = λ d. inl d;
    opened = λ o. inl o;
    transactions = λ t. goes_same g w (w.transactions t);
    locked = λ l p past read a b. inl (a, b);
    rows = λ l key k. inl refl;
  }

  with_load_kept : Sound g w → LoadFacts g w l → Sound g with_load
  with_load_kept s facts = record {
    compatible = s.compatible;
    session = s.session;
    proper = s.proper;
    exclusive = s.exclusive;
    recovered = s.recovered;
    loads = put_all (λ m (k : Load). LoadFacts g with_load k) w.loads n l (load_framed g w with_load loading l facts) (all_framed g w with_load loading s);
  }

-- Each step

pub step_kept : (g : Setting) (w v : World) → Step g w v → Sound g w → Sound g v
step_kept g w v time_passes s = time_kept g w s
step_kept g w v (locks_change held tenure compatible notes) s = locks_kept g w held tenure notes compatible s
step_kept g w v (becomes_alive up dead) s = alive_kept g w s up
step_kept g w v (draws_nonce alive) s = drawn_kept g w s alive
step_kept g w v (writes_nonce drawn) s = written_kept g w s
step_kept g w v (opens drawn late) s = opened_kept g w s drawn late
step_kept g w v (takes_lock p alive nobody) s = taken_kept g w s p alive nobody
step_kept g w v (announces p alive) s = announced_kept g w s p
step_kept g w v (recalls p announced exclusive) s = recalled_kept g w s p announced exclusive
step_kept g w v (gives_up_lock p recalled) s = given_up_kept g w s p recalled
step_kept g w v (keeps_lock p) s = lock_kept g w s p
step_kept g w v agent_ends s = ended_kept g w s
step_kept g w v (transacts t x step) s = transaction_kept g w t x step s
step_kept g w v (becomes_visible t committed) s =
    shown_kept g w t Visible s (committed_not_ended (w.transactions t).stage committed) (subst IsFixed (sym committed) tt) (λ e. subst (λ k. has_locks k ≡ true) (sym committed) refl) (λ never. never) (λ e. cc)
step_kept g w v crashes s = crash_kept g w s
step_kept g w v (recovers t recovering) s =
    shown_kept g w t Ended s (recovering_not_ended (w.transactions t).stage recovering) (subst IsFixed (sym recovering) tt) (λ e. absurd (true≢false (sym e))) (λ never. never) (λ e. cc)
step_kept g w v (starts down recovered) s = started_kept g w recovered s
step_kept g w v (loads n l step) s = with_load_kept g w n l s (load_kept g w (w.loads n) l s step (s.loads n))

-- Each reachable world

pub sound : (g : Setting) (w : World) → Reachable g w → Sound g w
sound g w (begun changes) = record {
  compatible = λ c d p differ. refl;
  session = record {
    up = λ a. refl;
    locked = λ p a. absurd (true≢false (sym a));
    drawn = λ d. absurd (true≢false (sym d));
    opened = λ o. absurd (true≢false (sym o));
    recalled = λ p a. absurd (true≢false (sym a));
    mark = omega arith;
  };
  proper = λ t. new_proper g;
  exclusive = λ t p a. absurd (true≢false (sym a));
  recovered = λ up t e. cc;
  loads = λ n. at_first n;
}
  where
    at_first : (n : ℕ) → LoadFacts g (first changes) ((first changes).loads n)
    at_first n = record {
      past = record { nonce = omega arith; answered = omega arith; asked = omega arith };
      home = inr (omega arith);
      found = λ found. absurd (true≢false (sym found));
      locked = λ p locked. absurd (true≢false (sym locked));
      rows = λ kept. absurd (true≢false (sym kept));
    }
sound g w (stepped u v r step) = step_kept g u v step (sound g u r)
