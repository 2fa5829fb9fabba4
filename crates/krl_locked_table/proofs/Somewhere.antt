-- A run in which a reader, client 1, answers from memory. The agent is client 0. Each key n is of the stripe 10 + n, and
-- all keys are of the table 5.
use Rattle.std.proofs.Common.{◌≡◌, ◌≢◌, ◌⊎◌, ℕ, suc, ◌+◌, Bool, inl, inr, true, false, Some, [], ◌∷◌, refl, sym, ap, subst, ⊎_elim, true≢false, arith, eqb}
use Rattle.std.proofs.lemmas.Bool.{cases_eq}
use Rattle.krl_modes.specs.Parts.{reads_key}
use Rattle.krl_modes.specs.declared.part.KeyPart.{KeyPart}
use Rattle.krl_modes.specs.declared.part.KeyPart.TheVariants as part
use Rattle.krl_cached_table.specs.Worlds.{row_after, Committed, Visible, Ended}
use Rattle.krl_cached_table.specs.Steps.{put}
use Rattle.krl_cached_table.proofs.Sound.{put_all}
use Rattle.krl_cached_table.proofs.Runs.{owned, compatible}
use Rattle.krl_locked_table.specs.Worlds.{Setting, IsPlaceOf, Transaction, World, new_transaction, new_load, first}
use Rattle.krl_locked_table.specs.Steps.{HasLock, AreSettled, changes_row, shares_lock, sees_open, begins_to_wait, has_waited, commits, ends, begins, finds_nonce, finds_locked, takes_rows, shown, without_agent, Step, time_passes, locks_change, becomes_alive, draws_nonce, writes_nonce, opens, takes_lock, announces, recalls, gives_up_lock, agent_ends, transacts, becomes_visible, loads, Steps, none, more, Reachable, begun, stepped}
use Rattle.krl_locked_table.specs.Promises.{AnswersSomewhere}

abbrev g : Setting
g = record { stripe_of = λ key. 10 + key; table_of = λ key. 5; is_agent = λ c. eqb c 0; patience = 2 }

steps_on : {u v w : World} → Steps g u v → Steps g v w → Steps g u w
steps_on a none = a
steps_on a (more b step) = more (steps_on a b) step

reaches : {u v : World} → Reachable g u → Steps g u v → Reachable g v
reaches r none = r
reaches r (more b step) = stepped _ _ (reaches r b) step

-- One client holds all places, and each tenure is a new one

abbrev given : World → ℕ → KeyPart → World
given w owner k = record w { held = owned owner k; tenure = λ c p. suc (w.tenure c p) }

gives : (w : World) (owner : ℕ) (k : KeyPart) → Step g w (given w owner k)
gives w owner k = locks_change (owned owner k) (λ c p. suc (w.tenure c p)) (compatible owner k) (λ c p. inl (omega arith))

-- An agent begins: it has the locks of the stripe 13 and of the table

abbrev alive : World → World
alive w = record w { is_alive = true; alive_since = w.now }

abbrev drawn : World → World
drawn w = record (alive w) { has_drawn = true; nonce = suc w.nonce }

abbrev written : World → World
written w = record (drawn w) { mark = suc w.nonce }

abbrev locking : World → ℕ → World
locking w p = record w { locks = put w.locks p true }

abbrev begun_agent : World → World
begun_agent w = locking (locking (written w) 13) 5

begins_agent : (w : World) → w.is_up ≡ true → w.is_alive ≡ false → ((p t : ℕ) → (p ≡ 13) ⊎ (p ≡ 5) → HasLock (w.transactions t) p → ⊥) → Steps g w (begun_agent w)
begins_agent w up dead nobody =
    more (more (more (more (more none
    (becomes_alive up dead))
    (draws_nonce refl))
    (writes_nonce refl))
    (takes_lock 13 refl (λ t. nobody 13 t (inl refl))))
    (takes_lock 5 refl (λ t. nobody 5 t (inr refl)))

-- A load of key 3

abbrev places : ℕ → Bool
places = put (put (λ p. false) 13 true) 5 true

listed : (p : ℕ) → IsPlaceOf g 3 p → places p ≡ true
listed p (inl e) = subst (λ q. places q ≡ true) (sym e) refl
listed p (inr e) = subst (λ q. places q ≡ true) (sym e) refl

abbrev with_load : World → World
with_load w = record w { loads = put w.loads 0 (new_load 1 places (w.tenure 1) w.mark w.now) }

abbrev found : World → World
found w = record w { loads = put (with_load w).loads 0 (record ((with_load w).loads 0) { found_nonce = true }) }

abbrev found_lock : World → ℕ → World
found_lock w p = record w { loads = put w.loads 0 (record (w.loads 0) { locked = put (w.loads 0).locked p true }) }

abbrev looked : World → World
looked w = found_lock (found_lock (found w) 13) 5

abbrev loaded : World → World
loaded w = record w { loads = put (looked w).loads 0 (record ((looked w).loads 0) { is_kept = true; rows = row_after w.changes }) }

module _ (w : World) (held : w.held ≡ owned 1 part.S) (same : w.mark ≡ w.nonce) (stripe : w.locks 13 ≡ true) (table : w.locks 5 ≡ true) (stripe_kept : w.gives_up 13 ≡ false) (table_kept : w.gives_up 5 ≡ false) where
  all_locked : (p : ℕ) → places p ≡ true → ((looked w).loads 0).locked p ≡ true
  all_locked =
      put_all IsLocked (put (λ p. false) 13 true) 5 true (λ e. refl)
      (put_all IsLocked (λ p. false) 13 true (λ e. refl) (λ p e. absurd (true≢false (sym e))))
    where
      IsLocked : ℕ → Bool → Type 0
      IsLocked p b = b ≡ true → ((looked w).loads 0).locked p ≡ true

  loads_rows : Steps g w (loaded w)
  loads_rows =
      more (more (more (more (more none
      (loads 0 (new_load 1 places (w.tenure 1) w.mark w.now) (begins 1 places refl (λ p listed. ap (λ (h : ℕ → ℕ → KeyPart). reads_key (h 1 p)) held))))
      (loads 0 (record ((with_load w).loads 0) { found_nonce = true }) (finds_nonce same)))
      (loads 0 (record ((found w).loads 0) { locked = put ((found w).loads 0).locked 13 true }) (finds_locked 13 refl stripe stripe_kept)))
      (loads 0 (record ((found_lock (found w) 13).loads 0) { locked = put ((found_lock (found w) 13).loads 0).locked 5 true }) (finds_locked 5 refl table table_kept)))
      (loads 0 (record ((looked w).loads 0) { is_kept = true; rows = row_after w.changes }) (takes_rows all_locked))

-- The agent begins and opens, and the reader loads

abbrev later : World → World
later w = record w { now = suc w.now }

abbrev opened : World
opened = record (later (later (begun_agent (first [])))) { is_open = true }

abbrev ready : World
ready = given opened 1 part.S

abbrev before : World
before = loaded ready

to_before : Steps g (first []) before
to_before = steps_on
    (more (more (more (more (begins_agent (first []) refl refl (λ p t which h. true≢false (sym h.1)))
    time_passes)
    time_passes)
    (opens refl (omega arith)))
    (gives opened 1 part.S))
    (loads_rows ready refl refl refl refl refl refl)

-- Transaction 0 makes a row of key 3, for which the agent gives up the lock of the stripe

abbrev with_transaction : World → ℕ → Transaction → World
with_transaction w t x = record w { transactions = put w.transactions t x }

abbrev x1 : Transaction
x1 = record new_transaction { changes = record { key = 3; row = Some 5 } ∷ [] }

abbrev x2 : Transaction
x2 = record x1 { shares = put x1.shares 13 true }

abbrev x3 : Transaction
x3 = record x2 { settled = put x2.settled 13 true }

abbrev x4 : Transaction
x4 = record x3 { stage = Committed }

abbrev w1 : World
w1 = with_transaction before 0 x1

abbrev w2 : World
w2 = given (record w1 { gives_up = put w1.gives_up 13 true }) 0 part.X

abbrev w3 : World
w3 = record w2 { recalled = put w2.recalled 13 true }

abbrev w4 : World
w4 = record w3 { locks = put w3.locks 13 false; gives_up = put w3.gives_up 13 false; recalled = put w3.recalled 13 false }

abbrev w5 : World
w5 = with_transaction (with_transaction (with_transaction w4 0 x2) 0 x3) 0 x4

abbrev w6 : World
w6 = shown w5 0 Visible

abbrev w7 : World
w7 = with_transaction w6 0 (record x4 { stage = Ended })

abbrev w8 : World
w8 = given (locking w7 13) 1 part.S

abbrev after : World
after = loaded w8

settled : AreSettled g x3
settled key (inl e) = (g.stripe_of key, inl refl, subst (λ k. x3.settled (g.stripe_of k) ≡ true) (sym e) refl)
settled key (inr e) = absurd e

-- the others have not begun
others : (t : ℕ) → t ≢ 0 → w7.transactions t ≡ new_transaction
others =
    put_all IsNew w6.transactions 0 (record x4 { stage = Ended }) (λ other. absurd (other refl)) (put_all IsNew w5.transactions 0 (record x4 { stage = Visible }) (λ other. absurd (other refl))
    (put_all IsNew (with_transaction (with_transaction w4 0 x2) 0 x3).transactions 0 x4 (λ other. absurd (other refl)) (put_all IsNew (with_transaction w4 0 x2).transactions 0 x3 (λ other. absurd (other refl))
    (put_all IsNew w4.transactions 0 x2 (λ other. absurd (other refl)) (put_all IsNew before.transactions 0 x1 (λ other. absurd (other refl)) (λ t other. refl))))))
  where
    IsNew : ℕ → Transaction → Type 0
    IsNew t x = t ≢ 0 → x ≡ new_transaction

nobody_shares : (p t : ℕ) → HasLock (w7.transactions t) p → ⊥
nobody_shares p t = ⊎_elim
    (λ (e : t ≡ 0). subst (λ u. HasLock (w7.transactions u) p → ⊥) (sym e) (λ h. true≢false (sym h.0)))
    (λ (other : t ≡ 0 → ⊥). subst (λ (x : Transaction). HasLock x p → ⊥) (sym (others t other)) (λ h. true≢false (sym h.1)))
    (cases_eq t 0)

to_w8 : Steps g before w8
to_w8 =
    more (more (more (more (more (more (more (more (more (more (more (more none
    (transacts 0 x1 (changes_row (record { key = 3; row = Some 5 }) refl)))
    (announces 13 refl))
    (gives (record w1 { gives_up = put w1.gives_up 13 true }) 0 part.X))
    (recalls 13 refl (0, refl, refl)))
    (gives_up_lock 13 refl))
    (transacts 0 x2 (shares_lock 13 refl refl)))
    (transacts 0 x3 (sees_open 13 refl refl refl)))
    (transacts 0 x4 (commits refl settled)))
    (becomes_visible 0 refl))
    (transacts 0 (record x4 { stage = Ended }) (ends refl)))
    (takes_lock 13 refl (nobody_shares 13)))
    (gives (locking w7 13) 1 part.S)

-- Transaction 1 makes a row of key 4, whose stripe nobody keeps

abbrev y1 : Transaction
y1 = record new_transaction { changes = record { key = 4; row = Some 6 } ∷ [] }

abbrev y2 : Transaction
y2 = record y1 { shares = put y1.shares 14 true }

abbrev y3 : Transaction
y3 = record y2 { settled = put y2.settled 14 true }

abbrev y4 : Transaction
y4 = record y3 { stage = Committed }

abbrev w9 : World
w9 = with_transaction (with_transaction (with_transaction (with_transaction after 1 y1) 1 y2) 1 y3) 1 y4

abbrev last : World
last = shown w9 1 Visible

settled_elsewhere : AreSettled g y3
settled_elsewhere key (inl e) = (g.stripe_of key, inl refl, subst (λ k. y3.settled (g.stripe_of k) ≡ true) (sym e) refl)
settled_elsewhere key (inr e) = absurd e

to_last : Steps g after last
to_last =
    more (more (more (more (more none
    (transacts 1 y1 (changes_row (record { key = 4; row = Some 6 }) refl)))
    (transacts 1 y2 (shares_lock 14 refl refl)))
    (transacts 1 y3 (sees_open 14 refl refl refl)))
    (transacts 1 y4 (commits refl settled_elsewhere)))
    (becomes_visible 1 refl)

-- The agent ends, transaction 2 makes another row of key 3 after it has waited, and another agent begins

abbrev z1 : Transaction
z1 = record new_transaction { changes = record { key = 3; row = Some 7 } ∷ [] }

abbrev z2 : Transaction
z2 = record z1 { shares = put z1.shares 13 true }

abbrev z3 : Transaction
z3 = record z2 { waits = put z2.waits 13 (Some 2) }

abbrev z4 : Transaction
z4 = record z3 { settled = put z3.settled 13 true }

abbrev z5 : Transaction
z5 = record z4 { stage = Committed }

abbrev v1 : World
v1 = without_agent last

abbrev v3 : World
v3 = with_transaction (with_transaction (with_transaction v1 2 z1) 2 z2) 2 z3

abbrev v5 : World
v5 = with_transaction (with_transaction (later (later v3)) 2 z4) 2 z5

abbrev v6 : World
v6 = shown v5 2 Visible

abbrev v7 : World
v7 = with_transaction v6 2 (record z5 { stage = Ended })

abbrev succeeded : World
succeeded = loaded (begun_agent v7)

settled_alone : AreSettled g z4
settled_alone key (inl e) = (g.stripe_of key, inl refl, subst (λ k. z4.settled (g.stripe_of k) ≡ true) (sym e) refl)
settled_alone key (inr e) = absurd e

-- no transaction has a lock of key 3
abbrev HasNoLock : Transaction → Type 0
HasNoLock x = (p : ℕ) → (p ≡ 13) ⊎ (p ≡ 5) → HasLock x p → ⊥

nobody_after : (t : ℕ) → HasNoLock (last.transactions t)
nobody_after = put_all NoLock w9.transactions 1 (record y4 { stage = Visible }) elsewhere
    (put_all NoLock (with_transaction (with_transaction (with_transaction after 1 y1) 1 y2) 1 y3).transactions 1 y4 elsewhere
    (put_all NoLock (with_transaction (with_transaction after 1 y1) 1 y2).transactions 1 y3 elsewhere
    (put_all NoLock (with_transaction after 1 y1).transactions 1 y2 elsewhere
    (put_all NoLock after.transactions 1 y1 (λ p i h. true≢false (sym h.1)) (λ t p i. nobody_shares p t)))))
  where
    NoLock : ℕ → Transaction → Type 0
    NoLock t x = HasNoLock x

    elsewhere : HasNoLock y2
    elsewhere p (inl e) h = true≢false (sym (subst (λ q. y2.shares q ≡ true) e h.1))
    elsewhere p (inr e) h = true≢false (sym (subst (λ q. y2.shares q ≡ true) e h.1))

nobody_at_last : (t : ℕ) → HasNoLock (v7.transactions t)
nobody_at_last t = ⊎_elim
    (λ (e : t ≡ 2). subst (λ u. HasNoLock (v7.transactions u)) (sym e) (λ p i h. true≢false (sym h.0)))
    (λ (other : t ≡ 2 → ⊥). subst HasNoLock (sym (unchanged t other)) (nobody_after t))
    (cases_eq t 2)
  where
    IsAsBefore : ℕ → Transaction → Type 0
    IsAsBefore t x = t ≢ 2 → x ≡ last.transactions t

    unchanged : (t : ℕ) → t ≢ 2 → v7.transactions t ≡ last.transactions t
    unchanged =
        put_all IsAsBefore v6.transactions 2 (record z5 { stage = Ended }) (λ other. absurd (other refl)) (put_all IsAsBefore v5.transactions 2 (record z5 { stage = Visible }) (λ other. absurd (other refl))
        (put_all IsAsBefore (with_transaction v3 2 z4).transactions 2 z5 (λ other. absurd (other refl)) (put_all IsAsBefore v3.transactions 2 z4 (λ other. absurd (other refl))
        (put_all IsAsBefore (with_transaction (with_transaction v1 2 z1) 2 z2).transactions 2 z3 (λ other. absurd (other refl)) (put_all IsAsBefore (with_transaction v1 2 z1).transactions 2 z2 (λ other. absurd (other refl))
        (put_all IsAsBefore v1.transactions 2 z1 (λ other. absurd (other refl)) (λ t other. refl)))))))

to_v7 : Steps g v1 v7
to_v7 =
    more (more (more (more (more (more (more (more (more none
    (transacts 2 z1 (changes_row (record { key = 3; row = Some 7 }) refl)))
    (transacts 2 z2 (shares_lock 13 refl refl)))
    (transacts 2 z3 (begins_to_wait 13 refl refl)))
    time_passes)
    time_passes)
    (transacts 2 z4 (has_waited 13 2 refl refl (omega arith))))
    (transacts 2 z5 (commits refl settled_alone)))
    (becomes_visible 2 refl))
    (transacts 2 (record z5 { stage = Ended }) (ends refl))

pub answers_somewhere : AnswersSomewhere
answers_somewhere = record {
  setting = g;
  patient = omega arith;
  before = before;
  after = after;
  last = last;
  succeeded = succeeded;
  reachable = reaches (begun []) to_before;
  no_row = record { load = 0; kept = refl; taken = refl; tenures = λ p i. (before, none, (listed p i, refl)); clock = (before, none, omega arith) };
  changed = steps_on to_w8 (loads_rows w8 refl refl refl refl refl refl);
  row = record { load = 0; kept = refl; taken = refl; tenures = λ p i. (after, none, (listed p i, refl)); clock = (after, none, omega arith) };
  changed_elsewhere = to_last;
  saw_open = refl;
  other_row = refl;
  same_row = record { load = 0; kept = refl; taken = refl; tenures = λ p i. (last, none, (listed p i, refl)); clock = (last, none, omega arith) };
  without_agent = v1;
  ended = more none agent_ends;
  no_agent = refl;
  changed_without = steps_on (steps_on to_v7 (begins_agent v7 refl refl (λ p t i. nobody_at_last t p i))) (loads_rows (begun_agent v7) refl refl refl refl refl refl);
  next_nonce = omega arith;
  next_row = record { load = 0; kept = refl; taken = refl; tenures = λ p i. (succeeded, none, (listed p i, refl)); clock = (succeeded, none, omega arith) };
}
