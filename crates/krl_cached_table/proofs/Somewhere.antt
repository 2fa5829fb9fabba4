-- A run in which a reader answers from memory.
use Rattle.std.proofs.Common.{◌≡◌, ◌≢◌, ℕ, suc, inl, inr, true, false, Some, [], ◌∷◌, refl, sym, ◌∙◌, ap, subst, ⊎_elim, true≢false, if◌then◌else◌, eqb}
use Rattle.std.proofs.lemmas.Bool.{ne_eqb, cases_eq, cond-false}
use Rattle.krl_modes.specs.Parts.{reads_key}
use Rattle.krl_modes.specs.declared.part.KeyPart.TheVariants as part
use Rattle.krl_cached_table.specs.Worlds.{Committed, Visible, Ended, Transaction, World, new_transaction, new_count, first}
use Rattle.krl_cached_table.specs.Steps.{put, HasNotice, NobodyReads, NobodyGaveNotice, AreSettled, IsSettled, begins_another, changes_row, gives_notice, takes_back, finds_nonce, skips, commits, ends, shown, takes_cluster_mark, transacts, counts_recall, becomes_visible, crashed, crashes, starts, closes, suspends, resumes, suspends_again, opens, Steps, none, more, begun}
use Rattle.krl_cached_table.specs.Promises.{AnswersSomewhere}
use Rattle.krl_cached_table.proofs.Runs.{g, given, gives, steps_on, reaches, listed, loaded, loads_rows}

-- The worker takes the cluster's mark, and the reader loads

abbrev marked : World
marked = record (given (first []) 0 part.X) { nonce = 1 }

abbrev ready : World
ready = given marked 1 part.S

abbrev before : World
before = loaded ready

nobody_yet : (p : ℕ) → NobodyGaveNotice ready p
nobody_yet p t h = true≢false (sym h.1)

to_marked : Steps g (first []) marked
to_marked = more (more none (gives (first []) 0 part.X)) (takes_cluster_mark (0, refl, refl))

to_before : Steps g (first []) before
to_before = steps_on (more to_marked (gives marked 1 part.S)) (loads_rows ready refl refl refl refl nobody_yet)

-- Transaction 0 makes a row of key 3

abbrev with_transaction : World → ℕ → Transaction → World
with_transaction w t x = record w { transactions = put w.transactions t x }

abbrev x1 : Transaction
x1 = record new_transaction { changes = record { key = 3; row = Some 5 } ∷ [] }

abbrev x2 : Transaction
x2 = record x1 { gave_notice = put x1.gave_notice 13 true }

abbrev x3 : Transaction
x3 = record x2 { took_back = put x2.took_back 13 true }

abbrev x4 : Transaction
x4 = record x3 { stage = Committed }

abbrev w2 : World
w2 = with_transaction (with_transaction before 0 x1) 0 x2

abbrev w3 : World
w3 = with_transaction (given w2 0 part.X) 0 x3

abbrev w4 : World
w4 = record w3 { counts = put w3.counts 13 (record { recalls = suc (w3.counts 13).recalls; is_kept = false }) }

abbrev w5 : World
w5 = with_transaction w4 0 x4

abbrev w6 : World
w6 = shown w5 0 Visible

abbrev w7 : World
w7 = with_transaction w6 0 (record x4 { stage = Ended })

abbrev w8 : World
w8 = given w7 1 part.S

abbrev after : World
after = loaded w8

settled : AreSettled g x3
settled key (inl e) = (g.stripe_of key, inl refl, subst (λ k. IsSettled x3 (g.stripe_of k)) (sym e) (refl, inl refl))
settled key (inr e) = absurd e

to_w8 : Steps g before w8
to_w8 =
    more (more (more (more (more (more (more (more (more none
    (transacts 0 x1 (changes_row (record { key = 3; row = Some 5 }) refl)))
    (transacts 0 x2 (gives_notice 13 refl)))
    (gives w2 0 part.X))
    (transacts 0 x3 (takes_back 13 refl refl (inl (0, refl, refl)))))
    (counts_recall 0 13 refl refl))
    (transacts 0 x4 (commits refl settled)))
    (becomes_visible 0 refl))
    (transacts 0 (record x4 { stage = Ended }) (ends refl)))
    (gives w7 1 part.S)

-- every other transaction is as it was
others : (y : Transaction) (f : ℕ → Transaction) (x : Transaction) → ((t : ℕ) → t ≢ 0 → f t ≡ y) → (t : ℕ) → t ≢ 0 → put f 0 x t ≡ y
others y f x rest t other = cond-false (eqb t 0) x (f t) (ne_eqb t 0 other) ∙ rest t other

others_new : (t : ℕ) → t ≢ 0 → w8.transactions t ≡ new_transaction
others_new =
    others new_transaction w6.transactions (record x4 { stage = Ended }) (others new_transaction w5.transactions (record x4 { stage = Visible }) (others new_transaction w4.transactions x4
    (others new_transaction w2.transactions x3 (others new_transaction (with_transaction before 0 x1).transactions x2 (others new_transaction before.transactions x1 (λ t other. refl))))))

nobody_any_more : (p : ℕ) → NobodyGaveNotice w8 p
nobody_any_more p t = ⊎_elim
    (λ (e : t ≡ 0). subst (λ u. HasNotice (w8.transactions u) p → ⊥) (sym e) (λ h. true≢false (sym h.0)))
    (λ (other : t ≡ 0 → ⊥). subst (λ (x : Transaction). HasNotice x p → ⊥) (sym (others_new t other)) (λ h. true≢false (sym h.1)))
    (cases_eq t 0)

-- Transaction 1 makes rows of key 4, of whose stripe nobody has kept a row, and of key 2, of whose table nobody has

abbrev y1 : Transaction
y1 = record new_transaction { changes = record { key = 2; row = Some 8 } ∷ [] }

abbrev y2 : Transaction
y2 = record y1 { changes = record { key = 4; row = Some 6 } ∷ y1.changes }

abbrev y3 : Transaction
y3 = record y2 { gave_notice = put y2.gave_notice 6 true }

abbrev y4 : Transaction
y4 = record y3 { gave_notice = put y3.gave_notice 14 true }

abbrev y5 : Transaction
y5 = record y4 { found_nonce = true }

abbrev y6 : Transaction
y6 = record y5 { skipped = put y5.skipped 6 true }

abbrev y7 : Transaction
y7 = record y6 { skipped = put y6.skipped 14 true }

abbrev w9 : World
w9 = with_transaction (with_transaction (with_transaction (with_transaction after 1 y1) 1 y2) 1 y3) 1 y4

abbrev w10 : World
w10 = with_transaction (with_transaction (with_transaction (with_transaction w9 1 y5) 1 y6) 1 y7) 1 (record y7 { stage = Committed })

abbrev last : World
last = shown w10 1 Visible

skipped_settled : AreSettled g y7
skipped_settled key (inl e) = (g.stripe_of key, inl refl, subst (λ k. IsSettled y7 (g.stripe_of k)) (sym e) (refl, inr refl))
skipped_settled key (inr (inl e)) = (g.mark_of key, inr (inl refl), subst (λ k. IsSettled y7 (g.mark_of k)) (sym e) (refl, inr refl))
skipped_settled key (inr (inr e)) = absurd e

to_last : Steps g after last
to_last =
    more (more (more (more (more (more (more (more (more none
    (transacts 1 y1 (changes_row (record { key = 2; row = Some 8 }) refl)))
    (transacts 1 y2 (changes_row (record { key = 4; row = Some 6 }) refl)))
    (transacts 1 y3 (gives_notice 6 refl)))
    (transacts 1 y4 (gives_notice 14 refl)))
    (transacts 1 y5 (finds_nonce refl refl refl)))
    (transacts 1 y6 (skips 6 refl refl refl refl)))
    (transacts 1 y7 (skips 14 refl refl refl refl)))
    (transacts 1 (record y7 { stage = Committed }) (commits refl skipped_settled)))
    (becomes_visible 1 refl)

-- The database crashes and starts, the worker takes the cluster's mark, and transaction 0 makes a row of key 3

abbrev down : World
down =
    record before {
      is_up = false;
      transactions = λ t. crashed (before.transactions t).stage (before.transactions t);
      loads = λ n. record (before.loads n) { found_open = false };
    }

abbrev started : World
started = record down { is_up = true; start = 2; counts = λ p. new_count }

abbrev remarked : World
remarked = record (given started 0 part.X) { nonce = 2 }

abbrev z3 : Transaction
z3 = record x2 { found_nonce = true }

abbrev z4 : Transaction
z4 = record z3 { skipped = put z3.skipped 13 true }

abbrev z5 : Transaction
z5 = record z4 { stage = Committed }

abbrev v2 : World
v2 = with_transaction (with_transaction (with_transaction remarked 0 new_transaction) 0 x1) 0 x2

abbrev v4 : World
v4 = with_transaction (with_transaction v2 0 z3) 0 z4

abbrev v5 : World
v5 = with_transaction v4 0 z5

abbrev v6 : World
v6 = shown v5 0 Visible

abbrev v7 : World
v7 = with_transaction v6 0 (record z5 { stage = Ended })

abbrev v8 : World
v8 = given v7 1 part.S

abbrev restarted : World
restarted = loaded v8

settled_since : AreSettled g z4
settled_since key (inl e) = (g.stripe_of key, inl refl, subst (λ k. IsSettled z4 (g.stripe_of k)) (sym e) (refl, inr refl))
settled_since key (inr e) = absurd e

to_v8 : Steps g down v8
to_v8 =
    more (more (more (more (more (more (more (more (more (more (more (more none
    (starts refl (λ t e. cc)))
    (gives started 0 part.X))
    (takes_cluster_mark (0, refl, refl)))
    (transacts 0 new_transaction (begins_another refl)))
    (transacts 0 x1 (changes_row (record { key = 3; row = Some 5 }) refl)))
    (transacts 0 x2 (gives_notice 13 refl)))
    (transacts 0 z3 (finds_nonce refl refl refl)))
    (transacts 0 z4 (skips 13 refl refl refl refl)))
    (transacts 0 z5 (commits refl settled_since)))
    (becomes_visible 0 refl))
    (transacts 0 (record z5 { stage = Ended }) (ends refl)))
    (gives v7 1 part.S)

abbrev ended : Transaction
ended = record new_transaction { stage = Ended }

others_ended : (t : ℕ) → t ≢ 0 → v8.transactions t ≡ ended
others_ended =
    others ended v6.transactions (record z5 { stage = Ended }) (others ended v5.transactions (record z5 { stage = Visible }) (others ended v4.transactions z5
    (others ended (with_transaction v2 0 z3).transactions z4 (others ended v2.transactions z3 (others ended (with_transaction (with_transaction remarked 0 new_transaction) 0 x1).transactions x2
    (others ended (with_transaction remarked 0 new_transaction).transactions x1 (others ended remarked.transactions new_transaction (λ t other. refl))))))))

nobody_since : (p : ℕ) → NobodyGaveNotice v8 p
nobody_since p t = ⊎_elim
    (λ (e : t ≡ 0). subst (λ u. HasNotice (v8.transactions u) p → ⊥) (sym e) (λ h. true≢false (sym h.0)))
    (λ (other : t ≡ 0 → ⊥). subst (λ (x : Transaction). HasNotice x p → ⊥) (sym (others_ended t other)) (λ h. true≢false (sym h.0)))
    (cases_eq t 0)

-- The database is suspended and resumed. While a reader already holds all, it is suspended again, so that transaction
-- 0 makes its row of key 3 without the worker. Then it is opened

abbrev suspended : World
suspended = record (given (record before { is_closed = true }) 0 part.X) { is_suspended = true; was_suspended = true }

abbrev resumed : World
resumed = given (record suspended { is_suspended = false }) 1 part.S

abbrev suspended_again : World
suspended_again = record resumed { is_suspended = true }

abbrev u3 : World
u3 = with_transaction (with_transaction (with_transaction suspended_again 0 x1) 0 x2) 0 x3

abbrev u5 : World
u5 = shown (with_transaction u3 0 x4) 0 Visible

abbrev u6 : World
u6 = with_transaction u5 0 (record x4 { stage = Ended })

abbrev u8 : World
u8 = record u6 { is_suspended = false; is_closed = false; was_suspended = false }

nobody_reads : NobodyReads g (given (record before { is_closed = true }) 0 part.X)
nobody_reads c p reader reads = true≢false (sym reads ∙ ap (λ b. reads_key (if b then part.X else part.N)) reader)

to_suspended : Steps g before suspended
to_suspended = more (more (more none closes) (gives (record before { is_closed = true }) 0 part.X)) (suspends refl nobody_reads)

to_u8 : Steps g suspended_again u8
to_u8 =
    more (more (more (more (more (more (more (more none
    (transacts 0 x1 (changes_row (record { key = 3; row = Some 5 }) refl)))
    (transacts 0 x2 (gives_notice 13 refl)))
    (transacts 0 x3 (takes_back 13 refl refl (inr refl))))
    (transacts 0 x4 (commits refl settled)))
    (becomes_visible 0 refl))
    (transacts 0 (record x4 { stage = Ended }) (ends refl)))
    resumes)
    (opens refl)

pub answers_somewhere : AnswersSomewhere
answers_somewhere = record {
  setting = g;
  before = before;
  after = after;
  last = last;
  reachable = reaches (begun []) to_before;
  no_row = record { load = 0; kept = refl; taken = refl; tenures = λ p i. (before, none, (listed p i, refl)) };
  changed = steps_on to_w8 (loads_rows w8 refl refl refl refl nobody_any_more);
  took = refl;
  row = record { load = 0; kept = refl; taken = refl; tenures = λ p i. (after, none, (listed p i, refl)) };
  changed_elsewhere = to_last;
  skipped_stripe = refl;
  skipped_mark = refl;
  other_row = refl;
  row_of_other_table = refl;
  same_row = record { load = 0; kept = refl; taken = refl; tenures = λ p i. (last, none, (listed p i, refl)) };
  down = down;
  crashed = more none crashes;
  is_down = refl;
  restarted = restarted;
  changed_since = steps_on to_v8 (loads_rows v8 refl refl refl refl nobody_since);
  skipped_since = refl;
  row_since = record { load = 0; kept = refl; taken = refl; tenures = λ p i. (restarted, none, (listed p i, refl)) };
  suspended = suspended;
  went_on = to_suspended;
  resumed = resumed;
  joined = more (more none resumes) (gives (record suspended { is_suspended = false }) 1 part.S);
  is_read = refl;
  suspended_again = suspended_again;
  fell_back = suspends_again refl;
  without_krl = refl;
  opened = loaded u8;
  changed_without_krl = steps_on to_u8 (loads_rows u8 refl refl refl refl nobody_any_more);
  row_made_without_krl = record { load = 0; kept = refl; taken = refl; tenures = λ p i. (loaded u8, none, (listed p i, refl)) };
}
