-- Each call keeps what holds of every table. Insert and delete are the subject of another file.
use Rattle.std.specs.Prelude.{◌-◌}
use Rattle.krl_server.proofs.Names.{◌≡◌, ◌≢◌, ℕ, ◌≤◌, ◌<◌, Bool, true, false, not, ◌&&◌, None, List, [], ◌∷◌, inl, inr, refl, sym, ap, subst, ◌∙◌, ⊎_elim, arith, nat_eq, ne_eqb, fun_ext, not-false}
use Rattle.krl_server.proofs.Names.{is_some, if◌then◌else◌, END, Mode, compatible, meet, Bounds, within, Pieces, In, Waiter, first_of, eq_cases, Index, slot_of, slots, is_slot, span_of, Row, Rows}
use Rattle.krl_server.proofs.Names.{max_clients, mode_at, set_row, set_mode, is_compatible_there, waits, with_mode, with_queue, lowered, unqueue, cleared, queue_with, enqueued, wanted, behind_first}
use Rattle.krl_server.proofs.Names.{front_dropped, raised, granted, rebuilt, conflicts, adopted, is_wanted_compatible, IsPlaced, times, AreCompatible, one, times_more, times_fewer, times_with}
use Rattle.krl_server.proofs.Names.{none_times, alone_fewer, alone_new, meet_compatible, none_compatible, turned, other_compatible, in_unqueue, in_queue_with}
use Rattle.krl_table.proofs.Invariant.Compatible.{mode_here, mode_other}
use Rattle.std.specs.FinMap as fin
use Rattle.krl_modes.specs.declared.mode.Mode.TheVariants as mode
use Rattle.krl_server.proofs.Slots.{slot_here, is_slot_false}
use Rattle.krl_server.proofs.Updates.{row_here, row_other, row_modes}
use Rattle.krl_server.proofs.Invariant.RowsSound.{low_row, lowered_queue, lowered_others}
use Rattle.krl_server.proofs.Turns.{in_row}
use Rattle.krl_modes.proofs.Basics.{None-if_not_some, not_both}
use Rattle.krl_server.proofs.Tests.{if_case}
use Rattle.krl_server.proofs.Grants.{along, granted_is, raised_queue, raised_others}
use Rattle.krl_server.proofs.Invariant.Tabled.{IsKept, slots_have, all_in, any_in, same_compatible, compatible_row, slot_waits}

-- Modes

-- a slot is one by the test too
pub slot_there : (m : Index) → ((q : ℕ) → END ≤ q → fin.get m q ≡ None) → (p : ℕ) → p ≤ END → is_slot m (slot_of m p) ≡ true
slot_there m near p le = by_test (is_slot m (slot_of m p)) refl
  where
    by_test : (b : Bool) → is_slot m (slot_of m p) ≡ b → b ≡ true
    by_test true e = refl
    by_test false e = let x = is_slot_false m near (slot_of m p) e in absurd ((slot_here m near p le).0 x.0 x.1)

-- on some slots another mode for one client, compatible with those of the others
pub changed_kept : (m : Index) (old new : Rows) (c : ℕ) → c < max_clients → IsKept m old → ((n : ℕ) → is_slot m n ≡ false → new n ≡ old n) → ((n : ℕ) → (new n).queue ≡ (old n).queue) → ((n d : ℕ) → d ≢ c → mode_at new n d ≡ mode_at old n d) → ((n d : ℕ) → d ≢ c → compatible (mode_at new n c) (mode_at old n d) ≡ true) → IsKept m new
changed_kept m old new c lt k off queue same fit = record {
  blank = λ n e. off n e ∙ k.blank n e;
  strangers = λ n d ge. same n d (λ e. omega (arith, e, lt, ge)) ∙ k.strangers n d ge;
  beside = λ n. other_compatible (old n).modes (new n).modes c (k.beside n) (same n) (fit n);
  placed = λ n u at. k.placed n u (subst (In u) (queue n) at);
  alone = λ d. alone_fewer (λ j. times d (old j).queue) (λ j. times d (new j).queue) (k.alone d) (λ j. let x = ap (times d) (queue j) in omega (arith, x));
}

pub lowered_kept : (m : Index) (rows : Rows) (c : ℕ) (span : Bounds) (keep : Mode) → c < max_clients → IsKept m rows → IsKept m (lowered m rows c span keep)
lowered_kept m rows c span keep lt k = changed_kept m rows (lowered m rows c span keep) c lt k
    (λ n e. ap (λ b. if b && within (span_of m n) span then with_mode (rows n) c (meet (mode_at rows n c) keep) else rows n) e)
    (lowered_queue m rows c span keep)
    (λ n d ne. sym (lowered_others m rows c span keep d ne n))
    (λ n d ne. low_row m rows c span keep n (λ r. compatible (r.modes c) (mode_at rows n d) ≡ true)
    (λ w. subst (λ x. compatible x (mode_at rows n d) ≡ true) (sym (mode_here (rows n).modes c (meet (mode_at rows n c) keep))) (meet_compatible (mode_at rows n c) (mode_at rows n d) keep (k.beside n c d (λ e. ne (sym e)))))
    (k.beside n c d (λ e. ne (sym e))))

pub adopted_kept : (m : Index) (rows : Rows) (c : ℕ) (pieces : Pieces) → c < max_clients → conflicts m rows c pieces ≡ false → IsKept m rows → IsKept m (adopted m rows c pieces)
adopted_kept m rows c pieces lt fine k = changed_kept m rows (adopted m rows c pieces) c lt k
    (λ n e. ap (λ b. if b then with_mode (rows n) c (rebuilt m pieces n) else rows n) e)
    (λ n. if_case (λ (r : Row). r.queue ≡ (rows n).queue) (is_slot m n) _ _ (λ e. refl) (λ e. refl))
    (λ n d ne. if_case (λ (r : Row). r.modes d ≡ mode_at rows n d) (is_slot m n) _ _ (λ e. mode_other (rows n).modes c d (rebuilt m pieces n) ne) (λ e. refl))
    (λ n d ne. if_case (λ (r : Row). compatible (r.modes c) (mode_at rows n d) ≡ true) (is_slot m n) _ _
    (λ e. subst (λ x. compatible x (mode_at rows n d) ≡ true) (sym (mode_here (rows n).modes c (rebuilt m pieces n))) (compatible_row rows n c (rebuilt m pieces n) (k.strangers n) (all_in (λ n. is_compatible_there rows n c (rebuilt m pieces n)) (slots m) n (not-false _ fine) (slots_have m n e)) d ne))
    (λ e. k.beside n c d (λ f. ne (sym f))))

pub cleared_kept : (m : Index) (rows : Rows) (c : ℕ) → IsKept m rows → IsKept m (cleared rows c)
cleared_kept m rows c k = record {
  blank = λ n e. ap (λ r. let x : Row = record { modes = set_mode r.modes c mode.N; queue = unqueue c r.queue } in x) (k.blank n e) ∙ ap (λ f. let x : Row = record { modes = f; queue = [] } in x) (fun_ext (λ d. by_test (nat_eq d c)));
  strangers = λ n d ge. if_case (λ x. x ≡ mode.N) (nat_eq d c) mode.N (mode_at rows n d) (λ e. refl) (λ e. k.strangers n d ge);
  beside = λ n. other_compatible (rows n).modes (set_mode (rows n).modes c mode.N) c (k.beside n) (λ d ne. mode_other (rows n).modes c d mode.N ne)
      (λ d ne. subst (λ x. compatible x (mode_at rows n d) ≡ true) (sym (mode_here (rows n).modes c mode.N)) (turned (mode_at rows n d) mode.N (none_compatible (mode_at rows n d))));
  placed = λ n u at. k.placed n u (in_unqueue (rows n).queue c u at).0;
  alone = λ d. alone_fewer (λ j. times d (rows j).queue) (λ j. times d (unqueue c (rows j).queue)) (k.alone d) (λ j. times_fewer d (λ u. not (nat_eq c u.client)) (rows j).queue);
}
  where
    by_test : (b : Bool) → (if b then mode.N else mode.N) ≡ mode.N
    by_test true = refl
    by_test false = refl

-- Queues

-- a client that waits nowhere
nowhere : (m : Index) (rows : Rows) (c : ℕ) → IsKept m rows → waits m rows c ≡ false → (n : ℕ) → times c (rows n).queue ≡ 0
nowhere m rows c k e n = by_slot (is_slot m n) refl
  where
    by_slot : (b : Bool) → is_slot m n ≡ b → times c (rows n).queue ≡ 0
    by_slot true f = none_times c (rows n).queue (None-if_not_some (first_of c (rows n).queue) (any_in (λ n. is_some (first_of c (rows n).queue)) (slots m) n e (slots_have m n f)))
    by_slot false f = subst (λ r. times c r.queue ≡ 0) (sym (k.blank n f)) (omega arith)

-- one row with other waiters, of whom no client has more than before but those for whom that is allowed
pub enqueued_kept : (m : Index) (rows : Rows) (u : Waiter) → ((q : ℕ) → END ≤ q → fin.get m q ≡ None) → u.client < max_clients → u.point ≤ END → waits m rows u.client ≡ false → IsKept m rows → IsKept m (enqueued m rows u)
enqueued_kept m rows u near lt le free k = record {
  blank = λ j e. row_other rows n row j (apart j e) ∙ k.blank j e;
  strangers = λ j d ge. sym (row_modes rows n row d refl j) ∙ k.strangers j d ge;
  beside = λ j. same_compatible (rows j).modes (enqueued m rows u j).modes (λ d. sym (row_modes rows n row d refl j)) (k.beside j);
  placed = λ j v at. ⊎_elim
      (λ (x : (j ≡ n) × In v row.queue). ⊎_elim
      (λ (e : v ≡ u). subst (λ y. IsPlaced m j y) (sym e) (subst (λ y. IsPlaced m y u) (sym x.0) (lt, le, refl)))
      (λ (old : In v (rows n).queue). subst (λ y. IsPlaced m y v) (sym x.0) (k.placed n v old))
      (in_queue_with (rows n) u v x.1))
      (λ (old : In v (rows j).queue). k.placed j v old)
      (in_row rows n row j v at);
  alone = λ c. eq_cases c u.client
      (λ e. alone_new (λ j. times c (rows j).queue) (λ j. times c (enqueued m rows u j).queue) n (λ j. subst (λ y. times y (rows j).queue ≡ 0) (sym e) (nowhere m rows u.client k free j))
      (let x = here c in let y = times_with (rows n) u c in let z = one_most (nat_eq c u.client) in omega (arith, x, y, z))
      (λ j ne. let x = there c j ne in omega (arith, x)))
      (λ ne. alone_fewer (λ j. times c (rows j).queue) (λ j. times c (enqueued m rows u j).queue) (k.alone c)
      (λ j. eq_cases j n
      (λ e. subst (λ y. times c (enqueued m rows u y).queue ≤ times c (rows y).queue) (sym e) (let x = here c in let y = times_with (rows n) u c in let z = ap one (ne_eqb c u.client ne) in omega (arith, x, y, z)))
      (λ nj. let x = there c j nj in omega (arith, x))));
}
  where
    n : ℕ
    n = slot_of m u.point

    row : Row
    row = with_queue (rows (slot_of m u.point)) (queue_with (rows (slot_of m u.point)) u)

    apart : (j : ℕ) → is_slot m j ≡ false → j ≢ slot_of m u.point
    apart j e f = not_both (is_slot m j) (ap (is_slot m) f ∙ slot_there m near u.point le) e

    here : (c : ℕ) → times c (enqueued m rows u (slot_of m u.point)).queue ≡ times c (queue_with (rows (slot_of m u.point)) u)
    here c = ap (λ r. times c r.queue) (row_here rows (slot_of m u.point) (with_queue (rows (slot_of m u.point)) (queue_with (rows (slot_of m u.point)) u)))

    there : (c j : ℕ) → j ≢ slot_of m u.point → times c (enqueued m rows u j).queue ≡ times c (rows j).queue
    there c j ne = ap (λ r. times c r.queue) (row_other rows (slot_of m u.point) (with_queue (rows (slot_of m u.point)) (queue_with (rows (slot_of m u.point)) u)) j ne)

    one_most : (b : Bool) → one b ≤ 1
    one_most true = omega arith
    one_most false = omega arith

-- the first waiter of a slot goes, and its client may have another mode there
pub front_kept : (m : Index) (rows : Rows) (n : ℕ) (u : Waiter) (us : List Waiter) (row : Row) → IsKept m rows → (rows n).queue ≡ u ∷ us → row.queue ≡ us → ((d : ℕ) → d ≢ u.client → row.modes d ≡ mode_at rows n d) → ((d : ℕ) → d ≢ u.client → compatible (row.modes u.client) (mode_at rows n d) ≡ true) → IsKept m (set_row rows n row)
front_kept m rows n u us row k queue rest same fit = record {
  blank = λ j e. row_other rows n row j (λ f. apart j e f) ∙ k.blank j e;
  strangers = λ j d ge. eq_cases j n
      (λ e. subst (λ y. mode_at (set_row rows n row) y d ≡ mode.N) (sym e) (ap (λ r. r.modes d) (row_here rows n row) ∙ same d (λ f. let lt = (k.placed n u first).0 in omega (arith, f, ge, lt)) ∙ k.strangers n d ge))
      (λ ne. ap (λ r. r.modes d) (row_other rows n row j ne) ∙ k.strangers j d ge);
  beside = λ j. eq_cases j n
      (λ e. subst (λ y. AreCompatible (set_row rows n row y).modes) (sym e) (subst (λ r. AreCompatible r.modes) (sym (row_here rows n row)) (other_compatible (rows n).modes row.modes u.client (k.beside n) same fit)))
      (λ ne. subst (λ r. AreCompatible r.modes) (sym (row_other rows n row j ne)) (k.beside j));
  placed = λ j v at. ⊎_elim
      (λ (x : (j ≡ n) × In v row.queue). subst (λ y. IsPlaced m y v) (sym x.0) (k.placed n v (subst (In v) (sym queue) (inr (subst (In v) rest x.1)))))
      (λ (old : In v (rows j).queue). k.placed j v old)
      (in_row rows n row j v at);
  alone = λ c. alone_fewer (λ j. times c (rows j).queue) (λ j. times c (set_row rows n row j).queue) (k.alone c)
      (λ j. eq_cases j n
      (λ e. subst (λ y. times c (set_row rows n row y).queue ≤ times c (rows y).queue) (sym e) (let x = ap (λ r. times c r.queue) (row_here rows n row) in let y = ap (times c) queue in let z = ap (times c) rest in let w = times_more c u us in omega (arith, x, y, z, w)))
      (λ ne. let x = ap (λ r. times c r.queue) (row_other rows n row j ne) in omega (arith, x)));
}
  where
    first : In u (rows n).queue
    first = subst (In u) (sym queue) (inl refl)

    apart : (j : ℕ) → is_slot m j ≡ false → j ≢ n
    apart j e f = not_both (is_slot m n) (slot_waits m rows k n u first) (ap (is_slot m) (sym f) ∙ e)

pub dropped_kept : (m : Index) (rows : Rows) (n : ℕ) (u : Waiter) (us : List Waiter) → IsKept m rows → (rows n).queue ≡ u ∷ us → IsKept m (front_dropped rows n)
dropped_kept m rows n u us k queue = subst (IsKept m) (ap (λ q. set_row rows n (with_queue (rows n) (behind_first q))) (sym queue))
    (front_kept m rows n u us (with_queue (rows n) us) k queue refl (λ d ne. refl) (λ d ne. k.beside n u.client d (λ e. ne (sym e))))

-- the row of a client rises on a slot to what it wants there
pub raised_kept : (m : Index) (rows : Rows) (u : Waiter) → u.client < max_clients → (n : ℕ) → is_slot m n ≡ true → is_wanted_compatible rows n u ≡ true → IsKept m rows → IsKept m (raised rows n u)
raised_kept m rows u lt n there fit k = changed_kept m rows (raised rows n u) u.client lt k
    (λ i e. row_other rows n (with_mode (rows n) u.client (wanted (rows n) u)) i (λ f. not_both (is_slot m i) (ap (is_slot m) f ∙ there) e))
    (raised_queue rows n u)
    (λ i d ne. sym (raised_others rows n u d ne i))
    (λ i d ne. eq_cases i n
    (λ e. subst (λ y. compatible (mode_at (raised rows n u) y u.client) (mode_at rows y d) ≡ true) (sym e)
    (subst (λ x. compatible x (mode_at rows n d) ≡ true) (sym (ap (λ y. y.modes u.client) (row_here rows n (with_mode (rows n) u.client (wanted (rows n) u))) ∙ mode_here (rows n).modes u.client (wanted (rows n) u)))
    (compatible_row rows n u.client (wanted (rows n) u) (k.strangers n) fit d ne)))
    (λ ni. subst (λ y. compatible (y.modes u.client) (mode_at rows i d) ≡ true) (sym (row_other rows n (with_mode (rows n) u.client (wanted (rows n) u)) i ni)) (k.beside i u.client d (λ f. ne (sym f)))))

pub granted_kept : (r : ℕ) (m : Index) (rows : Rows) (n : ℕ) (u : Waiter) (us : List Waiter) → IsKept m rows → (rows n).queue ≡ u ∷ us → is_wanted_compatible rows n u ≡ true → IsKept m (granted r m rows n)
granted_kept r m rows n u us k queue can = subst (IsKept m) (sym (granted_is r m rows n u us queue))
    (along m u (IsKept m) n (λ rows j far there fit x. raised_kept m rows u lt j there fit x) (r - 1) n (set_row rows n first) (omega arith)
    (front_kept m rows n u us first k queue refl
    (λ d ne. mode_other (rows n).modes u.client d (wanted (rows n) u) ne)
    (λ d ne. subst (λ x. compatible x (mode_at rows n d) ≡ true) (sym (mode_here (rows n).modes u.client (wanted (rows n) u))) (compatible_row rows n u.client (wanted (rows n) u) (k.strangers n) can d ne))))
  where
    first : Row
    first = record { modes = set_mode (rows n).modes u.client (wanted (rows n) u); queue = us }

    lt : u.client < max_clients
    lt = (k.placed n u (subst (In u) (sym queue) (inl refl))).0
