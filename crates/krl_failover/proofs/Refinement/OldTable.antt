-- An old server raises a row for a grant, or lowers one as a release states.
use Rattle.krl_failover.proofs.Refinement.Names.{◌≡◌, ◌≢◌, ℕ, suc, ◌<◌, ◌≤◌, ◌⊎◌, inl, inr, ⊎_elim, true, refl, sym, ap, subst, ◌∙◌, arith, and_parts, END, Bounds, Mode, range_of, key_of, RangePart, KeyPart}
use Rattle.krl_failover.proofs.Refinement.Names.{In, Waiter, Row, Rows, mode_at, column, set_row, Head, Release, Shared, IsSlot, IsRow, put, put_changed, eq_cases, Server, silent, with_rows}
use Rattle.krl_failover.proofs.Refinement.Names.{IsSound, Fenced, IsHere, seen_by, FencedStep, IsHeardBy, ShowsOld}
use Rattle.std.proofs.lemmas.Bool.{cases_lt}
use Rattle.std.proofs.lemmas.Bool.Decides.{nat_tests}
use Rattle.std.specs.Prelude.{nat_le}
use Rattle.krl_modes.specs.Modes.{meet}
use Rattle.krl_modes.specs.Parts.{range_meet, key_meet}
use Rattle.krl_modes.specs.Spans.{within}
use Rattle.krl_modes.specs.declared.part.RangePart.TheVariants as range
use Rattle.krl_modes.specs.declared.part.KeyPart.TheVariants as key
use Rattle.krl_modes.proofs.ModeLaws.{meet-parts}
use Rattle.krl_modes.proofs.Weights.{reads_bound, inserts_bound, rank_bound}
use Rattle.krl_durable.specs.Index.{Index, span_of}
use Rattle.krl_table.specs.Calls.{lowered}
use Rattle.krl_table.proofs.Invariant.Compatible.{mode_here}
use Rattle.krl_machine.specs.Links.{InSpan, SlotLowered}
use Rattle.krl_machine.specs.Modes.{RangeAtMost, KeyAtMost, RangesAgree, KeysAgree}
use Rattle.krl_machine.specs.Tables as machine
use Rattle.krl_machine.proofs.Tables.{table_row, table_below, table_agree, range_slot, key_slot, slot_near, release_lowers}
use Rattle.krl_machine.proofs.Refines as refines
use Rattle.krl_server.specs.Effects.{lowers}
use Rattle.krl_server.proofs.Slots.{span_here}
use Rattle.krl_server.proofs.Updates.{row_here, row_other, row_modes}
use Rattle.krl_server.proofs.Invariant.RowsSound.{low_row, lowered_others, lowered_queue}
use Rattle.krl_refinement.specs.Messages.{last_of}
use Rattle.krl_refinement.proofs.Server.Meaning.{seen_in}
use Rattle.krl_failover.specs.Steps.{old_raises, old_releases}
use Rattle.krl_failover.proofs.Machine.Reached.{fenced_inv}
use Rattle.krl_failover.proofs.Refinement.OldMoves.{Goes, goes_not}
use Rattle.krl_failover.proofs.Refinement.OldPushes.{Whereabouts, is_here, is_gone, whereabouts, CanPush}
use Rattle.krl_failover.proofs.Refinement.OldRows.{seen_is, column_shows, superseded_rows, gone_rows, with_row, here_rows}

-- a part agrees with none
agree_none : (a : RangePart) (k : KeyPart) (b : RangePart) (j : KeyPart) → b ≡ range.N → j ≡ key.N → RangesAgree a b × KeysAgree k j
agree_none a k b j eb ej = rw eb (rw ej ((omega (arith, reads_bound a), omega (arith, inserts_bound a)), omega (arith, rank_bound k)))

-- Raised

-- one row of the client c is another, in which its mode is not below the old one and agrees with those of all others
module _ (s : Server) (f : Fenced) (i : IsSound s) (can : CanPush s f) (h : ShowsOld s f) (c n : ℕ) (row : Row) (slot : IsSlot (seen_in s.durable.index f.world.shared.epoch f.world.shared.phase) n) (rest : (d : ℕ) → d ≢ c → row.modes d ≡ mode_at s.rows n d) (stayed : (m : ℕ) (v : Waiter) → In v (set_row s.rows n row m).queue → In v (s.rows m).queue) where
  abbrev to : Rows
  to = set_row s.rows n row

  abbrev e : ℕ
  e = s.durable.epoch

  abbrev seen : Shared
  seen = seen_in s.durable.index f.world.shared.epoch f.world.shared.phase

  others : (d : ℕ) → d ≢ c → (m : ℕ) → mode_at s.rows m d ≡ mode_at to m d
  others d ne m = row_modes s.rows n row d (sym (rest d ne)) m

  column_new : column to c n ≡ row.modes c
  column_new = ap (λ r. r.modes c) (row_here s.rows n row)

  column_old : (m : ℕ) → m ≢ n → column to c m ≡ column s.rows c m
  column_old m ne = ap (λ r. r.modes c) (row_other s.rows n row m ne)

  heard : (m : ℕ) (u : Waiter) → In u (to m).queue → IsHeardBy e (f.world.links u.client) (f.old e u.client)
  heard m u at = h.heard m u (stayed m u at)

  shows : e ≡ f.bound → (d : ℕ) → IsHere (f.world.links d) (f.old e d) → refines.Shows seen (f.world.links d) (column s.rows d)
  shows is d here = column_shows s i f.world.shared.epoch d f.world.shared.phase (f.world.links d) (f.old e d) (h.rows is d) here

  module _ (up : RangeAtMost (range_of (mode_at s.rows n c)) (range_of (row.modes c)) × KeyAtMost (key_of (mode_at s.rows n c)) (key_of (row.modes c))) (agree : (d : ℕ) → d ≢ c → RangesAgree (range_of (row.modes c)) (range_of (mode_at s.rows n d)) × KeysAgree (key_of (row.modes c)) (key_of (mode_at s.rows n d))) where
    below : (m : ℕ) → IsSlot seen m → RangeAtMost (range_of (column s.rows c m)) (range_of (column to c m)) × KeyAtMost (key_of (column s.rows c m)) (key_of (column to c m))
    below m x = eq_cases m n
        (λ same. subst (λ y. RangeAtMost (range_of (column s.rows c y)) (range_of (column to c y)) × KeyAtMost (key_of (column s.rows c y)) (key_of (column to c y))) (sym same) (subst (λ g. RangeAtMost (range_of (mode_at s.rows n c)) (range_of g) × KeyAtMost (key_of (mode_at s.rows n c)) (key_of g)) (sym column_new) up))
        (λ ne. rw (column_old m ne) ((omega arith, omega arith), omega arith))

    -- before the raise the modes of two clients that are here agree on each slot
    before : (is : e ≡ f.bound) (d : ℕ) → d ≢ c → IsHere (f.world.links c) (f.old e c) → IsHere (f.world.links d) (f.old e d) → (m : ℕ) → IsSlot seen m → RangesAgree (range_of (column s.rows c m)) (range_of (column s.rows d m)) × KeysAgree (key_of (column s.rows c m)) (key_of (column s.rows d m))
    before is d ne here there m x =
        let a = (fenced_inv can.first END f can.reached).world.agree c d (λ y. ne (sym y)) m in
        let p = shows is c here in
        let q = shows is d there in
        subst (λ y. RangesAgree y (range_of (column s.rows d m)) × KeysAgree (key_of (column s.rows c m)) (key_of (column s.rows d m))) (p.range m ∙ range_slot seen i.near (column s.rows c) m x)
        (subst (λ y. RangesAgree ((f.world.links c).top_range m) y × KeysAgree (key_of (column s.rows c m)) (key_of (column s.rows d m))) (q.range m ∙ range_slot seen i.near (column s.rows d) m x)
        (subst (λ y. RangesAgree ((f.world.links c).top_range m) ((f.world.links d).top_range m) × KeysAgree y (key_of (column s.rows d m))) (p.key m ∙ key_slot seen i.near (column s.rows c) m x)
        (subst (λ y. RangesAgree ((f.world.links c).top_range m) ((f.world.links d).top_range m) × KeysAgree ((f.world.links c).top_key m) y) (q.key m ∙ key_slot seen i.near (column s.rows d) m x) a)))

    agrees : (is : e ≡ f.bound) (d : ℕ) → d ≢ c → IsHere (f.world.links c) (f.old e c) → IsHere (f.world.links d) (f.old e d) → (m : ℕ) → IsSlot seen m → RangesAgree (range_of (column to c m)) (range_of (column s.rows d m)) × KeysAgree (key_of (column to c m)) (key_of (column s.rows d m))
    agrees is d ne here there m x = eq_cases m n
        (λ same. subst (λ y. RangesAgree (range_of (column to c y)) (range_of (column s.rows d y)) × KeysAgree (key_of (column to c y)) (key_of (column s.rows d y))) (sym same) (subst (λ g. RangesAgree (range_of g) (range_of (mode_at s.rows n d)) × KeysAgree (key_of g) (key_of (mode_at s.rows n d))) (sym column_new) (agree d ne)))
        (λ nm. rw (column_old m nm) (before is d ne here there m x))

    abbrev new_range : ℕ → RangePart
    new_range = machine.range_at seen (column to c)

    abbrev new_key : ℕ → KeyPart
    new_key = machine.key_at seen (column to c)

    step : (is : e ≡ f.bound) → IsHere (f.world.links c) (f.old e c) → FencedStep f (with_row f c new_range new_key)
    step is here =
        let p = shows is c here in
        old_raises c new_range new_key (put f.world.links c (record (f.world.links c) { top_range = new_range; top_key = new_key })) (can.phase is)
        (subst (λ x. IsRow (seen_by f x) new_range new_key) is (subst (λ x. IsRow x new_range new_key) (seen_is s f can.far h) (table_row seen i.near (column to c))))
        (λ q. rw (p.range q) (rw (p.key q) (table_below seen i.near (column s.rows c) (column to c) below q)))
        (λ d ne q. by_place is here d ne q (whereabouts (f.world.links d) (f.old e d)))
        (put_changed f.world.links c (record (f.world.links c) { top_range = new_range; top_key = new_key }))
      where
        by_place : (is : e ≡ f.bound) → IsHere (f.world.links c) (f.old e c) → (d : ℕ) → d ≢ c → (q : ℕ) → Whereabouts (f.world.links d) (f.old e d) → RangesAgree (new_range q) ((f.world.links d).top_range q) × KeysAgree (new_key q) ((f.world.links d).top_key q)
        by_place is here d ne q (is_here there) =
            let p = shows is d there in
            rw (p.range q) (rw (p.key q) (table_agree seen i.near (column to c) (column s.rows d) (agrees is d ne here there) q))
        by_place is here d ne q (is_gone why out) = let x = (h.rows is d).gone out q in agree_none (new_range q) (new_key q) ((f.world.links d).top_range q) ((f.world.links d).top_key q) x.0 x.1

    pub raises : Goes s f (silent (with_rows s to))
    raises = ⊎_elim
        (λ (low : e < f.bound). goes_not s (with_rows s to) f (superseded_rows s to f low heard h))
        (λ (ge : f.bound ≤ e). let lower = can.low in by_place (omega (arith, ge, lower)) (whereabouts (f.world.links c) (f.old e c)))
        (cases_lt e f.bound)
      where
        by_place : e ≡ f.bound → Whereabouts (f.world.links c) (f.old e c) → Goes s f (silent (with_rows s to))
        by_place is (is_here here) = here_rows s to f c i is here others heard (step is here) h
        by_place is (is_gone why out) = goes_not s (with_rows s to) f (gone_rows s to f c is out others heard h)

-- Lowered

-- the points of a span that lies within another
span_within : (m : Index) (n : ℕ) (span : Bounds) → within (span_of m n) span ≡ true → (span.lo ≤ (span_of m n).lo) × (suc n ≤ span.hi)
span_within m n span e = let x = and_parts (nat_le span.lo (span_of m n).lo) (nat_le (span_of m n).hi span.hi) e in
    (at_most span.lo (span_of m n).lo x.0, at_most (span_of m n).hi span.hi x.1)
  where
    at_most : (a b : ℕ) → nat_le a b ≡ true → a ≤ b
    at_most a b e = grind (arith, nat_tests)

abbrev release : Head → Bounds → Mode → Release
release a span keep = record { head = a; lo = span.lo; last = last_of span; range = range_of keep; key = key_of keep }

module _ (s : Server) (f : Fenced) (i : IsSound s) (can : CanPush s f) (h : ShowsOld s f) (c : ℕ) (a : Head) (span : Bounds) (keep : Mode) where
  abbrev rows : Rows
  rows = lowered s.durable.index s.rows c span keep

  abbrev own : ℕ
  own = s.durable.epoch

  abbrev view : Shared
  view = seen_in s.durable.index f.world.shared.epoch f.world.shared.phase

  abbrev low_range : ℕ → RangePart
  low_range = machine.range_at view (column rows c)

  abbrev low_key : ℕ → KeyPart
  low_key = machine.key_at view (column rows c)

  low_heard : (m : ℕ) (u : Waiter) → In u (rows m).queue → IsHeardBy own (f.world.links u.client) (f.old own u.client)
  low_heard m u at = h.heard m u (subst (In u) (lowered_queue s.durable.index s.rows c span keep m) at)

  low_slots : (p : refines.Shows view (f.world.links c) (column s.rows c)) → (n : ℕ) → IsSlot view n → SlotLowered view (release a span keep) (f.world.links c) low_range low_key n
  low_slots p n slot =
      let m = s.durable.index in
      let old = column s.rows c in
      release_lowers view i.near (release a span keep) (f.world.links c) old (column rows c) p.range p.key n slot
      (low_row m s.rows c span keep n (λ x. ((range_of (x.modes c) ≡ range_of (old n)) × (key_of (x.modes c) ≡ key_of (old n))) ⊎ (((q : ℕ) → InSpan view n q → (span.lo ≤ q) × (q ≤ last_of span)) × (range_of (x.modes c) ≡ range_meet (range_of (old n)) (range_of keep)) × (key_of (x.modes c) ≡ key_meet (key_of (old n)) (key_of keep))))
      (λ w. let x = span_within m n span w in
      let g = mode_here (s.rows n).modes c (meet (mode_at s.rows n c) keep) in
      inr (
        (λ q near. let y = (span_here m i.near n q (slot_near view i.near n slot)).0 near in (omega (arith, x.0, y.0), omega (arith, x.1, y.1))),
        ap range_of g ∙ (meet-parts (mode_at s.rows n c) keep).range,
        ap key_of g ∙ (meet-parts (mode_at s.rows n c) keep).key,
      ))
      (inl (refl, refl)))

  -- what the step of the machine asks for
  abbrev Asks : ℕ → Type 0
  Asks x = IsHere (f.world.links c) (f.old x c) × (a.inc ≡ (f.old x c).reg) × (a.epoch ≡ x) × (a.seen ≡ (f.old x c).last)
      × ((n : ℕ) → IsSlot (seen_by f x) n → SlotLowered (seen_by f x) (release a span keep) (f.world.links c) low_range low_key n)
      × IsRow (seen_by f x) low_range low_key

  module _ (at : In (release a span keep) (f.world.links c).releases) (inc : a.inc ≡ (f.old own c).reg) (now : a.epoch ≡ own) (seen_last : a.seen ≡ (f.old own c).last) where
    low_step : own ≡ f.bound → IsHere (f.world.links c) (f.old own c) → FencedStep f (with_row f c low_range low_key)
    low_step is here =
        let p = column_shows s i f.world.shared.epoch c f.world.shared.phase (f.world.links c) (f.old own c) (h.rows is c) here in
        let seen_path = seen_is s f can.far h in
        let asks : Asks f.bound = subst Asks is (
          here,
          inc,
          now,
          seen_last,
          subst (λ x. (n : ℕ) → IsSlot x n → SlotLowered x (release a span keep) (f.world.links c) low_range low_key n) seen_path (low_slots p),
          subst (λ x. IsRow x low_range low_key) seen_path (table_row view i.near (column rows c)),
        ) in
        old_releases c (release a span keep) low_range low_key (put f.world.links c (record (f.world.links c) { top_range = low_range; top_key = low_key })) (can.phase is) asks.0 at asks.1 asks.2 asks.3 asks.4 asks.5
        (put_changed f.world.links c (record (f.world.links c) { top_range = low_range; top_key = low_key }))

    pub lowers_goes : Goes s f (silent (lowers s c span keep))
    lowers_goes = ⊎_elim
        (λ (low : own < f.bound). goes_not s (with_rows s rows) f (superseded_rows s rows f low low_heard h))
        (λ (ge : f.bound ≤ own). let lower = can.low in by_place (omega (arith, ge, lower)) (whereabouts (f.world.links c) (f.old own c)))
        (cases_lt own f.bound)
      where
        low_others : (d : ℕ) → d ≢ c → (n : ℕ) → mode_at s.rows n d ≡ mode_at rows n d
        low_others d ne = lowered_others s.durable.index s.rows c span keep d ne

        by_place : own ≡ f.bound → Whereabouts (f.world.links c) (f.old own c) → Goes s f (silent (with_rows s rows))
        by_place is (is_here here) = here_rows s rows f c i is here low_others low_heard (low_step is here) h
        by_place is (is_gone why out) = goes_not s (with_rows s rows) f (gone_rows s rows f c is out low_others low_heard h)
