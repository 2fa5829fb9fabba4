-- What the machine promises of compatibility and scans holds in each world that shows in it.
use Rattle.krl_world.proofs.Names.{◌≡◌, ◌≢◌, ℕ, ◌≤◌, ◌<◌, ◌∙◌, Bool, true, false, ◌||◌, ◌&&◌, cond, Option, Some, None, List, ◌⊎◌, inl, inr, refl, sym, ap, subst, ⊎_elim, arith, nat_eq, leb-true}
use Rattle.krl_world.proofs.Names.{eqb-true, eqb-false, and_parts, not-false, nat_cmp, find-where_key, is_sorted-where_key, END, TOP, RangePart, KeyPart, ranges_compatible, keys_compatible}
use Rattle.krl_world.proofs.Names.{reads_key, reads_gap, Bounds, IsPointOf, contains, Value, Logged, ranges_agree_by_table, keys_agree_by_table, Index, Belief, is_covered, is_span, CoversAll}
use Rattle.krl_world.proofs.Names.{AreRows, Client, is_writing_in, ScanGives, is_pending, finds_rows, misses, scan_refusal, ShowsClient, ShowsPlace, passed, ServerPlace}
use Rattle.krl_world.proofs.Names.{Up, Down, State, durable_of, index_of, client_of, range_believed, key_believed, span, command_refusal, Takes, refused_by_client, IsCompatible}
use Rattle.std.specs.Prelude.{if◌then◌else◌, nat_lt, nat_le}
use Rattle.std.specs.declared.cmp.Ordering.TheVariants.{Equal}
use Rattle.std.specs.FinMap as map
use Rattle.krl_modes.specs.declared.part.RangePart.TheVariants as range
use Rattle.krl_modes.specs.declared.part.KeyPart.TheVariants as key
use Rattle.krl_modes.specs.Weights.{rank, reads}
use Rattle.krl_machine.specs.Links.{Op, op_key, Link}
use Rattle.krl_machine.specs.Worlds as machine
use Rattle.krl_durable.specs.Index as index
use Rattle.krl_durable.proofs.Slots.{is_true}
use Rattle.krl_cache.proofs.Calls.{past_end}
use Rattle.krl_cache.proofs.OneScan.{rows_are_determined}
use Rattle.krl_modes.proofs.SpanLaws.{inside_span}
use Rattle.krl_client.specs.declared.scan_answer.ScanAnswer.{ScanAnswer}
use Rattle.krl_client.specs.declared.scan_answer.ScanAnswer.TheVariants as scanned
use Rattle.krl_refinement.proofs.Client.Steps.{not_in}
use Rattle.krl_steps.specs.declared.step.Step.TheVariants as step
use Rattle.krl_steps.specs.declared.step.Command.TheVariants as command
use Rattle.krl_steps.specs.declared.answer.Answer.TheVariants as told
use Rattle.krl_world.proofs.Refinement.Mirrors.{machine_of, shared_of, ServerShows, Mirrors}
use Rattle.krl_world.proofs.Refinement.Taken.{client_ok, not_named, runs_ok}

in_or_out : (s : Bounds) (f g : ℕ → Option Value) (p : ℕ) (t : Bool) → contains s p ≡ t → (IsPointOf s p → f p ≡ g p) → (if t then f p else None) ≡ (if t then g p else None)
in_or_out s f g p true e h = h (inside_span s p e)
in_or_out s f g p false e h = refl

-- what agrees at each point of the span has the same rows there
pub rows_agree : (b c : Belief) (s : Bounds) (rows : List (ℕ × Value)) → ((p : ℕ) → IsPointOf s p → b.value_at p ≡ c.value_at p) → AreRows b s rows → AreRows c s rows
rows_agree b c s rows h r = record { sorted = r.sorted; at = λ p. r.at p ∙ in_or_out s b.value_at c.value_at p (contains s p) refl (h p) }

-- What all links see

pub index_is : (n : ServerPlace) (q : ℕ) → (shared_of n).index q ≡ map.get (durable_of n).index q
index_is (Up s) q = refl
index_is (Down d) q = refl

pub end_is : (n : ServerPlace) → (shared_of n).end ≡ END
end_is (Up s) = refl
end_is (Down d) = refl

no_key_at_end : (n : ServerPlace) (of : ℕ → Link) → ServerShows n of → map.get (durable_of n).index END ≡ None
no_key_at_end (Up s) of h = h.1.near END (omega arith)
no_key_at_end (Down d) of h = h.1.near END (omega arith)

-- Compatibility

range_n : (r : RangePart) → ranges_compatible r range.N ≡ true
range_n range.N = refl
range_n range.S = refl
range_n range.I = refl
range_n range.X = refl

key_n : (k : KeyPart) → keys_compatible k key.N ≡ true
key_n key.N = refl
key_n key.S = refl
key_n key.U = refl
key_n key.X = refl

pub compatible_world : (w : State) (of : ℕ → Link) (log : List Logged) → Mirrors w of log → machine.IsCompatible (machine_of w.server of log) → IsCompatible w
compatible_world w of log h ok c d p ne = agree (client_of w c) (client_of w d) (h.places c) (h.places d)
  where
    agree : (x y : Option Client) → ShowsPlace c (w.places c).last_incarnation x (of c) → ShowsPlace d (w.places d).last_incarnation y (of d) → (ranges_compatible (range_believed x p) (range_believed y p) ≡ true) × (keys_compatible (key_believed x p) (key_believed y p) ≡ true)
    agree None y a b = (refl, refl)
    agree (Some k) None a b = (range_n (k.belief.range_at p), key_n (k.belief.key_at p))
    agree (Some k) (Some n) a b = let both = ok c d ne p in (
      subst (λ r. ranges_compatible r (n.belief.range_at p) ≡ true) (sym (a.1.range p)) (subst (λ r. ranges_compatible ((of c).range p) r ≡ true) (sym (b.1.range p)) ((ranges_agree_by_table _ _).1 both.0)),
      subst (λ r. keys_compatible r (n.belief.key_at p) ≡ true) (sym (a.1.key p)) (subst (λ r. keys_compatible ((of c).key p) r ≡ true) (sym (b.1.key p)) ((keys_agree_by_table _ _).1 both.1)),
    )

-- Scans

-- the index, as what a client would believe that knows it
abbrev index_believed : Index → Belief
index_believed m = record { range_at = λ p. range.N; key_at = λ p. key.N; value_at = map.get m }

alike : (p : ℕ → Bool) (q x : ℕ) → nat_cmp q x ≡ Equal → p x ≡ p q
alike p q x e = ap p (sym (map.nat_cmp-IsAntisymmetric q x e))

-- a range of the index is the rows of its span
range_rows : (m : Index) (lo hi : ℕ) → AreRows (index_believed m) (span lo hi) (index.range m lo hi)
range_rows m lo hi = record {
  sorted = is_true _ (is_sorted-where_key nat_cmp (λ k. nat_le lo k && nat_lt k hi) (map.entries m) (map.entries_sorted m));
  at = λ p. find-where_key nat_cmp (λ k. nat_le lo k && nat_lt k hi) p (alike (λ k. nat_le lo k && nat_lt k hi) p) (map.entries m) ∙ ap (λ o. cond (nat_le lo p && nat_lt p hi) o None) (sym (map.get-entries m p));
}

covered_by : (k : KeyPart) (r : RangePart) → (reads_key k || reads_gap r) ≡ true → (1 ≤ rank k) ⊎ ((k ≡ key.N) × (1 ≤ reads r))
covered_by key.N range.N e = absurd (cc)
covered_by key.N range.S e = inr (refl, omega arith)
covered_by key.N range.I e = absurd (cc)
covered_by key.N range.X e = inr (refl, omega arith)
covered_by key.S r e = inl (omega arith)
covered_by key.U r e = inl (omega arith)
covered_by key.X r e = inl (omega arith)

covers : (k : Client) (l : Link) (c p : ℕ) → ShowsClient c k l.client → is_covered k.belief p ≡ true → machine.IsCovered l p
covers k l c p h e = subst (λ x. (1 ≤ rank x) ⊎ ((x ≡ key.N) × (1 ≤ reads (l.range p)))) (h.key p) (subst (λ x. (1 ≤ rank (k.belief.key_at p)) ⊎ ((k.belief.key_at p ≡ key.N) × (1 ≤ reads x))) (h.range p) (covered_by (k.belief.key_at p) (k.belief.range_at p) e))

-- no write is outstanding at a point of a span where none is written
not_out : (k : Client) (l : Link) (c : ℕ) (s : Bounds) (p : ℕ) → ShowsClient c k l.client → is_writing_in k s ≡ false → IsPointOf s p → (x : Op) → l.out ≡ Some x → (op_key x < p) ⊎ (p < op_key x)
not_out k l c s p h free at x e = let lo = at.0 in let hi = at.1 in
    ⊎_elim (λ (a : op_key x < s.lo). inl (omega arith)) (λ (a : s.hi ≤ op_key x). inr (omega arith)) (not_in s k l.out h.out free x e)

-- the cached value at a point that a scan covers is the index's
value_is : (w : State) (of : ℕ → Link) (log : List Logged) (c : ℕ) (k : Client) (s : Bounds) (p : ℕ) (t : Bool) → Mirrors w of log → machine.ScanIsIndex (machine_of w.server of log) → ShowsClient c k (of c).client → is_writing_in k s ≡ false → is_covered k.belief p ≡ true → IsPointOf s p → s.hi ≤ TOP → nat_eq p END ≡ t → k.belief.value_at p ≡ map.get (index_of w) p
value_is w of log c k s p true m scan h free covered at top e = let i = eqb-true p END e in
    subst (λ x. k.belief.value_at x ≡ map.get (index_of w) x) (sym i) (h.at_end ∙ sym (no_key_at_end w.server of m.server))
value_is w of log c k s p false m scan h free covered at top e =
    let ne : p ≢ END = eqb-false p END e in
    let j = end_is w.server in
    let hi = at.1 in
    let q = past_end in
    let x = scan c p p (omega arith) (not_out k (of c) c s p h free at) (λ y a b. let one : p ≡ y = omega (arith, a, b) in subst (λ z. machine.IsCovered (of c) z) one (covers k (of c) c p h covered)) p (omega arith) (omega arith) in
    h.value p ne ∙ x ∙ index_is w.server p

scan_rows : (w : State) (of : ℕ → Link) (log : List Logged) (c lo hi : ℕ) (k : Client) (rows : List (ℕ × Value)) (a : ScanAnswer) → Mirrors w of log → machine.ScanIsIndex (machine_of w.server of log) → client_of w c ≡ Some k → scan_refusal (span lo hi) ≡ None → ScanGives k (span lo hi) a → a ≡ scanned.Rows rows → rows ≡ index.range (index_of w) lo hi
scan_rows w of log c lo hi k rows _ m scan up ok (is_pending change o i) e = absurd (cc)
scan_rows w of log c lo hi k rows _ m scan up ok (misses p f h) e = absurd (cc)
scan_rows w of log c lo hi k rows _ m scan up ok (finds_rows found f h) e =
    let is : is_span (span lo hi) ≡ true = not-false _ (passed _ _ _ ok).0 in
    let top : hi ≤ TOP = leb-true hi TOP (and_parts (nat_lt lo hi) (nat_le hi TOP) is).1 in
    let place : ShowsPlace c (w.places c).last_incarnation (Some k) (of c) = subst (λ x. ShowsPlace c (w.places c).last_incarnation x (of c)) up (m.places c) in
    let r : rows ≡ found = cc in
    r ∙ rows_are_determined (index_believed (index_of w)) (span lo hi) found (index.range (index_of w) lo hi)
    (rows_agree k.belief (index_believed (index_of w)) (span lo hi) found (λ p at. value_is w of log c k (span lo hi) p (nat_eq p END) m scan place.1 f (h.0 p at) at top refl) h.1)
    (range_rows (index_of w) lo hi)

-- a span that a client knows has the rows of the index
pub rows_of_scan : (w : State) (of : ℕ → Link) (log : List Logged) (c lo hi : ℕ) (k : Client) → Mirrors w of log → machine.ScanIsIndex (machine_of w.server of log) → client_of w c ≡ Some k → is_span (span lo hi) ≡ true → is_writing_in k (span lo hi) ≡ false → CoversAll k.belief (span lo hi) → AreRows k.belief (span lo hi) (index.range (index_of w) lo hi)
rows_of_scan w of log c lo hi k m scan up is free covers =
    let top : hi ≤ TOP = leb-true hi TOP (and_parts (nat_lt lo hi) (nat_le hi TOP) is).1 in
    let place : ShowsPlace c (w.places c).last_incarnation (Some k) (of c) = subst (λ x. ShowsPlace c (w.places c).last_incarnation x (of c)) up (m.places c) in
    rows_agree (index_believed (index_of w)) k.belief (span lo hi) (index.range (index_of w) lo hi)
    (λ p at. sym (value_is w of log c k (span lo hi) p (nat_eq p END) m scan place.1 free (covers p at) at top refl))
    (range_rows (index_of w) lo hi)

-- the rows of a scan that is taken
pub scans_world : (w : State) (of : ℕ → Link) (log : List Logged) → Mirrors w of log → machine.ScanIsIndex (machine_of w.server of log) → (c lo hi : ℕ) (rows : List (ℕ × Value)) (v : State) → Takes w (step.Command c (command.Scan lo hi)) (told.Rows rows) v → rows ≡ index.range (index_of w) lo hi
scans_world w of log h scan c lo hi rows v t = let k = t.1.0 in
    scan_rows w of log c lo hi k rows (scanned.Rows rows) h scan t.1.1 (not_named refused_by_client (command_refusal k (command.Scan lo hi)) (runs_ok (client_of w c) k _ t.1.1 (client_ok c _ t.0))) t.1.2.0 refl
