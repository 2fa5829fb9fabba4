-- A scan over two shards that finds an entry.
use Rattle.std.proofs.Common.{◌≡◌, ℕ, ◌<◌, ◌≤◌, ◌∙◌, Bool, true, false, cond, [], ◌∷◌, None, Some, Option, refl, sym, ap, subst, arith}
use Rattle.std.specs.Prelude.{nat_lt, nat_le, ◌&&◌, if◌then◌else◌}
use Rattle.std.specs.List.{filter}
use Rattle.std.specs.Bool.{passes}
use Rattle.std.specs.Ordering.{nat_cmp}
use Rattle.std.specs.declared.cmp.Ordering.TheVariants.{Equal}
use Rattle.std.specs.FinMap as map
use Rattle.std.specs.FinMap.Entries.{is_sorted, find, find-where_key, is_sorted-where_key}
use Rattle.std.proofs.Math.Logic.{⊎_elim}
use Rattle.std.proofs.lemmas.Bool.{cases_lt}
use Rattle.std.proofs.lemmas.Bool.Decides.{nat_tests}
use Rattle.krl_modes.specs.Spans.{Bounds, contains}
use Rattle.krl_modes.proofs.SpanLaws.{inside_span, in_span}
use Rattle.krl_messages.specs.Values.{Value}
use Rattle.krl_messages.specs.declared.write_op.WriteOp.{WriteOp}
use Rattle.krl_durable.proofs.Slots.{is_true}
use Rattle.krl_cache.specs.Beliefs.{Belief, AreRows}
use Rattle.krl_client.specs.Clients.{Client, outstanding}
use Rattle.krl_client.specs.Splits.{is_in}
use Rattle.krl_client.specs.Commands.{ScanGives, is_pending, finds_rows, misses, scan_refusal}
use Rattle.krl_client.specs.declared.scan_answer.ScanAnswer.{ScanAnswer}
use Rattle.krl_client.specs.declared.scan_answer.ScanAnswer.TheVariants as scanned
use Rattle.krl_messages.specs.Writes.{op_key}
use Rattle.krl_steps.specs.Refusals.{refused_by_client}
use Rattle.krl_steps.specs.declared.step.Command.TheVariants as command
use Rattle.krl_world.specs.States.{State, index_of}
use Rattle.krl_world.specs.Steps.{Steps, span, of_client, if_runs, named, command_refusal}
use Rattle.krl_world.proofs.Examples.Running.{w6, reached, scans}
use Rattle.krl_shards.specs.Partition.{first_of, end_of, IsPartition}
use Rattle.krl_shards.specs.Parts.{Follow}
use Rattle.krl_world_laws.specs.Readers.{Rows, AnswersScan}
use Rattle.krl_world_laws.specs.Shards.Scans.{AnswerAll}
use Rattle.krl_world_laws.specs.Shards.Somewhere.{two, halves, ScansBothSomewhere}
use Rattle.krl_world_laws.proofs.Shards.Scanned.{all_of_worlds}

-- What answers a scan answers each part of it

abbrev part : Bounds → Rows → Rows
part t rows = filter (λ e. nat_le t.lo e.0 && nat_lt e.0 t.hi) rows

alike : (p : ℕ → Bool) (q x : ℕ) → nat_cmp q x ≡ Equal → p x ≡ p q
alike p q x e = ap p (sym (map.nat_cmp-IsAntisymmetric q x e))

in_or_out : (b : Belief) (s t : Bounds) (p : ℕ) (inside : Bool) (found : Option Value) → s.lo ≤ t.lo → t.hi ≤ s.hi → contains t p ≡ inside → found ≡ (if contains s p then b.value_at p else None) → cond inside found None ≡ (if inside then b.value_at p else None)
in_or_out b s t p true found low high e h =
    let at = inside_span t p e in
    h ∙ ap (λ x. if x then b.value_at p else None) (in_span s p (omega (arith, at)) (omega (arith, at)))
in_or_out b s t p false found low high e h = refl

part_rows : (b : Belief) (s t : Bounds) (rows : Rows) → s.lo ≤ t.lo → t.hi ≤ s.hi → AreRows b s rows → AreRows b t (part t rows)
part_rows b s t rows low high r = record {
  sorted = is_true _ (is_sorted-where_key nat_cmp (λ k. nat_le t.lo k && nat_lt k t.hi) rows (passes (is_sorted nat_cmp rows) r.sorted));
  at = λ p. find-where_key nat_cmp (λ k. nat_le t.lo k && nat_lt k t.hi) p (alike (λ k. nat_le t.lo k && nat_lt k t.hi) p) rows
      ∙ in_or_out b s t p (contains t p) (find nat_cmp p rows) low high refl (r.at p);
}

out : (s t : Bounds) (k : ℕ) → s.lo ≤ t.lo → t.hi ≤ s.hi → (nat_le s.lo k && nat_lt k s.hi) ≡ false → (nat_le t.lo k && nat_lt k t.hi) ≡ false
out s t k low high e = grind (arith, nat_tests)

not_writing : (s t : Bounds) (change : Option WriteOp) → s.lo ≤ t.lo → t.hi ≤ s.hi → is_in s change ≡ false → is_in t change ≡ false
not_writing s t None low high e = refl
not_writing s t (Some change) low high e = out s t (op_key change) low high e

part_answers : (k : Client) (s t : Bounds) (rows : Rows) (a : ScanAnswer) → s.lo ≤ t.lo → t.hi ≤ s.hi → ScanGives k s a → a ≡ scanned.Rows rows → ScanGives k t (scanned.Rows (part t rows))
part_answers k s t rows _ low high (is_pending change o i) e = absurd (cc)
part_answers k s t rows _ low high (misses p f h) e = absurd (cc)
part_answers k s t rows _ low high (finds_rows found f h) e =
    let same : found ≡ rows = cc in
    subst (λ xs. ScanGives k t (scanned.Rows (part t xs))) same
    (finds_rows (part t found) (not_writing s t (outstanding k.written) low high f) (λ p at. h.0 p (omega (arith, at), omega (arith, at)), part_rows k.belief s t found low high h.1))

part_scan : (w : State) (lo hi : ℕ) (rows : Rows) → hi ≤ 11 → scan_refusal (span lo hi) ≡ None → AnswersScan w 0 0 11 rows → AnswersScan w 0 lo hi (part (span lo hi) rows)
unfolding Steps
part_scan w lo hi rows high ok a = (
  subst (λ o. of_client 0 (if_runs o (λ k. named refused_by_client (command_refusal k (command.Scan lo hi)))) ≡ None) (sym a.1.1) (ap (named refused_by_client) ok),
  (a.1.0, a.1.1, (part_answers a.1.0 (span 0 11) (span lo hi) rows (scanned.Rows rows) (omega arith) high a.1.2.0 refl, refl)),
)

-- The scan

is_partition : IsPartition two
is_partition i le = ⊎_elim
    (λ (lt : i < 1). let is : i ≡ 0 = omega arith in subst (λ n. first_of two n < end_of two n) (sym is) (omega arith))
    (λ (ge : 1 ≤ i). let is : i ≡ 1 = omega arith in subst (λ n. first_of two n < end_of two n) (sym is) (omega arith))
    (cases_lt i 1)

pub follow : Follow two 11 0 11 halves
follow = (
  record { begins = refl; ends = refl; whole = omega arith; shard = record { there = omega arith; lies = (omega arith, omega arith) } },
  (record { begins = refl; ends = refl; whole = omega arith; shard = record { there = omega arith; lies = (omega arith, omega arith) } }, refl),
)

pub answers : AnswerAll (λ i. w6) (λ i. 0) halves ((10, 1 ∷ []) ∷ [])
answers = (
  [],
  (10, 1 ∷ []) ∷ [],
  part_scan w6 0 5 ((10, 1 ∷ []) ∷ []) (omega arith) refl scans,
  ((10, 1 ∷ []) ∷ [], [], part_scan w6 5 11 ((10, 1 ∷ []) ∷ []) (omega arith) refl scans, refl, refl),
  refl,
)

pub scans_both : ScansBothSomewhere
scans_both = (
  λ i. w6,
  index_of w6,
  record {
    partition = is_partition;
    reachable = λ i le. reached;
    together = λ i k le at. refl;
    parts = follow;
    answers = answers;
    rows = all_of_worlds two (λ i. w6) (λ i. 0) (index_of w6) 0 11 halves ((10, 1 ∷ []) ∷ []) (λ i le. reached) (λ i k le at. refl) follow answers;
  },
)
