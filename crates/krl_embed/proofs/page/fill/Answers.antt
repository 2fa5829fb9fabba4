use Rattle.std.proofs.Common.{◌≡◌, ℕ, suc, ◌+◌, ◌≤◌, ◌<◌, ◌∙◌, Bool, true, false, List, [], ◌∷◌, ◌++◌, length, take, drop, map, set, sym, ap, subst, add-one, arith}
use Rattle.std.specs.Prelude.{◌==◌}
use Rattle.std.specs.FinMap as fin
use Rattle.krl_messages.specs.Values.{Value}
use Rattle.krl_blocks.specs.Entries.{IsRun}
use Rattle.krl_durable.specs.Index.{Index, range}
use Rattle.krl_embed.specs.declared.rows.Row.{Row}
use Rattle.krl_embed.specs.Rows.{row_of}
use Rattle.krl_embed.proofs.PageLemmas.{BeginsBy, first_is, none_is, none_found, begins, beyond, run_on}
use Rattle.krl_embed.proofs.RowsLemmas.{popped, copied_one}
use Rattle.krl_embed.proofs.FilledLemmas.{ended, full}
use Rattle.krl_embed.proofs.page.fill.Goals as goal

-- what a step makes true
record HasCopied (index : Index) (lo hi : ℕ) (was now : List Row) (i : ℕ) (e : ℕ × Value) : Type 0 where
  within : i + 1 ≤ length (range index lo hi)
  left : drop (i + 1) (range index lo hi) ≡ range index (e.0 + 1) hi
  rows : now ≡ map row_of (take (i + 1) (range index lo hi)) ++ drop (i + 1) was

copied : (index : Index) (lo hi point : ℕ) (was now : List Row) (i : ℕ) (e : ℕ × Value) (x : Row) → BeginsBy index point hi e
    → drop i (range index lo hi) ≡ range index point hi → i < length was → x ≡ row_of e
    → now ≡ map row_of (take i (range index lo hi)) ++ drop i was → HasCopied index lo hi was (set now i x) i e
copied index lo hi point was now i e x begun left room row rows =
    let found : List (ℕ × Value) = range index lo hi in
    let p = popped found i e (range index (suc e.0) hi) (left ∙ begun.rest) in
    record {
      within = omega (arith, p.0);
      left = p.2 ∙ ap (λ (k : ℕ). range index k hi) (sym (add-one e.0));
      rows = copied_one found was now i e x p.0 room p.1 row rows;
    }

some_left : (rest : List (ℕ × Value)) (b : Bool) → b ≡ (length rest == 0) → b ≡ false → rest ≡ [] → ⊥
some_left [] b is more none = absurd (let bad : true ≡ false = sym is ∙ more in cc)
some_left (e ∷ rest) b is more none = absurd (cc)

pub returns : goal.returns
returns c =
    let run = c.loop-entry.run.now in
    let none = none_found c.args.durable.now.index c.loop-entry.point c.args.hi run c.loop-entry.invariant.run (none_is run c.in_default.ensures.cases) in
    ended (range c.args.durable.now.index c.args.lo c.args.hi) c.args.hi c.args.rows.now c.loop-entry.rows
    c.loop-entry.count c.loop-entry.invariant.within c.loop-entry.invariant.room
    (c.loop-entry.invariant.left ∙ none) c.loop-entry.invariant.rows

pub returns-then-entry-hi : goal.returns-then-entry-hi
returns-then-entry-hi c =
    let run = c.loop-entry.run.now in let e : ℕ × Value = c.in-Some.entry.now in
    let none = beyond c.args.durable.now.index c.loop-entry.point c.args.hi run c.loop-entry.invariant.run e (first_is run c.in-Some.rest.now e c.in-Some.ensures.cases.0) c.if-entry-hi.true in
    ended (range c.args.durable.now.index c.args.lo c.args.hi) c.args.hi c.args.rows.now c.loop-entry.rows
    c.loop-entry.count c.loop-entry.invariant.within c.loop-entry.invariant.room
    (c.loop-entry.invariant.left ∙ none) c.loop-entry.invariant.rows

pub returns-then-count-rows : goal.returns-then-count-rows
returns-then-count-rows c =
    let index = c.args.durable.now.index in let e : ℕ × Value = c.in-Some.entry.now in
    let first = begins index c.loop-entry.point c.args.hi c.loop-entry.run.now c.loop-entry.invariant.run e (first_is c.loop-entry.run.now c.in-Some.rest.now e c.in-Some.ensures.cases.0) c.if-entry-hi.false in
    full (range index c.args.lo c.args.hi) c.args.hi c.args.rows.now c.loop-entry.rows c.loop-entry.count e (range index (suc e.0) c.args.hi)
    c.loop-entry.invariant.within (omega (arith, c.if-count-rows.true, c.loop-entry.auto.rows)) (c.loop-entry.invariant.left ∙ first.rest) c.loop-entry.invariant.rows

pub loop-entry-preserved-then-is_empty : goal.loop-entry-preserved-then-is_empty
loop-entry-preserved-then-is_empty c =
    let index = c.args.durable.now.index in let e : ℕ × Value = c.in-Some.entry.now in
    let first = begins index c.loop-entry.point c.args.hi c.loop-entry.run.now c.loop-entry.invariant.run e (first_is c.loop-entry.run.now c.in-Some.rest.now e c.in-Some.ensures.cases.0) c.if-entry-hi.false in
    let room : c.loop-entry.count < length c.args.rows.now =
    omega (arith, c.loop-entry.invariant.room, c.if-count-rows.false, c.loop-entry.auto.rows) in
    let done = copied index c.args.lo c.args.hi c.loop-entry.point c.args.rows.now c.loop-entry.rows c.loop-entry.count e c.of.result first
    c.loop-entry.invariant.left room c.of.ensures c.loop-entry.invariant.rows in
    record { within = done.within; room = omega (arith, room); left = done.left; rows = done.rows; run = c.run-run-then-is_empty.ensures }

pub loop-entry-preserved : goal.loop-entry-preserved
loop-entry-preserved c =
    let index = c.args.durable.now.index in let e : ℕ × Value = c.in-Some.entry.now in let rest = c.in-Some.rest.now in
    let first = begins index c.loop-entry.point c.args.hi c.loop-entry.run.now c.loop-entry.invariant.run e (first_is c.loop-entry.run.now rest e c.in-Some.ensures.cases.0) c.if-entry-hi.false in
    let room : c.loop-entry.count < length c.args.rows.now =
    omega (arith, c.loop-entry.invariant.room, c.if-count-rows.false, c.loop-entry.auto.rows) in
    let done = copied index c.args.lo c.args.hi c.loop-entry.point c.args.rows.now c.loop-entry.rows c.loop-entry.count e c.of.result first
    c.loop-entry.invariant.left room c.of.ensures c.loop-entry.invariant.rows in
    let more : rest ≡ [] → ⊥ = λ none. some_left rest c.is_empty.result c.is_empty.ensures c.if-is_empty.false none in
    record {
      within = done.within;
      room = omega (arith, room);
      left = done.left;
      rows = done.rows;
      run = subst (λ (k : ℕ). IsRun (fin.entries index) k rest) (sym (add-one e.0))
          (run_on index c.loop-entry.point c.loop-entry.run.now rest e c.loop-entry.invariant.run c.in-Some.ensures.cases.0 more);
    }
