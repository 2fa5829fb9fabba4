use Rattle.krl_table.proofs.Names.{◌≡◌, ◌≤◌, ◌<◌, ◌+◌, true, false, refl, sym, ap, subst, ◌∙◌, ⊎_elim, arith, cases_lt, is_compatible_there, rebuilt, ReportsSame, rows_of}
use Rattle.krl_table.proofs.Rows.Slots.{slot_end}
use Rattle.krl_table.proofs.ReportRows.PieceByPiece.{begins_zero, begins_past_slot, one_further, none_is_compatible}
use Rattle.krl_table.proofs.ReportRows.Rising.{same_begins, same_goes, next_same, nothing_same}
use Rattle.krl_table.proofs.reports.all_compatible.Goals as goal

pub loop-reported-init : goal.loop-reported-init
loop-reported-init c =
    let m = c.args.durable.now.index in let pieces = c.args.pieces.now in record {
      begins = begins_zero m;
      end = omega arith;
      same = subst (λ p. ReportsSame m 0 p pieces) (sym c.over-sweep.ensures) (same_begins m c.requires pieces 0);
      fit = λ n lt. absurd (omega (arith, lt));
    }

pub loop-reported-preserved : goal.loop-reported-preserved
loop-reported-preserved c =
    let m = c.args.durable.now.index in let r = c.in-Some.reported in let pieces = c.args.pieces.now in let w = c.loop-reported.invariant in
    let next = next_same m c.requires pieces c.loop-reported.sweep c.loop-reported.at r.slot w.same c.in-Some.ensures.some in
    let begins = begins_past_slot m r.slot next.there in
    let rows = rows_of c.args.rows.now.map in record {
      begins = begins;
      end = let le = slot_end m c.requires r.slot next.there in omega (arith, le);
      same = same_goes m c.requires pieces c.loop-reported.sweep c.pass.new.self c.loop-reported.at (r.slot + 1) (let a = next.above in omega (arith, a)) begins w.same c.pass.ensures.ranges c.pass.ensures.keys;
      fit = one_further m pieces (λ n. is_compatible_there rows n c.args.client (rebuilt m pieces n) ≡ true) c.loop-reported.at r.slot next w.fit (λ n le e. none_is_compatible rows n c.args.client (rebuilt m pieces n) e)
          (ap (is_compatible_there rows r.slot c.args.client) (sym (c.in-Some.ensures.mode ∙ w.same r.slot next.above next.there)) ∙ sym c.is_compatible_there.ensures ∙ (let yes : c.is_compatible_there.result ≡ true = grind (arith, c.if-not-is_compatible_there.false) in yes));
    }

pub returns-then-not-is_compatible_there : goal.returns-then-not-is_compatible_there
returns-then-not-is_compatible_there c =
    let m = c.args.durable.now.index in let r = c.in-Some.reported in let w = c.loop-reported.invariant in
    let next = next_same m c.requires c.args.pieces.now c.loop-reported.sweep c.loop-reported.at r.slot w.same c.in-Some.ensures.some in (
      λ e. absurd (cc),
      λ all. absurd (let yes = c.is_compatible_there.ensures ∙ ap (is_compatible_there (rows_of c.args.rows.now.map) r.slot c.args.client) (c.in-Some.ensures.mode ∙ w.same r.slot next.above next.there) ∙ all r.slot next.there in
          let no : c.is_compatible_there.result ≡ false = grind (arith, c.if-not-is_compatible_there.true) in let bad : true ≡ false = sym yes ∙ no in cc),
    )

pub returns : goal.returns
returns c =
    let m = c.args.durable.now.index in let rows = rows_of c.args.rows.now.map in let w = c.loop-reported.invariant in
    let none = nothing_same m c.requires c.args.pieces.now c.loop-reported.sweep c.loop-reported.at w.same c.in_default.ensures.none in
    (λ e n slot. ⊎_elim (λ (a : n < c.loop-reported.at). w.fit n a slot) (λ (a : c.loop-reported.at ≤ n). none_is_compatible rows n c.args.client (rebuilt m c.args.pieces.now n) (none n a slot)) (cases_lt n c.loop-reported.at), λ all. refl)
