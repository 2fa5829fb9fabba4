use Rattle.std.proofs.Common.{◌++◌, ◌+◌, take, sym, ap, ◌∙◌, arith}
use Rattle.std.proofs.lemmas.List.{append_assoc, take_all}
use Rattle.std.proofs.lemmas.Grind.{flat_map-append}
use Rattle.std.specs.List.{flat_map}
use Rattle.krl_blocks.specs.Laid.{flat}
use Rattle.krl_blocks.specs.Runs.{runs_of}
use Rattle.krl_blocks.proofs.Readings.{flat_next}
use Rattle.krl_text.specs.Printing.{row_text}
use Rattle.krl_text.proofs.shown.push_entries.Goals as goal

pub loop-i-preserved : goal.loop-i-preserved
loop-i-preserved c =
    let runs = runs_of c.args.entries.now in
    let before = flat (take c.loop-i.i runs) in
    c.in_ok-push_rows.ensures ∙ ap (λ bs. bs ++ flat_map row_text c.get.result.now) c.loop-i.invariant
    ∙ append_assoc c.args.line.now.bytes.items (flat_map row_text before) (flat_map row_text c.get.result.now)
    ∙ ap (λ bs. c.args.line.now.bytes.items ++ bs) (sym (ap (flat_map row_text) (flat_next runs c.loop-i.i c.get.result.now c.get.ensures) ∙ flat_map-append row_text before c.get.result.now))

pub returns : goal.returns
returns c = c.loop-i.invariant ∙ ap (λ rs. c.args.line.now.bytes.items ++ flat_map row_text (flat rs)) (take_all c.loop-i.i (runs_of c.args.entries.now) (omega (arith, c.len-i-end.ensures, c.loop-i-test.false)))
