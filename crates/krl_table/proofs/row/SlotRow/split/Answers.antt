use Rattle.krl_table.proofs.Names.{◌≡◌, ap, ◌∙◌, arith, length-set, range_of, split_modes, mode_of}
use Rattle.krl_table.proofs.Rows.NewSlotModes.{split_all, split_writer, split_other, split_more}
use Rattle.krl_table.proofs.row.SlotRow.split.Goals as goal
use Rattle.krl_table.proofs.row.SlotRow.split.Goals.{then-other-client, else-other-client}

pub loop-other-preserved : goal.loop-other-preserved
loop-other-preserved c =
    let f = mode_of c.args.self.now.modes in
    let part : c.parts-range.result.0 ≡ range_of (f c.loop-other.other) = ap (λ p. p.0) c.parts-range.ensures.parts ∙ ap range_of c.mode.ensures in
    let is : c.if-other-client.row ≡ split_modes f c.args.client c.loop-other.other = elim c.if-other-client.branch [
      | then-other-client w ↦ split_writer f c.args.client c.loop-other.other c.parts-range.result.0 c.if-other-client.row w.if-other-client.true part (w.row-is ∙ w.at_or_above.ensures.mode)
      | else-other-client w ↦ split_other f c.args.client c.loop-other.other c.parts-range.result.0 c.if-other-client.row w.if-other-client.false part (w.row-is ∙ w.mode_beside.ensures)
    ] in
    record {
      full = length-set c.loop-other.row.modes c.loop-other.other c.if-other-client.row ∙ c.loop-other.invariant.full;
      queue = c.loop-other.invariant.queue;
      modes = split_more c.loop-other.row.modes (split_modes f c.args.client) c.loop-other.other c.if-other-client.row (omega (arith, c.loop-other.invariant.full)) c.loop-other.invariant.modes is;
    }

pub returns : goal.returns
returns c = let f = c.all_modes-modes.ensures.full in let new = c.loop-other.invariant in
    (λ i. record {
      modes = split_all c.args.self.now.modes c.loop-other.row.modes c.args.client c.requires f new.full (λ d lt. new.modes d (omega (arith, lt, c.loop-other-test.false))) i;
      queue = new.queue i;
    })
