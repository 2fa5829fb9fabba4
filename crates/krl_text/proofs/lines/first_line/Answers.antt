use Rattle.std.proofs.Common.{◌-◌, length, take, drop, arith}
use Rattle.std.proofs.lemmas.List.{length-take}
use Rattle.krl_text.proofs.LinesLemmas.{lines_at, lines_last}
use Rattle.krl_text.proofs.lines.first_line.Goals as goal

pub returns-in-None-clause-lines : goal.returns-in-None-clause-lines
returns-in-None-clause-lines c =
    lines_last c.args.text.now (take (length c.args.text.now - length c.args.text.now) (drop (length c.args.text.now) c.args.text.now)) c.requires c.in-None.ensures
    (omega (arith, length-take (length c.args.text.now - length c.args.text.now) (drop (length c.args.text.now) c.args.text.now)))

pub returns-in-Some-clause-lines : goal.returns-in-Some-clause-lines
returns-in-Some-clause-lines c =
    let h = c.in-Some.ensures in
    rw c.stripped.ensures (lines_at c.args.text.now c.in-Some.i h.0 h.1 h.2)
