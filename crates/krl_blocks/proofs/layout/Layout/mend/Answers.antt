use Rattle.std.proofs.Common.{sym, ◌∙◌, arith}
use Rattle.krl_blocks.proofs.Kept.{none_kept}
use Rattle.krl_blocks.proofs.layout.Layout.mend.Goals as goal
use Rattle.krl_blocks.proofs.layout.Layout.mend.Goals.{else-b-gt0-via-then-b-gt0+else-is_thin-2, else-b-gt0-via-else-b-gt0}

pub returns-else-b-gt0-clause-kept : goal.returns-else-b-gt0-clause-kept
returns-else-b-gt0-clause-kept g c =
    none_kept c.args.self.now.tops c.args.self.now.shelf c.args.b c.requires.nearly (sym c.is_thin.ensures ∙ c.if-is_thin.false)
    (elim c.else-b-gt0.branch [
      | else-b-gt0-via-then-b-gt0+else-is_thin-2 w ↦ λ some. sym w.is_thin-then-b-gt0.ensures ∙ w.if-is_thin-2.false
      | else-b-gt0-via-else-b-gt0 w ↦ λ some. absurd (omega (arith, some, w.if-b-gt0.false))
    ])
