use Rattle.std.proofs.Common.{eqb-true, eq-eqb, sym, ◌∙◌}
use Rattle.krl_table.proofs.Rows.Counted.{none_counted, counts_none}
use Rattle.krl_table.proofs.waiting.Waiting.is_empty.Goals as goal

pub returns : goal.returns
returns c =
    let ws = c.args.self.now.by_client in let n = c.args.self.now.count in let counted = c.args.self.now.counted in
    (λ e. none_counted ws (sym counted ∙ eqb-true n 0 e), λ none. eq-eqb n 0 (counted ∙ counts_none ws none))
