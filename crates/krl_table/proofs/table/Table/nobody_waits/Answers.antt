use Rattle.krl_table.proofs.Names.{ap, ◌≡◌, [], sym, subst, rows_of}
use Rattle.krl_table.proofs.Rows.Counted.{no_queues, no_waiters}
use Rattle.krl_table.proofs.table.Table.nobody_waits.Goals as goal

pub returns : goal.returns
returns c =
    let t = c.self.inside.rows.map in let ws = c.self.inside.waiting.by_client in let is = c.is_empty.ensures in (
      λ e n. subst (λ x. (rows_of x n).queue ≡ []) (ap (λ s. s.map) c.self.view_is) (no_queues t ws c.self.invariant.1 (is.0 e) n),
      λ none. is.1 (no_waiters t ws c.self.invariant.1 (λ n. subst (λ x. (rows_of x n).queue ≡ []) (sym (ap (λ s. s.map) c.self.view_is)) (none n))),
    )
