use Rattle.krl_table.proofs.Names.{◌≡◌, None, sym, ap, subst, ◌∙◌, rows_of, IsOver, waiter_of}
use Rattle.krl_table.specs.Sound.{IsTable}
use Rattle.krl_table.proofs.Rows.Waiters.{none_waits, listed_waiter}
use Rattle.krl_table.proofs.Invariant.Sounds.{sound_table}
use Rattle.krl_table.proofs.table.Table.waiter_of.Goals as goal

pub returns-clause-waiter : goal.returns-clause-waiter
returns-clause-waiter c m over =
    let t = c.self.inside.rows.map in let waiting = c.self.inside.waiting.by_client in
    c.of.ensures ∙ listed_waiter t c.self.invariant.0 waiting c.self.invariant.1 c.args.client m (subst (IsOver m) (sym (ap (λ s. s.map) c.self.view_is)) over)
    ∙ ap (λ x. waiter_of m (rows_of x) c.args.client) (ap (λ s. s.map) c.self.view_is)

pub returns-clause-nowhere : goal.returns-clause-nowhere
returns-clause-nowhere c none n =
    let t = c.self.inside.rows.map in let waiting = c.self.inside.waiting.by_client in
    subst (λ x. Rattle.krl_queue.specs.Waiting.first_of c.args.client (rows_of x n).queue ≡ None) (ap (λ s. s.map) c.self.view_is)
    (none_waits t c.self.invariant.0 waiting c.self.invariant.1 c.args.client (sym c.of.ensures ∙ none) n)

pub returns-clause-sound : goal.returns-clause-sound
returns-clause-sound c m over = subst (λ x. IsTable m (rows_of x)) (ap (λ s. s.map) c.self.view_is) (sound_table m c.self.inside.rows.map (subst (IsOver m) (sym (ap (λ s. s.map) c.self.view_is)) over) c.self.invariant.0)
