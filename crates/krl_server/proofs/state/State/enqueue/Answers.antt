use Rattle.krl_server.proofs.Names.{◌≡◌, ◌<◌, ℕ, sym, ap, subst, ◌∙◌, arith, Waiter, enqueued, rows_of, State, meaning}
use Rattle.krl_server.proofs.Functions.StateChanges.{queued_means}
use Rattle.krl_server.proofs.state.State.enqueue.Goals as goal

pub returns-clause-queues : goal.returns-clause-queues
returns-clause-queues c =
    let below = subst (λ (w : Waiter). w.client < 64) (sym c.waiter-waiter.ensures) c.requires.client in
    let st = c.args.self.now in let w = c.waiter-waiter.result in let t = c.enqueue.new.self in
    ap (λ (x : State). meaning (record x { table = t })) c.note_request.ensures
    ∙ queued_means st c.args.node w t c.waiter-waiter.ensures (omega (arith, below, c.requires.formed.full))
    (subst (λ (x : State). (n : ℕ) → rows_of t.map n ≡ enqueued x.durable.index (rows_of x.table.map) c.args.node n) c.note_request.ensures c.enqueue.ensures.enqueued)
