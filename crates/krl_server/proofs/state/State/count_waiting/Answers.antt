use Rattle.krl_server.proofs.Names.{◌≡◌, sym, ap, ◌∙◌, arith, rows_of, waits, max_clients, count_below}
use Rattle.krl_server.proofs.Outputs.Numbers.{sixty_four}
use Rattle.krl_server.proofs.Functions.WaitersByClient.{none_count}
use Rattle.krl_server.proofs.state.State.count_waiting.Goals as goal

pub returns-clause-count : goal.returns-clause-count
returns-clause-count c =
    let low = c.loop-client-test.false in
    let high = c.loop-client.auto.client-end in
    let all : c.loop-client.client ≡ 64 = omega (arith, low, high) in
    c.loop-client.invariant.count ∙ ap (λ n. count_below n (waits c.args.self.now.durable.index (rows_of c.args.self.now.table.map))) (all ∙ sym sixty_four)

pub returns-then-nobody_waits-clause-count : goal.returns-then-nobody_waits-clause-count
returns-then-nobody_waits-clause-count c = sym (none_count c.args.self.now.durable.index (rows_of c.args.self.now.table.map) max_clients (c.nobody_waits.ensures.0 c.if-nobody_waits.true))
