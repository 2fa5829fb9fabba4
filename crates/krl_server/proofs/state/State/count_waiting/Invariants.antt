use Rattle.krl_server.proofs.Names.{◌≡◌, ◌≤◌, rows_of, waits, count_below}
use Rattle.krl_server.proofs.state.State.count_waiting.Given as goal

abbrev pub invariant-loop-client : goal.invariant-loop-client
invariant-loop-client l = record {
  count : l.count ≡ count_below l.client (waits l.self.durable.index (rows_of l.self.table.map));
  few : l.count ≤ l.client;
}
