use Rattle.krl_world.proofs.Names.{◌≡◌, ◌≤◌, ◌+◌, ◌++◌, length, vec_len, vec_capacity, from_clients}
use Rattle.std.specs.Vec.Iter.{into_iter_items, into_iter_len}
use Rattle.krl_world.proofs.network.send_to_server.Given as goal

-- what is sent already, and what is still to come
abbrev pub invariant-loop-message : goal.invariant-loop-message
invariant-loop-message l =
    (l.sent.items ++ from_clients (into_iter_items l.message-iterator) ≡ l.fn.sent.items ++ from_clients l.fn.messages.items)
    × (vec_len l.sent + into_iter_len l.message-iterator ≤ vec_capacity l.sent)
    × (into_iter_len l.message-iterator ≡ length (into_iter_items l.message-iterator))
