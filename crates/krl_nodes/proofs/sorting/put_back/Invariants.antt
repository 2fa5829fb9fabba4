use Rattle.krl_nodes.proofs.Names.{◌≡◌, length, AreSortedBack}
use Rattle.krl_nodes.proofs.sorting.put_back.Given as goal

-- the letters with the messages after them are as they were
abbrev pub invariant-loop : goal.invariant-loop
invariant-loop l =
    (length l.to_clients.items ≡ length l.initial.to_clients.items)
    × AreSortedBack l.initial.to_server l.initial.to_clients.items l.initial.messages.items l.to_server l.to_clients.items l.messages.items
