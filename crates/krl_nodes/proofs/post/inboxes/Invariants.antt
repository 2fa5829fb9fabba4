use Rattle.std.proofs.Common.{◌≡◌, [], replicate}
use Rattle.krl_nodes.proofs.post.inboxes.Given as goal

abbrev pub invariant-loop : goal.invariant-loop
invariant-loop l = l.inboxes.items ≡ replicate l.counter []
