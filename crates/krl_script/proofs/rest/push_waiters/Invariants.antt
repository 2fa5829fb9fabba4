use Rattle.std.proofs.Common.{◌≡◌, ◌++◌, take}
use Rattle.std.specs.List.{flat_map}
use Rattle.krl_world.specs.Fields.{meaning}
use Rattle.krl_script.specs.Rests.{waiter_text}
use Rattle.krl_script.proofs.rest.push_waiters.Given as goal

abbrev pub invariant-loop-client : goal.invariant-loop-client
invariant-loop-client l = l.line.bytes.items ≡ l.fn.line.bytes.items ++ flat_map (waiter_text (meaning l.world)) (take l.client-index l.clients)
