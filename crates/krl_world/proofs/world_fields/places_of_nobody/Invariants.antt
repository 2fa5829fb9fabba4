use Rattle.krl_world.proofs.Names.{AreUnstarted}
use Rattle.krl_world.proofs.world_fields.places_of_nobody.Given as goal

-- so many places are there, and none was started
abbrev pub invariant-loop-number : goal.invariant-loop-number
invariant-loop-number l = AreUnstarted l.durable l.number l.places.items
