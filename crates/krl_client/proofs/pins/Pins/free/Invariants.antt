use Rattle.std.proofs.Common.{◌≡◌, ◌-◌}
use Rattle.krl_client.specs.Clients.{free_from}
use Rattle.krl_client.specs.Fields.{pins_of}
use Rattle.krl_client.proofs.pins.Pins.free.Given as goal

abbrev pub invariant-loop-id : goal.invariant-loop-id
invariant-loop-id l = free_from (pins_of l.self) 0 8 ≡ free_from (pins_of l.self) l.id (8 - l.id)
