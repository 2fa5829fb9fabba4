use Rattle.std.proofs.Common.{◌≡◌, false}
use Rattle.krl_client.specs.Clients.{meets_one}
use Rattle.krl_client.specs.Fields.{pins_of}
use Rattle.krl_client.proofs.pins.Pins.meet.Given as goal

abbrev pub invariant-loop-id : goal.invariant-loop-id
invariant-loop-id l = meets_one (pins_of l.self) l.id l.span ≡ false
