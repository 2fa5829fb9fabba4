-- The names of refusals.
use Rattle.std.specs.Prelude.{ℕ, List, codes}
use Rattle.krl_client.specs.declared.refused.CommandRefused.{CommandRefused}
use Rattle.krl_client.specs.declared.refused.CommandRefused.TheVariants as command_refused
use Rattle.krl_client.specs.declared.refused.StartRefused.{StartRefused}
use Rattle.krl_client.specs.declared.refused.StartRefused.TheVariants as start_refused

abbrev pub command_refusal_name : CommandRefused → List ℕ
command_refusal_name command_refused.OutOfMemory = codes "OutOfMemory"
command_refusal_name command_refused.BadPoint = codes "BadPoint"
command_refusal_name command_refused.BadSpan = codes "BadSpan"
command_refusal_name command_refused.NotJoined = codes "NotJoined"
command_refusal_name command_refused.Busy = codes "Busy"
command_refusal_name command_refused.NotHeld = codes "NotHeld"
command_refusal_name command_refused.Pinned = codes "Pinned"
command_refusal_name command_refused.Writing = codes "Writing"
command_refusal_name command_refused.TooManyPins = codes "TooManyPins"
command_refusal_name command_refused.Spent = codes "Spent"

abbrev pub start_refusal_name : StartRefused → List ℕ
start_refusal_name start_refused.BadClient = codes "BadClient"
start_refusal_name start_refused.Spent = codes "Spent"
