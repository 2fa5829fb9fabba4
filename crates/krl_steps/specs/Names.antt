-- The refusals by name.
use Rattle.std.specs.Prelude.{ℕ, List, codes}
use Rattle.krl_steps.specs.declared.refused.Refused.{Refused}
use Rattle.krl_steps.specs.declared.refused.Refused.TheVariants as refused

abbrev pub refusal_name : Refused → List ℕ
refusal_name refused.OutOfMemory = codes "OutOfMemory"
refusal_name refused.BadPoint = codes "BadPoint"
refusal_name refused.BadSpan = codes "BadSpan"
refusal_name refused.NotJoined = codes "NotJoined"
refusal_name refused.Busy = codes "Busy"
refusal_name refused.NotHeld = codes "NotHeld"
refusal_name refused.Pinned = codes "Pinned"
refusal_name refused.Writing = codes "Writing"
refusal_name refused.TooManyPins = codes "TooManyPins"
refusal_name refused.Spent = codes "Spent"
refusal_name refused.BadClient = codes "BadClient"
refusal_name refused.Down = codes "Down"
refusal_name refused.Running = codes "Running"
refusal_name refused.NoMessage = codes "NoMessage"
refusal_name refused.BadKey = codes "BadKey"
refusal_name refused.Twice = codes "Twice"
refusal_name refused.Full = codes "Full"
refusal_name (refused.StillRegistered c) = codes "StillRegistered"
