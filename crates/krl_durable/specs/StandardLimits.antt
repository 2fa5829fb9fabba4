-- The limits of what survives, by default.
use Rattle.krl_modes.specs.declared.limits.TheConstants.{STANDARD_REACH, STANDARD_ROOM}
use Rattle.krl_durable.specs.declared.limits.Limits.{Limits}

abbrev pub standard_limits : Limits
standard_limits = record { room = STANDARD_ROOM; reach = STANDARD_REACH }
