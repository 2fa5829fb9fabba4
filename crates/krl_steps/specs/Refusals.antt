-- What each part refuses, by its name in a world.
use Rattle.krl_durable.specs.declared.refused.EntriesRefused.{EntriesRefused}
use Rattle.krl_durable.specs.declared.refused.EntriesRefused.TheVariants as entries_refused
use Rattle.krl_durable.specs.declared.not_migrated.NotMigrated.{NotMigrated}
use Rattle.krl_durable.specs.declared.not_migrated.NotMigrated.TheVariants as not_migrated
use Rattle.krl_client.specs.declared.refused.CommandRefused.{CommandRefused}
use Rattle.krl_client.specs.declared.refused.CommandRefused.TheVariants as command_refused
use Rattle.krl_client.specs.declared.refused.StartRefused.{StartRefused}
use Rattle.krl_client.specs.declared.refused.StartRefused.TheVariants as start_refused
use Rattle.krl_steps.specs.declared.refused.Refused.{Refused}
use Rattle.krl_steps.specs.declared.refused.Refused.TheVariants as refused

-- what the index refuses
abbrev pub refused_by_index : EntriesRefused → Refused
refused_by_index entries_refused.OutOfMemory = refused.OutOfMemory
refused_by_index entries_refused.BadKey = refused.BadKey
refused_by_index entries_refused.Twice = refused.Twice
refused_by_index entries_refused.Full = refused.Full

-- why what survived is not migrated
abbrev pub refused_by_migration : NotMigrated → Refused
refused_by_migration not_migrated.OutOfMemory = refused.OutOfMemory
refused_by_migration (not_migrated.StillRegistered c) = refused.StillRegistered c

-- what a client refuses
abbrev pub refused_by_client : CommandRefused → Refused
refused_by_client command_refused.OutOfMemory = refused.OutOfMemory
refused_by_client command_refused.BadPoint = refused.BadPoint
refused_by_client command_refused.BadSpan = refused.BadSpan
refused_by_client command_refused.NotJoined = refused.NotJoined
refused_by_client command_refused.Busy = refused.Busy
refused_by_client command_refused.NotHeld = refused.NotHeld
refused_by_client command_refused.Pinned = refused.Pinned
refused_by_client command_refused.Writing = refused.Writing
refused_by_client command_refused.TooManyPins = refused.TooManyPins
refused_by_client command_refused.Spent = refused.Spent

-- what a client's start is refused for
abbrev pub refused_at_start : StartRefused → Refused
refused_at_start start_refused.BadClient = refused.BadClient
refused_at_start start_refused.Spent = refused.Spent
