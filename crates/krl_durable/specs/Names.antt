-- The refusals by name.
use Rattle.std.specs.Prelude.{ℕ, List, codes}
use Rattle.krl_durable.specs.declared.refused.EntriesRefused.{EntriesRefused}
use Rattle.krl_durable.specs.declared.refused.EntriesRefused.TheVariants as entries_refused

abbrev pub refused_name : EntriesRefused → List ℕ
refused_name entries_refused.OutOfMemory = codes "OutOfMemory"
refused_name entries_refused.BadKey = codes "BadKey"
refused_name entries_refused.Twice = codes "Twice"
refused_name entries_refused.Full = codes "Full"
