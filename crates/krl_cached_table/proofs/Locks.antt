-- krl keeps the premise on its locks.
use Rattle.krl_machine.proofs.Modes.{keys_agree_by_table}
use Rattle.krl_machine.proofs.Runs.{always_compatible}
use Rattle.krl_cached_table.specs.Locks.{LocksAreCompatible}

pub locks_are_compatible : LocksAreCompatible
locks_are_compatible index end w r c d p differ =
    (keys_agree_by_table ((w.links c).key p) ((w.links d).key p)).1 (always_compatible index end w r c d differ p).1
