use Rattle.std.proofs.Common.{◌≡◌, ◌++◌, take}
use Rattle.std.specs.List.{filter_map}
use Rattle.krl_cache.specs.Entries.{pick, entry_lowered}
use Rattle.krl_cache_laws.proofs.entries.add_entries.Given as goal

abbrev pub invariant-loop-entry : goal.invariant-loop-entry
invariant-loop-entry l = l.list.items ≡ l.fn.list.items ++ filter_map (pick l.lo l.hi (entry_lowered l.keep)) (take l.entry-index l.entries)
