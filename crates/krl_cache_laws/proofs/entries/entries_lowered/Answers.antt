use Rattle.krl_modes.specs.declared.point.TheConstants.{TOP}
use Rattle.krl_cache_laws.proofs.Picked.{low_placed}
use Rattle.krl_cache_laws.proofs.entries.entries_lowered.Goals as goal

pub returns : goal.returns
returns c =
    let bounds = c.lo-lo.ensures.bounds in
    let h = low_placed c.args.span TOP c.args.keep c.args.entries.now c.new-list.result.items c.add_entries.new.list.items c.add_entries-2.new.list.items c.add_entries-3.new.list.items c.lo-lo.result c.hi-hi.result c.requires.rise c.requires.read bounds.0 bounds.1 c.lo-lo.ensures.end c.hi-hi.ensures.end c.new-list.ensures.items c.in_ok-add_entries.ensures c.in_ok-add_entries-2.ensures c.in_ok-add_entries-3.ensures in
    record { placed = record { rise = h.0; read = h.1 }; found = h.2 }
