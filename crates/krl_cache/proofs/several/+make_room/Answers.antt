use Rattle.krl_cache.proofs.Names.{◌-◌, refl, ap, at}
use Rattle.krl_cache.proofs.Marks.{undone}
use Rattle.krl_cache.proofs.Rooms.{room_step, stays_here}
use Rattle.krl_cache.proofs.several.+make_room.Goals as goal

pub returns-in-Err-make_room-clause-starts_stay : goal.returns-in-Err-make_room-clause-starts_stay
returns-in-Err-make_room-clause-starts_stay t c = c.unmark.ensures c.args.starts.now c.mark.new.starts c.in-Ok.ensures.undo c.in-Err-make_room.ensures.starts_stay

pub returns-in-Err-make_room-clause-entries_stay : goal.returns-in-Err-make_room-clause-entries_stay
returns-in-Err-make_room-clause-entries_stay t c = undone c.args.entries.now c.hold.new.entries c.make_room.new.entries c.undo.new.map (c.hi-hi.result - 1) c.in_ok-fresh.fresh c.in_ok-fresh.ensures.undo c.in-Err-make_room.ensures.entries_stay c.undo.ensures

pub returns-in_default-make_room-clause-room : goal.returns-in_default-make_room-clause-room
returns-in_default-make_room-clause-room t c =
    let h = c.in-Some.holding.now in
    room_step c.args.holdings.now h c.in-Some.rest.now (at c.args.starts.now.entries) (at c.mark.new.starts.entries) (at c.make_room.new.starts.entries)
    (at c.args.entries.now.entries) (at c.hold.new.entries.entries) (at c.make_room.new.entries.entries)
    c.lo-lo.result c.hi-hi.result c.parts-part.result.1
    c.in-Some.ensures.cases.0 c.lo-lo.ensures.end c.hi-hi.ensures.end (ap (λ x. x.1) c.parts-part.ensures.parts) c.lo-lo.ensures.bounds
    c.in_ok-fresh.ensures.others
    (stays_here c.args.entries.now c.hold.new.entries (c.hi-hi.result - 1) c.in_ok-fresh.fresh c.in_ok-fresh.ensures.undo)
    c.in_ok-fresh.ensures.held
    c.in-Ok.ensures.ok
    c.in_default-make_room.ensures.room

pub returns-in-Err-clause-entries_stay : goal.returns-in-Err-clause-entries_stay
returns-in-Err-clause-entries_stay t c = undone c.args.entries.now c.hold.new.entries c.hold.new.entries c.undo-in-Err.new.map (c.hi-hi.result - 1) c.in_ok-fresh.fresh c.in_ok-fresh.ensures.undo refl c.undo-in-Err.ensures
