use Rattle.krl_cache.proofs.Names.{ap, ◌∙◌, at, parts_after}
use Rattle.krl_cache.proofs.Starts.{part_marked}
use Rattle.krl_cache.proofs.Rooms.{room_marked, room_merged, anew_all, entries_same}
use Rattle.krl_cache.proofs.several.adopt_apart.Goals as goal

pub returns-clause-parts : goal.returns-clause-parts
returns-clause-parts c p =
    let hs = c.args.holdings.now in let f = at c.args.starts.now.entries in let g = at c.make_room.new.starts.entries in
    c.merge_all.ensures.kept.parts p ∙ c.fill_all.ensures.parts p
    ∙ ap (parts_after hs p) (part_marked f g p (room_marked hs f g (at c.args.entries.now.entries) (at c.make_room.new.entries.entries) c.in_ok-make_room.ensures.room))

pub returns-clause-entries : goal.returns-clause-entries
returns-clause-entries c p =
    let hs = c.args.holdings.now in let d = at c.args.entries.now.entries in let e = at c.make_room.new.entries.entries in
    c.fill_all.ensures.entries p
    ∙ entries_same hs c.in_ok-make_room.ensures.spans p (e p) (d p) (c.in_ok-make_room.ensures.room.entries p)

pub returns-clause-merged : goal.returns-clause-merged
returns-clause-merged c merged =
    let hs = c.args.holdings.now in let f = at c.args.starts.now.entries in let g = at c.make_room.new.starts.entries in
    anew_all hs (at c.fill_all.new.starts.entries) (at c.merge_all.new.starts.entries) c.merge_all.ensures.kept c.merge_all.ensures.anew
    (c.fill_all.ensures.merged (room_merged hs f g (at c.args.entries.now.entries) (at c.make_room.new.entries.entries) c.in_ok-make_room.ensures.room merged))
