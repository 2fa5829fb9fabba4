use Rattle.krl_table.proofs.Names.{◌<◌, ◌≤◌, ◌+◌, refl, sym, subst, ◌∙◌, arith, with_mode, rows_of, IsSet, ReportsSame}
use Rattle.krl_table.proofs.Invariant.Rooms.{room_at}
use Rattle.krl_table.proofs.ReportRows.PieceByPiece.{begins_past_slot, settle_begins, settle_goes, settle_ends}
use Rattle.krl_table.proofs.ReportRows.Rising.{same_begins, same_goes, next_same, nothing_same}
use Rattle.krl_table.proofs.Invariant.Within.{within_one, free_mode}
use Rattle.krl_table.proofs.reports.settle.Goals as goal

pub loop-reported-init : goal.loop-reported-init
loop-reported-init c =
    let m = c.args.durable.now.index in let pieces = c.args.pieces.now in record {
      settled = settle_begins m c.args.client pieces c.args.rows.now.map c.requires.over c.requires.used;
      same = subst (λ p. ReportsSame m 0 p pieces) (sym c.over-sweep.ensures) (same_begins m c.requires.over.near pieces 0);
      within = c.requires.within;
      room = refl;
    }

pub next-requires : goal.next-requires
next-requires c = let w = c.loop-reported.invariant in record { near = c.requires.over.near; begins = w.settled.begins; end = let le = w.settled.end in omega (arith, le) }

pub set-requires-clause-room : goal.set-requires-clause-room
set-requires-clause-room c none =
    let w = c.loop-reported.invariant in
    room_at c.args.durable.now.index c.loop-reported.rows.map w.settled.over c.args.durable.now.room c.loop-reported.rows.room c.in-Some.reported.slot (subst (λ n. c.args.durable.now.room < n) (sym w.room) c.requires.room) c.requires.few c.in-Some.ensures.some.there none

pub loop-reported-preserved : goal.loop-reported-preserved
loop-reported-preserved c =
    let w = c.loop-reported.invariant in let m = c.args.durable.now.index in let t = c.loop-reported.rows.map in let u = c.set.new.rows.map in let r = c.in-Some.reported in let pieces = c.args.pieces.now in
    let next = next_same m c.requires.over.near pieces c.loop-reported.sweep c.loop-reported.at r.slot w.same c.in-Some.ensures.some in
    record {
      settled = settle_goes m c.args.client pieces c.args.rows.now.map t c.loop-reported.at w.settled c.requires.free u r.slot next
          (subst (λ g. IsSet t u r.slot (with_mode (rows_of t r.slot) c.args.client g)) (c.in-Some.ensures.mode ∙ w.same r.slot next.above next.there) c.set.ensures.set);
      same = same_goes m c.requires.over.near pieces c.loop-reported.sweep c.pass.new.self c.loop-reported.at (r.slot + 1) (let a = next.above in omega (arith, a)) (begins_past_slot m r.slot next.there) w.same c.pass.ensures.ranges c.pass.ensures.keys;
      within = within_one c.loop-reported.extents.by_client c.note.new.self.by_client t u r.slot _ c.set.ensures.set c.note.ensures.wider w.within c.args.client c.note.ensures.there (λ d. free_mode (rows_of t r.slot) c.args.client d r.mode);
      room = c.set.ensures.room ∙ w.room;
    }

pub returns : goal.returns
returns c =
    let m = c.args.durable.now.index in let w = c.loop-reported.invariant in
    let none = nothing_same m c.requires.over.near c.args.pieces.now c.loop-reported.sweep c.loop-reported.at w.same c.in_default.ensures.none in record {
      adopted = settle_ends m c.args.client c.args.pieces.now c.args.rows.now.map c.loop-reported.rows.map c.loop-reported.at w.settled c.requires.free none;
      over = w.settled.over;
      used = w.settled.used;
      within = w.within;
      room = w.room;
    }
