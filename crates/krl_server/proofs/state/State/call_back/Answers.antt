use Rattle.krl_server.proofs.Names.{subst, arith, drop_of_length-le, drop_more, meaning, HaveWaiters}
use Rattle.krl_server.proofs.Functions.CallbackLoop.{nobody_called, room_for_slot, slot_called, slots_called}
use Rattle.krl_server.proofs.state.State.call_back.Goals as goal

pub loop-slot-init : goal.loop-slot-init
loop-slot-init c = (0, nobody_called (meaning c.args.self.now) c.args.outbox.now c.requires.sound.near, c.requires.slots)

pub call_back_at-requires-clause-room : goal.call_back_at-requires-clause-room
call_back_at-requires-clause-room c =
    let s = meaning c.args.self.now in
    let i = c.loop-slot.invariant in
    let h = subst (HaveWaiters s i.0) (drop_more c.args.slots.now c.loop-slot.slot-index 0 c.loop-slot-test.true) i.2 in
    room_for_slot s i.0 _ c.args.outbox.now c.loop-slot.outbox i.1 h.1 h.0 h.2 c.requires.room

pub loop-slot-preserved : goal.loop-slot-preserved
loop-slot-preserved c =
    let s = meaning c.args.self.now in
    let i = c.loop-slot.invariant in
    let h = subst (HaveWaiters s i.0) (drop_more c.args.slots.now c.loop-slot.slot-index 0 c.loop-slot-test.true) i.2 in
    (_, slot_called s i.0 _ c.args.outbox.now c.loop-slot.outbox i.1 h.1 h.0 h.2 c.call_back_at.new.outbox c.call_back_at.ensures, h.3)

pub returns : goal.returns
returns c =
    let s = meaning c.args.self.now in
    let i = c.loop-slot.invariant in
    slots_called s i.0 c.args.outbox.now c.loop-slot.outbox i.1 (subst (HaveWaiters s i.0) (drop_of_length-le c.args.slots.now (omega (arith, c.loop-slot-test.false))) i.2)
