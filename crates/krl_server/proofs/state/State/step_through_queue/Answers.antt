use Rattle.krl_server.proofs.Names.{◌++◌, [], sym, ap, subst, ◌∙◌, IsTable, meaning, IsSound, ServerStep, Sent}
use Rattle.krl_server.proofs.Invariant.Kept.{effect_table}
use Rattle.krl_server.proofs.Invariant.Sounds.{effect_sound}
use Rattle.krl_server.proofs.Functions.Stepped.{room_left, rooms_left, step_is, alarm_said}
use Rattle.krl_server.proofs.state.State.step_through_queue.Goals as goal

pub finish-requires-clause-sound : goal.finish-requires-clause-sound
finish-requires-clause-sound c = subst IsSound (sym c.in_ok-done.ensures.performed.performed.server) (effect_sound (meaning c.args.self.now) c.args.message.now c.requires.server.sound)

pub finish-requires-clause-table : goal.finish-requires-clause-table
finish-requires-clause-table c = subst (λ x. IsTable x.durable.index x.rows) (sym c.in_ok-done.ensures.performed.performed.server) (effect_table (meaning c.args.self.now) c.args.message.now c.requires.server.sound c.requires.server.ordered.table)

pub finish-requires-clause-room : goal.finish-requires-clause-room
finish-requires-clause-room c =
    let p = c.in_ok-done.ensures.performed in
    room_left (meaning c.args.self.now) c.args.message.now c.requires.server.sound c.requires.server.ordered.table c.args.case.now c.requires.case
    (meaning c.perform.new.self) c.in_ok-done.done.after p.outs c.in_ok-outbox.outbox c.perform.new.outbox p.performed.server p.performed.outs_are p.performed.after p.sends
    (c.in_ok-outbox.ensures ∙ ap (λ n. let x : Sent = record { sent = []; room = n } in x) c.room.ensures)

pub returns-clause-stepped : goal.returns-clause-stepped
returns-clause-stepped c =
    let s = meaning c.args.self.now in
    let m = c.args.message.now in
    let p = c.in_ok-done.ensures.performed in
    let f = c.finish.ensures.finished in
    let own = p.sends.sent ∙ ap (λ b. b.sent ++ p.outs) c.in_ok-outbox.ensures in
    let sent = c.into_items.ensures ∙ f.sends.sent ∙ ap (λ l. l ++ f.outs) own in
    record {
      step = subst (ServerStep s m (meaning c.finish.new.self)) (sym sent) (step_is s m (meaning c.perform.new.self) (meaning c.finish.new.self) c.in_ok-done.done.after p.outs f.outs p.performed.server p.performed.outs_are p.performed.after f.finished);
      alarm = c.alarm.ensures ∙ alarm_said s m c.in_ok-done.done.after p.performed.after;
      change = c.in_ok-done.ensures.change;
    }

pub finish-requires-clause-rooms : goal.finish-requires-clause-rooms
finish-requires-clause-rooms c =
    let s = meaning c.args.self.now in
    rooms_left s c.args.message.now c.requires.server.sound c.requires.server.ordered.table c.args.case.now c.requires.case
    (meaning c.perform.new.self) c.reserve_room.new.rooms c.in_ok-done.ensures.performed.performed.server c.reserve_room.ensures.rooms c.in_ok-reserve_room.ensures.room
