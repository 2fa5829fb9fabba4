use Rattle.krl_server.proofs.Names.{sym, subst, ◌∙◌, meaning, HaveWaiters}
use Rattle.krl_server.proofs.Invariant.AnswersSound.{answering_sound}
use Rattle.krl_server.proofs.Functions.Listed.{listed}
use Rattle.krl_server.proofs.Functions.Finishing.{finish_rests, finish_recovers, finish_answers, finish_calls, room_for_calls}
use Rattle.krl_server.proofs.state.State.finish.Goals as goal

pub returns-then-not-answers-clause-finished : goal.returns-then-not-answers-clause-finished
returns-then-not-answers-clause-finished c = finish_rests (meaning c.args.self.now) c.args.after c.args.outbox.now c.answers.result c.answers.ensures c.if-not-answers.true

pub returns-then-is_recovering-clause-finished : goal.returns-then-is_recovering-clause-finished
returns-then-is_recovering-clause-finished c = finish_recovers (meaning c.args.self.now) c.args.after c.args.outbox.now c.is_recovering.result c.is_recovering.ensures c.if-is_recovering.true

pub returns-then-not-calls_back-clause-finished : goal.returns-then-not-calls_back-clause-finished
returns-then-not-calls_back-clause-finished c =
    finish_answers (meaning c.args.self.now) (meaning c.answer_waiters.new.self) c.args.after c.args.outbox.now c.answer_waiters.new.outbox c.answers.result c.is_recovering.result c.answers.ensures c.if-not-answers.false c.is_recovering.ensures c.if-is_recovering.false c.answer_waiters.ensures.answered
    c.calls_back.result c.calls_back.ensures c.if-not-calls_back.true

pub answer_waiters-requires-clause-slots : goal.answer_waiters-requires-clause-slots
answer_waiters-requires-clause-slots c = subst (HaveWaiters (meaning c.args.self.now) 0) (sym c.as_slice.ensures.value)
    (listed c.args.self.now 0 c.waiting_slots-slots.result.items c.waiting_slots-slots.ensures.slots c.waiting_slots-slots.ensures.there)

pub call_back-requires-clause-sound : goal.call_back-requires-clause-sound
call_back-requires-clause-sound c = answering_sound (meaning c.args.self.now) (meaning c.answer_waiters.new.self) c.answer_waiters.ensures.answered.outs c.answer_waiters.ensures.answered.answered c.requires.sound

pub call_back-requires-clause-room : goal.call_back-requires-clause-room
call_back-requires-clause-room c =
    room_for_calls (meaning c.args.self.now) (meaning c.answer_waiters.new.self) c.args.after c.args.outbox.now c.answer_waiters.new.outbox c.answers.result c.is_recovering.result c.answers.ensures c.if-not-answers.false c.is_recovering.ensures c.if-is_recovering.false c.answer_waiters.ensures.answered
    c.calls_back.result c.calls_back.ensures c.if-not-calls_back.false (answering_sound (meaning c.args.self.now) (meaning c.answer_waiters.new.self) c.answer_waiters.ensures.answered.outs c.answer_waiters.ensures.answered.answered c.requires.sound) c.requires.room

pub returns-clause-finished : goal.returns-clause-finished
returns-clause-finished c =
    finish_calls (meaning c.args.self.now) (meaning c.answer_waiters.new.self) c.args.after c.args.outbox.now c.answer_waiters.new.outbox c.answers.result c.is_recovering.result c.answers.ensures c.if-not-answers.false c.is_recovering.ensures c.if-is_recovering.false c.answer_waiters.ensures.answered
    c.calls_back.result c.call_back.new.outbox c.calls_back.ensures c.if-not-calls_back.false c.call_back.ensures
