use Rattle.krl_server.proofs.Names.{◌++◌, ◌∷◌, [], refl, sym, ap, subst, ◌∙◌, arith, drop_of_length-le, drop_more, meaning, HaveWaiters}
use Rattle.krl_server.proofs.Functions.Boxes.{sends_more, sends_length}
use Rattle.krl_server.proofs.Functions.Rounds.{HasBegun, one_more, all_told}
use Rattle.krl_server.proofs.Functions.Listed.{round_here, left_after_turn, none_left_at_all, still_listed}
use Rattle.krl_server.proofs.state.State.answer_waiters.Goals as goal

pub answer_first-requires-clause-room : goal.answer_first-requires-clause-room
answer_first-requires-clause-room c = c.loop-i.invariant.room

pub loop-i-smaller : goal.loop-i-smaller
loop-i-smaller c =
    let i = c.loop-i.invariant in
    let a = c.if-not-answer_first.ensures.answered refl in
    let r = round_here (meaning c.loop-i.self) c.args.slots.now c.loop-i.i _ (drop_more c.args.slots.now c.loop-i.i 0 c.loop-i-test.true) i.left (meaning c.answer_first.new.self) a.out i.sound i.table a.turned in
    let less = r.less in omega (arith, less)

pub loop-i-preserved : goal.loop-i-preserved
loop-i-preserved c =
    let i = c.loop-i.invariant in
    let a = c.if-not-answer_first.ensures.answered refl in
    let m = a.out in
    let b = i.begun in
    let ns = c.args.slots.now in
    let is = drop_more ns c.loop-i.i 0 c.loop-i-test.true in
    let r = round_here (meaning c.loop-i.self) ns c.loop-i.i _ is i.left (meaning c.answer_first.new.self) m i.sound i.table a.turned in
    record {
      formed = c.answer_first.ensures.formed;
      sound = r.sound;
      table = r.table;
      all = subst (λ x. HaveWaiters x 0 ns) (sym r.is) (still_listed (meaning c.loop-i.self) r.turn r.next 0 ns i.all);
      left = left_after_turn (meaning c.loop-i.self) ns c.loop-i.i _ is i.left (meaning c.answer_first.new.self) r.turn r.next r.is r.none;
      begun = (b.0 ++ m ∷ [], subst (λ x. HasBegun (meaning c.args.self.now) x (b.0 ++ m ∷ [])) (sym r.is) (one_more (meaning c.args.self.now) (meaning c.loop-i.self) r.turn b.0 (m ∷ []) b.1 r.next r.outs), sends_more c.args.outbox.now c.loop-i.outbox c.answer_first.new.outbox b.0 (m ∷ []) b.2 a.sends);
      room = let less = r.less in let room = i.room in let more = a.sends.room in let long = sends_length c.loop-i.outbox c.answer_first.new.outbox (m ∷ []) a.sends in omega (arith, less, room, more, long);
      rooms = c.answer_first.ensures.rooms;
    }

pub returns-clause-answered : goal.returns-clause-answered
returns-clause-answered c =
    let i = c.loop-i.invariant in
    record {
      outs = i.begun.0;
      answered = all_told (meaning c.args.self.now) (meaning c.loop-i.self) i.begun.0 i.begun.1 (none_left_at_all (meaning c.loop-i.self) c.args.slots.now c.loop-i.i (drop_of_length-le c.args.slots.now (omega (arith, c.loop-i-test.false))) i.left);
      sends = i.begun.2;
    }
