use Rattle.krl_server.proofs.Names.{◌<◌, sym, ap, subst, ◌∙◌, Waiter, rows_of, meaning, meant, acknowledged, tells_outcome, as_list, IsPerformed, Judges, WaitsNowhere}
use Rattle.krl_server.specs.declared.case.Performed.{Performed}
use Rattle.krl_server.proofs.Functions.Facts.{facts_of, taking_facts, waits_nowhere, performed_repeat, performed_write, performed_taking, changed_taking, performed_again}
use Rattle.krl_server.proofs.state.State.perform.Goals as goal

pub register-requires-clause-client : goal.register-requires-clause-client
register-requires-clause-client c = (facts_of (meaning c.args.self.now) c.args.message.now c.args.case.now _ c.requires.case c.in-Registers.is).client

pub register-requires-clause-incarnation : goal.register-requires-clause-incarnation
register-requires-clause-incarnation c = (facts_of (meaning c.args.self.now) c.args.message.now c.args.case.now _ c.requires.case c.in-Registers.is).incarnation

pub depart-requires-clause-client : goal.depart-requires-clause-client
depart-requires-clause-client c = (facts_of (meaning c.args.self.now) c.args.message.now c.args.case.now _ c.requires.case c.in-Leaves.is).client

pub acknowledge-requires-clause-client : goal.acknowledge-requires-clause-client
acknowledge-requires-clause-client c = facts_of (meaning c.args.self.now) c.args.message.now c.args.case.now _ c.requires.case c.in-Acknowledges.is

pub lower-requires-clause-client : goal.lower-requires-clause-client
lower-requires-clause-client c = facts_of (meaning c.args.self.now) c.args.message.now c.args.case.now _ c.requires.case c.in-Lowers.is

pub enqueue-requires-clause-client : goal.enqueue-requires-clause-client
enqueue-requires-clause-client c = subst (λ (u : Waiter). u.client < 64) (sym c.in_ok-node-in-Waits.ensures.made) ((facts_of (meaning c.args.self.now) c.args.message.now c.args.case.now _ c.requires.case c.in-Waits.is).client)

pub enqueue-requires-clause-free : goal.enqueue-requires-clause-free
enqueue-requires-clause-free c = subst (λ (u : Waiter). WaitsNowhere (rows_of c.args.self.now.table.map) u.client) (sym c.in_ok-node-in-Waits.ensures.made) (waits_nowhere c.args.self.now.durable.index (rows_of c.args.self.now.table.map) c.args.message.now.client c.requires.server.ordered.table (facts_of (meaning c.args.self.now) c.args.message.now c.args.case.now _ c.requires.case c.in-Waits.is).free)

pub write-outcome-requires-clause-client : goal.write-outcome-requires-clause-client
write-outcome-requires-clause-client c = (facts_of (meaning c.args.self.now) c.args.message.now c.args.case.now _ c.requires.case c.in-Judges.is).client

pub write-outcome-requires-clause-key : goal.write-outcome-requires-clause-key
write-outcome-requires-clause-key c = (facts_of (meaning c.args.self.now) c.args.message.now c.args.case.now _ c.requires.case c.in-Judges.is).key

pub write-outcome-requires-clause-unspent : goal.write-outcome-requires-clause-unspent
write-outcome-requires-clause-unspent c = (facts_of (meaning c.args.self.now) c.args.message.now c.args.case.now _ c.requires.case c.in-Judges.is).unspent

pub acknowledge-requires-in-Judges-clause-client : goal.acknowledge-requires-in-Judges-clause-client
acknowledge-requires-in-Judges-clause-client c = (facts_of (meaning c.args.self.now) c.args.message.now c.args.case.now _ c.requires.case c.in-Judges.is).client

pub answer_write-requires-clause-client : goal.answer_write-requires-clause-client
answer_write-requires-clause-client c = (facts_of (meaning c.args.self.now) c.args.message.now c.args.case.now _ c.requires.case c.in-Judges.is).client

pub answer_write-requires-clause-key : goal.answer_write-requires-clause-key
answer_write-requires-clause-key c = (facts_of (meaning c.args.self.now) c.args.message.now c.args.case.now _ c.requires.case c.in-Judges.is).key

pub write_with_lock-outcome-requires-clause-client : goal.write_with_lock-outcome-requires-clause-client
write_with_lock-outcome-requires-clause-client c = (taking_facts (meaning c.args.self.now) c.args.message.now c.args.case.now c.in-SeizesLock.number c.in-SeizesLock.op c.requires.case c.in-SeizesLock.is).client

pub write_with_lock-outcome-requires-clause-key : goal.write_with_lock-outcome-requires-clause-key
write_with_lock-outcome-requires-clause-key c = (taking_facts (meaning c.args.self.now) c.args.message.now c.args.case.now c.in-SeizesLock.number c.in-SeizesLock.op c.requires.case c.in-SeizesLock.is).key

pub write_with_lock-outcome-requires-clause-unspent : goal.write_with_lock-outcome-requires-clause-unspent
write_with_lock-outcome-requires-clause-unspent c = (taking_facts (meaning c.args.self.now) c.args.message.now c.args.case.now c.in-SeizesLock.number c.in-SeizesLock.op c.requires.case c.in-SeizesLock.is).unspent

pub acknowledge-requires-in-SeizesLock-clause-client : goal.acknowledge-requires-in-SeizesLock-clause-client
acknowledge-requires-in-SeizesLock-clause-client c = (taking_facts (meaning c.args.self.now) c.args.message.now c.args.case.now c.in-SeizesLock.number c.in-SeizesLock.op c.requires.case c.in-SeizesLock.is).client

pub answer_write-requires-in-SeizesLock-clause-client : goal.answer_write-requires-in-SeizesLock-clause-client
answer_write-requires-in-SeizesLock-clause-client c = (taking_facts (meaning c.args.self.now) c.args.message.now c.args.case.now c.in-SeizesLock.number c.in-SeizesLock.op c.requires.case c.in-SeizesLock.is).client

pub answer_write-requires-in-SeizesLock-clause-key : goal.answer_write-requires-in-SeizesLock-clause-key
answer_write-requires-in-SeizesLock-clause-key c = (taking_facts (meaning c.args.self.now) c.args.message.now c.args.case.now c.in-SeizesLock.number c.in-SeizesLock.op c.requires.case c.in-SeizesLock.is).key

pub acknowledge-requires-in-AnswersAgain-clause-client : goal.acknowledge-requires-in-AnswersAgain-clause-client
acknowledge-requires-in-AnswersAgain-clause-client c = (facts_of (meaning c.args.self.now) c.args.message.now c.args.case.now _ c.requires.case c.in-AnswersAgain.is).client

pub answer_write-requires-in-AnswersAgain-clause-client : goal.answer_write-requires-in-AnswersAgain-clause-client
answer_write-requires-in-AnswersAgain-clause-client c = (facts_of (meaning c.args.self.now) c.args.message.now c.args.case.now _ c.requires.case c.in-AnswersAgain.is).client

pub answer_write-requires-in-AnswersAgain-clause-key : goal.answer_write-requires-in-AnswersAgain-clause-key
answer_write-requires-in-AnswersAgain-clause-key c = (facts_of (meaning c.args.self.now) c.args.message.now c.args.case.now _ c.requires.case c.in-AnswersAgain.is).key

pub returns-in_ok-again-in-Repeats-clause-performed : goal.returns-in_ok-again-in-Repeats-clause-performed
returns-in_ok-again-in-Repeats-clause-performed c =
    let s = meaning c.args.self.now in
    let own = c.args.message.now.client in
    let outs = as_list c.in_ok-again-in-Repeats.again in
    record {
      outs = outs;
      performed = subst (λ left. IsPerformed s c.args.message.now s left outs) (sym (ap (λ (d : Performed). d.after) c.unchanging-in-Repeats.ensures))
          (performed_repeat s c.args.message.now (s.sessions own).unacked outs
          (sym (ap (λ f. meant s own c.args.message.now.body f) c.in-Repeats.is) ∙ c.requires.case) c.in_ok-again-in-Repeats.ensures);
      sends = c.send_some.ensures;
    }

pub returns-in-Judges-clause-performed : goal.returns-in-Judges-clause-performed
returns-in-Judges-clause-performed c =
    let s = meaning c.args.self.now in
    let own = c.args.message.now.client in
    let number = c.in-Judges.number in
    let op = c.in-Judges.op in
    let o = c.write-outcome.result in
    let is = c.acknowledge-in-Judges.ensures.acknowledged
    ∙ ap (λ x. acknowledged x own) c.write-outcome.ensures.writes in
    let outs = (tells_outcome (meaning c.acknowledge-in-Judges.new.self) own number op o).outs in
    record {
      outs = outs;
      performed = subst (λ left. IsPerformed s c.args.message.now (meaning c.answer_write.new.self) left outs) (sym (ap (λ (d : Performed). d.after) c.changing-in-Judges.ensures))
          (performed_write s c.args.message.now (meaning c.answer_write.new.self) number op o outs
          (ap (λ x. Judges number op x) c.write-outcome.ensures.outcome ∙ (sym (ap (λ f. meant s own c.args.message.now.body f) c.in-Judges.is) ∙ c.requires.case))
          (c.answer_write.ensures.server ∙ ap (λ x. (tells_outcome x own number op o).server) is)
          (ap (λ x. (tells_outcome x own number op o).outs) is));
      sends = c.answer_write.ensures.sent;
    }

pub returns-in-SeizesLock-clause-performed : goal.returns-in-SeizesLock-clause-performed
returns-in-SeizesLock-clause-performed c =
    let s = meaning c.args.self.now in
    let own = c.args.message.now.client in
    let number = c.in-SeizesLock.number in
    let op = c.in-SeizesLock.op in
    let o = c.write_with_lock-outcome.result in
    let is = c.acknowledge-in-SeizesLock.ensures.acknowledged in
    let outs = (tells_outcome (meaning c.acknowledge-in-SeizesLock.new.self) own number op o).outs in
    record {
      outs = outs;
      performed = subst (λ left. IsPerformed s c.args.message.now (meaning c.answer_write-in-SeizesLock.new.self) left outs) (sym (ap (λ (d : Performed). d.after) c.changing-in-SeizesLock.ensures))
          (performed_taking s c.args.message.now (meaning c.answer_write-in-SeizesLock.new.self) number op o (meaning c.write_with_lock-outcome.new.self) outs
          (sym (ap (λ f. meant s own c.args.message.now.body f) c.in-SeizesLock.is) ∙ c.requires.case)
          c.write_with_lock-outcome.ensures.outcome c.write_with_lock-outcome.ensures.writes
          (c.answer_write-in-SeizesLock.ensures.server ∙ ap (λ x. (tells_outcome x own number op o).server) is)
          (ap (λ x. (tells_outcome x own number op o).outs) is));
      sends = c.answer_write-in-SeizesLock.ensures.sent;
    }

pub returns-in-SeizesLock-clause-change : goal.returns-in-SeizesLock-clause-change
returns-in-SeizesLock-clause-change c =
    let s = meaning c.args.self.now in
    ap (λ (d : Performed). d.change) c.changing-in-SeizesLock.ensures
    ∙ changed_taking s c.args.message.now c.in-SeizesLock.number c.in-SeizesLock.op c.write_with_lock-outcome.result
    (sym (ap (λ f. meant s c.args.message.now.client c.args.message.now.body f) c.in-SeizesLock.is) ∙ c.requires.case) c.write_with_lock-outcome.ensures.outcome

pub returns-in-AnswersAgain-clause-performed : goal.returns-in-AnswersAgain-clause-performed
returns-in-AnswersAgain-clause-performed c =
    let s = meaning c.args.self.now in
    let own = c.args.message.now.client in
    let number = c.in-AnswersAgain.number in
    let op = c.in-AnswersAgain.op in
    let o = c.in-AnswersAgain.outcome in
    let outs = (tells_outcome (meaning c.acknowledge-in-AnswersAgain.new.self) own number op o).outs in
    record {
      outs = outs;
      performed = subst (λ left. IsPerformed s c.args.message.now (meaning c.answer_write-in-AnswersAgain.new.self) left outs) (sym (ap (λ (d : Performed). d.after) c.unchanging-in-AnswersAgain.ensures))
          (performed_again s c.args.message.now (meaning c.answer_write-in-AnswersAgain.new.self) number op o outs
          (sym (ap (λ f. meant s own c.args.message.now.body f) c.in-AnswersAgain.is) ∙ c.requires.case)
          (c.answer_write-in-AnswersAgain.ensures.server ∙ ap (λ x. (tells_outcome x own number op o).server) c.acknowledge-in-AnswersAgain.ensures.acknowledged)
          (ap (λ x. (tells_outcome x own number op o).outs) c.acknowledge-in-AnswersAgain.ensures.acknowledged));
      sends = c.answer_write-in-AnswersAgain.ensures.sent;
    }
