use Rattle.krl_server.proofs.Names.{◌++◌, ◌∷◌, [], length, Some, None, refl, sym, ap, subst, ◌∙◌, arith, if◌then◌else◌, callbacks, is_alarm, HaveWaiters, Sent, meaning, meant, ServerStep}
use Rattle.krl_server.specs.Changes.{change_of}
use Rattle.krl_server.proofs.Functions.Boxes.{sends_length}
use Rattle.krl_server.proofs.Functions.Facts.{facts_of}
use Rattle.krl_server.proofs.Functions.Listed.{listed}
use Rattle.krl_server.proofs.Functions.AtOnce.{made_at_once}
use Rattle.krl_server.proofs.state.State.step_at_once.Goals as goal

pub grant_at_once-requires-clause-client : goal.grant_at_once-requires-clause-client
grant_at_once-requires-clause-client c = (facts_of (meaning c.args.self.now) c.args.message.now c.args.case.now _ c.requires.case c.in-Waits.is).client

pub call_back-requires-clause-slots : goal.call_back-requires-clause-slots
call_back-requires-clause-slots c = subst (HaveWaiters (meaning c.grant_at_once.new.self) 0) (sym c.as_slice.ensures.value)
    (listed c.grant_at_once.new.self 0 c.waiting_slots-slots.result.items c.waiting_slots-slots.ensures.slots c.waiting_slots-slots.ensures.there)

pub call_back-requires-clause-sound : goal.call_back-requires-clause-sound
call_back-requires-clause-sound c =
    let a = c.if-not-grant_at_once.ensures.answered refl in
    (made_at_once c.args.self.now c.args.message.now c.args.case.now c.in-Waits.req c.in-Waits.point c.in-Waits.hi c.in-Waits.mode (meaning c.grant_at_once.new.self) a.out
    c.requires.server c.requires.case c.in-Waits.is (sym c.is_recovering.ensures ∙ c.if-is_recovering.false) a.turned (c.if-not-grant_at_once.ensures.free refl)).sound

pub call_back-requires-clause-room : goal.call_back-requires-clause-room
call_back-requires-clause-room c =
    let a = c.if-not-grant_at_once.ensures.answered refl in
    let few = (made_at_once c.args.self.now c.args.message.now c.args.case.now c.in-Waits.req c.in-Waits.point c.in-Waits.hi c.in-Waits.mode (meaning c.grant_at_once.new.self) a.out
    c.requires.server c.requires.case c.in-Waits.is (sym c.is_recovering.ensures ∙ c.if-is_recovering.false) a.turned (c.if-not-grant_at_once.ensures.free refl)).few in
    let sent = sends_length c.in_ok-outbox.outbox c.grant_at_once.new.outbox (a.out ∷ []) a.sends in
    let none = ap (λ b. length b.sent) c.in_ok-outbox.ensures in
    let room = ap (λ b. b.room) c.in_ok-outbox.ensures in
    let more = a.sends.room in
    let count = c.count_waiting.ensures.count in
    omega (arith, few, sent, none, room, more, count)

pub returns-clause-stepped : goal.returns-clause-stepped
returns-clause-stepped c =
    let a = c.if-not-grant_at_once.ensures.answered refl in
    let s = meaning c.args.self.now in
    let m = c.args.message.now in
    let o = a.out in
    let t = meaning c.grant_at_once.new.self in
    let e = sym c.requires.case ∙ ap (meant s m.client m.body) c.in-Waits.is in
    let sent = c.into_items.ensures ∙ c.call_back.ensures.sent ∙ ap (λ l. l ++ callbacks t) (a.sends.sent ∙ ap (λ (b : Sent). b.sent ++ (o ∷ [])) c.in_ok-outbox.ensures) in
    record {
      step = subst (ServerStep s m t) (sym sent)
          (made_at_once c.args.self.now m c.args.case.now c.in-Waits.req c.in-Waits.point c.in-Waits.hi c.in-Waits.mode t o c.requires.server c.requires.case c.in-Waits.is (sym c.is_recovering.ensures ∙ c.if-is_recovering.false) a.turned (c.if-not-grant_at_once.ensures.free refl)).step;
      alarm = sym (ap (λ k. if is_alarm k then Some m.client else None) e);
      change = sym (ap (change_of m) e);
    }

pub returns-clause-waiters : goal.returns-clause-waiters
returns-clause-waiters c =
    let a = c.if-not-grant_at_once.ensures.answered refl in
    (made_at_once c.args.self.now c.args.message.now c.args.case.now c.in-Waits.req c.in-Waits.point c.in-Waits.hi c.in-Waits.mode (meaning c.grant_at_once.new.self) a.out
    c.requires.server c.requires.case c.in-Waits.is (sym c.is_recovering.ensures ∙ c.if-is_recovering.false) a.turned (c.if-not-grant_at_once.ensures.free refl)).came
