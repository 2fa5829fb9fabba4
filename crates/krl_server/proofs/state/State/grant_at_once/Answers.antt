use Rattle.krl_server.proofs.Names.{◌≡◌, ◌<◌, true, subst, sym, ap, ◌∙◌, refl, arith, AllByRecursion, is_slot, slot_of, Session, State, END, holdings, acknowledged, queues, meaning, pushes, Sends}
use Rattle.krl_messages.specs.Ascending.{Ascend}
use Rattle.krl_server.proofs.Grants.{slot_always, reached_told}
use Rattle.krl_server.proofs.MostSlots.{reached_most}
use Rattle.krl_server.proofs.Functions.FirstTurn.{granted_push}
use Rattle.krl_server.proofs.Functions.AtOnce.{noted, free_here, queue_here, granted_means, granted_turn}
use Rattle.krl_server.proofs.state.State.grant_at_once.Goals as goal

pub grant_of-kept-requires-clause-slots : goal.grant_of-kept-requires-clause-slots
grant_of-kept-requires-clause-slots c =
    let st = c.args.self.now in let s = meaning st in let u = c.args.waiter.now in let m = st.durable.index in let n = slot_of m u.point in
    subst (λ (x : State). AllByRecursion (λ n. is_slot x.durable.index n ≡ true) c.as_slice.result.now) (sym c.note_request.ensures)
    (reached_told (queues (acknowledged s u.client) u) (meaning (noted st u c.grant_at_once.new.self)) n u c.as_slice.result.now _ c.requires.sound.near refl (slot_always m u.point) (queue_here m s.rows u (free_here m s.rows u c.in-Some.ensures.when)) c.epoch-kept.ensures.kept.reach (c.as_slice.ensures.value ∙ c.in-Some.ensures.reached)).there

pub grant_of-kept-requires-clause-order : goal.grant_of-kept-requires-clause-order
grant_of-kept-requires-clause-order c =
    let st = c.args.self.now in let s = meaning st in let u = c.args.waiter.now in let m = st.durable.index in let n = slot_of m u.point in
    subst (λ (x : State). Ascend (holdings (meaning x) u.client c.as_slice.result.now)) (sym c.note_request.ensures)
    (reached_told (queues (acknowledged s u.client) u) (meaning (noted st u c.grant_at_once.new.self)) n u c.as_slice.result.now _ c.requires.sound.near refl (slot_always m u.point) (queue_here m s.rows u (free_here m s.rows u c.in-Some.ensures.when)) c.epoch-kept.ensures.kept.reach (c.as_slice.ensures.value ∙ c.in-Some.ensures.reached)).order

pub grant_of-kept-requires-clause-room : goal.grant_of-kept-requires-clause-room
grant_of-kept-requires-clause-room c =
    let s = meaning c.args.self.now in let u = c.args.waiter.now in let m = s.durable.index in
    let far = reached_most (queues (acknowledged s u.client) u) u c.as_slice.result.now _ (queue_here m s.rows u (free_here m s.rows u c.in-Some.ensures.when)) c.epoch-kept.ensures.kept.reach (c.as_slice.ensures.value ∙ c.in-Some.ensures.reached) in
    let room = c.requires.holdings in
    omega (arith, far, room)

pub returns-clause-answered : goal.returns-clause-answered
returns-clause-answered c is_true =
    let st = c.args.self.now in let s = meaning st in let u = c.args.waiter.now in let m = st.durable.index in let n = slot_of m u.point in
    let t = c.note_request.new.self in
    let q = queues (acknowledged s u.client) u in
    let client = c.requires.client in
    let full = c.requires.formed.full in
    let mid = ap meaning c.note_request.ensures ∙ granted_means st u c.grant_at_once.new.self (omega (arith, client, full)) c.in-Some.ensures.granted in
    let push = ap (λ b. pushes (meaning t) u.client b) c.grant_of-kept.ensures.sent ∙ granted_push q (meaning t) u n c.as_slice.result.now _ mid (c.as_slice.ensures.value ∙ c.in-Some.ensures.reached) refl in
    granted_turn s (meaning c.push.new.self) u c.args.outbox.now c.push.new.outbox (subst (λ (l : Session). l.last_push < END) c.session.ensures c.if-session-ge-END.false) c.in-Some.ensures.when (c.push.ensures.server ∙ ap (λ d. d.server) push) (subst (Sends c.args.outbox.now c.push.new.outbox) (ap (λ d. d.outs) push) c.push.ensures.sent)

pub returns-clause-free : goal.returns-clause-free
returns-clause-free c is_true =
    let s = meaning c.args.self.now in let u = c.args.waiter.now in
    free_here s.durable.index s.rows u c.in-Some.ensures.when
