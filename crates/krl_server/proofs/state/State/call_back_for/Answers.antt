use Rattle.krl_server.proofs.Names.{◌≡◌, ◌≤◌, ◌+◌, length, refl, sym, ap, subst, ◌∙◌, add-one, arith, join, meaning, Sends, call_if, callback_if}
use Rattle.krl_server.proofs.Functions.CallbackLoop.{IsCalled, callback_is, none_called, room_for_one, one_called}
use Rattle.krl_server.proofs.Functions.CallbackLoop.{all_called, for_is}
use Rattle.krl_server.proofs.state.State.call_back_for.Goals as goal

-- the callback to one client is the one of the rules
to_one : (c : goal.After-call_back_one-arg-1) → call_if (meaning c.args.self.now) c.args.first.now.waiter c.join-wanted.result c.args.first.now.span c.loop-client.client c.mode_of-held.result ≡ callback_if (meaning c.args.self.now) c.args.slot c.args.first.now.waiter c.loop-client.client
to_one c =
    callback_is (meaning c.args.self.now) c.args.slot c.args.first.now.waiter c.loop-client.client c.join-wanted.result c.mode_of-held.result c.args.first.now.span _ refl
    (c.join-wanted.ensures.join ∙ ap (λ g. join g c.args.first.now.waiter.mode) (c.mode_of.ensures ∙ c.requires.first.modes c.args.first.now.waiter.client))
    (c.mode_of-held.ensures ∙ c.requires.first.modes c.loop-client.client)
    c.requires.first.span

pub loop-client-init : goal.loop-client-init
loop-client-init c = none_called (meaning c.args.self.now) c.args.slot c.args.first.now.waiter c.args.outbox.now

pub call_back_one-requires : goal.call_back_one-requires
call_back_one-requires c =
    let s = meaning c.args.self.now in
    room_for_one s c.args.slot c.args.first.now.waiter c.loop-client.client c.args.outbox.now c.loop-client.outbox _ c.loop-client-test.true c.loop-client.invariant (to_one c)
    (subst (λ l. length c.args.outbox.now.sent + length l ≤ c.args.outbox.now.room) (for_is s c.args.slot c.args.first.now.waiter c.asks_absent.result c.asks_absent.ensures c.if-asks_absent.false) c.requires.room)

pub loop-client-preserved : goal.loop-client-preserved
loop-client-preserved c =
    subst (λ d. IsCalled (meaning c.args.self.now) c.args.slot c.args.first.now.waiter d c.args.outbox.now c.call_back_one.new.outbox) (sym (add-one c.loop-client.client))
    (one_called (meaning c.args.self.now) c.args.slot c.args.first.now.waiter c.loop-client.client c.args.outbox.now c.loop-client.outbox c.call_back_one.new.outbox _ c.loop-client-test.true c.loop-client.invariant (to_one c.before) c.call_back_one.ensures)

pub returns : goal.returns
returns c =
    let s = meaning c.args.self.now in
    subst (λ l. Sends c.args.outbox.now c.loop-client.outbox l) (sym (for_is s c.args.slot c.args.first.now.waiter c.asks_absent.result c.asks_absent.ensures c.if-asks_absent.false))
    (all_called s c.args.slot c.args.first.now.waiter c.loop-client.client c.args.outbox.now c.loop-client.outbox (omega (arith, c.loop-client-test.false)) c.loop-client.invariant)
