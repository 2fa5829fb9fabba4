use Rattle.krl_server.proofs.Names.{refl, ap, sym, subst, ◌∙◌, ◌≤◌, arith, length, fun_ext, Rows, with_rows, meaning, pushes, Sends}
use Rattle.krl_server.proofs.Grants.{IsTaken, reached_told}
use Rattle.krl_server.proofs.MostSlots.{reached_asked}
use Rattle.krl_server.proofs.Functions.FirstTurn.{front_is, front_in, granted_push}
use Rattle.krl_server.proofs.state.State.grant.Goals as goal

pub grant_of-kept-requires-clause-slots : goal.grant_of-kept-requires-clause-slots
grant_of-kept-requires-clause-slots c =
    let st = c.args.self.now in let m = st.durable.index in let s = meaning st in let u = c.args.waiter.now in let q = (s.rows c.args.slot).queue in
    (reached_told s (meaning (record st { table = c.grant-slots.new.self })) c.args.slot u c.as_slice.result.now _ c.requires.sound.near refl
    c.requires.slot (front_is q u c.requires.first)
    c.epoch-kept.ensures.kept.reach (c.as_slice.ensures.value ∙ c.grant-slots.ensures.reached)).there

pub grant_of-kept-requires-clause-order : goal.grant_of-kept-requires-clause-order
grant_of-kept-requires-clause-order c =
    let st = c.args.self.now in let m = st.durable.index in let s = meaning st in let u = c.args.waiter.now in let q = (s.rows c.args.slot).queue in
    (reached_told s (meaning (record st { table = c.grant-slots.new.self })) c.args.slot u c.as_slice.result.now _ c.requires.sound.near refl
    c.requires.slot (front_is q u c.requires.first)
    c.epoch-kept.ensures.kept.reach (c.as_slice.ensures.value ∙ c.grant-slots.ensures.reached)).order

pub grant_of-kept-requires-clause-some : goal.grant_of-kept-requires-clause-some
grant_of-kept-requires-clause-some c =
    let st = c.args.self.now in let m = st.durable.index in let s = meaning st in let u = c.args.waiter.now in let q = (s.rows c.args.slot).queue in
    (reached_told s (meaning (record st { table = c.grant-slots.new.self })) c.args.slot u c.as_slice.result.now _ c.requires.sound.near refl
    c.requires.slot (front_is q u c.requires.first)
    c.epoch-kept.ensures.kept.reach (c.as_slice.ensures.value ∙ c.grant-slots.ensures.reached)).some

pub grant_of-kept-requires-clause-few : goal.grant_of-kept-requires-clause-few
grant_of-kept-requires-clause-few c =
    let st = c.args.self.now in let m = st.durable.index in let s = meaning st in let u = c.args.waiter.now in let q = (s.rows c.args.slot).queue in
    (reached_told s (meaning (record st { table = c.grant-slots.new.self })) c.args.slot u c.as_slice.result.now _ c.requires.sound.near refl
    c.requires.slot (front_is q u c.requires.first)
    c.epoch-kept.ensures.kept.reach (c.as_slice.ensures.value ∙ c.grant-slots.ensures.reached)).few

pub grant_of-kept-requires-clause-room : goal.grant_of-kept-requires-clause-room
grant_of-kept-requires-clause-room c =
    let s = meaning c.args.self.now in let u = c.args.waiter.now in let q = (s.rows c.args.slot).queue in
    let far = reached_asked s c.args.slot u c.as_slice.result.now _ (c.requires.sound.placed c.args.slot u (front_in q u c.requires.first)).1
    (front_is q u c.requires.first) c.epoch-kept.ensures.kept.reach (c.as_slice.ensures.value ∙ c.grant-slots.ensures.reached) in
    let room = c.requires.holdings in omega (arith, far, room)

pub returns-clause-sent : goal.returns-clause-sent
returns-clause-sent c =
    let st = c.args.self.now in let s = meaning st in
    subst (Sends c.args.outbox.now c.push.new.outbox)
    (ap (λ b. (pushes (meaning (record st { table = c.grant-slots.new.self })) c.args.waiter.now.client b).outs) c.grant_of-kept.ensures.sent
    ∙ ap (λ d. d.outs) (granted_push s (meaning (record st { table = c.grant-slots.new.self })) c.args.waiter.now c.args.slot c.as_slice.result.now _
    (ap (λ (r : Rows). with_rows s r) (fun_ext c.grant-slots.ensures.granted)) (c.as_slice.ensures.value ∙ c.grant-slots.ensures.reached) refl))
    c.push.ensures.sent

pub returns-clause-server : goal.returns-clause-server
returns-clause-server c =
    let st = c.args.self.now in let s = meaning st in
    c.push.ensures.server
    ∙ ap (λ b. (pushes (meaning (record st { table = c.grant-slots.new.self })) c.args.waiter.now.client b).server) c.grant_of-kept.ensures.sent
    ∙ ap (λ d. d.server) (granted_push s (meaning (record st { table = c.grant-slots.new.self })) c.args.waiter.now c.args.slot c.as_slice.result.now _
    (ap (λ (r : Rows). with_rows s r) (fun_ext c.grant-slots.ensures.granted)) (c.as_slice.ensures.value ∙ c.grant-slots.ensures.reached) refl)
