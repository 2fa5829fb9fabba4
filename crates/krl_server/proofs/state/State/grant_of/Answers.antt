use Rattle.krl_server.proofs.Names.{◌≡◌, length, ap, ◌∙◌, arith, meaning}
use Rattle.krl_server.proofs.Grants.{holdings_long}
use Rattle.krl_server.proofs.state.State.grant_of.Goals as goal

pub into_copy-sent-requires-clause-room : goal.into_copy-sent-requires-clause-room
into_copy-sent-requires-clause-room c =
    let many = c.requires.room in
    let room = c.into_lists-kept.ensures.sent.1 in
    let long = ap length c.holdings-kept.ensures ∙ holdings_long (meaning c.args.self.now) c.args.client c.args.slots.now in
    omega (arith, many, room, long)
