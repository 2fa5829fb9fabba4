use Rattle.krl_server.proofs.Names.{arith, meaning}
use Rattle.krl_server.proofs.Functions.Facts.{facts_of}
use Rattle.krl_server.proofs.state.State.reserve_room.Goals as goal

pub reserve-requires : goal.reserve-requires
reserve-requires c =
    let client = (facts_of (meaning c.args.self.now) c.args.message.now c.args.case.now _ c.requires.case c.in-Waits.is).client in
    let full = c.requires.rooms.full in
    omega (arith, client, full)
