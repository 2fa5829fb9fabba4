use Rattle.krl_server.proofs.Names.{Option, IfSome, subst, ServerOut, meaning}
use Rattle.krl_server.specs.GrantRooms.{NobodyCame}
use Rattle.krl_server.proofs.Functions.Roomed.{rooms_stay}
use Rattle.krl_server.proofs.state.State.step.Goals as goal

pub returns-in-Some-clause-rooms : goal.returns-in-Some-clause-rooms
returns-in-Some-clause-rooms c =
    let s = meaning c.args.self.now in
    let t = meaning c.step_at_once.new.self in
    rooms_stay s t c.args.rooms.now (subst (λ (o : Option ServerOut). IfSome o (λ x. NobodyCame s t)) c.in-Some.is c.in_ok-out.ensures.waiters) c.requires.rooms
