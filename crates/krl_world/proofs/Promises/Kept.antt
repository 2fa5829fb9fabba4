-- What holds in each reachable world, by what the server's side owes.
use Rattle.krl_world.proofs.Names.{subst, END, Reachable, always_compatible, always_bounded, scans_are_index, restarts_hold, ServerFollows, State, IsReachable, Headline, Bound, HasBound, IsBounded}
use Rattle.krl_world.proofs.Names.{HoldsOverRestarts}
use Rattle.krl_machine.specs.Worlds as machine
use Rattle.krl_machine.proofs.Writes.{writes_once}
use Rattle.krl_world.proofs.Refinement.Mirrors.{machine_of, ServerShows}
use Rattle.krl_world.proofs.Refinement.Openings.{first_of}
use Rattle.krl_world.proofs.Refinement.Reached.{Reached, world_reached, bound_reached}
use Rattle.krl_world.proofs.Promises.CompatibilityAndScans.{compatible_world, scans_world}
use Rattle.krl_world.proofs.Promises.Written.{writes_world}
use Rattle.krl_world.proofs.Promises.Bounded.{bounded_world, said_world, told_world}
use Rattle.krl_world.proofs.Promises.Recovery.{recovery_world}

pub headline_holds : ServerFollows → (w : State) → IsReachable w → Headline w
headline_holds owed w h = let r = (world_reached owed w h).1 in let a = machine_of w.server r.of r.log in record {
  compatible = compatible_world w r.of r.log r.mirrors (always_compatible (first_of w.opening) END a r.reach);
  scans = scans_world w r.of r.log r.mirrors (scans_are_index (first_of w.opening) END a r.reach);
  writes = writes_world w r.of r.log r.mirrors (writes_once (first_of w.opening) END a r.reach);
}

pub bounded_holds : ServerFollows → (w : State) (b : Bound) → HasBound w b → IsBounded w b
bounded_holds owed w b h = let r = bound_reached owed w b h in let a = machine_of w.server r.of r.log in
    bounded_world w r.of r.log b r.mirrors r.index r.bound (always_bounded (first_of w.opening) END a r.reach) (restarts_hold (first_of w.opening) END a r.reach)

pub restarts_holds : ServerFollows → (w : State) (b : Bound) → HasBound w b → HoldsOverRestarts w b
restarts_holds owed w b h = record {
  said = λ m at. said_world w r.of r.log r.mirrors restarts m at;
  told = λ m at. told_world w r.of r.log r.mirrors restarts m at;
  recovery = λ s up recovering. recovery_world (first_of w.opening) w r.of r.log b s r.mirrors r.bound up (subst (λ n. Reachable (first_of w.opening) END (machine_of n r.of r.log)) up r.reach) recovering;
  no_alarm = λ s m up at. let shown = subst (λ n. ServerShows n r.of) up r.mirrors.server in
      owed.no_alarm (first_of w.opening) s r.of r.log m (subst (λ n. Reachable (first_of w.opening) END (machine_of n r.of r.log)) up r.reach) shown.0 shown.1 (r.mirrors.from m at);
}
  where
    r : Reached w.opening w b
    r = bound_reached owed w b h

    restarts : machine.Restarts (machine_of w.server r.of r.log)
    restarts = restarts_hold (first_of w.opening) END (machine_of w.server r.of r.log) r.reach
