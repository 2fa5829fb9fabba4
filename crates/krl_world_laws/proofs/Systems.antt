-- What each of the systems has.
use Rattle.std.proofs.Common.{Ok}
use Rattle.krl_refinement.proofs.Server.Whole.{all_follow}
use Rattle.krl_world.specs.Promises.{Headline}
use Rattle.krl_world.specs.Steps.{Steps}
use Rattle.krl_world.proofs.Functions.Shapes.{reachable_stays}
use Rattle.krl_world.proofs.Promises.Kept.{headline_holds}
use Rattle.krl_host_laws.specs.Hosts as host
use Rattle.krl_host_laws.proofs.Promised as hosts_promised
use Rattle.krl_fenced_hosts.specs.Processes as store
use Rattle.krl_fenced_hosts.proofs.Promised as stores_promised
use Rattle.krl_world_laws.specs.Systems.{System, worlds, hosts, fenced_hosts}

-- its moves lead on, and what is reached has the headline
pub record Follows (s : System) : Type 0 where
  pub moves : (w v : s.World) → s.IsReached w → s.Moves w v → s.IsReached v
  pub holds : (w : s.World) → s.IsReached w → Headline (s.view w)

pub worlds_follow : Follows worlds
unfolding Steps
worlds_follow = record {
  moves = λ w v r m. reachable_stays.step w v m.0 (Ok m.1) r m.2;
  holds = λ w r. headline_holds all_follow w r;
}

pub hosts_follow : Follows hosts
hosts_follow = record { moves = λ w v r m. host.moved w v r m; holds = hosts_promised.headline }

pub fenced_hosts_follow : Follows fenced_hosts
fenced_hosts_follow = record { moves = λ w v r m. store.moved w v r m; holds = stores_promised.headline }
