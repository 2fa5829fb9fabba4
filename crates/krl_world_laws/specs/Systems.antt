-- The systems of which the laws of this crate hold.
use Rattle.krl_steps.specs.declared.step.Step.{Step}
use Rattle.krl_steps.specs.declared.answer.Answer.{Answer}
use Rattle.krl_world.specs.States.{State}
use Rattle.krl_world.specs.Steps.{IsReachable, Takes}
use Rattle.krl_host_laws.specs.Hosts as host
use Rattle.krl_fenced_hosts.specs.Processes as store

pub record System : Type 1 where
  pub World : Type 0
  pub IsReached : World → Type 0
  pub Moves : World → World → Type 0
  pub view : World → State  -- the index that survives, the clients, and every message that was sent

-- one server, whose steps survive at once
abbrev pub worlds : System
worlds = record {
  World = State;
  IsReached = IsReachable;
  Moves = λ w v. (s : Step) × (answer : Answer) × Takes w s answer v;
  view = λ w. w;
}

-- the host of one server, which keeps what its server changes in batches
abbrev pub hosts : System
hosts = record {
  World = host.HostWorld;
  IsReached = host.IsReached;
  Moves = host.Moves;
  view = λ w. w.world;
}

-- any number of such hosts over one store
abbrev pub fenced_hosts : System
fenced_hosts = record {
  World = store.StoreWorld;
  IsReached = store.IsReached;
  Moves = store.Moves;
  view = λ w. w.world;
}
