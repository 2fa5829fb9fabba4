-- A host of one server, as a process over a store, and another process that overtakes it.
use Rattle.std.specs.Prelude.{◌≡◌, ◌<◌, ℕ, Option, Some, None, [], ◌∷◌, nat_eq, if◌then◌else◌}
use Rattle.std.specs.FinMap as map
use Rattle.krl_world.specs.States.{index_of}
use Rattle.krl_host_laws.specs.Hosts.{Host, HostWorld, disk_of}
use Rattle.krl_host_laws.specs.Hosts as host
use Rattle.krl_fenced_hosts.specs.Processes.{Process, StoreWorld, IsReached}

abbrev pub process_of : Option Host → ℕ → Option Process
process_of None mark = None
process_of (Some h) mark = Some (record { host = h; mark = mark })

-- its disk is a store, which has taken so many transactions, and the host is the only process
abbrev pub store_of : HostWorld → ℕ → StoreWorld
store_of w mark = record {
  world = w.world;
  mark = mark;
  processes = λ p. if nat_eq p 0 then process_of w.host mark else None;
}

-- a host of one server is a process over a store of its own
abbrev pub HostsAreProcesses : Type 0
HostsAreProcesses = (w : HostWorld) → host.IsReached w → (mark : ℕ) × IsReached (store_of w mark)

-- A process has judged an insert in memory, when another one starts, and has its start kept. The first one runs on, and
-- the store takes no transaction of it any more: the insert never happened
pub record Overtakes : Type 0 where
  pub after : StoreWorld
  pub reached : IsReached after
  pub old : Process
  pub first : after.processes 0 ≡ Some old
  pub new : Process
  pub second : after.processes 1 ≡ Some new
  pub ahead : map.get old.host.memory.durable.index 15 ≡ Some (5 ∷ [])
  pub behind : map.get (index_of after.world) 15 ≡ None
  pub overtaken : old.mark < after.mark
  pub knows : new.mark ≡ after.mark
  pub started : new.host.memory.durable ≡ disk_of after.world
