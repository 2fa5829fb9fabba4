-- What a process reads of its server's index for one who is no client, and shows once that is in the store.
use Rattle.std.specs.Prelude.{◌≡◌, ℕ, ◌+◌, Some, length, take}
use Rattle.krl_world.specs.States.{index_of}
use Rattle.krl_host_laws.specs.Hosts.{kept}
use Rattle.krl_fenced_hosts.specs.Processes.{Process, StoreWorld, Moves, IsReached}

-- From u on, where the process p reads as x, up to w, where it still runs, as y. It judges on meanwhile and makes
-- transactions, and clients and other processes make any moves.
pub data RunsOn (p : ℕ) (x : Process) (u : StoreWorld) : StoreWorld → Process → Type 0 where
  reads : u.processes p ≡ Some x → RunsOn p x u u x
  goes_on : (v w : StoreWorld) (y z : Process) → RunsOn p x u v y → Moves v w → w.processes p ≡ Some z →
      RunsOn p x u w z

-- A process reads its server's index at u. At w the first n of the notes that wait are those that waited as it read and
-- are not in the store yet; what it has noted since stands after them. If the store takes a transaction of the process
-- now, and be it an empty one, then the process knows the store's last one. So what it has read is the store's index
-- right after a transaction of those n, whatever it judges meanwhile and whatever other processes do. Whoever asked
-- before u, and is answered once they are in the store, is told its index of a moment between.
abbrev pub ReadsAreStored : Type 0
ReadsAreStored =
    (p : ℕ) (u w : StoreWorld) (x y : Process) (n : ℕ) → IsReached u → RunsOn p x u w y → y.mark ≡ w.mark →
    y.host.kept + n ≡ x.host.kept + length x.host.unkept →
    index_of (kept w.world (take n y.host.unkept)) ≡ x.host.memory.durable.index
