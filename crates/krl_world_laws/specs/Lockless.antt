-- A read of rows without a lock, as the server's host asks for it.
use Rattle.std.specs.Prelude.{◌≡◌, ◌≢◌, ◌≤◌, ◌<◌, ℕ, true, Some}
use Rattle.krl_modes.specs.declared.part.RangePart.TheVariants as range
use Rattle.krl_modes.specs.declared.part.KeyPart.TheVariants as key
use Rattle.krl_modes.specs.Parts.{ranges_compatible, keys_compatible}
use Rattle.krl_durable.specs.Index.{slot_of}
use Rattle.krl_server.specs.Servers.{Server}
use Rattle.krl_server.specs.Waits.{may_read}
use Rattle.krl_world.specs.States.{Up, State, range_held, key_held}
use Rattle.krl_world.specs.Steps.{IsReachable}
use Rattle.krl_host_laws.specs.Hosts.{Host, HostWorld, IsReached}

-- the server finds that the client c would get each slot of the points from lo on below hi at once to read it
abbrev pub MayRead : Server → ℕ → ℕ → ℕ → Type 0
MayRead s c lo hi = (p : ℕ) → lo ≤ p → p < hi → may_read s c (slot_of s.durable.index p) ≡ true

-- no other client holds anything there by which it could write or insert: so none keeps the range by a pin to write
abbrev pub NobodyElseWrites : State → ℕ → ℕ → ℕ → Type 0
NobodyElseWrites w c lo hi =
    (d p : ℕ) → d ≢ c → lo ≤ p → p < hi →
    (ranges_compatible (range_held w d p) range.S ≡ true) × (keys_compatible (key_held w d p) key.S ≡ true)

-- the server of the world
abbrev pub SparesPinsOfWorlds : Type 0
SparesPinsOfWorlds =
    (w : State) (s : Server) (c lo hi : ℕ) → IsReachable w → w.server ≡ Up s → MayRead s c lo hi →
    NobodyElseWrites w c lo hi

-- the server that a host has in memory
abbrev pub SparesPinsOfHosts : Type 0
SparesPinsOfHosts =
    (w : HostWorld) (h : Host) (c lo hi : ℕ) → IsReached w → w.host ≡ Some h → MayRead h.memory c lo hi →
    NobodyElseWrites w.world c lo hi
