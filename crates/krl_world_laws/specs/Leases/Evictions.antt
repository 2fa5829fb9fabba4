-- An eviction, in one world with the leases and the host.
use Rattle.std.specs.Prelude.{◌≡◌, ◌<◌, ◌≤◌, ℕ, true, List, Some, None}
use Rattle.krl_modes.specs.declared.limits.TheConstants.{MAX_CLIENTS}
use Rattle.krl_modes.specs.declared.point.TheConstants.{END}
use Rattle.krl_messages.specs.Members.{In}
use Rattle.krl_client.specs.Clients.{begun}
use Rattle.krl_client.specs.Commands.{says_bye}
use Rattle.krl_client.specs.Ticks.{says_hello}
use Rattle.krl_world.specs.declared.message.Message.TheVariants as message
use Rattle.krl_world.specs.States.{client_of}
use Rattle.krl_leases.specs.Clocks.{Clocks, Limits}
use Rattle.krl_leases.specs.Machine.{State as Lease, Server, Registered, Evicted}
use Rattle.krl_leases.specs.Servers.{has_come}
use Rattle.krl_world_laws.specs.Systems.{hosts}
use Rattle.krl_world_laws.specs.Leases.Leased.{Machines, Leased, Event, Runs, IsReached}

-- the incarnation is registered, and by the clock of its server's machine the lease has ended
abbrev pub HasEnded : Clocks → Lease → Type 0
HasEnded clocks l =
    (s : Server) × (l.server ≡ Some s) × (l.standing ≡ Registered)
    × (has_come s.until (clocks.server s.machine l.now) ≡ true)

-- Incarnation i of the client is evicted by a Hello and a Bye of incarnation n: they have left, as if it had started
-- and left at once. No client of this number runs, and the server's host is as it was
pub record IsEvictedBy (w v : Leased hosts) (c i n : ℕ) : Type 0 where
  pub evicted : (v.leases c i).standing ≡ Evicted
  pub gone : client_of v.world.world c ≡ None
  pub host : v.world.host ≡ w.world.host
  pub hello : In (message.ToServer (says_hello (begun c n))) v.world.world.sent
  pub bye : In (message.ToServer (says_bye (begun c n))) v.world.world.sent

-- Whenever the lease of an incarnation has ended, events of this one world lead to its eviction, by any incarnation
-- that is greater than all that were started: whether its process runs, has crashed, or stands still
abbrev pub EvictionsAreRuns : Type 0
EvictionsAreRuns =
    (limits : Limits) (m : Machines) (w : Leased hosts) (c i n : ℕ) → IsReached hosts limits m w → c < MAX_CLIENTS →
    HasEnded (m c i) (w.leases c i) → (w.world.world.places c).last_incarnation < n → n ≤ END →
    (es : List Event) × (v : Leased hosts) × Runs hosts limits m w es v × IsEvictedBy w v c i n
