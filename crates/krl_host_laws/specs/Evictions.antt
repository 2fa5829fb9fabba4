-- What a host that evicts a client hands to its server.
use Rattle.std.specs.Prelude.{◌≡◌, ℕ, ◌≤◌, ◌<◌, None}
use Rattle.krl_modes.specs.declared.point.TheConstants.{END}
use Rattle.krl_modes.specs.declared.limits.TheConstants.{MAX_CLIENTS}
use Rattle.krl_messages.specs.Members.{In}
use Rattle.krl_client.specs.Clients.{begun}
use Rattle.krl_client.specs.Commands.{says_bye}
use Rattle.krl_client.specs.Ticks.{says_hello}
use Rattle.krl_world.specs.declared.message.Message.TheVariants as message
use Rattle.krl_world.specs.States.{client_of}
use Rattle.krl_host_laws.specs.Hosts.{HostWorld, IsReached}

-- Here the server's host may hand over a Hello of incarnation n of client c, and its Bye, as messages that have left
-- their client: nothing else of the server or its host has changed, and the client still does not run
pub record CanEvict (w : HostWorld) (c n : ℕ) : Type 0 where
  pub after : HostWorld
  pub reached : IsReached after
  pub host : after.host ≡ w.host
  pub server : after.world.server ≡ w.world.server
  pub gone : client_of after.world c ≡ None
  pub hello : In (message.ToServer (says_hello (begun c n))) after.world.sent
  pub bye : In (message.ToServer (says_bye (begun c n))) after.world.sent

-- wherever the client does not run, by any incarnation that is greater than all that were started
abbrev pub EvictionsAreMoves : Type 0
EvictionsAreMoves =
    (w : HostWorld) (c n : ℕ) → IsReached w → c < MAX_CLIENTS → client_of w.world c ≡ None →
    (w.world.places c).last_incarnation < n → n ≤ END → CanEvict w c n
