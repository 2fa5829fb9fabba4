-- A batch that a crash may lose, the same batch kept, and a batch that is kept in two parts with a crash between.
use Rattle.std.specs.Prelude.{◌≡◌, ℕ, [], ◌∷◌, Some, None, length}
use Rattle.std.specs.FinMap as map
use Rattle.krl_messages.specs.declared.holding.Holding.{Holding}
use Rattle.krl_messages.specs.declared.outcome.Outcome.TheVariants as outcome
use Rattle.krl_messages.specs.declared.to_client.ToClient.{ToClient}
use Rattle.krl_messages.specs.declared.to_client.ToClientBody.TheVariants as told
use Rattle.krl_messages.specs.Members.{In}
use Rattle.krl_durable.specs.Registers.{record_of}
use Rattle.krl_server.specs.Servers.{incarnation_or_0}
use Rattle.krl_world.specs.declared.message.Message.TheVariants as message
use Rattle.krl_world.specs.Runs.{answer_message}
use Rattle.krl_world.specs.States.{State, index_of}
use Rattle.krl_host_laws.specs.Hosts.{Host, HostWorld, IsReached, disk_of}

-- An insert was judged in memory, and is not on the disk: nobody has learned of it, and if the host crashes here it
-- never happened. If it is kept instead, its client learns that it is Applied.
pub record JudgesAhead : Type 0 where
  pub before : HostWorld
  pub reached : IsReached before
  pub host : Host
  pub runs : before.host ≡ Some host
  pub ahead : map.get host.memory.durable.index 15 ≡ Some (5 ∷ [])
  pub behind : map.get (index_of before.world) 15 ≡ None
  pub untold : (h : Holding) → In (answer_message 0 1 1 2 1 outcome.Applied h) before.world.sent → ⊥
  pub after : HostWorld
  pub goes_on : IsReached after
  pub there : map.get (index_of after.world) 15 ≡ Some (5 ∷ [])
  pub told : (h : Holding) × In (answer_message 0 1 1 2 1 outcome.Applied h) after.world.sent

-- which incarnation of the client the disk has, or 0
abbrev pub registered : State → ℕ → ℕ
registered w c = incarnation_or_0 (record_of (disk_of w).register c)

-- the server sends incarnation 1 of the client its first epoch
abbrev pub epoch_for : ℕ → ToClient
epoch_for c = record { client = c; incarnation = 1; body = told.Epoch 1 }

-- Clients 0, 1 and 2 were registered in memory, in one batch of which nothing is on the disk. Two of the three changes
-- are kept, the second client learns of it, and the host crashes: the third registration never happened
pub record KeepsInParts : Type 0 where
  pub before : HostWorld
  pub reached : IsReached before
  pub host : Host
  pub runs : before.host ≡ Some host
  pub batch : length host.unkept ≡ 3
  pub nothing : (registered before.world 0 ≡ 0) × (registered before.world 1 ≡ 0) × (registered before.world 2 ≡ 0)
  pub after : HostWorld
  pub goes_on : IsReached after
  pub crashed : after.host ≡ None
  pub parts : (registered after.world 0 ≡ 1) × (registered after.world 1 ≡ 1) × (registered after.world 2 ≡ 0)
  pub told : In (message.ToClient (epoch_for 1)) after.world.sent
