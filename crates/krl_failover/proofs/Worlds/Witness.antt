-- A run: a client asks the server of epoch 1 for a lock, a server starts in epoch 2, and the old one grants it.
use Rattle.std.proofs.Common.{◌≡◌, ℕ, Option, Some, None, [], ◌∷◌, inl, inr, refl, ap, ◌∙◌}
use Rattle.krl_modes.specs.declared.mode.Mode.TheVariants as mode
use Rattle.krl_messages.specs.Members.{In}
use Rattle.krl_client.specs.Clients.{Client}
use Rattle.krl_client.specs.Commands.{locked}
use Rattle.krl_client.specs.Messages.{says_ack}
use Rattle.krl_durable.specs.Limits.{Fits}
use Rattle.krl_durable.specs.StandardLimits.{standard_limits}
use Rattle.krl_server.specs.Servers.{Server}
use Rattle.krl_server.specs.Steps.{start}
use Rattle.krl_server.specs.Effects.{effect}
use Rattle.krl_server.proofs.Invariant.Kept.{server_keeps}
use Rattle.krl_steps.specs.declared.step.Step.TheVariants as step
use Rattle.krl_steps.specs.declared.step.Command.TheVariants as command
use Rattle.krl_steps.specs.declared.answer.Answer.TheVariants as told
use Rattle.krl_world.specs.declared.message.Message.TheVariants as message
use Rattle.krl_world.specs.States.{Up, State, opened, unused, fresh, served, with_client}
use Rattle.krl_world.specs.Steps.{Takes}
use Rattle.krl_world.proofs.Examples.Worked.{two, lock, grant, joined, granted, lock_case, reads_lock}
use Rattle.krl_world.proofs.Examples.Running as one
use Rattle.krl_failover.specs.Worlds.{FencedWorld, set_old, takes, starts, old_reads, IsReached, begun, moved, OldGrants}

abbrev nobody : ℕ → Option Server
nobody e = None

-- the client has asked for the lock
abbrev k2 : Client
k2 = locked one.k1 5 6 mode.RangeSS

abbrev w4 : State
w4 = with_client one.w3 0 (Some k2) (lock ∷ [])

asks : Takes one.w3 (step.Command 0 (command.Lock 5 6 mode.RangeSS)) told.Done w4
unfolding opened
asks = (refl, (one.k1, refl, (refl, refl)))

-- the next server has started
abbrev fenced : FencedWorld
fenced = record { world = served w4 (Up (start (joined one.m).durable)) [] []; old = set_old nobody 1 (joined one.m) }

-- the old one has granted the lock
abbrev told_so : FencedWorld
told_so = record { world = served fenced.world fenced.world.server (grant ∷ []) []; old = set_old fenced.old 1 (granted one.m) }

-- and the client has it
abbrev w7 : State
w7 = with_client told_so.world 0 (Some one.k3) (says_ack one.k3 ∷ [])

accepts : Takes told_so.world (step.Deliver 5) told.Done w7
unfolding opened
accepts = (refl, (refl, (one.no_pieces, one.told_nothing, refl)))

abbrev in_one : State → FencedWorld
in_one w = record { world = w; old = nobody }

asked : IsReached (in_one w4)
asked =
    moved (in_one one.w3) (in_one w4)
    (moved (in_one one.w2) (in_one one.w3)
    (moved (in_one one.w1) (in_one one.w2)
    (moved (in_one (fresh two)) (in_one one.w1) (begun (unused two) one.opens) (takes (step.StartClient 0) told.Done one.w1 (λ e. cc) one.starts))
    (takes (step.Deliver 1) told.Done one.w2 (λ e. cc) one.hears_hello))
    (takes (step.Deliver 2) told.Done one.w3 (λ e. cc) one.joins))
    (takes (step.Command 0 (command.Lock 5 6 mode.RangeSS)) told.Done w4 (λ e. cc) asks)

lock_sent : In (message.ToServer lock) fenced.world.sent
unfolding opened
lock_sent = inr (inr (inr (inl refl)))

-- the grant changes nothing that survives
unchanged : (granted one.m).durable ≡ (joined one.m).durable
unchanged =
    server_keeps.step_durable (joined one.m) (granted one.m) lock (grant ∷ []) (reads_lock one.m one.index_entries)
    ∙ ap (λ k. (effect (joined one.m) lock k).server.durable) (lock_case one.m one.index_entries)

-- the next server has the limits that the first one had
fits : Fits standard_limits (joined one.m).durable
fits = record { room = one.opens.kept.room; reach = one.opens.kept.reach; entries = one.opens.kept.few }

pub old_grants : OldGrants
unfolding opened
old_grants = record {
  before = fenced;
  between = told_so;
  after = record told_so { world = w7 };
  reached = moved (in_one w4) fenced asked (starts (joined one.m) standard_limits refl fits refl);
  grants = old_reads 1 (joined one.m) (granted one.m) lock (grant ∷ []) refl lock_sent (reads_lock one.m one.index_entries) unchanged;
  accepts = takes (step.Deliver 5) told.Done w7 (λ e. cc) accepts;
  store = start (joined one.m).durable;
  up = refl;
  epoch = refl;
  held = refl;
  holds = refl;
}
