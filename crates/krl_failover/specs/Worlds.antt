-- A world over one fenced store: the store's server, any number of old servers, the clients, and every message that was
-- sent.
use Rattle.std.specs.Prelude.{◌≡◌, ◌≢◌, ℕ, true, Option, Some, None, List, [], nat_eq, if◌then◌else◌}
use Rattle.krl_modes.specs.declared.part.RangePart.TheVariants as range
use Rattle.krl_messages.specs.declared.to_server.ToServer.{ToServer}
use Rattle.krl_messages.specs.declared.to_client.ToClient.{ToClient}
use Rattle.krl_messages.specs.Members.{In}
use Rattle.krl_durable.specs.declared.limits.Limits.{Limits}
use Rattle.krl_durable.specs.Registers.{Durable}
use Rattle.krl_durable.specs.Limits.{Fits, sized}
use Rattle.krl_server.specs.Servers.{Server}
use Rattle.krl_server.specs.Steps.{ServerStep, nudge, crash, start, can_start}
use Rattle.krl_steps.specs.declared.step.Step.{Step}
use Rattle.krl_steps.specs.declared.step.Step.TheVariants as step
use Rattle.krl_steps.specs.declared.answer.Answer.{Answer}
use Rattle.krl_world.specs.declared.message.Message.TheVariants as message
use Rattle.krl_world.specs.States.{Up, State, opened, range_held, served}
use Rattle.krl_world.specs.Steps.{CanOpen, Takes}

pub record FencedWorld : Type 0 where
  pub world : State  -- the server of the store's epoch, which runs, the clients, and every message that was sent
  pub old : ℕ → Option Server  -- the server of each earlier epoch, as it continues

-- the old servers with this one of that epoch
abbrev pub set_old : (ℕ → Option Server) → ℕ → Server → ℕ → Option Server
set_old old epoch s e = if nat_eq e epoch then Some s else old e

pub data Moves (w : FencedWorld) : FencedWorld → Type 0 where
  -- a client or the store's server takes a step. A server that crashes is one that takes no more steps
  takes : (s : Step) (answer : Answer) (v : State) → s ≢ step.CrashServer → Takes w.world s answer v →
      Moves w (record w { world = v })
  -- a server starts on what survives the store's server s, with limits that leave room for it. The server s is fenced
  -- and continues as an old one
  starts : (s : Server) (l : Limits) → w.world.server ≡ Up s → Fits l (crash s) → can_start (crash s) ≡ true →
      Moves w (record {
        world = served w.world (Up (start (sized l (crash s)))) [] [];
        old = set_old w.old s.durable.epoch s;
      })
  -- an old server reads a message that was sent, and changes nothing that survives: its changes are refused
  old_reads : (epoch : ℕ) (s t : Server) (m : ToServer) (outs : List ToClient) → w.old epoch ≡ Some s →
      In (message.ToServer m) w.world.sent → ServerStep s m t outs → t.durable ≡ s.durable →
      Moves w (record { world = served w.world w.world.server outs []; old = set_old w.old epoch t })
  -- an old server is nudged
  old_nudged : (epoch c : ℕ) (s : Server) → w.old epoch ≡ Some s →
      Moves w (record { world = served w.world w.world.server (nudge s c) []; old = w.old })

-- a list of moves leads to this world from one that began with a durable part, with no old server
pub data IsReached : FencedWorld → Type 0 where
  begun : (d : Durable) → CanOpen d → IsReached (record { world = opened d; old = λ e. None })
  moved : (w v : FencedWorld) → IsReached w → Moves w v → IsReached v

-- after a server has started in epoch 2, an old one grants a lock, and the client, which held nothing at point 5, reads
-- the gap around it
pub record OldGrants : Type 0 where
  pub before : FencedWorld
  pub between : FencedWorld
  pub after : FencedWorld
  pub reached : IsReached before
  pub grants : Moves before between
  pub accepts : Moves between after
  pub store : Server
  pub up : before.world.server ≡ Up store
  pub epoch : store.durable.epoch ≡ 2
  pub held : range_held before.world 0 5 ≡ range.N
  pub holds : range_held after.world 0 5 ≡ range.S
