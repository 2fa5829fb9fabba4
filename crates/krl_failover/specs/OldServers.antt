-- What an old server does, as its code is, is some steps of the machine of many servers, which leave the store's
-- server, the clients and all other old servers as they are.
use Rattle.std.specs.Prelude.{◌≡◌, ◌≢◌, ℕ, Option, List}
use Rattle.krl_messages.specs.Values.{Value}
use Rattle.krl_messages.specs.declared.to_server.ToServer.{ToServer}
use Rattle.krl_messages.specs.declared.to_client.ToClient.{ToClient}
use Rattle.krl_messages.specs.Members.{In}
use Rattle.krl_machine.specs.Links.{Link}
use Rattle.krl_machine.specs.Worlds.{Logged}
use Rattle.krl_server.specs.Servers.{Server}
use Rattle.krl_server.specs.Steps.{ServerStep, nudge}
use Rattle.krl_server.specs.Soundness.{IsSound}
use Rattle.krl_refinement.specs.Messages.{Stands, WasSent}
use Rattle.krl_refinement.specs.Client.Shows.{Grows}
use Rattle.krl_failover.specs.Fenced.{Fenced}
use Rattle.krl_failover.specs.Steps.{FencedSteps}
use Rattle.krl_failover.specs.OldShows.{ShowsOld}
use Rattle.krl_failover.specs.Follows.{Mirrors}

-- the machine continues to a world in which the old server is t, and these messages stand. The store's server is what
-- it was
pub record OldFollows (first : ℕ → Option Value) (f : Fenced) (store : Server) (of : ℕ → Link) (log : List Logged)
    (s t : Server) (outs : List ToClient) : Type 0 where
  pub fenced : Fenced
  pub after : ℕ → Link
  pub steps : FencedSteps f fenced
  pub mirrors : Mirrors first fenced store after log
  pub shows : ShowsOld t fenced
  pub sound : IsSound t
  pub sent : (o : ToClient) → In o outs → WasSent (after o.client) o.incarnation o.body
  pub clients : (c : ℕ) → (after c).client ≡ (of c).client
  pub grows : (c : ℕ) → Grows (of c) (after c)
  pub others : (x : Server) → x.durable.epoch ≢ s.durable.epoch → ShowsOld x f → ShowsOld x fenced

pub record OldFollow : Type 0 where
  -- it reads a message that was sent, and changes nothing that survives
  pub step : (first : ℕ → Option Value) (f : Fenced) (store s t : Server) (of : ℕ → Link) (log : List Logged)
      (m : ToServer) (outs : List ToClient) → Mirrors first f store of log → ShowsOld s f → IsSound s →
      Stands (of m.client) m.incarnation m.body → ServerStep s m t outs → t.durable ≡ s.durable →
      OldFollows first f store of log s t outs
  -- it is nudged
  pub nudge : (first : ℕ → Option Value) (f : Fenced) (store s : Server) (of : ℕ → Link) (log : List Logged) (c : ℕ) →
      Mirrors first f store of log → ShowsOld s f → IsSound s → OldFollows first f store of log s s (nudge s c)
