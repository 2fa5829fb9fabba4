-- Each step of the server's side is some steps of the machine, which leave the clients as they are.
use Rattle.std.specs.Prelude.{◌≡◌, ℕ, ◌≤◌, ◌&&◌, Bool, true, false, Option, None, List, [], nat_eq, if◌then◌else◌}
use Rattle.std.specs.FinMap as map
use Rattle.krl_modes.specs.declared.point.TheConstants.{END}
use Rattle.krl_modes.specs.declared.part.RangePart.TheVariants as range
use Rattle.krl_modes.specs.declared.part.KeyPart.TheVariants as key
use Rattle.krl_messages.specs.Values.{Value}
use Rattle.krl_messages.specs.declared.to_server.ToServer.{ToServer}
use Rattle.krl_messages.specs.declared.to_client.ToClient.{ToClient}
use Rattle.krl_messages.specs.Members.{In}
use Rattle.krl_machine.specs.Links.{Link}
use Rattle.krl_machine.specs.Worlds.{Logged, World, Steps, Reachable}
use Rattle.krl_durable.specs.Registers.{Durable, not_left}
use Rattle.krl_server.specs.Servers.{Server, is_recovering}
use Rattle.krl_server.specs.Cases.{case_of, clears}
use Rattle.krl_server.specs.Steps.{ServerStep, alarms, nudge, start, can_start}
use Rattle.krl_server.specs.Soundness.{IsSound}
use Rattle.krl_refinement.specs.Messages.{Stands, WasSent}
use Rattle.krl_refinement.specs.Server.AsLinks.{Shows, world_of, DurableShows, down_world_of, logged}

-- the machine continues to a world that shows the server t, if these messages stand
pub record Follows (from : World) (of : ℕ → Link) (t : Server) (outs : List ToClient) : Type 0 where
  pub after : ℕ → Link
  pub log_after : List Logged
  pub steps : Steps from (world_of t after log_after)
  pub shows : Shows t after
  pub sound : IsSound t
  pub sent : (o : ToClient) → In o outs → WasSent (after o.client) o.incarnation o.body
  pub clients : (c : ℕ) → (after c).client ≡ (of c).client

-- The bound

-- the client's bound is as it was, or N if its record was cleared
pub record BoundStays (cleared : Bool) (l m : Link) : Type 0 where
  pub range : (p : ℕ) → m.top_range p ≡ (if cleared then range.N else l.top_range p)
  pub key : (p : ℕ) → m.top_key p ≡ (if cleared then key.N else l.top_key p)

-- Steps

-- a message is read
pub record StepFollows (s : Server) (of : ℕ → Link) (log : List Logged) (m : ToServer) (t : Server)
    (outs : List ToClient) : Type 0 where
  pub follows : Follows (world_of s of log) of t outs
  pub writes : follows.log_after ≡ logged m (case_of s m) log
  pub bound : is_recovering t.missing ≡ true → (c : ℕ) →
      BoundStays (nat_eq c m.client && clears (case_of s m)) (of c) (follows.after c)

-- a nudge
pub record NudgeFollows (s : Server) (of : ℕ → Link) (log : List Logged) (c : ℕ) : Type 0 where
  pub follows : Follows (world_of s of log) of s (nudge s c)
  pub writes : follows.log_after ≡ log
  pub bound : (d : ℕ) → BoundStays false (of d) (follows.after d)

-- a crash. What it leaves can be started
pub record CrashFollows (s : Server) (of : ℕ → Link) (log : List Logged) : Type 0 where
  pub steps : Steps (world_of s of log) (down_world_of s.durable of log)
  pub shows : DurableShows s.durable of
  pub sound : IsSound (start s.durable)

-- a start
pub record StartFollows (d : Durable) (of : ℕ → Link) (log : List Logged) : Type 0 where
  pub follows : Follows (down_world_of d of log) of (start d) []
  pub writes : follows.log_after ≡ log
  pub bound : is_recovering (start d).missing ≡ true → (c : ℕ) → BoundStays false (of c) (follows.after c)

-- in the link nothing is held, sent or waited for
pub record IsIdle (l : Link) : Type 0 where
  pub missing : l.missing ≡ false
  pub last_push : l.last_push ≡ 0
  pub acked : l.acked ≡ true
  pub range : (q : ℕ) → l.top_range q ≡ range.N
  pub key : (q : ℕ) → l.top_key q ≡ key.N

-- the server of a first start, if each client that is known has left
pub record Opens (d : Durable) (of : ℕ → Link) : Type 0 where
  pub shows : Shows (start d) of
  pub sound : IsSound (start d)

-- each step of the server's side, in a machine's world that can be reached
pub record ServerFollows : Type 0 where
  pub step : (first : ℕ → Option Value) (s t : Server) (of : ℕ → Link) (log : List Logged) (m : ToServer)
      (outs : List ToClient) → Reachable first END (world_of s of log) →
      Shows s of → IsSound s → Stands (of m.client) m.incarnation m.body → ServerStep s m t outs →
      StepFollows s of log m t outs
  pub no_alarm : (first : ℕ → Option Value) (s : Server) (of : ℕ → Link) (log : List Logged) (m : ToServer) →
      Reachable first END (world_of s of log) → Shows s of → IsSound s → Stands (of m.client) m.incarnation m.body →
      alarms s m ≡ false
  pub nudge : (first : ℕ → Option Value) (s : Server) (of : ℕ → Link) (log : List Logged) (c : ℕ) →
      Reachable first END (world_of s of log) → Shows s of → IsSound s → NudgeFollows s of log c
  pub crash : (s : Server) (of : ℕ → Link) (log : List Logged) → Shows s of → IsSound s → CrashFollows s of log
  pub start : (d : Durable) (of : ℕ → Link) (log : List Logged) → can_start d ≡ true → DurableShows d of →
      IsSound (start d) → StartFollows d of log
  pub opens : (d : Durable) (of : ℕ → Link) → not_left d.register ≡ [] → DurableShows d of →
      ((c : ℕ) → IsIdle (of c)) → ((q : ℕ) → END ≤ q → map.get d.index q ≡ None) → Opens d of
