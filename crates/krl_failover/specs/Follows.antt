-- What the store's server, as its code is, and the clients make of the machine of many servers, whatever old servers
-- have done before.
use Rattle.std.specs.Prelude.{◌≡◌, ◌≢◌, ℕ, true, false, Option, Some, List, []}
use Rattle.std.specs.FinMap as map
use Rattle.krl_modes.specs.declared.point.TheConstants.{END}
use Rattle.krl_modes.specs.declared.mode.Mode.TheVariants as mode
use Rattle.krl_messages.specs.Values.{Value}
use Rattle.krl_messages.specs.Members.{In}
use Rattle.krl_messages.specs.declared.to_server.ToServer.{ToServer}
use Rattle.krl_messages.specs.declared.to_client.ToClient.{ToClient}
use Rattle.krl_machine.specs.Links.{Link}
use Rattle.krl_machine.specs.Worlds.{Logged}
use Rattle.krl_durable.specs.declared.record.Record.{Record}
use Rattle.krl_durable.specs.Registers.{record_of}
use Rattle.krl_table.specs.Rows.{Rows, mode_at}
use Rattle.krl_client.specs.Clients.{Client}
use Rattle.krl_server.specs.Servers.{Server}
use Rattle.krl_server.specs.Cases.{case_of}
use Rattle.krl_server.specs.Steps.{ServerStep, alarms, nudge, crash, start, can_start}
use Rattle.krl_server.specs.Soundness.{IsSound}
use Rattle.krl_refinement.specs.Messages.{Stands, WasSent}
use Rattle.krl_refinement.specs.Client.Shows.{Grows, IsFrom, Leads, ShowsPlace}
use Rattle.krl_refinement.specs.Server.AsLinks.{Shows, logged, view, world_of}
use Rattle.krl_failover.specs.Fenced.{Fenced, kept_of}
use Rattle.krl_failover.specs.Steps.{FencedReachable, FencedSteps}
use Rattle.krl_failover.specs.OldShows.{IsBlankRow, ShowsOld}

-- the client holds nothing in these rows
abbrev pub HoldsNothing : Rows → ℕ → Type 0
HoldsNothing rows c = (n : ℕ) → mode_at rows n c ≡ mode.N

-- each client that has left holds nothing
abbrev pub AreEmpty : Server → Type 0
AreEmpty s = (c : ℕ) (r : Record) → record_of s.durable.register c ≡ Some r → r.left ≡ true → HoldsNothing s.rows c

-- the world can be reached, and the store's server is s, which shows in these links
pub record Mirrors
    (first : ℕ → Option Value) (f : Fenced) (s : Server) (of : ℕ → Link) (log : List Logged) : Type 0 where
  pub reached : FencedReachable first END f
  pub world : f.world ≡ world_of s of log
  pub shows : Shows s of
  pub sound : IsSound s
  -- a client that has left holds nothing
  pub empty : AreEmpty s
  pub blank : (c : ℕ) → (of c).left ≡ true → IsBlankRow (of c)

-- Old servers

-- they keep what they kept, their copies of the index are as they were, and they show as before
abbrev pub OldStay : Fenced → Fenced → Type 0
OldStay f g = (g.old ≡ f.old) × (g.copy ≡ f.copy) × ((x : Server) → IsSound x → ShowsOld x f → ShowsOld x g)

-- the server s, which shows in these links, is an old one now; those before it are as they were
pub record IsFenced (f g : Fenced) (s : Server) (of : ℕ → Link) : Type 0 where
  pub kept : (c : ℕ) → g.old s.durable.epoch c ≡ kept_of (of c)
  pub copy : g.copy s.durable.epoch ≡ map.get s.durable.index
  pub old : (e c : ℕ) → e ≢ s.durable.epoch → g.old e c ≡ f.old e c
  pub copies : (e : ℕ) → e ≢ s.durable.epoch → g.copy e ≡ f.copy e
  pub shows : ShowsOld s g
  pub others : (x : Server) → IsSound x → ShowsOld x f → ShowsOld x g

-- The store's server

-- the machine continues to a world that shows the server t, if these messages stand
pub record Follows (first : ℕ → Option Value) (f : Fenced) (of : ℕ → Link) (t : Server) (outs : List ToClient)
    (log_after : List Logged) : Type 0 where
  pub fenced : Fenced
  pub after : ℕ → Link
  pub steps : FencedSteps f fenced
  pub mirrors : Mirrors first fenced t after log_after
  pub sent : (o : ToClient) → In o outs → WasSent (after o.client) o.incarnation o.body
  pub clients : (c : ℕ) → (after c).client ≡ (of c).client
  pub grows : (c : ℕ) → Grows (of c) (after c)

pub record StoreFollows : Type 0 where
  -- it reads a message that was sent
  pub step : (first : ℕ → Option Value) (f : Fenced) (s t : Server) (of : ℕ → Link) (log : List Logged)
      (m : ToServer) (outs : List ToClient) → Mirrors first f s of log → Stands (of m.client) m.incarnation m.body →
      ServerStep s m t outs →
      (x : Follows first f of t outs (logged m (case_of s m) log)) × OldStay f x.fenced
  -- and does not report Alarm then
  pub no_alarm : (first : ℕ → Option Value) (f : Fenced) (s : Server) (of : ℕ → Link) (log : List Logged)
      (m : ToServer) → Mirrors first f s of log → Stands (of m.client) m.incarnation m.body → alarms s m ≡ false
  -- it is nudged
  pub nudge : (first : ℕ → Option Value) (f : Fenced) (s : Server) (of : ℕ → Link) (log : List Logged) (c : ℕ) →
      Mirrors first f s of log → (x : Follows first f of s (nudge s c) log) × OldStay f x.fenced
  -- a server starts on what survives it, and it continues as an old server
  pub start : (first : ℕ → Option Value) (f : Fenced) (s : Server) (of : ℕ → Link) (log : List Logged) →
      Mirrors first f s of log → can_start (crash s) ≡ true →
      (x : Follows first f of (start (crash s)) [] log) × IsFenced f x.fenced s of

-- Clients

-- the machine continues to a world in which the client of c shows this place, and these messages of it stand
pub record ClientFollows (first : ℕ → Option Value) (f : Fenced) (s : Server) (of : ℕ → Link) (log : List Logged)
    (c greatest : ℕ) (k : Option Client) (ms : List ToServer) : Type 0 where
  pub fenced : Fenced
  pub after : ℕ → Link
  pub steps : FencedSteps f fenced
  pub mirrors : Mirrors first fenced s after log
  pub place : ShowsPlace c greatest k (after c)
  pub told : (m : ToServer) → In m ms → IsFrom (after c) m.incarnation m.body
  pub grows : (d : ℕ) → Grows (of d) (after d)
  pub others : (d : ℕ) → d ≢ c → after d ≡ of d
  pub old : OldStay f fenced

-- a start, crash, command, tick or message of a client leads its link on, as krl_refinement shows: so the machine
-- follows
abbrev pub ClientsFollow : Type 0
ClientsFollow = (first : ℕ → Option Value) (f : Fenced) (s : Server) (of : ℕ → Link) (log : List Logged)
    (c greatest : ℕ) (k : Option Client) (ms : List ToServer) → Mirrors first f s of log →
    Leads (view s) (of c) c greatest k ms → ClientFollows first f s of log c greatest k ms
