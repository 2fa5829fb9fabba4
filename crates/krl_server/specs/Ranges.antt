-- Numbers stay within END, and lists within their bounds: so the product's types can hold every server. A client that
-- waits or is missing is registered and has not left.
use Rattle.std.specs.Prelude.{◌≡◌, ℕ, ◌≤◌, ◌<◌, true, false, Some, List, [], ◌∷◌, length}
use Rattle.std.specs.FinMap as map
use Rattle.krl_modes.specs.declared.point.TheConstants.{END}
use Rattle.krl_modes.specs.Constants.{max_clients}
use Rattle.krl_messages.specs.declared.to_server.ToServer.{ToServer}
use Rattle.krl_messages.specs.declared.to_client.ToClient.{ToClient}
use Rattle.krl_messages.specs.Members.{In}
use Rattle.krl_queue.specs.declared.waiter.Waiter.{Waiter}
use Rattle.krl_durable.specs.declared.record.Record.{Record}
use Rattle.krl_durable.specs.Registers.{Register, Durable, record_of}
use Rattle.krl_durable.specs.Writes.{IsRoom}
use Rattle.krl_server.specs.Servers.{Server, lists}
use Rattle.krl_server.specs.Cases.{case_of}
use Rattle.krl_server.specs.Effects.{effect}
use Rattle.krl_server.specs.Answering.{Turn, answer_first}
use Rattle.krl_server.specs.Steps.{ServerStep, start, can_start}
use Rattle.krl_server.specs.Soundness.{IsSound}

-- no number stands twice
abbrev pub AreApart : List ℕ → Type 0
AreApart [] = Unit {0}
AreApart (n ∷ ns) = (In n ns → ⊥) × AreApart ns

abbrev pub clients_of : Register → List ℕ
clients_of [] = []
clients_of (e ∷ es) = e.0 ∷ clients_of es

-- the client is one, and its record's numbers are within END
abbrev pub IsEntry : ℕ → Record → Type 0
IsEntry c r = (c < max_clients) × (1 ≤ r.incarnation) × (r.incarnation ≤ END) × (r.last ≤ END)

pub record IsDurableWithin (d : Durable) : Type 0 where
  pub epoch : d.epoch ≤ END
  pub entries : length (map.entries d.index) ≤ d.room
  pub room : IsRoom d.room
  pub once : AreApart (clients_of d.register)
  pub known : (c : ℕ) (r : Record) → record_of d.register c ≡ Some r → IsEntry c r

-- the client is registered and has not left
abbrev pub IsRegistered : Register → ℕ → Type 0
IsRegistered register c = (r : Record) × (record_of register c ≡ Some r) × (r.left ≡ false)

pub record IsWithin (s : Server) : Type 0 where
  pub durable : IsDurableWithin s.durable
  pub last_push : (c : ℕ) → (s.sessions c).last_push ≤ END
  pub missing : (c : ℕ) → lists s.missing c ≡ true → IsRegistered s.durable.register c
  pub missing_once : AreApart s.missing

-- a client that waits is registered and has not left
abbrev pub AreRegistered : Server → Type 0
AreRegistered s = (n : ℕ) (u : Waiter) → In u (s.rows n).queue → IsRegistered s.durable.register u.client

pub record ServerWithin : Type 0 where
  pub effect : (s : Server) (m : ToServer) → IsWithin s → IsWithin (effect s m (case_of s m)).server
  pub turn : (s : Server) (t : Turn) → IsWithin s → IsWithin (answer_first s t).server
  pub step : (s t : Server) (m : ToServer) (outs : List ToClient) → IsWithin s → ServerStep s m t outs → IsWithin t
  pub registered_step : (s t : Server) (m : ToServer) (outs : List ToClient) → IsSound s → AreRegistered s →
      ServerStep s m t outs →
      AreRegistered t
  pub registered_start : (d : Durable) → AreRegistered (start d)
  pub start : (d : Durable) → can_start d ≡ true → IsDurableWithin d → IsWithin (start d)
  -- there are no more records than clients, and no more are missing
  pub few_known : (d : Durable) → IsDurableWithin d → length d.register ≤ max_clients
  pub few_missing : (s : Server) → IsWithin s → length s.missing ≤ max_clients
