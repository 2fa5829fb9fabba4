-- How a server stands in the links of the machine.
use Rattle.std.specs.Prelude.{◌≡◌, ℕ, Bool, false, not, Option, Some, None, List, [], ◌∷◌, is_some, if◌then◌else◌}
use Rattle.std.specs.FinMap as map
use Rattle.krl_modes.specs.declared.point.TheConstants.{END}
use Rattle.krl_modes.specs.declared.part.RangePart.{RangePart}
use Rattle.krl_modes.specs.declared.part.KeyPart.{KeyPart}
use Rattle.krl_messages.specs.declared.outcome.Outcome.{Outcome}
use Rattle.krl_messages.specs.declared.to_server.ToServer.{ToServer}
use Rattle.krl_messages.specs.declared.to_client.ToClientBody.TheVariants as told
use Rattle.krl_messages.specs.declared.to_client.PushBody.{PushBody}
use Rattle.krl_messages.specs.Members.{In}
use Rattle.krl_messages.specs.Writes.{is_applied}
use Rattle.krl_queue.specs.declared.waiter.Waiter.{Waiter}
use Rattle.krl_machine.specs.Links as links
use Rattle.krl_machine.specs.Links.{Head, Shared, Link}
use Rattle.krl_machine.specs.Worlds.{Logged, World}
use Rattle.krl_durable.specs.declared.record.Record.{Record}
use Rattle.krl_durable.specs.Registers.{Durable, record_of}
use Rattle.krl_table.specs.Points.{range_at, key_at}
use Rattle.krl_server.specs.declared.session.Session.{Session}
use Rattle.krl_server.specs.Servers.{Server, lists}
use Rattle.krl_server.specs.Cases.{Case, Ignored, Registers, Leaves, Tells, Alarms, Rebuilds, Repeats, Acknowledges, Lowers, Waits, Judges, SeizesLock, AnswersAgain}
use Rattle.krl_refinement.specs.Messages.{op_of, WasSent}

abbrev pub machine_phase : List ℕ → links.Phase
machine_phase [] = links.Serving
machine_phase (c ∷ cs) = links.Recovering

-- what all links see of a durable part
abbrev pub view_of : Durable → links.Phase → Shared
view_of d phase = record { epoch = d.epoch; phase = phase; index = map.get d.index; end = END }

-- what all links see of a server
abbrev pub view : Server → Shared
view s = view_of s.durable (machine_phase s.missing)

-- what a link has of the client's record. Before the first write there is no outcome; of a client that has left
-- nobody asks what its last write was
abbrev pub IsRecord : Option Record → Link → Type 0
IsRecord None l = record { reg : l.reg ≡ 0; left : l.left ≡ false; done : l.done ≡ 0 }
IsRecord (Some r) l = record {
  reg : l.reg ≡ r.incarnation;
  left : l.left ≡ r.left;
  done : r.left ≡ false → l.done ≡ r.last;
  applied : (o : Outcome) → r.left ≡ false → r.outcome ≡ Some o → l.applied ≡ is_applied o;
}

-- what a link has of the server, by the shared part, the client's record, whether it is missing, its session, and its
-- parts at each point
pub record LinkIs (s : Shared) (of : Option Record) (is_missing : Bool) (session : Session)
    (range_part : ℕ → RangePart) (key_part : ℕ → KeyPart) (l : Link) : Type 0 where
  pub known : IsRecord of l
  pub missing : l.missing ≡ is_missing
  pub last_push : l.last_push ≡ session.last_push
  pub acked : l.acked ≡ not (is_some session.unacked)
  pub unacked : (body : PushBody) → session.unacked ≡ Some body →
      WasSent l l.reg (told.Push s.epoch session.last_push body)
  pub range : s.phase ≡ links.Serving → (q : ℕ) → l.top_range q ≡ range_part q
  pub key : s.phase ≡ links.Serving → (q : ℕ) → l.top_key q ≡ key_part q
  pub new_range : s.phase ≡ links.Recovering → (q : ℕ) → l.new_range q ≡ range_part q
  pub new_key : s.phase ≡ links.Recovering → (q : ℕ) → l.new_key q ≡ key_part q

abbrev pub LinkShows : Server → ℕ → Link → Type 0
LinkShows s c l =
    LinkIs (view s) (record_of s.durable.register c) (lists s.missing c) (s.sessions c)
    (range_at s.durable.index s.rows c) (key_at s.durable.index s.rows c) l

-- a message of the registered incarnation in this epoch stands in the link, and the client has not left
abbrev pub IsHeardOf : Shared → Link → Type 0
IsHeardOf s l = (a : Head) × In a l.heads × (a.inc ≡ l.reg) × (a.epoch ≡ s.epoch) × (l.left ≡ false)

-- the server is what the links show
pub record Shows (s : Server) (of : ℕ → Link) : Type 0 where
  pub link : (c : ℕ) → LinkShows s c (of c)
  pub heard : (n : ℕ) (u : Waiter) → In u (s.rows n).queue → IsHeardOf (view s) (of u.client)

-- the machine's world with this server and these links
abbrev pub world_of : Server → (ℕ → Link) → List Logged → World
world_of s of log = record { shared = view s; links = of; log = log }

-- what a crash left is what the links show
abbrev pub DurableShows : Durable → (ℕ → Link) → Type 0
DurableShows d of = (c : ℕ) → IsRecord (record_of d.register c) (of c)

-- the machine's world with this durable part, while no server is up
abbrev pub down_world_of : Durable → (ℕ → Link) → List Logged → World
down_world_of d of log = record { shared = view_of d links.Down; links = of; log = log }

-- the machine's list of applied writes, the last first, after the case that the message meets
abbrev pub logged : ToServer → Case → List Logged → List Logged
logged m Ignored log = log
logged m Registers log = log
logged m Leaves log = log
logged m Tells log = log
logged m Alarms log = log
logged m (Rebuilds pieces) log = log
logged m (Repeats body) log = log
logged m Acknowledges log = log
logged m (Lowers span keep) log = log
logged m (Waits req point hi g) log = log
logged m (Judges number op o) log =
    if is_applied o
    then record { client = m.client; wrote = record { inc = m.incarnation; number = number; op = op_of op } } ∷ log
    else log
logged m (SeizesLock number op) log =
    record { client = m.client; wrote = record { inc = m.incarnation; number = number; op = op_of op } } ∷ log
logged m (AnswersAgain number op o) log = log
