-- A scan over several servers, part by part, while its clients are held.
use Rattle.std.specs.Prelude.{◌≡◌, ◌≢◌, ◌⊎◌, ℕ, List, [], ◌∷◌, ◌++◌, Option, Some, None}
use Rattle.krl_durable.specs.Index.{Index, range}
use Rattle.krl_world.specs.declared.message.Message.{Message}
use Rattle.krl_world.specs.declared.message.Message.TheVariants as message
use Rattle.krl_steps.specs.declared.step.Step.{Step}
use Rattle.krl_steps.specs.declared.step.Step.TheVariants as step
use Rattle.krl_steps.specs.declared.step.Command.{Command}
use Rattle.krl_steps.specs.declared.step.Command.TheVariants as command
use Rattle.krl_world.specs.States.{State}
use Rattle.krl_world.specs.Steps.{message_at}
use Rattle.krl_host_laws.specs.Hosts as host
use Rattle.krl_fenced_hosts.specs.Processes as store
use Rattle.krl_shards.specs.declared.part.Part.{Part}
use Rattle.krl_shards.specs.Parts.{Follow}
use Rattle.krl_world_laws.specs.Systems.{System, worlds, hosts, fenced_hosts}
use Rattle.krl_world_laws.specs.Readers.{Rows, AnswersScan}
use Rattle.krl_world_laws.specs.Shards.Scans.{views, AreReached, IsTogether}

-- no message to this client
abbrev pub IsNotTo : ℕ → Option Message → Type 0
IsNotTo c (Some (message.ToClient m)) = m.client ≢ c
IsNotTo c (Some (message.ToServer m)) = Unit {0}
IsNotTo c None = Unit {0}

-- a scan, or another client's command
abbrev pub IsOthersCommand : ℕ → ℕ → Command → Type 0
IsOthersCommand c d (command.Scan lo hi) = Unit {0}
IsOthersCommand c d other = d ≢ c

-- Whoever holds a client gives it no message and no command but scans, doesn't let it tick, start or crash. The server
-- and all other clients continue.
abbrev pub IsElsewhere : State → ℕ → Step → Type 0
IsElsewhere w c (step.Deliver i) = IsNotTo c (message_at w.sent i)
IsElsewhere w c (step.Command d what) = IsOthersCommand c d what
IsElsewhere w c (step.Tick d) = d ≢ c
IsElsewhere w c (step.Nudge d) = Unit {0}
IsElsewhere w c (step.StartClient d) = d ≢ c
IsElsewhere w c (step.CrashClient d) = d ≢ c
IsElsewhere w c step.StartServer = Unit {0}
IsElsewhere w c step.CrashServer = Unit {0}

-- A system whose clients can be held, and which of its moves spare a client
pub record HeldSystem : Type 1 where
  pub system : System
  pub Spares : ℕ → (v w : system.World) → system.Moves v w → Type 0

abbrev pub held_worlds : HeldSystem
held_worlds = record { system = worlds; Spares = λ c v w m. IsElsewhere v c m.0 }

-- what a server's host does spares all clients
abbrev pub spares_of_host : ℕ → (v w : host.HostWorld) → host.Moves v w → Type 0
spares_of_host c v _ (host.acts s answer u ne t) = IsElsewhere v.world c s
spares_of_host c v _ (host.begins d n number off less le) = d ≢ c
spares_of_host c v w other = Unit {0}

abbrev pub held_hosts : HeldSystem
held_hosts = record { system = hosts; Spares = spares_of_host }

abbrev pub spares_of_store : ℕ → (v w : store.StoreWorld) → store.Moves v w → Type 0
spares_of_store c v _ (store.acts s answer u ne t) = IsElsewhere v.world c s
spares_of_store c v _ (store.begins d n number off less le) = d ≢ c
spares_of_store c v w other = Unit {0}

abbrev pub held_fenced_hosts : HeldSystem
held_fenced_hosts = record { system = fenced_hosts; Spares = spares_of_store }

-- moves that are made while the client is held
pub data RunsHeld (h : HeldSystem) (c : ℕ) (v : h.system.World) : h.system.World → Type 0 where
  begins : RunsHeld h c v v
  goes_on : (u w : h.system.World) → RunsHeld h c v u → (m : h.system.Moves u w) → h.Spares c u w m →
      RunsHeld h c v w

-- the one world came before the other or after it, and the client was held between
abbrev pub IsMeanwhile : (h : HeldSystem) → h.system.World → h.system.World → ℕ → Type 0
IsMeanwhile h v w c = RunsHeld h c v w ⊎ RunsHeld h c w v

-- each part's client answers it, in a world of its own from which or to which it was held
abbrev pub AnswerHeld : (h : HeldSystem) → (ℕ → h.system.World) → (ℕ → ℕ) → List Part → Rows → Type 0
AnswerHeld h x c [] rows = rows ≡ []
AnswerHeld h x c (p ∷ ps) rows =
    (v : h.system.World) × (some : Rows) × (rest : Rows) × IsMeanwhile h v (x p.shard) (c p.shard)
    × AnswersScan (h.system.view v) (c p.shard) p.lo p.hi some × AnswerHeld h x c ps rest × (rows ≡ some ++ rest)

abbrev pub ScanWhileHeld : HeldSystem → Type 0
ScanWhileHeld h =
    (bounds : List ℕ) (x : ℕ → h.system.World) (c : ℕ → ℕ) (m : Index) (lo hi : ℕ) (parts : List Part) (rows : Rows) →
    AreReached h.system bounds x → IsTogether bounds (views h.system x) m → Follow bounds hi lo hi parts →
    AnswerHeld h x c parts rows → rows ≡ range m lo hi
