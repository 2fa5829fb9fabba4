-- What holds of systems whose clients have leases.
use Rattle.std.specs.Prelude.{◌≡◌, ◌⊎◌, ℕ, List}
use Rattle.krl_durable.specs.Index.{range}
use Rattle.krl_world.specs.Promises.{Headline}
use Rattle.krl_world.specs.States.{index_of}
use Rattle.krl_leases.specs.Clocks.{Limits}
use Rattle.krl_leases.specs.Laws.{Answers}
use Rattle.krl_leases.specs.Machine.{Evicted}
use Rattle.krl_world_laws.specs.Systems.{System}
use Rattle.krl_world_laws.specs.Readers.{Rows, AnswersScan}
use Rattle.krl_world_laws.specs.Leases.Leased.{Machines, AllAgree, Leased, Event, IsRunning, Runs, IsReached}

-- The process of an incarnation reads rows. If it runs in the world, these are a scan's. If it was evicted, they may be
-- any
abbrev pub Reads : (s : System) → Leased s → ℕ → ℕ → ℕ → ℕ → Rows → Type 0
Reads s w c i lo hi rows =
    (IsRunning (s.view w.world) c i × AnswersScan (s.view w.world) c lo hi rows)
    ⊎ ((w.leases c i).standing ≡ Evicted)

-- its check of the clock succeeds
abbrev pub MayHandOver : (s : System) → Machines → Leased s → ℕ → ℕ → Type 0
MayHandOver s m w c i = Answers (m c i) (w.leases c i)

-- Rows that are read at one moment, and handed over after a check at a later one, are that range of the index at the
-- moment when they were read, whatever happens between
abbrev pub ScansAreIndex : System → Type 0
ScansAreIndex s =
    (limits : Limits) (m : Machines) (v w : Leased s) (es : List Event) (c i lo hi : ℕ) (rows : Rows) →
    AllAgree limits m → IsReached s limits m v → Reads s v c i lo hi rows → Runs s limits m v es w →
    MayHandOver s m w c i → rows ≡ range (index_of (s.view v.world)) lo hi

-- each such world is reached by moves of the system, and has what the headline states
abbrev pub WorldsAreReached : System → Type 0
WorldsAreReached s =
    (limits : Limits) (m : Machines) (w : Leased s) → IsReached s limits m w →
    s.IsReached w.world × Headline (s.view w.world)
