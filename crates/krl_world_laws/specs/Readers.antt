-- A scan of a client's cache, and how long it lasts.
use Rattle.std.specs.Prelude.{◌≡◌, ℕ, List, Ok}
use Rattle.krl_messages.specs.Values.{Value}
use Rattle.krl_durable.specs.Index.{range}
use Rattle.krl_steps.specs.declared.step.Step.TheVariants as step
use Rattle.krl_steps.specs.declared.step.Command.TheVariants as command
use Rattle.krl_steps.specs.declared.answer.Answer.TheVariants as answered
use Rattle.krl_world.specs.States.{State, client_of, index_of}
use Rattle.krl_world.specs.Steps.{Steps}
use Rattle.krl_world_laws.specs.Systems.{System}

-- the rows of a scan
abbrev pub Rows : Type 0
Rows = List (ℕ × Value)

-- in this world the client answers a scan of these points with these rows
abbrev pub AnswersScan : State → ℕ → ℕ → ℕ → Rows → Type 0
AnswersScan w c lo hi rows = Steps w (step.Command c (command.Scan lo hi)) (Ok (answered.Rows rows)) w

-- a client is the same in these two worlds
abbrev pub IsStill : State → State → ℕ → Type 0
IsStill v w c = client_of v c ≡ client_of w c

-- The scan of a reader of client c that began in v continues: whatever is moved, no call changes the client meanwhile.
-- A call that takes the client's handle by itself waits until its readers have ended, so what it sends leaves after
-- them
pub data Lasts (s : System) (c : ℕ) (v : s.World) : s.World → Type 0 where
  begins : Lasts s c v v
  goes_on : (u w : s.World) → Lasts s c v u → s.Moves u w → IsStill (s.view u) (s.view w) c → Lasts s c v w

-- The rows are that range of the index that survives, at each moment from the beginning of the scan to its end
abbrev pub ScansLast : System → Type 0
ScansLast s =
    (v w : s.World) (c lo hi : ℕ) (rows : Rows) → s.IsReached v → AnswersScan (s.view v) c lo hi rows →
    Lasts s c v w → rows ≡ range (index_of (s.view w)) lo hi
