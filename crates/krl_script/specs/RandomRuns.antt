-- What a random run does and writes.
use Rattle.std.specs.Prelude.{◌≡◌, ℕ, zero, suc, List, [], ◌∷◌, ◌++◌, codes, slice_get, length, nat_lt, if◌then◌else◌, Bool, true, false, Option, None, Some, MatchOption, Result, Ok, Err}
use Rattle.std.specs.Fmt.{decimal}
use Rattle.std.specs.Io.KnownBytes.{Appends}
use Rattle.rand_pcg.specs.Lcg.{Lcg}
use Rattle.std.specs.Int.{w64, to_be_bytes}
use Rattle.krl_messages.specs.Values.{Value}
use Rattle.krl_world.specs.States.{State, ServerPlace, Up, Down, fresh, index_of}
use Rattle.krl_world.specs.Shown.{sent_count}
use Rattle.krl_world.specs.Steps.{Steps}
use Rattle.krl_script.specs.ScannedRows.{RowsAreRange}
use Rattle.krl_world.specs.Fields as world
use Rattle.krl_steps.specs.declared.step.Step.{Step}
use Rattle.krl_steps.specs.declared.step.Step.TheVariants as step
use Rattle.krl_steps.specs.declared.answer.Answer.{Answer}
use Rattle.krl_steps.specs.declared.refused.Refused.{Refused}
use Rattle.krl_draws.specs.declared.generator.Observed.{Observed}
use Rattle.krl_draws.specs.declared.generator.Writes.{Writes}
use Rattle.krl_draws.specs.declared.generator.Writes.TheVariants as writes
use Rattle.krl_script.specs.declared.random.RandomRun.{RandomRun}
use Rattle.krl_script.specs.declared.random.Pace.{Pace}
use Rattle.krl_script.specs.declared.random.Pace.TheVariants as pace
use Rattle.krl_text.specs.declared.fault.ScriptFault.{ScriptFault}
use Rattle.krl_text.specs.declared.fault.ScriptFault.TheVariants as script
use Rattle.krl_draws.specs.Generator.{generator_of, drawn}
use Rattle.krl_text.specs.Printing.{line_of}
use Rattle.krl_script.specs.Transcripts.{waits_after}
use Rattle.krl_script.specs.Undelivered.{Waits, none_sent, sent_to}
use Rattle.krl_text.specs.Transfers.{Known}

-- a random run between two steps: its world, which messages wait, and its generator
pub record RandomStage : Type 0 where
  pub world : State
  pub waits : Waits
  pub generator : Lcg

-- the stage that the fields stand for
abbrev pub stage_of : RandomRun → RandomStage
stage_of r = record { world = world.meaning r.world; waits = r.waiting; generator = r.draws }

-- the entries with which its world begins
abbrev pub first_entries : List (ℕ × Value)
first_entries = (10, to_be_bytes w64 1) ∷ (20, to_be_bytes w64 2) ∷ []

-- before the first step
abbrev pub first_of : ℕ → RandomStage
first_of seed =
    record { world = fresh first_entries; waits = none_sent; generator = generator_of seed }

abbrev pub is_down : ServerPlace → Bool
is_down (Up s) = false
is_down (Down d) = true

-- what a draw sees
abbrev pub observed_of : RandomStage → Observed
observed_of s = record {
  waiting = slice_get s.waits.waiting 0;
  sent = sent_count s.world;
  is_down = is_down s.world.server;
}

-- which messages wait after a step, apart from those that it sent: one that was delivered no longer waits
abbrev pub waits_since : Step → Result Answer Refused → Waits → Waits
waits_since (step.Deliver number) outcome waits = waits_after outcome number waits
waits_since other outcome waits = waits

-- the world takes the step, or refuses it; what it sent waits; and the rows of a scan are those of the index
pub record TakesDrawn (w : State) (waits : Waits) (what : Step) (generator : Lcg)
    (s' : RandomStage) : Type 0 where
  pub outcome : Result Answer Refused
  pub world : State
  pub steps : Steps w what outcome world
  pub rows : RowsAreRange (index_of world) what outcome
  pub leaves : s' ≡ record {
    world = world;
    waits = sent_to (waits_since what outcome waits) (sent_count world);
    generator = generator;
  }

-- what was drawn is done, and the generator is this one then
abbrev pub GoesBy : RandomStage → Option Step → Lcg → RandomStage → Type 0
GoesBy s None generator s' = s' ≡ record s { generator = generator }
GoesBy s (Some what) generator s' = TakesDrawn s.world s.waits what generator s'

-- the next step is drawn, with writes of this kind, and done
abbrev pub GoesOn : Writes → RandomStage → RandomStage → Type 0
GoesOn what s s' = let d = drawn (observed_of s) what s.generator in GoesBy s d.0 d.1 s'

-- so many messages may wait between two steps of a busy run
abbrev pub max_waiting : ℕ
max_waiting = 4

-- the most deliveries that a busy run makes after a step
abbrev pub max_hurried : ℕ
max_hurried = 1000

-- the oldest message that waits, if too many do
abbrev pub late : RandomStage → Option ℕ
late s = if nat_lt max_waiting (length s.waits.waiting) then slice_get s.waits.waiting 0 else None

-- as long as too many messages wait the oldest is delivered, at most so often
unfoldable pub Hurries : ℕ → RandomStage → RandomStage → Type 0
Hurries zero s s' = s' ≡ s
Hurries (suc n) s s' = MatchOption (late s) (s' ≡ s) (λ number.
    (mid : RandomStage) × TakesDrawn s.world s.waits (step.Deliver number) s.generator mid
    × Hurries n mid s')

-- the next step is drawn and done; a busy run draws writes that take, and delivers what is late then
abbrev pub GoesAt : Pace → RandomStage → RandomStage → Type 0
GoesAt pace.Drawn s s' = GoesOn writes.Plain s s'
GoesAt pace.Busy s s' = (mid : RandomStage) × GoesOn writes.Taking s mid × Hurries max_hurried mid s'

-- so many steps, one after another
abbrev pub RunsRandomly : Pace → ℕ → RandomStage → RandomStage → Type 0
RunsRandomly at zero s s' = s' ≡ s
RunsRandomly at (suc n) s s' = (mid : RandomStage) × RunsRandomly at n s mid × GoesAt at mid s'

-- the world ends a run of so many steps that this seed draws, at this pace
pub record EndsRandomRun (at : Pace) (seed steps : ℕ) (w : State) : Type 0 where
  pub last : RandomStage
  pub runs : RunsRandomly at steps (first_of seed) last
  pub world : last.world ≡ w

-- how the line of a random run ends: nothing was found, or this is the first step after which
-- something was not sound
abbrev pub verdict_end : Option ℕ → List ℕ
verdict_end None = line_of (codes " sound")
verdict_end (Some number) = codes " unsound at " ++ line_of (decimal number)

-- the line of a random run
abbrev pub random_line : ℕ → ℕ → Option ℕ → List ℕ
random_line seed steps unsound =
    codes "random " ++ (decimal seed ++ (codes " " ++ (decimal steps ++ verdict_end unsound)))

-- the front of these bytes was written
abbrev pub WroteFrontOf : Known → Known → List ℕ → Type 0
WroteFrontOf before after bytes =
    (front : List ℕ) × (back : List ℕ) × (front ++ back ≡ bytes) × Appends before after front

-- a line was written, or how far the writer got
abbrev pub WroteLineOf : {A : Type 0} → Known → Known → List ℕ → Result A ScriptFault → Type 0
WroteLineOf before after line (Ok done) = Appends before after line
WroteLineOf before after line (Err (script.Read e)) = ⊥
WroteLineOf before after line (Err script.NoEnd) = ⊥
WroteLineOf before after line (Err script.Write) = WroteFrontOf before after line
WroteLineOf before after line (Err script.OutOfMemory) = Appends before after []
WroteLineOf before after line (Err (script.Syntax n what)) = ⊥
