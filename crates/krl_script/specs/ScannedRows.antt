-- Whether what a step answered is what the index has.
use Rattle.std.specs.Prelude.{◌≡◌, ℕ, Result, Ok}
use Rattle.krl_durable.specs.Index.{Index, range}
use Rattle.krl_steps.specs.declared.step.Step.{Step}
use Rattle.krl_steps.specs.declared.step.Step.TheVariants as step
use Rattle.krl_steps.specs.declared.step.Command.{Command}
use Rattle.krl_steps.specs.declared.step.Command.TheVariants as command
use Rattle.krl_steps.specs.declared.answer.Answer.{Answer}
use Rattle.krl_steps.specs.declared.answer.Answer.TheVariants as answered
use Rattle.krl_steps.specs.declared.refused.Refused.{Refused}

-- if rows answer, they are that range of the index
abbrev pub AnswerIsRange : Index → ℕ → ℕ → Answer → Type 0
AnswerIsRange m lo hi (answered.Rows rows) = rows ≡ range m lo hi
AnswerIsRange m lo hi other = Unit {0}

-- if the command is a scan
abbrev pub CommandIsRange : Index → Command → Answer → Type 0
CommandIsRange m (command.Scan lo hi) answer = AnswerIsRange m lo hi answer
CommandIsRange m other answer = Unit {0}

-- the rows of a scan are that range of the index: `ScansIndex` of krl_world, case by case
abbrev pub RowsAreRange : Index → Step → Result Answer Refused → Type 0
RowsAreRange m (step.Command c what) (Ok answer) = CommandIsRange m what answer
RowsAreRange m other r = Unit {0}
