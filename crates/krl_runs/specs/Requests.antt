-- What came of a request.
use Rattle.std.specs.Prelude.{◌≡◌, ℕ, ⊤, List, None, Some}
use Rattle.krl_command_line.specs.declared.command.Request.{Request}
use Rattle.krl_command_line.specs.declared.command.Request.TheVariants as request
use Rattle.krl_script.specs.RandomRuns.{random_line}
use Rattle.krl_text.specs.Transfers.{Known}
use Rattle.krl_runs.specs.Statuses.{RanText, DroveBy}

-- Nothing was written, and the status is that of words that ask for no run.
abbrev pub DidNothing : Known → Known → ℕ → Type 0
DidNothing before after status = (after ≡ before) × (status ≡ 2)

-- What was done for a request, with this text: what was written, and the status. Nothing is promised of a picture.
abbrev pub Obeyed : Request → List ℕ → Known → Known → ℕ → Type 0
Obeyed request.Script text before after status = RanText text before after status
Obeyed (request.Picture form) text before after status = ⊤
Obeyed (request.Random (Some o)) text before after status =
    DroveBy o.rest before after (random_line o.seed o.steps None) status
Obeyed (request.Random None) text before after status = DidNothing before after status
Obeyed (request.Nodes o) text before after status = DidNothing before after status
