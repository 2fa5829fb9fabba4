-- The exit status of each ending.
use Rattle.std.specs.Prelude.{◌≡◌, ◌⊎◌, ℕ, Bool, true, false, List, Some, Result, Ok, Err, IfOk}
use Rattle.std.specs.Io.KnownBytes.{Appends}
use Rattle.krl_text.specs.declared.fault.ScriptFault.{ScriptFault}
use Rattle.krl_script.specs.Runs.{Ran}
use Rattle.krl_text.specs.Transfers.{Known}
use Rattle.krl_script.specs.RandomRuns.{WroteFrontOf}
use Rattle.krl_script.specs.Rests.{EndsAs, WroteRest}
use Rattle.krl_script.specs.declared.rest.Rest.{Rest}
use Rattle.krl_script.specs.declared.rest.Rest.TheVariants as rest
use Rattle.krl_world.specs.States.{State}
use Rattle.krl_world.specs.Steps.{IsReachable}

-- of a script: 0 if its last line was run, otherwise 1
abbrev pub script_status : Result (Unit {0}) ScriptFault → ℕ
script_status (Ok done) = 0
script_status (Err fault) = 1

-- of a random run: 0 if all was sound, otherwise 1
abbrev pub random_status : {A : Type 0} → Result (A × Bool) ScriptFault → ℕ
random_status (Ok (w, true)) = 0
random_status (Ok (w, false)) = 1
random_status (Err fault) = 1

-- of the rounds after it: 0 if nobody waits, 3 if somebody still does, otherwise 1
abbrev pub rest_status : Result Rest ScriptFault → ℕ
rest_status (Ok (rest.Reached n)) = 0
rest_status (Ok rest.Missed) = 3
rest_status (Ok (rest.Unsound n)) = 1
rest_status (Err fault) = 1

-- A script was run, with this status.
abbrev pub RanTo : Known → Known → Known → Known → ℕ → Type 0
RanTo unread left before after status =
    (ended : Result (Unit {0}) ScriptFault) × Ran unread left before after ended
    × (status ≡ script_status ended)

-- The script of this text was run, with this status.
abbrev pub RanText : List ℕ → Known → Known → ℕ → Type 0
RanText text before after status = (left : Known) × RanTo (Some text) left before after status

-- The line of a random run was written, and the status is 0; or a front of it was, and it is 1.
abbrev pub DroveTo : Known → Known → List ℕ → ℕ → Type 0
DroveTo before after line status =
    ((status ≡ 0) × Appends before after line) ⊎ ((status ≡ 1) × WroteFrontOf before after line)

-- Some run leads to the world in which good rounds ended, and they ended as the status reports: 0 if nobody waits
-- there, 3 if somebody does. The line that reports this was written, or how far the writer got.
abbrev pub RestedTo : Known → Known → ℕ → Type 0
RestedTo before after status =
    (w : State) × (ended : Result Rest ScriptFault) × IsReachable w × IfOk ended (EndsAs w)
    × WroteRest before after w ended × (status ≡ rest_status ended)

-- The line of a random run was written, and then that of its rounds; or a front of the first was,
-- and the status is 1.
abbrev pub CameToRest : Known → Known → List ℕ → ℕ → Type 0
CameToRest before after line status =
    ((mid : Known) × Appends before mid line × RestedTo mid after status)
    ⊎ ((status ≡ 1) × WroteFrontOf before after line)

-- The same, with its rounds or without.
abbrev pub DroveBy : Bool → Known → Known → List ℕ → ℕ → Type 0
DroveBy true before after line status = CameToRest before after line status
DroveBy false before after line status = DroveTo before after line status
