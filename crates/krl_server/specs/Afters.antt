-- What is left to be done after a case.
use Rattle.std.specs.Prelude.{Bool, true, false}
use Rattle.krl_server.specs.declared.case.After.{After}
use Rattle.krl_server.specs.declared.case.After.TheVariants as after

-- waiters are answered
abbrev pub does_answer : After → Bool
does_answer after.Nothing = false
does_answer after.Alarm = false
does_answer after.Answers = true
does_answer after.Calls = true

-- clients that block others are called back
abbrev pub does_call : After → Bool
does_call after.Nothing = false
does_call after.Alarm = false
does_call after.Answers = false
does_call after.Calls = true

-- a contradiction has to be heard of
abbrev pub does_alarm : After → Bool
does_alarm after.Nothing = false
does_alarm after.Alarm = true
does_alarm after.Answers = false
does_alarm after.Calls = false
