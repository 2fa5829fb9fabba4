-- What holds of a state that is formed; the case that the code found, and what is left to be done after it.
use Rattle.std.specs.Prelude.{◌≡◌, ◌<◌, ℕ, true, length, Option, Some, None, if◌then◌else◌}
use Rattle.krl_modes.specs.declared.limits.TheConstants.{MAX_CLIENTS}
use Rattle.krl_messages.specs.declared.to_server.ToServerBody.{ToServerBody}
use Rattle.krl_messages.specs.declared.to_server.ToServerBody.TheVariants as said
use Rattle.krl_messages.specs.declared.to_client.PushBody.{PushBody}
use Rattle.krl_table.specs.KeptRows.{IsOver}
use Rattle.krl_table.specs.Reports.{conflicts}
use Rattle.krl_server.specs.declared.state.State.{State}
use Rattle.krl_server.specs.declared.case.Case.{Case as Found}
use Rattle.krl_server.specs.declared.case.Case.TheVariants as found
use Rattle.krl_server.specs.declared.case.After.{After}
use Rattle.krl_server.specs.declared.case.After.TheVariants as after
use Rattle.krl_server.specs.Servers.{Server}
use Rattle.krl_server.specs.Cases.{Case, Ignored, Registers, Leaves, Tells, Alarms, Rebuilds, Repeats, Acknowledges, Lowers, Waits, Judges, SeizesLock, AnswersAgain, judged, case_of_new_write}

-- there is a session for each client, and the table's rows stand at slots of the index, with a row
-- for each of them
pub record IsFormed (st : State) : Type 0 where
  pub full : length st.sessions ≡ MAX_CLIENTS
  pub over : IsOver st.durable.index st.table.map
  pub rows : st.durable.room < st.table.room

-- the case of a missing client's report
abbrev pub case_of_pieces : Server → ℕ → ToServerBody → Case
case_of_pieces s c said.Hello = Ignored
case_of_pieces s c said.Bye = Ignored
case_of_pieces s c (said.Report epoch pieces) =
    if conflicts s.durable.index s.rows c pieces then Alarms else Rebuilds pieces
case_of_pieces s c (said.Request request) = Ignored

-- the case of a push that is sent again, if there is one that is not acknowledged
abbrev pub case_of_unacked : Option PushBody → Case
case_of_unacked None = Ignored
case_of_unacked (Some body) = Repeats body

-- the case that was found for what the client sent: how a report or a write ends shows as it is done
abbrev pub meant : Server → ℕ → ToServerBody → Found → Case
meant s c b found.Ignored = Ignored
meant s c b found.Registers = Registers
meant s c b found.Leaves = Leaves
meant s c b found.Tells = Tells
meant s c b found.Reports = case_of_pieces s c b
meant s c b found.Repeats = case_of_unacked (s.sessions c).unacked
meant s c b found.Acknowledges = Acknowledges
meant s c b (found.Lowers span keep) = Lowers span keep
meant s c b (found.Waits req point hi g) = Waits req point hi g
meant s c b (found.Judges number op) = Judges number op (judged s c op)
meant s c b (found.SeizesLock number op) = case_of_new_write s c number op true
meant s c b (found.AnswersAgain number op o) = AnswersAgain number op o

-- what is left to be done after a case
abbrev pub after_of : Case → After
after_of Ignored = after.Nothing
after_of Registers = after.Calls
after_of Leaves = after.Calls
after_of Tells = after.Nothing
after_of Alarms = after.Alarm
after_of (Rebuilds pieces) = after.Calls
after_of (Repeats body) = after.Nothing
after_of Acknowledges = after.Calls
after_of (Lowers span keep) = after.Answers
after_of (Waits req point hi g) = after.Calls
after_of (Judges number op o) = after.Calls
after_of (SeizesLock number op) = after.Calls
after_of (AnswersAgain number op o) = after.Calls
