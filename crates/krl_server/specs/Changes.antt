-- What each case of a message changes in what survives.
use Rattle.std.specs.Prelude.{Option, Some, None}
use Rattle.krl_messages.specs.declared.outcome.Outcome.TheVariants as outcome
use Rattle.krl_messages.specs.declared.to_server.ToServer.{ToServer}
use Rattle.krl_durable.specs.declared.change.Change.{Change}
use Rattle.krl_durable.specs.declared.change.Change.TheVariants as change
use Rattle.krl_server.specs.Cases.{Case, Ignored, Registers, Leaves, Tells, Alarms, Rebuilds, Repeats, Acknowledges, Lowers, Waits, Judges, SeizesLock, AnswersAgain}

-- a Hello or Bye that is taken, or a new write, is a change; nothing else is
abbrev pub change_of : ToServer → Case → Option Change
change_of m Ignored = None
change_of m Registers = Some (change.Registered m.client m.incarnation)
change_of m Leaves = Some (change.Left m.client)
change_of m Tells = None
change_of m Alarms = None
change_of m (Rebuilds pieces) = None
change_of m (Repeats body) = None
change_of m Acknowledges = None
change_of m (Lowers span keep) = None
change_of m (Waits req point hi g) = None
change_of m (Judges number op o) = Some (change.Judged m.client number op o)
change_of m (SeizesLock number op) = Some (change.Judged m.client number op outcome.Applied)
change_of m (AnswersAgain number op o) = None
