use Rattle.krl_blocks.proofs.Readings.{found_other, found_empty}
use Rattle.krl_blocks.proofs.found.Found.value_of.Goals as goal
use Rattle.krl_blocks.proofs.found.Found.value_of.Goals.{in_default-via-in-Some+else-entry-key, in_default-via-in_default}

pub returns-in_default : goal.returns-in_default
returns-in_default g c es rise found = elim c.in_default.branch [
  | in_default-via-in-Some+else-entry-key w ↦ found_other es c.args.key c.args.self.before c.args.self.run.now found rise w.in-Some.entry.now w.in-Some.ensures.value w.if-entry-key.false
  | in_default-via-in_default w ↦ found_empty es c.args.key c.args.self.before c.args.self.run.now found w.in_default.ensures.value
]
