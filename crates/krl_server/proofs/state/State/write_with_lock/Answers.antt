use Rattle.krl_server.proofs.Names.{true, false, sym, ap, ◌∙◌, meaning}
use Rattle.krl_server.proofs.Invariant.SeizesSound.{written_with}
use Rattle.krl_server.proofs.state.State.write_with_lock.Goals as goal
use Rattle.krl_server.proofs.state.State.write_with_lock.Goals.{then-may_seize, else-may_seize}

pub returns-clause-outcome : goal.returns-clause-outcome
returns-clause-outcome c =
    let s = meaning c.args.self.now in
    elim c.if-may_seize.branch [
      | then-may_seize w ↦ (written_with s (meaning c.if-may_seize.self) (meaning c.write.new.self) c.args.client c.args.op c.write.result true c.requires.sound c.requires.key
          (sym w.if-may_seize.true ∙ c.may_seize.ensures) (ap meaning w.self-is ∙ w.seize.ensures.seizes) c.write.ensures.outcome c.write.ensures.writes).0
      | else-may_seize w ↦ (written_with s (meaning c.if-may_seize.self) (meaning c.write.new.self) c.args.client c.args.op c.write.result false c.requires.sound c.requires.key
          (sym w.if-may_seize.false ∙ c.may_seize.ensures) (ap meaning w.self-is) c.write.ensures.outcome c.write.ensures.writes).0
    ]

pub returns-clause-writes : goal.returns-clause-writes
returns-clause-writes c =
    let s = meaning c.args.self.now in
    elim c.if-may_seize.branch [
      | then-may_seize w ↦ (written_with s (meaning c.if-may_seize.self) (meaning c.write.new.self) c.args.client c.args.op c.write.result true c.requires.sound c.requires.key
          (sym w.if-may_seize.true ∙ c.may_seize.ensures) (ap meaning w.self-is ∙ w.seize.ensures.seizes) c.write.ensures.outcome c.write.ensures.writes).1
      | else-may_seize w ↦ (written_with s (meaning c.if-may_seize.self) (meaning c.write.new.self) c.args.client c.args.op c.write.result false c.requires.sound c.requires.key
          (sym w.if-may_seize.false ∙ c.may_seize.ensures) (ap meaning w.self-is) c.write.ensures.outcome c.write.ensures.writes).1
    ]
