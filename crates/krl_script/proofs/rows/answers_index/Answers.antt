use Rattle.krl_blocks.specs.Laid.{flat}
use Rattle.krl_blocks.specs.Runs.{runs_of}
use Rattle.krl_world.specs.States.{index_of}
use Rattle.krl_world.specs.Fields.{meaning}
use Rattle.krl_script.proofs.RandomLemmas.{range_answered, answered_range}
use Rattle.krl_script.proofs.rows.answers_index.Goals as goal

pub returns-clause-sound : goal.returns-clause-sound
returns-clause-sound c =
    λ h. c.are_range.ensures.sound
    (range_answered (index_of (meaning c.args.world.now)) c.args.step c.args.outcome.now c.in-Command.field-0 c.in-Command.command c.in-Scan.lo c.in-Scan.hi c.in-Ok.answer c.in-Rows.rows c.as_slice.result.now (flat (runs_of c.index.result))
    c.in-Command.is c.in-Scan.is c.in-Ok.is c.in-Rows.is c.as_slice.ensures c.index.ensures h)

pub returns-clause-looks : goal.returns-clause-looks
returns-clause-looks c =
    λ h. answered_range (index_of (meaning c.args.world.now)) c.args.step c.args.outcome.now c.in-Command.field-0 c.in-Command.command c.in-Scan.lo c.in-Scan.hi c.in-Ok.answer c.in-Rows.rows c.as_slice.result.now (flat (runs_of c.index.result))
    c.in-Command.is c.in-Scan.is c.in-Ok.is c.in-Rows.is c.as_slice.ensures c.index.ensures (c.are_range.ensures.looks h)
