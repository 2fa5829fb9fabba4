use Rattle.std.proofs.Common.{refl}
use Rattle.clap.specs.declared.error.kind.ErrorKind.TheVariants as kind
use Rattle.krl_simulator.proofs.words.asked.Goals as goal

pub returns-in-Ok-None : goal.returns-in-Ok-None
returns-in-Ok-None g c = (kind.InvalidValue, c.refuse_bytes.ensures)

pub returns-in-Err : goal.returns-in-Err
returns-in-Err g c = (kind.OutOfMemory, refl)
