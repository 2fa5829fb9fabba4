use Rattle.std.proofs.Common.{sym}
use Rattle.krl_cache_laws.proofs.Clipped.{found_part, found_none}
use Rattle.krl_cache_laws.proofs.pieces.part_at.Goals as goal

pub returns-in-Some : goal.returns-in-Some
returns-in-Some c = found_part c.args.pieces.now c.args.p c.in-Some.piece (sym c.in-Some.ensures)

pub returns-in-None : goal.returns-in-None
returns-in-None c = sym (found_none c.args.pieces.now c.args.p (sym c.in-None.ensures))
