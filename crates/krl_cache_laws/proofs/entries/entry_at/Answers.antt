use Rattle.std.proofs.Common.{sym}
use Rattle.krl_cache_laws.proofs.Picked.{pair_found, pair_missing}
use Rattle.krl_cache_laws.proofs.entries.entry_at.Goals as goal

pub returns-in-Some : goal.returns-in-Some
returns-in-Some c = pair_found c.args.entries.now c.args.p (c.in-Some.field-0-0, c.in-Some.entry) (sym c.in-Some.ensures)

pub returns-in-None : goal.returns-in-None
returns-in-None c = pair_missing c.args.entries.now c.args.p (sym c.in-None.ensures)
