use Rattle.std.proofs.Common.{rules}
use Rattle.std.proofs.lemmas.List.{get_or-map}
use Rattle.krl_lease_table.proofs.each.row_at.Goals as goal

pub returns : goal.returns
returns c = search (rules, get_or-map)
