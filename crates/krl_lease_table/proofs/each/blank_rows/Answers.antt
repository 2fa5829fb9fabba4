use Rattle.std.proofs.Common.{◌∙◌, ap, replicate}
use Rattle.krl_modes.specs.declared.limits.TheConstants.{MAX_CLIENTS}
use Rattle.krl_lease_table.specs.Flat.{row_of}
use Rattle.krl_lease_table.proofs.FlatRows.{map_replicate}
use Rattle.krl_lease_table.proofs.each.blank_rows.Goals as goal

pub returns : goal.returns
returns c = map_replicate row_of MAX_CLIENTS c.of-blank.result ∙ ap (replicate MAX_CLIENTS) (c.of-blank.ensures ∙ c.blank.ensures)
