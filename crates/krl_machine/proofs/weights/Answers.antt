use Rattle.krl_machine.proofs.Modes.{ranges_by_table, keys_by_table, ranges_agree_by_table, keys_agree_by_table, mode_parts, has_mode}
use Rattle.krl_machine.proofs.weights.Goals as goal

pub returns : goal.returns
returns c = record {
  ranges = ranges_by_table;
  keys = keys_by_table;
  compatible_ranges = ranges_agree_by_table;
  compatible_keys = keys_agree_by_table;
  modes = mode_parts;
  parts = has_mode;
}
