use Rattle.std.proofs.Common.{◌≡◌, true, take, map}
use Rattle.std.specs.List.{AllByRecursion}
use Rattle.krl_embed.specs.Records.{AreRows, is_record, record_of}
use Rattle.krl_embed.proofs.opening.records_of.Given as goal

abbrev pub invariant-loop-i : goal.invariant-loop-i
invariant-loop-i l = record {
  rows : AreRows l.records.items;
  records : l.records.items ≡ map record_of (take l.i l.rows);
  good : AllByRecursion (λ r. is_record r ≡ true) (take l.i l.rows);
}
