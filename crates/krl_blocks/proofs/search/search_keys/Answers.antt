use Rattle.std.proofs.Common.{rules, of_calls, arith}
use Rattle.std.proofs.lemmas.Fn.{always_returns_same}
use Rattle.std.specs.Prelude.{nat_lt}
use Rattle.krl_blocks.proofs.Places.{keys_partitioned, front_passes, back_passes}
use Rattle.krl_blocks.proofs.Keys.{keys_near_all}
use Rattle.krl_blocks.proofs.search.search_keys.Goals as goal

pub returns-in_default-clause-below : goal.returns-in_default-clause-below
returns-in_default-clause-below g c =
    let point = c.partition_point.ensures.partitioned (λ e. nat_lt e.0 c.args.point) (always_returns_same _ _ _ (λ a r f k. search (rules, of_calls))) (keys_partitioned c.args.entries.now c.args.point c.requires) in
    front_passes _ c.args.entries.now c.partition_point.result c.partition_point.ensures.bound point.0

pub returns-in_default-clause-rest : goal.returns-in_default-clause-rest
returns-in_default-clause-rest g c =
    let point = c.partition_point.ensures.partitioned (λ e. nat_lt e.0 c.args.point) (always_returns_same _ _ _ (λ a r f k. search (rules, of_calls))) (keys_partitioned c.args.entries.now c.args.point c.requires) in
    back_passes _ c.args.entries.now c.partition_point.result point.1

pub count_keys_below-requires-clause-near : goal.count_keys_below-requires-clause-near
count_keys_below-requires-clause-near g c = keys_near_all c.args.entries.now c.in-Some.last.now c.requires c.in-Some.ensures.value (omega arith)
