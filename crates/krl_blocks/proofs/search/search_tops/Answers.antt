use Rattle.std.proofs.Common.{rules, of_calls, arith}
use Rattle.std.proofs.lemmas.Fn.{always_returns_same}
use Rattle.std.specs.Prelude.{nat_lt}
use Rattle.krl_blocks.proofs.Places.{tops_partitioned, front_passes, back_passes}
use Rattle.krl_blocks.proofs.Probes.{near_all}
use Rattle.krl_blocks.proofs.search.search_tops.Goals as goal

pub returns-in_default-clause-below : goal.returns-in_default-clause-below
returns-in_default-clause-below c =
    let point = c.partition_point.ensures.partitioned (λ e. nat_lt e c.args.point) (always_returns_same _ _ _ (λ a r f k. search (rules, of_calls))) (tops_partitioned c.args.tops.now c.args.point c.requires) in
    front_passes _ c.args.tops.now c.partition_point.result c.partition_point.ensures.bound point.0

pub returns-in_default-clause-rest : goal.returns-in_default-clause-rest
returns-in_default-clause-rest c =
    let point = c.partition_point.ensures.partitioned (λ e. nat_lt e c.args.point) (always_returns_same _ _ _ (λ a r f k. search (rules, of_calls))) (tops_partitioned c.args.tops.now c.args.point c.requires) in
    back_passes _ c.args.tops.now c.partition_point.result point.1

pub count_below-requires-clause-near : goal.count_below-requires-clause-near
count_below-requires-clause-near c = near_all c.args.tops.now c.in-Some.last.now c.requires c.in-Some.ensures.value (omega arith)
