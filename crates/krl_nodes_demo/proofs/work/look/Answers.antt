use Rattle.std.proofs.Common.{subst, ℕ, List}
use Rattle.krl_messages.specs.Values.{Value}
use Rattle.krl_nodes_demo.specs.RunRows.{HasKey}
use Rattle.krl_nodes_demo.proofs.RunRows.{is_found}
use Rattle.krl_nodes_demo.proofs.work.look.Goals as goal

pub returns-then-has_key : goal.returns-then-has_key
returns-then-has_key c = is_found c.args.node.now c.in_ok-answer.answer c.in-Rows.rows c.in-Rows.is c.in_ok-answer.ensures.there (subst (λ (xs : List (ℕ × Value)). HasKey 15 xs) c.as_slice.ensures c.if-has_key.ensures)
