use Rattle.std.proofs.Common.{◌≡◌, nat_lt, arith, rules}
use Rattle.krl_modes.specs.Spans.{meets}
use Rattle.krl_modes.proofs.SpanLaws.{meets-points}
use Rattle.krl_modes.proofs.span.Span.meets.Goals as goal

pub returns-then-other-self-clause-points : goal.returns-then-other-self-clause-points
returns-then-other-self-clause-points c =
    let is_meets : nat_lt c.self.inside.lo c.other.inside.hi ≡ meets c.args.self c.args.other = search rules in
    rw is_meets (meets-points c.args.self c.args.other (omega arith) (omega arith))
