use Rattle.krl_cache.proofs.Names.{ℕ, List, ◌+◌, subst, RangePart, AreBefore, at}
use Rattle.krl_cache.proofs.Backs.{range_is_before}
use Rattle.krl_cache.proofs.back.back_from.Goals as goal

pub returns : goal.returns
returns c =
    let es = c.args.starts.now.entries in
    subst (λ (xs : List (ℕ × RangePart)). AreBefore (at es) (c.args.p + 1) xs) c.take_last-last.ensures
    (range_is_before c.args.p es c.range-rest.result c.range-rest.ensures.ordered (c.range-rest.ensures.between tt))
