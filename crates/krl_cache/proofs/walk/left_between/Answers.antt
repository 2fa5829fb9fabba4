use Rattle.krl_cache.proofs.Names.{ℕ, List, subst, Entry, at, AreNext}
use Rattle.krl_cache.proofs.Rests.{range_is_next}
use Rattle.krl_cache.proofs.walk.left_between.Goals as goal

pub returns : goal.returns
returns c =
    let es = c.args.entries.now.entries in
    subst (λ (xs : List (ℕ × Entry)). AreNext (at es) c.args.lo c.args.hi xs) c.take_first-first.ensures
    (range_is_next c.args.lo c.args.hi es c.range-rest.result c.range-rest.ensures.ordered (c.range-rest.ensures.between tt))
