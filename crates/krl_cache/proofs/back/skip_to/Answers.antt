use Rattle.krl_cache.proofs.Names.{subst, sym, back_of, IsBelow}
use Rattle.krl_cache.specs.declared.back.Back.{Back}
use Rattle.krl_cache.proofs.Backs.{Comes, comes_on, comes_out}
use Rattle.krl_cache.proofs.back.skip_to.Goals as goal

pub loop-any-preserved : goal.loop-any-preserved
loop-any-preserved c = comes_on c.args.p (back_of c.args.back.now) (back_of c.loop-any.back) (back_of c.take_from.new.back) c.loop-any.any c.in-Some.field-0 c.in-Some.ensures.0 c.in-Some.ensures.1 c.loop-any.invariant

pub returns : goal.returns
returns c = comes_out c.args.p (back_of c.args.back.now) c.take_from.new.back.rest c.take_from.new.back.last c.loop-any.any
    (subst (λ (b : Back). IsBelow c.args.p b.last) (sym c.in_default.ensures.1) c.in_default.ensures.0)
    (subst (λ (b : Back). Comes c.args.p (back_of c.args.back.now) (back_of b) c.loop-any.any) (sym c.in_default.ensures.1) c.loop-any.invariant)
