use Rattle.std.proofs.Common.{◌≡◌, ◌∙◌, ℕ, ◌-◌, List, take, refl, ap, subst, arith}
use Rattle.std.proofs.lemmas.List.{length-set}
use Rattle.std.specs.Prelude.{IfSome}
use Rattle.rand_pcg.specs.Lcg.{Lcg}
use Rattle.krl_draws.specs.Generator as draw
use Rattle.krl_draws.proofs.BytesLemmas.{more_drawn, all_drawn}
use Rattle.krl_draws.proofs.generator.Generator.value.Goals as goal

pub loop-i-init : goal.loop-i-init
loop-i-init c =
    let len = c.below-len.result in
    let all : len ≡ len - 0 = omega arith in
    record {
      drawn = ap (λ (k : ℕ). (let end : List ℕ × Lcg = ((draw.bytes k c.below-len.new.self).0, (draw.bytes k c.below-len.new.self).1) in end)) all;
      count = refl;
    }

pub loop-i-preserved : goal.loop-i-preserved
loop-i-preserved c =
    let i = c.loop-i.i in
    record {
      drawn = more_drawn c.below-len.result i c.below.result c.loop-i.bytes (draw.bytes c.below-len.result c.below-len.new.self) c.loop-i.self c.below.new.self c.loop-i-test.true (omega (arith, c.loop-i-test.true, c.below-len.ensures.low, c.loop-i.invariant.count)) c.below.ensures.drawn c.loop-i.invariant.drawn;
      count = length-set c.loop-i.bytes i c.below.result ∙ c.loop-i.invariant.count;
    }

pub returns : goal.returns
returns c =
    let len = c.below-len.result in
    let is = subst (λ o. IfSome o (λ v. v ≡ take len c.loop-i.bytes)) c.unwrap.ensures c.new.ensures.value in
    all_drawn len c.loop-i.i c.loop-i.bytes c.unwrap.result (draw.bytes len c.below-len.new.self) c.loop-i.self c.loop-i.auto.i-end c.loop-i-test.false is c.loop-i.invariant.drawn
    ∙ ap (λ (d : ℕ × Lcg). draw.bytes d.0 d.1) c.below-len.ensures.drawn
