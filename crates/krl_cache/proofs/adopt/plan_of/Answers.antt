use Rattle.krl_cache.proofs.Names.{sym, subst, ◌∙◌, at, HoldsBefore}
use Rattle.krl_cache.specs.Plans.{IsBegun}
use Rattle.krl_cache.proofs.Plans.{looked}
use Rattle.krl_cache.proofs.adopt.plan_of.Goals as goal

pub returns : goal.returns
returns c =
    let f = at c.args.starts.now.entries in
    let k = looked f c.args.lo c.args.hi c.back_from-back.result c.take_from-high.new.back c.skip_to-within.new.back c.take_from-low.new.back c.take_from-high.result c.take_from-low.result c.skip_to-within.result c.requires
    c.back_from-back.ensures c.take_from-high.ensures c.skip_to-within.ensures c.take_from-low.ensures in
    record {
      before = c.part_last-before.result;
      holds = subst (λ r. HoldsBefore f c.args.lo r) (sym c.part_last-before.ensures) k.holds;
      low_was = k.low_was ∙ sym c.part_taken.ensures;
      high_was = k.high_was ∙ sym c.part_taken-2.ensures;
      low = c.begun.ensures;
      high = subst (λ r. IsBegun c.args.part r c.begun-2.result) (c.part_last-after.ensures ∙ sym k.after_is) c.begun-2.ensures;
      free = k.free;
    }
