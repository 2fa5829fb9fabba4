use Rattle.krl_table.proofs.Names.{ℕ, sym, subst, ◌∙◌, length-set, Extent, Lies, extent_in}
use Rattle.krl_table.proofs.Invariant.Within.{follow_wider, follow_there}
use Rattle.krl_table.proofs.extents.Extents.follow.Goals as goal

pub loop-client-preserved : goal.loop-client-preserved
loop-client-preserved c =
    let es = c.args.self.now.by_client in let fs = c.loop-client.self.by_client in let k = c.loop-client.client in let x = c.following-extent.result in
    let w = c.loop-client.invariant in let is = c.of.ensures in
    let kept : (n : ℕ) → Lies (extent_in fs k) n → Lies x n = λ n at. c.following-extent.ensures.kept n (subst (λ (e : Extent). Lies e n) (sym is) at) in
    record {
      full = length-set fs k x ∙ w.full;
      wider = follow_wider es fs k c.args.from c.args.to x w.full c.loop-client-test.true w.wider kept;
      there = follow_there es fs k c.args.from c.args.to x w.full c.loop-client-test.true w.wider kept w.there
          (λ at. c.following-extent.ensures.there (subst (λ (e : Extent). Lies e c.args.from) (sym is) at));
    }
