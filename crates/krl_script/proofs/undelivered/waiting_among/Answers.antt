use Rattle.std.proofs.Common.{◌+◌, sym, ap, ◌∙◌, arith}
use Rattle.krl_script.proofs.WaitingLemmas.{count_waiting, count_passed}
use Rattle.krl_script.proofs.undelivered.waiting_among.Goals.{then-not-index, else-not-index}
use Rattle.krl_script.proofs.undelivered.waiting_among.Goals as goal

pub flags-preserved : goal.flags-preserved
flags-preserved c =
    let flags = c.args.flags.now.items in let i = c.flags.i in let b = c.index.result.now in
    elim c.if-not-index.branch [
      | then-not-index w ↦ record {
        fits = omega (arith, w.waiting-is, c.flags.invariant.fits);
        count = λ past. w.waiting-is ∙ ap (λ n. n + 1) (c.flags.invariant.count past) ∙ sym (count_waiting past i flags b (omega (arith, c.flags-test.true, c.len-i-end.ensures)) c.index.ensures w.if-not-index.true);
      }
      | else-not-index w ↦ record {
        fits = omega (arith, w.waiting-is, c.flags.invariant.fits);
        count = λ past. w.waiting-is ∙ c.flags.invariant.count past ∙ sym (count_passed past i flags b (omega (arith, c.flags-test.true, c.len-i-end.ensures)) c.index.ensures w.if-not-index.false);
      }
    ]
