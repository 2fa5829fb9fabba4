use Rattle.std.proofs.Common.{◌≤◌, ◌++◌, ◌∷◌, [], length, refl, sym, ap, subst, ◌∙◌, arith, length-append}
use Rattle.std.proofs.lemmas.Result.{err_from_is_err_and}
use Rattle.krl_messages.specs.Ascending.{Ascend}
use Rattle.krl_wire.specs.Reading.{holdings_from}
use Rattle.krl_wire.proofs.Loop.{holdings_go_on, holdings_end, holdings_done, from_least, ascend_more}
use Rattle.krl_wire.proofs.read_holdings.several.Goals as goal

pub loop-preserved : goal.loop-preserved
loop-preserved c =
    let h = c.in_ok-holding.holding in
    let after = c.holding_from.new.reader in
    let last = c.hi-least.ensures.end in
    let all = c.push.ensures.holdings in
    let order = c.loop.invariant.behind h (from_least c.loop.least c.loop.reader h after c.in_ok-holding.ensures) in
    record {
      read = rw (all, last)
          (holdings_go_on c.loop.gathering.holdings c.args.count c.loop.counter c.loop.least c.loop.reader h after
          (holdings_from c.args.count 0 c.args.reader.now) c.loop-test.true c.in_ok-holding.ensures
          c.loop.invariant.read);
      many = omega (arith, ap length all, length-append c.loop.gathering.holdings (h ∷ []), c.loop.invariant.many);
      behind = λ k le. subst (λ hs. Ascend (hs ++ k ∷ [])) (sym all)
          (ascend_more c.loop.gathering.holdings h k order (subst (λ n. n ≤ k.span.lo) last le));
      order = subst Ascend (sym all) order;
      room = omega (arith, c.push.ensures.room, c.loop.invariant.room);
    }

pub returns-in_err-holding : goal.returns-in_err-holding
returns-in_err-holding c =
    let p = err_from_is_err_and c.from_residual-in_err-holding.result c.from_residual-in_err-holding.ensures.1 in
    rw (p.1, p.2)
    (holdings_end c.in_err-holding.field-0.0 c.loop.gathering.holdings c.args.count c.loop.counter c.loop.least c.loop.reader
    (holdings_from c.args.count 0 c.args.reader.now) c.loop-test.true c.in_err-holding.ensures
    c.loop.invariant.read)

pub returns : goal.returns
returns c = rw c.into_holdings.ensures (holdings_done c.loop.gathering.holdings c.args.count c.loop.counter c.loop.least c.loop.reader
    (holdings_from c.args.count 0 c.args.reader.now) c.loop-test.false c.loop.invariant.read)
