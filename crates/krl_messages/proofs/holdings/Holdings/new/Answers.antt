use Rattle.std.proofs.Common.{◌≡◌, true, false, refl}
use Rattle.std.proofs.lemmas.Bool.{both_ways}
use Rattle.krl_messages.specs.Ascending.{are_holdings}
use Rattle.krl_messages.proofs.Ascents.{are_so, so_are}
use Rattle.krl_messages.proofs.holdings.Holdings.new.Goals as goal

pub invariant_of-result : goal.invariant_of-result
invariant_of-result c =
    let e : are_holdings c.args.items.items ≡ true = cc (c.are_holdings.ensures, c.as_slice.ensures.value, c.if-are_holdings.true) in
    are_so c.args.items.items e

pub returns-then-are_holdings-clause-due : goal.returns-then-are_holdings-clause-due
returns-then-are_holdings-clause-due c =
    let e : are_holdings c.args.items.items ≡ true = cc (c.are_holdings.ensures, c.as_slice.ensures.value, c.if-are_holdings.true) in
    (λ h. are_so c.args.items.items e, λ h. refl)

pub returns-else-are_holdings-clause-due : goal.returns-else-are_holdings-clause-due
returns-else-are_holdings-clause-due c =
    let e : are_holdings c.args.items.items ≡ false = cc (c.are_holdings.ensures, c.as_slice.ensures.value, c.if-are_holdings.false) in
    (λ h. absurd (cc), λ h. absurd (both_ways (are_holdings c.args.items.items) e (so_are c.args.items.items h)))
