use Rattle.std.proofs.Common.{◌≡◌, take, drop, true, false, refl, sym, subst, arith}
use Rattle.std.proofs.option.Match.{at_none}
use Rattle.std.specs.Prelude.{nat_lt}
use Rattle.std.specs.List.{AllByRecursion}
use Rattle.krl_blocks.specs.Laid.{Rises, IsRemoved, flat}
use Rattle.krl_blocks.proofs.Places.{laid_rise}
use Rattle.krl_blocks.proofs.Laying.{rising_at, absent_behind}
use Rattle.krl_blocks.proofs.Kept.{taken_none_kept, taken_none, taken_some, short_of}
use Rattle.krl_blocks.proofs.layout.Layout.remove.Goals as goal

pub count_tops-b-requires : goal.count_tops-b-requires
count_tops-b-requires g c = subst Rises (sym c.deref.ensures.value) (laid_rise 0 c.args.self.now.tops.items c.args.self.now.shelf.blocks c.requires.kept.laid)

pub returns-then-b-len-clause-removed : goal.returns-then-b-len-clause-removed
returns-then-b-len-clause-removed g c = (absent_behind c.args.key c.args.self.now.tops.items c.args.self.now.shelf.blocks c.count_tops-b.result c.requires.kept.laid (subst (λ ns. AllByRecursion (λ t. nat_lt t c.args.key ≡ true) (take c.count_tops-b.result ns)) c.deref.ensures.value c.count_tops-b.ensures.below) (omega (arith, c.if-b-len.true, c.len.ensures)), refl)

pub take_from-requires-clause-rising : goal.take_from-requires-clause-rising
take_from-requires-clause-rising g c = rising_at 0 c.args.self.now.tops.items c.args.self.now.shelf.blocks c.count_tops-b.result c.requires.kept.laid

pub returns-in_err-value-clause-kept : goal.returns-in_err-value-clause-kept
returns-in_err-value-clause-kept g c = taken_none_kept c.args.key c.args.self.now.tops c.args.self.now.shelf c.take_from.new.shelf c.count_tops-b.result c.requires.kept c.take_from.ensures.most (subst (λ ns. AllByRecursion (λ t. nat_lt t c.args.key ≡ true) (take c.count_tops-b.result ns)) c.deref.ensures.value c.count_tops-b.ensures.below) (subst (λ ns. AllByRecursion (λ t. nat_lt t c.args.key ≡ false) (drop c.count_tops-b.result ns)) c.deref.ensures.value c.count_tops-b.ensures.rest) c.in_err-value.ensures.one

pub returns-in_err-value-clause-removed : goal.returns-in_err-value-clause-removed
returns-in_err-value-clause-removed g c = at_none c.from_residual.result _ _ c.from_residual.ensures (taken_none c.args.key c.args.self.now.tops c.args.self.now.shelf c.take_from.new.shelf c.count_tops-b.result c.requires.kept c.take_from.ensures.most (subst (λ ns. AllByRecursion (λ t. nat_lt t c.args.key ≡ true) (take c.count_tops-b.result ns)) c.deref.ensures.value c.count_tops-b.ensures.below) (subst (λ ns. AllByRecursion (λ t. nat_lt t c.args.key ≡ false) (drop c.count_tops-b.result ns)) c.deref.ensures.value c.count_tops-b.ensures.rest) c.in_err-value.ensures.one)

pub settle-requires : goal.settle-requires
settle-requires g c = record { short = short_of c.args.self.now.tops c.args.self.now.shelf c.take_from.new.shelf c.count_tops-b.result c.args.key c.in_ok-value.value c.requires.kept c.take_from.ensures.most (subst (λ ns. AllByRecursion (λ t. nat_lt t c.args.key ≡ true) (take c.count_tops-b.result ns)) c.deref.ensures.value c.count_tops-b.ensures.below) (subst (λ ns. AllByRecursion (λ t. nat_lt t c.args.key ≡ false) (drop c.count_tops-b.result ns)) c.deref.ensures.value c.count_tops-b.ensures.rest) c.in_ok-value.ensures.one }

pub returns-clause-removed : goal.returns-clause-removed
returns-clause-removed g c = subst (λ es. IsRemoved (flat c.args.self.now.shelf.blocks) es c.args.key c.in_ok-value.value) (sym c.settle.ensures.same) (taken_some c.args.key c.args.self.now.tops c.args.self.now.shelf c.take_from.new.shelf c.count_tops-b.result c.requires.kept c.take_from.ensures.most (subst (λ ns. AllByRecursion (λ t. nat_lt t c.args.key ≡ true) (take c.count_tops-b.result ns)) c.deref.ensures.value c.count_tops-b.ensures.below) (subst (λ ns. AllByRecursion (λ t. nat_lt t c.args.key ≡ false) (drop c.count_tops-b.result ns)) c.deref.ensures.value c.count_tops-b.ensures.rest) c.in_ok-value.value c.in_ok-value.ensures.one)
