use Rattle.std.proofs.Common.{◌≡◌, take, drop, true, false, refl, sym, subst, arith}
use Rattle.std.specs.Prelude.{nat_lt}
use Rattle.std.specs.List.{AllByRecursion}
use Rattle.krl_blocks.specs.Laid.{Rises}
use Rattle.krl_blocks.proofs.Places.{laid_rise}
use Rattle.krl_blocks.proofs.Laying.{rising_at, absent_behind}
use Rattle.krl_blocks.proofs.Kept.{changed_kept, changed_answer}
use Rattle.krl_blocks.proofs.layout.Layout.set.Goals as goal

pub count_tops-b-requires : goal.count_tops-b-requires
count_tops-b-requires g c = subst Rises (sym c.deref.ensures.value) (laid_rise 0 c.args.self.now.tops.items c.args.self.now.shelf.blocks c.requires.kept.laid)

pub set_in-requires-clause-rising : goal.set_in-requires-clause-rising
set_in-requires-clause-rising g c = rising_at 0 c.args.self.now.tops.items c.args.self.now.shelf.blocks c.count_tops-b.result c.requires.kept.laid

pub returns-then-b-len-clause-kept : goal.returns-then-b-len-clause-kept
returns-then-b-len-clause-kept g c = changed_kept c.args.key c.args.value c.args.self.now.tops c.args.self.now.shelf c.set_in.new.shelf c.count_tops-b.result c.requires.kept c.set_in.ensures.most (subst (λ ns. AllByRecursion (λ t. nat_lt t c.args.key ≡ true) (take c.count_tops-b.result ns)) c.deref.ensures.value c.count_tops-b.ensures.below) (subst (λ ns. AllByRecursion (λ t. nat_lt t c.args.key ≡ false) (drop c.count_tops-b.result ns)) c.deref.ensures.value c.count_tops-b.ensures.rest) c.set_in.result c.set_in.ensures.one

pub returns-then-b-len-clause-changed : goal.returns-then-b-len-clause-changed
returns-then-b-len-clause-changed g c = changed_answer c.args.key c.args.value c.args.self.now.tops c.args.self.now.shelf c.set_in.new.shelf c.count_tops-b.result c.requires.kept c.set_in.ensures.most (subst (λ ns. AllByRecursion (λ t. nat_lt t c.args.key ≡ true) (take c.count_tops-b.result ns)) c.deref.ensures.value c.count_tops-b.ensures.below) (subst (λ ns. AllByRecursion (λ t. nat_lt t c.args.key ≡ false) (drop c.count_tops-b.result ns)) c.deref.ensures.value c.count_tops-b.ensures.rest) c.set_in.result c.set_in.ensures.one

pub returns-else-b-len-clause-changed : goal.returns-else-b-len-clause-changed
returns-else-b-len-clause-changed g c = (absent_behind c.args.key c.args.self.now.tops.items c.args.self.now.shelf.blocks c.count_tops-b.result c.requires.kept.laid (subst (λ ns. AllByRecursion (λ t. nat_lt t c.args.key ≡ true) (take c.count_tops-b.result ns)) c.deref.ensures.value c.count_tops-b.ensures.below) (omega (arith, c.if-b-len.false, c.len.ensures)), refl)
