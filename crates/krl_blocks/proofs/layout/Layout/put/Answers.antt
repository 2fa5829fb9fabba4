use Rattle.std.proofs.Common.{◌≡◌, true, arith}
use Rattle.std.specs.Prelude.{nat_lt}
use Rattle.krl_blocks.proofs.Laying.{laid_lengths, rising_at}
use Rattle.krl_blocks.proofs.Kept.{all_of_take, inserted_kept, inserted_all}
use Rattle.krl_blocks.proofs.layout.Layout.put.Goals as goal

pub put_in-requires-clause-rising : goal.put_in-requires-clause-rising
put_in-requires-clause-rising g c = rising_at 0 c.args.self.now.tops.items c.args.self.now.shelf.blocks c.args.b c.requires.kept.laid

pub append-requires-clause-below : goal.append-requires-clause-below
append-requires-clause-below g c = all_of_take (λ t. nat_lt t c.args.key ≡ true) c.args.self.now.tops.items c.args.b (let n = laid_lengths 0 c.args.self.now.tops.items c.args.self.now.shelf.blocks c.requires.kept.laid in omega (arith, n, c.if-b-len.false, c.len.ensures)) c.requires.below

pub push-requires-clause-below : goal.push-requires-clause-below
push-requires-clause-below g c = all_of_take (λ t. nat_lt t c.args.key ≡ true) c.args.self.now.tops.items c.args.b (let n = laid_lengths 0 c.args.self.now.tops.items c.args.self.now.shelf.blocks c.requires.kept.laid in omega (arith, n, c.if-b-len.false, c.len.ensures)) c.requires.below

pub returns-then-b-len-clause-kept : goal.returns-then-b-len-clause-kept
returns-then-b-len-clause-kept g c = inserted_kept c.args.key c.args.value c.args.self.now.tops c.args.self.now.shelf c.put_in.new.shelf c.args.b c.requires.kept c.put_in.ensures.most c.requires.below c.requires.rest c.requires.new c.requires.room c.put_in.ensures.one

pub returns-then-b-len-clause-inserted : goal.returns-then-b-len-clause-inserted
returns-then-b-len-clause-inserted g c = inserted_all c.args.key c.args.value c.args.self.now.tops c.args.self.now.shelf c.put_in.new.shelf c.args.b c.requires.kept c.put_in.ensures.most c.requires.below c.requires.rest c.requires.new c.put_in.ensures.one
