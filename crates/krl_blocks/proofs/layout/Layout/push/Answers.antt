use Rattle.std.proofs.Common.{◌-◌, arith, refl}
use Rattle.krl_blocks.proofs.Laying.{laid_lengths}
use Rattle.krl_blocks.proofs.Kept.{last_index, last_some, last_at, pushed_kept, pushed_all}
use Rattle.krl_blocks.proofs.layout.Layout.push.Goals as goal

pub push_in-requires-clause-within : goal.push_in-requires-clause-within
push_in-requires-clause-within g c = let last = last_index _ _ c.len-b.ensures (last_some c.args.self.now.shelf.blocks c.requires.room) in omega (arith, last)

pub push_in-requires-clause-room : goal.push_in-requires-clause-room
push_in-requires-clause-room g c = last_at (c.len-b.result - 1) c.args.self.now.shelf.blocks _ (last_index _ _ c.len-b.ensures (last_some c.args.self.now.shelf.blocks c.requires.room)) refl c.requires.room

pub index_mut-requires : goal.index_mut-requires
index_mut-requires g c = let last = last_index _ _ c.len-b.ensures (last_some c.args.self.now.shelf.blocks c.requires.room) in omega (arith, last, laid_lengths 0 c.args.self.now.tops.items c.args.self.now.shelf.blocks c.requires.kept.laid, c.args.self.now.tops.ok.0)

pub returns-clause-kept : goal.returns-clause-kept
returns-clause-kept g c =
    pushed_kept c.args.key c.args.value c.args.self.now.tops _ c.args.self.now.shelf c.push_in.new.shelf (c.len-b.result - 1) c.requires.kept (omega arith) c.push_in.ensures.most c.requires.below
    (last_index _ _ c.len-b.ensures (last_some c.args.self.now.shelf.blocks c.requires.room)) c.push_in.ensures.one refl c.requires.room

pub returns-clause-inserted : goal.returns-clause-inserted
returns-clause-inserted g c =
    pushed_all c.args.key c.args.value c.args.self.now.tops c.args.self.now.tops c.args.self.now.shelf c.push_in.new.shelf (c.len-b.result - 1) c.requires.kept (omega arith) c.push_in.ensures.most c.requires.below
    (last_index _ _ c.len-b.ensures (last_some c.args.self.now.shelf.blocks c.requires.room)) c.push_in.ensures.one
