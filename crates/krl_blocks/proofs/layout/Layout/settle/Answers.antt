use Rattle.std.proofs.Common.{◌≡◌, [], None, refl, arith}
use Rattle.krl_blocks.proofs.Places.{none_read, key_is}
use Rattle.krl_blocks.proofs.Kept.{some_at, nearly_kept, short_within, short_lengths}
use Rattle.krl_blocks.proofs.layout.Layout.settle.Goals as goal

pub get-requires : goal.get-requires
get-requires g c = short_within c.args.self.now.tops c.args.self.now.shelf c.args.b c.requires.short

pub discard-requires-clause-empty : goal.discard-requires-clause-empty
discard-requires-clause-empty g c = some_at (λ x. x ≡ []) c.get.result.now _ c.get.ensures (none_read c.get.result.now c.in-None.ensures.value)

pub index_mut-requires : goal.index_mut-requires
index_mut-requires g c = omega (arith, short_within c.args.self.now.tops c.args.self.now.shelf c.args.b c.requires.short, short_lengths c.args.self.now.tops c.args.self.now.shelf c.args.b c.requires.short, c.args.self.now.tops.ok.0)

pub mend-requires-clause-nearly : goal.mend-requires-clause-nearly
mend-requires-clause-nearly g c =
    nearly_kept c.args.self.now.tops _ c.args.self.now.shelf c.args.b c.in-Some.entry.now.0 c.requires.short c.get.result.now (omega arith) c.get.ensures
    (key_is None c.get.result.now c.in-Some.entry.now c.in-Some.ensures.value) refl

pub mend-requires-clause-within : goal.mend-requires-clause-within
mend-requires-clause-within g c = short_within c.args.self.now.tops c.args.self.now.shelf c.args.b c.requires.short
