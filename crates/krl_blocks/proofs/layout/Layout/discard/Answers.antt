use Rattle.std.proofs.Common.{◌≡◌, [], ap, ◌∙◌, arith}
use Rattle.krl_blocks.specs.Laid.{flat}
use Rattle.krl_blocks.proofs.Around.{flat_gone}
use Rattle.krl_blocks.proofs.Kept.{read_some, at_some, discard_kept, short_within, short_lengths}
use Rattle.krl_blocks.proofs.layout.Layout.discard.Goals as goal

pub remove-requires : goal.remove-requires
remove-requires g c = omega (arith, short_within c.args.self.now.tops c.args.self.now.shelf c.args.b c.requires.short, short_lengths c.args.self.now.tops c.args.self.now.shelf c.args.b c.requires.short, c.args.self.now.tops.ok.0)

pub remove-requires-2 : goal.remove-requires-2
remove-requires-2 g c = short_within c.args.self.now.tops c.args.self.now.shelf c.args.b c.requires.short

pub returns-clause-kept : goal.returns-clause-kept
returns-clause-kept g c =
    let lt = short_within c.args.self.now.tops c.args.self.now.shelf c.args.b c.requires.short in
    let y = read_some c.args.self.now.shelf.blocks c.args.b lt in
    discard_kept c.args.self.now.tops c.remove.new.self c.args.self.now.shelf c.remove-2.new.self (omega (arith, c.remove.ensures.capacity)) c.remove-2.ensures.most
    c.args.b c.requires.short y.0 y.1 (at_some (λ x. x ≡ []) y.0 _ y.1 c.requires.empty) c.remove.ensures.items c.remove-2.ensures.blocks

pub returns-clause-same : goal.returns-clause-same
returns-clause-same g c =
    let lt = short_within c.args.self.now.tops c.args.self.now.shelf c.args.b c.requires.short in
    let y = read_some c.args.self.now.shelf.blocks c.args.b lt in
    ap flat c.remove-2.ensures.blocks ∙ flat_gone c.args.self.now.shelf.blocks c.args.b y.0 y.1 (at_some (λ x. x ≡ []) y.0 _ y.1 c.requires.empty)
