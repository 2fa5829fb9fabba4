use Rattle.std.proofs.Common.{◌++◌, refl, ap, ◌∙◌, arith}
use Rattle.krl_blocks.specs.Laid.{flat}
use Rattle.krl_blocks.proofs.Around.{flat_merged}
use Rattle.krl_blocks.proofs.Laying.{laid_lengths}
use Rattle.krl_blocks.proofs.Kept.{merge_kept, thin_few, thin_within}
use Rattle.krl_blocks.proofs.layout.Layout.merge.Goals as goal

pub remove-requires : goal.remove-requires
remove-requires g c = let lt = thin_within c.args.self.now.shelf.blocks c.args.j c.requires.mergeable.thin in omega (arith, lt, laid_lengths 0 c.args.self.now.tops.items c.args.self.now.shelf.blocks c.requires.mergeable.nearly.laid, c.args.self.now.tops.ok.0)

pub join-requires-clause-within : goal.join-requires-clause-within
join-requires-clause-within g c = thin_within c.args.self.now.shelf.blocks c.args.j c.requires.mergeable.thin

pub join-requires-clause-few : goal.join-requires-clause-few
join-requires-clause-few g c = thin_few c.args.self.now.shelf.blocks c.args.j c.requires.mergeable.thin

pub returns-clause-kept : goal.returns-clause-kept
returns-clause-kept g c = merge_kept c.args.self.now.tops c.remove.new.self c.args.self.now.shelf c.join.new.self (omega (arith, c.remove.ensures.capacity)) c.join.ensures.most c.args.j c.requires.mergeable c.join.ensures.joined c.remove.ensures.items

pub returns-clause-same : goal.returns-clause-same
returns-clause-same g c =
    let o = c.join.ensures.joined in
    ap flat o.new ∙ flat_merged c.args.self.now.shelf.blocks c.args.j o.lower o.upper (o.lower ++ o.upper) o.first o.second refl
