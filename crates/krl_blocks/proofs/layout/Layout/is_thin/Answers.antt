use Rattle.std.proofs.Common.{◌≡◌, ℕ, Some, sym, subst, arith, add-one}
use Rattle.std.specs.List.{slice_get}
use Rattle.krl_blocks.proofs.Kept.{thin_is, thin_none}
use Rattle.krl_blocks.proofs.layout.Layout.is_thin.Goals as goal

pub returns-then-j-blocks : goal.returns-then-j-blocks
returns-then-j-blocks g c = sym (thin_none c.args.self.now.shelf.blocks c.args.j (omega (arith, c.if-j-blocks.true, c.len-blocks.ensures)))

pub returns : goal.returns
returns g c = sym (thin_is c.args.self.now.shelf.blocks c.args.j c.get.result.now c.get-2.result.now c.get.ensures (subst (λ (n : ℕ). Some c.get-2.result.now ≡ slice_get c.args.self.now.shelf.blocks n) (add-one c.args.j) c.get-2.ensures))
