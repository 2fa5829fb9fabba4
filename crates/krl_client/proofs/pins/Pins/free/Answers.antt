use Rattle.std.proofs.Common.{◌≡◌, ◌-◌, ◌+◌, true, false, Option, is_some, sym, ap, ◌∙◌, arith}
use Rattle.krl_modes.specs.Spans.{Bounds}
use Rattle.krl_client.specs.Fields.{pins_of}
use Rattle.krl_client.proofs.Pinned.{free_more, free_here}
use Rattle.krl_client.proofs.pins.Pins.free.Goals as goal

pub returns-then-is_none : goal.returns-then-is_none
returns-then-is_none c =
    let pins = pins_of c.args.self.now in
    let i = c.loop-id.id in
    let none : is_some (pins i) ≡ false = ap (λ (o : Option Bounds). is_some o) (sym c.get.ensures) ∙ c.if-is_none.ensures in
    sym (c.loop-id.invariant ∙ free_here pins i (8 - i) (8 - (i + 1)) (omega (arith, c.loop-id-test.true)) none)

pub loop-id-preserved : goal.loop-id-preserved
loop-id-preserved c =
    let pins = pins_of c.args.self.now in
    let i = c.loop-id.id in
    let some : is_some (pins i) ≡ true = ap (λ (o : Option Bounds). is_some o) (sym c.get.ensures) ∙ c.if-is_none.ensures in
    c.loop-id.invariant ∙ free_more pins i (8 - i) (i + 1) (8 - (i + 1)) (omega arith) (omega (arith, c.loop-id-test.true)) some
