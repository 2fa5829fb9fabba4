use Rattle.std.proofs.Common.{◌≡◌, ℕ, true, Option, sym, ap, ◌∙◌, arith}
use Rattle.krl_modes.specs.Spans.{Bounds}
use Rattle.krl_client.specs.Clients.{meets_one}
use Rattle.krl_client.specs.Splits.{pin_meets}
use Rattle.krl_client.specs.Fields.{pins_of}
use Rattle.krl_client.proofs.Pinned.{meets_found}
use Rattle.krl_client.proofs.pins.Pins.meet.Goals as goal

pub returns-then-meets : goal.returns-then-meets
returns-then-meets c =
    let pins = pins_of c.args.self.now in
    let found : true ≡ pin_meets c.args.span (pins c.loop-id.id) = c.if-meets.ensures ∙ ap (λ (o : Option Bounds). pin_meets c.args.span o) c.get.ensures in
    sym (meets_found pins 8 c.loop-id.id c.args.span c.loop-id-test.true (sym found))

pub returns : goal.returns
returns c =
    let all : c.loop-id.id ≡ 8 = omega (arith, c.loop-id-test.false, c.loop-id.auto.id-end) in
    sym (ap (λ (n : ℕ). meets_one (pins_of c.args.self.now) n c.args.span) (sym all) ∙ c.loop-id.invariant)
