use Rattle.std.proofs.Common.{rules, ◌≡◌}
use Rattle.krl_modes.specs.Spans.{Bounds}
use Rattle.krl_embed.specs.Shards.{AreBounds, Copies}
use Rattle.krl_embed.proofs.PartsLemmas.{tells}
use Rattle.krl_embed.proofs.shards.krl_parts.Goals as goal

pub returns : goal.returns
returns c =
    let bounds = c.args.bounds.now in
    let s : Bounds = record { lo = c.args.lo; hi = c.args.hi } in
    let ps = c.parts.result.items in
    let h : AreBounds bounds = search rules in
    let same : c.in-Ok.shards ≡ bounds = search rules in
    let is : c.in-Ok-new.span ≡ s = search rules in
    let copied : Copies ps c.args.parts.now c.copy_parts.new.parts c.copy_parts.result = search rules in
    tells bounds c.in-Ok.shards s c.in-Ok-new.span ps c.args.parts.now c.copy_parts.new.parts c.copy_parts.result same
    is h c.parts.ensures.follow c.parts.ensures.within c.parts.ensures.ascend c.parts.ensures.all copied
