use Rattle.std.proofs.Common.{sym, ap, ◌∙◌}
use Rattle.krl_durable.proofs.Slots.{entries_kept}
use Rattle.krl_durable.specs.Migrations.{DurableV1}
use Rattle.krl_durable.proofs.durable_v1.DurableV1.entries.Goals as goal

pub returns-clause-entries : goal.returns-clause-entries
returns-clause-entries c =
    let es = c.self.inside.entries.items in
    c.as_slice.ensures.value ∙ sym (entries_kept es c.args.self.now.index c.self.invariant.ordered.sorted (ap (λ (d : DurableV1). d.index) c.self.view_is))
