use Rattle.krl_durable.proofs.Names.{ap, ◌∙◌, record_of}
use Rattle.krl_durable.proofs.Rows.{record_seen, record_kept}
use Rattle.krl_durable.proofs.register.Register.get.Goals as goal

pub returns : goal.returns
returns c =
    let es = c.self.inside.records.entries in
    let found = c.copied.ensures ∙ c.get.ensures.value ∙ record_seen es c.args.c in
    record {
      found = found ∙ ap (λ rows. record_of rows c.args.c) c.self.view_is;
      each = record_kept es c.args.c c.copied.result c.self.invariant found;
    }
