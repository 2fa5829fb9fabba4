use Rattle.krl_durable.proofs.Names.{ap, ◌∙◌, IfOk-weaker, not_left}
use Rattle.krl_durable.proofs.Rows.{missing_seen}
use Rattle.krl_durable.proofs.register.Register.not_left.Goals as goal

pub returns : goal.returns
returns c =
    IfOk-weaker c.clients_missing.result _ _ (λ clients h. h ∙ missing_seen c.self.inside.records.entries ∙ ap not_left c.self.view_is) c.clients_missing.ensures
