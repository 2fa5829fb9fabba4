use Rattle.krl_durable.proofs.Names.{subst, IfOk, IfOk-weaker, Durable, MakesAgain}
use Rattle.krl_durable.proofs.Again.{makes_again}
use Rattle.krl_durable.proofs.durable.Durable.records.Goals as goal

pub returns-clause-again : goal.returns-clause-again
returns-clause-again c =
    let inside : Durable = record { room = c.self.inside.index.room; reach = c.self.inside.reach; index = c.self.inside.index.index; epoch = c.self.inside.epoch; register = c.self.inside.register } in
    subst (λ (d : Durable). IfOk c.records.result (λ records. MakesAgain d records.items)) c.self.view_is
    (IfOk-weaker c.records.result _ _ (λ records h. makes_again inside records.items c.entries.ensures.below h.0) c.records.ensures)
