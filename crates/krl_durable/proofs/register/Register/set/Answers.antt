use Rattle.std.proofs.Common.{◌≡◌, true, nat_lt, sym, ap, subst, ◌∙◌, arith}
use Rattle.krl_durable.proofs.Names.{nat_tests, AllByRecursion, with_record, IsRow}
use Rattle.krl_durable.proofs.Rows.{set_seen, rows_with}
use Rattle.krl_durable.proofs.register.Register.set.Goals as goal

pub invariant_of-self-2 : goal.invariant_of-self-2
invariant_of-self-2 c =
    let es = c.self.inside.records.entries in
    let client : nat_lt c.args.c 64 ≡ true = grind (arith, nat_tests, c.requires.client) in
    subst (AllByRecursion IsRow) (sym (c.in_ok-insert.ensures.entries ∙ set_seen es c.args.c c.args.row))
    (rows_with es c.args.c c.args.row c.self.invariant (client, c.requires.each))

pub returns-clause-ok : goal.returns-clause-ok
returns-clause-ok c =
    c.in_ok-insert.ensures.entries ∙ set_seen c.self.inside.records.entries c.args.c c.args.row
    ∙ ap (λ es. with_record es c.args.c c.args.row) c.self.view_is
