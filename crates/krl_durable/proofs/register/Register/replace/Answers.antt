use Rattle.krl_durable.proofs.Names.{◌≡◌, true, false, is_some, None, sym, ap, subst, ◌∙◌, IsSome, AllByRecursion, record_of, with_record, IsRow}
use Rattle.std.specs.Option.{option_copied_mut}
use Rattle.krl_durable.specs.declared.register.Register.TheInside.{Inside}
use Rattle.krl_durable.proofs.Rows.{record_seen, replaced_seen, rows_with, client_below}
use Rattle.krl_durable.proofs.register.Register.replace.Goals as goal
use Rattle.krl_durable.proofs.register.Register.replace.Goals.{in-Some, in_default}

written : (c : goal.Joined-get_mut) → c.match-get_mut.self-inside.records.entries ≡ with_record c.self.inside.records.entries c.args.c c.args.row
written c =
    let es = c.self.inside.records.entries in
    let there : IsSome (record_of es c.args.c) = subst (λ rows. IsSome (record_of rows c.args.c)) (sym c.self.view_is) c.requires.registered in
    elim c.match-get_mut.branch [
      | in-Some w ↦ ap (λ (s : Inside). s.records.entries) w.self-inside-is ∙ (c.get_mut.follows.holds c.args.row).0 ∙ replaced_seen es c.args.c c.args.row there
      | in_default w ↦
          let none : None ≡ record_of es c.args.c = ap option_copied_mut (sym w.in_default.is) ∙ c.get_mut.ensures.value ∙ record_seen es c.args.c in
          absurd (let bad : false ≡ true = ap is_some none ∙ there in cc)
    ]

pub invariant_of-self : goal.invariant_of-self
invariant_of-self c =
    let es = c.self.inside.records.entries in
    let there : IsSome (record_of es c.args.c) = subst (λ rows. IsSome (record_of rows c.args.c)) (sym c.self.view_is) c.requires.registered in
    subst (AllByRecursion IsRow) (sym (written c)) (rows_with es c.args.c c.args.row c.self.invariant (client_below es c.args.c c.self.invariant there, c.requires.each))

pub returns : goal.returns
returns c = written c ∙ ap (λ rows. with_record rows c.args.c c.args.row) c.self.view_is
