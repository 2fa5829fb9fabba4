use Rattle.krl_table.proofs.Names.{◌≤◌, sym, ap, subst, ◌∙◌, cleared, rows_of, cleared_row, IsAll, IsOver, AreListed}
use Rattle.krl_table.proofs.Calls.Clears.{cleared_is, cleared_sound, cleared_over, cleared_listed}
use Rattle.krl_table.proofs.Invariant.Within.{all_cleared, cleared_free}
use Rattle.krl_table.proofs.table.Table.clear.Goals as goal

-- its extent was all there was to clear
all : (c : goal.After-forget) → IsAll (λ n. cleared_row c.args.client) c.self.inside.rows.map c.clear.new.rows.map
all c = all_cleared c.args.client c.requires c.self.inside.extents.by_client c.self.inside.rows.map c.clear.new.rows.map c.self.invariant.2 c.of-extent.result c.of-extent.ensures c.clear.ensures.all

pub invariant_of-self : goal.invariant_of-self
invariant_of-self c =
    let t = c.self.inside.rows.map in let u = c.clear.new.rows.map in (
      cleared_sound c.args.client c.requires t u c.self.invariant.0 (all c),
      subst (λ l. AreListed l u) (sym c.clear-2.ensures) (cleared_listed c.args.client c.requires t u c.self.invariant.0 (all c) c.self.inside.waiting.by_client c.self.invariant.1),
      cleared_free c.args.client c.requires c.self.inside.extents.by_client t u c.self.invariant.2 c.forget.new.self.by_client c.self.invariant.0 (all c) c.forget.ensures,
    )

pub returns-clause-cleared : goal.returns-clause-cleared
returns-clause-cleared c n = cleared_is c.args.client c.requires c.self.inside.rows.map c.clear.new.rows.map c.self.invariant.0 (all c) n
    ∙ ap (λ x. cleared (rows_of x) c.args.client n) (ap (λ s. s.map) c.self.view_is)

pub returns-clause-slots : goal.returns-clause-slots
returns-clause-slots c m over = cleared_over c.args.client c.requires c.self.inside.rows.map c.clear.new.rows.map c.self.invariant.0 (all c) m (subst (IsOver m) (sym (ap (λ s. s.map) c.self.view_is)) over)
