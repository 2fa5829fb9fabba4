use Rattle.krl_server.proofs.Names.{ap, ◌∙◌, rows_of, meaning, Rows}
use Rattle.std.specs.Prelude.{if◌then◌else◌}
use Rattle.krl_server.specs.Servers.{unlist}
use Rattle.krl_table.proofs.ReportRows.Ordered.{same_conflicts, same_adopted}
use Rattle.krl_server.proofs.state.State.report.Goals as goal

pub returns-clause-contradicts : goal.returns-clause-contradicts
returns-clause-contradicts c = c.adopt_report-2.ensures.contradicts
    ∙ same_conflicts c.args.self.now.durable.index c.in_ok-ordered.ordered c.args.pieces.now c.in_ok-ordered.ensures.same (rows_of c.args.self.now.table.map) c.args.client

pub returns-clause-adopts : goal.returns-clause-adopts
returns-clause-adopts c =
    let s = meaning c.args.self.now in
    c.adopt_report-2.ensures.adopts
    ∙ ap (λ (rows : Rows). if c.adopt_report-2.result then s else record s { rows = rows; missing = unlist s.missing c.args.client })
    (same_adopted s.durable.index c.in_ok-ordered.ordered c.args.pieces.now c.in_ok-ordered.ensures.same s.rows c.args.client)
