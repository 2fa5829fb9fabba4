use Rattle.std.proofs.Common.{◌∙◌, sym, ap, nat_eq}
use Rattle.std.specs.List.{list_any}
use Rattle.krl_embed.proofs.RecordsKept.{rows_push}
use Rattle.krl_embed.proofs.records.push_record.Goals as goal

pub returns-clause-rows : goal.returns-clause-rows
returns-clause-rows c =
    let row = c.in-Some.pair in
    rw c.in_ok-push.ensures.items (rows_push c.args.rows.now.items row c.requires c.in-Some.ensures.row (ap (λ rs. list_any (λ r. nat_eq row.0 r.0) rs) (sym c.deref.ensures.value) ∙ sym c.is_there.ensures ∙ c.if-is_there.false))
