use Rattle.std.proofs.lemmas.Option.{slice_get-get_or}
use Rattle.krl_embed.proofs.RecordsKept.{rows_none, refused}
use Rattle.krl_embed.proofs.opening.records_of.Goals as goal

pub loop-i-init : goal.loop-i-init
loop-i-init c = record {
  rows = rw c.new-records.ensures.items rows_none;
  records = c.new-records.ensures.items;
  good = tt;
}

pub returns-in-Err-clause-why : goal.returns-in-Err-clause-why
returns-in-Err-clause-why c =
    refused c.args.rows.now c.loop-i.i _ c.loop-i.records.items c.in-Err.code c.record_refused.result
    (slice_get-get_or c.args.rows.now c.loop-i.i _ c.loop-i-test.true) c.loop-i.invariant.rows
    c.loop-i.invariant.records c.in-Err.ensures.why c.record_refused.ensures.code
    c.record_refused.ensures.detail
