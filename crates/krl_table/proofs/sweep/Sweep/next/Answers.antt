use Rattle.krl_table.proofs.Names.{subst, arith, Pieces, NothingFrom, IsNextReported}
use Rattle.krl_table.proofs.ReportRows.PieceByPiece.{ranges_nearer, next_reported, nothing_more}
use Rattle.krl_table.proofs.sweep.Sweep.next.Goals as goal

pub returns-then-next-gt-END-clause-none : goal.returns-then-next-gt-END-clause-none
returns-then-next-gt-END-clause-none c =
    let m = c.args.durable.now.index in let p : Pieces = record { ranges = c.self.inside.ranges.now; keys = c.self.inside.keys.now } in
    subst (λ x. NothingFrom m x c.args.at) c.self.view_is
    (nothing_more m c.requires.near p c.args.at c.requires.begins c.next_key-next.result (omega (arith, c.if-next-gt-END.true))
    (ranges_nearer p.ranges c.args.at c.next_range-next.result c.next_key-next.result c.next_key-next.ensures.most c.next_range-next.ensures.off) c.next_key-next.ensures.off)

pub returns-clause-some : goal.returns-clause-some
returns-clause-some c =
    let m = c.args.durable.now.index in let p : Pieces = record { ranges = c.self.inside.ranges.now; keys = c.self.inside.keys.now } in
    subst (λ x. IsNextReported m x c.args.at c.find-found.result.point) c.self.view_is
    (next_reported m c.requires.near p c.args.at c.requires.begins c.next_key-next.result c.find-found.result.point c.next_key-next.ensures.above (omega (arith, c.if-next-gt-END.false)) c.find-found.ensures.least
    (ranges_nearer p.ranges c.args.at c.next_range-next.result c.next_key-next.result c.next_key-next.ensures.most c.next_range-next.ensures.off) c.next_key-next.ensures.off)
