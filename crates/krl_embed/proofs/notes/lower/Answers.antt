use Rattle.std.proofs.Common.{◌≡◌, ℕ, ◌-◌, arith, get_or, rules}
use Rattle.std.proofs.lemmas.List.{get_or_default, take_all, drop_all}
use Rattle.std.proofs.lemmas.List.Edits.{map_over_more}
use Rattle.krl_embed.proofs.notes.lower.Goals as goal

pub loop-i-preserved : goal.loop-i-preserved
loop-i-preserved c =
    let f = λ (mark : ℕ). mark - c.args.by in
    let old = get_or c.loop-i.marks c.loop-i.i 0 in
    let new : c.saturating_sub.result ≡ f old = c.saturating_sub.ensures in
    rw new (
    map_over_more f c.args.marks.now c.loop-i.marks c.loop-i.i old c.loop-i-test.true c.loop-i.invariant
    (get_or_default c.loop-i.marks c.loop-i.i 0 old (omega arith))
    )

pub returns : goal.returns
returns c = search (rules, take_all, drop_all)
