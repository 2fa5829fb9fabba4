use Rattle.std.proofs.Common.{get_or, ◌≡◌, ◌≤◌, ◌<◌, ℕ, suc, drop, false, length, Some, sym, ap, subst, ◌∙◌, arith, add-one}
use Rattle.std.proofs.lemmas.List.Edits.{get_or-insert_at}
use Rattle.std.proofs.lemmas.Bool.{le-ltb}
use Rattle.std.specs.Prelude.{nat_lt}
use Rattle.std.specs.List.{AllByRecursion, slice_get}
use Rattle.krl_blocks.specs.Laid.{Rises}
use Rattle.krl_blocks.proofs.Places.{laid_rise}
use Rattle.krl_blocks.proofs.Kept.{some_at, some_none, full_at, reads_lower, reads_upper, drop_to}
use Rattle.krl_blocks.proofs.Laying.{laid_lengths}
use Rattle.krl_blocks.proofs.layout.Layout.make_room.Goals as goal
use Rattle.krl_blocks.proofs.layout.Layout.make_room.Goals.{then-b-len-via-then-b-len, then-b-len-via-else-b-len+then-get-lt-MAX_IN_BLOCK}

pub count_tops-b-requires : goal.count_tops-b-requires
count_tops-b-requires g c = subst Rises (sym c.deref.ensures.value) (laid_rise 0 c.args.self.now.tops.items c.args.self.now.shelf.blocks c.requires.kept.laid)

pub returns-then-b-len-clause-room : goal.returns-then-b-len-clause-room
returns-then-b-len-clause-room g c = elim c.then-b-len.branch [
  | then-b-len-via-then-b-len w ↦ some_none (λ x. length x < 64) c.args.self.now.shelf.blocks c.count_tops-b.result (omega (arith, w.if-b-len.true, c.len.ensures))
  | then-b-len-via-else-b-len+then-get-lt-MAX_IN_BLOCK w ↦ some_at (λ x. length x < 64) w.get.result.now _ w.get.ensures (omega (arith, w.if-get-lt-MAX_IN_BLOCK.true))
]

pub part-requires-clause-full : goal.part-requires-clause-full
part-requires-clause-full g c =
    full_at c.args.self.now.shelf.blocks c.count_tops-b.result c.get.result.now c.requires.kept.small c.get.ensures
    (omega (arith, c.if-get-lt-MAX_IN_BLOCK.false))

pub returns-else-index-key-clause-room : goal.returns-else-index-key-clause-room
returns-else-index-key-clause-room g c =
    let p = c.part.ensures.parted.halves in
    let there = subst (λ zs. Some p.lower ≡ slice_get zs c.count_tops-b.result) (sym p.blocks) (reads_lower c.args.self.now.shelf.blocks c.count_tops-b.result p.block p.lower p.upper p.there) in
    let n = p.halved.some in
    some_at (λ x. length x < 64) p.lower _ there (omega (arith, n))

pub returns-then-index-key-clause-room : goal.returns-then-index-key-clause-room
returns-then-index-key-clause-room g c =
    let p = c.part.ensures.parted.halves in
    let there = subst (λ zs. Some p.upper ≡ slice_get zs (suc c.count_tops-b.result)) (sym p.blocks) (reads_upper c.args.self.now.shelf.blocks c.count_tops-b.result p.block p.lower p.upper p.there) in
    let n = p.halved.others in
    some_at (λ x. length x < 64) p.upper _ (subst (λ (i : ℕ). Some p.upper ≡ slice_get c.part.new.self.shelf.blocks i) (sym (add-one c.count_tops-b.result)) there) (omega (arith, n))

pub returns-else-index-key-clause-rest : goal.returns-else-index-key-clause-rest
returns-else-index-key-clause-rest g c =
    let p = c.part.ensures.parted in
    let ts = c.args.self.now.tops.items in
    let b = c.count_tops-b.result in
    let count = laid_lengths 0 ts c.args.self.now.shelf.blocks c.requires.kept.laid in
    let le : b ≤ length ts = omega (arith, count, c.if-b-len.false, c.len.ensures) in
    let from = subst (λ ns. AllByRecursion (λ t. nat_lt t c.args.key ≡ false) (drop b ns)) c.deref.ensures.value c.count_tops-b.ensures.rest in
    let read : c.index.result.now ≡ p.top = c.index.ensures ∙ ap (λ ns. get_or ns b c.index.result.now) p.tops ∙ get_or-insert_at ts b p.top c.index.result.now le in
    subst (λ ns. AllByRecursion (λ t. nat_lt t c.args.key ≡ false) (drop b ns)) (sym p.tops)
    (drop_to (λ t. nat_lt t c.args.key ≡ false) ts b p.top le from (le-ltb p.top c.args.key (omega (arith, read, c.if-index-key.false))))
