use Rattle.std.proofs.Common.{◌≡◌, Some, length, take, drop, sym, ap, ◌∙◌, arith}
use Rattle.std.specs.Prelude.{slice_index_or}
use Rattle.std.proofs.lemmas.List.{take-append-drop, length-take-le, length-drop}
use Rattle.krl_blocks.proofs.Edits.{last_cut}
use Rattle.krl_blocks.proofs.Kept.{at_some, same_there}
use Rattle.krl_blocks.proofs.block.halve.Goals as goal

pub returns-clause-halves : goal.returns-clause-halves
returns-clause-halves g c =
    let s = c.split.ensures.split in
    let full = at_some (λ x. length x ≡ 64) s.block _ s.there c.requires.full in
    let same = same_there c.get.result.now s.block _ c.get.ensures s.there in
    let low = length-take-le 32 s.block (omega (arith, full)) in
    let high = length-drop 32 s.block in
    record {
      block = s.block;
      lower = take 32 s.block;
      upper = drop 32 s.block;
      there = s.there;
      halved = record {
        items = sym (take-append-drop 32 s.block);
        some = low;
        others = omega (arith, high, full);
        last = last_cut s.block 32 c.index-get-half.result (omega arith) (omega (arith, full)) (c.index-get-half.is ∙ ap (λ es. slice_index_or es 31 c.index-get-half.result) same) ∙ ap (λ e. Some e.0) c.index-get-half.is;
      };
      blocks = s.new;
    }
