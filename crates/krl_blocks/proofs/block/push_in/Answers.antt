use Rattle.std.proofs.Common.{◌≤◌, ◌<◌, length, ap, ◌∙◌, arith}
use Rattle.std.specs.List.{insert}
use Rattle.std.proofs.lemmas.List.Edits.{insert_end}
use Rattle.krl_blocks.proofs.Kept.{at_some, some_at, same_there}
use Rattle.krl_blocks.proofs.block.push_in.Goals as goal

pub insert_at-requires-clause-place : goal.insert_at-requires-clause-place
insert_at-requires-clause-place g c = some_at (λ x. (length c.get-i.result.now ≤ length x) × (length x < 64)) c.get-i.result.now _ c.get-i.ensures (omega arith, at_some (λ x. length x < 64) c.get-i.result.now _ c.get-i.ensures c.requires.room)

pub returns-clause-one : goal.returns-clause-one
returns-clause-one g c =
    let one = c.insert_at.ensures.one in
    record {
      block = one.block;
      other = one.other;
      there = one.there;
      new = one.new;
      how = one.how ∙ ap (λ n. insert one.block n (c.args.key, c.args.value)) (ap length (same_there c.get-i.result.now one.block _ c.get-i.ensures one.there)) ∙ insert_end one.block (c.args.key, c.args.value);
    }
