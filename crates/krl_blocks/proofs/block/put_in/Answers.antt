use Rattle.std.proofs.Common.{◌≤◌, ◌<◌, length}
use Rattle.krl_blocks.specs.Entries.{KeysRise}
use Rattle.krl_blocks.proofs.Edits.{put_is}
use Rattle.krl_blocks.proofs.Kept.{at_some, some_at, same_there}
use Rattle.krl_blocks.proofs.block.put_in.Goals as goal

pub count_keys-i-requires : goal.count_keys-i-requires
count_keys-i-requires g c = at_some KeysRise c.get.result.now _ c.get.ensures c.requires.rising

pub insert_at-requires-clause-place : goal.insert_at-requires-clause-place
insert_at-requires-clause-place g c = some_at (λ x. (c.count_keys-i.result ≤ length x) × (length x < 64)) c.get.result.now _ c.get.ensures (c.count_keys-i.ensures.within, at_some (λ x. length x < 64) c.get.result.now _ c.get.ensures c.requires.room)

pub returns-clause-one : goal.returns-clause-one
returns-clause-one g c =
    let one = c.insert_at.ensures.one in
    record {
      block = one.block;
      other = one.other;
      there = one.there;
      new = one.new;
      how = put_is one.block c.get.result.now one.other c.count_keys-i.result c.args.key c.args.value (same_there c.get.result.now one.block _ c.get.ensures one.there) c.count_keys-i.ensures.below c.count_keys-i.ensures.rest one.how;
    }
