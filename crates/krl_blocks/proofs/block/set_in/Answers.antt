use Rattle.std.proofs.Common.{sym, ap, ◌∙◌, refl, is_some, length, ◌<◌}
use Rattle.krl_blocks.specs.Entries.{KeysRise}
use Rattle.krl_blocks.proofs.Edits.{changed_is, no_key_here, no_key_behind, was_within}
use Rattle.krl_blocks.proofs.Kept.{at_some, some_at, same_there, set_same}
use Rattle.krl_blocks.proofs.block.set_in.Goals as goal
use Rattle.krl_blocks.proofs.block.set_in.Goals.{in_default-via-in-Some+else-entry-key, in_default-via-in_default}

pub count_keys-i-requires : goal.count_keys-i-requires
count_keys-i-requires g c = at_some KeysRise c.get-block.result.now _ c.get-block.ensures c.requires.rising

pub set-requires-clause-place : goal.set-requires-clause-place
set-requires-clause-place g c = some_at (λ x. c.count_keys-i.result < length x) c.get-block.result.now _ c.get-block.ensures (was_within c.count_keys-i.result c.get-block.result.now c.in-Some.ensures.lookup.0)

pub returns-in-Some-clause-one : goal.returns-in-Some-clause-one
returns-in-Some-clause-one g c =
    let one = c.set.ensures.one in
    let same = same_there c.get-block.result.now one.block _ c.get-block.ensures one.there in
    record {
      block = one.block;
      other = one.other;
      there = one.there;
      new = one.new;
      how = changed_is one.block c.get-block.result.now c.count_keys-i.result c.args.key same c.count_keys-i.ensures.below c.count_keys-i.ensures.rest c.in-Some.entry.now c.get-block.result.now same c.in-Some.ensures.lookup.0 c.in-Some.ensures.lookup.1 one.other c.args.value _ c.if-entry-key.true refl one.how;
    }

pub returns-in_default-clause-one : goal.returns-in_default-clause-one
returns-in_default-clause-one g c =
    let x = c.get-block.result.now in
    record {
      block = x;
      other = x;
      there = c.get-block.ensures;
      new = set_same c.args.shelf.now.blocks c.args.b x c.get-block.ensures;
      how = elim c.in_default.branch [
        | in_default-via-in-Some+else-entry-key w ↦ (no_key_here x x c.count_keys-i.result c.args.key refl c.count_keys-i.ensures.below c.count_keys-i.ensures.rest w.in-Some.entry.now x refl w.in-Some.ensures.lookup.0 w.in-Some.ensures.lookup.1 (at_some KeysRise x _ c.get-block.ensures c.requires.rising) w.if-entry-key.false, refl)
        | in_default-via-in_default w ↦ (no_key_behind x x c.count_keys-i.result c.args.key refl c.count_keys-i.ensures.below c.count_keys-i.ensures.rest x refl (sym (ap is_some w.in_default.is) ∙ c.get.ensures.lookup.0), refl)
      ];
    }
