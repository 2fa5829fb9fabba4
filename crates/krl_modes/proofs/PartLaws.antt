-- The laws of the parts.
use Rattle.std.proofs.Common.{◌≡◌, true, refl, arith}
use Rattle.std.specs.Prelude.{IsTrue}
use Rattle.krl_modes.specs.declared.part.RangePart.{RangePart}
use Rattle.krl_modes.specs.declared.part.RangePart.TheVariants as range
use Rattle.krl_modes.specs.declared.part.KeyPart.{KeyPart}
use Rattle.krl_modes.specs.Orders.{IsPartialOrder, IsLeastUpperBound, IsGreatestLowerBound, IsCompatibility}
use Rattle.krl_modes.specs.Parts.{range_at_most, key_at_most, ranges_compatible, keys_compatible, range_join, range_meet, key_join, key_meet, is_range_X}

range_at_most-reflexive : (a : RangePart) → IsTrue (range_at_most a a)
range_at_most-reflexive a = grind arith

range_at_most-antisymmetric : (a b : RangePart) → IsTrue (range_at_most a b) → IsTrue (range_at_most b a) → a ≡ b
range_at_most-antisymmetric a b h k = grind arith

range_at_most-transitive : (a b c : RangePart) → IsTrue (range_at_most a b) → IsTrue (range_at_most b c) → IsTrue (range_at_most a c)
range_at_most-transitive a b c h k = grind arith

pub range_order : IsPartialOrder range_at_most
range_order =
    record { reflexive = range_at_most-reflexive; antisymmetric = range_at_most-antisymmetric; transitive = range_at_most-transitive }

key_at_most-reflexive : (a : KeyPart) → IsTrue (key_at_most a a)
key_at_most-reflexive a = grind arith

key_at_most-antisymmetric : (a b : KeyPart) → IsTrue (key_at_most a b) → IsTrue (key_at_most b a) → a ≡ b
key_at_most-antisymmetric a b h k = grind arith

key_at_most-transitive : (a b c : KeyPart) → IsTrue (key_at_most a b) → IsTrue (key_at_most b c) → IsTrue (key_at_most a c)
key_at_most-transitive a b c h k = grind arith

pub key_order : IsPartialOrder key_at_most
key_order =
    record { reflexive = key_at_most-reflexive; antisymmetric = key_at_most-antisymmetric; transitive = key_at_most-transitive }

ranges_compatible-symmetric : (a b : RangePart) → ranges_compatible a b ≡ ranges_compatible b a
ranges_compatible-symmetric a b = grind arith

ranges_compatible-downward : (a b c : RangePart) → IsTrue (range_at_most a b) → IsTrue (ranges_compatible b c) → IsTrue (ranges_compatible a c)
ranges_compatible-downward a b c h k = grind arith

pub range_compatibility : IsCompatibility range_at_most ranges_compatible
range_compatibility = record { symmetric = ranges_compatible-symmetric; downward = ranges_compatible-downward }

keys_compatible-symmetric : (a b : KeyPart) → keys_compatible a b ≡ keys_compatible b a
keys_compatible-symmetric a b = grind arith

keys_compatible-downward : (a b c : KeyPart) → IsTrue (key_at_most a b) → IsTrue (keys_compatible b c) → IsTrue (keys_compatible a c)
keys_compatible-downward a b c h k = grind arith

pub key_compatibility : IsCompatibility key_at_most keys_compatible
key_compatibility = record { symmetric = keys_compatible-symmetric; downward = keys_compatible-downward }

range_join-least : (a b c : RangePart) → IsTrue (range_at_most a c) → IsTrue (range_at_most b c) → IsTrue (range_at_most (range_join a b) c)
range_join-least a b c h k = grind arith

pub range_join_bound : (a b : RangePart) → IsLeastUpperBound range_at_most a b (range_join a b)
range_join_bound a b =
    let first : IsTrue (range_at_most a (range_join a b)) = grind arith in
    let second : IsTrue (range_at_most b (range_join a b)) = grind arith in
    record { above_first = first; above_second = second; least = range_join-least a b }

range_meet-greatest : (a b c : RangePart) → IsTrue (range_at_most c a) → IsTrue (range_at_most c b) → IsTrue (range_at_most c (range_meet a b))
range_meet-greatest a b c h k = grind arith

pub range_meet_bound : (a b : RangePart) → IsGreatestLowerBound range_at_most a b (range_meet a b)
range_meet_bound a b =
    let first : IsTrue (range_at_most (range_meet a b) a) = grind arith in
    let second : IsTrue (range_at_most (range_meet a b) b) = grind arith in
    record { below_first = first; below_second = second; greatest = range_meet-greatest a b }

key_join-least : (a b c : KeyPart) → IsTrue (key_at_most a c) → IsTrue (key_at_most b c) → IsTrue (key_at_most (key_join a b) c)
key_join-least a b c h k = grind arith

pub key_join_bound : (a b : KeyPart) → IsLeastUpperBound key_at_most a b (key_join a b)
key_join_bound a b =
    let first : IsTrue (key_at_most a (key_join a b)) = grind arith in
    let second : IsTrue (key_at_most b (key_join a b)) = grind arith in
    record { above_first = first; above_second = second; least = key_join-least a b }

key_meet-greatest : (a b c : KeyPart) → IsTrue (key_at_most c a) → IsTrue (key_at_most c b) → IsTrue (key_at_most c (key_meet a b))
key_meet-greatest a b c h k = grind arith

pub key_meet_bound : (a b : KeyPart) → IsGreatestLowerBound key_at_most a b (key_meet a b)
key_meet_bound a b =
    let first : IsTrue (key_at_most (key_meet a b) a) = grind arith in
    let second : IsTrue (key_at_most (key_meet a b) b) = grind arith in
    record { below_first = first; below_second = second; greatest = key_meet-greatest a b }

pub range_is_X : (a : RangePart) → is_range_X a ≡ true → a ≡ range.X
range_is_X range.N e = absurd (cc)
range_is_X range.S e = absurd (cc)
range_is_X range.I e = absurd (cc)
range_is_X range.X e = refl
