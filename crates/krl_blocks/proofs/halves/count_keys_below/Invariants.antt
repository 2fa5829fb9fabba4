use Rattle.std.proofs.Common.{◌≡◌, ◌+◌, ◌^◌, ◌<◌, ◌≤◌, length, nat_lt, true, false}
use Rattle.std.specs.List.{AllWithin}
use Rattle.krl_blocks.proofs.Keys.{keys}
use Rattle.krl_blocks.proofs.halves.count_keys_below.Given as goal

abbrev pub invariant-loop-s : goal.invariant-loop-s
invariant-loop-s g l = (l.base + 2 ^ l.s ≤ length (keys l.entries)) × (l.s < 64) × AllWithin (λ t. nat_lt t l.point ≡ true) (keys l.entries) 0 l.base × AllWithin (λ t. nat_lt t l.point ≡ false) (keys l.entries) (l.base + 2 ^ l.s) (length (keys l.entries))

abbrev pub decreases-loop-s : goal.decreases-loop-s
decreases-loop-s g l = l.s
