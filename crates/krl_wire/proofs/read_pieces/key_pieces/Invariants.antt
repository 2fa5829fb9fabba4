use Rattle.std.proofs.Common.{◌≡◌, ◌-◌}
use Rattle.krl_wire.specs.Reading.{items_at, key_piece_at}
use Rattle.krl_wire.proofs.Loop.{with_front}
use Rattle.krl_wire.proofs.read_pieces.key_pieces.Given as goal

abbrev pub invariant-loop : goal.invariant-loop
invariant-loop l = with_front l.items.items (items_at key_piece_at (l.count - l.counter) l.reader) ≡ items_at
    key_piece_at l.count l.fn.reader
