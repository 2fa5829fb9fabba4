use Rattle.std.proofs.lemmas.Result.{err_from_is_err_and}
use Rattle.krl_wire.specs.Reading.{items_at, key_piece_at}
use Rattle.krl_wire.proofs.Loop.{goes_on, ends, is_done}
use Rattle.krl_wire.proofs.read_pieces.key_pieces.Goals as goal

pub loop-preserved : goal.loop-preserved
loop-preserved c =
    rw c.in_ok-push.ensures.items
    (goes_on key_piece_at c.loop.items.items c.args.count c.loop.counter c.loop.reader c.in_ok-item.item
    c.key_piece.new.reader (items_at key_piece_at c.args.count c.args.reader.now) c.loop-test.true
    c.in_ok-item.ensures c.loop.invariant)

pub returns-in_err-item : goal.returns-in_err-item
returns-in_err-item c =
    let p = err_from_is_err_and c.from_residual-in_err-item.result c.from_residual-in_err-item.ensures.1 in
    rw (p.1, p.2)
    (ends key_piece_at c.in_err-item.field-0.0 c.loop.items.items c.args.count c.loop.counter c.loop.reader
    (items_at key_piece_at c.args.count c.args.reader.now) c.loop-test.true c.in_err-item.ensures
    c.loop.invariant)

pub returns : goal.returns
returns c = rw c.into.ensures (is_done key_piece_at c.loop.items.items c.args.count c.loop.counter c.loop.reader
    (items_at key_piece_at c.args.count c.args.reader.now) c.loop-test.false c.loop.invariant)
