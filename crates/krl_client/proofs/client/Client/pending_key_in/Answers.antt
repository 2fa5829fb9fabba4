use Rattle.std.proofs.Common.{sym, ◌∙◌, arith}
use Rattle.krl_messages.specs.Writes.{op_key}
use Rattle.krl_client.specs.Commands.{is_pending}
use Rattle.krl_client.proofs.client.Client.pending_key_in.Goals as goal
use Rattle.krl_modes.proofs.SpanLaws.{in_span}

pub returns-then-key-hi : goal.returns-then-key-hi
returns-then-key-hi c =
    let change = c.in_ok-outstanding.field-0 in
    rw (c.key-key.ensures, ← c.self.view_is)
    (is_pending change (sym c.outstanding.ensures ∙ c.in_ok-outstanding.was)
    (in_span c.args.span (op_key change) (omega (arith, c.key-key.ensures, c.lo.ensures.end, c.if-lo-key.true)) (omega (arith, c.key-key.ensures, c.hi.ensures.end, c.if-key-hi.true))))
