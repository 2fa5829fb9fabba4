use Rattle.std.proofs.Common.{length, ap}
use Rattle.krl_messages.proofs.Paddings.{written}
use Rattle.krl_messages.proofs.value.Value.new.Goals as goal

pub invariant_of-result : goal.invariant_of-result
invariant_of-result c = written (length c.args.bytes.now) c.copy_from_slice.new.self (ap length c.copy_from_slice.ensures.after) c.if-len-gt-MAX_VALUE_BYTES.false
