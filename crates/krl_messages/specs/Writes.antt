-- The key of a write, whether it can seize a lock, and what its outcome states.
use Rattle.std.specs.Prelude.{ℕ, Bool, true, false}
use Rattle.krl_messages.specs.declared.write_op.WriteOp.{WriteOp}
use Rattle.krl_messages.specs.declared.write_op.WriteOp.TheVariants as write
use Rattle.krl_messages.specs.declared.outcome.Outcome.{Outcome}
use Rattle.krl_messages.specs.declared.outcome.Outcome.TheVariants as outcome

-- the key that the write names
abbrev pub op_key : WriteOp → ℕ
op_key (write.Insert k v) = k
op_key (write.Put k v) = k
op_key (write.Delete k) = k

-- the write can seize the lock that it needs: an insert and a put need one slot, a delete needs two
abbrev pub can_seize : WriteOp → Bool
can_seize (write.Insert k v) = true
can_seize (write.Put k v) = true
can_seize (write.Delete k) = false

-- the write was done
abbrev pub is_applied : Outcome → Bool
is_applied outcome.Applied = true
is_applied other = false
