-- A write that seizes the lock that it needs, if that is free.
use Rattle.std.specs.Prelude.{ℕ, suc, Bool, true, ◌&&◌}
use Rattle.krl_modes.specs.declared.mode.Mode.{Mode}
use Rattle.krl_modes.specs.declared.mode.Mode.TheVariants as mode
use Rattle.krl_messages.specs.declared.write_op.WriteOp.{WriteOp}
use Rattle.krl_messages.specs.declared.write_op.WriteOp.TheVariants as write
use Rattle.krl_messages.specs.Writes.{op_key, can_seize, is_applied}
use Rattle.krl_queue.specs.declared.waiter.Waiter.{Waiter}
use Rattle.krl_durable.specs.Index.{slot_of}
use Rattle.krl_durable.specs.Writes.{judge}
use Rattle.krl_table.specs.Grants.{is_open_to}
use Rattle.krl_server.specs.Servers.{Server}

-- the least mode that lets the write be applied
abbrev pub least_mode : WriteOp → Mode
least_mode (write.Insert k v) = mode.RangeIN
least_mode (write.Put k v) = mode.X
least_mode (write.Delete k) = mode.RangeXX

-- the lock on the slot of the write's key, as a waiter would ask for it
abbrev pub lock_for : ℕ → WriteOp → Waiter
lock_for c op = record { client = c; req = 0; point = op_key op; hi = suc (op_key op); mode = least_mode op }

-- the client's write is applied once it has the lock, and the slot is open to it
abbrev pub may_seize : Server → ℕ → WriteOp → Bool
may_seize s c op =
    can_seize op && (is_applied (judge s.durable.room s.durable.index op true)
    && is_open_to s.rows (slot_of s.durable.index (op_key op)) (lock_for c op))
