-- What a client shows of itself.
use Rattle.std.specs.Prelude.{ℕ}
use Rattle.krl_modes.specs.declared.part.RangePart.{RangePart}
use Rattle.krl_modes.specs.declared.part.KeyPart.{KeyPart}
use Rattle.krl_client.specs.declared.status.Status.{Status}
use Rattle.krl_client.specs.declared.status.LockStatus.{LockStatus}
use Rattle.krl_client.specs.declared.status.LockStatus.TheVariants as lock
use Rattle.krl_client.specs.declared.status.WriteStatus.{WriteStatus}
use Rattle.krl_client.specs.declared.status.WriteStatus.TheVariants as written
use Rattle.krl_client.specs.Clients.{LockRequest, LastWrite, Client, NotAsked, Granted, Absent, Dropped, Waiting, Unwritten, Outstanding, Judged}

-- what it believes that it holds at a point
abbrev pub held : Client → ℕ → RangePart × KeyPart
held k p = (k.belief.range_at p, k.belief.key_at p)

abbrev pub lock_status : LockRequest → LockStatus
lock_status NotAsked = lock.NotAsked
lock_status (Waiting point hi mode) = lock.Waiting
lock_status Granted = lock.Granted
lock_status Absent = lock.Absent
lock_status Dropped = lock.Dropped

abbrev pub write_status : ℕ → LastWrite → WriteStatus
write_status n Unwritten = written.NotWritten
write_status n (Outstanding change) = written.Waiting n
write_status n (Judged outcome) = written.Judged n outcome

abbrev pub status_of : Client → Status
status_of k = record {
  epoch = k.epoch;
  seen = k.seen;
  lock = lock_status k.asked;
  write = write_status k.writes k.written;
}
