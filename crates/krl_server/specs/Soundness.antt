-- What holds of every server.
use Rattle.std.specs.Prelude.{◌≡◌, ℕ, ◌<◌, ◌≤◌, None}
use Rattle.std.specs.FinMap as map
use Rattle.krl_modes.specs.declared.point.TheConstants.{END}
use Rattle.krl_modes.specs.declared.mode.Mode.TheVariants as mode
use Rattle.krl_modes.specs.Constants.{max_clients}
use Rattle.krl_messages.specs.Members.{In}
use Rattle.krl_queue.specs.declared.waiter.Waiter.{Waiter}
use Rattle.krl_durable.specs.Index.{slot_of}
use Rattle.krl_table.specs.Rows.{mode_at}
use Rattle.krl_server.specs.Servers.{Server}

-- keys lie below END, nobody past the last client holds anything, each waiter is a client's and stands at the slot of
-- its point
pub record IsSound (s : Server) : Type 0 where
  pub near : (q : ℕ) → END ≤ q → map.get s.durable.index q ≡ None
  pub begun : 1 ≤ s.durable.epoch
  pub strangers : (n c : ℕ) → max_clients ≤ c → mode_at s.rows n c ≡ mode.N
  pub placed : (n : ℕ) (u : Waiter) → In u (s.rows n).queue → (u.point ≤ END) × (slot_of s.durable.index u.point ≡ n)
  pub clients : (n : ℕ) (u : Waiter) → In u (s.rows n).queue → u.client < max_clients
