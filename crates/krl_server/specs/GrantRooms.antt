-- Memory for grants, which is reserved before anything changes.
use Rattle.std.specs.Prelude.{◌≡◌, ℕ, suc, ◌-◌, ◌≤◌, min, List, length, Option, Some, None, slice_index_or}
use Rattle.std.specs.FinMap as map
use Rattle.krl_modes.specs.declared.limits.TheConstants.{MAX_CLIENTS}
use Rattle.krl_messages.specs.Members.{In}
use Rattle.krl_queue.specs.declared.waiter.Waiter.{Waiter}
use Rattle.krl_durable.specs.Registers.{Durable}
use Rattle.krl_server.specs.declared.case.Case.{Case as Found}
use Rattle.krl_server.specs.declared.case.Case.TheVariants as found
use Rattle.krl_server.specs.declared.state.State.{State}
use Rattle.krl_server.specs.Servers.{Server}
use Rattle.krl_server.specs.StateMeaning.{meaning}
use Rattle.krl_server.specs.CodeSteps.{IsServer}

-- how many slots a grant reaches at most, of a lock from this point on below hi: as far as the reach, one at each point
abbrev pub slots_asked : ℕ → ℕ → ℕ → ℕ
slots_asked reach point hi = min reach (suc (hi - suc point))

-- and no more than there are, which are the entries and END
abbrev pub most_slots : Durable → ℕ → ℕ → ℕ
most_slots d point hi = min (slots_asked d.reach point hi) (suc (length (map.entries d.index)))

-- for how many slots there is room
abbrev pub slots_in : Option ℕ → ℕ
slots_in None = 0
slots_in (Some n) = n

-- for how many slots there is room in the grant of this client
abbrev pub room_of : List (Option ℕ) → ℕ → ℕ
room_of rooms c = slots_in (slice_index_or rooms c None)

-- there is room for the grant of each waiter
pub record HasGrantRooms (s : Server) (rooms : List (Option ℕ)) : Type 0 where
  pub full : length rooms ≡ MAX_CLIENTS
  pub each : (n : ℕ) (u : Waiter) → In u (s.rows n).queue →
      slots_asked s.durable.reach u.point u.hi ≤ room_of rooms u.client

-- and for that of the client that comes to wait by this case
abbrev pub HasRoomFor : Server → ℕ → Found → List (Option ℕ) → Type 0
HasRoomFor s c (found.Waits req point hi g) rooms = slots_asked s.durable.reach point hi ≤ room_of rooms c
HasRoomFor s c other rooms = Unit {0}

-- nobody has come to wait, and a grant reaches as far as before
pub record NobodyCame (s t : Server) : Type 0 where
  pub reach : t.durable.reach ≡ s.durable.reach
  pub before : (n : ℕ) (u : Waiter) → In u (t.rows n).queue → (k : ℕ) × In u (s.rows k).queue

-- what holds of every server with the memory for its grants
pub record IsRoomed (st : State) (rooms : List (Option ℕ)) : Type 0 where
  pub server : IsServer st
  pub room : HasGrantRooms (meaning st) rooms
