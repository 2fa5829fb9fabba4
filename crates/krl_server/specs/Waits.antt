-- Who waits for whom, and who holds what: what an operator sees of a server.
use Rattle.std.specs.Prelude.{◌≡◌, ℕ, zero, suc, Bool, false, not, ◌||◌, ◌&&◌, List, [], ◌∷◌, Option, None, Some, if◌then◌else◌}
use Rattle.krl_modes.specs.Constants.{max_clients}
use Rattle.krl_modes.specs.declared.mode.Mode.TheVariants as mode
use Rattle.krl_queue.specs.declared.waiter.Waiter.{Waiter}
use Rattle.krl_queue.specs.Turns.{goes_before}
use Rattle.krl_durable.specs.Index.{slot_of}
use Rattle.krl_table.specs.Waiters as waiters
use Rattle.krl_table.specs.Grants.{is_open_to}
use Rattle.krl_table.specs.Holds.{AreHeld, IsNextHeld}
use Rattle.krl_messages.specs.declared.holding.Holding.{Holding}
use Rattle.krl_server.specs.Effects.{holding}
use Rattle.krl_server.specs.Servers.{Server, is_recovering}
use Rattle.krl_server.specs.Callbacks.{is_compatible}

-- how the client waits
abbrev pub waiter_of : Server → ℕ → Option Waiter
waiter_of s c = waiters.waiter_of s.durable.index s.rows c

-- the client d is in the way of the waiter u of slot n: it waits there before it, or what it holds there is not
-- compatible with what u wants
abbrev pub is_in_the_way : Server → ℕ → Waiter → ℕ → Bool
is_in_the_way s n u d = goes_before u.client d (s.rows n).queue || not (is_compatible s n u d)

abbrev pub waits_for_by : Server → Option Waiter → ℕ → Bool
waits_for_by s None d = false
waits_for_by s (Some u) d = is_in_the_way s (slot_of s.durable.index u.point) u d

-- the client c waits for the client d
abbrev pub waits_for : Server → ℕ → ℕ → Bool
waits_for s c d = waits_for_by s (waiter_of s c) d

-- those of k clients, from d on, that c waits for
abbrev pub waited_from : Server → ℕ → ℕ → ℕ → List ℕ
waited_from s c d zero = []
waited_from s c d (suc k) = if waits_for s c d then d ∷ waited_from s c (suc d) k else waited_from s c (suc d) k

-- the clients that c waits for, in ascending order
abbrev pub waited_for : Server → ℕ → List ℕ
waited_for s c = waited_from s c 0 max_clients

-- the client holds this on the first slot from this point on where its mode is not N
abbrev pub IsNextHolding : Server → ℕ → ℕ → Holding → Type 0
IsNextHolding s c from h = (n : ℕ) × IsNextHeld s.rows c from n × (h ≡ holding s n c)

-- it holds no other mode than N from this point on
abbrev pub HoldsNoMore : Server → ℕ → ℕ → Type 0
HoldsNoMore s c from = AreHeld s.rows c from []

-- as a client would ask for slot n to read it
abbrev pub reader_of : ℕ → ℕ → Waiter
reader_of c n = record { client = c; req = 0; point = n; hi = suc n; mode = mode.RangeSS }

-- the client would get slot n at once to read it: the server serves, nobody waits there, and what all others hold there
-- lets it be read
abbrev pub may_read : Server → ℕ → ℕ → Bool
may_read s c n = not (is_recovering s.missing) && is_open_to s.rows n (reader_of c n)
