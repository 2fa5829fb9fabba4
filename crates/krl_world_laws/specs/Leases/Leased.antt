-- A system whose clients have leases, by the rule of krl_leases.
use Rattle.std.specs.Prelude.{◌≡◌, ◌⊎◌, ℕ, Bool, true, false, ◌&&◌, List, [], ◌∷◌, Some, nat_eq, if◌then◌else◌}
use Rattle.krl_client.specs.Clients.{Client}
use Rattle.krl_world.specs.States.{State, client_of}
use Rattle.krl_leases.specs.Clocks.{Clocks, Limits, Agree}
use Rattle.krl_leases.specs.Machine.{State as Lease, Event as LeaseEvent, Pass, Evict, begun as no_lease, Goes as LeaseGoes}
use Rattle.krl_world_laws.specs.Systems.{System}

-- The clocks that concern an incarnation of a client, by client number and incarnation: that of the machine on which
-- the incarnation runs, and those of the machines of its servers
abbrev pub Machines : Type 0
Machines = ℕ → ℕ → Clocks

abbrev pub AllAgree : Limits → Machines → Type 0
AllAgree limits m = (c i : ℕ) → Agree limits (m c i)

-- Each incarnation of each client has a lease. Its account of the servers is its own, so more may happen to leases here
-- than if all speak of the same servers
pub record Leased (s : System) : Type 0 where
  pub world : s.World
  pub leases : ℕ → ℕ → Lease  -- by client number and incarnation

pub data Event : Type 0 where
  Acts : Event  -- a move of the system
  Passes : ℕ → Event  -- real time passes
  Leases : ℕ → ℕ → LeaseEvent → Event  -- something else happens to a lease
  Evicts : ℕ → ℕ → Event  -- the server's host evicts an incarnation

abbrev pub set_lease : (ℕ → ℕ → Lease) → ℕ → ℕ → Lease → ℕ → ℕ → Lease
set_lease leases c i l d j = if nat_eq d c && nat_eq j i then l else leases d j

-- what no incarnation does by itself
abbrev pub is_own : LeaseEvent → Bool
is_own (Pass n) = false
is_own Evict = false
is_own other = true

abbrev pub Changes : (s : System) → Limits → Machines → Leased s → ℕ → ℕ → LeaseEvent → Leased s → Type 0
Changes s limits m w c i e w' =
    (l : Lease) × LeaseGoes limits (m c i) (w.leases c i) e l × (w'.leases ≡ set_lease w.leases c i l)

-- the incarnation runs in this world
abbrev pub IsRunning : State → ℕ → ℕ → Type 0
IsRunning w c i = (k : Client) × (client_of w c ≡ Some k) × (k.incarnation ≡ i)

-- The system continues without the incarnation: it stays as it is, or makes one move, and the incarnation does not run
-- in it. Its process may run on, but is no part of the system any more
abbrev pub GoesWithout : (s : System) → s.World → ℕ → ℕ → s.World → Type 0
GoesWithout s w c i w' = ((w' ≡ w) ⊎ s.Moves w w') × (IsRunning (s.view w') c i → ⊥)

abbrev pub Goes : (s : System) → Limits → Machines → Leased s → Event → Leased s → Type 0
Goes s limits m w Acts w' = s.Moves w.world w'.world × (w'.leases ≡ w.leases)
Goes s limits m w (Passes n) w' =
    (w'.world ≡ w.world) × ((c i : ℕ) → LeaseGoes limits (m c i) (w.leases c i) (Pass n) (w'.leases c i))
Goes s limits m w (Leases c i e) w' = (is_own e ≡ true) × (w'.world ≡ w.world) × Changes s limits m w c i e w'
Goes s limits m w (Evicts c i) w' = GoesWithout s w.world c i w'.world × Changes s limits m w c i Evict w'

abbrev pub Runs : (s : System) → Limits → Machines → Leased s → List Event → Leased s → Type 0
Runs s limits m w [] w' = w' ≡ w
Runs s limits m w (e ∷ es) w' = (mid : Leased s) × Goes s limits m w e mid × Runs s limits m mid es w'

-- nobody has terms yet
abbrev pub unleased : (s : System) → s.World → Leased s
unleased s w = record { world = w; leases = λ c i. no_lease }

abbrev pub IsReached : (s : System) → Limits → Machines → Leased s → Type 0
IsReached s limits m w =
    (first : s.World) × s.IsReached first × (es : List Event) × Runs s limits m (unleased s first) es w
