-- How the nodes of a run come by their letters.
use Rattle.std.specs.Prelude.{◌≡◌, ◌+◌, ◌%◌, ◌^◌, ℕ, Bool, true, false, not, ◌&&◌, if◌then◌else◌, Option, Some, None, is_some, MatchBool, Result, Ok, Err}
use Rattle.rand_pcg.specs.Lcg.{Lcg}
use Rattle.krl_draws.specs.Generator.{generator_of}
use Rattle.krl_steps.specs.declared.refused.Refused.{Refused}
use Rattle.krl_nodes.specs.Picks.{drawn_picks}
use Rattle.krl_nodes.specs.Nodes.{SeatedServer, SeatedClient, ServerTurns, ClientTurns, ServerTurnsBy, ClientTurnsBy}
use Rattle.krl_nodes_demo.specs.declared.delivery.Delivery.{Delivery}
use Rattle.krl_nodes.specs.declared.orders.ServerOrder.TheVariants as server_order
use Rattle.krl_nodes.specs.declared.orders.ClientOrder.{ClientOrder}
use Rattle.krl_nodes.specs.declared.orders.ClientOrder.TheVariants as client_order
use Rattle.krl_nodes_demo.specs.declared.run.PolicySeeds.{PolicySeeds}
use Rattle.krl_nodes.specs.declared.orders.Turn.{Turn}
use Rattle.krl_nodes.specs.declared.orders.Turn.TheVariants.{Did, Idle, Lost}

-- how the node of this number picks: as drawn from the seed and the number
abbrev pub policy_of : Option ℕ → ℕ → Option Lcg
policy_of None number = None
policy_of (Some seed) number = Some (generator_of ((seed + number) % 2 ^ 64))

-- the seed from which it picks
abbrev pub seed_of : Option ℕ → ℕ → Option ℕ
seed_of None number = None
seed_of (Some seed) number = Some ((seed + number) % 2 ^ 64)

-- how the node of this number begins to come by its letters
abbrev pub delivery_of : Option ℕ → ℕ → Delivery
delivery_of seed number = record { policy = policy_of seed number; seed = seed_of seed number; may_lack = false }

-- the seeds of the nodes of a run: the server has the number 0
abbrev pub seeds_of : Option ℕ → PolicySeeds
seeds_of seed = record { server = seed_of seed 0; writer = seed_of seed 1; reader = seed_of seed 2 }

-- the turn found no letter
abbrev pub is_idle : Result Turn Refused → Bool
is_idle (Ok (Did a)) = false
is_idle (Ok Idle) = true
is_idle (Ok Lost) = false
is_idle (Err e) = false

-- a turn for a letter: the oldest, if there is no policy, otherwise the one that it picks
abbrev pub ClientFetches : Option Lcg → SeatedClient → Result Turn Refused → SeatedClient → Option Lcg → Type 0
ClientFetches None n r n' p' = (p' ≡ None) × ClientTurns client_order.Letter n r n'
ClientFetches (Some q) n r n' p' =
    (q' : Lcg) × (p' ≡ Some q') × ClientTurnsBy drawn_picks client_order.Letter n q r n' q'

abbrev pub ServerFetches : Option Lcg → SeatedServer → Result Turn Refused → SeatedServer → Option Lcg → Type 0
ServerFetches None n r n' p' = (p' ≡ None) × ServerTurns server_order.Letter n r n'
ServerFetches (Some q) n r n' p' =
    (q' : Lcg) × (p' ≡ Some q') × ServerTurnsBy drawn_picks server_order.Letter n q r n' q'

-- the client's turn for a letter, and whether it found none: then one may be lost, if a policy picks
pub record ClientReadsBy (d : Delivery) (n : SeatedClient) (found_none : Bool) (d' : Delivery) (n' : SeatedClient)
    : Type 0 where
  pub answer : Result Turn Refused
  pub fetches : ClientFetches d.policy n answer n' d'.policy
  pub none : found_none ≡ is_idle answer
  pub seed : d'.seed ≡ d.seed
  pub may_lack : d'.may_lack ≡ (is_idle answer && is_some d.policy)

-- so does the server
pub record ServerReadsBy (d : Delivery) (n : SeatedServer) (d' : Delivery) (n' : SeatedServer) : Type 0 where
  pub answer : Result Turn Refused
  pub fetches : ServerFetches d.policy n answer n' d'.policy
  pub seed : d'.seed ≡ d.seed
  pub may_lack : d'.may_lack ≡ (is_idle answer && is_some d.policy)

-- which client the server nudges
abbrev pub nudged : Bool → ℕ
nudged is_second = if is_second then 2 else 1

abbrev pub ServerNudges : Bool → SeatedServer → SeatedServer → Type 0
ServerNudges is_second n n' = (r : Result Turn Refused) × ServerTurns (server_order.Nudge (nudged is_second)) n r n'

-- that a letter may be lost is asked once
abbrev pub asked : Delivery → Delivery
asked d = record { policy = d.policy; seed = d.seed; may_lack = false }

-- the server nudges this client, and next time the other one
pub record NudgesByTurns (is_second : Bool) (d : Delivery) (n : SeatedServer) (is_second' : Bool) (d' : Delivery)
    (n' : SeatedServer) : Type 0 where
  pub nudges : ServerNudges is_second n n'
  pub other : is_second' ≡ not is_second
  pub asked : d' ≡ asked d

-- the server nudges a client if a letter may be lost; otherwise it reads one
abbrev pub ServesOnce : Bool → Delivery → SeatedServer → Bool → Delivery → SeatedServer → Type 0
ServesOnce is_second d n is_second' d' n' = MatchBool d.may_lack
    (NudgesByTurns is_second d n is_second' d' n')
    ((is_second' ≡ is_second) × ServerReadsBy d n d' n')

-- the server serves, any number of times: it comes by its letters as its delivery has it, and by none otherwise
pub data Serves (d : Delivery) (n : SeatedServer) : Bool → Delivery → SeatedServer → Type 0 where
  begins : Serves d n false d n
  goes_on : (is_second next : Bool) (d1 d2 : Delivery) (n1 n2 : SeatedServer) → Serves d n is_second d1 n1 →
      ServesOnce is_second d1 n1 next d2 n2 → Serves d n next d2 n2

-- the order is for a letter
abbrev pub is_for_letter : ClientOrder → Bool
is_for_letter client_order.Letter = true
is_for_letter other = false

-- what a client does, turn by turn: it reads a letter only as its delivery has it
pub data Goes (d : Delivery) (n : SeatedClient) : Delivery → SeatedClient → Type 0 where
  begins : Goes d n d n
  asks : (d1 : Delivery) (n1 : SeatedClient) → Goes d n d1 n1 → Goes d n (asked d1) n1
  reads : (d1 d2 : Delivery) (n1 n2 : SeatedClient) (found_none : Bool) → Goes d n d1 n1 →
      ClientReadsBy d1 n1 found_none d2 n2 → Goes d n d2 n2
  obeys : (d1 : Delivery) (n1 n2 : SeatedClient) (order : ClientOrder) (answer : Result Turn Refused) →
      Goes d n d1 n1 → is_for_letter order ≡ false → ClientTurns order n1 answer n2 → Goes d n d1 n2

-- the client sends again what is not answered
abbrev pub ClientTicks : SeatedClient → SeatedClient → Type 0
ClientTicks n n' = (r : Result Turn Refused) × ClientTurns client_order.Tick n r n'
