-- What the fields of a world stand for.
use Rattle.std.specs.Prelude.{ℕ, Option, None, Some, List, slice_index_or}
use Rattle.krl_durable.specs.Registers.{Durable}
use Rattle.krl_server.specs.StateMeaning as server_state
use Rattle.krl_client.specs.Clients as clients
use Rattle.krl_client.specs.Fields as client_fields
use Rattle.krl_world.specs.declared.node.ServerPlace.{ServerPlace as KeptNode}
use Rattle.krl_world.specs.declared.node.ServerPlace.TheVariants as kept
use Rattle.krl_world.specs.declared.node.ClientPlace.{ClientPlace as KeptClientPlace}
use Rattle.krl_world.specs.declared.message.Message.{Message}
use Rattle.krl_steps.specs.declared.applied_write.AppliedWrite.{AppliedWrite}
use Rattle.krl_world.specs.States.{ServerPlace, Up, Down, ClientPlace, State}

-- what the fields hold, apart from its memory
pub record KeptWorld : Type 0 where
  pub opening : Durable
  pub server : KeptNode
  pub places : List KeptClientPlace
  pub sent : List Message
  pub writes : List AppliedWrite

-- the server that it stands for
abbrev pub node_of : KeptNode → ServerPlace
node_of (kept.Up s) = Up (server_state.meaning s)
node_of (kept.Down d) = Down d

-- the client, if there is one
abbrev pub client_there : Option client_fields.KeptClient → Option clients.Client
client_there None = None
client_there (Some k) = Some (client_fields.meaning k)

-- the place that it stands for
abbrev pub place_of : KeptClientPlace → ClientPlace
place_of x = record { last_incarnation = x.last_incarnation; client = client_there x.client }

-- a place at which no client was started
abbrev pub kept_nobody : KeptClientPlace
kept_nobody = record { last_incarnation = 0; client = None }

-- the places by client number, of which there are 64
abbrev pub places_of : List KeptClientPlace → ℕ → ClientPlace
places_of places c = place_of (slice_index_or places c kept_nobody)

-- the world that the fields stand for
abbrev pub meaning : KeptWorld → State
meaning w = record {
  opening = w.opening;
  server = node_of w.server;
  places = places_of w.places;
  sent = w.sent;
  writes = w.writes;
}
