-- Parts of the fields of a world.
use Rattle.std.specs.Prelude.{◌≡◌, ◌<◌, ℕ, Option, None, Some, is_some, true, List, [], length, slice_index_or}
use Rattle.std.specs.FinMap as map
use Rattle.krl_modes.specs.declared.limits.TheConstants.{MAX_CLIENTS}
use Rattle.krl_modes.specs.declared.limits.TheConstants.{STANDARD_REACH, STANDARD_ROOM}
use Rattle.krl_durable.specs.Registers.{Durable, record_of}
use Rattle.krl_client.specs.Fields as client_fields
use Rattle.krl_server.specs.Servers.{incarnation_or_0}
use Rattle.krl_server.specs.declared.state.State.{State as Kept}
use Rattle.krl_world.specs.declared.node.ServerPlace.{ServerPlace as KeptNode}
use Rattle.krl_world.specs.declared.node.ServerPlace.TheVariants as kept
use Rattle.krl_world.specs.declared.node.ClientPlace.{ClientPlace as KeptClientPlace}
use Rattle.krl_world.specs.States.{Up, Down}
use Rattle.krl_world.specs.Fields.{kept_nobody}

-- the server that is there: none runs within a step that moves it
abbrev pub server_there : Option KeptNode → KeptNode
server_there (Some n) = n
server_there None =
    kept.Down (record {
      room = STANDARD_ROOM;
      reach = STANDARD_REACH;
      index = map.from_entries [];
      epoch = 0;
      register = [];
    })

-- the server that runs
abbrev pub server_up : KeptNode → Option Kept
server_up (kept.Up s) = Some s
server_up (kept.Down d) = None

-- a server is there, and a place for each client
pub record AreThere (server : Option KeptNode) (places : List KeptClientPlace) : Type 0 where
  pub server_is : is_some server ≡ true
  pub full : length places ≡ MAX_CLIENTS

-- a place whose client was not started since this survived
abbrev pub kept_unstarted : Durable → ℕ → KeptClientPlace
kept_unstarted d c = record { last_incarnation = incarnation_or_0 (record_of d.register c); client = None }

-- so many places by client number, of which none was started since
pub record AreUnstarted (d : Durable) (n : ℕ) (places : List KeptClientPlace) : Type 0 where
  pub count : length places ≡ n
  pub each : (c : ℕ) → c < n → slice_index_or places c kept_nobody ≡ kept_unstarted d c

-- the client of this number, if one runs
abbrev pub kept_client : List KeptClientPlace → ℕ → Option client_fields.KeptClient
kept_client places c = (slice_index_or places c kept_nobody).client
