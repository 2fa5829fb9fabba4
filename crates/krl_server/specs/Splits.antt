-- A nudge, by the record of its client: as code and proofs take it apart.
use Rattle.std.specs.Prelude.{ℕ, Option, List, [], if◌then◌else◌}
use Rattle.krl_messages.specs.declared.to_client.ToClient.{ToClient}
use Rattle.krl_messages.specs.Members.{map_or}
use Rattle.krl_durable.specs.declared.record.Record.{Record}
use Rattle.krl_server.specs.Servers.{Server, is_recovering}
use Rattle.krl_server.specs.Steps.{nudge_missing, nudge_served}

-- what a nudge of the client of this record sends, if there is one
abbrev pub nudge_known : Server → ℕ → Option Record → List ToClient
nudge_known s c o =
    map_or o []
    (λ (r : Record). if r.left then [] else (if is_recovering s.missing then nudge_missing s c
    else nudge_served s c (s.sessions c).unacked))
