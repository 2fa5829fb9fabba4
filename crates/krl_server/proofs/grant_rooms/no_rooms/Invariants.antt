use Rattle.krl_server.proofs.Names.{◌≡◌, length}
use Rattle.std.specs.Vec.{vec_len, vec_capacity}
use Rattle.krl_modes.specs.declared.limits.TheConstants.{MAX_CLIENTS}
use Rattle.krl_server.proofs.grant_rooms.no_rooms.Given as goal

abbrev pub invariant-loop-client : goal.invariant-loop-client
invariant-loop-client l =
    (length l.each.items ≡ l._client) × (vec_len l.each ≡ l._client) × (vec_capacity l.each ≡ MAX_CLIENTS)
