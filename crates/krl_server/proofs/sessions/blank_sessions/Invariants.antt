use Rattle.krl_server.proofs.Names.{◌≡◌, ℕ, length, blank_session, sessions_of}
use Rattle.std.specs.Vec.{vec_len, vec_capacity}
use Rattle.krl_modes.specs.declared.limits.TheConstants.{MAX_CLIENTS}
use Rattle.krl_server.proofs.sessions.blank_sessions.Given as goal

abbrev pub invariant-loop-client : goal.invariant-loop-client
invariant-loop-client l =
    (length l.each.items ≡ l._client) × ((c : ℕ) → sessions_of l.each.items c ≡ blank_session)
    × (vec_len l.each ≡ l._client) × (vec_capacity l.each ≡ MAX_CLIENTS)
