-- The number of clients, by a name that proofs do not compute with: 64 modes, written out, would hide all else.
use Rattle.std.specs.Prelude.{ℕ}
use Rattle.krl_modes.specs.declared.limits.TheConstants.{MAX_CLIENTS}

-- client numbers lie below this one
unfoldable pub max_clients : ℕ
max_clients = MAX_CLIENTS
