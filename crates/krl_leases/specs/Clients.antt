-- The client's rule, by the client's clock.
use Rattle.std.specs.Prelude.{ℕ, Bool, ◌&&◌, nat_lt, if◌then◌else◌}
use Rattle.krl_leases.specs.declared.length.TheConstants.{FOR_EVER}
use Rattle.krl_leases.specs.declared.lease.Lease.{Lease}
use Rattle.krl_leases.specs.Lengths.{later}

-- no terms yet. A client without terms sends no Hello, so it holds nothing
abbrev pub no_terms : Lease
no_terms = record { end = FOR_EVER; length = 0; stamp = 0 }

-- the lease has not ended
abbrev pub holds : Lease → ℕ → Bool
holds lease now = nat_lt now lease.end

-- they answer a later sign than those before, and the lease has not ended
abbrev pub takes : Lease → ℕ → ℕ → Bool
takes lease stamp now = nat_lt lease.stamp stamp && holds lease now

-- the lease runs from the moment of the sign that the terms answer
abbrev pub with_terms : Lease → ℕ → ℕ → ℕ → Lease
with_terms lease stamp length now =
    if takes lease stamp now
    then record { end = later stamp length; length = length; stamp = stamp }
    else lease
