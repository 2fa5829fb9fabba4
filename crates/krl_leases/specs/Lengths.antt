-- Moments and lengths, in nanoseconds. A clock has no moment after FOR_EVER.
use Rattle.std.specs.Prelude.{ℕ, ◌+◌, ◌*◌, ◌/◌, min}
use Rattle.krl_leases.specs.declared.length.TheConstants.{FOR_EVER}

-- so far may the server's clock go while a client's goes by a length: further by the drift, in percent, rounded up
unfoldable pub stretched : ℕ → ℕ → ℕ
stretched drift length = (length * (100 + drift) + 99) / 100

-- the moment that is so much later
abbrev pub later : ℕ → ℕ → ℕ
later now length = min (now + length) FOR_EVER

-- by the server's clock: when no lease of this length runs any more that began at this moment or before
abbrev pub end_of : ℕ → ℕ → ℕ → ℕ
end_of drift now length = later now (stretched drift length)
