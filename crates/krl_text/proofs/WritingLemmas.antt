-- How many interruptions of a writer are still to come.
use Rattle.std.proofs.Common.{◌≡◌, ℕ, ◌+◌, ◌≤◌, None, Some, Ok, Err}
use Rattle.std.specs.Prelude.{Option}
use Rattle.std.specs.IoError.{error_kind}
use Rattle.std_io.specs.declared.io.error.Error.{Error}
use Rattle.std_io.specs.declared.io.kind.ErrorKind.TheVariants.{Interrupted}
use Rattle.krl_text.specs.Transfers.{WritesOn, IsSteady}

-- of the interruptions that were to come at first, k came
abbrev pub Left : Option ℕ → Option ℕ → ℕ → Type 0
Left None now k = Unit {0}
Left (Some n) None k = ⊥
Left (Some n) (Some m) k = k + m ≤ n

-- a write that takes something leaves as many to come
pub left_took : (first now after : Option ℕ) (k given count : ℕ) → Left first now k → WritesOn now after given (Ok count) → Left first after k
left_took None now after k given count l w = tt
left_took (Some n) None after k given count l w = absurd l
left_took (Some n) (Some m) after k given count l w = rw w.1 l

-- a write to a steady writer fails only by an interruption
pub only_interrupted : (first now after : Option ℕ) (k given : ℕ) (e : Error) → Left first now k → IsSteady first → WritesOn now after given (Err e) → error_kind e ≡ Interrupted
only_interrupted None now after k given e l s w = absurd s
only_interrupted (Some n) None after k given e l s w = absurd l
only_interrupted (Some n) (Some m) after k given e l s w = w.0
