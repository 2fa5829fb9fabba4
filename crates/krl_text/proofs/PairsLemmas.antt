-- Pairs that are read one after another.
use Rattle.std.proofs.Common.{ℕ, List, ◌++◌, Result, Ok}
use Rattle.krl_messages.specs.Values.{Value}
use Rattle.krl_text.specs.declared.fault.SyntaxFault.{SyntaxFault}
use Rattle.krl_text.specs.Words.{◌>>=◌}

-- these pairs, and then those that were read
abbrev pub with_front : List (ℕ × Value) → Result (List (ℕ × Value)) SyntaxFault → Result (List (ℕ × Value)) SyntaxFault
with_front front read = read >>= λ pairs. Ok (front ++ pairs)
