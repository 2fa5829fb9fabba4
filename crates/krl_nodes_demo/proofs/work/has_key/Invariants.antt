use Rattle.std.proofs.Common.{◌≡◌, ◌<◌, ℕ, Some}
use Rattle.std.specs.Prelude.{slice_get}
use Rattle.krl_messages.specs.Values.{Value}
use Rattle.krl_nodes_demo.proofs.work.has_key.Given as goal

-- none so far has the key
abbrev pub invariant-loop-row : goal.invariant-loop-row
invariant-loop-row l = (i : ℕ) → (row : ℕ × Value) → i < l.row-index → slice_get l.rows i ≡ Some row → row.0 ≡ l.key → ⊥
