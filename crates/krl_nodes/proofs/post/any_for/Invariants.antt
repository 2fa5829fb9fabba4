use Rattle.krl_nodes.proofs.Names.{◌≡◌, ◌<◌, ℕ, Some, false, slice_get, Message, is_for}
use Rattle.krl_nodes.proofs.post.any_for.Given as goal

-- none of those before is to the reader
abbrev pub invariant-loop-message : goal.invariant-loop-message
invariant-loop-message l = (i : ℕ) (m : Message) → i < l.message-index → slice_get l.messages i ≡ Some m → is_for l.reader m ≡ false
