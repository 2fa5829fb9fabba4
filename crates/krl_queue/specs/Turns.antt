-- Who goes before whom, and a list that a client leaves.
use Rattle.std.specs.Prelude.{ℕ, Bool, false, ◌||◌, ◌==◌, List, [], ◌∷◌, if◌then◌else◌}
use Rattle.krl_queue.specs.declared.waiter.Waiter.{Waiter}

-- the list without the first waiter of the client c
abbrev pub without_first : ℕ → List Waiter → List Waiter
without_first c [] = []
without_first c (w ∷ ws) = if w.client == c then ws else w ∷ without_first c ws

-- the client d waits, and c does not wait before it
abbrev pub goes_before : ℕ → ℕ → List Waiter → Bool
goes_before c d [] = false
goes_before c d (w ∷ ws) = if w.client == c then false else (w.client == d || goes_before c d ws)
