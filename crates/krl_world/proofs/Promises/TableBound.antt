-- While it serves, the bound of a run is the server's table.
use Rattle.krl_world.proofs.Names.{◌≡◌, Bool, true, false, refl, subst, if◌then◌else◌, Durable, is_recovering, ServerPlace, Up, Down, State, opened, Bound, table_of}
use Rattle.krl_world.proofs.Names.{first_bound, step_clears, bound_cleared, bound_at, HasBound, BoundIsTable}
use Rattle.krl_world.specs.Bounds.{at_first, after_step, as_before}

abbrev IsItsTable : ServerPlace → Bound → Type 0
IsItsTable (Up s) b = is_recovering s.missing ≡ false → b ≡ table_of s
IsItsTable (Down d) b = Unit {0}

after_is : (n : ServerPlace) (kept : Bound) → IsItsTable n (bound_at n kept)
after_is (Down d) kept = tt
after_is (Up s) kept = by_test (is_recovering s.missing)
  where
    by_test : (t : Bool) → t ≡ false → (if t then kept else table_of s) ≡ table_of s
    by_test true e = absurd (cc)
    by_test false e = refl

first_is : (d : Durable) → IsItsTable (opened d).server (first_bound d)
unfolding opened
first_is d e = refl

bound_is : (w : State) (b : Bound) → HasBound w b → IsItsTable w.server b
bound_is w b (at_first d h) = first_is d
bound_is w b (after_step u v c s answer h t) = after_is v.server (bound_cleared (step_clears u s) c)
bound_is w b (as_before u c d l h e fits) = tt

pub bound_is_table : BoundIsTable
bound_is_table w b s h up = subst (λ n. IsItsTable n b) up (bound_is w b h)
