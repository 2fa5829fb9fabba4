use Rattle.krl_cache.proofs.Names.{ℕ, ◌≡◌, List, nat_cmp, Excluded, StandsAt}
use Rattle.std.specs.Map.Calls.{CalledAtPair}
use Rattle.std.specs.declared.ops.Range.{Range}
use Rattle.std_collections.specs.Layout.BTreeMapQueries.{end_test}
use Rattle.krl_cache.proofs.sift.run_out.Given as goal

abbrev pub invariant-loop : goal.invariant-loop
invariant-loop g l =
    (l.walk.map.ghost_name ≡ l.fn.walk.map.ghost_name)
    × ((f : g.row.F.Denot) (lo hi : ℕ) (old : List (ℕ × g.row.V.Denot))
    → StandsAt (CalledAtPair g.F.FnMut) (λ (r : Range ℕ). end_test nat_cmp (Excluded r.end)) f lo hi old l.fn.walk.map.now l.fn.walk.cursor
    → StandsAt (CalledAtPair g.F.FnMut) (λ (r : Range ℕ). end_test nat_cmp (Excluded r.end)) f lo hi old l.walk.map.now l.walk.cursor)
