use Rattle.krl_cache.proofs.Names.{ℕ, refl, ◌∙◌, nat_cmp, Excluded}
use Rattle.std.specs.Map.Calls.{CalledAtPair}
use Rattle.std.specs.declared.ops.Range.{Range}
use Rattle.std_collections.specs.Layout.BTreeMapQueries.{end_test}
use Rattle.krl_cache.proofs.Sifting.{walks_on, walks_out}
use Rattle.krl_cache.proofs.sift.run_out.Goals as goal

pub loop-init : goal.loop-init
loop-init g c = (refl, λ f lo hi old s. s)

pub loop-preserved : goal.loop-preserved
loop-preserved g c = (
  c.next.ensures.steps.0 ∙ c.loop.invariant.0,
  λ f lo hi old s.
      walks_on (CalledAtPair g.F.FnMut) (λ (r : Range ℕ). end_test nat_cmp (Excluded r.end)) f lo hi old _ c.loop.walk.map.now c.next.new.self.map.now c.loop.walk.cursor c.next.new.self.cursor c.next.result (λ x. tt) (c.loop.invariant.1 f lo hi old s) c.next.ensures.steps.2,
)

pub returns-clause-same : goal.returns-clause-same
returns-clause-same g c = c.next.ensures.steps.0 ∙ c.loop.invariant.0

pub returns-clause-out : goal.returns-clause-out
returns-clause-out g c = record {
  out = λ f lo hi old s.
      walks_out (CalledAtPair g.F.FnMut) (λ (r : Range ℕ). end_test nat_cmp (Excluded r.end)) f lo hi old _ c.loop.walk.map.now c.next.new.self.map.now c.loop.walk.cursor c.next.new.self.cursor c.next.result (λ x. tt) c.in_default.is (c.loop.invariant.1 f lo hi old s) c.next.ensures.steps.2;
}
