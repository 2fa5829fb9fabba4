use Rattle.std.proofs.Common.{ℕ, ◌+◌, BTreeMap, sym, subst, ◌∙◌, rules, arith}
use Rattle.krl_cache.proofs.Names.{RangePart, at, KeepsParts, BeginsAnew}
use Rattle.krl_cache.proofs.Sifting.{walk_starts}
use Rattle.krl_cache.proofs.Sifted.{sifted_merges}
use Rattle.krl_cache.proofs.maps.merge.Goals as goal

pub returns : goal.returns
returns c =
    let e = c.extract_if-walk.ensures in
    let old = c.args.starts.now in
    let end = c.args.hi + 1 in
    let s =
    c.run_out.ensures.out.out _ c.args.lo end old.entries
    (walk_starts _ _ _ c.args.lo end old c.extract_if-walk.result.map.now c.extract_if-walk.result.cursor _ (omega (arith, c.requires)) c.len.ensures.ordered e.unchanged e.holds (e.rest tt)) in
    let m =
    sifted_merges _ (λ (f : record { 0 : RangePart }). f.0) (record {
      stays = λ f k v b w g t. search rules;
      next = λ f k v b w g t. search rules;
      same = λ f k v w g t. search rules;
      other = λ f k v w g t z. search rules;
    }) end _ c.args.lo old.entries _ s c.part_before-before.ensures in
    let is = sym (c.starts-1.given.1 (sym (c.run_out.ensures.same ∙ e.same_map))) in
    record {
      kept = subst (λ (n : BTreeMap ℕ RangePart). KeepsParts (at old.entries) (at n.entries)) is m.0;
      anew = λ q a b. subst (λ (n : BTreeMap ℕ RangePart). BeginsAnew (at n.entries) q) is (m.1 q a (omega (arith, b)));
    }
