use Rattle.std.proofs.Common.{ℕ, BTreeMap, sym, subst, ◌∙◌, rules}
use Rattle.krl_cache.proofs.Names.{Entry, entry_lowered, at, IsChanged}
use Rattle.krl_cache.proofs.Sifting.{walk_starts}
use Rattle.krl_cache.proofs.Sifted.{sifted_changes}
use Rattle.krl_cache.proofs.maps.lower_entries.Goals as goal

pub returns : goal.returns
returns c =
    let e = c.extract_if-walk.ensures in
    let old = c.args.entries.now in
    let s =
    c.run_out.ensures.out.out _ c.args.lo c.args.hi old.entries
    (walk_starts _ _ _ c.args.lo c.args.hi old c.extract_if-walk.result.map.now c.extract_if-walk.result.cursor _ c.requires c.len.ensures.ordered e.unchanged e.holds (e.rest tt)) in
    subst (λ (m : BTreeMap ℕ Entry). IsChanged (entry_lowered c.args.keep) (at old.entries) (at m.entries) c.args.lo c.args.hi)
    (sym (c.entries-1.given.1 (sym (c.run_out.ensures.same ∙ e.same_map))))
    (sifted_changes _ _ (entry_lowered c.args.keep) c.args.lo c.args.hi _ _ (λ k v b w g t. (search rules, search rules)) s)
