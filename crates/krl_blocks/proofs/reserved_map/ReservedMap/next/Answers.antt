use Rattle.std.proofs.Common.{◌≡◌, ◌≤◌, ℕ, None, subst}
use Rattle.krl_blocks.specs.ReservedMaps.{IsNextKey}
use Rattle.krl_blocks.proofs.Reserved.Keeping.{run_none, run_next}
use Rattle.krl_blocks.proofs.reserved_map.ReservedMap.next.Goals as goal

pub returns-in-None : goal.returns-in-None
returns-in-None g c =
    let s = c.self.inside in
    subst (λ x. (n : ℕ) → c.args.from ≤ n → Rattle.std.specs.FinMap.get x.map n ≡ None) c.self.view_is
    (run_none s.values s.places s.room c.self.invariant c.args.from c.run.result.now c.run.ensures c.in-None.ensures.value)

pub returns-in-Some : goal.returns-in-Some
returns-in-Some g c =
    let s = c.self.inside in
    subst (λ x. IsNextKey x.map c.args.from c.in-Some.entry.now.0) c.self.view_is
    (run_next s.values s.places s.room c.self.invariant c.args.from c.run.result.now c.run.ensures c.in-Some.entry.now c.in-Some.ensures.value)
