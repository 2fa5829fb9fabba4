use Rattle.krl_table.proofs.Names.{ℕ, ◌||◌, nat_eq, arith, sym, ap, ◌∙◌, ne_eqb, or_from, compatible, mode_of}
use Rattle.krl_table.proofs.Rows.Below.{all_clients, not_all_clients}
use Rattle.krl_table.proofs.row.SlotRow.is_compatible_there.Goals as goal

pub returns-then-not-compatible : goal.returns-then-not-compatible
returns-then-not-compatible c = not_all_clients (λ (d : ℕ). nat_eq d c.args.client || compatible c.args.mode (mode_of c.args.self.now.modes d)) c.loop-other.other (omega arith)
    (or_from _ _ (ne_eqb c.loop-other.other c.args.client c.if-other-client.true) (ap (compatible c.args.mode) (sym c.mode-held.ensures) ∙ sym c.compatible.ensures.compatible ∙ c.if-not-compatible.true))

pub returns : goal.returns
returns c = all_clients _ c.loop-other.other (omega arith) c.loop-other.invariant
