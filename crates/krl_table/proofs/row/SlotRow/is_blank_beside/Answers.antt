use Rattle.krl_table.proofs.Names.{◌≡◌, set, ap, ◌∙◌, sym, arith, Row, with_mode, row_of}
use Rattle.krl_modes.specs.declared.mode.Mode.TheVariants as mode
use Rattle.krl_table.proofs.Rows.RowChanges.{blank_is, modes-set}
use Rattle.krl_table.proofs.row.SlotRow.is_blank_beside.Goals as goal

pub returns-then-is_empty : goal.returns-then-is_empty
returns-then-is_empty c =
    let r = c.args.self.now in
    let modes = c.all_modes-modes.result in
    let held = c.all_modes-modes.ensures.modes in
    let same : with_mode (row_of r) c.args.client mode.N ≡ row_of (record r { modes = set modes c.args.client mode.N }) =
    ap (λ ms. with_mode (row_of (record r { modes = ms })) c.args.client mode.N) (sym held)
    ∙ (λ i. record { modes = sym (modes-set modes c.args.client mode.N (omega (arith, c.requires, ap (λ ms. Rattle.std.specs.Prelude.length ms) held, c.all_modes-modes.ensures.full))) i; queue = r.queue }) in (
      λ e. same ∙ blank_is (record r { modes = set modes c.args.client mode.N }) (c.is_empty.ensures.0 c.if-is_empty.true) (c.all_are_n.ensures.0 e),
      λ e. c.all_are_n.ensures.1 (λ d. ap (λ (x : Row). x.modes d) (sym same ∙ e)),
    )
