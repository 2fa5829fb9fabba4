use Rattle.std.proofs.Common.{◌≡◌, ◌+◌, ◌-◌, ◌++◌, replicate, inr, is_ok, sym, ap, ◌∙◌, arith}
use Rattle.std.proofs.lemmas.List.{nil_from_length, take_all}
use Rattle.std.proofs.lemmas.Bool.{cond-true}
use Rattle.std.specs.Prelude.{vec_len}
use Rattle.krl_blocks.proofs.shelf.free_place.Goals as goal

pub returns-in-None-clause-free : goal.returns-in-None-clause-free
returns-in-None-clause-free g c =
    let none = c.in-None.ensures.cases in
    let spare = nil_from_length c.args.spare.now.items (sym c.args.spare.now.ok.0 ∙ none.0) in
    let left = nil_from_length c.pop.new.self.items (sym c.pop.new.self.ok.0 ∙ none.1) in
    let long = c.args.cells.now.ok.0 in
    let count : c.len.result + 64 - vec_len c.args.cells.now ≡ 64 = omega (arith, c.len.ensures, long) in
    inr (
      spare,
      left,
      c.requires.next spare,
      c.resize.ensures.items ∙ cond-true _ _ _ (ap is_ok c.unwrap.ensures)
          ∙ ap (λ xs. xs ++ replicate (c.len.result + 64 - vec_len c.args.cells.now) c.args.entry) (take_all (c.len.result + 64) c.args.cells.now.items (omega (arith, c.len.ensures, long)))
          ∙ ap (λ k. c.args.cells.now.items ++ replicate k c.args.entry) count,
    )
