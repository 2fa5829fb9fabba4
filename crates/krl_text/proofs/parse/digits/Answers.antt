use Rattle.std.proofs.Common.{◌≡◌, ◌+◌, ◌*◌, ◌≤◌, ◌^◌, get_or, arith, rules, ◌∙◌}
use Rattle.std.proofs.lemmas.Bool.Decides.{nat_tests}
use Rattle.std.specs.Char.{digit_value}
use Rattle.std.proofs.lemmas.Str.{digit_value_digit}
use Rattle.krl_text.proofs.Digits.{digits_value_from, too_large, spelled}
use Rattle.krl_text.proofs.parse.digits.Goals as goal

pub returns-in_err-value : goal.returns-in_err-value
returns-in_err-value c =
    let from = digits_value_from c.args.word.now c.loop-b.b-index c.loop-b.value (omega arith) c.loop-b.invariant.value in
    let digit : digit_value (get_or c.args.word.now c.loop-b.b-index 0) + 48 ≡ get_or c.args.word.now c.loop-b.b-index 0 = digit_value_digit _ (search rules) in
    let over : 2 ^ 64 ≤ c.loop-b.value * 10 + digit_value (get_or c.args.word.now c.loop-b.b-index 0) = grind (arith, digit) in
    c.from_residual-in_err-value.ensures ∙ too_large c.args.word.now (omega (arith, from, over))

pub returns-in_err-checked_mul : goal.returns-in_err-checked_mul
returns-in_err-checked_mul c =
    let from = digits_value_from c.args.word.now c.loop-b.b-index c.loop-b.value (omega arith) c.loop-b.invariant.value in
    let over : 2 ^ 64 ≤ c.loop-b.value * 10 = grind arith in
    c.from_residual.ensures ∙ too_large c.args.word.now (omega (arith, from, over))

pub returns : goal.returns
returns c =
    spelled c.args.word.now c.loop-b.b-index c.loop-b.value (grind (arith, nat_tests)) (omega arith) (omega arith) c.loop-b.invariant.value c.loop-b.invariant.digits c.loop-b.invariant.fits
