use Rattle.std.proofs.Common.{◌≡◌, ◌<◌, ◌^◌, drop}
use Rattle.std.specs.Str.{all_ascii_digits}
use Rattle.std.specs.Str.Parse.{digits_value, digits_value_after}
use Rattle.krl_text.proofs.parse.digits.Given as goal

abbrev pub invariant-loop-b : goal.invariant-loop-b
invariant-loop-b l =
    record {
      value : digits_value_after 10 l.value (drop l.b-index l.word) ≡ digits_value 10 l.word;
      fits : l.value < 2 ^ 64;
      digits : all_ascii_digits (drop l.b-index l.word) ≡ all_ascii_digits l.word;
    }
