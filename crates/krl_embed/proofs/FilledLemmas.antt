-- The rows of a page, once no entry or no room is left.
use Rattle.std.proofs.Common.{◌≡◌, ℕ, ◌-◌, ◌≤◌, ◌∙◌, List, [], ◌∷◌, ◌++◌, length, length-take-le, take, drop, map, sym, ap, arith}
use Rattle.std.proofs.Math.ListN.{drop_of_length-le}
use Rattle.std.proofs.Math.Seq.{take-length}
use Rattle.std.proofs.lemmas.List.{length-drop, take_all}
use Rattle.krl_messages.specs.Values.{Value}
use Rattle.krl_embed.specs.declared.rows.Row.{Row}
use Rattle.krl_embed.specs.Rows.{row_of}
use Rattle.krl_embed.specs.Pages.{Fills, first_or}

-- no entry is left
pub ended : (found : List (ℕ × Value)) (hi : ℕ) (was now : List Row) (i : ℕ) → i ≤ length found → i ≤ length was
    → drop i found ≡ [] → now ≡ map row_of (take i found) ++ drop i was → Fills found hi was now (i, hi)
ended found hi was now i within room left seen =
    let none : length found - i ≡ 0 = sym (length-drop i found) ∙ ap length left in
    let same : i ≡ length found = omega (arith, none, within) in
    let fits : length found ≤ length was = omega (arith, same, room) in
    let whole : take (length was) found ≡ found = take_all (length was) found fits in
    let count : i ≡ length (take (length was) found) = same ∙ ap length (sym whole) in
    record {
      count = count;
      next = ap (λ (es : List (ℕ × Value)). first_or hi es) (sym (drop_of_length-le found fits));
      rows = seen ∙ ap (λ (n : ℕ). map row_of (take n found) ++ drop i was) same
          ∙ ap (λ (es : List (ℕ × Value)). map row_of es ++ drop i was) (take-length found ∙ sym whole)
          ∙ ap (λ (n : ℕ). map row_of (take (length was) found) ++ drop n was) count;
    }

-- there is no more room
pub full : (found : List (ℕ × Value)) (hi : ℕ) (was now : List Row) (i : ℕ) (e : ℕ × Value) (rest : List (ℕ × Value)) → i ≤ length found → i ≡ length was
    → drop i found ≡ e ∷ rest → now ≡ map row_of (take i found) ++ drop i was → Fills found hi was now (i, e.0)
full found hi was now i e rest within same left seen =
    let count : i ≡ length (take (length was) found) = sym (length-take-le i found within) ∙ ap (λ (n : ℕ). length (take n found)) same in
    record {
      count = count;
      next = sym (ap (first_or hi) (ap (λ (n : ℕ). drop n found) (sym same) ∙ left));
      rows = seen ∙ ap (λ (n : ℕ). map row_of (take n found) ++ drop i was) same
          ∙ ap (λ (n : ℕ). map row_of (take (length was) found) ++ drop n was) count;
    }
