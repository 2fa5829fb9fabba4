-- Rows of entries, one after another.
use Rattle.std.proofs.Common.{◌≡◌, ℕ, suc, ◌+◌, ◌-◌, ◌<◌, ◌≤◌, ◌∙◌, List, [], ◌∷◌, ◌++◌, length, get_or, take, drop}
use Rattle.std.proofs.Common.{map, set, sym, ap, subst, arith, add-one, append_assoc, drop-cons, length-take-le}
use Rattle.std.proofs.Math.Seq.{set-append_seam, take-length}
use Rattle.std.proofs.lemmas.List.{length-drop, length-map, map_push}
use Rattle.std.proofs.lemmas.Grind.{take_at_read}
use Rattle.krl_messages.specs.Values.{Value}
use Rattle.krl_embed.specs.declared.rows.Row.{Row}
use Rattle.krl_embed.specs.Rows.{row_of}

-- one more is copied in front of the old rows
pub copied_one : (found : List (ℕ × Value)) (was now : List Row) (i : ℕ) (e : ℕ × Value) (x : Row)
    → i < length found → i < length was → e ≡ get_or found i e → x ≡ row_of e
    → now ≡ map row_of (take i found) ++ drop i was
    → set now i x ≡ map row_of (take (i + 1) found) ++ drop (i + 1) was
copied_one found was now i e x lt room is row seen =
    let front : List Row = map row_of (take i found) in
    let long : length front ≡ i = length-map (take i found) row_of ∙ length-take-le i found (omega (arith, lt)) in
    let split : drop i was ≡ get_or was i x ∷ drop (i + 1) was = drop-cons was i x room
    ∙ ap (λ (k : ℕ). get_or was i x ∷ drop k was) (sym (add-one i)) in
    let at : set (front ++ get_or was i x ∷ drop (i + 1) was) i x ≡ front ++ x ∷ drop (i + 1) was =
    subst (λ (n : ℕ). set (front ++ get_or was i x ∷ drop (i + 1) was) n x ≡ front ++ x ∷ drop (i + 1) was) long
    (set-append_seam front (get_or was i x) (drop (i + 1) was) x) in
    let grown : map row_of (take (i + 1) found) ≡ front ++ x ∷ [] =
    ap (map row_of) (take_at_read found i e lt).1 ∙ map_push row_of (take i found) (get_or found i e)
    ∙ ap (λ (y : Row). front ++ y ∷ []) (ap row_of (sym is) ∙ sym row) in
    ap (λ (l : List Row). set l i x) (seen ∙ ap (λ (l : List Row). front ++ l) split) ∙ at
    ∙ sym (ap (λ (l : List Row). l ++ drop (i + 1) was) grown ∙ append_assoc front (x ∷ []) (drop (i + 1) was))

-- what is left when one more is taken out
pub popped : (found : List (ℕ × Value)) (i : ℕ) (e : ℕ × Value) (rest : List (ℕ × Value)) → drop i found ≡ e ∷ rest
    → (i < length found) × (e ≡ get_or found i e) × (drop (i + 1) found ≡ rest)
popped found i e rest left =
    let count : length found - i ≡ suc (length rest) = sym (length-drop i found) ∙ ap length left in
    let lt : i < length found = omega (arith, count) in
    let same : e ∷ rest ≡ get_or found i e ∷ drop (suc i) found = sym left ∙ drop-cons found i e lt in
    (lt, cc, ap (λ (k : ℕ). drop k found) (add-one i) ∙ (let on : drop (suc i) found ≡ rest = cc in on))

-- if none is left, all are copied
pub copied_all : (found : List (ℕ × Value)) (was now : List Row) (i : ℕ) → drop i found ≡ [] → i ≤ length found
    → now ≡ map row_of (take i found) ++ drop i was → now ≡ map row_of found ++ drop (length found) was
copied_all found was now i none within seen =
    let rest : length found - i ≡ 0 = sym (length-drop i found) ∙ ap length none in
    let all : i ≡ length found = omega (arith, rest, within) in
    seen ∙ ap (λ (n : ℕ). map row_of (take n found) ++ drop n was) all
    ∙ ap (λ (l : List (ℕ × Value)). map row_of l ++ drop (length found) was) (take-length found)
