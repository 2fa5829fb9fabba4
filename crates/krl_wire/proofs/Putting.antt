-- What is written after what was written before.
use Rattle.std.proofs.Common.{◌≡◌, ℕ, ◌+◌, ◌<◌, List, [], ◌∷◌, ◌++◌, length, get_or, take, Result, Ok, Err, sym, ap, ◌∙◌, append_assoc}
use Rattle.std.specs.Prelude.{OnOk}
use Rattle.std.specs.List.{flat_map}
use Rattle.std.proofs.lemmas.List.{append-nil}
use Rattle.std.proofs.lemmas.List.Concat.{flat_map-cons}
use Rattle.std.proofs.lemmas.Grind.{take_at_read, flat_map-append}

-- one item more
pub one_more : {X : Type 0} (f : X → List ℕ) (xs : List X) (i : ℕ) (x : X) (out before after : List ℕ)
    → i < length xs → x ≡ get_or xs i x
    → before ≡ out ++ flat_map f (take i xs) → after ≡ before ++ f x → after ≡ out ++ flat_map f (take (i + 1) xs)
one_more {X} f xs i x out before after lt is was now =
    let y = get_or xs i x in
    let one : flat_map f (y ∷ []) ≡ f x = flat_map-cons f y [] ∙ append-nil (f y) ∙ ap f (sym is) in
    let more : flat_map f (take (i + 1) xs) ≡ flat_map f (take i xs) ++ f x =
    ap (flat_map f) (take_at_read xs i x lt).1 ∙ flat_map-append f (take i xs) (y ∷ [])
    ∙ ap (λ (w : List ℕ). flat_map f (take i xs) ++ w) one in
    now ∙ ap (λ (b : List ℕ). b ++ f x) was ∙ append_assoc out (flat_map f (take i xs)) (f x)
    ∙ ap (λ (w : List ℕ). out ++ w) (sym more)

-- the rest after the head
pub behind : {E T : Type 0} (r : Result T E) (out middle after head rest : List ℕ) → middle ≡ out ++ head
    → OnOk r (after ≡ middle ++ rest) → OnOk r (after ≡ out ++ (head ++ rest))
behind (Ok u) out middle after head rest was now = now ∙ ap (λ (w : List ℕ). w ++ rest) was
    ∙ append_assoc out head rest
behind (Err e) out middle after head rest was now = tt
