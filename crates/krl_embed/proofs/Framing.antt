-- One frame more.
use Rattle.std.proofs.Common.{◌≡◌, ℕ, ◌+◌, ◌<◌, List, [], ◌∷◌, ◌++◌, length, get_or, take, sym, ap, ◌∙◌}
use Rattle.std.specs.List.{flat_map}
use Rattle.std.proofs.lemmas.List.{append-nil}
use Rattle.std.proofs.lemmas.List.Concat.{flat_map-cons}
use Rattle.std.proofs.lemmas.Grind.{take_at_read, flat_map-append}

pub one_more : {X : Type 0} (f : X → List ℕ) (xs : List X) (i : ℕ) (x : X) (before after : List ℕ)
    → i < length xs → x ≡ get_or xs i x
    → before ≡ flat_map f (take i xs) → after ≡ before ++ f x → after ≡ flat_map f (take (i + 1) xs)
one_more {X} f xs i x before after lt is was now =
    let y = get_or xs i x in
    let one : flat_map f (y ∷ []) ≡ f x = flat_map-cons f y [] ∙ append-nil (f y) ∙ ap f (sym is) in
    let more : flat_map f (take (i + 1) xs) ≡ flat_map f (take i xs) ++ f x =
    ap (flat_map f) (take_at_read xs i x lt).1 ∙ flat_map-append f (take i xs) (y ∷ [])
    ∙ ap (λ (w : List ℕ). flat_map f (take i xs) ++ w) one in
    now ∙ ap (λ (b : List ℕ). b ++ f x) was ∙ sym more
