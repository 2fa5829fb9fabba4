-- What stands in a list that two lists make, or one more item.
use Rattle.std.proofs.Common.{List, [], ◌∷◌, ◌++◌, ◌⊎◌, inl, inr, refl, sym, subst, ⊎_elim}
use Rattle.std.specs.List.{AllByRecursion}
use Rattle.krl_messages.specs.Members.{In}

pub in_both : {A : Type 0} (xs ys : List A) (x : A) → In x (xs ++ ys) → In x xs ⊎ In x ys
in_both [] ys x h = inr h
in_both (y ∷ xs) ys x (inl e) = inl (inl e)
in_both (y ∷ xs) ys x (inr h) = ⊎_elim (λ (a : In x xs). inl (inr a)) (λ (a : In x ys). inr a) (in_both xs ys x h)

pub in_left : {A : Type 0} (xs ys : List A) (x : A) → In x xs → In x (xs ++ ys)
in_left [] ys x h = absurd h
in_left (y ∷ xs) ys x (inl e) = inl e
in_left (y ∷ xs) ys x (inr h) = inr (in_left xs ys x h)

pub in_right : {A : Type 0} (xs ys : List A) (x : A) → In x ys → In x (xs ++ ys)
in_right [] ys x h = h
in_right (y ∷ xs) ys x h = inr (in_right xs ys x h)

-- what holds of x and of each item of xs holds of each item of x ∷ xs
pub each_more : {A : Type 0} (P : A → Type 0) (x : A) (xs : List A) → P x → ((y : A) → In y xs → P y) → (y : A) → In y (x ∷ xs) → P y
each_more P x xs px h y (inl e) = subst P (sym e) px
each_more P x xs px h y (inr m) = h y m

pub in_to_all : {A : Type 0} (P : A → Type 0) (xs : List A) → ((x : A) → In x xs → P x) → AllByRecursion P xs
in_to_all P [] h = tt
in_to_all P (y ∷ xs) h = (h y (inl refl), in_to_all P xs (λ x at. h x (inr at)))
