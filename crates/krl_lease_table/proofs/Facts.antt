-- What the proof of the law needs of numbers, tests and standings.
use Rattle.std.proofs.Common.{◌≡◌, ◌≤◌, inl, inr, ℕ, Bool, true, false, Some, None, refl, sym, ◌∙◌, ap, arith, eq-eqb}
use Rattle.std.specs.Prelude.{not, ◌&&◌, ◌||◌, is_some, max, if◌then◌else◌}
use Rattle.std.proofs.lemmas.Bool.{and_parts, or_cases, false≢true}
use Rattle.krl_leases.specs.declared.length.TheConstants.{FOR_EVER}
use Rattle.krl_leases.specs.declared.until.Until.{Until}
use Rattle.krl_leases.specs.Servers as servers
use Rattle.krl_leases.specs.Machine as machine
use Rattle.krl_leases.specs.Machine.{State, Unknown, Registered, Evicted}
use Rattle.krl_lease_table.specs.Systems.{with_standing, with_registered}

pub unmoved : (v v' : State) (b : Bool) (st : machine.Standing) → v' ≡ with_standing v b st → b ≡ false → v' ≡ v
unmoved v v' b st g e = g ∙ ap (λ c. with_standing v c st) e

pub set_to : (v v' : State) (b : Bool) (st : machine.Standing) → v' ≡ with_standing v b st → b ≡ true → v' ≡ record v { standing = st }
set_to v v' b st g e = g ∙ ap (λ c. with_standing v c st) e

pub unregistered : (s : machine.Server) (v v' : State) (b : Bool) → v' ≡ with_registered s v b → b ≡ false → v' ≡ v
unregistered s v v' b g e = g ∙ ap (λ c. with_registered s v c) e

pub registered_as : (s : machine.Server) (v v' : State) (b : Bool) → v' ≡ with_registered s v b → b ≡ true → v' ≡ record v { standing = Registered; kept = servers.kept_registered v.kept s.terms }
registered_as s v v' b g e = g ∙ ap (λ c. with_registered s v c) e

pub not_and : (a : Bool) → (not a && a) ≡ false
not_and true = refl
not_and false = refl

pub and_not : (a : Bool) → (a && not a) ≡ false
and_not true = refl
and_not false = refl

pub some_if : {A : Type 0} (b : Bool) (x : A) → is_some (if b then Some x else None) ≡ true → b ≡ true
some_if true x e = refl
some_if false x e = e

pub last_reason : (a b c d : Bool) → a ≡ false → b ≡ false → d ≡ false → (e : Bool) → (a || (b || (c || (e && d)))) ≡ true → c ≡ true
last_reason a b c d p q r e h = elim (or_cases a (b || (c || (e && d))) h) [
  | inl x ↦ absurd (false≢true (sym p ∙ x))
  | inr y ↦ elim (or_cases b (c || (e && d)) y) [
    | inl x ↦ absurd (false≢true (sym q ∙ x))
    | inr z ↦ elim (or_cases c (e && d) z) [
      | inl x ↦ x
      | inr x ↦ absurd (false≢true (sym r ∙ (and_parts e d x).1))
    ]
  ]
]

pub ends_at : (u : Until) (m : ℕ) → u.moment ≤ m → servers.at_least u m ≡ m
ends_at u m l = by (servers.is_never u)
  where
    by : (b : Bool) → (if b then m else max u.moment m) ≡ m
    by true = refl
    by false = omega arith

pub never_at : (x : Until) (m : ℕ) → x.moment ≡ FOR_EVER → servers.at_least x m ≡ m
never_at x m e = ap (λ b. if b then m else max x.moment m) (eq-eqb x.moment FOR_EVER e)

pub unknown_differs : Unknown ≡ Evicted → ⊥
unknown_differs e = cc

pub registered_differs : Registered ≡ Evicted → ⊥
registered_differs e = cc
