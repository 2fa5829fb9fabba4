-- Two, three and four fields in a row.
use Rattle.std.proofs.Common.{◌≡◌, ℕ, List, ◌++◌, Result, Ok, refl, ap, subst, ◌∙◌, append_assoc}
use Rattle.krl_wire.specs.declared.fault.Fault.{Fault}
use Rattle.krl_wire.specs.Reading.{◌>>=◌}
use Rattle.krl_wire.proofs.Fields.{IsBytes, bind_ok, ok_is, Takes, Takes-then, IsCodec}

module _ {A B C : Type 0} {s1 : A → List ℕ} {r1 : List ℕ → Result (A × List ℕ) Fault} {F1 : A → Type 0}
    {s2 : B → List ℕ} {r2 : List ℕ → Result (B × List ℕ) Fault} {F2 : B → Type 0}
    (c1 : IsCodec s1 r1 F1) (c2 : IsCodec s2 r2 F2) (make : A → B → C) where
  abbrev pub read_two : List ℕ → Result (C × List ℕ) Fault
  read_two bytes = r1 bytes >>= λ a. r2 a.1 >>= λ b. Ok (make a.0 b.0, b.1)

  pub two_take : (bytes : List ℕ) (x : C × List ℕ) → IsBytes bytes → read_two bytes ≡ Ok x
      → (a : A) × (b : B) × (make a b ≡ x.0) × Takes bytes (s1 a ++ s2 b) x.1 × F1 a × F2 b
  two_take bytes x fits e =
      let a = bind_ok (r1 bytes) (λ a. r2 a.1 >>= λ b. Ok (make a.0 b.0, b.1)) x e in
      let b = bind_ok (r2 a.0.1) (λ b. Ok (make a.0.0 b.0, b.1)) x a.2 in
      let t1 = c1.takes bytes a.0 fits a.1 in let t2 = c2.takes a.0.1 b.0 t1.0.rest_fits b.1 in
      let p = ok_is (make a.0.0 b.0.0, b.0.1) x b.2 in (
        a.0.0,
        b.0.0,
        ap (λ (q : C × List ℕ). q.0) p,
        subst (λ (r : List ℕ). Takes bytes (s1 a.0.0 ++ s2 b.0.0) r)
            (ap (λ (q : C × List ℕ). q.1) p) (Takes-then bytes (s1 a.0.0) a.0.1 (s2 b.0.0) b.0.1 t1.0 t2.0),
        t1.1,
        t2.1,
      )

  pub two_again : (a : A) (b : B) (rest : List ℕ) → F1 a → F2 b → read_two ((s1 a ++ s2 b) ++ rest) ≡ Ok
      (make a b, rest)
  two_again a b rest fa fb =
      let first : r1 ((s1 a ++ s2 b) ++ rest) ≡ Ok (a, s2 b ++ rest) = ap r1 (append_assoc (s1 a) (s2 b) rest)
      ∙ c1.again a (s2 b ++ rest) fa in
      rw (first, c2.again b rest fb) refl

module _ {A B D C : Type 0} {s1 : A → List ℕ} {r1 : List ℕ → Result (A × List ℕ) Fault} {F1 : A → Type 0}
    {s2 : B → List ℕ} {r2 : List ℕ → Result (B × List ℕ) Fault} {F2 : B → Type 0} {s3 : D → List ℕ}
    {r3 : List ℕ → Result (D × List ℕ) Fault} {F3 : D → Type 0}
    (c1 : IsCodec s1 r1 F1) (c2 : IsCodec s2 r2 F2) (c3 : IsCodec s3 r3 F3) (make : A → B → D → C) where
  abbrev pub read_three : List ℕ → Result (C × List ℕ) Fault
  read_three bytes = r1 bytes >>= λ a. r2 a.1 >>= λ b. r3 b.1 >>= λ d. Ok (make a.0 b.0 d.0, d.1)

  pub three_take : (bytes : List ℕ) (x : C × List ℕ) → IsBytes bytes → read_three bytes ≡ Ok x
      → (a : A) × (b : B) × (d : D) × (make a b d ≡ x.0) × Takes bytes (s1 a ++ (s2 b ++ s3 d)) x.1 × F1 a × F2 b
      × F3 d
  three_take bytes x fits e =
      let a = bind_ok (r1 bytes) (λ a. r2 a.1 >>= λ b. r3 b.1 >>= λ d. Ok (make a.0 b.0 d.0, d.1)) x e in
      let t1 = c1.takes bytes a.0 fits a.1 in
      let more = two_take c2 c3 (make a.0.0) a.0.1 x t1.0.rest_fits a.2 in (
        a.0.0,
        more.0,
        more.1,
        more.2,
        Takes-then bytes (s1 a.0.0) a.0.1
            (s2 more.0 ++ s3 more.1) x.1 t1.0 more.3,
        t1.1,
        more.4,
        more.5,
      )

  pub three_again : (a : A) (b : B) (d : D) (rest : List ℕ) → F1 a → F2 b → F3 d
      → read_three ((s1 a ++ (s2 b ++ s3 d)) ++ rest) ≡ Ok (make a b d, rest)
  three_again a b d rest fa fb fd =
      let first : r1 ((s1 a ++ (s2 b ++ s3 d)) ++ rest) ≡ Ok (a, (s2 b ++ s3 d) ++ rest) = ap r1
      (append_assoc (s1 a) (s2 b ++ s3 d) rest) ∙ c1.again a ((s2 b ++ s3 d) ++ rest) fa in
      rw first (two_again c2 c3 (make a) b d rest fb fd)

module _ {A B D E C : Type 0} {s1 : A → List ℕ} {r1 : List ℕ → Result (A × List ℕ) Fault} {F1 : A → Type 0}
    {s2 : B → List ℕ} {r2 : List ℕ → Result (B × List ℕ) Fault} {F2 : B → Type 0} {s3 : D → List ℕ}
    {r3 : List ℕ → Result (D × List ℕ) Fault} {F3 : D → Type 0} {s4 : E → List ℕ}
    {r4 : List ℕ → Result (E × List ℕ) Fault} {F4 : E → Type 0}
    (c1 : IsCodec s1 r1 F1) (c2 : IsCodec s2 r2 F2) (c3 : IsCodec s3 r3 F3) (c4 : IsCodec s4 r4 F4)
    (make : A → B → D → E → C) where
  abbrev pub read_four : List ℕ → Result (C × List ℕ) Fault
  read_four bytes = r1 bytes >>= λ a. r2 a.1 >>= λ b. r3 b.1 >>= λ d. r4 d.1 >>= λ f. Ok (make a.0 b.0 d.0 f.0, f.1)

  pub four_take : (bytes : List ℕ) (x : C × List ℕ) → IsBytes bytes → read_four bytes ≡ Ok x
      → (a : A) × (b : B) × (d : D) × (f : E) × (make a b d f ≡ x.0)
      × Takes bytes (s1 a ++ (s2 b ++ (s3 d ++ s4 f))) x.1 × F1 a × F2 b × F3 d × F4 f
  four_take bytes x fits e =
      let a = bind_ok (r1 bytes) (λ a. r2 a.1 >>= λ b. r3 b.1 >>= λ d. r4 d.1 >>= λ f. Ok
      (make a.0 b.0 d.0 f.0, f.1)) x e in
      let t1 = c1.takes bytes a.0 fits a.1 in
      let more = three_take c2 c3 c4 (make a.0.0) a.0.1 x t1.0.rest_fits a.2 in (
        a.0.0,
        more.0,
        more.1,
        more.2,
        more.3,
        Takes-then bytes (s1 a.0.0) a.0.1
            (s2 more.0 ++ (s3 more.1 ++ s4 more.2)) x.1 t1.0 more.4,
        t1.1,
        more.5,
        more.6,
        more.7,
      )

  pub four_again : (a : A) (b : B) (d : D) (f : E) (rest : List ℕ) → F1 a → F2 b → F3 d → F4 f
      → read_four ((s1 a ++ (s2 b ++ (s3 d ++ s4 f))) ++ rest) ≡ Ok (make a b d f, rest)
  four_again a b d f rest fa fb fd ff =
      let first : r1 ((s1 a ++ (s2 b ++ (s3 d ++ s4 f))) ++ rest) ≡ Ok (a, (s2 b ++ (s3 d ++ s4 f)) ++ rest) = ap r1
      (append_assoc (s1 a) (s2 b ++ (s3 d ++ s4 f)) rest) ∙ c1.again a ((s2 b ++ (s3 d ++ s4 f)) ++ rest) fa in
      rw first (three_again c2 c3 c4 (make a) b d f rest fb fd ff)
