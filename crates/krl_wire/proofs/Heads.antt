-- The head of a message, and its end.
use Rattle.std.proofs.Common.{◌≡◌, ℕ, ◌≤◌, true, cond, eqb, List, [], ◌∷◌, ◌++◌, length, Result, Ok, Err, refl, sym, ap, subst, ◌∙◌}
use Rattle.std.specs.Prelude.{nat_le, ◌&&◌}
use Rattle.std.specs.Int.{w64, IsInRange}
use Rattle.std.proofs.lemmas.Bool.{eqb-true, leb-true, le-leb, and_parts}
use Rattle.std.proofs.lemmas.List.{append-nil, nil_from_length}
use Rattle.krl_wire.specs.declared.fault.Fault.{Fault}
use Rattle.krl_wire.specs.declared.fault.Fault.TheVariants as fault
use Rattle.krl_wire.specs.Spelling.{number}
use Rattle.krl_wire.specs.Fitting.{FitsNumber}
use Rattle.krl_wire.specs.Reading.{◌>>=◌, byte_at, number_at, kind_at, head_at, ended}
use Rattle.krl_wire.proofs.Fields.{IsBytes, bind_ok, held, ok_is, byte_takes, Takes, Takes-then, number_codec}

kind_takes : (first last : ℕ) (bytes : List ℕ) (x : ℕ × List ℕ) → IsBytes bytes → kind_at first last bytes ≡ Ok x
    → Takes bytes (x.0 ∷ []) x.1 × IsInRange first last x.0
unfolding kind_at
kind_takes first last bytes x fits e =
    let a = bind_ok (byte_at bytes)
    (λ k. cond (nat_le first k.0 && nat_le k.0 last) (Ok (k.0, k.1)) (Err fault.Kind)) x e in
    let g = held (nat_le first a.0.0 && nat_le a.0.0 last) fault.Kind (Ok a.0) x a.2 in
    let b = and_parts (nat_le first a.0.0) (nat_le a.0.0 last) g.0 in
    subst (λ (y : ℕ × List ℕ). Takes bytes (y.0 ∷ []) y.1 × IsInRange first last y.0) (ok_is a.0 x g.1)
    (byte_takes bytes a.0 fits a.1, (leb-true _ _ b.0, leb-true _ _ b.1))

head_takes : (first last : ℕ) (bytes : List ℕ) (x : ℕ × List ℕ) → IsBytes bytes → head_at first last bytes ≡ Ok x
    → Takes bytes (1 ∷ x.0 ∷ []) x.1 × IsInRange first last x.0
unfolding head_at
head_takes first last bytes x fits e =
    let v = bind_ok (byte_at bytes) (λ v. cond (eqb v.0 1) (kind_at first last v.1) (Err fault.Version)) x e in
    let g = held (eqb v.0.0 1) fault.Version (kind_at first last v.0.1) x v.2 in
    let one : v.0.0 ≡ 1 = eqb-true _ _ g.0 in
    let t0 = byte_takes bytes v.0 fits v.1 in
    let t1 = kind_takes first last v.0.1 x t0.rest_fits g.1 in
    let both = Takes-then bytes (v.0.0 ∷ []) v.0.1 (x.0 ∷ []) x.1 t0 t1.0 in
    (subst (λ (n : ℕ). Takes bytes (n ∷ x.0 ∷ []) x.1) one both, t1.1)

pub head_is : (first last kind : ℕ) (bytes rest : List ℕ) → IsBytes bytes → head_at first last bytes ≡ Ok (kind, rest)
    → bytes ≡ 1 ∷ kind ∷ rest
head_is first last kind bytes rest fits e = (head_takes first last bytes (kind, rest) fits e).0.parts

pub head_again : (first last kind : ℕ) (rest : List ℕ) → first ≤ kind → kind ≤ last
    → head_at first last (1 ∷ kind ∷ rest) ≡ Ok (kind, rest)
unfolding head_at kind_at byte_at
head_again first last kind rest low high =
    let a : nat_le first kind ≡ true = le-leb _ _ low in
    let b : nat_le kind last ≡ true = le-leb _ _ high in
    rw (a, b) refl

ended_ok : {X : Type 0} (x : X) (rest : List ℕ) (y : X) → ended x rest ≡ Ok y → (rest ≡ []) × (x ≡ y)
ended_ok x rest y e =
    let g = held (eqb (length rest) 0) fault.Trailing (Ok x) y e in
    (nil_from_length rest (eqb-true _ _ g.0), ok_is x y g.1)

-- a whole message: its head, two numbers, a body of its kind, and nothing after it
module _ {B M : Type 0} (first last : ℕ) (read : ℕ → List ℕ → Result (B × List ℕ) Fault) (kind_of : B → ℕ)
    (spell : B → List ℕ) (Fits : B → Type 0) (make : ℕ → ℕ → B → M) where
  abbrev pub read_whole : List ℕ → Result M Fault
  read_whole bytes = head_at first last bytes >>= λ k. number_at w64 k.1 >>= λ c. number_at w64 c.1 >>= λ i. read k.0
      i.1 >>= λ b. ended (make c.0 i.0 b.0) b.1

  abbrev pub spell_whole : ℕ → ℕ → B → List ℕ
  spell_whole c i b = 1 ∷ kind_of b ∷ number c ++ number i ++ spell b

  -- a body of a kind is one of that kind
  abbrev pub IsOfKind : ℕ → B → Type 0
  IsOfKind kind b = (kind ≡ kind_of b) × Fits b

  abbrev pub Bodies : Type 0
  Bodies = (kind : ℕ) (bytes : List ℕ) (x : B × List ℕ) → first ≤ kind → kind ≤ last → IsBytes bytes
      → read kind bytes ≡ Ok x → Takes bytes (spell x.0) x.1 × IsOfKind kind x.0

  pub whole_takes : Bodies → (bytes : List ℕ) (m : M) → IsBytes bytes → read_whole bytes ≡ Ok m
      → (c : ℕ) × (i : ℕ) × (b : B) × (make c i b ≡ m) × FitsNumber c × FitsNumber i × Fits b
      × (bytes ≡ spell_whole c i b)
  whole_takes bodies bytes m fits e =
      let h = bind_ok (head_at first last bytes)
      (λ k. number_at w64 k.1 >>= λ c. number_at w64 c.1 >>= λ i. read k.0 i.1 >>= λ b. ended
      (make c.0 i.0 b.0) b.1) m e in
      let c = bind_ok (number_at w64 h.0.1)
      (λ c. number_at w64 c.1 >>= λ i. read h.0.0 i.1 >>= λ b. ended (make c.0 i.0 b.0) b.1) m h.2 in
      let i = bind_ok (number_at w64 c.0.1) (λ i. read h.0.0 i.1 >>= λ b. ended (make c.0.0 i.0 b.0) b.1) m c.2 in
      let b = bind_ok (read h.0.0 i.0.1) (λ b. ended (make c.0.0 i.0.0 b.0) b.1) m i.2 in
      let z = ended_ok (make c.0.0 i.0.0 b.0.0) b.0.1 m b.2 in
      let t0 = head_takes first last bytes h.0 fits h.1 in
      let t1 = number_codec.takes h.0.1 c.0 t0.0.rest_fits c.1 in
      let t2 = number_codec.takes c.0.1 i.0 t1.0.rest_fits i.1 in
      let t3 = bodies h.0.0 i.0.1 b.0 t0.1.0 t0.1.1 t2.0.rest_fits b.1 in
      let text = spell b.0.0 in
      let w2 = Takes-then c.0.1 (number i.0.0) i.0.1 text b.0.1 t2.0 t3.0 in
      let w1 = Takes-then h.0.1 (number c.0.0) c.0.1 (number i.0.0 ++ text) b.0.1 t1.0 w2 in
      let w0 = Takes-then bytes (1 ∷ h.0.0 ∷ []) h.0.1 (number c.0.0 ++ (number i.0.0 ++ text)) b.0.1 t0.0 w1 in
      let all : bytes ≡ 1 ∷ h.0.0 ∷ (number c.0.0 ++ (number i.0.0 ++ text)) = w0.parts
      ∙ ap (λ (r : List ℕ). (1 ∷ h.0.0 ∷ (number c.0.0 ++ (number i.0.0 ++ text))) ++ r) z.0 ∙ append-nil _ in
      let spelled : bytes ≡ spell_whole c.0.0 i.0.0 b.0.0 = all ∙ ap
      (λ (k : ℕ). 1 ∷ k ∷ (number c.0.0 ++ (number i.0.0 ++ text))) t3.1.0 in
      (c.0.0, i.0.0, b.0.0, z.1, t1.1, t2.1, t3.1.1, spelled)

  pub whole_again : (c i : ℕ) (b : B) → first ≤ kind_of b → kind_of b ≤ last → FitsNumber c → FitsNumber i
      → read (kind_of b) (spell b ++ []) ≡ Ok (b, []) → read_whole (spell_whole c i b) ≡ Ok (make c i b)
  whole_again c i b low high fc fi is =
      let text = spell b in
      let head = head_again first last (kind_of b) (number c ++ (number i ++ text)) low high in
      let body : read (kind_of b) text ≡ Ok (b, []) = ap (read (kind_of b)) (sym (append-nil text)) ∙ is in
      rw (head, number_codec.again c (number i ++ text) fc, number_codec.again i text fi, body) refl
