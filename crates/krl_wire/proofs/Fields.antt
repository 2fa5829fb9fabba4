-- A field that is read is the field that was written, and what was written is read again.
use Rattle.std.proofs.Common.{◌≡◌, ℕ, zero, suc, ◌+◌, ◌^◌, ◌<◌, ◌≤◌, Bool, true, false, cond, ltb, eqb, List, [], ◌∷◌, ◌++◌, length, get_or, take, drop, Option, Some, None, Result, Ok, Err, refl, sym, ap, subst, ◌∙◌, append_assoc, arith, inl, inr}
use Rattle.std.specs.Prelude.{IfSome, ◌⊎◌, nat_lt, nat_le, ◌&&◌}
use Rattle.std.specs.Int.{Width, w32, w64, byte_len, from_le_bytes, to_le_bytes}
use Rattle.std.proofs.lemmas.Bool.{cases_lt, eqb-true, ltb-false, le-ltb, lt-ltb, ltb-true, le-leb, leb-true, and_parts}
use Rattle.std.proofs.lemmas.List.{take_at, drop_at, take-append-drop, length-append, length-take, length-take-le, get_or-drop, get_or-take, get_or_past}
use Rattle.std.proofs.lemmas.Nat.{le_bytes_4, le_bytes_8, from_le_bytes-to_le_bytes_4, from_le_bytes-to_le_bytes_8}
use Rattle.krl_modes.specs.Spans.{Bounds}
use Rattle.krl_modes.specs.declared.point.TheConstants.{TOP}
use Rattle.krl_messages.specs.Values.{Value}
use Rattle.krl_wire.specs.declared.fault.Fault.{Fault}
use Rattle.krl_wire.specs.declared.fault.Fault.TheVariants as fault
use Rattle.krl_wire.specs.Spelling.{number, count, span, value, optional}
use Rattle.krl_wire.specs.Fitting.{FitsNumber, FitsSpan, FitsValue}
use Rattle.krl_wire.specs.Reading.{◌>>=◌, byte_at, number_at, span_at, value_at, some_value_at, optional_at}

abbrev pub IsBytes : List ℕ → Type 0
IsBytes bytes = (i : ℕ) → get_or bytes i 0 < 256

pub IsBytes-drop : (n : ℕ) (bytes : List ℕ) → IsBytes bytes → IsBytes (drop n bytes)
IsBytes-drop n bytes h i = rw get_or-drop (h (n + i))

IsBytes-take : (n : ℕ) (bytes : List ℕ) → IsBytes bytes → IsBytes (take n bytes)
IsBytes-take n bytes h i =
    elim (cases_lt i n) [
      | inl lt ↦ rw (get_or-take n bytes i 0 lt) (h i)
      | inr le ↦ rw (get_or_past (take n bytes) i 0 (omega (arith, length-take n bytes))) (omega arith)
    ]

pub IsBytes-rest : (b : ℕ) (bytes : List ℕ) → IsBytes (b ∷ bytes) → IsBytes bytes
IsBytes-rest b bytes h i = h (suc i)

-- ---- steps that did not fail

pub bind_ok : {A B : Type 0} (r : Result A Fault) (f : A → Result B Fault) (y : B) → (r >>= f) ≡ Ok y
    → (x : A) × (r ≡ Ok x) × (f x ≡ Ok y)
bind_ok (Ok x) f y e = (x, refl, e)
bind_ok (Err d) f y e = absurd cc

-- the fault if the test holds, and it did not
pub passed : {A : Type 0} (b : Bool) (d : Fault) (r : Result A Fault) (y : A) → cond b (Err d) r ≡ Ok y
    → (b ≡ false) × (r ≡ Ok y)
passed true d r y e = absurd cc
passed false d r y e = (refl, e)

-- the fault if the test fails, and it held
pub held : {A : Type 0} (b : Bool) (d : Fault) (r : Result A Fault) (y : A) → cond b r (Err d) ≡ Ok y
    → (b ≡ true) × (r ≡ Ok y)
held true d r y e = (refl, e)
held false d r y e = absurd cc

pub chosen : {A : Type 0} (b : Bool) (x y z : A) → cond b x y ≡ z → ((b ≡ true) × (x ≡ z)) ⊎ ((b ≡ false) × (y ≡ z))
chosen true x y z e = inl (refl, e)
chosen false x y z e = inr (refl, e)

abbrev done : {A : Type 0} → A → Result A Fault
done x = Ok x

pub ok_is : {A : Type 0} (x y : A) → done x ≡ done y → x ≡ y
ok_is x y e = cc

-- what a reader took from the front
pub record Takes (bytes text rest : List ℕ) : Type 0 where
  pub parts : bytes ≡ text ++ rest
  pub rest_fits : IsBytes rest

pub Takes-then : (a x b y c : List ℕ) → Takes a x b → Takes b y c → Takes a (x ++ y) c
Takes-then a x b y c p q = record {
  parts = p.parts ∙ ap (λ (t : List ℕ). x ++ t) q.parts ∙ sym (append_assoc x y c);
  rest_fits = q.rest_fits;
}

-- a reader and the spelling of what it reads are each other's inverse, for values that fit
pub record IsCodec {X : Type 0} (spell : X → List ℕ) (read : List ℕ → Result (X × List ℕ) Fault)
    (Fits : X → Type 0) : Type 0 where
  pub takes : (bytes : List ℕ) (x : X × List ℕ) → IsBytes bytes → read bytes ≡ Ok x
      → Takes bytes (spell x.0) x.1 × Fits x.0
  pub again : (x : X) (rest : List ℕ) → Fits x → read (spell x ++ rest) ≡ Ok (x, rest)

-- ---- a byte

pub byte_takes : (bytes : List ℕ) (x : ℕ × List ℕ) → IsBytes bytes → byte_at bytes ≡ Ok x → Takes bytes (x.0 ∷ []) x.1
unfolding byte_at
byte_takes [] x fits e = absurd cc
byte_takes (b ∷ rest) x fits e =
    subst (λ (y : ℕ × List ℕ). Takes (b ∷ rest) (y.0 ∷ []) y.1) (ok_is (b, rest) x e)
    (record { parts = refl; rest_fits = IsBytes-rest b rest fits })

-- ---- numbers

record IsWide (w : Width) (limit : ℕ) : Type 0 where
  pub len : (n : ℕ) → length (to_le_bytes w n) ≡ byte_len w
  pub back : (bytes : List ℕ) → length bytes ≡ byte_len w → IsBytes bytes
      → to_le_bytes w (from_le_bytes w bytes) ≡ bytes
  pub again : (n : ℕ) → n < limit → from_le_bytes w (to_le_bytes w n) ≡ n
  pub below : (bytes : List ℕ) → IsBytes bytes → from_le_bytes w bytes < limit

wide32 : IsWide w32 (2 ^ 32)
wide32 = record {
  len = λ n. refl;
  back = λ bytes len fits. le_bytes_4 bytes _ len fits refl;
  again = λ n lt. from_le_bytes-to_le_bytes_4 n lt;
  below = λ bytes fits. omega (arith, fits 0, fits 1, fits 2, fits 3);
}

wide64 : IsWide w64 (2 ^ 64)
wide64 = record {
  len = λ n. refl;
  back = λ bytes len fits. le_bytes_8 bytes _ len fits refl;
  again = λ n lt. from_le_bytes-to_le_bytes_8 n lt;
  below = λ bytes fits. omega (arith, fits 0, fits 1, fits 2, fits 3, fits 4, fits 5, fits 6, fits 7);
}

number_takes : (w : Width) (limit : ℕ) (wide : IsWide w limit) (bytes : List ℕ) (x : ℕ × List ℕ) → IsBytes bytes
    → number_at w bytes ≡ Ok x → Takes bytes (to_le_bytes w x.0) x.1 × (x.0 < limit)
number_takes w limit wide bytes x fits e =
    let front = take (byte_len w) bytes in
    let after = drop (byte_len w) bytes in
    let n = from_le_bytes w front in
    let made : ℕ × List ℕ = (n, after) in
    let g = passed (ltb (length bytes) (byte_len w)) fault.Short (Ok made) x e in
    let long : byte_len w ≤ length bytes = ltb-false _ _ g.0 in
    let fits_front = IsBytes-take (byte_len w) bytes fits in
    let back : to_le_bytes w n ≡ front = wide.back front (length-take-le (byte_len w) bytes long) fits_front in
    subst (λ (y : ℕ × List ℕ). Takes bytes (to_le_bytes w y.0) y.1 × (y.0 < limit)) (ok_is made x g.1) (
      record {
        parts = sym (ap (λ (t : List ℕ). t ++ after) back ∙ take-append-drop (byte_len w) bytes);
        rest_fits = IsBytes-drop (byte_len w) bytes fits;
      },
      wide.below front fits_front,
    )

number_again : (w : Width) (limit : ℕ) (wide : IsWide w limit) (n : ℕ) (rest : List ℕ) → n < limit
    → number_at w (to_le_bytes w n ++ rest) ≡ Ok (n, rest)
number_again w limit wide n rest lt =
    let len = wide.len n in
    let long : ltb (length (to_le_bytes w n ++ rest)) (byte_len w) ≡ false = le-ltb _ _
    (omega (arith, length-append (to_le_bytes w n) rest)) in
    rw (
      long,
      take_at (to_le_bytes w n) rest (byte_len w) len,
      drop_at (to_le_bytes w n) rest
          (byte_len w) len,
      wide.again n lt,
    ) refl

pub number_codec : IsCodec number (number_at w64) FitsNumber
number_codec = record { takes = number_takes w64 (2 ^ 64) wide64; again = number_again w64 (2 ^ 64) wide64 }

pub small_codec : IsCodec count (number_at w32) (λ n. n < 2 ^ 32)
small_codec = record { takes = number_takes w32 (2 ^ 32) wide32; again = number_again w32 (2 ^ 32) wide32 }

-- ---- spans

span_takes : (bytes : List ℕ) (x : Bounds × List ℕ) → IsBytes bytes → span_at bytes ≡ Ok x
    → Takes bytes (span x.0) x.1 × FitsSpan x.0
unfolding span_at
span_takes bytes x fits e =
    let a = bind_ok (number_at w64 bytes)
    (λ lo. number_at w64 lo.1 >>= λ hi. cond (nat_lt lo.0 hi.0 && nat_le hi.0 TOP)
    (Ok (record { lo = lo.0; hi = hi.0 }, hi.1)) (Err fault.Span)) x e in
    let b = bind_ok (number_at w64 a.0.1)
    (λ hi. cond (nat_lt a.0.0 hi.0 && nat_le hi.0 TOP) (Ok (record { lo = a.0.0; hi = hi.0 }, hi.1))
    (Err fault.Span)) x a.2 in
    let made : Bounds × List ℕ = (record { lo = a.0.0; hi = b.0.0 }, b.0.1) in
    let g = held (nat_lt a.0.0 b.0.0 && nat_le b.0.0 TOP) fault.Span (Ok made) x b.2 in
    let t = and_parts (nat_lt a.0.0 b.0.0) (nat_le b.0.0 TOP) g.0 in
    let t1 = number_codec.takes bytes a.0 fits a.1 in
    let t2 = number_codec.takes a.0.1 b.0 t1.0.rest_fits b.1 in
    subst (λ (y : Bounds × List ℕ). Takes bytes (span y.0) y.1 × FitsSpan y.0) (ok_is made x g.1)
    (Takes-then bytes (number a.0.0) a.0.1 (number b.0.0) b.0.1 t1.0 t2.0, (ltb-true _ _ t.0, leb-true _ _ t.1))

span_again : (s : Bounds) (rest : List ℕ) → FitsSpan s → span_at (span s ++ rest) ≡ Ok (s, rest)
unfolding span_at
span_again s rest is =
    let lo : s.lo < 2 ^ 64 = omega (arith, is.0, is.1) in
    let hi : s.hi < 2 ^ 64 = omega (arith, is.1) in
    let a : number_at w64 (span s ++ rest) ≡ Ok (s.lo, number s.hi ++ rest) = ap (number_at w64)
    (append_assoc (number s.lo) (number s.hi) rest) ∙ number_codec.again s.lo (number s.hi ++ rest) lo in
    let lt : nat_lt s.lo s.hi ≡ true = lt-ltb _ _ is.0 in
    let le : nat_le s.hi TOP ≡ true = le-leb _ _ is.1 in
    rw (a, number_codec.again s.hi rest hi, lt, le) refl

pub span_codec : IsCodec span span_at FitsSpan
span_codec = record { takes = span_takes; again = span_again }

-- ---- values

value_takes : (bytes : List ℕ) (x : Value × List ℕ) → IsBytes bytes → value_at bytes ≡ Ok x
    → Takes bytes (value x.0) x.1 × FitsValue x.0
unfolding value_at byte_at
value_takes [] x fits e = absurd cc
value_takes (n ∷ rest) x fits e =
    let made : Value × List ℕ = (take n rest, drop n rest) in
    let g = passed (ltb 32 n) fault.Length (cond (ltb (length rest) n) (Err fault.Short) (Ok made)) x e in
    let h = passed (ltb (length rest) n) fault.Short (Ok made) x g.1 in
    let few : n ≤ 32 = ltb-false _ _ g.0 in
    let long : n ≤ length rest = ltb-false _ _ h.0 in
    let len : length (take n rest) ≡ n = length-take-le n rest long in
    subst (λ (y : Value × List ℕ). Takes (n ∷ rest) (value y.0) y.1 × FitsValue y.0) (ok_is made x h.1) (
      record {
        parts = ap (λ (t : List ℕ). n ∷ t) (sym (take-append-drop n rest))
            ∙ ap (λ (k : ℕ). k ∷ (take n rest ++ drop n rest)) (sym len);
        rest_fits = IsBytes-drop n rest (IsBytes-rest n rest fits);
      },
      omega (arith, len, few),
    )

value_again : (v : Value) (rest : List ℕ) → FitsValue v → value_at (value v ++ rest) ≡ Ok (v, rest)
unfolding value_at byte_at
value_again v rest few =
    let small : ltb 32 (length v) ≡ false = le-ltb _ _ few in
    let long : ltb (length (v ++ rest)) (length v) ≡ false = le-ltb _ _ (omega (arith, length-append v rest)) in
    rw (small, long, take_at v rest (length v) refl, drop_at v rest (length v) refl) refl

pub value_codec : IsCodec value value_at FitsValue
value_codec = record { takes = value_takes; again = value_again }

optional_takes : (bytes : List ℕ) (x : Option Value × List ℕ) → IsBytes bytes → optional_at bytes ≡ Ok x
    → Takes bytes (optional x.0) x.1 × IfSome x.0 FitsValue
unfolding optional_at some_value_at byte_at
optional_takes [] x fits e = absurd cc
optional_takes (zero ∷ bytes) x fits e =
    subst (λ (y : Option Value × List ℕ). Takes (0 ∷ bytes) (optional y.0) y.1 × IfSome y.0 FitsValue)
    (ok_is (None, bytes) x e)
    (record { parts = refl; rest_fits = IsBytes-rest 0 bytes fits }, tt)
optional_takes (suc zero ∷ bytes) x fits e =
    let b = bind_ok (value_at bytes) (λ v. Ok (Some v.0, v.1)) x e in
    let t = value_codec.takes bytes b.0 (IsBytes-rest 1 bytes fits) b.1 in
    subst (λ (y : Option Value × List ℕ). Takes (1 ∷ bytes) (optional y.0) y.1 × IfSome y.0 FitsValue)
    (ok_is (Some b.0.0, b.0.1) x b.2)
    (record { parts = ap (λ (w : List ℕ). 1 ∷ w) t.0.parts; rest_fits = t.0.rest_fits }, t.1)
optional_takes (suc (suc b) ∷ bytes) x fits e =
    let flag = suc (suc b) in
    let other : Result (Option Value × List ℕ) Fault = cond (eqb flag 1) (some_value_at bytes) (Err fault.Flag) in
    elim (chosen (eqb flag 0) (Ok (None, bytes)) other (Ok x) e) [
      | inl p ↦ absurd (omega (arith, eqb-true flag 0 p.0))
      | inr p ↦ elim (chosen (eqb flag 1) (some_value_at bytes) (Err fault.Flag) (Ok x) p.1) [
        | inl q ↦ absurd (omega (arith, eqb-true flag 1 q.0))
        | inr q ↦ absurd cc
      ]
    ]

optional_again : (o : Option Value) (rest : List ℕ) → IfSome o FitsValue
    → optional_at (optional o ++ rest) ≡ Ok (o, rest)
unfolding optional_at some_value_at byte_at
optional_again None rest h = refl
optional_again (Some v) rest h = rw (value_codec.again v rest h) refl

pub optional_codec : IsCodec optional optional_at (λ o. IfSome o FitsValue)
optional_codec = record { takes = optional_takes; again = optional_again }
