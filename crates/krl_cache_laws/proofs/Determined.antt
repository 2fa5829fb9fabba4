-- One pair of lists describes a belief.
use Rattle.std.proofs.Common.{◌≡◌, ◌≢◌, ℕ, suc, ◌≤◌, ◌<◌, inl, inr, true, false, List, [], ◌∷◌, refl, sym, ap, subst, ◌∙◌, arith}
use Rattle.std.specs.Prelude.{nat_eq}
use Rattle.std.proofs.lemmas.Bool.Decides.{nat_tests, leb_tells}
use Rattle.krl_modes.specs.declared.part.RangePart.TheVariants as range
use Rattle.krl_modes.specs.declared.part.KeyPart.{KeyPart}
use Rattle.krl_modes.specs.declared.part.KeyPart.TheVariants as key
use Rattle.krl_modes.specs.Parts.{reads_key}
use Rattle.krl_modes.specs.Spans.{contains}
use Rattle.krl_messages.specs.declared.range_pieces.RangePiece.{RangePiece}
use Rattle.krl_messages.specs.declared.key_pieces.KeyPiece.{KeyPiece}
use Rattle.krl_cache.specs.Kept.{first_range_at, first_key_at, AreInOrder, DiffersFromNext, AreMerged, AreAscending}
use Rattle.krl_cache.proofs.Described.{in_order_before}
use Rattle.krl_cache_laws.specs.Runs.{PiecesAreDetermined}

-- Range parts

inside : (x : RangePiece) (xs : List RangePiece) (q : ℕ) → x.span.lo ≤ q → q < x.span.hi → first_range_at (x ∷ xs) q ≡ x.part
inside x xs q a b = let here : contains x.span q ≡ true = grind (arith, nat_tests) in rw here refl

behind : (x : RangePiece) (xs : List RangePiece) (q : ℕ) → x.span.hi ≤ q → first_range_at (x ∷ xs) q ≡ first_range_at xs q
behind x xs q a = let out : contains x.span q ≡ false = grind (arith, nat_tests) in rw out refl

-- past the first piece another part holds
changes : (x : RangePiece) (xs : List RangePiece) → x.part ≢ range.N → DiffersFromNext x xs → AreInOrder x.span.hi xs → first_range_at xs x.span.hi ≢ x.part
changes x [] held d h same = held (sym same)
changes x (y ∷ ys) held d h same =
    elim (leb_tells y.span.lo x.span.hi) [
      | inl a ↦ d (omega (arith, a.1, h.0)) (sym (inside y ys x.span.hi a.1 (omega (arith, h.0, h.1))) ∙ same)
      | inr a ↦ held (sym same ∙ in_order_before y.span.lo x.span.hi (y ∷ ys) (omega arith, h.1, h.2, h.3) a.1)
    ]

none_behind : (lo : ℕ) (y : RangePiece) (ys : List RangePiece) → AreInOrder lo (y ∷ ys) → AreMerged (y ∷ ys) → ((q : ℕ) → range.N ≡ first_range_at (y ∷ ys) q) → ⊥
none_behind lo y ys h m same = m.0 (sym (inside y ys y.span.lo (omega arith) h.1) ∙ sym (same y.span.lo))

no_less : (lo : ℕ) (x : RangePiece) (xs : List RangePiece) (y : RangePiece) (ys : List RangePiece) → AreInOrder lo (x ∷ xs) → AreMerged (x ∷ xs) → AreInOrder lo (y ∷ ys) → ((q : ℕ) → first_range_at (x ∷ xs) q ≡ first_range_at (y ∷ ys) q) → x.span.lo < y.span.lo → ⊥
no_less lo x xs y ys h m k same l =
    m.0 (sym (inside x xs x.span.lo (omega arith) h.1) ∙ same x.span.lo ∙ in_order_before y.span.lo x.span.lo (y ∷ ys) (omega arith, k.1, k.2, k.3) l)

no_shorter : (lo : ℕ) (x : RangePiece) (xs : List RangePiece) (y : RangePiece) (ys : List RangePiece) → AreInOrder lo (x ∷ xs) → AreMerged (x ∷ xs) → ((q : ℕ) → first_range_at (x ∷ xs) q ≡ first_range_at (y ∷ ys) q) → x.span.lo ≡ y.span.lo → x.part ≡ y.part → x.span.hi < y.span.hi → ⊥
no_shorter lo x xs y ys h m same e part l =
    changes x xs m.0 m.1 h.3
    (sym (behind x xs x.span.hi (omega arith)) ∙ same x.span.hi ∙ inside y ys x.span.hi (omega (arith, e, h.1)) l ∙ sym part)

same_number : (a b : ℕ) → (a < b → ⊥) → (b < a → ⊥) → a ≡ b
same_number a b x y =
    elim (leb_tells a b) [
      | inl h ↦
          elim (leb_tells b a) [
            | inl k ↦ omega (arith, h.1, k.1)
            | inr k ↦ absurd (x k.1)
          ]
      | inr h ↦ absurd (y h.1)
    ]

same_rest : (lo : ℕ) (x : RangePiece) (xs : List RangePiece) (y : RangePiece) (ys : List RangePiece) → AreInOrder lo (x ∷ xs) → AreInOrder lo (y ∷ ys) → x.span.hi ≡ y.span.hi → ((q : ℕ) → first_range_at (x ∷ xs) q ≡ first_range_at (y ∷ ys) q) → (q : ℕ) → first_range_at xs q ≡ first_range_at ys q
same_rest lo x xs y ys h k e same q =
    elim (leb_tells x.span.hi q) [
      | inl a ↦ sym (behind x xs q a.1) ∙ same q ∙ behind y ys q (omega (arith, a.1, e))
      | inr a ↦ in_order_before x.span.hi q xs h.3 a.1 ∙ sym (in_order_before y.span.hi q ys k.3 (omega (arith, a.1, e)))
    ]

same_pieces : (x y : RangePiece) (xs ys : List RangePiece) → x.span.lo ≡ y.span.lo → x.span.hi ≡ y.span.hi → x.part ≡ y.part → xs ≡ ys → ◌≡◌ {A = List RangePiece} (x ∷ xs) (y ∷ ys)
same_pieces x y xs ys lo hi part rest = λ i. record { span = record { lo = lo i; hi = hi i }; part = part i } ∷ rest i

one_ranges : (lo : ℕ) (xs ys : List RangePiece) → AreInOrder lo xs → AreMerged xs → AreInOrder lo ys → AreMerged ys → ((q : ℕ) → first_range_at xs q ≡ first_range_at ys q) → xs ≡ ys
one_ranges lo [] [] h m k n same = refl
one_ranges lo [] (y ∷ ys) h m k n same = absurd (none_behind lo y ys k n same)
one_ranges lo (x ∷ xs) [] h m k n same = absurd (none_behind lo x xs h m (λ q. sym (same q)))
one_ranges lo (x ∷ xs) (y ∷ ys) h m k n same =
    let back : (q : ℕ) → first_range_at (y ∷ ys) q ≡ first_range_at (x ∷ xs) q = λ q. sym (same q) in
    let begin : x.span.lo ≡ y.span.lo = same_number x.span.lo y.span.lo (no_less lo x xs y ys h m k same) (no_less lo y ys x xs k n h back) in
    let part : x.part ≡ y.part = sym (inside x xs x.span.lo (omega arith) h.1) ∙ same x.span.lo ∙ inside y ys x.span.lo (omega (arith, begin)) (omega (arith, begin, k.1)) in
    let end : x.span.hi ≡ y.span.hi = same_number x.span.hi y.span.hi (no_shorter lo x xs y ys h m same begin part) (no_shorter lo y ys x xs k n back (sym begin) (sym part)) in
    let rest : xs ≡ ys = one_ranges x.span.hi xs ys h.3 m.2 (subst (λ (i : ℕ). AreInOrder i ys) (sym end) k.3) n.2 (same_rest lo x xs y ys h k end same) in
    same_pieces x y xs ys begin end part rest

-- Key parts

here : (k : KeyPiece) (ks : List KeyPiece) → first_key_at (k ∷ ks) k.point ≡ k.part
here k ks = let same : nat_eq k.point k.point ≡ true = grind (arith, nat_tests) in rw same refl

past : (k : KeyPiece) (ks : List KeyPiece) (q : ℕ) → k.point < q → first_key_at (k ∷ ks) q ≡ first_key_at ks q
past k ks q l = let ne : nat_eq q k.point ≡ false = grind (arith, nat_tests) in rw ne refl

none_yet : (lo : ℕ) (ks : List KeyPiece) (q : ℕ) → AreAscending lo ks → q < lo → first_key_at ks q ≡ key.N
none_yet lo [] q h l = refl
none_yet lo (k ∷ ks) q h l =
    let ne : nat_eq q k.point ≡ false = apart q k.point (omega (arith, h.0, l)) in
    rw ne (none_yet (suc k.point) ks q h.3 (omega (arith, h.0, l)))
  where
    apart : (a b : ℕ) → a < b → nat_eq a b ≡ false
    apart a b l = grind (arith, nat_tests)

held : (k : KeyPart) → reads_key k ≡ true → k ≡ key.N → ⊥
held k e n = let bad : reads_key key.N ≡ true = subst (λ (x : KeyPart). reads_key x ≡ true) n e in let no : false ≡ true = bad in cc

none_read : (lo : ℕ) (k : KeyPiece) (ks : List KeyPiece) → AreAscending lo (k ∷ ks) → ((q : ℕ) → key.N ≡ first_key_at (k ∷ ks) q) → ⊥
none_read lo k ks h same = held k.part h.2 (sym (here k ks) ∙ sym (same k.point))

no_sooner : (lo : ℕ) (k : KeyPiece) (ks : List KeyPiece) (j : KeyPiece) (js : List KeyPiece) → AreAscending lo (k ∷ ks) → AreAscending lo (j ∷ js) → ((q : ℕ) → first_key_at (k ∷ ks) q ≡ first_key_at (j ∷ js) q) → k.point < j.point → ⊥
no_sooner lo k ks j js h g same l =
    held k.part h.2 (sym (here k ks) ∙ same k.point ∙ none_yet j.point (j ∷ js) k.point (omega arith, g.1, g.2, g.3) l)

same_others : (lo : ℕ) (k : KeyPiece) (ks : List KeyPiece) (j : KeyPiece) (js : List KeyPiece) → AreAscending lo (k ∷ ks) → AreAscending lo (j ∷ js) → k.point ≡ j.point → ((q : ℕ) → first_key_at (k ∷ ks) q ≡ first_key_at (j ∷ js) q) → (q : ℕ) → first_key_at ks q ≡ first_key_at js q
same_others lo k ks j js h g e same q =
    elim (leb_tells (suc k.point) q) [
      | inl a ↦ sym (past k ks q a.1) ∙ same q ∙ past j js q (omega (arith, a.1, e))
      | inr a ↦ none_yet (suc k.point) ks q h.3 a.1 ∙ sym (none_yet (suc j.point) js q g.3 (omega (arith, a.1, e)))
    ]

one_keys : (lo : ℕ) (ks js : List KeyPiece) → AreAscending lo ks → AreAscending lo js → ((q : ℕ) → first_key_at ks q ≡ first_key_at js q) → ks ≡ js
one_keys lo [] [] h g same = refl
one_keys lo [] (j ∷ js) h g same = absurd (none_read lo j js g same)
one_keys lo (k ∷ ks) [] h g same = absurd (none_read lo k ks h (λ q. sym (same q)))
one_keys lo (k ∷ ks) (j ∷ js) h g same =
    let point : k.point ≡ j.point = same_number k.point j.point (no_sooner lo k ks j js h g same) (no_sooner lo j js k ks g h (λ q. sym (same q))) in
    let part : k.part ≡ j.part = sym (here k ks) ∙ same k.point ∙ ap (first_key_at (j ∷ js)) point ∙ here j js in
    let rest : ks ≡ js = one_keys (suc k.point) ks js h.3 (subst (λ (i : ℕ). AreAscending (suc i) js) (sym point) g.3) (same_others lo k ks j js h g point same) in
    λ i. record { point = point i; part = part i } ∷ rest i

pub pieces_are_determined : PiecesAreDetermined
pieces_are_determined b ps qs h k =
    let ranges : ps.ranges ≡ qs.ranges = one_ranges 0 ps.ranges qs.ranges h.ranges_in_order h.merged k.ranges_in_order k.merged (λ q. h.ranges q ∙ sym (k.ranges q)) in
    let keys : ps.keys ≡ qs.keys = one_keys 0 ps.keys qs.keys h.keys_in_order k.keys_in_order (λ q. h.keys q ∙ sym (k.keys q)) in
    λ i. record { ranges = ranges i; keys = keys i }
