-- The pairs of a map in a span, where a walk over them begins.
use Rattle.krl_cache.proofs.Names.{◌≡◌, ℕ, suc, ◌+◌, ◌≤◌, Bool, true, false, cond, length, take, drop, List, [], ◌∷◌, ◌++◌, append-nil, refl, sym, ap, subst, ◌∙◌, arith, Less, Equal, Greater, filter}
use Rattle.krl_cache.proofs.Names.{IsStrictlySortedBy, nat_cmp, keys_of, entries_between, Included, Excluded, take-append-drop, lies_in, RiseWithin, AreOut, Rise, Stands}
use Rattle.std.specs.declared.cmp.Ordering.{Ordering}
use Rattle.std_collections.specs.Btree.Order.{by, until, past}
use Rattle.krl_cache.proofs.Rests.{rise_of, between}
use Rattle.krl_cache.proofs.Windows.{inside_window}

pub rise_less : {V : Type 0} (lo more : ℕ) (es : List (ℕ × V)) → lo ≤ more → Rise more es → Rise lo es
rise_less lo more [] l h = tt
rise_less lo more (e ∷ es) l h = (omega (arith, l, h.0), h.1)

-- The first pairs of a list, up to the end of a span

pub until_past : {V : Type 0} (t : ℕ → Ordering) (es : List (ℕ × V)) → es ≡ until t es ++ past t es
unfolding until past
until_past t [] = refl
until_past {V} t (e ∷ es) =
    elim (t e.0) as (λ (o : Ordering). e ∷ es ≡ by o [] [] (e ∷ until t es) ++ by o (e ∷ es) (e ∷ es) (past t es)) [
      | Less ↦ refl
      | Equal ↦ refl
      | Greater ↦ ap (λ (l : List (ℕ × V)). e ∷ l) (until_past t es)
    ]

-- The span at the start

abbrev AreIn : {V : Type 0} → ℕ → ℕ → List (ℕ × V) → Type 0
AreIn lo hi [] = Unit {0}
AreIn lo hi (e ∷ es) = (lies_in lo hi e.0 ≡ true) × AreIn lo hi es

chosen_in : {V : Type 0} (lo hi : ℕ) (es : List (ℕ × V)) → AreIn lo hi (filter (λ (e : ℕ × V). lies_in lo hi e.0) es)
chosen_in lo hi [] = tt
chosen_in {V} lo hi (e ∷ es) =
    let rest = chosen_in lo hi es in
    let others = filter (λ (x : ℕ × V). lies_in lo hi x.0) es in
    elim (lies_in lo hi e.0) as (λ (b : Bool). lies_in lo hi e.0 ≡ b → AreIn lo hi (cond b (e ∷ others) others)) [
      | true ↦ λ t. (t, rest)
      | false ↦ λ t. rest
    ] refl

module _ {V : Type 0} (lo hi : ℕ) where
  few : List (ℕ × V) → ℕ
  few es = length (filter (λ (e : ℕ × V). lies_in lo hi e.0) es)

  fewer : (a c : List (ℕ × V)) → few c ≤ few (a ++ c)
  unfolding few
  fewer [] c = omega arith
  fewer (e ∷ a) c =
      let rest = fewer a c in
      let others = filter (λ (x : ℕ × V). lies_in lo hi x.0) (a ++ c) in
      elim (lies_in lo hi e.0) as (λ (b : Bool). few c ≤ length (cond b (e ∷ others) others)) [
        | true ↦ omega (arith, rest)
        | false ↦ rest
      ]

  all_few : (x b : List (ℕ × V)) → AreIn lo hi x → few (x ++ b) ≡ length x + few b
  unfolding few
  all_few [] b h = omega arith
  all_few (e ∷ x) b h =
      let others = filter (λ (z : ℕ × V). lies_in lo hi z.0) (x ++ b) in
      let rest = all_few x b h.1 in
      ap (λ (t : Bool). length (cond t (e ∷ others) others)) h.0 ∙ omega (arith, rest)

  out_front : (a c : List (ℕ × V)) → few (a ++ c) ≤ few c → AreOut lo hi a
  unfolding few
  out_front [] c h = tt
  out_front (e ∷ a) c h =
      let more = fewer a c in
      let others = filter (λ (x : ℕ × V). lies_in lo hi x.0) (a ++ c) in
      elim (lies_in lo hi e.0) as (λ (b : Bool). lies_in lo hi e.0 ≡ b → length (cond b (e ∷ others) others) ≤ few c → AreOut lo hi (e ∷ a)) [
        | true ↦ λ t l. absurd (omega (arith, l, more))
        | false ↦ λ t l. (t, out_front a c l)
      ] refl h

  none_few : (a : List (ℕ × V)) → few (a ++ []) ≡ few a
  none_few a = ap few (append-nil a)

few_of_none : (V : Type 0) (lo hi : ℕ) → few {V = V} lo hi [] ≡ 0
unfolding few
few_of_none V lo hi = refl

outs : {V : Type 0} (lo hi : ℕ) (a x b : List (ℕ × V)) → AreIn lo hi x → few lo hi (a ++ (x ++ b)) ≡ length x → AreOut lo hi a × AreOut lo hi b
outs {V} lo hi a x b h n =
    let most = fewer lo hi a (x ++ b) in
    let each = all_few lo hi x b h in (
      out_front lo hi a (x ++ b) (omega (arith, n, each)),
      out_front lo hi b [] (omega (arith, none_few lo hi b, n, each, most, few_of_none V lo hi)),
    )

rise_tail : {V : Type 0} (lo : ℕ) (a c : List (ℕ × V)) → Rise lo (a ++ c) → Rise lo c
rise_tail lo [] c h = h
rise_tail lo (e ∷ a) c h = rise_less lo (suc e.0) c (omega (arith, h.0)) (rise_tail (suc e.0) a c h.1)

in_row : {V : Type 0} (lo hi from low : ℕ) (xs b : List (ℕ × V)) → low ≤ hi → ((q : ℕ) → from ≤ q → lo ≤ q → low ≤ q) → Rise from (xs ++ b) → AreIn lo hi xs → RiseWithin low hi xs
in_row lo hi from low [] b l up h a = l
in_row lo hi from low (e ∷ xs) b l up h a =
    let ends = inside_window lo hi e.0 a.0 in
    (up e.0 h.0 ends.0, in_row lo hi (suc e.0) (suc e.0) xs b (omega (arith, ends.1)) (λ q x y. x) h.1 a.1)

counted : {V : Type 0} (lo hi : ℕ) (es xs : List (ℕ × V)) → xs ≡ filter (λ (e : ℕ × V). lies_in lo hi e.0) es → few lo hi es ≡ length xs
unfolding few
counted {V} lo hi es xs is = ap (λ (z : List (ℕ × V)). length z) (sym is)

pub starts_off : {F V : Type 0} (T : F → ℕ → V → Bool → V → F → Type 0) (f₀ : F) (lo hi : ℕ) (es : List (ℕ × V)) (i : ℕ) (t : ℕ → Ordering) → lo ≤ hi → IsStrictlySortedBy nat_cmp (keys_of es) → until t (drop i es) ≡ entries_between nat_cmp (Included lo) (Excluded hi) es → Stands T f₀ lo hi es f₀ (until t (drop i es)) es
starts_off {F} {V} T f₀ lo hi es i t l sorted between_is = record {
  front = take i es;
  asked = [];
  kept = [];
  back = past t (drop i es);
  whole = halves;
  left = halves;
  ran = (refl, refl);
  rise = rise_of es sorted;
  before = (out halves chosen).0;
  within = in_row lo hi 0 lo (until t (drop i es)) (past t (drop i es)) l (λ q a b. b)
      (rise_tail 0 (take i es) (until t (drop i es) ++ past t (drop i es)) (subst (λ (z : List (ℕ × V)). Rise 0 z) halves (rise_of es sorted)))
      (all_in chosen);
  after = (out halves chosen).1;
}
  where
    halves : es ≡ take i es ++ (until t (drop i es) ++ past t (drop i es))
    halves = sym (take-append-drop i es) ∙ ap (λ (z : List (ℕ × V)). take i es ++ z) (until_past t (drop i es))

    chosen : until t (drop i es) ≡ filter (λ (e : ℕ × V). lies_in lo hi e.0) es
    chosen = between_is ∙ between lo hi es

    all_in : until t (drop i es) ≡ filter (λ (e : ℕ × V). lies_in lo hi e.0) es → AreIn lo hi (until t (drop i es))
    all_in is = subst (λ (z : List (ℕ × V)). AreIn lo hi z) (sym is) (chosen_in lo hi es)

    out : es ≡ take i es ++ (until t (drop i es) ++ past t (drop i es)) → until t (drop i es) ≡ filter (λ (e : ℕ × V). lies_in lo hi e.0) es → AreOut lo hi (take i es) × AreOut lo hi (past t (drop i es))
    out is all = outs lo hi (take i es) (until t (drop i es)) (past t (drop i es)) (all_in all) (ap (few lo hi) (sym is) ∙ counted lo hi es (until t (drop i es)) all)

-- if nothing of the map lies in the span
pub empty_span : {F V : Type 0} (T : F → ℕ → V → Bool → V → F → Type 0) (f₀ : F) (lo hi : ℕ) (es : List (ℕ × V)) → lo ≤ hi → IsStrictlySortedBy nat_cmp (keys_of es) → [] ≡ entries_between nat_cmp (Included lo) (Excluded hi) es → Stands T f₀ lo hi es f₀ [] es
empty_span {F} {V} T f₀ lo hi es l sorted none = record {
  front = es;
  asked = [];
  kept = [];
  back = [];
  whole = sym (append-nil es);
  left = sym (append-nil es);
  ran = (refl, refl);
  rise = rise_of es sorted;
  before = (outs lo hi es [] [] tt (ap (few lo hi) (append-nil es) ∙ counted lo hi es [] (none ∙ between lo hi es))).0;
  within = l;
  after = tt;
}
