-- A walk over the pairs of a map in a span, step by step, till the test was asked of each.
use Rattle.krl_cache.proofs.Names.{◌≡◌, ℕ, suc, ◌+◌, ◌≤◌, Bool, true, false, cond, length, take, drop, List, [], ◌∷◌, ◌++◌, Option, None, Some, IfSome, append_assoc, refl, sym, ap, subst, ◌∙◌, arith}
use Rattle.krl_cache.proofs.Names.{option_to_list, IsStrictlySortedBy, nat_cmp, keys_of, BTreeMap, entries_between, Included, Excluded, take-append-drop, drop-drop, RiseWithin, Rise, Sifts, IsSifted}
use Rattle.krl_cache.proofs.Names.{Stands, StandsAt}
use Rattle.std.specs.declared.cmp.Ordering.{Ordering}
use Rattle.std.specs.Bool.{MatchBool}
use Rattle.std.specs.List.Retain.{ExtractsNext}
use Rattle.std_collections.specs.declared.btree_map.extract.Cursor.{Cursor}
use Rattle.std_collections.specs.Btree.Order.{until, past}
use Rattle.std_collections.specs.Layout.Retain.{CallAtEntry}
use Rattle.std_collections.specs.Layout.BTreeMap.{index_at}
use Rattle.std_collections.specs.Layout.BTreeMapExtract.{ExtractsAt, ExtractsUp, extract_rest}
use Rattle.std.proofs.Math.Seq.{drop-append_seam}
use Rattle.krl_cache.proofs.Begun.{rise_less, until_past, starts_off, empty_span}

-- Lists whose keys rise

rise_to : {V : Type 0} (lo : ℕ) (c d : List (ℕ × V)) (x : ℕ × V) → Rise lo (c ++ (x ∷ d)) → lo ≤ x.0
rise_to lo [] d x h = h.0
rise_to lo (y ∷ c) d x h = omega (arith, h.0, rise_to (suc y.0) c d x h.1)

first_same : {V : Type 0} (x y : V) (b d : List V) → x ∷ b ≡ y ∷ d → (x ≡ y) × (b ≡ d)
first_same x y b d e = (cc, cc)

-- one list is split at one pair in one way
pub split_once : {V : Type 0} (lo : ℕ) (a c b d : List (ℕ × V)) (x : ℕ × V) → Rise lo (a ++ (x ∷ b)) → a ++ (x ∷ b) ≡ c ++ (x ∷ d) → (a ≡ c) × (b ≡ d)
split_once lo [] [] b d x h e = (refl, (first_same x x b d e).1)
split_once {V} lo [] (y ∷ c) b d x h e =
    let same = first_same x y b (c ++ (x ∷ d)) e in
    let up : suc x.0 ≤ x.0 = rise_to (suc x.0) c d x (subst (λ (z : List (ℕ × V)). Rise (suc x.0) z) same.1 h.1) in
    absurd (omega (arith, up))
split_once lo (y ∷ a) [] b d x h e =
    let same = first_same y x (a ++ (x ∷ b)) d e in
    let up : suc y.0 ≤ x.0 = rise_to (suc y.0) a b x h.1 in
    let is : y.0 ≡ x.0 = ap (λ z. z.0) same.0 in
    absurd (omega (arith, up, is))
split_once {V} lo (y ∷ a) (z ∷ c) b d x h e =
    let same = first_same y z (a ++ (x ∷ b)) (c ++ (x ∷ d)) e in
    let rest = split_once (suc y.0) a c b d x h.1 same.1 in
    (ap (λ (k : ℕ × V). k ∷ a) same.0 ∙ ap (λ (l : List (ℕ × V)). z ∷ l) rest.0, rest.1)

-- What a test did

module _ {F V : Type 0} (T : F → ℕ → V → Bool → V → F → Type 0) where
  pub sifts_on : (f : F) (us bs : List (ℕ × V)) (g h : F) (ka kb : List (ℕ × V)) → Sifts T f us g ka → Sifts T g bs h kb → Sifts T f (us ++ bs) h (ka ++ kb)
  sifts_on f [] bs g h ka kb a b =
      subst (λ (k : List (ℕ × V)). Sifts T f bs h (k ++ kb)) (sym a.1) (subst (λ (s : F). Sifts T s bs h kb) a.0 b)
  sifts_on f (e ∷ us) bs g h ka kb a b =
      (a.0, a.1, a.2, a.3 ++ kb, a.4, sifts_on a.2 us bs g h a.3 kb a.5 b, ap (λ (k : List (ℕ × V)). k ++ kb) a.6 ∙ joined a.0 (e.0, a.1) a.3 kb)
    where
      joined : (c : Bool) (x : ℕ × V) (rest more : List (ℕ × V)) → cond c rest (x ∷ rest) ++ more ≡ cond c (rest ++ more) (x ∷ (rest ++ more))
      joined true x rest more = refl
      joined false x rest more = refl

  rise_sifted : (lo : ℕ) (f : F) (us : List (ℕ × V)) (g : F) (ka b : List (ℕ × V)) → Sifts T f us g ka → Rise lo (us ++ b) → Rise lo (ka ++ b)
  rise_sifted lo f [] g ka b a h = subst (λ (k : List (ℕ × V)). Rise lo (k ++ b)) (sym a.1) h
  rise_sifted lo f (e ∷ us) g ka b a h =
      let rest = rise_sifted (suc e.0) a.2 us g a.3 b a.5 h.1 in
      subst (λ (k : List (ℕ × V)). Rise lo (k ++ b)) (sym a.6)
      (elim a.0 as (λ (c : Bool). Rise lo (cond c a.3 ((e.0, a.1) ∷ a.3) ++ b)) [
        | true ↦ rise_less lo (suc e.0) (a.3 ++ b) (omega (arith, h.0)) rest
        | false ↦ (h.0, rest)
      ])

  rise_behind : (lo : ℕ) (front : List (ℕ × V)) (f : F) (us : List (ℕ × V)) (g : F) (ka b : List (ℕ × V)) → Sifts T f us g ka → Rise lo (front ++ (us ++ b)) → Rise lo (front ++ (ka ++ b))
  rise_behind lo [] f us g ka b a h = rise_sifted lo f us g ka b a h
  rise_behind lo (e ∷ front) f us g ka b a h = (h.0, rise_behind (suc e.0) front f us g ka b a h.1)

  -- the first of xs were asked, up to the one that was picked, and ys were not
  pub record Asks (f : F) (xs : List (ℕ × V)) (r : Option (ℕ × V)) (g : F) (kept ys : List (ℕ × V)) : Type 0 where
    pub asked : List (ℕ × V)
    pub apart : xs ≡ asked ++ ys
    pub ran : Sifts T f asked g kept
    pub many : length kept + length (option_to_list r) ≡ length asked
    pub ended : r ≡ None → ys ≡ []

  pub asks : (f : F) (xs : List (ℕ × V)) (r : Option (ℕ × V)) (g : F) (kept ys : List (ℕ × V)) → ExtractsNext (CallAtEntry T) f xs r g kept ys → Asks f xs r g kept ys
  asks f [] r g kept ys n = record {
    asked = [];
    apart = sym n.3;
    ran = (n.1, n.2);
    many = ap (λ (k : List (ℕ × V)). length k + length (option_to_list r)) n.2 ∙ ap (λ (o : Option (ℕ × V)). 0 + length (option_to_list o)) n.0;
    ended = λ z. n.3;
  }
  asks f (x ∷ xs) r g kept ys n =
      elim n.0 as (λ (b : Bool). T f x.0 x.1 b n.2.1 n.1 → MatchBool b ((r ≡ Some n.2) × (g ≡ n.1) × (kept ≡ []) × (ys ≡ xs)) ((ks : List (ℕ × V)) × ExtractsNext (CallAtEntry T) n.1 xs r g ks ys × (kept ≡ n.2 ∷ ks)) → Asks f (x ∷ xs) r g kept ys) [
        | true ↦ λ t m. record {
          asked = x ∷ [];
          apart = ap (λ (l : List (ℕ × V)). x ∷ l) (sym m.3);
          ran = (true, n.2.1, n.1, [], t, (m.1, refl), m.2);
          many = ap (λ (k : List (ℕ × V)). length k + length (option_to_list r)) m.2 ∙ ap (λ (o : Option (ℕ × V)). 0 + length (option_to_list o)) m.0;
          ended = λ z. absurd (let bad : ◌≡◌ {A = Option (ℕ × V)} None (Some n.2) = sym z ∙ m.0 in cc);
        }
        | false ↦ λ t m.
            let rest = asks n.1 xs r g m.0 ys m.1 in
            record {
              asked = x ∷ rest.asked;
              apart = ap (λ (l : List (ℕ × V)). x ∷ l) rest.apart;
              ran = (false, n.2.1, n.1, m.0, t, rest.ran, m.2 ∙ ap (λ (k : ℕ). (k, n.2.1) ∷ m.0) n.3.0);
              many = ap (λ (k : List (ℕ × V)). length k + length (option_to_list r)) m.2 ∙ omega (arith, rest.many);
              ended = rest.ended;
            }
      ] n.3.1 n.4

  -- The pairs of the span

  pub sifted : (f₀ : F) (lo hi : ℕ) (old : List (ℕ × V)) (f : F) (now : List (ℕ × V)) → Stands T f₀ lo hi old f [] now → IsSifted T f₀ lo hi old now
  sifted f₀ lo hi old f now s = record {
    front = s.front;
    middle = s.asked ++ [];
    back = s.back;
    kept = s.kept ++ [];
    last = f;
    whole = s.whole;
    left = s.left ∙ ap (λ (l : List (ℕ × V)). s.front ++ l) (sym (append_assoc s.kept [] s.back));
    before = s.before;
    within = s.within;
    after = s.after;
    sifts = sifts_on f₀ s.asked [] f f s.kept [] s.ran (refl, refl);
  }

  -- if nothing is left to ask, a step changes nothing
  still : (j : ℕ) (now fs kept ys : List (ℕ × V)) (r : Option (ℕ × V)) → r ≡ None → kept ≡ [] → fs ≡ take j now ++ (kept ++ drop (j + length kept + length (option_to_list r)) now) → fs ≡ now
  still j now fs kept ys r quiet none is =
      is ∙ ap (λ (k : List (ℕ × V)). take j now ++ (k ++ drop (j + length k + length (option_to_list r)) now)) none
      ∙ ap (λ (o : Option (ℕ × V)). take j now ++ drop (j + 0 + length (option_to_list o)) now) quiet
      ∙ ap (λ (n : ℕ). take j now ++ drop n now) here ∙ take-append-drop j now
    where
      here : j + 0 + 0 ≡ j
      here = omega arith

  pub goes_on : (f₀ : F) (lo hi : ℕ) (old : List (ℕ × V)) (f : F) (xs now : List (ℕ × V)) (j : ℕ) (behind : List (ℕ × V)) (r : Option (ℕ × V)) (g : F) (ys fs : List (ℕ × V)) → Stands T f₀ lo hi old f xs now → drop j now ≡ xs ++ behind → ExtractsAt T f j xs now r g ys fs → Stands T f₀ lo hi old g ys fs
  goes_on f₀ lo hi old f [] now j behind r g ys fs s d a =
      subst (λ (z : List (ℕ × V)). Stands T f₀ lo hi old g ys z) (sym (still j now fs a.0 ys r a.1.0 a.1.2 a.2))
      (subst (λ (z : List (ℕ × V)). Stands T f₀ lo hi old g z now) (sym a.1.3)
      (subst (λ (z : F). Stands T f₀ lo hi old z [] now) (sym a.1.1) s))
  goes_on f₀ lo hi old f (x ∷ xs) now j behind r g ys fs s d a =
      record {
        front = s.front;
        asked = s.asked ++ n.asked;
        kept = s.kept ++ a.0;
        back = s.back;
        whole = s.whole ∙ ap (λ (l : List (ℕ × V)). s.front ++ (l ++ s.back)) gathered;
        left = fs_is ∙ ap (λ (l : List (ℕ × V)). l ++ (a.0 ++ (ys ++ s.back))) halves.0
            ∙ append_assoc s.front s.kept (a.0 ++ (ys ++ s.back))
            ∙ ap (λ (l : List (ℕ × V)). s.front ++ l) (sym (append_assoc s.kept a.0 (ys ++ s.back)));
        ran = sifts_on f₀ s.asked n.asked f g s.kept a.0 s.ran n.ran;
        rise = subst (λ (l : List (ℕ × V)). Rise 0 l) (sym fs_is)
            (rise_behind 0 (take j now) f n.asked g a.0 (ys ++ s.back) n.ran (subst (λ (l : List (ℕ × V)). Rise 0 l) now_is s.rise));
        before = s.before;
        within = subst (λ (l : List (ℕ × V)). RiseWithin lo hi l) gathered s.within;
        after = s.after;
      }
    where
      n : Asks f (x ∷ xs) r g a.0 ys
      n = asks f (x ∷ xs) r g a.0 ys a.1

      gathered : s.asked ++ (x ∷ xs) ≡ (s.asked ++ n.asked) ++ ys
      gathered = ap (λ (l : List (ℕ × V)). s.asked ++ l) n.apart ∙ sym (append_assoc s.asked n.asked ys)

      split_here : now ≡ take j now ++ (x ∷ (xs ++ behind))
      split_here = sym (take-append-drop j now) ∙ ap (λ (l : List (ℕ × V)). take j now ++ l) d

      halves : (take j now ≡ s.front ++ s.kept) × (xs ++ behind ≡ xs ++ s.back)
      halves =
          split_once 0 (take j now) (s.front ++ s.kept) (xs ++ behind) (xs ++ s.back) x
          (subst (λ (l : List (ℕ × V)). Rise 0 l) split_here s.rise)
          (sym split_here ∙ s.left ∙ sym (append_assoc s.front s.kept ((x ∷ xs) ++ s.back)))

      behind_is : (x ∷ xs) ++ behind ≡ n.asked ++ (ys ++ s.back)
      behind_is =
          ap (λ (l : List (ℕ × V)). x ∷ l) halves.1 ∙ ap (λ (l : List (ℕ × V)). l ++ s.back) n.apart
          ∙ append_assoc n.asked ys s.back

      now_is : now ≡ take j now ++ (n.asked ++ (ys ++ s.back))
      now_is = split_here ∙ ap (λ (l : List (ℕ × V)). take j now ++ l) behind_is

      dropped : drop (j + length a.0 + length (option_to_list r)) now ≡ ys ++ s.back
      dropped =
          ap (λ (m : ℕ). drop m now) at_asked ∙ sym (drop-drop (length n.asked) j now)
          ∙ ap (λ (l : List (ℕ × V)). drop (length n.asked) l) (d ∙ behind_is)
          ∙ drop-append_seam n.asked (ys ++ s.back)
        where
          at_asked : j + length a.0 + length (option_to_list r) ≡ j + length n.asked
          at_asked = omega (arith, n.many)

      fs_is : fs ≡ take j now ++ (a.0 ++ (ys ++ s.back))
      fs_is = a.2 ∙ ap (λ (l : List (ℕ × V)). take j now ++ (a.0 ++ l)) dropped

-- A walk

module _ {F V R : Type 0} (T : F → ℕ → V → Bool → V → F → Type 0) (end : R → ℕ → Ordering) (f₀ : F) (lo hi : ℕ) (old : List (ℕ × V)) where
  moved : (f : F) (n : BTreeMap ℕ V) (d : Option (Cursor R F)) → Stands T f₀ lo hi old f (extract_rest end n d) n.entries → IfSome d (λ t. t.within.test ≡ f) → StandsAt T end f₀ lo hi old n d
  moved f n None s h = (f, s)
  moved f n (Some t) s h = subst (λ (z : F). Stands T f₀ lo hi old z (extract_rest end n (Some t)) n.entries) (sym h) s

  pub walks_on : (known : R → Type 0) (m n : BTreeMap ℕ V) (c d : Option (Cursor R F)) (r : Option (ℕ × V)) → ((x : R) → known x) → StandsAt T end f₀ lo hi old m c → ExtractsUp T known end m c r n d → StandsAt T end f₀ lo hi old n d
  walks_on known m n None d r told s e =
      subst (λ (z : Option (Cursor R F)). StandsAt T end f₀ lo hi old n z) (sym e.2)
      (s.0, subst (λ (z : List (ℕ × V)). Stands T f₀ lo hi old s.0 [] z) (sym e.1) s.1)
  walks_on known m n (Some c) d r told s e =
      let u = e (told c.within.range) in
      let rest = drop (index_at m c.spot) m.entries in
      moved u.0 n d
      (goes_on T f₀ lo hi old c.within.test (until (end c.within.range) rest) m.entries (index_at m c.spot) (past (end c.within.range) rest) r u.0 (extract_rest end n d) n.entries s (until_past (end c.within.range) rest) u.1)
      (tests_only u.0 d u.2)
    where
      tests_only : (f : F) (z : Option (Cursor R F)) → IfSome z (λ t. (t.within.test ≡ f) × (t.within.range ≡ c.within.range)) → IfSome z (λ t. t.within.test ≡ f)
      tests_only f None h = tt
      tests_only f (Some t) h = h.0

  pub walks_out : (known : R → Type 0) (m n : BTreeMap ℕ V) (c d : Option (Cursor R F)) (r : Option (ℕ × V)) → ((x : R) → known x) → r ≡ None → StandsAt T end f₀ lo hi old m c → ExtractsUp T known end m c r n d → IsSifted T f₀ lo hi old n.entries
  walks_out known m n None d r told ended s e =
      sifted T f₀ lo hi old s.0 n.entries (subst (λ (z : List (ℕ × V)). Stands T f₀ lo hi old s.0 [] z) (sym e.1) s.1)
  walks_out known m n (Some c) d r told ended s e =
      let u = e (told c.within.range) in
      let rest = drop (index_at m c.spot) m.entries in
      let xs = until (end c.within.range) rest in
      let nothing = (asks T c.within.test xs r u.0 u.1.0 (extract_rest end n d) u.1.1).ended ended in
      sifted T f₀ lo hi old u.0 n.entries
      (subst (λ (z : List (ℕ × V)). Stands T f₀ lo hi old u.0 z n.entries) nothing
      (goes_on T f₀ lo hi old c.within.test xs m.entries (index_at m c.spot) (past (end c.within.range) rest) r u.0 (extract_rest end n d) n.entries s (until_past (end c.within.range) rest) u.1))

module _ {F V R : Type 0} (T : F → ℕ → V → Bool → V → F → Type 0) (end : R → ℕ → Ordering) (f₀ : F) (lo hi : ℕ) where
  pub walk_starts : (m n : BTreeMap ℕ V) (c : Option (Cursor R F)) (range : R) → lo ≤ hi → IsStrictlySortedBy nat_cmp (keys_of m.entries) → n ≡ m → IfSome c (λ z. (z.within.test ≡ f₀) × (z.within.range ≡ range)) → extract_rest end n c ≡ entries_between nat_cmp (Included lo) (Excluded hi) m.entries → StandsAt T end f₀ lo hi m.entries n c
  walk_starts m n c range l sorted same holds rest =
      subst (λ (z : BTreeMap ℕ V). StandsAt T end f₀ lo hi m.entries z c) (sym same)
      (begun c holds (subst (λ (z : BTreeMap ℕ V). extract_rest end z c ≡ entries_between nat_cmp (Included lo) (Excluded hi) m.entries) same rest))
    where
      begun : (d : Option (Cursor R F)) → IfSome d (λ z. (z.within.test ≡ f₀) × (z.within.range ≡ range)) → extract_rest end m d ≡ entries_between nat_cmp (Included lo) (Excluded hi) m.entries → StandsAt T end f₀ lo hi m.entries m d
      begun None h e = (f₀, empty_span T f₀ lo hi m.entries l sorted e)
      begun (Some d) h e =
          subst (λ (z : F). Stands T f₀ lo hi m.entries z (extract_rest end m (Some d)) m.entries) (sym h.0)
          (starts_off T f₀ lo hi m.entries (index_at m d.spot) (end d.within.range) l sorted e)
