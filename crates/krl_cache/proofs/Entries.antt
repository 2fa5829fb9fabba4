-- Entries in the order of their points, picked, and what is made of them.
use Rattle.krl_cache.proofs.Names.{◌≡◌, ℕ, suc, ◌≤◌, ◌<◌, Bool, true, false, cond, max, List, [], ◌∷◌, map, Option, None, Some, refl, ap, subst, ◌∙◌, arith, nat_eq, filter_map, cons_option}
use Rattle.krl_cache.proofs.Names.{option_and_then, nat_cmp, eq_by_cmp, is_lt, find, is_sorted, nat_tests, and_from, END, KeyPart, Entry, first_key_at, AreAscending, part_of, lies_in, pick, tagged}
use Rattle.krl_cache.proofs.Names.{key_piece, RiseWithin, AreRead}
use Rattle.std.specs.FinMap.Entries.{below_all}
use Rattle.krl_cache.proofs.Windows.{inside_window}

pub rise_le : {A : Type 0} (a b : ℕ) (es : List (ℕ × A)) → RiseWithin a b es → a ≤ b
rise_le a b [] h = h
rise_le a b (e ∷ es) h = omega (arith, h.0, rise_le (suc e.0) b es h.1)

apart_before : (p k : ℕ) → p < k → eq_by_cmp nat_cmp p k ≡ false
apart_before p k l = grind (arith, nat_tests)

ties : (p k : ℕ) → eq_by_cmp nat_cmp p k ≡ true → p ≡ k
ties p k h = grind (arith, nat_tests)

pub find_before : {A : Type 0} (a b : ℕ) (es : List (ℕ × A)) (p : ℕ) → RiseWithin a b es → p < a → find nat_cmp p es ≡ None
find_before a b [] p h l = refl
find_before a b (e ∷ es) p h l =
    rw (apart_before p e.0 (omega (arith, h.0, l))) (find_before (suc e.0) b es p h.1 (omega (arith, h.0, l)))

-- A window

picked_here : {B : Type 0} (k : ℕ) (t : Bool) (o : Option B) (rest : List (ℕ × B)) → find nat_cmp k rest ≡ None → find nat_cmp k (cons_option (cond t (tagged k o) None) rest) ≡ cond t o None
picked_here k true None rest h = h
picked_here k true (Some b) rest h =
    let same : eq_by_cmp nat_cmp k k ≡ true = grind (arith, nat_tests) in
    rw same refl
picked_here k false o rest h = h

picked_elsewhere : {B : Type 0} (p k : ℕ) (t : Bool) (o : Option B) (rest : List (ℕ × B)) → eq_by_cmp nat_cmp p k ≡ false → find nat_cmp p (cons_option (cond t (tagged k o) None) rest) ≡ find nat_cmp p rest
picked_elsewhere p k true None rest h = refl
picked_elsewhere p k true (Some b) rest h = rw h refl
picked_elsewhere p k false o rest h = refl

nothing : {B : Type 0} (b : Bool) (o : Option B) → o ≡ None → cond b o None ≡ None
nothing true o h = h
nothing false o h = refl

pub nothing_in : {B : Type 0} (b : Bool) → ◌≡◌ {A = Option B} None (cond b None None)
nothing_in true = refl
nothing_in false = refl

pub find-pick : {A B : Type 0} (lo hi : ℕ) (f : A → Option B) (a b : ℕ) (es : List (ℕ × A)) (p : ℕ) → RiseWithin a b es → find nat_cmp p (filter_map (pick lo hi f) es) ≡ cond (lies_in lo hi p) (option_and_then f (find nat_cmp p es)) None
find-pick {A} {B} lo hi f a b [] p h = nothing_in {B = B} (lies_in lo hi p)
find-pick {A} {B} lo hi f a b (e ∷ es) p h =
    let rest = find-pick lo hi f (suc e.0) b es p h.1 in
    elim (eq_by_cmp nat_cmp p e.0) as (λ (t : Bool). eq_by_cmp nat_cmp p e.0 ≡ t → find nat_cmp p (filter_map (pick lo hi f) (e ∷ es)) ≡ cond (lies_in lo hi p) (option_and_then f (cond t (Some e.1) (find nat_cmp p es))) None) [
      | true ↦ λ t.
          let at : p ≡ e.0 = ties p e.0 t in
          let missing : find nat_cmp p es ≡ None = find_before (suc e.0) b es p h.1 (omega (arith, at)) in
          let none : find nat_cmp p (filter_map (pick lo hi f) es) ≡ None = rest ∙ nothing (lies_in lo hi p) (option_and_then f (find nat_cmp p es)) (ap (λ (o : Option A). option_and_then f o) missing) in
          subst (λ (k : ℕ). find nat_cmp p (cons_option (cond (lies_in lo hi k) (tagged k (f e.1)) None) (filter_map (pick lo hi f) es)) ≡ cond (lies_in lo hi p) (f e.1) None) at
          (picked_here p (lies_in lo hi p) (f e.1) (filter_map (pick lo hi f) es) none)
      | false ↦ λ t. picked_elsewhere p e.0 (lies_in lo hi e.0) (f e.1) (filter_map (pick lo hi f) es) t ∙ rest
    ] refl

pub rise-pick : {A B : Type 0} (lo hi : ℕ) (f : A → Option B) (a b from : ℕ) (es : List (ℕ × A)) → RiseWithin a b es → from ≤ hi → from ≤ max a lo → RiseWithin from hi (filter_map (pick lo hi f) es)
rise-pick lo hi f a b from [] h l m = l
rise-pick {A} {B} lo hi f a b from (e ∷ es) h l m =
    let others = filter_map (pick lo hi f) es in
    let skip : RiseWithin from hi others = rise-pick lo hi f (suc e.0) b from es h.1 l (omega (arith, m, h.0)) in
    elim (lies_in lo hi e.0) as (λ (t : Bool). lies_in lo hi e.0 ≡ t → RiseWithin from hi (cons_option (cond t (tagged e.0 (f e.1)) None) others)) [
      | true ↦ λ t.
          let at = inside_window lo hi e.0 t in
          elim (f e.1) as (λ (o : Option B). RiseWithin from hi (cons_option (tagged e.0 o) others)) [
            | None ↦ skip
            | Some v ↦ (omega (arith, m, h.0, at.0), rise-pick lo hi f (suc e.0) b (suc e.0) es h.1 (omega (arith, at.1)) (omega arith))
          ]
      | false ↦ λ t. skip
    ] refl

-- What is made of them

less : (k j : ℕ) → k < j → is_lt (nat_cmp k j) ≡ true
less k j l = grind (arith, nat_tests)

below : {A : Type 0} (k a b : ℕ) (es : List (ℕ × A)) → k < a → RiseWithin a b es → below_all nat_cmp k es ≡ true
below k a b [] l h = refl
below k a b (e ∷ es) l h =
    and_from (is_lt (nat_cmp k e.0)) (below_all nat_cmp k es) (less k e.0 (omega (arith, l, h.0))) (below k (suc e.0) b es (omega (arith, l, h.0)) h.1)

pub rise_sorted : {A : Type 0} (a b : ℕ) (es : List (ℕ × A)) → RiseWithin a b es → is_sorted nat_cmp es ≡ true
rise_sorted a b [] h = refl
rise_sorted a b (e ∷ es) h =
    and_from (below_all nat_cmp e.0 es) (is_sorted nat_cmp es) (below e.0 (suc e.0) b es (omega arith) h.1) (rise_sorted (suc e.0) b es h.1)

part_in : (b : Bool) (e : Entry) (o : Option Entry) (r : KeyPart) → r ≡ part_of o → cond b e.part r ≡ part_of (cond b (Some e) o)
part_in true e o r h = refl
part_in false e o r h = h

pub keys_say : (es : List (ℕ × Entry)) (p : ℕ) → first_key_at (map key_piece es) p ≡ part_of (find nat_cmp p es)
keys_say [] p = refl
keys_say (e ∷ es) p =
    let test : nat_eq p e.0 ≡ eq_by_cmp nat_cmp p e.0 = grind (arith, nat_tests) in
    ap (λ (b : Bool). cond b e.1.part (first_key_at (map key_piece es) p)) test
    ∙ part_in (eq_by_cmp nat_cmp p e.0) e.1 (find nat_cmp p es) (first_key_at (map key_piece es) p) (keys_say es p)

pub keys_ascend : (a b : ℕ) (es : List (ℕ × Entry)) → b ≤ suc END → RiseWithin a b es → AreRead es → AreAscending a (map key_piece es)
keys_ascend a b [] t h r = tt
keys_ascend a b (e ∷ es) t h r =
    (h.0, omega (arith, rise_le (suc e.0) b es h.1, t), r.0, keys_ascend (suc e.0) b es t h.1 r.1)
