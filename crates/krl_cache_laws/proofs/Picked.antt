-- Entries in the order of their points, picked and lowered.
use Rattle.std.proofs.Common.{◌≡◌, ℕ, suc, ◌-◌, ◌≤◌, ◌<◌, Bool, true, false, cond, List, [], ◌∷◌, ◌++◌, Option, None, Some, refl, sym, ap, subst, ◌∙◌, arith}
use Rattle.std.specs.Prelude.{nat_lt, nat_eq}
use Rattle.std.specs.List.{filter_map, cons_option, find as list_find}
use Rattle.std.specs.Option.{option_and_then}
use Rattle.std.specs.Ordering.{nat_cmp, eq_by_cmp}
use Rattle.std.specs.FinMap.{find}
use Rattle.std.proofs.lemmas.Bool.Decides.{nat_tests}
use Rattle.krl_modes.specs.declared.part.KeyPart.{KeyPart}
use Rattle.krl_modes.specs.declared.part.KeyPart.TheVariants as key
use Rattle.krl_modes.specs.Parts.{key_meet, reads_key}
use Rattle.krl_messages.specs.Values.{Value}
use Rattle.krl_cache.specs.declared.entry.Entry.{Entry}
use Rattle.krl_modes.specs.Spans.{Bounds, contains}
use Rattle.krl_cache.specs.Beliefs.{is_last}
use Rattle.krl_cache_laws.proofs.Clipped.{twice}
use Rattle.krl_cache.specs.Entries.{lies_in, pick, tagged, entry_of, entry_lowered, RiseWithin, AreRead}
use Rattle.krl_cache.proofs.Entries.{find-pick, find_before, nothing_in, rise-pick, rise_le}
use Rattle.krl_cache.proofs.Sifted.{within_less}

pub rise-append : {A : Type 0} (a m b : ℕ) (xs ys : List (ℕ × A)) → RiseWithin a m xs → RiseWithin m b ys → RiseWithin a b (xs ++ ys)
rise-append a m b [] ys h k = within_less a m b ys h k
rise-append a m b (x ∷ xs) ys h k = (h.0, rise-append (suc x.0) m b xs ys h.1 k)

apart_after : (p k : ℕ) → k < p → eq_by_cmp nat_cmp p k ≡ false
apart_after p k l = grind (arith, nat_tests)

pub find_after : {A : Type 0} (a b : ℕ) (es : List (ℕ × A)) (p : ℕ) → RiseWithin a b es → b ≤ p → find nat_cmp p es ≡ None
find_after a b [] p h l = refl
find_after a b (e ∷ es) p h l =
    rw (apart_after p e.0 (omega (arith, rise_le (suc e.0) b es h.1, l))) (find_after (suc e.0) b es p h.1 l)

split_none : {A : Type 0} (p m : ℕ) (r : Option A) → (p < m → r ≡ None) → r ≡ cond (nat_lt p m) None r
split_none p m r h = grind (arith, nat_tests)

split_here : {A : Type 0} (k m p : ℕ) (a : Option A) (r s : Option A) → k < m → cond (eq_by_cmp nat_cmp p k) a (cond (nat_lt p m) r s) ≡ cond (nat_lt p m) (cond (eq_by_cmp nat_cmp p k) a r) s
split_here k m p a r s l = grind (arith, nat_tests)

pub find-append : {A : Type 0} (a m b : ℕ) (xs ys : List (ℕ × A)) (p : ℕ) → RiseWithin a m xs → RiseWithin m b ys → find nat_cmp p (xs ++ ys) ≡ cond (nat_lt p m) (find nat_cmp p xs) (find nat_cmp p ys)
find-append a m b [] ys p h k = split_none p m (find nat_cmp p ys) (λ l. find_before m b ys p k l)
find-append {A} a m b (x ∷ xs) ys p h k =
    ap (λ (r : Option A). cond (eq_by_cmp nat_cmp p x.0) (Some x.1) r) (find-append (suc x.0) m b xs ys p h.1 k)
    ∙ split_here x.0 m p (Some x.1) (find nat_cmp p xs) (find nat_cmp p ys) (omega (arith, rise_le (suc x.0) m xs h.1))

-- Entries that are read

pub read-append : (xs ys : List (ℕ × Entry)) → AreRead xs → AreRead ys → AreRead (xs ++ ys)
read-append [] ys h k = k
read-append (x ∷ xs) ys h k = (h.0, read-append xs ys h.1 k)

read_own : (k : ℕ) (part : KeyPart) (value : Option Value) (rest : List (ℕ × Entry)) → AreRead rest → AreRead (cons_option (tagged k (entry_of part value)) rest)
read_own k key.N value rest h = h
read_own k key.S value rest h = (refl, h)
read_own k key.U value rest h = (refl, h)
read_own k key.X value rest h = (refl, h)

pub read-pick : (lo hi : ℕ) (keep : KeyPart) (es : List (ℕ × Entry)) → AreRead (filter_map (pick lo hi (entry_lowered keep)) es)
read-pick lo hi keep [] = tt
read-pick lo hi keep (e ∷ es) =
    elim (lies_in lo hi e.0) as (λ (t : Bool). AreRead (cons_option (cond t (tagged e.0 (entry_lowered keep e.1)) None) (filter_map (pick lo hi (entry_lowered keep)) es))) [
      | true ↦ read_own e.0 (key_meet e.1.part keep) e.1.value (filter_map (pick lo hi (entry_lowered keep)) es) (read-pick lo hi keep es)
      | false ↦ read-pick lo hi keep es
    ]

-- each entry of the list is read
pub found_read : (es : List (ℕ × Entry)) (p : ℕ) (e : Entry) → AreRead es → find nat_cmp p es ≡ Some e → reads_key e.part ≡ true
found_read [] p e h f = absurd (let bad : None ≡ Some e = f in cc)
found_read (x ∷ es) p e h f =
    elim (eq_by_cmp nat_cmp p x.0) as (λ (t : Bool). cond t (Some x.1) (find nat_cmp p es) ≡ Some e → reads_key e.part ≡ true) [
      | true ↦ λ s. let same : x.1 ≡ e = cc in subst (λ (y : Entry). reads_key y.part ≡ true) same h.0
      | false ↦ λ s. found_read es p e h.1 s
    ] f

whole : (part : KeyPart) (value : Option Value) → reads_key part ≡ true → entry_of (key_meet part key.X) value ≡ Some (record { part = part; value = value })
whole key.N value h = absurd (let bad : false ≡ true = h in cc)
whole key.S value h = refl
whole key.U value h = refl
whole key.X value h = refl

keep_all : (o : Option Entry) → ((e : Entry) → o ≡ Some e → reads_key e.part ≡ true) → option_and_then (entry_lowered key.X) o ≡ o
keep_all None h = refl
keep_all (Some e) h = whole e.part e.value (h e refl)

-- Three windows side by side, the middle one changed

three : {A : Type 0} (lo hi top p : ℕ) (r m : Option A) → lo < hi → (top ≤ p → r ≡ None) → hi ≤ top → cond (nat_lt p hi) (cond (nat_lt p lo) (cond (lies_in 0 lo p) r None) m) (cond (lies_in hi top p) r None) ≡ cond (lies_in lo hi p) m r
three lo hi top p r m l out t = grind (arith, nat_tests)

pub find_in_place : (lo hi top : ℕ) (es mid : List (ℕ × Entry)) (p : ℕ) → RiseWithin 0 top es → AreRead es → RiseWithin lo hi mid → lo < hi → hi ≤ top → find nat_cmp p ((filter_map (pick 0 lo (entry_lowered key.X)) es ++ mid) ++ filter_map (pick hi top (entry_lowered key.X)) es) ≡ cond (lies_in lo hi p) (find nat_cmp p mid) (find nat_cmp p es)
find_in_place lo hi top es mid p kept read rise l t =
    let below = filter_map (pick 0 lo (entry_lowered key.X)) es in
    let above = filter_map (pick hi top (entry_lowered key.X)) es in
    let first : RiseWithin 0 lo below = rise-pick 0 lo (entry_lowered key.X) 0 top 0 es kept (omega arith) (omega arith) in
    let last : RiseWithin hi top above = rise-pick hi top (entry_lowered key.X) 0 top hi es kept t (omega arith) in
    let same = keep_all (find nat_cmp p es) (λ e f. found_read es p e read f) in
    find-append 0 hi top (below ++ mid) above p (rise-append 0 lo hi below mid first rise) last
    ∙ ap (λ (r : Option Entry). cond (nat_lt p hi) r (find nat_cmp p above)) (find-append 0 lo hi below mid p first rise)
    ∙ ap (λ (r : Option Entry). cond (nat_lt p hi) (cond (nat_lt p lo) r (find nat_cmp p mid)) (find nat_cmp p above))
    (find-pick 0 lo (entry_lowered key.X) 0 top es p kept ∙ ap (λ (r : Option Entry). cond (lies_in 0 lo p) r None) same)
    ∙ ap (λ (r : Option Entry). cond (nat_lt p hi) (cond (nat_lt p lo) (cond (lies_in 0 lo p) (find nat_cmp p es) None) (find nat_cmp p mid)) r)
    (find-pick hi top (entry_lowered key.X) 0 top es p kept ∙ ap (λ (r : Option Entry). cond (lies_in hi top p) r None) same)
    ∙ three lo hi top p (find nat_cmp p es) (find nat_cmp p mid) l (λ out. find_after 0 top es p kept out) t

pub rise_in_place : (lo hi top : ℕ) (es mid : List (ℕ × Entry)) → RiseWithin 0 top es → RiseWithin lo hi mid → hi ≤ top → RiseWithin 0 top ((filter_map (pick 0 lo (entry_lowered key.X)) es ++ mid) ++ filter_map (pick hi top (entry_lowered key.X)) es)
rise_in_place lo hi top es mid kept rise t =
    let below = filter_map (pick 0 lo (entry_lowered key.X)) es in
    let above = filter_map (pick hi top (entry_lowered key.X)) es in
    let first : RiseWithin 0 lo below = rise-pick 0 lo (entry_lowered key.X) 0 top 0 es kept (omega arith) (omega arith) in
    let last : RiseWithin hi top above = rise-pick hi top (entry_lowered key.X) 0 top hi es kept t (omega arith) in
    rise-append 0 hi top (below ++ mid) above (rise-append 0 lo hi below mid first rise) last

pub read_in_place : (lo hi top : ℕ) (es mid : List (ℕ × Entry)) → AreRead mid → AreRead ((filter_map (pick 0 lo (entry_lowered key.X)) es ++ mid) ++ filter_map (pick hi top (entry_lowered key.X)) es)
read_in_place lo hi top es mid h =
    read-append (filter_map (pick 0 lo (entry_lowered key.X)) es ++ mid) (filter_map (pick hi top (entry_lowered key.X)) es)
    (read-append (filter_map (pick 0 lo (entry_lowered key.X)) es) mid (read-pick 0 lo key.X es) h) (read-pick hi top key.X es)

pub pair_found : (es : List (ℕ × Entry)) (p : ℕ) (e : ℕ × Entry) → list_find (λ x. nat_eq p x.0) es ≡ Some e → Some e.1 ≡ find nat_cmp p es
pair_found [] p e h = absurd (let bad : None ≡ Some e = h in cc)
pair_found (x ∷ es) p e h =
    let test : eq_by_cmp nat_cmp p x.0 ≡ nat_eq p x.0 = grind (arith, nat_tests) in
    rw test
    (elim (nat_eq p x.0) as (λ (t : Bool). cond t (Some x) (list_find (λ y. nat_eq p y.0) es) ≡ Some e → Some e.1 ≡ cond t (Some x.1) (find nat_cmp p es)) [
      | true ↦ λ s. let same : x ≡ e = cc in ap (λ (y : ℕ × Entry). Some y.1) (sym same)
      | false ↦ λ s. pair_found es p e s
    ] h)

pub pair_missing : (es : List (ℕ × Entry)) (p : ℕ) → list_find (λ x. nat_eq p x.0) es ≡ None → ◌≡◌ {A = Option Entry} None (find nat_cmp p es)
pair_missing [] p h = refl
pair_missing (x ∷ es) p h =
    let test : eq_by_cmp nat_cmp p x.0 ≡ nat_eq p x.0 = grind (arith, nat_tests) in
    rw test
    (elim (nat_eq p x.0) as (λ (t : Bool). cond t (Some x) (list_find (λ y. nat_eq p y.0) es) ≡ None → ◌≡◌ {A = Option Entry} None (cond t (Some x.1) (find nat_cmp p es))) [
      | true ↦ λ s. absurd (let bad : Some x ≡ None = s in cc)
      | false ↦ λ s. pair_missing es p s
    ] h)

-- The list that is made: what lies below the span, the span's own entries, and what lies above

pub record IsPlaced (s : Bounds) (top : ℕ) (es mid list : List (ℕ × Entry)) : Type 0 where
  pub rise : RiseWithin 0 top list
  pub read : AreRead list
  pub found : (p : ℕ) → find nat_cmp p list ≡ cond (contains s p) (find nat_cmp p mid) (find nat_cmp p es)

pub placed : (s : Bounds) (top : ℕ) (es mid l0 l1 l2 l3 : List (ℕ × Entry)) (lo hi : ℕ) → RiseWithin 0 top es → AreRead es → RiseWithin s.lo s.hi mid → AreRead mid → s.lo < s.hi → s.hi ≤ top → lo ≡ s.lo → hi ≡ s.hi → l0 ≡ [] → l1 ≡ l0 ++ filter_map (pick 0 lo (entry_lowered key.X)) es → l2 ≡ l1 ++ mid → l3 ≡ l2 ++ filter_map (pick hi top (entry_lowered key.X)) es → IsPlaced s top es mid l3
placed s top es mid l0 l1 l2 l3 lo hi kept read rise own l t el eh e0 e1 e2 e3 =
    let first : l1 ≡ filter_map (pick 0 s.lo (entry_lowered key.X)) es = e1 ∙ ap (λ (l : List (ℕ × Entry)). l ++ filter_map (pick 0 lo (entry_lowered key.X)) es) e0 ∙ ap (λ (n : ℕ). filter_map (pick 0 n (entry_lowered key.X)) es) el in
    let whole : l3 ≡ (filter_map (pick 0 s.lo (entry_lowered key.X)) es ++ mid) ++ filter_map (pick s.hi top (entry_lowered key.X)) es =
    e3 ∙ ap (λ (l : List (ℕ × Entry)). l ++ filter_map (pick hi top (entry_lowered key.X)) es) (e2 ∙ ap (λ (l : List (ℕ × Entry)). l ++ mid) first)
    ∙ ap (λ (n : ℕ). (filter_map (pick 0 s.lo (entry_lowered key.X)) es ++ mid) ++ filter_map (pick n top (entry_lowered key.X)) es) eh in
    record {
      rise = subst (λ (l : List (ℕ × Entry)). RiseWithin 0 top l) (sym whole) (rise_in_place s.lo s.hi top es mid kept rise t);
      read = subst (λ (l : List (ℕ × Entry)). AreRead l) (sym whole) (read_in_place s.lo s.hi top es mid own);
      found = λ p. ap (λ (l : List (ℕ × Entry)). find nat_cmp p l) whole ∙ find_in_place s.lo s.hi top es mid p kept read rise l t;
    }

own_rise : (lo hi k : ℕ) (o : Option Entry) → lo ≤ k → k < hi → RiseWithin lo hi (cons_option (tagged k o) [])
own_rise lo hi k None l u = omega arith
own_rise lo hi k (Some e) l u = (l, u)

own_found : (p k : ℕ) (o : Option Entry) → find nat_cmp p (cons_option (tagged k o) []) ≡ cond (nat_eq p k) o None
own_found p k None = nothing_in {B = Entry} (nat_eq p k)
own_found p k (Some e) =
    let test : eq_by_cmp nat_cmp p k ≡ nat_eq p k = grind (arith, nat_tests) in
    ap (λ (b : Bool). cond b (Some e) None) test

last_point : (lo hi p : ℕ) (o : Option Entry) (r : Option Entry) → lo < hi → cond (lies_in lo hi p) (cond (nat_eq p (hi - 1)) o None) r ≡ cond (lies_in lo hi p) (cond (nat_eq (suc p) hi) o None) r
last_point lo hi p o r l = grind (arith, nat_tests)

-- the holding's own entry as the span's entries
pub own_placed : (s : Bounds) (top : ℕ) (part : KeyPart) (value : Option Value) (es l0 l1 l2 l3 : List (ℕ × Entry)) (lo hi : ℕ) → RiseWithin 0 top es → AreRead es → s.lo < s.hi → s.hi ≤ top → lo ≡ s.lo → hi ≡ s.hi → l0 ≡ [] → l1 ≡ l0 ++ filter_map (pick 0 lo (entry_lowered key.X)) es → l2 ≡ l1 ++ cons_option (tagged (hi - 1) (entry_of part value)) [] → l3 ≡ l2 ++ filter_map (pick hi top (entry_lowered key.X)) es → RiseWithin 0 top l3 × AreRead l3 × ((p : ℕ) → find nat_cmp p l3 ≡ cond (contains s p) (cond (is_last s p) (entry_of part value) None) (find nat_cmp p es))
own_placed s top part value es l0 l1 l2 l3 lo hi kept read l t el eh e0 e1 e2 e3 =
    let own = entry_of part value in
    let mid = cons_option (tagged (s.hi - 1) own) [] in
    let e : l2 ≡ l1 ++ mid = e2 ∙ ap (λ (n : ℕ). l1 ++ cons_option (tagged (n - 1) own) []) eh in
    let h : IsPlaced s top es mid l3 = placed s top es mid l0 l1 l2 l3 lo hi kept read (own_rise s.lo s.hi (s.hi - 1) own (omega (arith, l)) (omega (arith, l))) (read_own (s.hi - 1) part value [] tt) l t el eh e0 e1 e e3 in (
      h.rise,
      h.read,
      λ p. h.found p ∙ ap (λ (o : Option Entry). cond (contains s p) o (find nat_cmp p es)) (own_found p (s.hi - 1) own) ∙ last_point s.lo s.hi p own (find nat_cmp p es) l,
    )

-- the span's entries, lowered
pub low_placed : (s : Bounds) (top : ℕ) (keep : KeyPart) (es l0 l1 l2 l3 : List (ℕ × Entry)) (lo hi : ℕ) → RiseWithin 0 top es → AreRead es → s.lo < s.hi → s.hi ≤ top → lo ≡ s.lo → hi ≡ s.hi → l0 ≡ [] → l1 ≡ l0 ++ filter_map (pick 0 lo (entry_lowered key.X)) es → l2 ≡ l1 ++ filter_map (pick lo hi (entry_lowered keep)) es → l3 ≡ l2 ++ filter_map (pick hi top (entry_lowered key.X)) es → RiseWithin 0 top l3 × AreRead l3 × ((p : ℕ) → find nat_cmp p l3 ≡ cond (contains s p) (option_and_then (entry_lowered keep) (find nat_cmp p es)) (find nat_cmp p es))
low_placed s top keep es l0 l1 l2 l3 lo hi kept read l t el eh e0 e1 e2 e3 =
    let mid = filter_map (pick s.lo s.hi (entry_lowered keep)) es in
    let e : l2 ≡ l1 ++ mid = e2 ∙ ap (λ (n : ℕ). l1 ++ filter_map (pick n hi (entry_lowered keep)) es) el ∙ ap (λ (n : ℕ). l1 ++ filter_map (pick s.lo n (entry_lowered keep)) es) eh in
    let h : IsPlaced s top es mid l3 = placed s top es mid l0 l1 l2 l3 lo hi kept read (rise-pick s.lo s.hi (entry_lowered keep) 0 top s.lo es kept (omega (arith, l)) (omega arith)) (read-pick s.lo s.hi keep es) l t el eh e0 e1 e e3 in
    (h.rise, h.read, λ p. h.found p ∙ twice (contains s p) (find nat_cmp p mid) (option_and_then (entry_lowered keep) (find nat_cmp p es)) None (find nat_cmp p es) (find-pick s.lo s.hi (entry_lowered keep) 0 top es p kept))
