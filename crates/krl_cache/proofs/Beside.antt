-- Holdings side by side whose range parts agree, taken over at once.
use Rattle.krl_cache.proofs.Names.{◌≡◌, ◌≢◌, inl, inr, ℕ, suc, ◌-◌, ◌≤◌, ◌<◌, Bool, true, false, cond, List, [], ◌∷◌, Option, None, IsSome, refl, sym, ap, subst, ◌∙◌, arith, nat_eq, nat_tests}
use Rattle.krl_cache.proofs.Names.{eqb_tells, or_parts, TOP, RangePart, KeyPart, reads_key, range_of, key_of, contains, Holding, Ascend, Entry, is_span, is_last, lies_in, own_entry, parts_after}
use Rattle.krl_cache.proofs.Names.{entries_after, is_slot_of, entry_of, IsFree}
use Rattle.krl_cache.specs.Joined.{AreJoined, AreHeld, HoldsAll}
use Rattle.krl_cache.proofs.Rooms.{AreSpans, AreFrom, from_first, outside_entry}

-- Their spans

pub joined_up : (hs : List Holding) (lo hi : ℕ) (part : RangePart) → AreJoined hs lo hi part → lo ≤ hi
joined_up [] lo hi part j = omega (arith, j)
joined_up (h ∷ hs) lo hi part j = let rest = joined_up hs h.span.hi hi part j.4 in let is = j.0 in let up = j.1 in omega (arith, rest, is, up)

pub joined_some : (hs : List Holding) (h : Holding) (rest : List Holding) (lo hi : ℕ) (part : RangePart) → hs ≡ h ∷ rest → AreJoined hs lo hi part → lo < hi
joined_some hs h rest lo hi part e given =
    let j : AreJoined (h ∷ rest) lo hi part = subst (λ (l : List Holding). AreJoined l lo hi part) e given in
    let more = joined_up rest h.span.hi hi part j.4 in let is = j.0 in let up = j.1 in omega (arith, more, is, up)

pub joined_top : (hs : List Holding) (lo hi : ℕ) (part : RangePart) → lo ≤ TOP → AreJoined hs lo hi part → hi ≤ TOP
joined_top [] lo hi part l j = omega (arith, j, l)
joined_top (h ∷ hs) lo hi part l j = joined_top hs h.span.hi hi part j.2 j.4

pub joined_below : (hs : List Holding) (lo hi : ℕ) (part : RangePart) → lo < hi → AreJoined hs lo hi part → hi ≤ TOP
joined_below [] lo hi part l j = absurd (omega (arith, j, l))
joined_below (h ∷ hs) lo hi part l j = joined_top hs h.span.hi hi part j.2 j.4

spans_test : (a b : ℕ) → a < b → b ≤ TOP → is_span (record { lo = a; hi = b }) ≡ true
spans_test a b l t = grind (arith, nat_tests)

pub joined_spans : (hs : List Holding) (lo hi : ℕ) (part : RangePart) → AreJoined hs lo hi part → AreSpans hs
joined_spans [] lo hi part j = tt
joined_spans (h ∷ hs) lo hi part j = (spans_test h.span.lo h.span.hi j.1 j.2, joined_spans hs h.span.hi hi part j.4)

-- What becomes of the parts

two_spans : (lo mid hi p : ℕ) (a b : RangePart) → lo ≤ mid → mid ≤ hi → cond (lies_in mid hi p) a (cond (lies_in lo mid p) a b) ≡ cond (lies_in lo hi p) a b
two_spans lo mid hi p a b l m = grind (arith, nat_tests)

none_there : (lo p : ℕ) (a b : RangePart) → cond (lies_in lo lo p) a b ≡ b
none_there lo p a b = grind (arith, nat_tests)

pub joined_parts : (hs : List Holding) (lo hi : ℕ) (part : RangePart) (p : ℕ) (r : RangePart) → AreJoined hs lo hi part → parts_after hs p r ≡ cond (lies_in lo hi p) part r
joined_parts [] lo hi part p r j = sym (ap (λ (n : ℕ). cond (lies_in lo n p) part r) (sym j) ∙ none_there lo p part r)
joined_parts (h ∷ hs) lo hi part p r j =
    let up = j.1 in
    joined_parts hs h.span.hi hi part p (cond (contains h.span p) (range_of h.mode) r) j.4
    ∙ ap (λ (x : RangePart). cond (lies_in h.span.hi hi p) part (cond (lies_in h.span.lo h.span.hi p) x r)) j.3
    ∙ two_spans h.span.lo h.span.hi hi p part r (omega (arith, up)) (joined_up hs h.span.hi hi part j.4)
    ∙ ap (λ (n : ℕ). cond (lies_in n hi p) part r) j.0

-- What becomes of the entries

pub held_none : (d : ℕ → Option Entry) → HoldsAll [] d d
held_none d = record { held = tt; entries = λ q e. refl; stay = λ q x. x }

held_more : (h : Holding) (rest : List Holding) (d e n : ℕ → Option Entry) → h.span.lo < h.span.hi → ((q : ℕ) → q ≢ h.span.hi - 1 → e q ≡ d q) → (IsSome (d (h.span.hi - 1)) → IsSome (e (h.span.hi - 1))) → (reads_key (key_of h.mode) ≡ true → IsSome (e (h.span.hi - 1))) → HoldsAll rest e n → HoldsAll (h ∷ rest) d n
held_more h rest d e n lt others here held r = record {
  held = (λ x. r.stay (h.span.hi - 1) (held x), r.held);
  entries = λ q x. let y = or_parts (is_last h.span q) (is_slot_of rest q) x in r.entries q y.1 ∙ others q (λ z. no_last (is_last h.span q) y.0 (at_last h.span.hi q lt z));
  stay = λ q x. r.stay q (elim (eqb_tells q (h.span.hi - 1)) [
    | inl a ↦ subst (λ (i : ℕ). IsSome (e i)) (sym a.1) (here (subst (λ (i : ℕ). IsSome (d i)) a.1 x))
    | inr a ↦ subst IsSome (sym (others q a.1)) x
  ]);
}
  where
    no_last : (b : Bool) → b ≡ false → b ≡ true → ⊥
    no_last b x y = absurd (let bad : false ≡ true = sym x ∙ y in cc)

    at_last : (hi q : ℕ) → h.span.lo < hi → q ≡ hi - 1 → nat_eq (suc q) hi ≡ true
    at_last hi q a z = grind (arith, nat_tests)

pub held_step : (hs : List Holding) (h : Holding) (rest : List Holding) (d e n : ℕ → Option Entry) (hi : ℕ) (part : KeyPart) → hs ≡ h ∷ rest → hi ≡ h.span.hi → part ≡ key_of h.mode → h.span.lo < h.span.hi → ((q : ℕ) → q ≢ hi - 1 → e q ≡ d q) → (IsSome (d (hi - 1)) → IsSome (e (hi - 1))) → (reads_key part ≡ true → IsSome (e (hi - 1))) → HoldsAll rest e n → HoldsAll hs d n
held_step hs h rest d e n hi part is high key lt others here held r =
    subst (λ xs. HoldsAll xs d n) (sym is)
    (held_more h rest d e n lt
    (subst (λ x. (q : ℕ) → q ≢ x - 1 → e q ≡ d q) high others)
    (subst (λ x. IsSome (d (x - 1)) → IsSome (e (x - 1))) high here)
    (λ reads. subst (λ x. IsSome (e (x - 1))) high (held (ap reads_key key ∙ reads)))
    r)

held_from : (low : ℕ) (hs : List Holding) (d e : ℕ → Option Entry) → AreFrom low hs → ((q : ℕ) → low ≤ q → e q ≡ d q) → AreHeld hs d → AreHeld hs e
held_from low [] d e x b r = tt
held_from low (h ∷ hs) d e x b r =
    let lo = x.0 in let up = x.1 in (λ k. subst IsSome (sym (b (h.span.hi - 1) (omega (arith, lo, up)))) (r.0 k), held_from low hs d e x.2 b r.1)

-- how far the setting went: what is left leads to one end
pub record IsSetting (hs : List Holding) (d0 : ℕ → Option Entry) (rest : List Holding) (d : ℕ → Option Entry) : Type 0 where
  pub entries : (p : ℕ) → entries_after rest p (d p) ≡ entries_after hs p (d0 p)
  pub held : AreHeld rest d
  pub order : Ascend rest
  pub spans : AreSpans rest

pub setting_begins : (hs : List Holding) (d : ℕ → Option Entry) → AreHeld hs d → Ascend hs → AreSpans hs → IsSetting hs d hs d
setting_begins hs d r o s = record { entries = λ p. refl; held = r; order = o; spans = s }

pub setting_goes : (hs : List Holding) (d0 : ℕ → Option Entry) (h : Holding) (rest : List Holding) (d e : ℕ → Option Entry) → IsSetting hs d0 (h ∷ rest) d → ((p : ℕ) → e p ≡ cond (contains h.span p) (cond (is_last h.span p) (own_entry h) None) (d p)) → IsSetting hs d0 rest e
setting_goes hs d0 h rest d e x entries = record {
  entries = λ p. ap (entries_after rest p) (entries p) ∙ x.entries p;
  held = held_from h.span.hi rest d e (from_first h rest x.spans.1 x.order.0 x.order.1)
      (λ q a. entries q ∙ outside_entry h.span.lo h.span.hi q (cond (is_last h.span q) (own_entry h) None) (d q) a) x.held.1;
  order = x.order.1;
  spans = x.spans.1;
}

-- What becomes of the entries if none stood in the spans

put_last : (lo hi p : ℕ) (own o : Option Entry) → lo < hi → (lies_in lo hi p ≡ true → o ≡ None) → cond (nat_eq p (hi - 1)) own o ≡ cond (lies_in lo hi p) (cond (nat_eq (suc p) hi) own None) o
put_last lo hi p own o lt free = by_test (lies_in lo hi p) refl
  where
    same : nat_eq p (hi - 1) ≡ nat_eq (suc p) hi
    same = grind (arith, nat_tests)

    outside : lies_in lo hi p ≡ false → nat_eq p (hi - 1) ≡ false
    outside e = grind (arith, nat_tests)

    by_test : (t : Bool) → lies_in lo hi p ≡ t → cond (nat_eq p (hi - 1)) own o ≡ cond (lies_in lo hi p) (cond (nat_eq (suc p) hi) own None) o
    by_test true e = ap (λ (x : Option Entry). cond (nat_eq p (hi - 1)) own x) (free e) ∙ ap (λ (b : Bool). cond b own None) same ∙ sym (ap (λ (b : Bool). cond b (cond (nat_eq (suc p) hi) own None) o) e)
    by_test false e = ap (λ (b : Bool). cond b own o) (outside e) ∙ sym (ap (λ (b : Bool). cond b (cond (nat_eq (suc p) hi) own None) o) e)

lies : (lo hi p : ℕ) → lies_in lo hi p ≡ true → (lo ≤ p) × (p < hi)
lies lo hi p e = (let a : lo ≤ p = grind (arith, nat_tests) in a, let b : p < hi = grind (arith, nat_tests) in b)

apart : (q k : ℕ) (own o : Option Entry) → q ≢ k → cond (nat_eq q k) own o ≡ o
apart q k own o ne = grind (arith, nat_tests)

module _ (hs : List Holding) (h : Holding) (rest : List Holding) (lo hi next : ℕ) (part : RangePart) (d : ℕ → Option Entry) (whole : hs ≡ h ∷ rest) (up : next ≡ h.span.hi) (given : AreJoined hs lo hi part) (free : IsFree d lo hi) where
  joined : AreJoined (h ∷ rest) lo hi part
  joined = subst (λ (l : List Holding). AreJoined l lo hi part) whole given

  pub rest_joined : AreJoined rest next hi part
  rest_joined = subst (λ (n : ℕ). AreJoined rest n hi part) (sym up) joined.4

  -- the first span
  first_some : h.span.lo < next
  first_some = let lt = joined.1 in omega (arith, lt, up)

  pub last_free : d (next - 1) ≡ None
  last_free =
      let more = joined_up rest next hi part rest_joined in let is = joined.0 in let some = first_some in
      free (next - 1) (omega (arith, is, some)) (omega (arith, more, some))

  module _ (e : ℕ → Option Entry) (own : Option Entry) (put : (q : ℕ) → e q ≡ cond (nat_eq q (next - 1)) own (d q)) where
    pub rest_free : IsFree e next hi
    rest_free q le lt = put q ∙ apart q (next - 1) own (d q) (λ same. let some = first_some in omega (arith, same, le, some))
        ∙ free q (let is = joined.0 in let some = first_some in omega (arith, is, some, le)) lt

    pub put_step : own ≡ own_entry h → (n : ℕ → Option Entry) → ((p : ℕ) → n p ≡ entries_after rest p (e p)) → (p : ℕ) → n p ≡ entries_after hs p (d p)
    put_step is n after p =
        after p ∙ ap (entries_after rest p) (put p ∙ first) ∙ sym (ap (λ (l : List Holding). entries_after l p (d p)) whole)
      where
        there : lies_in h.span.lo next p ≡ true → d p ≡ None
        there t = let w = lies h.span.lo next p t in let a = w.0 in let b = w.1 in let same = joined.0 in let more = joined_up rest next hi part rest_joined in
            free p (omega (arith, a, same)) (omega (arith, b, more))

        first : cond (nat_eq p (next - 1)) own (d p) ≡ cond (contains h.span p) (cond (is_last h.span p) (own_entry h) None) (d p)
        first = put_last h.span.lo next p own (d p) first_some there
            ∙ ap (λ (n : ℕ). cond (lies_in h.span.lo n p) (cond (nat_eq (suc p) n) own None) (d p)) up
            ∙ ap (λ (o : Option Entry). cond (contains h.span p) (cond (is_last h.span p) o None) (d p)) is
