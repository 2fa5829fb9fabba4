-- The part at a point, by the points where parts begin.
use Rattle.krl_cache.proofs.Names.{◌≡◌, ◌≢◌, ℕ, zero, suc, ◌+◌, ◌-◌, ◌≤◌, ◌<◌, ◌⊎◌, inl, inr, Bool, true, false, cond, Option, None, Some, IsSome, refl, sym, ap, subst, ◌∙◌, arith, nat_eq, unwrap_or}
use Rattle.krl_cache.proofs.Names.{nat_cmp, is_gt, is_lt, nat_tests, eqb_tells, RangePart, part_at, IsFree, KeepsParts, HoldsBefore}
use Rattle.krl_modes.specs.declared.part.RangePart.TheVariants as range

pub part_first : (f : ℕ → Option RangePart) → part_at f 0 ≡ unwrap_or (f 0) range.N
unfolding part_at
part_first f = refl

pub part_next : (f : ℕ → Option RangePart) (p : ℕ) → part_at f (suc p) ≡ unwrap_or (f (suc p)) (part_at f p)
unfolding part_at
part_next f p = refl

-- a function that steps as the part does is it
pub part_is : (f : ℕ → Option RangePart) (r : ℕ → RangePart) → unwrap_or (f 0) range.N ≡ r 0 → ((p : ℕ) → unwrap_or (f (suc p)) (r p) ≡ r (suc p)) → (p : ℕ) → part_at f p ≡ r p
part_is f r first next zero = part_first f ∙ first
part_is f r first next (suc p) =
    part_next f p ∙ ap (λ (x : RangePart). unwrap_or (f (suc p)) x) (part_is f r first next p) ∙ next p

-- where nothing begins it is that of the point before
pub part_steady : (f : ℕ → Option RangePart) (p : ℕ) → f (suc p) ≡ None → part_at f (suc p) ≡ part_at f p
part_steady f p h = part_next f p ∙ ap (λ (o : Option RangePart). unwrap_or o (part_at f p)) h

pub part_begins : (f : ℕ → Option RangePart) (p : ℕ) (v : RangePart) → f p ≡ Some v → part_at f p ≡ v
part_begins f zero v h = part_first f ∙ ap (λ (o : Option RangePart). unwrap_or o range.N) h
part_begins f (suc p) v h = part_next f p ∙ ap (λ (o : Option RangePart). unwrap_or o (part_at f p)) h

-- from p on below q nothing begins but at p
pub part_holds : (f : ℕ → Option RangePart) (p q : ℕ) → p ≤ q → IsFree f (suc p) (suc q) → part_at f q ≡ part_at f p
part_holds f p zero l free = let same : p ≡ 0 = omega (arith, l) in ap (λ (n : ℕ). part_at f n) (sym same)
part_holds f p (suc q) l free =
    elim (eqb_tells p (suc q)) [
      | inl h ↦ ap (λ (n : ℕ). part_at f n) (sym h.1)
      | inr h ↦
          part_steady f q (free (suc q) (omega (arith, l, h.1)) (omega arith))
          ∙ part_holds f p q (omega (arith, l, h.1)) (λ n a b. free n a (omega (arith, b)))
    ]

pub part_none : (f : ℕ → Option RangePart) (p : ℕ) → IsFree f 0 (suc p) → part_at f p ≡ range.N
part_none f zero free = part_first f ∙ ap (λ (o : Option RangePart). unwrap_or o range.N) (free 0 (omega arith) (omega arith))
part_none f (suc p) free =
    part_steady f p (free (suc p) (omega arith) (omega arith)) ∙ part_none f p (λ n a b. free n a (omega (arith, b)))

pub none_unless : {A : Type 0} (o : Option A) → (IsSome o → ⊥) → o ≡ None
none_unless None h = refl
none_unless (Some x) h = absurd (h refl)

-- by the last start at or below the point
pub part_by_last : (f : ℕ → Option RangePart) (p k : ℕ) (v : RangePart) → is_gt (nat_cmp k p) ≡ false → f k ≡ Some v → ((q : ℕ) → is_gt (nat_cmp q p) ≡ false → IsSome (f q) → is_lt (nat_cmp k q) ≡ false) → v ≡ part_at f p
part_by_last f p k v le here last =
    let l : k ≤ p = grind (arith, nat_tests) in
    let free : IsFree f (suc k) (suc p) = λ q a b.
    let up : is_gt (nat_cmp q p) ≡ false = grind (arith, nat_tests) in
    let over : is_lt (nat_cmp k q) ≡ true = grind (arith, nat_tests) in
    none_unless (f q) (λ some. let no : is_lt (nat_cmp k q) ≡ false = last q up some in let bad : true ≡ false = sym over ∙ no in cc) in
    sym (part_holds f k p l free ∙ part_begins f k v here)

pub part_by_none : (f : ℕ → Option RangePart) (p : ℕ) → ((q : ℕ) → is_gt (nat_cmp q p) ≡ false → f q ≡ None) → range.N ≡ part_at f p
part_by_none f p none =
    sym (part_none f p (λ q a b. let up : is_gt (nat_cmp q p) ≡ false = grind (arith, nat_tests) in none q up))

-- What begins that held there before

-- f and g begin alike, except where g states what holds
pub record IsMarked (f g : ℕ → Option RangePart) : Type 0 where
  pub each : (q : ℕ) → (g q ≡ f q) ⊎ (g q ≡ Some (part_at f q))

marked_first : (f g : ℕ → Option RangePart) → (g 0 ≡ f 0) ⊎ (g 0 ≡ Some (part_at f 0)) → unwrap_or (g 0) range.N ≡ part_at f 0
marked_first f g (inl h) = ap (λ (o : Option RangePart). unwrap_or o range.N) h ∙ sym (part_first f)
marked_first f g (inr h) = ap (λ (o : Option RangePart). unwrap_or o range.N) h

marked_next : (f g : ℕ → Option RangePart) (p : ℕ) → (g (suc p) ≡ f (suc p)) ⊎ (g (suc p) ≡ Some (part_at f (suc p))) → unwrap_or (g (suc p)) (part_at f p) ≡ part_at f (suc p)
marked_next f g p (inl h) = ap (λ (o : Option RangePart). unwrap_or o (part_at f p)) h ∙ sym (part_next f p)
marked_next f g p (inr h) = ap (λ (o : Option RangePart). unwrap_or o (part_at f p)) h

pub part_marked : (f g : ℕ → Option RangePart) (p : ℕ) → IsMarked f g → part_at g p ≡ part_at f p
part_marked f g p m = part_is g (part_at f) (marked_first f g (m.each 0)) (λ q. marked_next f g q (m.each (suc q))) p

-- The same part begins again

-- g is f without the key k, if the part that begins there held before
pub record IsMerged (f g : ℕ → Option RangePart) (k : ℕ) : Type 0 where
  pub part : RangePart
  pub here : f k ≡ Some part
  pub first : k ≡ 0 → part ≡ range.N
  pub later : 0 < k → part_at f (k - 1) ≡ part
  pub gone : g k ≡ None
  pub others : (q : ℕ) → q ≢ k → g q ≡ f q

pub part_merged : (f g : ℕ → Option RangePart) (k p : ℕ) → IsMerged f g k → part_at g p ≡ part_at f p
part_merged f g k p m =
    part_is g (part_at f)
    (elim (eqb_tells 0 k) [
      | inl h ↦
          let gone : g 0 ≡ None = ap g h.1 ∙ m.gone in
          let here : f 0 ≡ Some m.part = ap f h.1 ∙ m.here in
          ap (λ (o : Option RangePart). unwrap_or o range.N) gone ∙ sym (m.first (sym h.1)) ∙ sym (part_begins f 0 m.part here)
      | inr h ↦ ap (λ (o : Option RangePart). unwrap_or o range.N) (m.others 0 h.1) ∙ sym (part_first f)
    ])
    (λ q. elim (eqb_tells (suc q) k) [
      | inl h ↦
          let gone : g (suc q) ≡ None = ap g h.1 ∙ m.gone in
          let here : f (suc q) ≡ Some m.part = ap f h.1 ∙ m.here in
          let before : part_at f q ≡ m.part = subst (λ (n : ℕ). part_at f n ≡ m.part) (omega (arith, h.1)) (m.later (omega (arith, h.1))) in
          ap (λ (o : Option RangePart). unwrap_or o (part_at f q)) gone ∙ before ∙ sym (part_begins f (suc q) m.part here)
      | inr h ↦ ap (λ (o : Option RangePart). unwrap_or o (part_at f q)) (m.others (suc q) h.1) ∙ sym (part_next f q)
    ])
    p

pub gone_here : (k q : ℕ) (o : Option RangePart) → q ≡ k → cond (nat_eq q k) None o ≡ None
gone_here k q o e = grind (arith, nat_tests)

kept_elsewhere : (k q : ℕ) (o : Option RangePart) → q ≢ k → cond (nat_eq q k) None o ≡ o
kept_elsewhere k q o e = grind (arith, nat_tests)

none_either : (b : Bool) (o : Option RangePart) → o ≡ None → cond b None o ≡ None
none_either true o h = refl
none_either false o h = h

some_either : (b : Bool) (o : Option RangePart) (v : RangePart) → cond b None o ≡ Some v → o ≡ Some v
some_either true o v h = absurd (let bad : ◌≡◌ {A = Option RangePart} None (Some v) = h in cc)
some_either false o v h = h

pub merged : (f g : ℕ → Option RangePart) (k : ℕ) (part : RangePart) → f k ≡ Some part → HoldsBefore f k part → ((q : ℕ) → g q ≡ cond (nat_eq q k) None (f q)) → KeepsParts f g
merged f g k part here before out =
    let m : IsMerged f g k = record {
      part = part;
      here = here;
      first = before.first;
      later = before.later;
      gone = out k ∙ gone_here k k (f k) refl;
      others = λ q ne. out q ∙ kept_elsewhere k q (f q) ne;
    } in
    record {
      parts = λ q. part_merged f g k q m;
      starts = λ q none. out q ∙ none_either (nat_eq q k) (f q) none;
      stay = λ q v h. some_either (nat_eq q k) (f q) v (sym (out q) ∙ h);
    }

-- if nothing begins from p on below q, what held before p holds before q
pub holds_later : (f : ℕ → Option RangePart) (p q : ℕ) (before : RangePart) → p ≤ q → IsFree f p q → HoldsBefore f p before → HoldsBefore f q before
holds_later f p q before l free h = record {
  first = λ e. h.first (omega (arith, l, e));
  later = λ more. elim (eqb_tells p 0) [
    | inl e ↦
        part_none f (q - 1) (λ n a b. free n (omega (arith, e.1)) (omega (arith, b, more))) ∙ sym (h.first e.1)
    | inr e ↦
        part_holds f (p - 1) (q - 1) (omega (arith, l)) (λ n a b. free n (omega (arith, a, e.1)) (omega (arith, b, more))) ∙ h.later (omega (arith, e.1))
  ];
}

-- what begins at p holds before the next point
pub holds_next : (f g : ℕ → Option RangePart) (p next : ℕ) (part : RangePart) → next ≡ p + 1 → f p ≡ Some part → KeepsParts f g → HoldsBefore g next part
holds_next f g p next part is here kept = record {
  first = λ e. absurd (omega (arith, is, e));
  later = λ more. let same : next - 1 ≡ p = omega (arith, is) in ap (λ (n : ℕ). part_at g n) same ∙ kept.parts p ∙ part_begins f p part here;
}

pub keeps_on : (f g h : ℕ → Option RangePart) → KeepsParts f g → KeepsParts g h → KeepsParts f h
keeps_on f g h a b = record { parts = λ q. b.parts q ∙ a.parts q; starts = λ q none. b.starts q (a.starts q none); stay = λ q v here. a.stay q v (b.stay q v here) }
