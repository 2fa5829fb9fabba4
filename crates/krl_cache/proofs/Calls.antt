-- Calls leave a belief.
use Rattle.std.proofs.Common.{◌≡◌, ◌≢◌, ℕ, suc, ◌≤◌, ◌<◌, Bool, true, false, ◌&&◌, not, List, [], ◌∷◌, Option, Some, None, is_some, refl, sym, subst, arith, nat_lt, nat_le, if◌then◌else◌, leb-true, eqb-true}
use Rattle.std.specs.Bool.{beq}
use Rattle.std.specs.Cmp.{booleans_Decides}
use Rattle.krl_cache.proofs.Names.{eqb-false, and_parts, nat_tests, END, TOP, RangePart, KeyPart, Mode, range_meet, key_meet, reads_key, range_of, key_of, Bounds, contains, Value, Holding}
use Rattle.krl_cache.proofs.Names.{AllByRecursion, has_its_value, ends_at_end, have_values, Belief, IsBelief, is_span, is_last, adopt, adopt_all, lower, CallsKeepBelief}
use Rattle.krl_modes.specs.declared.part.RangePart.TheVariants as range
use Rattle.krl_modes.specs.declared.part.KeyPart.TheVariants as key
use Rattle.krl_modes.proofs.Basics.{None-if_not_some, Some-if_some}
use Rattle.krl_modes.proofs.SpanLaws.{inside_span}

-- Points of the last slot

pub same_of : (a b : Bool) → beq a b ≡ true → a ≡ b
same_of a b e = (booleans_Decides a b).0 e

pub past_end : TOP ≡ suc END
past_end = refl

-- a span whose last point is p ends at END exactly if p is END
pub last_not_end : (s : Bounds) (p : ℕ) → is_last s p ≡ true → p ≢ END → ends_at_end s ≡ false
last_not_end s p e n = by_test (ends_at_end s) refl
  where
    by_test : (t : Bool) → ends_at_end s ≡ t → ends_at_end s ≡ false
    by_test true i = let a = eqb-true (suc p) s.hi e in let b = eqb-true s.hi TOP i in let c = past_end in absurd (n (omega arith))
    by_test false i = i

pub last_is_end : (s : Bounds) → is_last s END ≡ true → ends_at_end s ≡ true
last_is_end s e = by_test (ends_at_end s) refl
  where
    by_test : (t : Bool) → ends_at_end s ≡ t → ends_at_end s ≡ true
    by_test true i = i
    by_test false i = let a = eqb-true (suc END) s.hi e in let b = eqb-false s.hi TOP i in let c = past_end in absurd (b (omega arith))

-- the holding's value, by the rule on values
pub held_value : (h : Holding) (p : ℕ) → has_its_value h ≡ true → is_last h.span p ≡ true → p ≢ END → reads_key (key_of h.mode) ≡ true → (v : Value) × (h.value ≡ Some v)
held_value h p rule e n k = let a = same_of (is_some h.value) _ rule in let b = last_not_end h.span p e n in
    Some-if_some h.value (cc)

and_not : (a b : Bool) → b ≡ true → (a && not b) ≡ false
and_not true true e = refl
and_not true false e = absurd (cc)
and_not false b e = refl

pub no_held : (h : Holding) → has_its_value h ≡ true → reads_key (key_of h.mode) ≡ false → h.value ≡ None
no_held h rule e = None-if_not_some h.value (subst (λ k. is_some h.value ≡ (k && not (ends_at_end h.span))) e (same_of (is_some h.value) _ rule))

pub none_at_end : (h : Holding) → has_its_value h ≡ true → is_last h.span END ≡ true → h.value ≡ None
none_at_end h rule e = let a = same_of (is_some h.value) _ rule in let c = and_not (reads_key (key_of h.mode)) (ends_at_end h.span) (last_is_end h.span e) in None-if_not_some h.value (cc)

pub not_key : (k : KeyPart) → k ≡ key.N → reads_key k ≡ false
not_key key.N e = refl
not_key key.S e = absurd (cc)
not_key key.U e = absurd (cc)
not_key key.X e = absurd (cc)

-- Adopting

adopt_valued : (h : Holding) (b : Belief) (p : ℕ) (t u : Bool) → has_its_value h ≡ true → IsBelief b → is_last h.span p ≡ u → p ≢ END → reads_key (if t then (if u then key_of h.mode else key.N) else b.key_at p) ≡ true → (v : Value) × ((if t then (if u then h.value else None) else b.value_at p) ≡ Some v)
adopt_valued h b p true true rule i e n k = held_value h p rule e n k
adopt_valued h b p true false rule i e n k = absurd (cc)
adopt_valued h b p false u rule i e n k = i.valued p n k

adopt_no_entry : (h : Holding) (b : Belief) (p : ℕ) (t u : Bool) → has_its_value h ≡ true → IsBelief b → (if t then (if u then key_of h.mode else key.N) else b.key_at p) ≡ key.N → (if t then (if u then h.value else None) else b.value_at p) ≡ None
adopt_no_entry h b p true true rule i k = no_held h rule (not_key (key_of h.mode) k)
adopt_no_entry h b p true false rule i k = refl
adopt_no_entry h b p false u rule i k = i.no_entry p k

adopt_at_end : (h : Holding) (b : Belief) (t u : Bool) → has_its_value h ≡ true → IsBelief b → is_last h.span END ≡ u → (if t then (if u then h.value else None) else b.value_at END) ≡ None
adopt_at_end h b true true rule i e = none_at_end h rule e
adopt_at_end h b true false rule i e = refl
adopt_at_end h b false u rule i e = i.at_end

adopt_past : (h : Holding) (b : Belief) (p : ℕ) (t : Bool) → is_span h.span ≡ true → IsBelief b → contains h.span p ≡ t → END < p → ((if t then range_of h.mode else b.range_at p) ≡ range.N) × ((if t then (if is_last h.span p then key_of h.mode else key.N) else b.key_at p) ≡ key.N)
adopt_past h b p true s i e n = let a = inside_span h.span p e in let x = a.1 in let y = leb-true h.span.hi TOP (and_parts (nat_lt h.span.lo h.span.hi) (nat_le h.span.hi TOP) s).1 in let c = past_end in absurd (omega arith)
adopt_past h b p false s i e n = i.past p n

-- Lowering

meet_keeps : (k keep : KeyPart) → reads_key (key_meet k keep) ≡ true → reads_key k ≡ true
meet_keeps key.N keep h = h
meet_keeps key.S keep h = refl
meet_keeps key.U keep h = refl
meet_keeps key.X keep h = refl

if_key : (x : Option Value) (u : Bool) (v : Value) → u ≡ true → x ≡ Some v → (if u then x else None) ≡ Some v
if_key x true v e h = h
if_key x false v e h = absurd (cc)

if_not_key : (x : Option Value) (u : Bool) → u ≡ false → (if u then x else None) ≡ None
if_not_key x false e = refl
if_not_key x true e = absurd (cc)

lower_valued : (keep : Mode) (b : Belief) (p : ℕ) (t : Bool) → IsBelief b → p ≢ END → reads_key (if t then key_meet (b.key_at p) (key_of keep) else b.key_at p) ≡ true → (v : Value) × ((if t then (if reads_key (key_meet (b.key_at p) (key_of keep)) then b.value_at p else None) else b.value_at p) ≡ Some v)
lower_valued keep b p true i n k = let x = i.valued p n (meet_keeps (b.key_at p) (key_of keep) k) in (x.0, if_key (b.value_at p) (reads_key (key_meet (b.key_at p) (key_of keep))) x.0 k x.1)
lower_valued keep b p false i n k = i.valued p n k

lower_no_entry : (keep : Mode) (b : Belief) (p : ℕ) (t : Bool) → IsBelief b → (if t then key_meet (b.key_at p) (key_of keep) else b.key_at p) ≡ key.N → (if t then (if reads_key (key_meet (b.key_at p) (key_of keep)) then b.value_at p else None) else b.value_at p) ≡ None
lower_no_entry keep b p true i k = if_not_key (b.value_at p) _ (not_key (key_meet (b.key_at p) (key_of keep)) k)
lower_no_entry keep b p false i k = i.no_entry p k

pub either_none : (t u : Bool) (x : Option Value) → x ≡ None → (if t then (if u then x else None) else x) ≡ None
either_none true true x e = e
either_none true false x e = refl
either_none false u x e = e

lower_past : (keep : Mode) (r : RangePart) (k : KeyPart) (t : Bool) → r ≡ range.N → k ≡ key.N → ((if t then range_meet r (range_of keep) else r) ≡ range.N) × ((if t then key_meet k (key_of keep) else k) ≡ key.N)
lower_past keep r k true e f = (subst (λ x. range_meet x (range_of keep) ≡ range.N) (sym e) refl, subst (λ x. key_meet x (key_of keep) ≡ key.N) (sym f) refl)
lower_past keep r k false e f = (e, f)

pub calls_keep_belief : CallsKeepBelief
calls_keep_belief = record {
  new = record { valued = λ p n k. absurd (cc); no_entry = λ p e. refl; at_end = refl; past = λ p n. (refl, refl) };
  adopt = λ h b s rule i. record {
    valued = λ p n k. adopt_valued h b p (contains h.span p) (is_last h.span p) rule i refl n k;
    no_entry = λ p k. adopt_no_entry h b p (contains h.span p) (is_last h.span p) rule i k;
    at_end = adopt_at_end h b (contains h.span END) (is_last h.span END) rule i refl;
    past = λ p n. adopt_past h b p (contains h.span p) s i refl n;
  };
  lower = λ s keep b i. record {
    valued = λ p n k. lower_valued keep b p (contains s p) i n k;
    no_entry = λ p k. lower_no_entry keep b p (contains s p) i k;
    at_end = either_none (contains s END) (reads_key (key_meet (b.key_at END) (key_of keep))) (b.value_at END) i.at_end;
    past = λ p n. lower_past keep (b.range_at p) (b.key_at p) (contains s p) (i.past p n).0 (i.past p n).1;
  };
}

pub is_span_by : (s : Bounds) → s.lo < s.hi → s.hi ≤ TOP → is_span s ≡ true
is_span_by s l h = let a : nat_lt s.lo s.hi ≡ true = grind (arith, nat_tests) in let b : nat_le s.hi TOP ≡ true = grind (arith, nat_tests) in rw (a, b)

pub adopted_belief : (h : Holding) (old new : Belief) → is_span h.span ≡ true → has_its_value h ≡ true → new ≡ adopt h old → IsBelief old → IsBelief new
adopted_belief h old new s rule e i = subst (λ (b : Belief). IsBelief b) (sym e) (calls_keep_belief.adopt h old s rule i)

pub lowered_belief : (s : Bounds) (keep : Mode) (old new : Belief) → new ≡ lower s keep old → IsBelief old → IsBelief new
lowered_belief s keep old new e i = subst (λ (b : Belief). IsBelief b) (sym e) (calls_keep_belief.lower s keep old i)

-- several holdings, one after another
pub adopted_all : (hs : List Holding) (b : Belief) → AllByRecursion (λ h. is_span h.span ≡ true) hs → have_values hs ≡ true → IsBelief b → IsBelief (adopt_all hs b)
adopted_all [] b spans rules i = i
adopted_all (h ∷ hs) b spans rules i = let x = and_parts (has_its_value h) (have_values hs) rules in adopted_all hs (adopt h b) spans.1 x.1 (calls_keep_belief.adopt h b spans.0 x.0 i)

pub several_belief : (hs : List Holding) (old new : Belief) → AllByRecursion (λ h. is_span h.span ≡ true) hs → have_values hs ≡ true → new ≡ adopt_all hs old → IsBelief old → IsBelief new
several_belief hs old new spans rules e i = subst (λ (b : Belief). IsBelief b) (sym e) (adopted_all hs old spans rules i)
