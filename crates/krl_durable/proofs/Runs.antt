-- What a search in the blocks shows of the index.
use Rattle.std.proofs.Common.{◌≡◌, ◌≢◌, ℕ, suc, ◌≤◌, ◌<◌, Bool, true, false, cond, List, [], ◌∷◌, ◌++◌, length, take, drop, Option, None, Some, IfSome, MatchOption, refl, sym, ap, subst, ◌∙◌, arith, is_some}
use Rattle.krl_durable.proofs.Names.{nat_tests, take-append-drop, head_none, nat_lt, AllByRecursion, slice_get, filter, nat_cmp, eq_by_cmp, find, put, is_sorted, END, Value, AreBelow, AreFrom, NoKey, KeysAbove}
use Rattle.krl_durable.proofs.Names.{KeysRise, HasEntry, IsFound, IsInserted, IsRemoved, IsChanged, last_key, after_keys, low_of, behind, slot_of, AreBelowEnd, IsEntries}
use Rattle.std.proofs.Math.Seq.{take-append_seam, drop-append_seam}
use Rattle.std.specs.FinMap as map
use Rattle.krl_blocks.proofs.Places.{front_all}
use Rattle.krl_durable.proofs.Slots.{Above, Rises, CutAt, rises, cut_at, entries_kept, cut_below, none_behind, head_some, slot_value, find_behind, find_here, not_above}
use Rattle.krl_durable.proofs.Edits.{Cut, inserted, put_cut, put_here, removed, drop_one}
use Rattle.krl_durable.proofs.Cuts.{slot_at, end_at, low_at, after_below}
use Rattle.krl_durable.proofs.Kept.{kept_as, same_entries_seen}

keys_above : (k : ℕ) (es : List (ℕ × Value)) → Above k es → KeysAbove k es
keys_above k [] h = tt
keys_above k (e ∷ es) h = (h.0, keys_above k es h.1)

keys_rise : (es : List (ℕ × Value)) → Rises es → KeysRise es
keys_rise [] h = tt
keys_rise (e ∷ es) h = (keys_above e.0 es h.0, keys_rise es h.1)

pub sorted_rise : (es : List (ℕ × Value)) → is_sorted nat_cmp es ≡ true → KeysRise es
sorted_rise es h = keys_rise es (rises es h)

apart : (k j : ℕ) → j ≢ k → eq_by_cmp nat_cmp k j ≡ false
apart k j n = grind (arith, nat_tests)

find_none : (k : ℕ) (es : List (ℕ × Value)) → NoKey k es → find nat_cmp k es ≡ None
find_none k [] h = refl
find_none k (e ∷ es) h = rw (apart k e.0 h.0) (find_none k es h.1)

last_below : (es : List (ℕ × Value)) (o : Option ℕ) → AreBelowEnd es → IfSome o (λ k. k < END) → IfSome (last_key o es) (λ k. k < END)
last_below [] o h i = i
last_below (e ∷ es) o h i = last_below es (Some e.0) h.1 (let lt : e.0 < END = grind (arith, nat_tests, h.0) in lt)

behind_last : (o : Option ℕ) (es : List (ℕ × Value)) → behind (last_key o es) ≡ after_keys (behind o) es
behind_last o [] = refl
behind_last o (e ∷ es) = behind_last (Some e.0) es

first_of_run : (run rest : List (ℕ × Value)) (e : ℕ × Value) → Some e ≡ slice_get run 0 → Some e ≡ slice_get (run ++ rest) 0
first_of_run [] rest e h = absurd (let bad : Some e ≡ None = h in cc)
first_of_run (x ∷ run) rest e h = h

none_of_run : (run rest : List (ℕ × Value)) → (run ≡ [] → rest ≡ []) → None ≡ slice_get run 0 → None ≡ slice_get (run ++ rest) 0
none_of_run [] rest some h = ap (λ (es : List (ℕ × Value)). slice_get es 0) (sym (some refl))
none_of_run (x ∷ run) rest some h = h

itself : (k : ℕ) → nat_lt k k ≡ false
itself k = grind (arith, nat_tests)

no_end : (es : List (ℕ × Value)) → AreBelowEnd es → NoKey END es
no_end [] h = tt
no_end (e ∷ es) h = ((λ same. absurd (let lt : e.0 < END = grind (arith, nat_tests, h.0) in omega (arith, lt, same))), no_end es h.1)

-- what comes after a key in a sorted list is not below it
not_below_rest : (k : ℕ) (v : Value) (es front back : List (ℕ × Value)) → is_sorted nat_cmp es ≡ true → es ≡ front ++ (k, v) ∷ back → AreFrom k back
not_below_rest k v es front back sorted whole = not_above k back (last_part front (subst (λ (xs : List (ℕ × Value)). Rises xs) whole (rises es sorted))).0
  where
    last_part : (xs : List (ℕ × Value)) → Rises (xs ++ (k, v) ∷ back) → Rises ((k, v) ∷ back)
    last_part [] h = h
    last_part (x ∷ xs) h = last_part xs h.1

all_without_front : (front : List (ℕ × Value)) (e : ℕ × Value) (back : List (ℕ × Value)) → AreBelowEnd (front ++ e ∷ back) → nat_lt e.0 END ≡ true
all_without_front [] e back h = h.0
all_without_front (x ∷ front) e back h = all_without_front front e back h.1

-- the list, cut after its front
module _ (p : ℕ) (es front back : List (ℕ × Value)) (m : map.FinMap nat_cmp Value) (sorted : is_sorted nat_cmp es ≡ true) (seen : map.from_sorted es ≡ m) (whole : es ≡ front ++ back) (below : AreBelow p front) (from : AreFrom p back) where
  pub fronts : take (length front) es ≡ front
  fronts = ap (take (length front)) whole ∙ take-append_seam front back

  pub backs : drop (length front) es ≡ back
  backs = ap (drop (length front)) whole ∙ drop-append_seam front back

  pub cut_behind : Cut p (length front) es m
  cut_behind = record { cut = cut_at p (length front) es sorted (subst (AreBelow p) (sym fronts) below) (subst (AreFrom p) (sym backs) from); entries = entries_kept es m sorted seen }

-- what a search found
module _ (p : ℕ) (es : List (ℕ × Value)) (m : map.FinMap nat_cmp Value) (before : Option ℕ) (run : List (ℕ × Value)) (sorted : is_sorted nat_cmp es ≡ true) (ends : AreBelowEnd es) (seen : map.from_sorted es ≡ m) (f : IsFound es p before run) where
  pub cut_found : Cut p (length f.front) es m
  cut_found = cut_behind p es f.front (run ++ f.rest) m sorted seen f.whole f.below f.from

  its_back : drop (length f.front) es ≡ run ++ f.rest
  its_back = backs p es f.front (run ++ f.rest) m sorted seen f.whole f.below f.from

  its_front : take (length f.front) es ≡ f.front
  its_front = fronts p es f.front (run ++ f.rest) m sorted seen f.whole f.below f.from

  pub first_found : (e : ℕ × Value) → Some e ≡ slice_get run 0 → Some e ≡ slice_get (drop (length f.front) es) 0
  first_found e h = first_of_run run f.rest e h ∙ ap (λ (xs : List (ℕ × Value)). slice_get xs 0) (sym its_back)

  pub none_found : None ≡ slice_get run 0 → None ≡ slice_get (drop (length f.front) es) 0
  none_found h = none_of_run run f.rest f.some h ∙ ap (λ (xs : List (ℕ × Value)). slice_get xs 0) (sym its_back)

  pub before_end : IfSome before (λ k. k < END)
  before_end = subst (λ (o : Option ℕ). IfSome o (λ k. k < END)) (sym f.last) (last_below f.front None (front_all (λ e. nat_lt e.0 END ≡ true) f.front (run ++ f.rest) (subst AreBelowEnd f.whole ends)) tt)

  pub behind_found : behind before ≡ after_keys 0 (take (length f.front) es)
  behind_found = ap behind f.last ∙ behind_last None f.front ∙ ap (after_keys 0) (sym its_front)

  -- the first point of the span of p itself
  pub low_cut : behind before ≡ low_of m p
  low_cut = behind_found ∙ low_at p (length f.front) es m cut_found

  pub low_within : behind before ≤ p
  low_within = let at = behind_found in let le = after_below 0 p (take (length f.front) es) (omega arith) cut_found.cut.below in omega (arith, at, le)

  -- the slot, if the run has a first entry
  module _ (e : ℕ × Value) (h : Some e ≡ slice_get run 0) where
    here : drop (length f.front) es ≡ e ∷ drop 1 (drop (length f.front) es)
    here = head_some (drop (length f.front) es) e (first_found e h)

    its_cut : CutAt p (take (length f.front) es) (e ∷ drop 1 (drop (length f.front) es))
    its_cut = subst (λ (xs : List (ℕ × Value)). CutAt p (take (length f.front) es) xs) here cut_found.cut

    its_list : map.entries m ≡ take (length f.front) es ++ e ∷ drop 1 (drop (length f.front) es)
    its_list = cut_found.entries ∙ sym (take-append-drop (length f.front) es) ∙ ap (λ (xs : List (ℕ × Value)). take (length f.front) es ++ xs) here

    pub key_ends : e.0 ≤ END
    key_ends =
        let last = (all_without_front (take (length f.front) es) e (drop 1 (drop (length f.front) es)) (subst AreBelowEnd (sym cut_found.entries ∙ its_list) ends)) in
        let lt : e.0 < END = grind (arith, nat_tests, last) in
        omega (arith, lt)

    pub slot_found : e.0 ≡ slot_of m p
    slot_found = slot_at p (length f.front) es m e cut_found (first_found e h)

    pub low_found : behind before ≡ low_of m e.0
    low_found =
        behind_found ∙ sym (ap (λ (xs : List (ℕ × Value)). after_keys 0 (filter (λ z. nat_lt z.0 e.0) xs)) its_list
        ∙ ap (after_keys 0) (cut_below p (take (length f.front) es) e (drop 1 (drop (length f.front) es)) its_cut))

    pub value_found : Some e.1 ≡ map.get m e.0
    value_found = sym (map.get-entries m e.0 ∙ ap (find nat_cmp e.0) its_list ∙ slot_value p (take (length f.front) es) e (drop 1 (drop (length f.front) es)) its_cut)

  -- and if it has none
  module _ (h : None ≡ slice_get run 0) where
    past : drop (length f.front) es ≡ []
    past = head_none (drop (length f.front) es) (none_found h)

    pub end_found : END ≡ slot_of m p
    end_found = end_at p (length f.front) es m cut_found (none_found h)

    front_ends : AreBelowEnd (take (length f.front) es)
    front_ends = front_all (λ e. nat_lt e.0 END ≡ true) (take (length f.front) es) (drop (length f.front) es) (subst AreBelowEnd (sym (take-append-drop (length f.front) es)) ends)

    pub end_low : behind before ≡ low_of m END
    end_low =
        behind_found ∙ sym (ap (λ (xs : List (ℕ × Value)). after_keys 0 (filter (λ z. nat_lt z.0 END) xs)) (cut_found.entries ∙ sym (take-append-drop (length f.front) es) ∙ ap (λ (xs : List (ℕ × Value)). take (length f.front) es ++ xs) past)
        ∙ ap (after_keys 0) (none_behind (take (length f.front) es) front_ends))

    pub end_value : None ≡ map.get m END
    end_value = sym (map.get-entries m END ∙ ap (find nat_cmp END) cut_found.entries ∙ find_none END es (no_end es ends))

-- What a key has

above_front : (k : ℕ) (v : Value) (front back : List (ℕ × Value)) → Rises (front ++ (k, v) ∷ back) → AreBelow k front
above_front k v [] back h = tt
above_front k v (e ∷ front) back h = (let lt = above_it e.0 front h.0 in grind (arith, nat_tests, lt), above_front k v front back h.1)
  where
    above_it : (j : ℕ) (xs : List (ℕ × Value)) → Above j (xs ++ (k, v) ∷ back) → j < k
    above_it j [] h = h.0
    above_it j (x ∷ xs) h = above_it j xs h.1

pub get_is : (k : ℕ) (es : List (ℕ × Value)) (m : map.FinMap nat_cmp Value) (o : Option Value) → is_sorted nat_cmp es ≡ true → map.from_sorted es ≡ m → MatchOption o (NoKey k es) (λ v. HasEntry es k v) → o ≡ map.get m k
get_is k es m None sorted seen h = sym (map.get-entries m k ∙ ap (find nat_cmp k) (entries_kept es m sorted seen) ∙ find_none k es h)
get_is k es m (Some v) sorted seen h =
    let below = above_front k v h.front h.back (subst (λ (xs : List (ℕ × Value)). Rises xs) h.whole (rises es sorted)) in
    let e : ℕ × Value = (k, v) in
    sym (map.get-entries m k ∙ ap (find nat_cmp k) (entries_kept es m sorted seen ∙ h.whole) ∙ find_behind k h.front (e ∷ h.back) below ∙ find_here e h.back)

apart_of : (k j : ℕ) → eq_by_cmp nat_cmp k j ≡ false → j ≢ k
apart_of k j h e = (let same : eq_by_cmp nat_cmp k j ≡ true = grind (arith, nat_tests, e) in let bad : true ≡ false = sym same ∙ h in absurd (let worse : true ≡ false = bad in cc))

absent : (k : ℕ) (es : List (ℕ × Value)) → is_some (find nat_cmp k es) ≡ false → NoKey k es
absent k [] h = tt
absent k (e ∷ es) h = one (eq_by_cmp nat_cmp k e.0) refl h (absent k es)
  where
    one : (b : Bool) → eq_by_cmp nat_cmp k e.0 ≡ b → is_some (cond b (Some e.1) (find nat_cmp k es)) ≡ false → (is_some (find nat_cmp k es) ≡ false → NoKey k es) → NoKey k (e ∷ es)
    one true is none others = absurd (let bad : true ≡ false = none in cc)
    one false is none others = (apart_of k e.0 is, others none)

pub absent_key : (k : ℕ) (es : List (ℕ × Value)) (m : map.FinMap nat_cmp Value) → is_sorted nat_cmp es ≡ true → map.from_sorted es ≡ m → is_some (map.get m k) ≡ false → NoKey k es
absent_key k es m sorted seen h = absent k es (ap is_some (sym (map.get-entries m k ∙ ap (find nat_cmp k) (entries_kept es m sorted seen))) ∙ h)

-- A change

module _ {X : Type 0} (P : X → Type 0) where
  all_between : (f g : List X) (x : X) → P x → AllByRecursion P (f ++ g) → AllByRecursion P (f ++ x ∷ g)
  all_between [] g x p h = (p, h)
  all_between (y ∷ f) g x p h = (h.0, all_between f g x p h.1)

  all_without : (f g : List X) (x : X) → AllByRecursion P (f ++ x ∷ g) → P x × AllByRecursion P (f ++ g)
  all_without [] g x h = h
  all_without (y ∷ f) g x h = let r = all_without f g x h.1 in (r.0, (h.0, r.1))

length_between : {X : Type 0} (f g : List X) (x : X) → length (f ++ x ∷ g) ≡ suc (length (f ++ g))
length_between [] g x = refl
length_between (y ∷ f) g x = ap suc (length_between f g x)

abbrev BelowEnd : ℕ × Value → Type 0
BelowEnd e = nat_lt e.0 END ≡ true

-- the list that is kept, and what it is kept of
abbrev pub KeptFor : map.FinMap nat_cmp Value → List (ℕ × Value) → ℕ → ℕ → Type 0
KeptFor m fs room capacity = (map.from_sorted fs ≡ m) × IsEntries fs room capacity

module _ (k : ℕ) (v : Value) (es fs : List (ℕ × Value)) (m : map.FinMap nat_cmp Value) (room capacity : ℕ) (kept : IsEntries es room capacity) (seen : map.from_sorted es ≡ m) where
  pub kept_inserted : k < END → is_some (map.get m k) ≡ false → length es < room → IsInserted es fs k v → KeptFor (map.insert m k v) fs room capacity
  kept_inserted lt new less i =
      let n = length i.front in
      let made : fs ≡ map.entries (map.insert m k v) =
      i.new ∙ ap (λ (xs : List (ℕ × Value)). xs ++ (k, v) ∷ i.back) (sym (fronts k es i.front i.back m kept.sorted seen i.old i.below i.from))
      ∙ ap (λ (xs : List (ℕ × Value)). take n es ++ (k, v) ∷ xs) (sym (backs k es i.front i.back m kept.sorted seen i.old i.below i.from))
      ∙ inserted k v n es m (cut_behind k es i.front i.back m kept.sorted seen i.old i.below i.from) new in
      let end : nat_lt k END ≡ true = grind (arith, nat_tests, lt) in
      let len : length fs ≡ suc (length es) = ap length i.new ∙ length_between i.front i.back (k, v) ∙ ap (λ (xs : List (ℕ × Value)). suc (length xs)) (sym i.old) in (
        same_entries_seen (map.insert m k v) fs made,
        kept_as (map.insert m k v) fs room capacity made (subst AreBelowEnd (sym i.new) (all_between BelowEnd i.front i.back (k, v) end (subst AreBelowEnd i.old kept.below))) (omega (arith, len, less)) kept.fits,
      )

  pub kept_changed : (P : Type 0) (o : Option Value) → is_some (map.get m k) ≡ true → MatchOption o (NoKey k es × P) (λ was. IsChanged es fs k v was) → KeptFor (map.insert m k v) fs room capacity
  kept_changed P None there h = absurd (let bad : false ≡ true = sym (ap is_some (map.get-entries m k ∙ ap (find nat_cmp k) (entries_kept es m kept.sorted seen) ∙ find_none k es h.0)) ∙ there in cc)
  kept_changed P (Some was) there i =
      let n = length i.front in
      let e : ℕ × Value = (k, was) in
      let cut = cut_behind k es i.front (e ∷ i.back) m kept.sorted seen i.old i.below (itself k, not_below_rest k was es i.front i.back kept.sorted i.old) in
      let back = backs k es i.front (e ∷ i.back) m kept.sorted seen i.old i.below (itself k, not_below_rest k was es i.front i.back kept.sorted i.old) in
      let front = fronts k es i.front (e ∷ i.back) m kept.sorted seen i.old i.below (itself k, not_below_rest k was es i.front i.back kept.sorted i.old) in
      let made : fs ≡ map.entries (map.insert m k v) =
      i.new ∙ sym (put_cut k v n es m cut ∙ ap (λ (xs : List (ℕ × Value)). take n es ++ put nat_cmp k v xs) back
      ∙ ap (λ (xs : List (ℕ × Value)). take n es ++ xs) (put_here k v was i.back) ∙ ap (λ (xs : List (ℕ × Value)). xs ++ (k, v) ∷ i.back) front) in
      let whole = all_without BelowEnd i.front i.back e (subst AreBelowEnd i.old kept.below) in
      let len : length fs ≡ length es = ap length i.new ∙ length_between i.front i.back (k, v) ∙ sym (ap length i.old ∙ length_between i.front i.back e) in (
        same_entries_seen (map.insert m k v) fs made,
        kept_as (map.insert m k v) fs room capacity made (subst AreBelowEnd (sym i.new) (all_between BelowEnd i.front i.back (k, v) whole.0 whole.1)) (let few = kept.few in omega (arith, len, few)) kept.fits,
      )

module _ (k : ℕ) (es fs : List (ℕ × Value)) (m : map.FinMap nat_cmp Value) (room capacity : ℕ) (kept : IsEntries es room capacity) (seen : map.from_sorted es ≡ m) where
  pub kept_removed : (P : Type 0) (o : Option Value) → is_some (map.get m k) ≡ true → MatchOption o (NoKey k es × P) (λ was. IsRemoved es fs k was) → KeptFor (map.remove m k) fs room capacity
  kept_removed P None there h = absurd (let bad : false ≡ true = sym (ap is_some (map.get-entries m k ∙ ap (find nat_cmp k) (entries_kept es m kept.sorted seen) ∙ find_none k es h.0)) ∙ there in cc)
  kept_removed P (Some was) there i =
      let n = length i.front in
      let e : ℕ × Value = (k, was) in
      let from : AreFrom k (e ∷ i.back) = (itself k, not_below_rest k was es i.front i.back kept.sorted i.old) in
      let back = backs k es i.front (e ∷ i.back) m kept.sorted seen i.old i.below from in
      let made : fs ≡ map.entries (map.remove m k) =
      i.new ∙ ap (λ (xs : List (ℕ × Value)). xs ++ i.back) (sym (fronts k es i.front (e ∷ i.back) m kept.sorted seen i.old i.below from))
      ∙ ap (λ (xs : List (ℕ × Value)). take n es ++ xs) (sym (sym (drop_one n es) ∙ ap (drop 1) back))
      ∙ removed k n es m (cut_behind k es i.front (e ∷ i.back) m kept.sorted seen i.old i.below from) there in
      let whole = all_without BelowEnd i.front i.back e (subst AreBelowEnd i.old kept.below) in
      let len : length es ≡ suc (length fs) = ap length i.old ∙ length_between i.front i.back e ∙ ap (λ (xs : List (ℕ × Value)). suc (length xs)) (sym i.new) in (
        same_entries_seen (map.remove m k) fs made,
        kept_as (map.remove m k) fs room capacity made (subst AreBelowEnd (sym i.new) whole.1) (let few = kept.few in omega (arith, len, few)) kept.fits,
      )
