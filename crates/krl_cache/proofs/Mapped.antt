-- What the maps of a cache stand for, after each call.
use Rattle.krl_cache.proofs.Names.{◌≡◌, ℕ, suc, ◌≤◌, ◌<◌, inl, inr, Bool, true, false, cond, List, [], ◌∷◌, map, Option, None, Some, refl, sym, ap, subst, ◌∙◌, arith, filter, filter_map, cons_option}
use Rattle.krl_cache.proofs.Names.{IsStrictlySortedBy, option_and_then, nat_cmp, is_eq, keys_of, find, entries_between, Included, Excluded, nat_tests, eqb_tells, TOP, RangePart, KeyPart, Mode}
use Rattle.krl_cache.proofs.Names.{range_meet, key_meet, reads_key, range_of, key_of, Bounds, contains, Value, Holding, RangePiece, Entry, is_last, no_belief, AreRows, first_range_at, first_key_at}
use Rattle.krl_cache.proofs.Names.{AreMerged, AreAscending, Describes, part_of, value_of, lies_in, pick, tagged, row_value, key_piece, entry_of, own_entry, entry_lowered, StandWithin, RiseWithin}
use Rattle.krl_cache.proofs.Names.{AreRead, at, part_at, Maps, maps_believe, AreMapsKept, AreStartsMerged, EndsAlike, row_of, Rise}
use Rattle.krl_modes.specs.declared.part.KeyPart.TheVariants as key
use Rattle.krl_messages.specs.declared.key_pieces.KeyPiece.{KeyPiece}
use Rattle.krl_cache.proofs.Effects.{same_belief}
use Rattle.krl_cache.proofs.Starts.{part_none}
use Rattle.krl_cache.proofs.Rests.{rise_of, at_before, between}
use Rattle.krl_cache.proofs.Pieces.{stand_in_order}
use Rattle.krl_cache.proofs.Entries.{keys_say, keys_ascend}
use Rattle.krl_cache.proofs.Listed.{rows_are}
use Rattle.krl_cache.proofs.Windows.{past_window}

-- New

nothing_kept : AreMapsKept (record { starts = []; entries = [] })
nothing_kept = record {
  past = record { starts = λ q l. refl; part = part_none (at []) TOP (λ q a b. refl) };
  merged = λ q v h before. absurd (let bad : ◌≡◌ {A = Option RangePart} None (Some v) = h in cc);
  entries = λ q e h. absurd (let bad : None ≡ Some e = h in cc);
}

nothing_believed : maps_believe (record { starts = []; entries = [] }) ≡ no_belief
nothing_believed = same_belief (maps_believe (record { starts = []; entries = [] })) no_belief (λ p. part_none (at []) p (λ q a b. refl)) (λ p. refl) (λ p. refl)

pub maps_kept : (ss : List (ℕ × RangePart)) (es : List (ℕ × Entry)) → ss ≡ [] → es ≡ [] → AreMapsKept (record { starts = ss; entries = es })
maps_kept ss es s e =
    subst (λ (x : List (ℕ × RangePart)). AreMapsKept (record { starts = x; entries = es })) (sym s)
    (subst (λ (x : List (ℕ × Entry)). AreMapsKept (record { starts = []; entries = x })) (sym e) nothing_kept)

pub maps_new : (ss : List (ℕ × RangePart)) (es : List (ℕ × Entry)) → ss ≡ [] → es ≡ [] → maps_believe (record { starts = ss; entries = es }) ≡ no_belief
maps_new ss es s e =
    ap (λ (x : List (ℕ × RangePart)). maps_believe (record { starts = x; entries = es })) s
    ∙ ap (λ (x : List (ℕ × Entry)). maps_believe (record { starts = []; entries = x })) e ∙ nothing_believed

-- Adopting and lowering keep what holds of the maps

pub read_entry : (part : KeyPart) (value : Option Value) (e : Entry) → entry_of part value ≡ Some e → reads_key e.part ≡ true
read_entry key.N value e h = absurd (let bad : None ≡ Some e = h in cc)
read_entry key.S value e h = let same : ◌≡◌ {A = Entry} (record { part = key.S; value = value }) e = cc in subst (λ (x : Entry). reads_key x.part ≡ true) same refl
read_entry key.U value e h = let same : ◌≡◌ {A = Entry} (record { part = key.U; value = value }) e = cc in subst (λ (x : Entry). reads_key x.part ≡ true) same refl
read_entry key.X value e h = let same : ◌≡◌ {A = Entry} (record { part = key.X; value = value }) e = cc in subst (λ (x : Entry). reads_key x.part ≡ true) same refl

read_low : (keep : KeyPart) (o : Option Entry) (e : Entry) → option_and_then (entry_lowered keep) o ≡ Some e → reads_key e.part ≡ true
read_low keep None e h = absurd (let bad : None ≡ Some e = h in cc)
read_low keep (Some x) e h = read_entry (key_meet x.part keep) x.value e h

in_span : (lo hi q : ℕ) → lies_in lo hi q ≡ true → q < hi
in_span lo hi q h = grind (arith, nat_tests)

-- an entry of the span is read, and one outside stood before
pub still_kept : (s : Bounds) (old new : Maps) (m : ℕ → RangePart) (mid : ℕ → Option Entry) → AreMapsKept old → s.hi ≤ TOP → ((p : ℕ) → part_at (at new.starts) p ≡ cond (contains s p) (m p) (part_at (at old.starts) p)) → EndsAlike (at old.starts) (at new.starts) → (AreStartsMerged (at old.starts) → AreStartsMerged (at new.starts)) → ((p : ℕ) → at new.entries p ≡ cond (contains s p) (mid p) (at old.entries p)) → ((p : ℕ) (e : Entry) → mid p ≡ Some e → reads_key e.part ≡ true) → AreMapsKept new
still_kept s old new m mid kept top parts ends merged entries read = record {
  past = record {
    starts = λ q l. ends q l (kept.past.starts q l);
    part = parts TOP ∙ ap (λ (b : Bool). cond b (m TOP) (part_at (at old.starts) TOP)) (past_window s.lo s.hi TOP top) ∙ kept.past.part;
  };
  merged = merged kept.merged;
  entries = λ q e h.
      elim (contains s q) as (λ (b : Bool). contains s q ≡ b → cond b (mid q) (at old.entries q) ≡ Some e → (q < TOP) × (reads_key e.part ≡ true)) [
        | true ↦ λ b k. (let below : q < s.hi = in_span s.lo s.hi q b in omega (arith, top), read q e k)
        | false ↦ λ b k. kept.entries q e k
      ] refl (sym (entries q) ∙ h);
}

last_read : (b : Bool) (part : KeyPart) (value : Option Value) (e : Entry) → cond b (entry_of part value) None ≡ Some e → reads_key e.part ≡ true
last_read true part value e h = read_entry part value e h
last_read false part value e h = absurd (let bad : None ≡ Some e = h in cc)

pub adopt_keeps : (h : Holding) (old new : Maps) → AreMapsKept old → h.span.hi ≤ TOP → ((p : ℕ) → part_at (at new.starts) p ≡ cond (contains h.span p) (range_of h.mode) (part_at (at old.starts) p)) → EndsAlike (at old.starts) (at new.starts) → (AreStartsMerged (at old.starts) → AreStartsMerged (at new.starts)) → ((p : ℕ) → at new.entries p ≡ cond (contains h.span p) (cond (is_last h.span p) (own_entry h) None) (at old.entries p)) → AreMapsKept new
adopt_keeps h old new kept top parts ends merged entries =
    still_kept h.span old new (λ p. range_of h.mode) (λ p. cond (is_last h.span p) (own_entry h) None) kept top parts ends merged entries (λ p e k. last_read (is_last h.span p) (key_of h.mode) h.value e k)

pub lower_keeps : (s : Bounds) (keep : Mode) (old new : Maps) → AreMapsKept old → s.hi ≤ TOP → ((p : ℕ) → part_at (at new.starts) p ≡ cond (contains s p) (range_meet (part_at (at old.starts) p) (range_of keep)) (part_at (at old.starts) p)) → EndsAlike (at old.starts) (at new.starts) → (AreStartsMerged (at old.starts) → AreStartsMerged (at new.starts)) → ((p : ℕ) → at new.entries p ≡ cond (contains s p) (option_and_then (entry_lowered (key_of keep)) (at old.entries p)) (at old.entries p)) → AreMapsKept new
lower_keeps s keep old new kept top parts ends merged entries =
    still_kept s old new (λ p. range_meet (part_at (at old.starts) p) (range_of keep)) (λ p. option_and_then (entry_lowered (key_of keep)) (at old.entries p)) kept top parts ends merged entries (λ p e k. read_low (key_of keep) (at old.entries p) e k)

-- The list of an ordered map

pub at_find : {V : Type 0} (es : List (ℕ × V)) (q : ℕ) → at es q ≡ find nat_cmp q es
at_find [] q = refl
at_find {V} (e ∷ es) q = ap (λ (o : Option V). cond (is_eq (nat_cmp q e.0)) (Some e.1) o) (at_find es q)

found_later : {V : Type 0} (k q : ℕ) (v x : V) (es : List (ℕ × V)) → Rise (suc k) es → at es q ≡ Some x → at ((k, v) ∷ es) q ≡ Some x
found_later {V} k q v x es h f =
    elim (eqb_tells q k) [
      | inl s ↦ absurd (let none : at es q ≡ None = at_before (suc k) es q h (omega (arith, s.1)) in let bad : ◌≡◌ {A = Option V} None (Some x) = sym none ∙ f in cc)
      | inr s ↦ let out : is_eq (nat_cmp q k) ≡ false = grind (arith, nat_tests, s.0) in rw out f
    ]

pub found_head : {V : Type 0} (e : ℕ × V) (es : List (ℕ × V)) → at (e ∷ es) e.0 ≡ Some e.1
found_head e es = let same : is_eq (nat_cmp e.0 e.0) ≡ true = grind (arith, nat_tests) in rw same refl

pub rise_within : {V : Type 0} (lo top : ℕ) (es : List (ℕ × V)) → lo ≤ top → Rise lo es → ((q : ℕ) (x : V) → at es q ≡ Some x → q < top) → RiseWithin lo top es
rise_within lo top [] l h below = l
rise_within lo top (e ∷ es) l h below =
    let up = below e.0 e.1 (found_head e es) in
    (h.0, rise_within (suc e.0) top es (omega (arith, up)) h.1 (λ q x f. below q x (found_later e.0 q e.1 x es h.1 f)))

pub all_read : (lo : ℕ) (es : List (ℕ × Entry)) → Rise lo es → ((q : ℕ) (e : Entry) → at es q ≡ Some e → reads_key e.part ≡ true) → AreRead es
all_read lo [] h read = tt
all_read lo (e ∷ es) h read = (read e.0 e.1 (found_head e es), all_read (suc e.0) es h.1 (λ q x f. read q x (found_later e.0 q e.1 x es h.1 f)))

rows_chosen : (lo hi : ℕ) (es : List (ℕ × Entry)) → filter_map row_of (filter (λ (x : ℕ × Entry). lies_in lo hi x.0) es) ≡ filter_map (pick lo hi row_value) es
rows_chosen lo hi [] = refl
rows_chosen lo hi (e ∷ es) =
    let rest = rows_chosen lo hi es in
    let others = filter (λ (x : ℕ × Entry). lies_in lo hi x.0) es in
    elim (lies_in lo hi e.0) as (λ (b : Bool). filter_map row_of (cond b (e ∷ others) others) ≡ cons_option (cond b (tagged e.0 (row_value e.1)) None) (filter_map (pick lo hi row_value) es)) [
      | true ↦ ap (λ (xs : List (ℕ × Value)). cons_option (tagged e.0 e.1.value) xs) rest
      | false ↦ rest
    ]

pub maps_rows : (s : Bounds) (x : Maps) (rows : List (ℕ × Value)) (lo hi : ℕ) → AreMapsKept x → IsStrictlySortedBy nat_cmp (keys_of x.entries) → s.lo < s.hi → lo ≡ s.lo → hi ≡ s.hi → rows ≡ filter_map row_of (entries_between nat_cmp (Included lo) (Excluded hi) x.entries) → AreRows (maps_believe x) s rows
maps_rows s x rows lo hi kept sorted l el eh e =
    rows_are (maps_believe x) s TOP x.entries x.entries rows lo hi (λ p. ap value_of (at_find x.entries p)) (rise_within 0 TOP x.entries (omega arith) (rise_of x.entries sorted) (λ q v f. (kept.entries q v f).0)) l el eh refl
    (e ∙ ap (λ (xs : List (ℕ × Entry)). filter_map row_of xs) (between lo hi x.entries) ∙ rows_chosen lo hi x.entries)

pub maps_describe : (x : Maps) (rs : List RangePiece) (keys : List KeyPiece) → AreMapsKept x → IsStrictlySortedBy nat_cmp (keys_of x.entries) → StandWithin 0 TOP rs → AreMerged rs → ((p : ℕ) → first_range_at rs p ≡ part_at (at x.starts) p) → keys ≡ map key_piece x.entries → Describes (record { ranges = rs; keys = keys }) (maps_believe x)
maps_describe x rs keys kept sorted stand merged said e =
    let rise = rise_of x.entries sorted in
    record {
      ranges_in_order = stand_in_order 0 TOP rs (omega arith) stand;
      merged = merged;
      keys_in_order = subst (λ (k : List KeyPiece). AreAscending 0 k) (sym e)
          (keys_ascend 0 TOP x.entries (omega arith) (rise_within 0 TOP x.entries (omega arith) rise (λ q v f. (kept.entries q v f).0)) (all_read 0 x.entries rise (λ q v f. (kept.entries q v f).1)));
      ranges = said;
      keys = λ p. ap (λ (k : List KeyPiece). first_key_at k p) e ∙ keys_say x.entries p ∙ ap part_of (sym (at_find x.entries p));
    }
