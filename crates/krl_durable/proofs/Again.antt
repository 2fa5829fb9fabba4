-- What survives, written out and brought back.
use Rattle.krl_durable.proofs.Names.{◌≡◌, ℕ, zero, suc, ◌≤◌, ◌<◌, true, false, List, [], ◌∷◌, length, take, refl, sym, ap, ◌∙◌, arith, ◌||◌, nat_tests, nat_cmp_total, END, Value, Index, has_key}
use Rattle.krl_durable.proofs.Names.{Register, Durable, AreBelowEnd, key_of_entry, stands_before, Refuses, MakesAgain}
use Rattle.std.specs.Prelude.{nat_eq}
use Rattle.std.specs.FinMap as map
use Rattle.krl_durable.specs.declared.refused.EntriesRefused.{EntriesRefused}
use Rattle.krl_durable.specs.declared.refused.EntriesRefused.TheVariants as refused
use Rattle.krl_durable.proofs.Kept.{sorted_entries}
use Rattle.krl_durable.proofs.Slots.{Above, Rises, rises}

less_apart : (a b : ℕ) → a < b → nat_eq a b ≡ false
less_apart a b lt = grind (arith, nat_tests, lt)

module _ {V : Type 0} where
  key_below : (es : List (ℕ × V)) (i : ℕ) → AreBelowEnd es → i < length es → key_of_entry es i < END
  key_below [] i h lt = absurd (omega (arith, lt))
  key_below (e ∷ es) zero h lt = let x : e.0 < END = grind (arith, nat_tests, h.0) in x
  key_below (e ∷ es) (suc i) h lt = key_below es i h.1 (omega (arith, lt))

  key_above : (k : ℕ) (es : List (ℕ × V)) (i : ℕ) → Above k es → i < length es → k < key_of_entry es i
  key_above k [] i h lt = absurd (omega (arith, lt))
  key_above k (e ∷ es) zero h lt = h.0
  key_above k (e ∷ es) (suc i) h lt = key_above k es i h.1 (omega (arith, lt))

  -- a key that rises stands in no earlier entry
  not_before : (es : List (ℕ × V)) (i : ℕ) → Rises es → i < length es → stands_before es i ≡ false
  not_before [] i h lt = absurd (omega (arith, lt))
  not_before (e ∷ es) zero h lt = refl
  not_before (e ∷ es) (suc i) h lt =
      ap (λ b. b || has_key (take i es) (key_of_entry es i)) (less_apart e.0 (key_of_entry es i) (key_above e.0 es i h.0 (omega (arith, lt))))
      ∙ not_before es i h.1 (omega (arith, lt))

-- entries in order, below END and not too many, are refused only for want of memory
for_memory : (room : ℕ) (es : List (ℕ × Value)) → Rises es → AreBelowEnd es → length es ≤ room → (e : EntriesRefused) → Refuses room es e → e ≡ refused.OutOfMemory
for_memory room es rise below few refused.OutOfMemory h = refl
for_memory room es rise below few refused.Full h = absurd (omega (arith, few, h))
for_memory room es rise below few refused.BadKey h = absurd (omega (arith, h.4, key_below es h.1 below h.2))
for_memory room es rise below few refused.Twice h = absurd (let bad : true ≡ false = sym h.5 ∙ not_before es h.1 rise h.2 in cc)

-- the entries of a map make it again
entries_again : (m : Index) → map.from_entries (map.entries m) ≡ m
entries_again m = map.same_map nat_cmp_total map.nat_cmp-IsAntisymmetric (map.from_entries (map.entries m)) m
    (λ q. map.get-from_entries nat_cmp_total (map.entries m) q ∙ sym (map.get-entries m q))

pub makes_again : (d : Durable) (records : Register) → AreBelowEnd (map.entries d.index) → records ≡ d.register → MakesAgain d records
makes_again d records below e = record {
  taken = λ l fits. for_memory l.room (map.entries d.index) (rises (map.entries d.index) (sorted_entries d.index (map.entries d.index) refl)) below fits.entries;
  same = λ l. ap (λ m. let x : Durable = record { room = l.room; reach = l.reach; index = m; epoch = d.epoch; register = records } in x) (entries_again d.index)
      ∙ ap (λ r. let x : Durable = record { room = l.room; reach = l.reach; index = d.index; epoch = d.epoch; register = r } in x) e;
}
