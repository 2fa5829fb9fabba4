-- The laws of the modes, most of them by a test over the whole table.
use Rattle.std.proofs.Common.{◌≡◌, ℕ, ◌&&◌, ◌↔◌, List, [], ◌∷◌, Some, arith, refl, inl, inr}
use Rattle.std.specs.Prelude.{IsTrue, IfSome, IsNone, find}
use Rattle.std.specs.Bool.{beq}
use Rattle.std.specs.Cmp.{booleans_Decides}
use Rattle.std.specs.Str.{bytes_eq}
use Rattle.std.specs.List.{list_all}
use Rattle.std.proofs.lemmas.Bool.{and_parts, and_from, cond_both}
use Rattle.std.proofs.lemmas.Slice.Eq.{bytes_eq-Decides}
use Rattle.krl_modes.specs.declared.part.RangePart.{RangePart}
use Rattle.krl_modes.specs.declared.part.RangePart.TheVariants as range
use Rattle.krl_modes.specs.declared.part.KeyPart.{KeyPart}
use Rattle.krl_modes.specs.declared.part.KeyPart.TheVariants as key
use Rattle.krl_modes.specs.declared.mode.Mode.{Mode}
use Rattle.krl_modes.specs.Orders.{IsPartialOrder, IsLeastUpperBound, IsGreatestLowerBound, IsCompatibility}
use Rattle.krl_modes.specs.Parts.{range_at_most, key_at_most, ranges_compatible, keys_compatible, range_join, range_meet, key_join, key_meet}
use Rattle.krl_modes.specs.Modes.{range_of, key_of, at_most, compatible, at_or_above, join, meet, cap}
use Rattle.krl_modes.specs.Names.{mode_of, all_modes, mode_name, mode_named}
use Rattle.krl_modes.specs.Laws.{HasParts, HasPartsCorrected, IsNoMode, IsLeastModeAbove, IsGreatestBeside, ReadsItsKey, IsOnlyNamed}
use Rattle.krl_modes.proofs.Tables.{implies, implies_use, by_table, by_table_2, by_table_3}
use Rattle.krl_modes.proofs.PartLaws.{range_order, key_order}

-- ---- parts

pub mode_of-parts : (m : Mode) → mode_of (range_of m) (key_of m) ≡ Some m
mode_of-parts m = grind arith

-- a mode is its parts
pub same_parts : (a b : Mode) → range_of a ≡ range_of b → key_of a ≡ key_of b → a ≡ b
same_parts a b r k = cc (mode_of-parts a, mode_of-parts b)

pub mode_of-only : (r : RangePart) (k : KeyPart) (m : Mode) → HasParts m r k → mode_of r k ≡ Some m
mode_of-only r k m h = cc (mode_of-parts m, h.range, h.key)

pub mode_of-has_parts : (r : RangePart) (k : KeyPart) → IfSome (mode_of r k) (λ m. HasParts m r k)
mode_of-has_parts range.N key.N = record { range = refl; key = refl }
mode_of-has_parts range.N key.S = record { range = refl; key = refl }
mode_of-has_parts range.N key.U = record { range = refl; key = refl }
mode_of-has_parts range.N key.X = record { range = refl; key = refl }
mode_of-has_parts range.S key.N = tt
mode_of-has_parts range.S key.S = record { range = refl; key = refl }
mode_of-has_parts range.S key.U = record { range = refl; key = refl }
mode_of-has_parts range.S key.X = tt
mode_of-has_parts range.I key.N = record { range = refl; key = refl }
mode_of-has_parts range.I key.S = record { range = refl; key = refl }
mode_of-has_parts range.I key.U = record { range = refl; key = refl }
mode_of-has_parts range.I key.X = record { range = refl; key = refl }
mode_of-has_parts range.X key.N = tt
mode_of-has_parts range.X key.S = record { range = refl; key = refl }
mode_of-has_parts range.X key.U = record { range = refl; key = refl }
mode_of-has_parts range.X key.X = record { range = refl; key = refl }

pub mode_of-none : (r : RangePart) (k : KeyPart) → IsNone (mode_of r k) ↔ IsNoMode r k
mode_of-none r k = grind arith

pub reads_its_key : (m : Mode) → ReadsItsKey m
reads_its_key m =
    implies_use (range_at_most range.S (range_of m)) (key_at_most key.S (key_of m)) (by_table (λ m. implies (range_at_most range.S (range_of m)) (key_at_most key.S (key_of m))) refl m)

pub at_or_above-parts : (m : Mode) → at_or_above (range_of m) (key_of m) ≡ m
at_or_above-parts m = grind arith

-- ---- the order

pub at_most-parts : (a b : Mode) → IsTrue (at_most a b) ↔ (IsTrue (range_at_most (range_of a) (range_of b)) × IsTrue (key_at_most (key_of a) (key_of b)))
at_most-parts a b =
    (and_parts (range_at_most (range_of a) (range_of b)) (key_at_most (key_of a) (key_of b)), λ h. and_from (range_at_most (range_of a) (range_of b)) (key_at_most (key_of a) (key_of b)) h.0 h.1)

at_most-antisymmetric : (a b : Mode) → IsTrue (at_most a b) → IsTrue (at_most b a) → a ≡ b
at_most-antisymmetric a b h k =
    let there = and_parts (range_at_most (range_of a) (range_of b)) (key_at_most (key_of a) (key_of b)) h in
    let back = and_parts (range_at_most (range_of b) (range_of a)) (key_at_most (key_of b) (key_of a)) k in
    same_parts a b (range_order.antisymmetric (range_of a) (range_of b) there.0 back.0) (key_order.antisymmetric (key_of a) (key_of b) there.1 back.1)

at_most-transitive : (a b c : Mode) → IsTrue (at_most a b) → IsTrue (at_most b c) → IsTrue (at_most a c)
at_most-transitive a b c h k =
    implies_use (at_most a b && at_most b c) (at_most a c) (by_table_3 (λ a b c. implies (at_most a b && at_most b c) (at_most a c)) refl a b c) (and_from (at_most a b) (at_most b c) h k)

pub mode_order : IsPartialOrder at_most
mode_order = record {
  reflexive = by_table (λ a. at_most a a) refl;
  antisymmetric = at_most-antisymmetric;
  transitive = at_most-transitive;
}

-- ---- compatible

pub compatible-parts : (a b : Mode) → IsTrue (compatible a b) ↔ (IsTrue (ranges_compatible (range_of a) (range_of b)) × IsTrue (keys_compatible (key_of a) (key_of b)))
compatible-parts a b =
    (and_parts (ranges_compatible (range_of a) (range_of b)) (keys_compatible (key_of a) (key_of b)), λ h. and_from (ranges_compatible (range_of a) (range_of b)) (keys_compatible (key_of a) (key_of b)) h.0 h.1)

compatible-symmetric : (a b : Mode) → compatible a b ≡ compatible b a
compatible-symmetric a b =
    (booleans_Decides (compatible a b) (compatible b a)).0 (by_table_2 (λ a b. beq (compatible a b) (compatible b a)) refl a b)

compatible-downward : (a b c : Mode) → IsTrue (at_most a b) → IsTrue (compatible b c) → IsTrue (compatible a c)
compatible-downward a b c h k =
    implies_use (at_most a b && compatible b c) (compatible a c) (by_table_3 (λ a b c. implies (at_most a b && compatible b c) (compatible a c)) refl a b c) (and_from (at_most a b) (compatible b c) h k)

pub mode_compatibility : IsCompatibility at_most compatible
mode_compatibility = record { symmetric = compatible-symmetric; downward = compatible-downward }

-- ---- bounds

at_or_above-test : (r : RangePart) (k : KeyPart) → IsTrue (list_all (λ m. implies (range_at_most r (range_of m) && key_at_most k (key_of m)) (at_most (at_or_above r k) m)) all_modes)
at_or_above-test r k = grind arith

at_or_above-above_range : (r : RangePart) (k : KeyPart) → IsTrue (range_at_most r (range_of (at_or_above r k)))
at_or_above-above_range r k = grind arith

at_or_above-above_key : (r : RangePart) (k : KeyPart) → IsTrue (key_at_most k (key_of (at_or_above r k)))
at_or_above-above_key r k = grind arith

pub at_or_above-least : (r : RangePart) (k : KeyPart) → IsLeastModeAbove r k (at_or_above r k)
at_or_above-least r k = record {
  above_range = at_or_above-above_range r k;
  above_key = at_or_above-above_key r k;
  least = λ m h i. implies_use (range_at_most r (range_of m) && key_at_most k (key_of m)) (at_most (at_or_above r k) m) (by_table (λ m. implies (range_at_most r (range_of m) && key_at_most k (key_of m)) (at_most (at_or_above r k) m)) (at_or_above-test r k) m) (and_from (range_at_most r (range_of m)) (key_at_most k (key_of m)) h i);
}

join-least : (a b c : Mode) → IsTrue (at_most a c) → IsTrue (at_most b c) → IsTrue (at_most (join a b) c)
join-least a b c h k =
    implies_use (at_most a c && at_most b c) (at_most (join a b) c) (by_table_3 (λ a b c. implies (at_most a c && at_most b c) (at_most (join a b) c)) refl a b c) (and_from (at_most a c) (at_most b c) h k)

pub join_bound : (a b : Mode) → IsLeastUpperBound at_most a b (join a b)
join_bound a b = record {
  above_first = by_table_2 (λ a b. at_most a (join a b)) refl a b;
  above_second = by_table_2 (λ a b. at_most b (join a b)) refl a b;
  least = join-least a b;
}

joined-reads_its_key : (a b : Mode) → IsTrue (implies (range_at_most range.S (range_join (range_of a) (range_of b))) (key_at_most key.S (key_join (key_of a) (key_of b))))
joined-reads_its_key a b =
    by_table_2 (λ a b. implies (range_at_most range.S (range_join (range_of a) (range_of b))) (key_at_most key.S (key_join (key_of a) (key_of b)))) refl a b

at_or_above-corrected : (r : RangePart) (k : KeyPart) → IsTrue (implies (range_at_most range.S r) (key_at_most key.S k)) → HasPartsCorrected (at_or_above r k) r k
at_or_above-corrected range.N key.N h = inl (record { range = refl; key = refl })
at_or_above-corrected range.N key.S h = inl (record { range = refl; key = refl })
at_or_above-corrected range.N key.U h = inl (record { range = refl; key = refl })
at_or_above-corrected range.N key.X h = inl (record { range = refl; key = refl })
at_or_above-corrected range.S key.N h = cc
at_or_above-corrected range.S key.S h = inl (record { range = refl; key = refl })
at_or_above-corrected range.S key.U h = inl (record { range = refl; key = refl })
at_or_above-corrected range.S key.X h = inr (refl, refl, refl)
at_or_above-corrected range.I key.N h = inl (record { range = refl; key = refl })
at_or_above-corrected range.I key.S h = inl (record { range = refl; key = refl })
at_or_above-corrected range.I key.U h = inl (record { range = refl; key = refl })
at_or_above-corrected range.I key.X h = inl (record { range = refl; key = refl })
at_or_above-corrected range.X key.N h = cc
at_or_above-corrected range.X key.S h = inl (record { range = refl; key = refl })
at_or_above-corrected range.X key.U h = inl (record { range = refl; key = refl })
at_or_above-corrected range.X key.X h = inl (record { range = refl; key = refl })

pub join-parts : (a b : Mode) → HasPartsCorrected (join a b) (range_join (range_of a) (range_of b)) (key_join (key_of a) (key_of b))
join-parts a b =
    at_or_above-corrected (range_join (range_of a) (range_of b)) (key_join (key_of a) (key_of b)) (joined-reads_its_key a b)

meet-greatest : (a b c : Mode) → IsTrue (at_most c a) → IsTrue (at_most c b) → IsTrue (at_most c (meet a b))
meet-greatest a b c h k =
    implies_use (at_most c a && at_most c b) (at_most c (meet a b)) (by_table_3 (λ a b c. implies (at_most c a && at_most c b) (at_most c (meet a b))) refl a b c) (and_from (at_most c a) (at_most c b) h k)

pub meet_bound : (a b : Mode) → IsGreatestLowerBound at_most a b (meet a b)
meet_bound a b = record {
  below_first = by_table_2 (λ a b. at_most (meet a b) a) refl a b;
  below_second = by_table_2 (λ a b. at_most (meet a b) b) refl a b;
  greatest = meet-greatest a b;
}

pub meet-parts : (a b : Mode) → HasParts (meet a b) (range_meet (range_of a) (range_of b)) (key_meet (key_of a) (key_of b))
meet-parts a b =
    let r = range_of (meet a b) in
    let k = key_of (meet a b) in
    let s = range_meet (range_of a) (range_of b) in
    let l = key_meet (key_of a) (key_of b) in
    record {
      range = range_order.antisymmetric r s (by_table_2 (λ a b. range_at_most (range_of (meet a b)) (range_meet (range_of a) (range_of b))) refl a b) (by_table_2 (λ a b. range_at_most (range_meet (range_of a) (range_of b)) (range_of (meet a b))) refl a b);
      key = key_order.antisymmetric k l (by_table_2 (λ a b. key_at_most (key_of (meet a b)) (key_meet (key_of a) (key_of b))) refl a b) (by_table_2 (λ a b. key_at_most (key_meet (key_of a) (key_of b)) (key_of (meet a b))) refl a b);
    }

-- ---- cap

pub at_most-cap : (a q : Mode) → at_most a (cap q) ≡ compatible a q
at_most-cap a q =
    (booleans_Decides (at_most a (cap q)) (compatible a q)).0 (by_table_2 (λ a q. beq (at_most a (cap q)) (compatible a q)) refl a q)

pub cap-greatest : (q : Mode) → IsGreatestBeside q (cap q)
cap-greatest q = record {
  beside = by_table (λ q. compatible (cap q) q) refl q;
  greatest = λ m h. cc (at_most-cap m q);
}

-- ---- names

pub mode_named-name : (m : Mode) → mode_named (mode_name m) ≡ Some m
mode_named-name m = grind arith

pub named_once : (m : Mode) → IsOnlyNamed m (mode_name m)
named_once m other e = cc (mode_named-name m, mode_named-name other)

pub mode_named-only : (text : List ℕ) (m : Mode) → text ≡ mode_name m → mode_named text ≡ Some m
mode_named-only text m e = cc (mode_named-name m)

found-has_name : (text : List ℕ) (modes : List Mode) → IfSome (find (λ m. bytes_eq text (mode_name m)) modes) (λ m. text ≡ mode_name m)
found-has_name text [] = tt
found-has_name text (m ∷ modes) =
    cond_both (bytes_eq text (mode_name m)) (Some m) (find (λ m. bytes_eq text (mode_name m)) modes) (λ found. IfSome found (λ m. text ≡ mode_name m)) (λ e. (bytes_eq-Decides text (mode_name m)).0 e) (λ _. found-has_name text modes)

pub mode_named-has_name : (text : List ℕ) → IfSome (mode_named text) (λ m. text ≡ mode_name m)
mode_named-has_name text = found-has_name text all_modes
