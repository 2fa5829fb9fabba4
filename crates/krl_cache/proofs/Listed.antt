-- The entries of a span are the rows of a scan.
use Rattle.krl_cache.proofs.Names.{◌≡◌, ℕ, ◌<◌, cond, List, Option, None, Some, refl, sym, ap, ◌∙◌, arith, filter_map, option_and_then, nat_cmp, find, is_sorted, Bounds, contains, Value, Entry}
use Rattle.krl_cache.proofs.Names.{Belief, AreRows, value_of, pick, row_value, RiseWithin}
use Rattle.krl_cache.proofs.Entries.{find-pick, rise-pick, rise_sorted}

row_is_value : (o : Option Entry) → option_and_then row_value o ≡ value_of o
row_is_value None = refl
row_is_value (Some e) = refl

-- the rows of the entries in a span are a scan's
pub rows_are : (b : Belief) (s : Bounds) (top : ℕ) (es ys : List (ℕ × Entry)) (rows : List (ℕ × Value)) (lo hi : ℕ) → ((p : ℕ) → b.value_at p ≡ value_of (find nat_cmp p es)) → RiseWithin 0 top es → s.lo < s.hi → lo ≡ s.lo → hi ≡ s.hi → ys ≡ es → rows ≡ filter_map (pick lo hi row_value) ys → AreRows b s rows
rows_are b s top es ys rows lo hi value rise l el eh ey e =
    let whole : rows ≡ filter_map (pick s.lo s.hi row_value) es =
    e ∙ ap (λ (y : List (ℕ × Entry)). filter_map (pick lo hi row_value) y) ey ∙ ap (λ (n : ℕ). filter_map (pick n hi row_value) es) el ∙ ap (λ (n : ℕ). filter_map (pick s.lo n row_value) es) eh in
    record {
      sorted = ap (λ (x : List (ℕ × Value)). is_sorted nat_cmp x) whole ∙ rise_sorted s.lo s.hi (filter_map (pick s.lo s.hi row_value) es) (rise-pick s.lo s.hi row_value 0 top s.lo es rise (omega (arith, l)) (omega arith));
      at = λ p. ap (λ (x : List (ℕ × Value)). find nat_cmp p x) whole ∙ find-pick s.lo s.hi row_value 0 top es p rise
          ∙ ap (λ (o : Option Value). cond (contains s p) o None) (row_is_value (find nat_cmp p es) ∙ sym (value p));
    }
