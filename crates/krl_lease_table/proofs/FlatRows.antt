-- Rows as numbers, one after another.
use Rattle.std.proofs.Common.{◌≡◌, ℕ, ◌+◌, ◌<◌, ◌≤◌, ◌∙◌, List, ◌∷◌, ◌++◌, length, get_or, take, drop, map, set, replicate, zero, suc, refl, sym, ap, subst}
use Rattle.std.proofs.lemmas.List.{append-nil, length-map, map-set, get_or_default, take_all, drop_all}
use Rattle.std.proofs.lemmas.List.Edits.{map_over_more}
use Rattle.krl_lease_table.specs.declared.row.Row.{Row}
use Rattle.krl_lease_table.specs.declared.flat.FlatRow.{FlatRow}
use Rattle.krl_lease_table.specs.declared.table.LeaseTable.{LeaseTable}
use Rattle.krl_lease_table.specs.Flat.{row_of, table_of}
use Rattle.krl_lease_table.specs.Rows as rows
use Rattle.krl_lease_table.specs.Tables.{with_row}

pub map_replicate : {A B : Type 0} (f : A → B) (n : ℕ) (x : A) → map f (replicate n x) ≡ replicate n (f x)
map_replicate f zero x = refl
map_replicate f (suc n) x = ap (λ ys. f x ∷ ys) (map_replicate f n x)

-- one more row is what f makes of it
pub one_more : (f : Row → Row) (was now : List FlatRow) (i : ℕ) (x : Row) (y : FlatRow)
    → i < length was → i < length now → x ≡ get_or (map row_of now) i rows.blank → row_of y ≡ f x
    → map row_of now ≡ map f (take i (map row_of was)) ++ drop i (map row_of was)
    → map row_of (set now i y) ≡ map f (take (i + 1) (map row_of was)) ++ drop (i + 1) (map row_of was)
one_more f was now i x y within place read new seen =
    let here : i < length (map row_of now) = subst (λ n. i < n) (sym (length-map now row_of)) place in
    map-set row_of now i y ∙ ap (λ r. set (map row_of now) i r) new
    ∙ map_over_more f (map row_of was) (map row_of now) i x (subst (λ n. i < n) (sym (length-map was row_of)) within)
    seen (read ∙ get_or_default (map row_of now) i rows.blank x here)

-- no row is left
pub all_changed : (f : Row → Row) (was now : List FlatRow) (i : ℕ) → length was ≤ i
    → map row_of now ≡ map f (take i (map row_of was)) ++ drop i (map row_of was)
    → map row_of now ≡ map f (map row_of was)
all_changed f was now i past seen =
    let each = map row_of was in
    let none : length each ≤ i = subst (λ n. n ≤ i) (sym (length-map was row_of)) past in
    seen ∙ ap (λ l. map f l ++ drop i each) (take_all i each none) ∙ ap (λ l. map f each ++ l) (drop_all i each none)
    ∙ append-nil (map f each)

-- one row is set
pub with_one : (t : LeaseTable) (c : ℕ) (x : FlatRow) (r : Row) → row_of x ≡ r
    → table_of (record t { rows = set t.rows c x }) ≡ with_row (table_of t) c r
with_one t c x r e =
    ap (λ (rs : List Row). record (table_of t) { rows = rs })
    (map-set row_of t.rows c x ∙ ap (λ y. set (map row_of t.rows) c y) e)
