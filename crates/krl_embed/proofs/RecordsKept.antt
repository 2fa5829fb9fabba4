-- Records after others, and the first that is bad.
use Rattle.std.proofs.Common.{◌≡◌, ℕ, ◌∙◌, sym, ap, refl, subst, List, [], ◌∷◌, ◌++◌, take, map, Bool, false, nat_eq, Option, Some}
use Rattle.std.specs.Prelude.{◌||◌, slice_get}
use Rattle.std.specs.List.{IsDistinct, list_any}
use Rattle.std.specs.Map.{keys_of}
use Rattle.core.proofs.slice.Lists.{all_by_recursion_push}
use Rattle.std.proofs.lemmas.Cmp.{nat_eq_equiv}
use Rattle.std.proofs.lemmas.List.{map_push}
use Rattle.std.proofs.lemmas.Map.Keys.{IsDistinct-push}
use Rattle.krl_durable.specs.declared.record.Record.{Record}
use Rattle.krl_durable.specs.Invariants.{IsRow}
use Rattle.krl_embed.specs.declared.code.Code.{Code}
use Rattle.krl_embed.specs.declared.code.Code.TheVariants as code
use Rattle.krl_embed.specs.declared.records.RecordRow.{RecordRow}
use Rattle.krl_embed.specs.declared.reply.Reply.{Reply}
use Rattle.krl_embed.specs.Replies.{code_of}
use Rattle.krl_embed.specs.Records.{AreRows, RefusesRow, record_of}
use Rattle.krl_embed.specs.Opening.{RefusesRecords, RefusesRecordsAs, place_said}

any_key : (c : ℕ) (rows : List (ℕ × Record)) → list_any (nat_eq c) (keys_of rows) ≡ list_any (λ row. nat_eq c row.0) rows
any_key c [] = refl
any_key c (r ∷ rs) = ap (λ (b : Bool). nat_eq c r.0 || b) (any_key c rs)

pub rows_push : (rows : List (ℕ × Record)) (row : ℕ × Record) → AreRows rows → IsRow row → list_any (λ r. nat_eq row.0 r.0) rows ≡ false → AreRows (rows ++ row ∷ [])
rows_push rows row h is new =
    let keys : keys_of (rows ++ row ∷ []) ≡ keys_of rows ++ row.0 ∷ [] = map_push (λ e. e.0) rows row in
    (all_by_recursion_push IsRow rows row h.0 is, subst (λ (ks : List ℕ). IsDistinct nat_eq ks) (sym keys) (IsDistinct-push nat_eq_equiv (keys_of rows) row.0 h.1 (any_key row.0 rows ∙ new)))

pub rows_none : AreRows []
unfolding IsDistinct
rows_none = (tt, tt)

refuses : (rows : List RecordRow) (i : ℕ) (row : RecordRow) (c : Code) → slice_get rows i ≡ Some row
    → AreRows (map record_of (take i rows)) → RefusesRow (map record_of (take i rows)) row c
    → RefusesRecordsAs rows (place_said c i) (Some c)
refuses rows i row code.BadRecord here before why = record { before = before; row = row; here = here; bad = why }
refuses rows i row code.OutOfMemory here before why = refl
refuses rows i row _ here before why = absurd why

pub refused : (rows : List RecordRow) (i : ℕ) (row : RecordRow) (kept : List (ℕ × Record)) (c : Code) (r : Reply)
    → slice_get rows i ≡ Some row → AreRows kept → kept ≡ map record_of (take i rows) → RefusesRow kept row c
    → code_of r ≡ Some c → r.detail ≡ place_said c i → RefusesRecords rows r
refused rows i row kept c r here before made why is at =
    let made_before = subst (λ (k : List (ℕ × Record)). AreRows k) made before in
    let made_why = subst (λ (k : List (ℕ × Record)). RefusesRow k row c) made why in
    let there = refuses rows i row c here made_before made_why in
    let placed = subst (λ (n : ℕ). RefusesRecordsAs rows n (Some c)) (sym at) there in
    subst (λ (o : Option Code). RefusesRecordsAs rows r.detail o) (sym is) placed
