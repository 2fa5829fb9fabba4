-- A server stays sound when it judges a new write.
use Rattle.krl_server.proofs.Names.{◌≡◌, ℕ, false, Some, refl, sym, ap, ◌∙◌, ◌≤◌, ◌<◌, Bool, true, None, subst, arith, is_some, END, WriteOp, Outcome, is_applied, op_key, ToServer, Record, Index}
use Rattle.krl_server.proofs.Names.{Durable, record_of, with_record, noted, index_after, applied_by, applied, written, judged_insert, judged_change, Rows, max_clients, mode_at, Server, rows_after}
use Rattle.krl_server.proofs.Names.{writes, acknowledged, rows_written, tells_outcome, effect, Judges, judged, IsSound}
use Rattle.std.specs.FinMap as map
use Rattle.krl_modes.specs.declared.mode.Mode.TheVariants as mode
use Rattle.krl_messages.specs.declared.outcome.Outcome.TheVariants as outcome
use Rattle.krl_messages.specs.declared.write_op.WriteOp.TheVariants as write
use Rattle.krl_server.proofs.Invariant.AnswersSound.{pushes_sound}
use Rattle.krl_modes.proofs.Basics.{None-if_not_some, Some-if_some}
use Rattle.krl_server.proofs.Updates.{get_other, gone_other}
use Rattle.krl_server.proofs.Invariant.Placed.{ArePlaced, ComeFrom, put_placed, split_from, split_placed, merge_from, merge_placed, split_strangers, merge_strangers}

-- the durable part after a new write of a registered client
pub applied_is : (d : Durable) (c : ℕ) (op : WriteOp) (o : Outcome) (r : Record) → record_of d.register c ≡ Some r → applied d c op o ≡ record d { index = index_after d.index op o; register = with_record d.register c (noted r o) }
applied_is d c op o r e = ap (applied_by d c op o) e

-- an outcome that changes no index and no row
pub index_kept : (m : Index) (op : WriteOp) (o : Outcome) → is_applied o ≡ false → index_after m op o ≡ m
index_kept m op outcome.Applied e = absurd (cc)
index_kept m op outcome.Exists e = refl
index_kept m op outcome.Absent e = refl
index_kept m op outcome.NotHeld e = refl
index_kept m op outcome.Full e = refl

pub rows_kept : (m : Index) (rows : Rows) (c : ℕ) (op : WriteOp) (o : Outcome) → is_applied o ≡ false → rows_after m rows c op o ≡ rows
rows_kept m rows c op outcome.Applied e = absurd (cc)
rows_kept m rows c op outcome.Exists e = refl
rows_kept m rows c op outcome.Absent e = refl
rows_kept m rows c op outcome.NotHeld e = refl
rows_kept m rows c op outcome.Full e = refl

-- the server after a refusal: only the record changes
abbrev pub with_noted : Server → ℕ → Outcome → Record → Server
with_noted s c o r = record s { durable = record s.durable { register = with_record s.durable.register c (noted r o) } }

pub refusal_is : (s : Server) (c : ℕ) (op : WriteOp) (o : Outcome) (r : Record) → record_of s.durable.register c ≡ Some r → is_applied o ≡ false → with_noted s c o r ≡ writes s c op o
refusal_is s c op o r known not =
    ap (λ m. record s { durable = record s.durable { index = m; register = with_record s.durable.register c (noted r o) } }) (sym (index_kept s.durable.index op o not))
    ∙ ap (λ d. record s { durable = d }) (sym (applied_is s.durable c op o r known))
    ∙ ap (λ x. record s { durable = applied s.durable c op o; rows = x }) (sym (rows_kept s.durable.index s.rows c op o not))

-- the server after the write, if it makes this of the index and the rows
abbrev pub with_write : Server → ℕ → Record → Index → Rows → Server
with_write s c r index rows = record (acknowledged s c) { durable = record s.durable { index = index; register = with_record s.durable.register c (noted r outcome.Applied) }; rows = rows }

-- What Applied states of the write

pub insert_may : (present may full : Bool) → judged_insert present may full ≡ outcome.Applied → (present ≡ false) × (may ≡ true)
insert_may true may full e = absurd (cc)
insert_may false true full e = (refl, refl)
insert_may false false full e = absurd (cc)

pub change_may : (present may : Bool) → judged_change present may ≡ outcome.Applied → (present ≡ true) × (may ≡ true)
change_may true true e = (refl, refl)
change_may true false e = absurd (cc)
change_may false may e = absurd (cc)

-- the server after the write
pub writes_is : (s : Server) (c : ℕ) (op : WriteOp) (r : Record) → record_of s.durable.register c ≡ Some r → with_write s c r (written s.durable.index op) (rows_written s.durable.index s.rows c op) ≡ writes (acknowledged s c) c op outcome.Applied
writes_is s c op r known = ap (λ d. record (acknowledged s c) { durable = d; rows = rows_written s.durable.index s.rows c op }) (sym (applied_is s.durable c op outcome.Applied r known))

-- the index and the rows after the write are again those of a server
pub record Lasts (s : Server) (c : ℕ) (op : WriteOp) : Type 0 where
  pub near : (q : ℕ) → END ≤ q → map.get (written s.durable.index op) q ≡ None
  pub placed : ArePlaced (written s.durable.index op) (rows_written s.durable.index s.rows c op)
  pub from : ComeFrom s.rows (rows_written s.durable.index s.rows c op)
  pub strangers : (n d : ℕ) → max_clients ≤ d → mode_at (rows_written s.durable.index s.rows c op) n d ≡ mode.N

pub lasts : (s : Server) (c : ℕ) (op : WriteOp) → IsSound s → c < max_clients → op_key op < END → judged s c op ≡ outcome.Applied → Lasts s c op
lasts s c (write.Insert k v) i own under e =
    let absent = None-if_not_some (map.get s.durable.index k) (insert_may (is_some (map.get s.durable.index k)) _ _ e).0 in
    let near : (q : ℕ) → END ≤ q → map.get (map.insert s.durable.index k v) q ≡ None = λ q le. get_other s.durable.index k v q (λ f. omega (arith, f, le, under)) ∙ i.near q le in
    record {
      near = near;
      placed = split_placed s.durable.index i.near s.rows i.placed k v c under absent near;
      from = split_from s.durable.index i.near s.rows i.placed k v c under absent near;
      strangers = split_strangers s.durable.index s.rows k c own i.strangers;
    }
lasts s c (write.Put k v) i own under e =
    let present = Some-if_some (map.get s.durable.index k) (change_may (is_some (map.get s.durable.index k)) _ e).0 in
    let near : (q : ℕ) → END ≤ q → map.get (map.insert s.durable.index k v) q ≡ None = λ q le. get_other s.durable.index k v q (λ f. omega (arith, f, le, under)) ∙ i.near q le in
    record {
      near = near;
      placed = put_placed s.durable.index i.near s.rows i.placed k v present.0 present.1 near;
      from = λ n u at. (n, at);
      strangers = i.strangers;
    }
lasts s c (write.Delete k) i own under e =
    let present = Some-if_some (map.get s.durable.index k) (change_may (is_some (map.get s.durable.index k)) _ e).0 in
    let near : (q : ℕ) → END ≤ q → map.get (map.remove s.durable.index k) q ≡ None = λ q le. gone_other s.durable.index k q (λ f. omega (arith, f, le, under)) ∙ i.near q le in
    record {
      near = near;
      placed = merge_placed s.durable.index i.near s.rows i.placed k present.0 under present.1 near;
      from = merge_from s.durable.index i.near s.rows i.placed k present.0 under present.1 near;
      strangers = merge_strangers s.durable.index s.rows k i.strangers;
    }

pub lasts_sound : (s : Server) (c : ℕ) (op : WriteOp) (r : Record) → IsSound s → Lasts s c op → IsSound (with_write s c r (written s.durable.index op) (rows_written s.durable.index s.rows c op))
lasts_sound s c op r i l = record { near = l.near; begun = i.begun; strangers = l.strangers; placed = l.placed; clients = λ n u at. let f = l.from n u at in i.clients f.0 u f.1 }

pub writes_sound : (s : Server) (m : ToServer) (number : ℕ) (op : WriteOp) (r : Record) → record_of s.durable.register m.client ≡ Some r → IsSound s → m.client < max_clients → op_key op < END → judged s m.client op ≡ outcome.Applied → IsSound (effect s m (Judges number op outcome.Applied)).server
writes_sound s m number op r known i own under e =
    subst (λ t. IsSound (tells_outcome t m.client number op outcome.Applied).server) (writes_is s m.client op r known)
    (pushes_sound (with_write s m.client r (written s.durable.index op) (rows_written s.durable.index s.rows m.client op)) m.client _ (lasts_sound s m.client op r i (lasts s m.client op i own under e)))
