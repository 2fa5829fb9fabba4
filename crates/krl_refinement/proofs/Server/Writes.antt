-- A new write that is Applied, and its answer.
use Rattle.krl_refinement.proofs.Names.{◌≡◌, ℕ, suc, ◌<◌, Bool, true, Option, Some, None, List, ◌∷◌, refl, sym, ap, subst, ◌∙◌, arith, and_parts, none-some, is_some, END, KeyPart, Value, WriteOp}
use Rattle.krl_refinement.proofs.Names.{ToServer, op_key, In, Waiter, Record, Index, record_of, with_record, Rows, max_clients, column, range_at, key_at, Head, Write, Shared, Link, Passes, Logged}
use Rattle.krl_refinement.proofs.Names.{Changed, Applies, Step, applies, wrote_by, none, more, steps_on, world_steps, put, put_changed, changed_twice, heard_kept, WorldInv, Written, Session, Server}
use Rattle.krl_refinement.proofs.Names.{lists, set_session, acknowledged, rows_written, tells_outcome, effect, Judges, judged, IsSound, session_here, pushes_serve, acknowledged_sound, None-if_not_some, Some-if_some}
use Rattle.krl_refinement.proofs.Names.{op_of, IsRecord, LinkIs, Shows, view, world_of, logged}
use Rattle.std.specs.FinMap as map
use Rattle.krl_messages.specs.declared.write_op.WriteOp.TheVariants as write
use Rattle.krl_messages.specs.declared.outcome.Outcome.TheVariants as outcome
use Rattle.krl_durable.specs.Writes.{noted, written}
use Rattle.krl_machine.specs.Tables as machine
use Rattle.krl_machine.proofs.Refines as refines
use Rattle.krl_server.proofs.Invariant.WritesSound.{with_write, insert_may, change_may, writes_is, lasts, lasts_sound}
use Rattle.krl_refinement.proofs.Server.Meaning.{range_is, key_is}
use Rattle.krl_refinement.proofs.Server.Follows.{Goes, steps_then, not_recovering, put_client, put_shows, session_rest, not_two}
use Rattle.krl_refinement.proofs.Server.Pushes.{acknowledges_steps, acknowledges_shows}
use Rattle.krl_refinement.proofs.Server.Judged.{answers_on, row_shows}
use Rattle.krl_refinement.proofs.Server.Refused.{noted_known, noted_rest}
use Rattle.krl_refinement.proofs.Server.Splits.{insert_shown, put_shown}
use Rattle.krl_refinement.proofs.Server.Merges.{delete_shown}

-- the step of a write that is Applied, at a link that is known
applies_from : (s : Shared) (old new : ℕ → Link) (log : List Logged) (c : ℕ) (l : Link) → old c ≡ l → (m : Write) (index : ℕ → Option Value) (keys : ℕ → KeyPart) → In m l.writes → Passes s l m.head → l.acked ≡ true → m.number ≡ suc l.done → Applies s l index keys m.op → Changed old new c (record l { done = suc l.done; applied = true; wrote = wrote_by l m ∷ l.wrote; top_key = keys }) → Step (record { shared = s; links = old; log = log }) (record { shared = record s { index = index }; links = new; log = record { client = c; wrote = wrote_by l m } ∷ log })
applies_from s old new log c l e m index keys = subst (λ y. In m y.writes → Passes s y m.head → y.acked ≡ true → m.number ≡ suc y.done → Applies s y index keys m.op → Changed old new c (record y { done = suc y.done; applied = true; wrote = wrote_by y m ∷ y.wrote; top_key = keys }) → Step (record { shared = s; links = old; log = log }) (record { shared = record s { index = index }; links = new; log = record { client = c; wrote = wrote_by y m } ∷ log })) e
    (λ a b d n f ch. applies c m index keys new a b d n f ch)

abbrev pub acknowledged_link : Link → Link
acknowledged_link l = record l { acked = true }

-- the table after the write, as the machine has it
abbrev pub IsWritten : Server → (ℕ → Link) → List Logged → ℕ → WriteOp → Index → Rows → Type 0
IsWritten s of log c op index rows = Written (record { shared = view s; links = put of c (acknowledged_link (of c)); log = log }) c (op_of op) (map.get index) (column rows)

abbrev pub entry_of : ℕ → ℕ → ℕ → WriteOp → Logged
entry_of c inc number op = record { client = c; wrote = record { inc = inc; number = number; op = op_of op } }

pub written_goes : (s : Server) (of : ℕ → Link) (log : List Logged) (cleared : ℕ → Bool) (c : ℕ) (a : Head) (number : ℕ) (op : WriteOp) (r : Record) (index : Index) (rows : Rows) → record_of s.durable.register c ≡ Some r → In (let w : Write = record { head = a; number = number; op = op_of op } in w) (of c).writes → In a (of c).heads → Passes (view s) (of c) a → number ≡ suc r.last → op_key op < END → Shows s of → IsWritten s of log c op index rows → ((n : ℕ) (u : Waiter) → In u (rows n).queue → (k : ℕ) × In u (s.rows k).queue) → IsSound (with_write s c r index rows) → Goes s of log cleared (tells_outcome (with_write s c r index rows) c number op outcome.Applied) (entry_of c (of c).reg (suc (of c).done) op ∷ log)
written_goes s of log cleared c a number op r index rows known at head ok num under h x from sound =
    let k = h.link c in
    let old : IsRecord (Some r) (of c) = subst (λ y. IsRecord y (of c)) known k.known in
    let t = with_write s c r index rows in
    let w : Write = record { head = a; number = number; op = op_of op } in
    let l1 : Link = acknowledged_link (of c) in
    let mid = put of c l1 in
    let ch1 = put_changed of c l1 in
    let keys = machine.key_at (record (view s) { index = map.get index }) (column rows c) in
    let l : Link = record l1 { done = suc (of c).done; applied = true; wrote = wrote_by l1 w ∷ (of c).wrote; top_key = keys } in
    let ch = put_changed of c l in
    let session : Session = record (s.sessions c) { unacked = None } in
    let passed : Passes (view s) l1 a = record { serving = ok.serving; here = ok.here; inc = ok.inc; epoch = ok.epoch; seen = ok.seen } in
    let next_one : number ≡ suc (of c).done = num ∙ ap (λ y. suc y) (sym (old.done (sym old.left ∙ ok.here))) in
    let step = applies_from (view s) mid (put of c l) log c l1 ch1.here w (map.get index) keys at passed refl next_one
    (subst (λ y. Applies (view s) y (map.get index) keys (op_of op)) ch1.here x.applies) (changed_twice of mid (put of c l) c l1 l ch1 ch) in
    let sees = range_is index s.durable.epoch (view s).phase x.near rows in
    let holds = key_is index s.durable.epoch (view s).phase x.near rows in
    let shows : Shows t (put of c l) = put_shows s t of c l
    (subst (λ y. LinkIs (view t) (record_of (with_record s.durable.register c (noted r outcome.Applied)) c) (lists s.missing c) y (range_at index rows c) (key_at index rows c) l) (sym (session_here s.sessions c session))
    (record {
      known = noted_known s.durable.register c outcome.Applied r (of c) l old refl refl refl refl;
      missing = k.missing;
      last_push = k.last_push;
      acked = refl;
      unacked = λ body e. absurd (none-some body e);
      range = λ p q. ap (λ y. y.top_range q) (sym ch1.here) ∙ x.own q ∙ sym (sees c q);
      key = λ p q. sym (holds c q);
      new_range = λ p. absurd (not_two (view s).phase ok.serving p);
      new_key = λ p. absurd (not_two (view s).phase ok.serving p);
    }))
    (λ d ne y. noted_rest (view t) s.durable.register c (noted r outcome.Applied) d (lists s.missing d) (set_session s.sessions c session d) (range_at index rows d) (key_at index rows d) (of d) ne
    (let z = session_rest s c session d (of d) ne y in let b = subst (λ m. refines.Shows (record (view s) { index = map.get index }) m (column rows d)) (ch1.rest d ne) (x.aside d ne) in
    record {
      known = z.known;
      missing = z.missing;
      last_push = z.last_push;
      acked = z.acked;
      unacked = z.unacked;
      range = λ p q. b.range q ∙ sym (sees d q);
      key = λ p q. b.key q ∙ sym (holds d q);
      new_range = λ p. absurd (not_two (view s).phase ok.serving p);
      new_key = λ p. absurd (not_two (view s).phase ok.serving p);
    }))
    h (λ n u v. let f = from n u v in heard_kept (view s) of (put of c l) c l ch (λ z. z) u.client (h.heard f.0 u f.1)) in
    steps_then s t of (put of c l) log (entry_of c (of c).reg (suc (of c).done) op ∷ log) (entry_of c (of c).reg (suc (of c).done) op ∷ log) cleared _ (pushes_serve t c _ (not_recovering s.missing ok.serving)) (put_client of c l refl)
    (steps_on (acknowledges_steps s of log c a head ok) (more none step))
    (answers_on t (put of c l) (entry_of c (of c).reg (suc (of c).done) op ∷ log) cleared c a number op outcome.Applied sound ok.serving (ap (λ y. y.unacked) (session_here s.sessions c session))
    (subst (λ y. In w y.writes) (sym ch.here) at) (subst (λ y. In a y.heads) (sym ch.here) head) (ok.inc ∙ sym (ap (λ y. y.reg) ch.here)) ok.epoch (ap (λ y. y.left) ch.here ∙ ok.here) (next_one ∙ sym (ap (λ y. y.done) ch.here)) (omega (arith, num)) (sym (ap (λ y. y.applied) ch.here)) under shows)

is_written : (s : Server) (of : ℕ → Link) (log : List Logged) (c : ℕ) (a : Head) (op : WriteOp) → IsSound s → WorldInv (world_of s of log) → In a (of c).heads → Passes (view s) (of c) a → op_key op < END → judged s c op ≡ outcome.Applied → Shows s of → IsWritten s of log c op (written s.durable.index op) (rows_written s.durable.index s.rows c op)
is_written s of log c a op i inv head ok under e h = by_op op under e
  where
    shows : (d : ℕ) → refines.Shows (view s) (put of c (acknowledged_link (of c)) d) (column s.rows d)
    shows d = row_shows (acknowledged s c) (acknowledged_sound s c i) d (put of c (acknowledged_link (of c)) d) ((acknowledges_shows s of c h).link d) ok.serving

    later : WorldInv (world_of (acknowledged s c) (put of c (acknowledged_link (of c))) log)
    later = world_steps (world_of s of log) (world_of (acknowledged s c) (put of c (acknowledged_link (of c))) log) (acknowledges_steps s of log c a head ok) inv

    by_op : (op : WriteOp) → op_key op < END → judged s c op ≡ outcome.Applied → IsWritten s of log c op (written s.durable.index op) (rows_written s.durable.index s.rows c op)
    by_op (write.Insert k v) under e = let x = insert_may (is_some (map.get s.durable.index k)) _ _ e in
        insert_shown s.durable.index s.durable.epoch (view s).phase i.near (put of c (acknowledged_link (of c))) log s.rows shows later c k v under (None-if_not_some (map.get s.durable.index k) x.0) x.1
    by_op (write.Put k v) under e = let x = change_may (is_some (map.get s.durable.index k)) _ e in let p = Some-if_some (map.get s.durable.index k) x.0 in
        put_shown s.durable.index s.durable.epoch (view s).phase i.near (put of c (acknowledged_link (of c))) log s.rows shows later c k v p.0 under p.1 x.1
    by_op (write.Delete k) under e = let x = change_may (is_some (map.get s.durable.index k)) _ e in let p = Some-if_some (map.get s.durable.index k) x.0 in
        let y = and_parts _ _ x.1 in let z = and_parts _ _ y.0 in
        delete_shown s.durable.index s.durable.epoch (view s).phase i.near (put of c (acknowledged_link (of c))) log s.rows shows later c k p.0 under p.1 z.0 z.1 y.1

pub writes_follow : (s : Server) (of : ℕ → Link) (log : List Logged) (cleared : ℕ → Bool) (m : ToServer) (a : Head) (number : ℕ) (op : WriteOp) (r : Record) → IsSound s → WorldInv (world_of s of log) → record_of s.durable.register m.client ≡ Some r → m.incarnation ≡ r.incarnation → m.client < max_clients → In (let w : Write = record { head = a; number = number; op = op_of op } in w) (of m.client).writes → In a (of m.client).heads → Passes (view s) (of m.client) a → number ≡ suc r.last → op_key op < END → judged s m.client op ≡ outcome.Applied → Shows s of → Goes s of log cleared (effect s m (Judges number op outcome.Applied)) (logged m (Judges number op outcome.Applied) log)
writes_follow s of log cleared m a number op r i inv known same own at head ok num under e h =
    let c = m.client in
    let old : IsRecord (Some r) (of c) = subst (λ y. IsRecord y (of c)) known (h.link c).known in
    let l = lasts s c op i own under e in
    let g = written_goes s of log cleared c a number op r (written s.durable.index op) (rows_written s.durable.index s.rows c op) known at head ok num under h (is_written s of log c a op i inv head ok under e h) l.from (lasts_sound s c op r i l) in
    subst (λ t. Goes s of log cleared (tells_outcome t c number op outcome.Applied) (entry_of c m.incarnation number op ∷ log)) (writes_is s c op r known)
    (subst (λ x. Goes s of log cleared (tells_outcome (with_write s c r (written s.durable.index op) (rows_written s.durable.index s.rows c op)) c number op outcome.Applied) (entry_of c x number op ∷ log)) (old.reg ∙ sym same)
    (subst (λ x. Goes s of log cleared (tells_outcome (with_write s c r (written s.durable.index op) (rows_written s.durable.index s.rows c op)) c number op outcome.Applied) (entry_of c (of c).reg x op ∷ log)) (ap (λ x. suc x) (old.done (sym old.left ∙ ok.here)) ∙ sym num) g))
