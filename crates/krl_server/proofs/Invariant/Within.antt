-- Numbers stay within END, and lists within their bounds.
use Rattle.krl_server.proofs.Names.{◌≡◌, ◌≢◌, ℕ, suc, ◌+◌, ◌-◌, ◌≤◌, ◌<◌, Bool, true, false, not, cond, ◌||◌, Some, None, List, [], ◌∷◌, length, ◌⊎◌, inl, inr, refl, sym, ap, subst, ◌∙◌, ⊎_elim}
use Rattle.krl_server.proofs.Names.{arith, nat_eq, eq-eqb, eqb-true, ltb-true, ltb-false, eqb-false, or_parts, not-false, none-some, same_Some, nat_lt, is_some, if◌then◌else◌, END, WriteOp, Outcome}
use Rattle.krl_server.proofs.Names.{ToServer, ToClient, PushBody, eq_cases, Record, Index, slot_of, Register, Durable, record_of, with_record, new_record, left_by, not_left, op_key, In}
use Rattle.krl_server.proofs.Names.{held, column, judge, judged_insert, noted, index_after, applied_by, Rows, max_clients, front_dropped, granted, asks_absent, Session, Server, is_recovering, lists}
use Rattle.krl_server.proofs.Names.{unlist, set_session, blank_session, Ignored, case_of, case_of_record, is_malformed, Done, acknowledged, pushes, effect, Turn, answer_first, tells_absent}
use Rattle.krl_server.proofs.Names.{grants, AnswersWaiters, stops, goes_on, Ends, Following, at_once, recovers, serves, start, can_start, following, AreApart, clients_of, IsEntry, IsDurableWithin, IsWithin}
use Rattle.krl_server.proofs.Names.{ServerWithin}
use Rattle.std.specs.Cmp.{nat_cmp_total}
use Rattle.std.specs.FinMap as map
use Rattle.krl_messages.specs.declared.write_op.WriteOp.TheVariants as write
use Rattle.krl_messages.specs.declared.outcome.Outcome.TheVariants as outcome
use Rattle.krl_messages.specs.declared.to_client.PushBody.TheVariants as push
use Rattle.krl_server.specs.Effects as effects
use Rattle.krl_server.proofs.Invariant.Registered.{step_here}
use Rattle.krl_server.proofs.Updates.{session_here, session_other, record_here, record_other, unlist_here, unlist_other}
use Rattle.krl_modes.proofs.Basics.{not_both}
use Rattle.krl_server.proofs.Tests.{if_both, if_case}
use Rattle.krl_server.proofs.Invariant.WritesSound.{change_may}
use Rattle.krl_server.proofs.Invariant.SeizesSound.{take_is}
use Rattle.krl_server.proofs.Cased.{by_case}
use Rattle.krl_server.proofs.Outputs.Counted.{few_apart}

-- Registers

with_clients : (es : Register) (c : ℕ) (x : Record) (d : ℕ) → In d (clients_of (with_record es c x)) → (d ≡ c) ⊎ In d (clients_of es)
with_clients [] c x d (inl e) = inl e
with_clients [] c x d (inr e) = absurd e
with_clients (e ∷ es) c x d at = by_eq (nat_eq c e.0) (with_clients es c x d) at
  where
    by_eq : (b : Bool) → (In d (clients_of (with_record es c x)) → (d ≡ c) ⊎ In d (clients_of es)) → In d (clients_of (if b then (c, x) ∷ es else e ∷ with_record es c x)) → (d ≡ c) ⊎ In d (e.0 ∷ clients_of es)
    by_eq true ih (inl f) = inl f
    by_eq true ih (inr h) = inr (inr h)
    by_eq false ih (inl f) = inr (inl f)
    by_eq false ih (inr h) = ⊎_elim (λ (f : d ≡ c). inl f) (λ (k : In d (clients_of es)). inr (inr k)) (ih h)

with_apart : (es : Register) (c : ℕ) (x : Record) → AreApart (clients_of es) → AreApart (clients_of (with_record es c x))
with_apart [] c x h = ((λ at. at), tt)
with_apart (e ∷ es) c x h = by_eq (nat_eq c e.0) refl (with_apart es c x h.1)
  where
    by_eq : (b : Bool) → nat_eq c e.0 ≡ b → AreApart (clients_of (with_record es c x)) → AreApart (clients_of (if b then (c, x) ∷ es else e ∷ with_record es c x))
    by_eq true f ih = ((λ at. h.0 (subst (λ y. In y (clients_of es)) (eqb-true c e.0 f) at)), h.1)
    by_eq false f ih = ((λ at. ⊎_elim (λ (g : e.0 ≡ c). eqb-false c e.0 f (sym g)) (λ (k : In e.0 (clients_of es)). h.0 k) (with_clients es c x e.0 at)), ih)

-- what holds of each record holds with one more of which it holds
with_each : (Q : ℕ → Record → Type 0) (es : Register) (c : ℕ) (x : Record) → Q c x → ((d : ℕ) (r : Record) → record_of es d ≡ Some r → Q d r) → (d : ℕ) (r : Record) → record_of (with_record es c x) d ≡ Some r → Q d r
with_each Q es c x here h d r e = eq_cases d c
    (λ f. subst (λ y. Q y r) (sym f) (subst (Q c) (same_Some x r (sym (record_here es c x) ∙ ap (record_of (with_record es c x)) (sym f) ∙ e)) here))
    (λ ne. h d r (sym (record_other es c d x ne) ∙ e))

with_within : (d : Durable) (c : ℕ) (x : Record) → IsEntry c x → IsDurableWithin d → IsDurableWithin (record d { register = with_record d.register c x })
with_within d c x here w = record { epoch = w.epoch; entries = w.entries; room = w.room; once = with_apart d.register c x w.once; known = with_each IsEntry d.register c x here w.known }

pub known_in : (es : Register) (c : ℕ) (r : Record) → record_of es c ≡ Some r → In c (clients_of es)
known_in [] c r e = absurd (none-some r e)
known_in (x ∷ es) c r e = by_eq (nat_eq c x.0) refl e (known_in es c r)
  where
    by_eq : (b : Bool) → nat_eq c x.0 ≡ b → (if b then Some x.1 else record_of es c) ≡ Some r → (record_of es c ≡ Some r → In c (clients_of es)) → In c (x.0 ∷ clients_of es)
    by_eq true f g ih = inl (eqb-true c x.0 f)
    by_eq false f g ih = inr (ih g)

in_known : (es : Register) (c : ℕ) → In c (clients_of es) → (r : Record) × (record_of es c ≡ Some r)
in_known [] c at = absurd at
in_known (x ∷ es) c at = by_eq (nat_eq c x.0) refl at (in_known es c)
  where
    by_eq : (b : Bool) → nat_eq c x.0 ≡ b → In c (x.0 ∷ clients_of es) → (In c (clients_of es) → (r : Record) × (record_of es c ≡ Some r)) → (r : Record) × ((if b then Some x.1 else record_of es c) ≡ Some r)
    by_eq true f h ih = (x.1, refl)
    by_eq false f (inl g) ih = absurd (eqb-false c x.0 f g)
    by_eq false f (inr h) ih = ih h

-- Who is missing

listed : (ms : List ℕ) (c : ℕ) → In c ms → lists ms c ≡ true
listed [] c at = absurd at
listed (d ∷ ds) c (inl e) = ap (λ b. b || lists ds c) (eq-eqb c d e)
listed (d ∷ ds) c (inr at) = by_eq (nat_eq c d) (listed ds c at)
  where
    by_eq : (b : Bool) → lists ds c ≡ true → (b || lists ds c) ≡ true
    by_eq true e = refl
    by_eq false e = e

unlisted_in : (ms : List ℕ) (c d : ℕ) → In d (unlist ms c) → In d ms
unlisted_in [] c d at = absurd at
unlisted_in (e ∷ es) c d at = by_eq (nat_eq c e) at (unlisted_in es c d)
  where
    by_eq : (b : Bool) → In d (if not b then e ∷ unlist es c else unlist es c) → (In d (unlist es c) → In d es) → In d (e ∷ es)
    by_eq true h ih = inr (ih h)
    by_eq false (inl f) ih = inl f
    by_eq false (inr h) ih = inr (ih h)

unlisted_apart : (ms : List ℕ) (c : ℕ) → AreApart ms → AreApart (unlist ms c)
unlisted_apart [] c h = tt
unlisted_apart (e ∷ es) c h = by_eq (nat_eq c e) (unlisted_apart es c h.1)
  where
    by_eq : (b : Bool) → AreApart (unlist es c) → AreApart (if not b then e ∷ unlist es c else unlist es c)
    by_eq true ih = ih
    by_eq false ih = ((λ at. h.0 (unlisted_in es c e at)), ih)

-- a client that is still missing was missing before, and is another than c
still_missing : (ms : List ℕ) (c d : ℕ) → lists (unlist ms c) d ≡ true → (d ≢ c) × (lists ms d ≡ true)
still_missing ms c d e = let ne : d ≢ c = λ f. not_both (lists (unlist ms c) d) e (ap (lists (unlist ms c)) f ∙ unlist_here ms c) in (ne, sym (unlist_other ms c d ne) ∙ e)

ordered_known : (es : Register) (c : ℕ) → AreApart (clients_of es) → lists (not_left es) c ≡ true → (r : Record) × (record_of es c ≡ Some r) × (r.left ≡ false)
ordered_known [] c h e = absurd (cc)
ordered_known (x ∷ es) c h e = by_left x.1.left refl (nat_eq c x.0) refl e (ordered_known es c h.1)
  where
    by_left : (b : Bool) → x.1.left ≡ b → (a : Bool) → nat_eq c x.0 ≡ a → lists (if b then not_left es else x.0 ∷ not_left es) c ≡ true → (lists (not_left es) c ≡ true → (r : Record) × (record_of es c ≡ Some r) × (r.left ≡ false)) → (r : Record) × ((if a then Some x.1 else record_of es c) ≡ Some r) × (r.left ≡ false)
    by_left true f true g e ih = let y = ih e in absurd (h.0 (subst (λ d. In d (clients_of es)) (eqb-true c x.0 g) (known_in es c y.0 y.1)))
    by_left true f false g e ih = ih e
    by_left false f true g e ih = (x.1, refl, f)
    by_left false f false g e ih = ih (sym (ap (λ b. b || lists (not_left es) c) g) ∙ e)

ordered_in : (es : Register) (d : ℕ) → In d (not_left es) → In d (clients_of es)
ordered_in [] d at = absurd at
ordered_in (x ∷ es) d at = by_left x.1.left at (ordered_in es d)
  where
    by_left : (b : Bool) → In d (if b then not_left es else x.0 ∷ not_left es) → (In d (not_left es) → In d (clients_of es)) → In d (x.0 ∷ clients_of es)
    by_left true h ih = inr (ih h)
    by_left false (inl e) ih = inl e
    by_left false (inr h) ih = inr (ih h)

ordered_apart : (es : Register) → AreApart (clients_of es) → AreApart (not_left es)
ordered_apart [] h = tt
ordered_apart (x ∷ es) h = by_left x.1.left (ordered_apart es h.1)
  where
    by_left : (b : Bool) → AreApart (not_left es) → AreApart (if b then not_left es else x.0 ∷ not_left es)
    by_left true ih = ih
    by_left false ih = ((λ at. h.0 (ordered_in es x.0 at)), ih)

-- The index

-- an insert that is Applied finds room
pub insert_room : (present may full : Bool) → judged_insert present may full ≡ outcome.Applied → full ≡ false
insert_room true may full e = absurd (cc)
insert_room false true true e = absurd (cc)
insert_room false true false e = refl
insert_room false false full e = absurd (cc)

one_more : (b : Bool) (n : ℕ) → cond b n (n + 1) ≤ suc n
one_more true n = omega arith
one_more false n = omega arith

one_less : (b : Bool) (n : ℕ) → cond b (n - 1) n ≤ n
one_less true n = omega arith
one_less false n = omega arith

written_few : (room : ℕ) (m : Index) (op : WriteOp) (may : Bool) → judge room m op may ≡ outcome.Applied → length (map.entries m) ≤ room → length (map.entries (index_after m op outcome.Applied)) ≤ room
written_few room m (write.Insert k v) may e le =
    let left = ltb-true (length (map.entries m)) room (not-false (nat_lt (length (map.entries m)) room) (insert_room (is_some (map.get m k)) may (not (nat_lt (length (map.entries m)) room)) e)) in
    let is = map.len-insert nat_cmp_total m k v in
    let more = one_more (map.contains_key m k) (map.len m) in
    omega (arith, left, is, more, map.len-entries m, map.len-entries (map.insert m k v))
written_few room m (write.Put k v) may e le =
    let is = map.len-insert nat_cmp_total m k v ∙ ap (λ b. cond b (map.len m) (map.len m + 1)) (change_may (is_some (map.get m k)) may e).0 in
    omega (arith, le, is, map.len-entries m, map.len-entries (map.insert m k v))
written_few room m (write.Delete k) may e le =
    let is = map.len-remove nat_cmp_total m k in
    let less = one_less (map.contains_key m k) (map.len m) in
    omega (arith, le, is, less, map.len-entries m, map.len-entries (map.remove m k))

after_few : (room : ℕ) (m : Index) (op : WriteOp) (may : Bool) (o : Outcome) → judge room m op may ≡ o → length (map.entries m) ≤ room → length (map.entries (index_after m op o)) ≤ room
after_few room m op may outcome.Applied e le = written_few room m op may e le
after_few room m op may outcome.Exists e le = le
after_few room m op may outcome.Absent e le = le
after_few room m op may outcome.NotHeld e le = le
after_few room m op may outcome.Full e le = le

-- Lines

sessions_within : (sessions : ℕ → Session) (c : ℕ) (x : Session) → x.last_push ≤ END → ((d : ℕ) → (sessions d).last_push ≤ END) → (d : ℕ) → (set_session sessions c x d).last_push ≤ END
sessions_within sessions c x le h d = eq_cases d c
    (λ e. subst (λ y. (set_session sessions c x y).last_push ≤ END) (sym e) (subst (λ y. y.last_push ≤ END) (sym (session_here sessions c x)) le))
    (λ ne. subst (λ y. y.last_push ≤ END) (sym (session_other sessions c d x ne)) (h d))

acknowledged_within : (s : Server) (c : ℕ) → IsWithin s → IsWithin (acknowledged s c)
acknowledged_within s c w = record { durable = w.durable; last_push = sessions_within s.sessions c (record (s.sessions c) { unacked = None }) (w.last_push c) w.last_push; missing = w.missing; missing_once = w.missing_once }

pushes_within : (s : Server) (c : ℕ) (body : PushBody) → IsWithin s → IsWithin (pushes s c body).server
pushes_within s c body w = if_case (λ (x : Done). IsWithin x.server) (nat_lt (s.sessions c).last_push END) _ _
    (λ lt. record { durable = w.durable; last_push = sessions_within s.sessions c (record (s.sessions c) { last_push = suc (s.sessions c).last_push; unacked = Some body }) (let x = ltb-true (s.sessions c).last_push END lt in omega (arith, x)) w.last_push; missing = w.missing; missing_once = w.missing_once })
    (λ spent. w)

-- rows are not asked about
rows_within : (s : Server) (rows : Rows) → IsWithin s → IsWithin (record s { rows = rows })
rows_within s rows w = record { durable = w.durable; last_push = w.last_push; missing = w.missing; missing_once = w.missing_once }

turn_within : (s : Server) (t : Turn) → IsWithin s → IsWithin (answer_first s t).server
turn_within s t w = if_both (λ (x : Done). IsWithin x.server) (asks_absent s.durable.index t.waiter) (tells_absent s t) (grants s t)
    (pushes_within (effects.with_rows s (front_dropped s.rows t.slot)) t.waiter.client _ (rows_within s (front_dropped s.rows t.slot) w))
    (pushes_within (effects.with_rows s (granted s.durable.reach s.durable.index s.rows t.slot)) t.waiter.client _ (rows_within s (granted s.durable.reach s.durable.index s.rows t.slot) w))

answered_within : (s t : Server) (outs : List ToClient) → AnswersWaiters s t outs → IsWithin s → IsWithin t
answered_within s t outs (stops s' e) w = w
answered_within s t outs (goes_on s' t' turn later e rest) w = answered_within (answer_first s turn).server t later rest (turn_within s turn w)

-- Effects

module _ (s : Server) (m : ToServer) (w : IsWithin s) where
  registers_within : m.client < max_clients → 1 ≤ m.incarnation → m.incarnation ≤ END → IsWithin (effects.registers s m.client m.incarnation)
  registers_within lt some high = record {
    durable = with_within s.durable m.client (new_record m.incarnation) (lt, some, high, omega arith) w.durable;
    last_push = sessions_within s.sessions m.client blank_session (omega arith) w.last_push;
    missing = λ c e. let x = still_missing s.missing m.client c e in let y = w.missing c x.1 in (y.0, record_other s.durable.register m.client c (new_record m.incarnation) x.0 ∙ y.1, y.2);
    missing_once = unlisted_apart s.missing m.client w.missing_once;
  }

  departs_within : (r : Record) → record_of s.durable.register m.client ≡ Some r → IsWithin (effects.departs s m.client)
  departs_within r e = subst (λ o. IsWithin (record (effects.departs s m.client) { durable = left_by s.durable m.client o })) (sym e) (record {
    durable = with_within s.durable m.client (record r { left = true }) (w.durable.known m.client r e) w.durable;
    last_push = w.last_push;
    missing = λ c f. let x = still_missing s.missing m.client c f in let y = w.missing c x.1 in (y.0, record_other s.durable.register m.client c (record r { left = true }) x.0 ∙ y.1, y.2);
    missing_once = unlisted_apart s.missing m.client w.missing_once;
  })

  writes_within : (r : Record) (number : ℕ) (op : WriteOp) (may : Bool) (o : Outcome) → record_of s.durable.register m.client ≡ Some r → is_recovering s.missing ≡ false → number ≤ END → number ≡ suc r.last → judge s.durable.room s.durable.index op may ≡ o → IsWithin (effects.writes (acknowledged s m.client) m.client op o)
  writes_within r number op may o e up high new is =
      let x = w.durable.known m.client r e in
      subst (λ y. IsWithin (record (effects.writes (acknowledged s m.client) m.client op o) { durable = applied_by s.durable m.client op o y })) (sym e) (record {
        durable = record {
          epoch = w.durable.epoch;
          entries = after_few s.durable.room s.durable.index op may o is w.durable.entries;
          room = w.durable.room;
          once = with_apart s.durable.register m.client (noted r o) w.durable.once;
          known = with_each IsEntry s.durable.register m.client (noted r o) (x.0, x.1, x.2, omega (arith, high, new)) w.durable.known;
        };
        last_push = sessions_within s.sessions m.client (record (s.sessions m.client) { unacked = None }) (w.last_push m.client) w.last_push;
        missing = λ c f. absurd (nobody s.missing c up f);
        missing_once = w.missing_once;
      })
    where
      nobody : (ms : List ℕ) (c : ℕ) → is_recovering ms ≡ false → lists ms c ≡ true → ⊥
      nobody [] c e f = absurd (cc)
      nobody (d ∷ ds) c e f = absurd (cc)

  of_known : 1 ≤ m.incarnation → m.incarnation ≤ END → IsWithin (effect s m (case_of s m)).server
  of_known some high = let t = acknowledged s m.client in let u = acknowledged_within s m.client w in
      by_case s m (λ k. IsWithin (effect s m k).server)
      (record {
        ignored = w;
        registers = λ near newer body. registers_within near some high;
        leaves = λ r from. departs_within r from.known;
        tells = w;
        alarms = w;
        rebuilds = λ r epoch pieces from now missing fine. record { durable = w.durable; last_push = w.last_push; missing = λ c e. w.missing c (still_missing s.missing m.client c e).1; missing_once = unlisted_apart s.missing m.client w.missing_once };
        repeats = λ r body served unacked. w;
        acknowledges = λ r served. u;
        lowers = λ r span keep served. rows_within t _ u;
        waits = λ r req point hi g served new free near. record { durable = w.durable; last_push = sessions_within t.sessions m.client (record (t.sessions m.client) { last_request = req }) (u.last_push m.client) u.last_push; missing = w.missing; missing_once = w.missing_once };
        judges = λ r number op o served under near new is. let x = effects.writes t m.client op o in
            pushes_within x m.client (push.Answer number o (effects.holding x (slot_of x.durable.index (op_key op)) m.client)) (writes_within r number op (held s.durable.index (column s.rows m.client) op) o served.from.known served.serves near new is);
        seizes = λ r number op served under near new may. let x = effects.writes (acknowledged (effects.seizes s m.client op) m.client) m.client op outcome.Applied in
            pushes_within x m.client (push.Answer number outcome.Applied (effects.holding x (slot_of x.durable.index (op_key op)) m.client)) (rows_within (effects.writes t m.client op outcome.Applied) x.rows (writes_within r number op true outcome.Applied served.from.known served.serves near new (take_is s m.client op may).applied));
        answers_again = λ r number op o served under some last is. pushes_within t m.client (push.Answer number o (effects.holding t (slot_of t.durable.index (op_key op)) m.client)) u;
      })

  effect_within : IsWithin (effect s m (case_of s m)).server
  effect_within = by_malformed (is_malformed m) refl
    where
      by_malformed : (b : Bool) → is_malformed m ≡ b → IsWithin (effect s m (case_of s m)).server
      by_malformed true e = subst (λ k. IsWithin (effect s m k).server) (sym (ap (λ b. if b then Ignored else case_of_record s m (record_of s.durable.register m.client)) e)) w
      by_malformed false e =
          let x = or_parts (not (nat_lt m.client max_clients)) (nat_eq m.incarnation 0 || nat_lt END m.incarnation) e in
          let y = or_parts (nat_eq m.incarnation 0) (nat_lt END m.incarnation) x.1 in
          of_known (let ne = eqb-false m.incarnation 0 y.0 in omega (arith, ne)) (ltb-false END m.incarnation y.1)

ends_within : (done : Done) (kind : Following) (t : Server) (outs : List ToClient) → Ends done kind t outs → IsWithin done.server → IsWithin t
ends_within done kind t outs (at_once e) w = w
ends_within done kind t outs (recovers e) w = w
ends_within done kind t outs (serves t' answers a b c) w = answered_within done.server t answers c w

start_within : (d : Durable) → can_start d ≡ true → IsDurableWithin d → IsWithin (start d)
start_within d can w = record {
  durable = record { epoch = (let lt = ltb-true d.epoch END can in omega (arith, lt)); entries = w.entries; room = w.room; once = w.once; known = w.known };
  last_push = λ c. omega arith;
  missing = λ c e. ordered_known d.register c w.once e;
  missing_once = ordered_apart d.register w.once;
}

length_clients : (es : Register) → length (clients_of es) ≡ length es
length_clients [] = refl
length_clients (e ∷ es) = ap (λ n. suc n) (length_clients es)

pub all_within : ServerWithin
all_within = record {
  effect = effect_within;
  turn = turn_within;
  step = λ s t m outs w step. ends_within (effect s m (case_of s m)) (following (case_of s m)) t outs step (effect_within s m w);
  registered_step = step_here;
  registered_start = λ d n u at. absurd at;
  start = start_within;
  few_known = λ d w. subst (λ n. n ≤ max_clients) (length_clients d.register) (few_apart max_clients (clients_of d.register) w.once (λ c at. let x = in_known d.register c at in (w.known c x.0 x.1).0));
  few_missing = λ s w. few_apart max_clients s.missing w.missing_once (λ c at. let x = w.missing c (listed s.missing c at) in (w.durable.known c x.0 x.1).0);
}
