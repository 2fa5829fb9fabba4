-- What a message makes of the first waiter of a slot.
use Rattle.krl_progress.proofs.Names.{◌≡◌, ◌≢◌, ℕ, suc, ◌<◌, ◌∙◌, inl, true, false, not, ◌&&◌, Option, Some, None, List, [], ◌∷◌, ◌++◌, refl, sym, ap, subst, arith, nat_lt, if◌then◌else◌, eq_cases, ne_eqb, is_some, and_parts, ltb-false, END}
use Rattle.krl_progress.proofs.Names.{ToServer, In, Server, Durable, Record, is_recovering, lists, case_of, Done, effect, acknowledged, writes, pushes, Registers, Leaves, Judges, SeizesLock, Waits, Index, Rows, slot_of, span_of, is_slot, op_key, holding, WriteOp}
use Rattle.krl_modes.specs.declared.mode.Mode.{Mode}
use Rattle.krl_modes.specs.declared.mode.Mode.TheVariants as mode
use Rattle.krl_modes.specs.Modes.{at_most, meet, range_of, key_of}
use Rattle.krl_modes.specs.Parts.{lets_insert, is_key_X, is_range_X}
use Rattle.krl_modes.specs.Spans.{Bounds, within}
use Rattle.std.specs.FinMap as map
use Rattle.krl_modes.proofs.Basics.{not_both, None-if_not_some}
use Rattle.krl_messages.specs.declared.outcome.Outcome.{Outcome}
use Rattle.krl_messages.specs.declared.outcome.Outcome.TheVariants as outcome
use Rattle.krl_messages.specs.declared.write_op.WriteOp.TheVariants as write
use Rattle.krl_messages.specs.declared.to_client.PushBody.{PushBody}
use Rattle.krl_messages.specs.declared.to_client.PushBody.TheVariants as push
use Rattle.krl_queue.specs.declared.waiter.Waiter.{Waiter}
use Rattle.krl_durable.specs.Registers.{record_of}
use Rattle.krl_durable.specs.Splits.{left_by, applied_by}
use Rattle.krl_durable.specs.Writes.{index_after, written}
use Rattle.krl_table.specs.Rows.{Row, mode_at, set_row}
use Rattle.krl_table.specs.Calls.{with_mode, with_queue, queue_with, unqueue, cleared}
use Rattle.krl_table.specs.Grants.{nobody_waits}
use Rattle.krl_table.proofs.Rows.Slots.{no_slot}
use Rattle.krl_server.specs.declared.session.Session.{Session}
use Rattle.krl_server.specs.Cases.{judged}
use Rattle.krl_server.specs.Effects as effects
use Rattle.krl_server.specs.Effects.{rows_written}
use Rattle.krl_server.specs.Seizing.{lock_for, may_seize}
use Rattle.krl_server.specs.Soundness.{IsSound}
use Rattle.krl_server.proofs.Tests.{if_both, if_case}
use Rattle.krl_server.proofs.Cased.{by_case}
use Rattle.krl_server.proofs.Updates.{row_here, row_other, session_here}
use Rattle.krl_server.proofs.Grants.{raised_queue}
use Rattle.krl_server.proofs.Invariant.Placed.{two_rows}
use Rattle.krl_server.proofs.Invariant.SeizesSound.{MaySeize, take_is}
use Rattle.krl_server.proofs.Invariant.WritesSound.{insert_may, change_may}
use Rattle.krl_progress.specs.Standstills.{HasPart, holds}
use Rattle.krl_progress.proofs.WritesMove.{nobody_listed}
use Rattle.krl_progress.proofs.Queues.{Stands, cleared_away}
use Rattle.krl_progress.proofs.Spans.{slot_kept, span_kept}

-- A client that holds or waits for something has no push and no lock request taken, and continues to wait if it waited.
pub record IsStill (old new : Server) : Type 0 where
  pub pushes : (c : ℕ) → HasPart old c → (new.sessions c).last_push ≡ (old.sessions c).last_push
  pub requests : (c : ℕ) → HasPart old c → (new.sessions c).last_request ≡ (old.sessions c).last_request
  pub waiters : (n : ℕ) (u : Waiter) → In u (old.rows n).queue → (v : Waiter) × Stands new.rows u.client v

-- A write that is applied is of a client that holds something

pub applied_part : (s : Server) (c : ℕ) (op : WriteOp) → judged s c op ≡ outcome.Applied → HasPart s c
applied_part s c (write.Insert k v) e = holds (slot_of s.durable.index k) (λ none. not_both (lets_insert (range_of (mode_at s.rows (slot_of s.durable.index k) c))) (insert_may _ _ _ e).1 (ap (λ g. lets_insert (range_of g)) none))
applied_part s c (write.Put k v) e = holds k (λ none. not_both (is_key_X (key_of (mode_at s.rows k c))) (change_may _ _ e).1 (ap (λ g. is_key_X (key_of g)) none))
applied_part s c (write.Delete k) e =
    let both = and_parts (is_key_X (key_of (mode_at s.rows k c)) && is_range_X (range_of (mode_at s.rows k c))) (is_range_X (range_of (mode_at s.rows (slot_of s.durable.index (suc k)) c))) (change_may _ _ e).1 in
    let may = and_parts (is_key_X (key_of (mode_at s.rows k c))) (is_range_X (range_of (mode_at s.rows k c))) both.0 in
    holds k (λ none. not_both (is_key_X (key_of (mode_at s.rows k c))) may.0 (ap (λ g. is_key_X (key_of g)) none))

left_index : (d : Durable) (c : ℕ) (o : Option Record) → (left_by d c o).index ≡ d.index
left_index d c None = refl
left_index d c (Some r) = refl

applied_index : (d : Durable) (c : ℕ) (op : WriteOp) (o : Outcome) (r : Option Record) → index_after d.index op o ≡ d.index → (applied_by d c op o r).index ≡ d.index
applied_index d c op o None e = refl
applied_index d c op o (Some r) e = e

pushes_raise : (s : Server) (c : ℕ) (b : PushBody) → (s.sessions c).last_push < END → ((pushes s c b).server.sessions c).last_push ≡ suc (s.sessions c).last_push
pushes_raise s c b room = if_case (λ (x : Done). (x.server.sessions c).last_push ≡ suc (s.sessions c).last_push) (nat_lt (s.sessions c).last_push END) _ _
    (λ yes. ap (λ (z : Session). z.last_push) (session_here s.sessions c (record (s.sessions c) { last_push = suc (s.sessions c).last_push; unacked = Some b })))
    (λ no. absurd (let x = ltb-false (s.sessions c).last_push END no in omega (arith, x, room)))

module _ (n : ℕ) (there : Bounds) (u : Waiter) where
  -- u stands first on the slot n, which has this span
  pub record IsFirstOn (m : Index) (rows : Rows) : Type 0 where
    pub slot : is_slot m n ≡ true
    pub span : span_of m n ≡ there
    pub behind : List Waiter
    pub first : (rows n).queue ≡ u ∷ behind

  abbrev pub IsFirstIn : Server → Type 0
  IsFirstIn s = IsFirstOn s.durable.index s.rows

  same_index : (m k : Index) (rows : Rows) → k ≡ m → IsFirstOn m rows → IsFirstOn k rows
  same_index m k rows e h = subst (λ x. IsFirstOn x rows) (sym e) h

  -- a push leaves the rows as they are
  pushed_first : (s : Server) (c : ℕ) (b : PushBody) → IsFirstIn s → IsFirstIn (pushes s c b).server
  pushed_first s c b h = if_both (λ (x : Done). IsFirstIn x.server) (nat_lt (s.sessions c).last_push END) _ _ (record { slot = h.slot; span = h.span; behind = h.behind; first = h.first }) h

  module _ (s : Server) (m : ToServer) (sound : IsSound s) (up : is_recovering s.missing ≡ false) (room : (c : ℕ) → HasPart s c → (s.sessions c).last_push < END) (h : IsFirstIn s) where
    -- the rows of m's client are cleared
    cleared_first : (d : Durable) → d.index ≡ s.durable.index → m.client ≢ u.client → IsFirstOn d.index (cleared s.rows m.client)
    cleared_first d e ne = same_index s.durable.index d.index (cleared s.rows m.client) e (record {
      slot = h.slot;
      span = h.span;
      behind = unqueue m.client h.behind;
      first = ap (unqueue m.client) h.first ∙ ap (λ b. if not b then u ∷ unqueue m.client h.behind else unqueue m.client h.behind) (ne_eqb m.client u.client ne);
    })

    -- a waiter that comes to stand before u holds something, and its request is taken
    queued_first : (req point hi : ℕ) (g : Mode) → req ≡ suc (s.sessions m.client).last_request → IsStill s (effect s m (Waits req point hi g)).server → IsFirstIn (effect s m (Waits req point hi g)).server
    queued_first req point hi g new still = eq_cases n k
        (λ e. let q = front e in record { slot = h.slot; span = h.span; behind = q.0; first = ap (λ x. (set_row s.rows k row x).queue) e ∙ ap (λ (r : Row). r.queue) (row_here s.rows k row) ∙ q.1 })
        (λ ne. record { slot = h.slot; span = h.span; behind = h.behind; first = ap (λ (r : Row). r.queue) (row_other s.rows k row n ne) ∙ h.first })
      where
        k : ℕ
        k = slot_of s.durable.index point

        w : Waiter
        w = record { client = m.client; req = req; point = point; hi = hi; mode = g }

        row : Row
        row = with_queue (s.rows k) (queue_with (s.rows k) w)

        taken : ((effect s m (Waits req point hi g)).server.sessions m.client).last_request ≡ req
        taken = ap (λ (z : Session). z.last_request) (session_here (acknowledged s m.client).sessions m.client (record ((acknowledged s m.client).sessions m.client) { last_request = req }))

        low : (a : Mode) → a ≡ mode.N → at_most a mode.N ≡ true
        low a e = ap (λ g. at_most g mode.N) e

        front : n ≡ k → (behind : List Waiter) × (queue_with (s.rows k) w ≡ u ∷ behind)
        front e = if_case (λ q. (behind : List Waiter) × (q ≡ u ∷ behind)) (at_most ((s.rows k).modes m.client) mode.N) ((s.rows k).queue ++ w ∷ []) (w ∷ (s.rows k).queue)
            (λ yes. (h.behind ++ w ∷ [], ap (λ q. q ++ w ∷ []) (ap (λ x. (s.rows x).queue) (sym e) ∙ h.first)))
            (λ no. absurd (let part = holds k (λ none. not_both (at_most (mode_at s.rows k m.client) mode.N) (low (mode_at s.rows k m.client) none) no) in let same = still.requests m.client part in omega (arith, same, taken, new)))

    judged_first : (number : ℕ) (op : WriteOp) (o : Outcome) → judged s m.client op ≡ o → IsStill s (effect s m (Judges number op o)).server → IsFirstIn (effect s m (Judges number op o)).server
    judged_first number op outcome.Applied is still = absurd (
        let part = applied_part s m.client op is in
        let y = writes (acknowledged s m.client) m.client op outcome.Applied in
        let old = ap (λ (z : Session). z.last_push) (session_here s.sessions m.client (record (s.sessions m.client) { unacked = None })) in
        let low = room m.client part in
        let more = pushes_raise y m.client (push.Answer number outcome.Applied (holding y (slot_of y.durable.index (op_key op)) m.client)) (omega (arith, old, low)) in
        let same = still.pushes m.client part in omega (arith, more, same, old))
    judged_first number op outcome.Exists is still = pushed_first (writes (acknowledged s m.client) m.client op outcome.Exists) m.client _ (same_index s.durable.index _ s.rows (applied_index s.durable m.client op outcome.Exists (record_of s.durable.register m.client) refl) h)
    judged_first number op outcome.Absent is still = pushed_first (writes (acknowledged s m.client) m.client op outcome.Absent) m.client _ (same_index s.durable.index _ s.rows (applied_index s.durable m.client op outcome.Absent (record_of s.durable.register m.client) refl) h)
    judged_first number op outcome.NotHeld is still = pushed_first (writes (acknowledged s m.client) m.client op outcome.NotHeld) m.client _ (same_index s.durable.index _ s.rows (applied_index s.durable m.client op outcome.NotHeld (record_of s.durable.register m.client) refl) h)
    judged_first number op outcome.Full is still = pushed_first (writes (acknowledged s m.client) m.client op outcome.Full) m.client _ (same_index s.durable.index _ s.rows (applied_index s.durable m.client op outcome.Full (record_of s.durable.register m.client) refl) h)

    -- a lock is taken where nobody waits, so that u stands on another slot than that of the key
    taken_on : (op : WriteOp) → op_key op < END → MaySeize s m.client op → IsFirstOn (written s.durable.index op) (rows_written s.durable.index (effects.seizes s m.client op).rows m.client op)
    taken_on op under can = by_op op under can (raised_queue s.rows (slot_of s.durable.index (op_key op)) (lock_for m.client op) n ∙ h.first) (λ e. let none = ap (λ j. nobody_waits (s.rows j).queue) e ∙ can.alone in not_both (nobody_waits (s.rows n).queue) none (ap nobody_waits h.first))
      where
        by_op : (op : WriteOp) → op_key op < END → MaySeize s m.client op → ((effects.seizes s m.client op).rows n).queue ≡ u ∷ h.behind → n ≢ slot_of s.durable.index (op_key op) → IsFirstOn (written s.durable.index op) (rows_written s.durable.index (effects.seizes s m.client op).rows m.client op)
        by_op (write.Insert k v) lt can queue other = record {
          slot = slot_kept s.durable.index sound.near k v lt n h.slot other;
          span = span_kept s.durable.index sound.near k v lt n h.slot other ∙ h.span;
          behind = h.behind;
          first = two_rows (effects.seizes s m.client (write.Insert k v)).rows (slot_of s.durable.index k) k n _ _ (λ (r : Row). r.queue ≡ u ∷ h.behind)
              (λ e. absurd (not_both (is_slot s.durable.index n) h.slot (ap (is_slot s.durable.index) e ∙ free)))
              (λ ne e. absurd (other e))
              (λ ne no. queue);
        }
          where
            free : is_slot s.durable.index k ≡ false
            free = no_slot s.durable.index k (λ e. omega (arith, e, lt)) (None-if_not_some (map.get s.durable.index k) (insert_may (is_some (map.get s.durable.index k)) true _ can.applied).0)
        by_op (write.Put k v) lt can queue other = record {
          slot = slot_kept s.durable.index sound.near k v lt n h.slot other;
          span = span_kept s.durable.index sound.near k v lt n h.slot other ∙ h.span;
          behind = h.behind;
          first = queue;
        }
        by_op (write.Delete k) lt can queue other = absurd (let e = can.lock in cc)

    taken_first : (number : ℕ) (op : WriteOp) (r : Record) → record_of s.durable.register m.client ≡ Some r → op_key op < END → may_seize s m.client op ≡ true → IsFirstIn (effect s m (SeizesLock number op)).server
    taken_first number op r known under may = let y = writes (acknowledged (effects.seizes s m.client op) m.client) m.client op outcome.Applied in
        pushed_first y m.client _ (same_index (written s.durable.index op) y.durable.index y.rows (ap (λ o. (applied_by s.durable m.client op outcome.Applied o).index) known) (taken_on op under (take_is s m.client op may)))

    pub effect_first : IsStill s (effect s m (case_of s m)).server → IsFirstIn (effect s m (case_of s m)).server
    effect_first = by_case s m (λ k. IsStill s (effect s m k).server → IsFirstIn (effect s m k).server)
        (record {
          ignored = λ y. h;
          registers = λ near newer body y. cleared_first (effect s m Registers).server.durable refl (apart y.waiters);
          leaves = λ r from y. cleared_first (effect s m Leaves).server.durable (left_index s.durable m.client (record_of s.durable.register m.client)) (apart y.waiters);
          tells = λ y. h;
          alarms = λ y. h;
          rebuilds = λ r epoch pieces from now missing fine y. absurd (not_both (lists s.missing m.client) missing (nobody_listed s.missing m.client up));
          repeats = λ r body served unacked y. h;
          acknowledges = λ r served y. record { slot = h.slot; span = h.span; behind = h.behind; first = h.first };
          lowers = λ r span keep served y. record {
            slot = h.slot;
            span = h.span;
            behind = h.behind;
            first = if_both (λ (x : Row). x.queue ≡ u ∷ h.behind) (is_slot s.durable.index n && within (span_of s.durable.index n) span) (with_mode (s.rows n) m.client (meet (mode_at s.rows n m.client) keep)) (s.rows n) h.first h.first;
          };
          waits = λ r req point hi g served new free near y. queued_first req point hi g new y;
          judges = λ r number op o served under near new is y. judged_first number op o is y;
          seizes = λ r number op served under near new may y. taken_first number op r served.from.known under may;
          answers_again = λ r number op o served under some last is y. pushed_first (acknowledged s m.client) m.client _ (record { slot = h.slot; span = h.span; behind = h.behind; first = h.first });
        })
      where
        apart : ((k : ℕ) (v : Waiter) → In v (s.rows k).queue → (x : Waiter) × Stands (cleared s.rows m.client) v.client x) → m.client ≢ u.client
        apart waiters e = let x = waiters n u (subst (In u) (sym h.first) (inl refl)) in cleared_away s.rows m.client x.0 (subst (λ c. Stands (cleared s.rows m.client) c x.0) (sym e) x.1)
