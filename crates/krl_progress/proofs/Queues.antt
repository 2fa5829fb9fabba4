-- Who stands in a queue, and what a step of the server makes of it.
use Rattle.krl_progress.proofs.Names.{◌≡◌, ◌≢◌, ℕ, suc, ◌≤◌, ◌<◌, inl, inr, ⊎_elim, ◌∙◌, Bool, true, false, None, Some, List, [], ◌∷◌, ◌++◌, refl, sym, ap, subst, arith, nat_eq, nat_lt, nat_le, if◌then◌else◌, eq_cases, eq-eqb, lt-ltb, END, is_some}
use Rattle.krl_progress.proofs.Names.{ToServer, In, Server, case_of, Done, effect, acknowledged, writes, clears, Rebuilds, Lowers, Waits, Turn, next_turn, answer_first, Index, Rows, slot_of, is_slot, op_key, holding, WriteOp}
use Rattle.std.proofs.Common.{leb-false}
use Rattle.std.specs.FinMap as map
use Rattle.krl_modes.proofs.Basics.{not_both, None-if_not_some}
use Rattle.krl_messages.proofs.Members.{in_left, in_right}
use Rattle.krl_messages.specs.declared.outcome.Outcome.{Outcome}
use Rattle.krl_messages.specs.declared.outcome.Outcome.TheVariants as outcome
use Rattle.krl_messages.specs.declared.write_op.WriteOp.TheVariants as write
use Rattle.krl_messages.specs.declared.to_client.PushBody.TheVariants as push
use Rattle.krl_queue.specs.declared.waiter.Waiter.{Waiter}
use Rattle.krl_queue.specs.Waiting.{first_of}
use Rattle.krl_table.specs.Rows.{Row, set_row}
use Rattle.krl_table.specs.Calls.{split, merged, front_dropped, granted_first, with_queue, with_mode, queue_with, behind_first, grant_first}
use Rattle.krl_table.specs.Grants.{granted}
use Rattle.krl_table.specs.Replies.{asks_absent}
use Rattle.krl_table.specs.Sound.{IsTable}
use Rattle.krl_table.proofs.Rows.Slots.{next_of, no_slot}
use Rattle.krl_table.proofs.Invariant.Stands.{filter_in, unqueue_in, queue_with_in, in_queue_with, in_unqueue, none_in}
use Rattle.krl_table.proofs.Invariant.Alone.{times_more, times_none}
use Rattle.krl_table.proofs.Rows.Waiters.{some_first}
use Rattle.krl_server.specs.Cases.{judged}
use Rattle.krl_server.specs.Effects as effects
use Rattle.krl_server.specs.Effects.{rows_after, with_rows}
use Rattle.krl_server.specs.Seizing.{lock_for}
use Rattle.krl_server.specs.Answering.{tells_absent, grants}
use Rattle.krl_server.specs.Soundness.{IsSound}
use Rattle.krl_server.proofs.Tests.{if_both}
use Rattle.krl_server.proofs.Cased.{by_case}
use Rattle.krl_server.proofs.Grants.{granted_queue, raised_queue}
use Rattle.krl_server.proofs.Turns.{turn_is, in_row}
use Rattle.krl_server.proofs.Updates.{row_here, row_other}
use Rattle.krl_server.proofs.Outputs.Ends.{pushes_rows}
use Rattle.krl_server.proofs.Invariant.Placed.{two_rows}
use Rattle.krl_server.proofs.Invariant.WritesSound.{insert_may}
use Rattle.krl_server.proofs.Invariant.SeizesSound.{take_is, take_judged, takes_sound}

-- a waiter of the client stands in a queue
pub record Stands (rows : Rows) (c : ℕ) (u : Waiter) : Type 0 where
  pub slot : ℕ
  pub at : In u (rows slot).queue
  pub own : u.client ≡ c

-- the client stands in none
abbrev pub Away : Rows → ℕ → Type 0
Away rows c = (u : Waiter) → Stands rows c u → ⊥

-- a client that stands in the first queues stands in the others
abbrev pub Stays : Rows → Rows → ℕ → Type 0
Stays rows later c = (u : Waiter) → Stands rows c u → Stands later c u

-- A write

module _ (m : Index) (near : (q : ℕ) → END ≤ q → map.get m q ≡ None) (rows : Rows) (placed : (n : ℕ) (u : Waiter) → In u (rows n).queue → (u.point ≤ END) × (slot_of m u.point ≡ n)) (k : ℕ) (lt : k < END) where
  slot_at : (n : ℕ) (u : Waiter) → In u (rows n).queue → is_slot m n ≡ true
  slot_at n u at = let p = placed n u at in ap (is_slot m) (sym p.1) ∙ (next_of m near u.point p.0).slot

  split_stays : map.get m k ≡ None → (c : ℕ) (n : ℕ) (u : Waiter) → In u (rows n).queue → (j : ℕ) × In u (split m rows k c j).queue
  split_stays none c n u at = eq_cases n from (λ e. moved (subst (λ x. In u (rows x).queue) e at)) (λ ne. (
    n,
    two_rows rows from k n _ _ (λ r. In u r.queue)
        (λ e. absurd (not_both (is_slot m n) (slot_at n u at) (ap (is_slot m) e ∙ free))) (λ no e. absurd (ne e)) (λ no not. at),
  ))
    where
      from : ℕ
      from = slot_of m k

      free : is_slot m k ≡ false
      free = no_slot m k (λ e. omega (arith, e, lt)) none

      apart : from ≢ k
      apart e = not_both (is_slot m from) (next_of m near k (omega (arith, lt))).slot (ap (is_slot m) e ∙ free)

      moved : In u (rows from).queue → (j : ℕ) × In u (split m rows k c j).queue
      moved there = by_test (nat_le u.point k) refl
        where
          by_test : (b : Bool) → nat_le u.point k ≡ b → (j : ℕ) × In u (split m rows k c j).queue
          by_test true f = (k, two_rows rows from k k _ _ (λ r. In u r.queue) (λ e. filter_in (λ w. nat_le w.point k) (rows from).queue u there f) (λ no. absurd (no refl)) (λ no. absurd (no refl)))
          by_test false f = (from, two_rows rows from k from _ _ (λ r. In u r.queue) (λ e. absurd (apart e)) (λ no e. filter_in (λ w. nat_lt k w.point) (rows from).queue u there (lt-ltb k u.point (leb-false u.point k f))) (λ no not. absurd (not refl)))

  merged_stays : (n : ℕ) (u : Waiter) → In u (rows n).queue → (j : ℕ) × In u (merged m rows k j).queue
  merged_stays n u at = eq_cases n k (λ e. (to, here (in_left (rows k).queue (rows to).queue u (subst (λ x. In u (rows x).queue) e at))))
      (λ ne. eq_cases n to (λ e. (to, here (in_right (rows k).queue (rows to).queue u (subst (λ x. In u (rows x).queue) e at))))
      (λ no. (n, two_rows rows to k n _ _ (λ r. In u r.queue) (λ e. absurd (ne e)) (λ x e. absurd (no e)) (λ x y. at))))
    where
      to : ℕ
      to = slot_of m (suc k)

      apart : to ≢ k
      apart e = let a = (next_of m near (suc k) (omega (arith, lt))).above in omega (arith, a, e)

      here : In u ((rows k).queue ++ (rows to).queue) → In u (merged m rows k to).queue
      here x = two_rows rows to k to _ _ (λ r. In u r.queue) (λ e. absurd (apart e)) (λ no e. x) (λ no not. absurd (not refl))

moved_on : (rows later : Rows) (c : ℕ) → ((n : ℕ) (u : Waiter) → In u (rows n).queue → (j : ℕ) × In u (later j).queue) → Stays rows later c
moved_on rows later c h u x = let y = h x.slot u x.at in record { slot = y.0; at = y.1; own = x.own }

written_stays : (s : Server) (d c : ℕ) (op : WriteOp) (o : Outcome) → IsSound s → op_key op < END → judged s d op ≡ o → Stays s.rows (rows_after s.durable.index s.rows d op o) c
written_stays s d c (write.Insert k v) outcome.Applied i lt e = moved_on s.rows _ c (split_stays s.durable.index i.near s.rows i.placed k lt (None-if_not_some (map.get s.durable.index k) (insert_may (is_some (map.get s.durable.index k)) _ _ e).0) d)
written_stays s d c (write.Put k v) outcome.Applied i lt e = λ u x. x
written_stays s d c (write.Delete k) outcome.Applied i lt e = moved_on s.rows _ c (merged_stays s.durable.index i.near s.rows i.placed k lt)
written_stays s d c op outcome.Exists i lt e = λ u x. x
written_stays s d c op outcome.Absent i lt e = λ u x. x
written_stays s d c op outcome.NotHeld i lt e = λ u x. x
written_stays s d c op outcome.Full i lt e = λ u x. x

-- A message

same_queues : (rows later : Rows) (c : ℕ) → ((n : ℕ) → (later n).queue ≡ (rows n).queue) → Stays rows later c
same_queues rows later c h u x = record { slot = x.slot; at = subst (In u) (sym (h x.slot)) x.at; own = x.own }

kept_queue : (b : Bool) (r x : Row) → x.queue ≡ r.queue → (if b then x else r).queue ≡ r.queue
kept_queue true r x e = e
kept_queue false r x e = refl

pub effect_stays : (s : Server) (m : ToServer) (c : ℕ) → IsSound s → (m.client ≡ c → clears (case_of s m) ≡ false) → Stays s.rows (effect s m (case_of s m)).server.rows c
effect_stays s m c i = let t = acknowledged s m.client in by_case s m (λ k. (m.client ≡ c → clears k ≡ false) → Stays s.rows (effect s m k).server.rows c)
    (record {
      ignored = λ f u x. x;
      registers = λ near newer body f u x. record { slot = x.slot; at = unqueue_in (s.rows x.slot).queue m.client u x.at (λ e. let g = f (sym e ∙ x.own) in absurd (cc)); own = x.own };
      leaves = λ r from f u x. record { slot = x.slot; at = unqueue_in (s.rows x.slot).queue m.client u x.at (λ e. let g = f (sym e ∙ x.own) in absurd (cc)); own = x.own };
      tells = λ f u x. x;
      alarms = λ f u x. x;
      rebuilds = λ r epoch pieces from now missing fine f. same_queues s.rows (effect s m (Rebuilds pieces)).server.rows c (λ n. kept_queue (is_slot s.durable.index n) (s.rows n) (with_mode (s.rows n) m.client (Rattle.krl_table.specs.Reports.rebuilt s.durable.index pieces n)) refl);
      repeats = λ r body served unacked f u x. x;
      acknowledges = λ r served f u x. x;
      lowers = λ r span keep served f. same_queues s.rows (effect s m (Lowers span keep)).server.rows c (λ n. if_both (λ (x : Row). x.queue ≡ (s.rows n).queue) _ _ _ refl refl);
      waits = λ r req point hi g served new free near f. queued s.rows (slot_of s.durable.index point) (record { client = m.client; req = req; point = point; hi = hi; mode = g });
      judges = λ r number op o served under near new is f u x. let y = writes t m.client op o in
          subst (λ rows. Stands rows c u) (sym (pushes_rows y m.client (push.Answer number o (holding y (slot_of y.durable.index (op_key op)) m.client)))) (written_stays s m.client c op o i under is u x);
      seizes = λ r number op served under near new may f u x. let t = effects.seizes s m.client op in
          let y = writes (acknowledged t m.client) m.client op outcome.Applied in
          let there = same_queues s.rows t.rows c (raised_queue s.rows (slot_of s.durable.index (op_key op)) (lock_for m.client op)) u x in
          subst (λ rows. Stands rows c u) (sym (pushes_rows y m.client (push.Answer number outcome.Applied (holding y (slot_of y.durable.index (op_key op)) m.client))))
          (written_stays t m.client c op outcome.Applied (takes_sound s m.client op i served.from.client) under (take_judged s m.client op i under (take_is s m.client op may)) u there);
      answers_again = λ r number op o served under some last is f u x.
          subst (λ rows. Stands rows c u) (sym (pushes_rows t m.client (push.Answer number o (holding t (slot_of t.durable.index (op_key op)) m.client)))) x;
    })
  where
    queued : (rows : Rows) (n : ℕ) (w : Waiter) → Stays rows (set_row rows n (with_queue (rows n) (queue_with (rows n) w))) c
    queued rows n w u x = record {
      slot = x.slot;
      at = eq_cases x.slot n
          (λ e. subst (λ y. In u (set_row rows n (with_queue (rows n) (queue_with (rows n) w)) y).queue) (sym e) (subst (λ (r : Row). In u r.queue) (sym (row_here rows n _)) (queue_with_in (rows n) w u (inr (subst (λ y. In u (rows y).queue) e x.at)))))
          (λ ne. subst (λ (r : Row). In u r.queue) (sym (row_other rows n _ x.slot ne)) x.at);
      own = x.own;
    }

-- the client whose request is taken: the new waiter is its only one
pub taken_stands : (s : Server) (m : ToServer) (req point hi : ℕ) (g : Rattle.krl_modes.specs.declared.mode.Mode.Mode) → Stands (effect s m (Waits req point hi g)).server.rows m.client (record { client = m.client; req = req; point = point; hi = hi; mode = g })
taken_stands s m req point hi g = record {
  slot = slot_of s.durable.index point;
  at = subst (λ (r : Row). In w r.queue) (sym (row_here s.rows (slot_of s.durable.index point) _)) (queue_with_in (s.rows (slot_of s.durable.index point)) w w (inl refl));
  own = refl;
}
  where
    w : Waiter
    w = record { client = m.client; req = req; point = point; hi = hi; mode = g }

pub taken_only : (s : Server) (m : ToServer) (req point hi : ℕ) (g : Rattle.krl_modes.specs.declared.mode.Mode.Mode) → Away s.rows m.client → (u : Waiter) → Stands (effect s m (Waits req point hi g)).server.rows m.client u → u.req ≡ req
taken_only s m req point hi g away u x = ⊎_elim
    (λ (y : (x.slot ≡ n) × In u (queue_with (s.rows n) w)). ⊎_elim (λ (e : u ≡ w). ap (λ (v : Waiter). v.req) e) (λ (old : In u (s.rows n).queue). absurd (away u (record { slot = n; at = old; own = x.own }))) (in_queue_with (s.rows n) w u y.1))
    (λ (old : In u (s.rows x.slot).queue). absurd (away u (record { slot = x.slot; at = old; own = x.own })))
    (in_row s.rows n (with_queue (s.rows n) (queue_with (s.rows n) w)) x.slot u x.at)
  where
    n : ℕ
    n = slot_of s.durable.index point

    w : Waiter
    w = record { client = m.client; req = req; point = point; hi = hi; mode = g }

pub cleared_away : (rows : Rows) (c : ℕ) → Away (Rattle.krl_table.specs.Calls.cleared rows c) c
cleared_away rows c u x = (in_unqueue (rows x.slot).queue c u x.at).1 x.own

-- An answer to a first waiter

-- the queues after an answer: the first waiter of the slot is gone
turn_queue : (s : Server) (t : Turn) (n : ℕ) → ((answer_first s t).server.rows n).queue ≡ (front_dropped s.rows t.slot n).queue
turn_queue s t n = if_both (λ (x : Done). (x.server.rows n).queue ≡ (front_dropped s.rows t.slot n).queue) (asks_absent s.durable.index t.waiter) (tells_absent s t) (grants s t)
    (ap (λ (r : Rows). (r n).queue) (pushes_rows (with_rows s (front_dropped s.rows t.slot)) t.waiter.client (push.Absent t.waiter.req t.waiter.point)))
    (ap (λ (r : Rows). (r n).queue) (pushes_rows (with_rows s (granted s.durable.reach s.durable.index s.rows t.slot)) t.waiter.client _) ∙ granted_queue s.durable.reach s.durable.index s.rows t.slot n ∙ first_gone (nat_eq n t.slot))
  where
    first_gone : (b : Bool) → (if b then grant_first (s.rows t.slot) (s.rows t.slot).queue else s.rows n).queue ≡ (if b then with_queue (s.rows t.slot) (behind_first (s.rows t.slot).queue) else s.rows n).queue
    first_gone true = by_queue (s.rows t.slot).queue refl
      where
        by_queue : (us : List Waiter) → (s.rows t.slot).queue ≡ us → (grant_first (s.rows t.slot) us).queue ≡ behind_first us
        by_queue [] e = e
        by_queue (u ∷ us) e = refl
    first_gone false = refl

module _ (s : Server) (t : Turn) (e : next_turn s ≡ Some t) where
  first : (s.rows t.slot).queue ≡ t.waiter ∷ behind_first (s.rows t.slot).queue
  first = (turn_is s t e).first

  pub turn_stands : Stands s.rows t.waiter.client t.waiter
  turn_stands = record { slot = t.slot; at = subst (In t.waiter) (sym first) (inl refl); own = refl }

  pub turn_stays : (c : ℕ) → c ≢ t.waiter.client → Stays s.rows (answer_first s t).server.rows c
  turn_stays c ne u x = record { slot = x.slot; at = subst (In u) (sym (turn_queue s t x.slot)) there; own = x.own }
    where
      behind : In u (s.rows t.slot).queue → In u (behind_first (s.rows t.slot).queue)
      behind at = ⊎_elim (λ (f : u ≡ t.waiter). absurd (ne (sym x.own ∙ ap (λ (w : Waiter). w.client) f))) (λ (y : In u (behind_first (s.rows t.slot).queue)). y) (subst (In u) first at)

      there : In u (front_dropped s.rows t.slot x.slot).queue
      there = eq_cases x.slot t.slot
          (λ f. subst (λ y. In u (front_dropped s.rows t.slot y).queue) (sym f) (subst (λ (r : Row). In u r.queue) (sym (row_here s.rows t.slot _)) (behind (subst (λ y. In u (s.rows y).queue) f x.at))))
          (λ no. subst (λ (r : Row). In u r.queue) (sym (row_other s.rows t.slot _ x.slot no)) x.at)

  -- a client that waits after an answer waited before
  behind_in : (us : List Waiter) (u : Waiter) → In u (behind_first us) → In u us
  behind_in [] u at = absurd at
  behind_in (v ∷ us) u at = inr at

  pub turn_came : (c : ℕ) → Stays (answer_first s t).server.rows s.rows c
  turn_came c u x = record {
    slot = x.slot;
    at = ⊎_elim (λ (y : (x.slot ≡ t.slot) × In u (behind_first (s.rows t.slot).queue)). subst (λ n. In u (s.rows n).queue) (sym y.0) (behind_in (s.rows t.slot).queue u y.1)) (λ (y : In u (s.rows x.slot).queue). y)
        (in_row s.rows t.slot (with_queue (s.rows t.slot) (behind_first (s.rows t.slot).queue)) x.slot u (subst (In u) (turn_queue s t x.slot) x.at));
    own = x.own;
  }

  -- and a client that was answered waits nowhere
  pub turn_away : IsTable s.durable.index s.rows → Away (answer_first s t).server.rows t.waiter.client
  turn_away table u x = ⊎_elim
      (λ (y : (x.slot ≡ t.slot) × In u (behind_first (s.rows t.slot).queue)). none_in t.waiter.client (behind_first (s.rows t.slot).queue) alone u y.1 x.own)
      (λ (y : In u (s.rows x.slot).queue). eq_cases x.slot t.slot (λ f. elsewhere_or f) (λ ne. none_in t.waiter.client (s.rows x.slot).queue (table.nowhere_else t.slot x.slot t.waiter.client (λ f. ne (sym f)) here) u y x.own))
      (in_row s.rows t.slot (with_queue (s.rows t.slot) (behind_first (s.rows t.slot).queue)) x.slot u gone)
    where
      gone : In u (front_dropped s.rows t.slot x.slot).queue
      gone = subst (In u) (turn_queue s t x.slot) x.at

      here : is_some (first_of t.waiter.client (s.rows t.slot).queue) ≡ true
      here = some_first t.waiter.client (s.rows t.slot).queue t.waiter (subst (In t.waiter) (sym first) (inl refl)) refl

      alone : first_of t.waiter.client (behind_first (s.rows t.slot).queue) ≡ None
      alone = times_none t.waiter.client (behind_first (s.rows t.slot).queue)
          (let once = table.once t.slot t.waiter.client in
          let more = times_more t.waiter.client t.waiter (behind_first (s.rows t.slot).queue) in
          let is = ap (λ q. Rattle.krl_table.specs.KeptRows.times t.waiter.client q) first in
          let one = ap (λ b. Rattle.krl_table.proofs.Invariant.Alone.one b) (eq-eqb t.waiter.client t.waiter.client refl) in
          omega (arith, once, more, is, one))

      elsewhere_or : x.slot ≡ t.slot → ⊥
      elsewhere_or f = none_in t.waiter.client (behind_first (s.rows t.slot).queue) alone u
          (subst (λ (r : Row). In u r.queue) (row_here s.rows t.slot _) (subst (λ y. In u (front_dropped s.rows t.slot y).queue) f gone)) x.own
