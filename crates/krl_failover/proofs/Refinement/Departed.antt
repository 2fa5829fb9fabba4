-- A client that has left holds nothing.
use Rattle.std.specs.Prelude.{◌-◌}
use Rattle.krl_failover.proofs.Refinement.Names.{◌≡◌, ◌≢◌, ℕ, suc, true, false, nat_lt, Some, List, ◌∷◌, if◌then◌else◌, refl, sym, ap, subst, ◌∙◌, same_Some, END, Outcome, WriteOp, ToServer, ToClient, PushBody, In, Waiter, Record}
use Rattle.krl_failover.proofs.Refinement.Names.{record_of, Row, Rows, mode_at, set_row, arith, eq_cases, ne_eqb, Server, Done, acknowledged, pushes, IsSound, if_case}
use Rattle.krl_modes.proofs.Basics.{not_both}
use Rattle.krl_modes.specs.Modes.{range_of}
use Rattle.krl_modes.specs.Modes.{at_or_above}
use Rattle.krl_modes.specs.declared.part.KeyPart.TheVariants as key
use Rattle.krl_modes.specs.declared.mode.Mode.TheVariants as mode
use Rattle.krl_messages.specs.declared.write_op.WriteOp.TheVariants as write
use Rattle.krl_messages.specs.declared.outcome.Outcome.TheVariants as outcome
use Rattle.krl_messages.specs.declared.to_client.PushBody.TheVariants as push
use Rattle.krl_durable.specs.Index.{Index, slot_of}
use Rattle.krl_durable.specs.Registers.{Register, with_record, new_record}
use Rattle.krl_durable.specs.Splits.{left_by, applied_by}
use Rattle.krl_durable.specs.Writes.{noted}
use Rattle.krl_table.specs.Rows.{blank_row, set_mode}
use Rattle.krl_table.specs.Calls.{with_queue, wanted, behind_first, front_dropped, lowered, cleared, split, merged, mode_beside}
use Rattle.krl_table.specs.Grants.{reached_slots, granted}
use Rattle.krl_table.specs.Replies.{asks_absent}
use Rattle.krl_table.specs.Reports.{adopted}
use Rattle.krl_table.proofs.Invariant.Compatible.{mode_here, mode_other}
use Rattle.krl_messages.specs.Writes.{op_key as op_key_of}
use Rattle.krl_server.specs.Seizing.{lock_for}
use Rattle.krl_server.specs.Cases.{case_of}
use Rattle.krl_server.specs.Effects as effects
use Rattle.krl_server.specs.Effects.{effect, rows_after}
use Rattle.krl_server.specs.Answering.{Turn, next_turn, answer_first, AnswersWaiters, stops, goes_on}
use Rattle.krl_server.specs.Steps.{ServerStep, Following, following, Ends, at_once, recovers, serves}
use Rattle.krl_server.proofs.Cased.{by_case}
use Rattle.krl_server.proofs.Grants.{raised_others, raised_queue, along, granted_is}
use Rattle.krl_server.proofs.Turns.{turn_is}
use Rattle.krl_server.proofs.Updates.{row_here, row_modes, set_modes, record_here, record_other}
use Rattle.krl_server.proofs.Invariant.AnswersSound.{at_first, stayed_on, dropped_is, drop_modes, turn_sound}
use Rattle.krl_server.proofs.Invariant.RowsSound.{lowered_others, adopted_others}
use Rattle.krl_server.proofs.Invariant.Sounds.{effect_sound}
use Rattle.krl_failover.specs.Follows.{HoldsNothing, AreEmpty}

-- by the register only
abbrev EmptyIn : Register → Rows → Type 0
EmptyIn es rows = (d : ℕ) (r : Record) → record_of es d ≡ Some r → r.left ≡ true → HoldsNothing rows d

-- a client that held nothing holds nothing
abbrev StayEmpty : Rows → Rows → ℕ → Type 0
StayEmpty rows to c = (d : ℕ) → d ≢ c → HoldsNothing rows d → HoldsNothing to d

with_empty : (es : Register) (rows to : Rows) (c : ℕ) (x : Record) → (x.left ≡ true → HoldsNothing to c) → StayEmpty rows to c → EmptyIn es rows → EmptyIn (with_record es c x) to
with_empty es rows to c x own stay h d r e left = eq_cases d c
    (λ same. subst (HoldsNothing to) (sym same) (own (ap (λ y. y.left) (same_Some x r (sym (record_here es c x) ∙ sym (ap (record_of (with_record es c x)) same) ∙ e)) ∙ left)))
    (λ ne. stay d ne (h d r (sym (record_other es c d x ne) ∙ e) left))

same_empty : (es : Register) (rows to : Rows) (c : ℕ) (r : Record) → record_of es c ≡ Some r → r.left ≡ false → StayEmpty rows to c → EmptyIn es rows → EmptyIn es to
same_empty es rows to c r known here stay h d x e left = eq_cases d c
    (λ same. absurd (not_both x.left left (ap (λ y. y.left) (same_Some x r (sym e ∙ ap (record_of es) same ∙ known)) ∙ here)))
    (λ ne. stay d ne (h d x e left))

by_modes : (rows to : Rows) (c : ℕ) → ((d : ℕ) → d ≢ c → (n : ℕ) → mode_at rows n d ≡ mode_at to n d) → StayEmpty rows to c
by_modes rows to c same d ne none n = sym (same d ne n) ∙ none n

pushes_empty : (s : Server) (c : ℕ) (body : PushBody) → AreEmpty s → AreEmpty (pushes s c body).server
pushes_empty s c body h = if_case (λ (x : Done). AreEmpty x.server) (nat_lt (s.sessions c).last_push END) _ _ (λ e. h) (λ e. h)

-- Writes

split_empty : (m : Index) (rows : Rows) (k c : ℕ) → StayEmpty rows (split m rows k c) c
split_empty m rows k c d ne none n = eq_cases n k
    (λ e. ap (λ x. (split m rows k c x).modes d) e ∙ ap (λ r. r.modes d) (row_here (set_row rows (slot_of m k) _) k _)
    ∙ ap (λ b. if b then at_or_above (range_of ((rows (slot_of m k)).modes c)) key.X else mode_beside (range_of ((rows (slot_of m k)).modes d))) (ne_eqb d c ne)
    ∙ ap (λ g. mode_beside (range_of g)) (none (slot_of m k)))
    (λ other. set_modes rows (slot_of m k) k d n _ _ refl other ∙ none n)

merge_empty : (m : Index) (rows : Rows) (k c : ℕ) → StayEmpty rows (merged m rows k) c
merge_empty m rows k c d ne none n = eq_cases n k
    (λ e. ap (λ x. (merged m rows k x).modes d) e ∙ ap (λ r. r.modes d) (row_here (set_row rows (slot_of m (suc k)) _) k blank_row))
    (λ other. set_modes rows (slot_of m (suc k)) k d n _ _ refl other ∙ none n)

written_empty : (m : Index) (rows : Rows) (c : ℕ) (op : WriteOp) (o : Outcome) → StayEmpty rows (rows_after m rows c op o) c
written_empty m rows c (write.Insert k v) outcome.Applied = split_empty m rows k c
written_empty m rows c (write.Put k v) outcome.Applied = λ d ne none. none
written_empty m rows c (write.Delete k) outcome.Applied = merge_empty m rows k c
written_empty m rows c op outcome.Exists = λ d ne none. none
written_empty m rows c op outcome.Absent = λ d ne none. none
written_empty m rows c op outcome.NotHeld = λ d ne none. none
written_empty m rows c op outcome.Full = λ d ne none. none

-- Cases

effect_empty : (s : Server) (m : ToServer) → AreEmpty s → AreEmpty (effect s m (case_of s m)).server
effect_empty s m h =
    let c = m.client in
    let es = s.durable.register in
    let index = s.durable.index in
    let t = acknowledged s c in
    by_case s m (λ k. AreEmpty (effect s m k).server) (record {
      ignored = h;
      registers = λ near newer body. with_empty es s.rows (cleared s.rows c) c (new_record m.incarnation) (λ left. absurd (not_both true refl (sym left))) (λ d ne none n. mode_other (s.rows n).modes c d mode.N ne ∙ none n) h;
      leaves = λ r from. subst (λ o. EmptyIn (left_by s.durable c o).register (cleared s.rows c)) (sym from.known)
          (with_empty es s.rows (cleared s.rows c) c (record r { left = true }) (λ left n. mode_here (s.rows n).modes c mode.N) (λ d ne none n. mode_other (s.rows n).modes c d mode.N ne ∙ none n) h);
      tells = h;
      alarms = h;
      rebuilds = λ r epoch pieces from now missing fine. same_empty es s.rows (adopted index s.rows c pieces) c r from.known from.here (by_modes s.rows (adopted index s.rows c pieces) c (adopted_others index s.rows c pieces)) h;
      repeats = λ r body served unacked. h;
      acknowledges = λ r served. h;
      lowers = λ r span keep served. same_empty es s.rows (lowered index s.rows c span keep) c r served.from.known served.from.here (by_modes s.rows (lowered index s.rows c span keep) c (lowered_others index s.rows c span keep)) h;
      waits = λ r req point hi g served new free near d x e left n. sym (row_modes s.rows (slot_of index point) _ d refl n) ∙ h d x e left n;
      judges = λ r number op o served under near new is. pushes_empty (effects.writes t c op o) c _
          (subst (λ x. EmptyIn (applied_by s.durable c op o x).register (rows_after index s.rows c op o)) (sym served.from.known)
          (with_empty es s.rows (rows_after index s.rows c op o) c (noted r o) (λ left. absurd (not_both r.left left served.from.here)) (written_empty index s.rows c op o) h));
      seizes = λ r number op served under near new may. let x = effects.seizes s c op in
          pushes_empty (effects.writes (acknowledged x c) c op outcome.Applied) c _
          (subst (λ y. EmptyIn (applied_by s.durable c op outcome.Applied y).register (rows_after index x.rows c op outcome.Applied)) (sym served.from.known)
          (with_empty es s.rows (rows_after index x.rows c op outcome.Applied) c (noted r outcome.Applied) (λ left. absurd (not_both r.left left served.from.here))
          (λ d ne none. written_empty index x.rows c op outcome.Applied d ne (λ n. sym (raised_others s.rows (slot_of index (op_key_of op)) (lock_for c op) d ne n) ∙ none n)) h));
      answers_again = λ r number op o served under some last is. pushes_empty t c _ h;
    })

-- Answers

-- a client that waits has not left
abbrev pub AreHere : Server → Type 0
AreHere s = (n : ℕ) (u : Waiter) → In u (s.rows n).queue → (r : Record) → record_of s.durable.register u.client ≡ Some r → r.left ≡ false

module _ (s : Server) (i : IsSound s) (n : ℕ) (u : Waiter) (us : List Waiter) (queue : (s.rows n).queue ≡ u ∷ us) where
  abbrev grant_row : Row
  grant_row = record { modes = set_mode (s.rows n).modes u.client (wanted (s.rows n) u); queue = us }

  abbrev drop_row : Row
  drop_row = with_queue (s.rows n) us

  dropped_waits : (k : ℕ) (v : Waiter) → In v (front_dropped s.rows n k).queue → In v (s.rows k).queue
  dropped_waits k v at = stayed_on s i n u us queue drop_row refl k v (subst (λ (r : Rows). In v (r k).queue) (sym (dropped_is s i n u us queue)) at)

  granted_waits : (k : ℕ) (v : Waiter) → In v (granted s.durable.reach s.durable.index s.rows n k).queue → In v (s.rows k).queue
  granted_waits k v = subst (λ (r : Rows). In v (r k).queue → In v (s.rows k).queue) (sym (granted_is s.durable.reach s.durable.index s.rows n u us queue))
      (along s.durable.index u (λ r. In v (r k).queue → In v (s.rows k).queue) n (λ r j far there fits less at. less (subst (In v) (raised_queue r j u k) at)) (s.durable.reach - 1) n (set_row s.rows n grant_row) (omega arith) (stayed_on s i n u us queue grant_row refl k v))

  granted_others : StayEmpty s.rows (granted s.durable.reach s.durable.index s.rows n) u.client
  granted_others = subst (λ r. StayEmpty s.rows r u.client) (sym (granted_is s.durable.reach s.durable.index s.rows n u us queue))
      (along s.durable.index u (λ r. StayEmpty s.rows r u.client) n
      (λ r j far there fits stay d ne none k. sym (raised_others r j u d ne k) ∙ stay d ne none k)
      (s.durable.reach - 1) n (set_row s.rows n grant_row) (omega arith)
      (λ d ne none k. sym (row_modes s.rows n grant_row d (sym (mode_other (s.rows n).modes u.client d (wanted (s.rows n) u) ne)) k) ∙ none k))

  dropped_empty : AreEmpty s → EmptyIn s.durable.register (front_dropped s.rows n)
  dropped_empty h = subst (EmptyIn s.durable.register) (dropped_is s i n u us queue) (λ d r e left k. sym (drop_modes s i n u us queue d k) ∙ h d r e left k)

  granted_empty : AreHere s → AreEmpty s → EmptyIn s.durable.register (granted s.durable.reach s.durable.index s.rows n)
  granted_empty here h d r e left = eq_cases d u.client
      (λ same. absurd (not_both r.left left (here n u (at_first s i n u us queue) r (sym (ap (record_of s.durable.register) same) ∙ e))))
      (λ ne. granted_others d ne (h d r e left))

turn_here : (s : Server) (t : Turn) → IsSound s → next_turn s ≡ Some t → AreHere s → AreHere (answer_first s t).server
turn_here s t i e here =
    let first = (turn_is s t e).first in
    let us = behind_first (s.rows t.slot).queue in
    if_case (λ (x : Done). AreHere x.server) (asks_absent s.durable.index t.waiter) _ _
    (λ yes. pushed (effects.with_rows s (front_dropped s.rows t.slot)) t.waiter.client (push.Absent t.waiter.req t.waiter.point) (λ k v at. here k v (dropped_waits s i t.slot t.waiter us first k v at)))
    (λ no. let u = effects.with_rows s (granted s.durable.reach s.durable.index s.rows t.slot) in
    pushed u t.waiter.client (push.Grant t.waiter.req (effects.holdings u t.waiter.client (reached_slots s.durable.reach s.durable.index s.rows t.slot))) (λ k v at. here k v (granted_waits s i t.slot t.waiter us first k v at)))
  where
    pushed : (x : Server) (c : ℕ) (body : PushBody) → AreHere x → AreHere (pushes x c body).server
    pushed x c body h = if_case (λ (y : Done). AreHere y.server) (nat_lt (x.sessions c).last_push END) _ _ (λ e. h) (λ e. h)

turn_empty : (s : Server) (t : Turn) → IsSound s → next_turn s ≡ Some t → AreHere s → AreEmpty s → AreEmpty (answer_first s t).server
turn_empty s t i e here h =
    let first = (turn_is s t e).first in
    let us = behind_first (s.rows t.slot).queue in
    if_case (λ (x : Done). AreEmpty x.server) (asks_absent s.durable.index t.waiter) _ _
    (λ yes. pushes_empty (effects.with_rows s (front_dropped s.rows t.slot)) t.waiter.client (push.Absent t.waiter.req t.waiter.point) (dropped_empty s i t.slot t.waiter us first h))
    (λ no. let u = effects.with_rows s (granted s.durable.reach s.durable.index s.rows t.slot) in
    pushes_empty u t.waiter.client (push.Grant t.waiter.req (effects.holdings u t.waiter.client (reached_slots s.durable.reach s.durable.index s.rows t.slot))) (granted_empty s i t.slot t.waiter us first here h))

answered_empty : (s t : Server) (outs : List ToClient) → AnswersWaiters s t outs → IsSound s → AreHere s → AreEmpty s → AreEmpty t
answered_empty s t outs (stops s' e) i here h = h
answered_empty s t outs (goes_on s' t' turn later e rest) i here h =
    answered_empty (answer_first s turn).server t later rest (turn_sound s turn i e) (turn_here s turn i e here) (turn_empty s turn i e here h)

ends_empty : (done : Done) (kind : Following) (t : Server) (outs : List ToClient) → Ends done kind t outs → IsSound done.server → AreHere done.server → AreEmpty done.server → AreEmpty t
ends_empty done kind t outs (at_once e) i here h = h
ends_empty done kind t outs (recovers e) i here h = h
ends_empty done kind t outs (serves t' answers a b c) i here h = answered_empty done.server t answers c i here h

-- after a message, if a client that waits after its case has not left
pub step_empty : (s t : Server) (m : ToServer) (outs : List ToClient) → IsSound s → AreHere (effect s m (case_of s m)).server → ServerStep s m t outs → AreEmpty s → AreEmpty t
step_empty s t m outs i here step h = ends_empty (effect s m (case_of s m)) (following (case_of s m)) t outs step (effect_sound s m i) here (effect_empty s m h)
