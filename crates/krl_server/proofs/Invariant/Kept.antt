-- Each step of a server keeps its table and its register in order, and leaves no waiter that could be answered.
use Rattle.krl_server.proofs.Names.{◌≡◌, ℕ, suc, ◌<◌, true, not, Some, None, List, [], ◌∷◌, refl, sym, ap, subst, ◌∙◌, arith, ne_eqb, and_parts, same_Some, nat_lt, END, WriteOp, Outcome, ToServer}
use Rattle.krl_server.proofs.Names.{ToClient, PushBody, eq_cases, Record, slot_of, slots, Durable, Register, record_of, with_record, new_record, left_by, HasOutcomes, op_key, noted, applied_by}
use Rattle.krl_server.proofs.Names.{HasOutcome, blank_rows, max_clients, cleared, front_dropped, behind_first, reached_slots, granted, asks_absent, is_wanted_compatible, IsTable, or_true, Server, is_recovering}
use Rattle.krl_server.proofs.Names.{Case, Ignored, Registers, Leaves, Tells, Alarms, Rebuilds, Repeats, Acknowledges, Lowers, Waits, Judges, SeizesLock, AnswersAgain, judged, case_of, Done, acknowledged}
use Rattle.krl_server.proofs.Names.{rows_after, pushes, effect, Turn, turn_among, next_turn, answer_first, tells_absent, grants, can_push, AnswersWaiters, stops, goes_on, Following, Nothing, following, Ends}
use Rattle.krl_server.proofs.Names.{at_once, recovers, serves, IsSettled, start, IsSound, lock_for}
use Rattle.krl_messages.specs.declared.outcome.Outcome.TheVariants as outcome
use Rattle.krl_messages.specs.declared.to_client.PushBody.TheVariants as push
use Rattle.krl_server.specs.Effects as effects
use Rattle.krl_server.specs.Invariant.{ServerKeeps}
use Rattle.krl_server.proofs.Updates.{record_here, record_other}
use Rattle.krl_modes.proofs.Basics.{not_both}
use Rattle.krl_server.proofs.Tests.{if_case}
use Rattle.krl_server.proofs.Turns.{turn_is}
use Rattle.krl_server.proofs.Invariant.AnswersSound.{turn_sound, answering_sound}
use Rattle.krl_server.proofs.Invariant.Sounds.{effect_sound}
use Rattle.krl_server.proofs.Invariant.SeizesSound.{take_is, take_judged, takes_sound}
use Rattle.krl_server.proofs.Grants.{slot_always}
use Rattle.krl_server.proofs.Invariant.RowsSound.{start_sound}
use Rattle.krl_server.proofs.Outputs.Ends.{pushes_durable, turn_durable}
use Rattle.krl_server.proofs.Cased.{by_case}
use Rattle.krl_server.proofs.Invariant.Tabled.{IsKept, kept_of, table_of, blank_kept}
use Rattle.krl_server.proofs.Invariant.TableKept.{lowered_kept, adopted_kept, cleared_kept, enqueued_kept, dropped_kept, granted_kept, raised_kept}
use Rattle.krl_server.proofs.Invariant.TableWritten.{written_kept}

-- Registers

with_outcome : (es : Register) (c : ℕ) (x : Record) → HasOutcome x → HasOutcomes es → HasOutcomes (with_record es c x)
with_outcome es c x here h d r e = eq_cases d c
    (λ f. subst HasOutcome (same_Some x r (sym (record_here es c x) ∙ ap (record_of (with_record es c x)) (sym f) ∙ e)) here)
    (λ ne. h d r (sym (record_other es c d x ne) ∙ e))

effect_of_write : (es : Register) (c : ℕ) (o : Outcome) (r : Record) → HasOutcomes es → HasOutcomes (with_record es c (noted r o))
effect_of_write es c o r h = with_outcome es c (noted r o) (sym (ap not (ne_eqb (suc r.last) 0 (λ f. omega (arith, f))))) h

-- Answers leave the durable part

pub answered_durable : (s t : Server) (outs : List ToClient) → AnswersWaiters s t outs → t.durable ≡ s.durable
answered_durable s t outs (stops s' e) = refl
answered_durable s t outs (goes_on s' t' turn later e rest) = answered_durable (answer_first s turn).server t later rest ∙ turn_durable s turn

pub effect_outcomes : (s : Server) (m : ToServer) → HasOutcomes s.durable.register → HasOutcomes (effect s m (case_of s m)).server.durable.register
effect_outcomes s m h = let t = acknowledged s m.client in
    by_case s m (λ x. HasOutcomes (effect s m x).server.durable.register)
    (record {
      ignored = h;
      registers = λ near newer body. with_outcome s.durable.register m.client (new_record m.incarnation) refl h;
      leaves = λ r from. subst (λ x. HasOutcomes (left_by s.durable m.client x).register) (sym from.known) (with_outcome s.durable.register m.client (record r { left = true }) (h m.client r from.known) h);
      tells = h;
      alarms = h;
      rebuilds = λ r epoch pieces from now missing fine. h;
      repeats = λ r body served unacked. h;
      acknowledges = λ r served. h;
      lowers = λ r span keep served. h;
      waits = λ r req point hi g served new free near. h;
      judges = λ r number op o served under near new is. let u = effects.writes t m.client op o in
          subst (λ d. HasOutcomes d.register) (sym (pushes_durable u m.client (push.Answer number o (effects.holding u (slot_of u.durable.index (op_key op)) m.client))))
          (subst (λ x. HasOutcomes (applied_by s.durable m.client op o x).register) (sym served.from.known) (effect_of_write s.durable.register m.client o r h));
      seizes = λ r number op served under near new may. let u = effects.writes (acknowledged (effects.seizes s m.client op) m.client) m.client op outcome.Applied in
          subst (λ d. HasOutcomes d.register) (sym (pushes_durable u m.client (push.Answer number outcome.Applied (effects.holding u (slot_of u.durable.index (op_key op)) m.client))))
          (subst (λ x. HasOutcomes (applied_by s.durable m.client op outcome.Applied x).register) (sym served.from.known) (effect_of_write s.durable.register m.client outcome.Applied r h));
      answers_again = λ r number op o served under some last is.
          subst (λ d. HasOutcomes d.register) (sym (pushes_durable t m.client (push.Answer number o (effects.holding t (slot_of t.durable.index (op_key op)) m.client)))) h;
    })

-- Soundness

ends_sound : (done : Done) (kind : Following) (t : Server) (outs : List ToClient) → Ends done kind t outs → IsSound done.server → IsSound t
ends_sound done kind t outs (at_once e) i = i
ends_sound done kind t outs (recovers e) i = i
ends_sound done kind t outs (serves t' answers a b c) i = answering_sound done.server t answers c i

-- Tables

-- its table is in order, in the form that is easy to keep
abbrev pub ServerKept : Server → Type 0
ServerKept s = IsKept s.durable.index s.rows

pushes_kept : (s : Server) (c : ℕ) (body : PushBody) → ServerKept s → ServerKept (pushes s c body).server
pushes_kept s c body k = if_case (λ (x : Done). ServerKept x.server) (nat_lt (s.sessions c).last_push END) _ _ (λ e. k) (λ e. k)

-- a new write, in the record r
write_kept : (s : Server) (c : ℕ) (op : WriteOp) (o : Outcome) (r : Record) → IsSound s → c < max_clients → op_key op < END → record_of s.durable.register c ≡ Some r → judged s c op ≡ o → ServerKept s → ServerKept (effects.writes (acknowledged s c) c op o)
write_kept s c op o r i lt under known is k = subst (λ x. IsKept (applied_by s.durable c op o x).index (rows_after s.durable.index s.rows c op o)) (sym known) (by_outcome o is)
  where
    by_outcome : (o : Outcome) → judged s c op ≡ o → IsKept (applied_by s.durable c op o (Some r)).index (rows_after s.durable.index s.rows c op o)
    by_outcome outcome.Applied e = written_kept s.durable.index i.near s.rows k s.durable.room c op lt under e
    by_outcome outcome.Exists e = k
    by_outcome outcome.Absent e = k
    by_outcome outcome.NotHeld e = k
    by_outcome outcome.Full e = k

pub effect_kept : (s : Server) (m : ToServer) → IsSound s → ServerKept s → ServerKept (effect s m (case_of s m)).server
effect_kept s m i k = let t = acknowledged s m.client in
    by_case s m (λ x. ServerKept (effect s m x).server)
    (record {
      ignored = k;
      registers = λ near newer body. cleared_kept s.durable.index s.rows m.client k;
      leaves = λ r from. subst (λ x. IsKept (left_by s.durable m.client x).index (cleared s.rows m.client)) (sym from.known) (cleared_kept s.durable.index s.rows m.client k);
      tells = k;
      alarms = k;
      rebuilds = λ r epoch pieces from now missing fine. adopted_kept s.durable.index s.rows m.client pieces from.client fine k;
      repeats = λ r body served unacked. k;
      acknowledges = λ r served. k;
      lowers = λ r span keep served. lowered_kept s.durable.index s.rows m.client span keep served.from.client k;
      waits = λ r req point hi g served new free near. enqueued_kept s.durable.index s.rows (record { client = m.client; req = req; point = point; hi = hi; mode = g }) i.near served.from.client near free k;
      judges = λ r number op o served under near new is. let u = effects.writes t m.client op o in
          pushes_kept u m.client (push.Answer number o (effects.holding u (slot_of u.durable.index (op_key op)) m.client)) (write_kept s m.client op o r i served.from.client under served.from.known is k);
      seizes = λ r number op served under near new may.
          let can = take_is s m.client op may in
          let x = effects.seizes s m.client op in
          let u = effects.writes (acknowledged x m.client) m.client op outcome.Applied in
          pushes_kept u m.client (push.Answer number outcome.Applied (effects.holding u (slot_of u.durable.index (op_key op)) m.client))
          (write_kept x m.client op outcome.Applied r (takes_sound s m.client op i served.from.client) served.from.client under served.from.known (take_judged s m.client op i under can)
          (raised_kept s.durable.index s.rows (lock_for m.client op) served.from.client (slot_of s.durable.index (op_key op)) (slot_always s.durable.index (op_key op)) can.compatible k));
      answers_again = λ r number op o served under some last is. pushes_kept t m.client (push.Answer number o (effects.holding t (slot_of t.durable.index (op_key op)) m.client)) k;
    })

pub turn_kept : (s : Server) (t : Turn) → next_turn s ≡ Some t → ServerKept s → ServerKept (answer_first s t).server
turn_kept s t e k = let x = turn_is s t e in
    if_case (λ (y : Done). ServerKept y.server) (asks_absent s.durable.index t.waiter) (tells_absent s t) (grants s t)
    (λ f. pushes_kept (effects.with_rows s (front_dropped s.rows t.slot)) t.waiter.client (push.Absent t.waiter.req t.waiter.point) (dropped_kept s.durable.index s.rows t.slot t.waiter (behind_first (s.rows t.slot).queue) k x.first))
    (λ f. let u = effects.with_rows s (granted s.durable.reach s.durable.index s.rows t.slot) in
    pushes_kept u t.waiter.client (push.Grant t.waiter.req (effects.holdings u t.waiter.client (reached_slots s.durable.reach s.durable.index s.rows t.slot)))
    (granted_kept s.durable.reach s.durable.index s.rows t.slot t.waiter (behind_first (s.rows t.slot).queue) k x.first (or_true (asks_absent s.durable.index t.waiter) (is_wanted_compatible s.rows t.slot t.waiter) (and_parts (can_push (s.sessions t.waiter.client)) _ x.answerable).1 f)))

pub answered_kept : (s t : Server) (outs : List ToClient) → AnswersWaiters s t outs → ServerKept s → ServerKept t
answered_kept s t outs (stops s' e) k = k
answered_kept s t outs (goes_on s' t' turn later e rest) k = answered_kept (answer_first s turn).server t later rest (turn_kept s turn e k)

ends_kept : (done : Done) (kind : Following) (t : Server) (outs : List ToClient) → Ends done kind t outs → ServerKept done.server → ServerKept t
ends_kept done kind t outs (at_once e) k = k
ends_kept done kind t outs (recovers e) k = k
ends_kept done kind t outs (serves t' answers a b c) k = answered_kept done.server t answers c k

-- after the answers of a step the durable part is that after its effect
pub ends_durable : (done : Done) (kind : Following) (t : Server) (outs : List ToClient) → Ends done kind t outs → t.durable ≡ done.server.durable
ends_durable done kind t outs (at_once e) = refl
ends_durable done kind t outs (recovers e) = refl
ends_durable done kind t outs (serves t' answers a b c) = answered_durable done.server t answers c

pub effect_table : (s : Server) (m : ToServer) → IsSound s → IsTable s.durable.index s.rows → IsTable (effect s m (case_of s m)).server.durable.index (effect s m (case_of s m)).server.rows
effect_table s m i h = let t = (effect s m (case_of s m)).server in table_of t.durable.index t.rows (effect_kept s m i (kept_of s.durable.index s.rows h))

pub turn_table : (s : Server) (t : Turn) → next_turn s ≡ Some t → IsTable s.durable.index s.rows → IsTable (answer_first s t).server.durable.index (answer_first s t).server.rows
turn_table s t e h = let u = (answer_first s t).server in table_of u.durable.index u.rows (turn_kept s t e (kept_of s.durable.index s.rows h))

-- Nobody is left

answered_settled : (s t : Server) (outs : List ToClient) → AnswersWaiters s t outs → next_turn t ≡ None
answered_settled s t outs (stops s' e) = e
answered_settled s t outs (goes_on s' t' turn later e rest) = answered_settled (answer_first s turn).server t later rest

-- a case that has not acted leaves the server as it is
idle_same : (s : Server) (m : ToServer) (k : Case) → following k ≡ Nothing → (effect s m k).server ≡ s
idle_same s m Ignored e = refl
idle_same s m Registers e = absurd (cc)
idle_same s m Leaves e = absurd (cc)
idle_same s m Tells e = refl
idle_same s m Alarms e = refl
idle_same s m (Rebuilds pieces) e = absurd (cc)
idle_same s m (Repeats body) e = refl
idle_same s m Acknowledges e = absurd (cc)
idle_same s m (Lowers span keep) e = absurd (cc)
idle_same s m (Waits req point hi g) e = absurd (cc)
idle_same s m (Judges number op o) e = absurd (cc)
idle_same s m (SeizesLock number op) e = absurd (cc)
idle_same s m (AnswersAgain number op o) e = absurd (cc)

ends_settled : (done : Done) (kind : Following) (t : Server) (outs : List ToClient) → Ends done kind t outs → (kind ≡ Nothing → IsSettled done.server) → IsSettled t
ends_settled done kind t outs (at_once e) h = h e
ends_settled done kind t outs (recovers e) h = λ up. absurd (not_both (is_recovering done.server.missing) e up)
ends_settled done kind t outs (serves t' answers a b c) h = λ up. answered_settled done.server t answers c

-- if nobody waits, nobody is answered
start_settled : (d : Durable) (ns : List ℕ) → turn_among (start d) ns ≡ None
start_settled d [] = refl
start_settled d (n ∷ ns) = start_settled d ns

pub server_keeps : ServerKeeps
server_keeps = record {
  sound_effect = effect_sound;
  ordered_effect = λ s m i h. record { table = effect_table s m i h.table; outcomes = effect_outcomes s m h.outcomes };
  sound_turn = λ s t e i. turn_sound s t i e;
  ordered_turn = λ s t e h. record { table = turn_table s t e h.table; outcomes = subst (λ d. HasOutcomes d.register) (sym (turn_durable s t)) h.outcomes };
  turn_durable = turn_durable;
  sound_step = λ s t m outs i a. ends_sound (effect s m (case_of s m)) (following (case_of s m)) t outs a (effect_sound s m i);
  ordered_step = λ s t m outs i h a. record {
    table = table_of t.durable.index t.rows (ends_kept (effect s m (case_of s m)) (following (case_of s m)) t outs a (effect_kept s m i (kept_of s.durable.index s.rows h.table)));
    outcomes = subst (λ d. HasOutcomes d.register) (sym (ends_durable (effect s m (case_of s m)) (following (case_of s m)) t outs a)) (effect_outcomes s m h.outcomes);
  };
  settled_step = λ s t m outs h a. ends_settled (effect s m (case_of s m)) (following (case_of s m)) t outs a (λ e. subst IsSettled (sym (idle_same s m (case_of s m) e)) h);
  step_durable = λ s t m outs a. ends_durable (effect s m (case_of s m)) (following (case_of s m)) t outs a;
  sound_start = start_sound;
  ordered_start = λ d h. (record { table = table_of d.index blank_rows (blank_kept d.index); outcomes = h }, λ up. start_settled d (slots d.index));
}
