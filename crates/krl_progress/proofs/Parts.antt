-- A client that holds or waits for something did so before, or the server reads its request.
use Rattle.krl_progress.proofs.Names.{◌≡◌, ◌≢◌, ℕ, suc, ◌<◌, ◌⊎◌, inl, inr, ⊎_elim, ◌∙◌, true, false, ◌&&◌, Option, Some, None, List, refl, sym, ap, subst, nat_eq, eqb-true, ne_eqb, same_Some, eq_cases, if◌then◌else◌, In}
use Rattle.krl_progress.proofs.Names.{ToServer, ToClient, WriteOp, Outcome, Record, Server, Durable, record_of, left_by, is_recovering, lists, case_of, Registers, Done, effect, acknowledged, writes, holding, slot_of, span_of, is_slot, op_key, Turn, next_turn, answer_first, AnswersWaiters, stops, goes_on, Following, following, Ends, at_once, recovers, serves, ServerStep}
use Rattle.krl_modes.specs.declared.mode.Mode.{Mode}
use Rattle.krl_modes.specs.declared.mode.Mode.TheVariants as mode
use Rattle.krl_modes.specs.declared.part.KeyPart.TheVariants as key
use Rattle.krl_modes.specs.Modes.{meet, range_of, at_or_above}
use Rattle.krl_modes.specs.Spans.{within}
use Rattle.krl_modes.proofs.Basics.{not_both}
use Rattle.krl_messages.specs.declared.outcome.Outcome.TheVariants as outcome
use Rattle.krl_messages.specs.declared.write_op.WriteOp.TheVariants as write
use Rattle.krl_messages.specs.declared.to_client.PushBody.TheVariants as push
use Rattle.krl_messages.specs.declared.to_server.ToServerBody.TheVariants as said
use Rattle.krl_messages.specs.declared.to_server.Request.{Request}
use Rattle.krl_queue.specs.declared.waiter.Waiter.{Waiter}
use Rattle.krl_durable.specs.Registers.{new_record}
use Rattle.krl_durable.specs.Writes.{noted}
use Rattle.krl_durable.specs.Splits.{applied_by}
use Rattle.krl_table.specs.Rows.{Row, Rows, mode_at}
use Rattle.krl_table.specs.Calls.{with_mode, with_queue, queue_with, mode_beside}
use Rattle.krl_server.specs.Cases.{judged}
use Rattle.krl_server.specs.Effects as effects
use Rattle.krl_server.specs.Effects.{rows_after}
use Rattle.krl_server.specs.Seizing.{lock_for}
use Rattle.krl_server.specs.Soundness.{IsSound}
use Rattle.krl_server.proofs.Tests.{if_both, if_case}
use Rattle.krl_server.proofs.Cased.{by_said, IsFrom}
use Rattle.krl_server.proofs.Updates.{row_modes, record_here, record_other}
use Rattle.krl_server.proofs.Outputs.Ends.{pushes_rows, pushes_durable}
use Rattle.krl_server.proofs.Grants.{raised_queue, raised_others}
use Rattle.krl_server.proofs.Invariant.Kept.{server_keeps}
use Rattle.krl_server.proofs.Invariant.Placed.{two_rows}
use Rattle.krl_server.proofs.Invariant.SeizesSound.{take_is, take_judged}
use Rattle.krl_server.proofs.Invariant.WaitersAfter as after
use Rattle.krl_progress.specs.Standstills.{HasPart, holds, waits}
use Rattle.krl_progress.proofs.WritesMove.{nobody_listed}
use Rattle.krl_progress.proofs.Knowing.{inc_in}
use Rattle.krl_progress.proofs.Queues.{turn_stands, turn_came}
use Rattle.krl_progress.proofs.Sinking.{turn_others}
use Rattle.krl_progress.proofs.KeepsFirst.{applied_part}

-- Who asks

-- the message is a request in the server's epoch, of the registered incarnation, which has not left
pub record IsAsker (s : Server) (m : ToServer) : Type 0 where
  pub known : Record
  pub from : IsFrom s m known
  pub request : Request
  pub said : m.body ≡ said.Request request
  pub now : request.epoch ≡ s.durable.epoch

asker : (s : Server) (m : ToServer) → after.asks (case_of s m) ≡ true → IsAsker s m
asker s m = by_said s m (λ k. after.asks k ≡ true → IsAsker s m) (record {
  ignored = λ e. absurd (cc);
  registers = λ near newer body e. absurd (cc);
  leaves = λ r from body e. absurd (cc);
  tells = λ e. absurd (cc);
  alarms = λ r epoch pieces from body now missing bad e. absurd (cc);
  rebuilds = λ r epoch pieces from body now missing fine e. absurd (cc);
  repeats = λ r body served unacked e. absurd (cc);
  acknowledges = λ r request b a e. absurd (cc);
  lowers = λ r request span keep a e. absurd (cc);
  waits = λ r request req point hi g a new free near e. record { known = r; from = a.served.from; request = request; said = a.said; now = a.now };
  judges = λ r request number op seizes o a under near new is e. absurd (cc);
  seizes = λ r request number op seizes a under near new may e. absurd (cc);
  answers_again = λ r request number op seizes o a under some last is e. absurd (cc);
})

-- What a message makes of what a client holds

meet_nothing : (keep : Mode) → meet mode.N keep ≡ mode.N
meet_nothing mode.N = refl
meet_nothing mode.S = refl
meet_nothing mode.U = refl
meet_nothing mode.X = refl
meet_nothing mode.RangeSS = refl
meet_nothing mode.RangeSU = refl
meet_nothing mode.RangeIN = refl
meet_nothing mode.RangeIS = refl
meet_nothing mode.RangeIU = refl
meet_nothing mode.RangeIX = refl
meet_nothing mode.RangeXS = refl
meet_nothing mode.RangeXU = refl
meet_nothing mode.RangeXX = refl

-- if the client holds this, it held something before
abbrev Held : Server → ℕ → Mode → Type 0
Held s c g = g ≢ mode.N → HasPart s c

-- a new slot: its writer held something, and another client holds nothing there if it held nothing on the old one
split_part : (s : Server) (d c k : ℕ) → c ≢ d → (if nat_eq c d then at_or_above (range_of (mode_at s.rows (slot_of s.durable.index k) d)) key.X else mode_beside (range_of (mode_at s.rows (slot_of s.durable.index k) c))) ≢ mode.N → HasPart s c
split_part s d c k ne held = holds (slot_of s.durable.index k) (λ none. held (
    ap (λ b. if b then at_or_above (range_of (mode_at s.rows (slot_of s.durable.index k) d)) key.X else mode_beside (range_of (mode_at s.rows (slot_of s.durable.index k) c))) (ne_eqb c d ne)
    ∙ ap (λ g. mode_beside (range_of g)) none
    ))

written_part : (s : Server) (d c : ℕ) (op : WriteOp) (o : Outcome) → judged s d op ≡ o → (n : ℕ) → Held s c (mode_at (rows_after s.durable.index s.rows d op o) n c)
written_part s d c (write.Insert k v) outcome.Applied e n = eq_cases c d
    (λ own held. subst (HasPart s) (sym own) (applied_part s d (write.Insert k v) e))
    (λ ne. two_rows s.rows (slot_of s.durable.index k) k n _ _ (λ (r : Row). Held s c (r.modes c))
    (λ f held. split_part s d c k ne held)
    (λ x f held. holds (slot_of s.durable.index k) held)
    (λ x y held. holds n held))
written_part s d c (write.Put k v) outcome.Applied e n = λ held. holds n held
written_part s d c (write.Delete k) outcome.Applied e n = two_rows s.rows (slot_of s.durable.index (suc k)) k n _ _ (λ (r : Row). Held s c (r.modes c))
    (λ f held. absurd (held refl))
    (λ x f held. holds (slot_of s.durable.index (suc k)) held)
    (λ x y held. holds n held)
written_part s d c op outcome.Exists e n = λ held. holds n held
written_part s d c op outcome.Absent e n = λ held. holds n held
written_part s d c op outcome.NotHeld e n = λ held. holds n held
written_part s d c op outcome.Full e n = λ held. holds n held

-- a client that takes a lock makes no other client hold anything
taken_part : (s : Server) (d c : ℕ) (op : WriteOp) → c ≢ d → HasPart (effects.seizes s d op) c → HasPart s c
taken_part s d c op ne (holds n held) = holds n (λ none. held (sym (raised_others s.rows (slot_of s.durable.index (op_key op)) (lock_for d op) c ne n) ∙ none))
taken_part s d c op ne (waits n u at own) = waits n u (subst (In u) (raised_queue s.rows (slot_of s.durable.index (op_key op)) (lock_for d op) n) at) own

-- a client that holds this held something before, or has sent this request
abbrev Gets : Server → ToServer → ℕ → Mode → Type 0
Gets s m c g = g ≢ mode.N → HasPart s c ⊎ ((c ≡ m.client) × IsAsker s m)

effect_gets : (s : Server) (m : ToServer) (c : ℕ) → IsSound s → is_recovering s.missing ≡ false → (n : ℕ) → Gets s m c (mode_at (effect s m (case_of s m)).server.rows n c)
effect_gets s m c i up = let t = acknowledged s m.client in by_said s m (λ k. (n : ℕ) → Gets s m c (mode_at (effect s m k).server.rows n c))
    (record {
      ignored = same;
      registers = λ near newer body. cleared;
      leaves = λ r from body. cleared;
      tells = same;
      alarms = λ r epoch pieces from body now missing bad. same;
      rebuilds = λ r epoch pieces from body now missing fine n held. absurd (not_both (lists s.missing m.client) missing (nobody_listed s.missing m.client up));
      repeats = λ r body served unacked. same;
      acknowledges = λ r request b a. same;
      lowers = λ r request span keep a n held. inl (if_both (λ (x : Row). Held s c (x.modes c)) (is_slot s.durable.index n && within (span_of s.durable.index n) span) (with_mode (s.rows n) m.client (meet (mode_at s.rows n m.client) keep)) (s.rows n)
          (if_case (Held s c) (nat_eq c m.client) (meet (mode_at s.rows n m.client) keep) (mode_at s.rows n c)
          (λ yes held. subst (HasPart s) (sym (eqb-true c m.client yes)) (holds n (λ none. held (ap (λ g. meet g keep) none ∙ meet_nothing keep))))
          (λ not held. holds n held))
          (λ held. holds n held) held);
      waits = λ r request req point hi g a new free near n held. let w : Waiter = record { client = m.client; req = req; point = point; hi = hi; mode = g } in
          let k = slot_of s.durable.index point in
          inl (holds n (λ none. held (sym (row_modes s.rows k (with_queue (s.rows k) (queue_with (s.rows k) w)) c refl n) ∙ none)));
      judges = λ r request number op seizes o a under near new is n held. let y = writes t m.client op o in
          inl (subst (λ (rows : Rows). Held s c (mode_at rows n c)) (sym (pushes_rows y m.client (push.Answer number o (holding y (slot_of y.durable.index (op_key op)) m.client)))) (written_part s m.client c op o is n) held);
      seizes = λ r request number op seizes a under near new may n held. let x = effects.seizes s m.client op in
          let y = writes (acknowledged x m.client) m.client op outcome.Applied in
          eq_cases c m.client
          (λ own. inr (own, record { known = r; from = a.served.from; request = request; said = a.said; now = a.now }))
          (λ ne. inl (taken_part s m.client c op ne
          (subst (λ (rows : Rows). Held x c (mode_at rows n c)) (sym (pushes_rows y m.client (push.Answer number outcome.Applied (holding y (slot_of y.durable.index (op_key op)) m.client))))
          (written_part x m.client c op outcome.Applied (take_judged s m.client op i under (take_is s m.client op may)) n) held)));
      answers_again = λ r request number op seizes o a under some last is n held.
          inl (subst (λ (rows : Rows). Held s c (mode_at rows n c)) (sym (pushes_rows t m.client (push.Answer number o (holding t (slot_of t.durable.index (op_key op)) m.client)))) (λ held. holds n held) held);
    })
  where
    same : (n : ℕ) → Gets s m c (mode_at s.rows n c)
    same n held = inl (holds n held)

    cleared : (n : ℕ) → Gets s m c (if nat_eq c m.client then mode.N else mode_at s.rows n c)
    cleared n = if_both (Gets s m c) (nat_eq c m.client) mode.N (mode_at s.rows n c) (λ held. absurd (held refl)) (λ held. inl (holds n held))

-- After a message

effect_part : (s : Server) (m : ToServer) (c : ℕ) → IsSound s → is_recovering s.missing ≡ false → HasPart (effect s m (case_of s m)).server c → HasPart s c ⊎ ((c ≡ m.client) × IsAsker s m)
effect_part s m c i up (holds n held) = effect_gets s m c i up n held
effect_part s m c i up (waits n u at own) = ⊎_elim
    (λ (z : (j : ℕ) × In u (s.rows j).queue). inl (waits z.0 u z.1 own))
    (λ (z : (after.asks (case_of s m) ≡ true) × (u.client ≡ m.client) × after.IsAsked m u (case_of s m)). inr (sym own ∙ z.1, asker s m z.0))
    (after.all_came s m i n u at)

turn_part : (s : Server) (t : Turn) (c : ℕ) → next_turn s ≡ Some t → HasPart (answer_first s t).server c → HasPart s c
turn_part s t c e p = eq_cases c t.waiter.client
    (λ f. let x = turn_stands s t e in waits x.slot t.waiter x.at (sym f))
    (λ ne. by_part ne p)
  where
    by_part : c ≢ t.waiter.client → HasPart (answer_first s t).server c → HasPart s c
    by_part ne (holds n held) = holds n (λ none. held (turn_others s t c e ne n ∙ none))
    by_part ne (waits n u at own) = let x = turn_came s t e c u (record { slot = n; at = at; own = own }) in waits x.slot u x.at x.own

answered_part : (s t : Server) (outs : List ToClient) (c : ℕ) → AnswersWaiters s t outs → HasPart t c → HasPart s c
answered_part s t outs c (stops x e) p = p
answered_part s t outs c (goes_on x y turn later e rest) p = turn_part x turn c e (answered_part (answer_first x turn).server y later c rest p)

ends_part : (done : Done) (kind : Following) (t : Server) (outs : List ToClient) (c : ℕ) → Ends done kind t outs → HasPart t c → HasPart done.server c
ends_part done kind t outs c (at_once i) p = p
ends_part done kind t outs c (recovers g) p = p
ends_part done kind t outs c (serves u answers ne up a) p = answered_part done.server u answers c a p

pub step_part : (s t : Server) (m : ToServer) (outs : List ToClient) (c : ℕ) → IsSound s → is_recovering s.missing ≡ false → ServerStep s m t outs → HasPart t c → HasPart s c ⊎ ((c ≡ m.client) × IsAsker s m)
step_part s t m outs c i up step p = effect_part s m c i up (ends_part (effect s m (case_of s m)) (following (case_of s m)) t outs c step p)

-- Records

-- a record of a client that has not left is the record of the same incarnation from before, or a later one
abbrev pub WasIn : Durable → Durable → ℕ → Type 0
WasIn d later c = (x : Record) → record_of later.register c ≡ Some x → x.left ≡ false → ((r : Record) × (record_of d.register c ≡ Some r) × (r.incarnation ≡ x.incarnation) × (r.left ≡ false)) ⊎ (inc_in d c < x.incarnation)

same_record : (d later : Durable) (c : ℕ) → record_of later.register c ≡ record_of d.register c → WasIn d later c
same_record d later c same x e here = inl (x, sym same ∙ e, refl, here)

-- the record of one client is another one
module _ (d later : Durable) (c e : ℕ) (y : Record) (here : record_of later.register c ≡ Some y) (other : e ≢ c → record_of later.register e ≡ record_of d.register e) where
  changed : ((x : Record) → y ≡ x → x.left ≡ false → ((r : Record) × (record_of d.register c ≡ Some r) × (r.incarnation ≡ x.incarnation) × (r.left ≡ false)) ⊎ (inc_in d c < x.incarnation)) → WasIn d later e
  changed h = eq_cases e c
      (λ f. subst (WasIn d later) (sym f) (λ x g stays. h x (same_Some y x (sym here ∙ g)) stays))
      (λ ne. same_record d later e (other ne))

applied_was : (d : Durable) (c e : ℕ) (op : WriteOp) (o : Outcome) (r : Option Record) → record_of d.register c ≡ r → WasIn d (applied_by d c op o r) e
applied_was d c e op o None f = same_record d (applied_by d c op o None) e refl
applied_was d c e op o (Some r) f = changed d (applied_by d c op o (Some r)) c e (noted r o) (record_here d.register c (noted r o)) (record_other d.register c e (noted r o))
    (λ x same here. inl (r, f, ap (λ (z : Record). z.incarnation) same, ap (λ (z : Record). z.left) same ∙ here))

left_was : (d : Durable) (c e : ℕ) (r : Option Record) → record_of d.register c ≡ r → WasIn d (left_by d c r) e
left_was d c e None f = same_record d (left_by d c None) e refl
left_was d c e (Some r) f = changed d (left_by d c (Some r)) c e (record r { left = true }) (record_here d.register c (record r { left = true })) (record_other d.register c e (record r { left = true }))
    (λ x same here. absurd (not_both x.left (sym (ap (λ (z : Record). z.left) same)) here))

effect_was : (s : Server) (m : ToServer) (e : ℕ) → WasIn s.durable (effect s m (case_of s m)).server.durable e
effect_was s m e = let t = acknowledged s m.client in by_said s m (λ k. WasIn s.durable (effect s m k).server.durable e) (record {
  ignored = same;
  registers = λ near newer body. changed s.durable (effect s m Registers).server.durable m.client e (new_record m.incarnation) (record_here s.durable.register m.client (new_record m.incarnation)) (record_other s.durable.register m.client e (new_record m.incarnation))
      (λ x is here. inr (subst (λ n. inc_in s.durable m.client < n) (ap (λ (z : Record). z.incarnation) is) newer));
  leaves = λ r from body. left_was s.durable m.client e (record_of s.durable.register m.client) refl;
  tells = same;
  alarms = λ r epoch pieces from body now missing bad. same;
  rebuilds = λ r epoch pieces from body now missing fine. same;
  repeats = λ r body served unacked. same;
  acknowledges = λ r request b a. same;
  lowers = λ r request span keep a. same;
  waits = λ r request req point hi g a new free near. same;
  judges = λ r request number op seizes o a under near new is. let y = writes t m.client op o in
      subst (λ d. WasIn s.durable d e) (sym (pushes_durable y m.client (push.Answer number o (holding y (slot_of y.durable.index (op_key op)) m.client)))) (applied_was s.durable m.client e op o (record_of s.durable.register m.client) refl);
  seizes = λ r request number op seizes a under near new may. let y = writes (acknowledged (effects.seizes s m.client op) m.client) m.client op outcome.Applied in
      subst (λ d. WasIn s.durable d e) (sym (pushes_durable y m.client (push.Answer number outcome.Applied (holding y (slot_of y.durable.index (op_key op)) m.client)))) (applied_was s.durable m.client e op outcome.Applied (record_of s.durable.register m.client) refl);
  answers_again = λ r request number op seizes o a under some last is.
      subst (λ d. WasIn s.durable d e) (sym (pushes_durable t m.client (push.Answer number o (holding t (slot_of t.durable.index (op_key op)) m.client)))) same;
})
  where
    same : WasIn s.durable s.durable e
    same = same_record s.durable s.durable e refl

pub step_was : (s t : Server) (m : ToServer) (outs : List ToClient) (c : ℕ) → ServerStep s m t outs → WasIn s.durable t.durable c
step_was s t m outs c h = subst (λ d. WasIn s.durable d c) (sym (server_keeps.step_durable s t m outs h)) (effect_was s m c)
