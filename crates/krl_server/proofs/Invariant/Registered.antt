-- Whoever waits is registered and has not left.
use Rattle.krl_server.proofs.Names.{◌≡◌, ◌≢◌, ℕ, true, false, List, [], ◌∷◌, ◌⊎◌, inl, inr, refl, sym, subst, ◌∙◌, ⊎_elim, ToServer, ToClient, op_key, In, Waiter, eq_cases, Record, slot_of, Register}
use Rattle.krl_server.proofs.Names.{Durable, with_record, new_record, left_by, noted, applied_by, Row, Rows, set_row, with_queue, grant_first, behind_first, front_dropped, cleared, granted, asks_absent}
use Rattle.krl_server.proofs.Names.{in_unqueue, Server, Case, Rebuilds, Lowers, Waits, Judges, SeizesLock, AnswersAgain, case_of, Done, acknowledged, effect, Turn, answer_first, tells_absent, grants, AnswersWaiters}
use Rattle.krl_server.proofs.Names.{stops, goes_on, Following, following, Ends, at_once, recovers, serves, ServerStep, IsSound, IsRegistered, AreRegistered}
use Rattle.krl_messages.specs.declared.to_client.PushBody.TheVariants as push
use Rattle.krl_messages.specs.declared.outcome.Outcome.TheVariants as outcome
use Rattle.krl_server.specs.Effects as effects
use Rattle.krl_server.proofs.Updates.{record_here, record_other}
use Rattle.krl_server.proofs.Tests.{if_both}
use Rattle.krl_server.proofs.Cased.{IsFrom, by_case}
use Rattle.krl_server.proofs.Grants.{granted_queue}
use Rattle.krl_server.proofs.Turns.{in_row}
use Rattle.krl_server.proofs.Outputs.Ends.{pushes_rows, pushes_durable, turn_durable}
use Rattle.krl_server.proofs.Invariant.WaitersAfter.{asks, IsAsked, Came, all_came}

-- Registers

-- a client's other record leaves the others where they are
other_here : (es : Register) (c d : ℕ) (x : Record) → d ≢ c → IsRegistered es d → IsRegistered (with_record es c x) d
other_here es c d x ne h = (h.0, record_other es c d x ne ∙ h.1, h.2)

-- and so it does its own, if it has not left
with_here : (es : Register) (c d : ℕ) (x : Record) → x.left ≡ false → IsRegistered es d →
    IsRegistered (with_record es c x) d
with_here es c d x here h = eq_cases d c
    (λ e. subst (IsRegistered (with_record es c x)) (sym e) (x, record_here es c x, here))
    (λ ne. other_here es c d x ne h)

-- Answers

behind_in : (us : List Waiter) (u : Waiter) → In u (behind_first us) → In u us
behind_in [] u at = absurd at
behind_in (v ∷ us) u at = inr at

granted_in : (row : Row) (us : List Waiter) (u : Waiter) → In u (grant_first row us).queue → In u us ⊎ In u row.queue
granted_in row [] u at = inr at
granted_in row (v ∷ us) u at = inl (inr at)

row_came : (rows : Rows) (n : ℕ) (row : Row) → ((u : Waiter) → In u row.queue → In u (rows n).queue) → (m : ℕ) (u : Waiter) → In u (set_row rows n row m).queue → In u (rows m).queue
row_came rows n row less m u at = ⊎_elim
    (λ (x : (m ≡ n) × In u row.queue). subst (λ y. In u (rows y).queue) (sym x.0) (less u x.1))
    (λ (old : In u (rows m).queue). old)
    (in_row rows n row m u at)

-- a client that waits after an answer waited before
turn_came : (s : Server) (t : Turn) (m : ℕ) (u : Waiter) → In u ((answer_first s t).server.rows m).queue → In u (s.rows m).queue
turn_came s t m u = if_both (λ (x : Done). In u (x.server.rows m).queue → In u (s.rows m).queue) (asks_absent s.durable.index t.waiter) (tells_absent s t) (grants s t)
    (λ at. row_came s.rows t.slot (with_queue (s.rows t.slot) (behind_first (s.rows t.slot).queue)) (behind_in (s.rows t.slot).queue) m u
    (subst (λ (r : Rows). In u (r m).queue) (pushes_rows (effects.with_rows s (front_dropped s.rows t.slot)) t.waiter.client _) at))
    (λ at. row_came s.rows t.slot (grant_first (s.rows t.slot) (s.rows t.slot).queue)
    (λ v x. ⊎_elim (λ (y : In v (s.rows t.slot).queue). y) (λ (y : In v (s.rows t.slot).queue). y) (granted_in (s.rows t.slot) (s.rows t.slot).queue v x)) m u
    (subst (In u) (granted_queue s.durable.reach s.durable.index s.rows t.slot m) (subst (λ (r : Rows). In u (r m).queue) (pushes_rows (effects.with_rows s (granted s.durable.reach s.durable.index s.rows t.slot)) t.waiter.client _) at)))

turn_here : (s : Server) (t : Turn) → AreRegistered s → AreRegistered (answer_first s t).server
turn_here s t h n u at = subst (λ (d : Durable). IsRegistered d.register u.client) (sym (turn_durable s t)) (h n u (turn_came s t n u at))

answered_here : (s t : Server) (outs : List ToClient) → AnswersWaiters s t outs → AreRegistered s → AreRegistered t
answered_here s t outs (stops s' e) h = h
answered_here s t outs (goes_on s' t' turn later e rest) h = answered_here (answer_first s turn).server t later rest (turn_here s turn h)

-- Cases

module _ (s : Server) (m : ToServer) (h : AreRegistered s) where
  -- if what survives stays
  same_here : (k : Case) (r : Record) → IsFrom s m r → (effect s m k).server.durable ≡ s.durable → Came s m k → AreRegistered (effect s m k).server
  same_here k r from same came n u at = subst (λ (d : Durable). IsRegistered d.register u.client) (sym same) (⊎_elim
      (λ (old : (j : ℕ) × In u (s.rows j).queue). h old.0 u old.1)
      (λ (new : (asks k ≡ true) × (u.client ≡ m.client) × IsAsked m u k). subst (IsRegistered s.durable.register) (sym new.1) (r, from.known, from.here))
      (came n u at))

  -- a client that waits after the sender's waiter is taken away is another one, whose record stays
  cleared_here : (x : Record) (n : ℕ) (u : Waiter) → In u (cleared s.rows m.client n).queue → IsRegistered (with_record s.durable.register m.client x) u.client
  cleared_here x n u at = let y = in_unqueue (s.rows n).queue m.client u at in other_here s.durable.register m.client u.client x y.1 (h n u y.0)

  effect_here : IsSound s → AreRegistered (effect s m (case_of s m)).server
  effect_here sound = let t = acknowledged s m.client in
      by_case s m (λ k. Came s m k → AreRegistered (effect s m k).server)
      (record {
        ignored = λ came. h;
        registers = λ near newer body came. cleared_here (new_record m.incarnation);
        leaves = λ r from came. subst (λ o. AreRegistered (record (effects.departs s m.client) { durable = left_by s.durable m.client o })) (sym from.known) (cleared_here (record r { left = true }));
        tells = λ came. h;
        alarms = λ came. h;
        rebuilds = λ r epoch pieces from now missing fine. same_here (Rebuilds pieces) r from refl;
        repeats = λ r body served unacked came. h;
        acknowledges = λ r served came. h;
        lowers = λ r span keep served. same_here (Lowers span keep) r served.from refl;
        waits = λ r req point hi g served new free near. same_here (Waits req point hi g) r served.from refl;
        judges = λ r number op o served under near new is came n u at. let x = effects.writes t m.client op o in
            subst (λ (d : Durable). IsRegistered d.register u.client) (sym (pushes_durable x m.client (push.Answer number o (effects.holding x (slot_of x.durable.index (op_key op)) m.client))))
            (subst (λ y. IsRegistered (applied_by s.durable m.client op o y).register u.client) (sym served.from.known)
            (with_here s.durable.register m.client u.client (noted r o) served.from.here (⊎_elim
            (λ (old : (j : ℕ) × In u (s.rows j).queue). h old.0 u old.1)
            (λ (new : (asks (Judges number op o) ≡ true) × (u.client ≡ m.client) × IsAsked m u (Judges number op o)). subst (IsRegistered s.durable.register) (sym new.1) (r, served.from.known, served.from.here))
            (came n u at))));
        seizes = λ r number op served under near new may came n u at. let x = effects.writes (acknowledged (effects.seizes s m.client op) m.client) m.client op outcome.Applied in
            subst (λ (d : Durable). IsRegistered d.register u.client) (sym (pushes_durable x m.client (push.Answer number outcome.Applied (effects.holding x (slot_of x.durable.index (op_key op)) m.client))))
            (subst (λ y. IsRegistered (applied_by s.durable m.client op outcome.Applied y).register u.client) (sym served.from.known)
            (with_here s.durable.register m.client u.client (noted r outcome.Applied) served.from.here (⊎_elim
            (λ (old : (j : ℕ) × In u (s.rows j).queue). h old.0 u old.1)
            (λ (new : (asks (SeizesLock number op) ≡ true) × (u.client ≡ m.client) × IsAsked m u (SeizesLock number op)). subst (IsRegistered s.durable.register) (sym new.1) (r, served.from.known, served.from.here))
            (came n u at))));
        answers_again = λ r number op o served under some last is. same_here (AnswersAgain number op o) r served.from (pushes_durable t m.client (push.Answer number o (effects.holding t (slot_of t.durable.index (op_key op)) m.client)));
      })
      (all_came s m sound)

ends_here : (done : Done) (kind : Following) (t : Server) (outs : List ToClient) → Ends done kind t outs → AreRegistered done.server → AreRegistered t
ends_here done kind t outs (at_once e) h = h
ends_here done kind t outs (recovers e) h = h
ends_here done kind t outs (serves t' answers a b c) h = answered_here done.server t answers c h

pub step_here : (s t : Server) (m : ToServer) (outs : List ToClient) → IsSound s → AreRegistered s → ServerStep s m t outs → AreRegistered t
step_here s t m outs sound h step = ends_here (effect s m (case_of s m)) (following (case_of s m)) t outs step (effect_here s m h sound)
