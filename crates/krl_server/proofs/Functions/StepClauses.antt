-- What a step reports of its message: what survives it, whom it calls back, which write it answers.
use Rattle.krl_server.proofs.Names.{◌≡◌, ◌≢◌, ℕ, suc, ◌≤◌, ◌<◌, Bool, true, false, ◌↔◌, Some, None, List, [], ◌∷◌, ◌++◌, ◌⊎◌, inl, inr, refl, sym, ap, subst, ◌∙◌, ⊎_elim, eq-eqb, lt-ltb, le-ltb}
use Rattle.krl_server.proofs.Names.{append-nil, nat_lt, IfSome, Result, Ok, Err, IfOk, OnErr, END, Holding, Outcome, WriteOp, Record, ToServer, ToClient, PushBody, op_key, In, in_both, in_right, slot_of, Durable}
use Rattle.krl_server.proofs.Names.{record_of, front_dropped, reached_slots, granted, asks_absent, State, ServerOut, Server, is_recovering, incarnation_or_0, meaning, Case, Ignored, Registers, Leaves, Tells}
use Rattle.krl_server.proofs.Names.{Alarms, Rebuilds, Repeats, Acknowledges, Lowers, Waits, Judges, SeizesLock, AnswersAgain, case_of, Done, holding, holdings, acknowledged, push_to, pushes, effect, Turn}
use Rattle.krl_server.proofs.Names.{answer_first, tells_absent, grants, AnswersWaiters, stops, goes_on, Following, Nothing, Answers, Calls, following, callbacks_after, Ends, at_once, recovers, serves, ServerStep}
use Rattle.krl_server.proofs.Names.{changes_durable, is_new_write, may_change, may_change_durable, is_callback, IsCallback, HasCallbacks, is_answer, answered_write, IsAnswered, AnswersWrite}
use Rattle.krl_server.proofs.Names.{HasStepped}
use Rattle.krl_messages.specs.declared.to_client.ToClientBody.{ToClientBody}
use Rattle.krl_messages.specs.declared.to_client.ToClientBody.TheVariants as told
use Rattle.krl_messages.specs.declared.to_client.PushBody.TheVariants as push
use Rattle.krl_messages.specs.declared.outcome.Outcome.TheVariants as outcome
use Rattle.krl_server.specs.Effects as effects
use Rattle.krl_modes.proofs.Basics.{not_both}
use Rattle.krl_server.proofs.Tests.{if_both}
use Rattle.krl_server.proofs.Updates.{session_here}
use Rattle.krl_server.proofs.Invariant.AnswersSound.{answered_up}
use Rattle.krl_server.proofs.Outputs.Ends.{pushes_durable}
use Rattle.krl_server.proofs.Invariant.Kept.{ends_durable}
use Rattle.krl_messages.specs.declared.to_server.Request.{Request}
use Rattle.krl_messages.specs.declared.to_server.RequestBody.TheVariants as asked
use Rattle.krl_server.proofs.Cased.{IsAsked, by_said}
use Rattle.krl_server.proofs.Outputs.Says.{all_said}

-- What survives

changes_said : (s : Server) (m : ToServer) → may_change_durable s m ≡ false → changes_durable (case_of s m) ≡ false
changes_said s m = by_said s m (λ k. may_change_durable s m ≡ false → changes_durable k ≡ false)
    (record {
      ignored = λ no. refl;
      registers = λ near newer said no. absurd (not_both (may_change_durable s m) (ap (may_change (record_of s.durable.register m.client)) said) no);
      leaves = λ r from said no. absurd (not_both (may_change_durable s m) (ap (may_change (record_of s.durable.register m.client)) said) no);
      tells = λ no. refl;
      alarms = λ r epoch pieces from said now missing bad no. refl;
      rebuilds = λ r epoch pieces from said now missing fine no. refl;
      repeats = λ r body served unacked no. refl;
      acknowledges = λ r request b a no. refl;
      lowers = λ r request span keep a no. refl;
      waits = λ r request req point hi g a new free near no. refl;
      judges = λ r request number op seizes o a under near new is no. absurd (not_both (may_change_durable s m) (new_write r request number op seizes a new) no);
      seizes = λ r request number op seizes a under near new may no. absurd (not_both (may_change_durable s m) (new_write r request number op seizes a new) no);
      answers_again = λ r request number op seizes o a under some last is no. refl;
    })
  where
    new_write : (r : Record) (request : Request) (number : ℕ) (op : WriteOp) (seizes : Bool) → IsAsked s m r request (asked.Write number op seizes) → number ≡ suc r.last → may_change_durable s m ≡ true
    new_write r request number op seizes a new =
        ap (λ x. may_change x m.body) a.served.from.known
        ∙ ap (may_change (Some r)) a.said
        ∙ ap (is_new_write (Some r)) a.asked
        ∙ eq-eqb number (suc r.last) new

-- Whatever became of it, a message that is no Hello, no Bye and no new write leaves what survives
pub durable_said : {E : Type 0} (old new : State) (m : ToServer) (r : Result ServerOut E) → IfOk r (λ out. HasStepped (meaning old) m (meaning new) out) → OnErr r (new ≡ old) → may_change_durable (meaning old) m ≡ false → (meaning new).durable ≡ (meaning old).durable
durable_said old new m (Ok out) stepped refused other = all_said.durable (meaning old) (meaning new) m out.messages (changes_said (meaning old) m other) stepped.step
durable_said old new m (Err e) stepped refused other = ap (λ x. (meaning x).durable) refused

-- Messages that none of a list are

abbrev NoneIs : (ToClientBody → Bool) → List ToClient → Type 0
NoneIs f outs = (o : ToClient) → In o outs → f o.body ≡ false

module _ (f : ToClientBody → Bool) where
  one_is : (p : ToClient) → f p.body ≡ false → NoneIs f (p ∷ [])
  one_is p e o (inl g) = ap (λ (x : ToClient). f x.body) g ∙ e
  one_is p e o (inr at) = absurd at

  both_are : (xs ys : List ToClient) → NoneIs f xs → NoneIs f ys → NoneIs f (xs ++ ys)
  both_are xs ys h k o at = ⊎_elim (λ (x : In o xs). h o x) (λ (y : In o ys). k o y) (in_both xs ys o at)

  none_pushed : (s : Server) (c : ℕ) (body : PushBody) → ((epoch number : ℕ) → f (told.Push epoch number body) ≡ false) → NoneIs f (pushes s c body).outs
  none_pushed s c body h = if_both (λ (x : Done). NoneIs f x.outs) (nat_lt (s.sessions c).last_push END) _ _ (one_is _ (h s.durable.epoch (suc (s.sessions c).last_push))) (λ o at. absurd at)

  module _ (grant : (epoch number req : ℕ) (hs : List Holding) → f (told.Push epoch number (push.Grant req hs)) ≡ false) (absent : (epoch number req point : ℕ) → f (told.Push epoch number (push.Absent req point)) ≡ false) where
    none_turned : (s : Server) (t : Turn) → NoneIs f (answer_first s t).outs
    none_turned s t = if_both (λ (x : Done). NoneIs f x.outs) (asks_absent s.durable.index t.waiter) (tells_absent s t) (grants s t)
        (none_pushed (effects.with_rows s (front_dropped s.rows t.slot)) t.waiter.client (push.Absent t.waiter.req t.waiter.point) (λ epoch number. absent epoch number t.waiter.req t.waiter.point))
        (let g = effects.with_rows s (granted s.durable.reach s.durable.index s.rows t.slot) in
        none_pushed g t.waiter.client (push.Grant t.waiter.req (holdings g t.waiter.client (reached_slots s.durable.reach s.durable.index s.rows t.slot))) (λ epoch number. grant epoch number t.waiter.req (holdings g t.waiter.client (reached_slots s.durable.reach s.durable.index s.rows t.slot))))

    none_answered : (s t : Server) (outs : List ToClient) → AnswersWaiters s t outs → NoneIs f outs
    none_answered s t outs (stops s' e) = λ o at. absurd at
    none_answered s t outs (goes_on s' t' turn later e rest) = both_are (answer_first s turn).outs later (none_turned s turn) (none_answered (answer_first s turn).server t later rest)

no_calls_answered : (s t : Server) (outs : List ToClient) → AnswersWaiters s t outs → NoneIs is_callback outs
no_calls_answered = none_answered is_callback (λ epoch number req h. refl) (λ epoch number req point. refl)

no_answers_answered : (s t : Server) (outs : List ToClient) → AnswersWaiters s t outs → NoneIs is_answer outs
no_answers_answered = none_answered is_answer (λ epoch number req h. refl) (λ epoch number req point. refl)

-- Callbacks

-- a case calls nobody back itself
no_own_calls : (s : Server) (m : ToServer) (k : Case) → NoneIs is_callback (effect s m k).outs
no_own_calls s m Ignored = λ o at. absurd at
no_own_calls s m Registers = one_is is_callback _ refl
no_own_calls s m Leaves = λ o at. absurd at
no_own_calls s m Tells = one_is is_callback _ refl
no_own_calls s m Alarms = λ o at. absurd at
no_own_calls s m (Rebuilds pieces) = λ o at. absurd at
no_own_calls s m (Repeats body) = one_is is_callback _ refl
no_own_calls s m Acknowledges = λ o at. absurd at
no_own_calls s m (Lowers span keep) = λ o at. absurd at
no_own_calls s m (Waits req point hi g) = λ o at. absurd at
no_own_calls s m (Judges number op o) = let t = effects.writes (acknowledged s m.client) m.client op o in none_pushed is_callback t m.client (push.Answer number o (holding t (slot_of t.durable.index (op_key op)) m.client)) (λ epoch number. refl)
no_own_calls s m (SeizesLock number op) = let t = effects.writes (acknowledged (effects.seizes s m.client op) m.client) m.client op outcome.Applied in none_pushed is_callback t m.client (push.Answer number outcome.Applied (holding t (slot_of t.durable.index (op_key op)) m.client)) (λ epoch number. refl)
no_own_calls s m (AnswersAgain number op o) = let t = acknowledged s m.client in none_pushed is_callback t m.client (push.Answer number o (holding t (slot_of t.durable.index (op_key op)) m.client)) (λ epoch number. refl)

called : (t : Server) (o : ToClient) → IsCallback t o → is_callback o.body ≡ true
called t o x = ap (λ (y : ToClient). is_callback y.body) x.4

no_calls_of : (k : Following) (t : Server) → (k ≢ Calls) ⊎ (is_recovering t.missing ≡ true) → is_recovering t.missing ≡ false → NoneIs is_callback (callbacks_after k t)
no_calls_of Nothing t why up = λ o at. absurd at
no_calls_of Answers t why up = λ o at. absurd at
no_calls_of Calls t why up = absurd (⊎_elim (λ (ne : Calls ≢ Calls). ne refl) (λ (g : is_recovering t.missing ≡ true). not_both (is_recovering t.missing) g up) why)

no_calls : (done : Done) (kind : Following) (t : Server) (outs : List ToClient) → Ends done kind t outs → NoneIs is_callback done.outs → (kind ≢ Calls) ⊎ (is_recovering t.missing ≡ true) → NoneIs is_callback outs
no_calls done kind t outs (at_once e) own why = own
no_calls done kind t outs (recovers g) own why = own
no_calls done kind t outs (serves t' answers acted up rest) own why =
    both_are is_callback done.outs (answers ++ callbacks_after kind t) own
    (both_are is_callback answers (callbacks_after kind t) (no_calls_answered done.server t answers rest) (no_calls_of kind t why (answered_up done.server t answers rest up)))

the_calls : (done : Done) (kind : Following) (t : Server) (outs : List ToClient) → Ends done kind t outs → NoneIs is_callback done.outs → kind ≡ Calls → is_recovering t.missing ≡ false → (o : ToClient) → (In o outs × (is_callback o.body ≡ true)) ↔ IsCallback t o
the_calls done kind t outs (at_once e) own acts up o = absurd (let bad : Nothing ≡ Calls = sym e ∙ acts in cc)
the_calls done kind t outs (recovers g) own acts up o = absurd (not_both (is_recovering done.server.missing) g up)
the_calls done kind t outs (serves t' answers acted begun rest) own acts up o = (
  (λ x. ⊎_elim
      (λ (y : In o done.outs). absurd (not_both (is_callback o.body) x.1 (own o y)))
      (λ (y : In o (answers ++ callbacks_after kind t)). ⊎_elim
      (λ (z : In o answers). absurd (not_both (is_callback o.body) x.1 (no_calls_answered done.server t answers rest o z)))
      (λ (z : In o (callbacks_after kind t)). (all_said.callbacks t o).0 (subst (λ k. In o (callbacks_after k t)) acts z))
      (in_both answers (callbacks_after kind t) o y))
      (in_both done.outs (answers ++ callbacks_after kind t) o x.0)),
  (λ x. (in_right done.outs (answers ++ callbacks_after kind t) o (in_right answers (callbacks_after kind t) o (subst (λ k. In o (callbacks_after k t)) (sym acts) ((all_said.callbacks t o).1 x))), called t o x)),
)

pub calls_said : (s t : Server) (m : ToServer) (outs : List ToClient) → ServerStep s m t outs → HasCallbacks s m t outs
calls_said s t m outs step =
    let done = effect s m (case_of s m) in
    let own = no_own_calls s m (case_of s m) in
    record {
      exactly = λ acts up o. the_calls done (following (case_of s m)) t outs step own acts up o;
      none = λ why. no_calls done (following (case_of s m)) t outs step own why;
    }

-- Answers to writes

-- what is sent after a case's own messages answers no write
pub record HasRest (t : Server) (own outs : List ToClient) : Type 0 where
  pub rest : List ToClient
  pub all : outs ≡ own ++ rest
  pub none : NoneIs is_answer rest

no_answer_of : (k : Following) (t : Server) → NoneIs is_answer (callbacks_after k t)
no_answer_of Nothing t = λ o at. absurd at
no_answer_of Answers t = λ o at. absurd at
no_answer_of Calls t = λ o at. let x = (all_said.callbacks t o).0 at in ap (λ (y : ToClient). is_answer y.body) x.4

rest_of : (done : Done) (kind : Following) (t : Server) (outs : List ToClient) → Ends done kind t outs → HasRest t done.outs outs
rest_of done kind t outs (at_once e) = record { rest = []; all = sym (append-nil done.outs); none = λ o at. absurd at }
rest_of done kind t outs (recovers g) = record { rest = []; all = sym (append-nil done.outs); none = λ o at. absurd at }
rest_of done kind t outs (serves t' answers acted up rest) = record {
  rest = answers ++ callbacks_after kind t;
  all = refl;
  none = both_are is_answer answers (callbacks_after kind t) (no_answers_answered done.server t answers rest) (no_answer_of kind t);
}

-- a push, by what survives
abbrev pushed_by : Durable → ℕ → ℕ → PushBody → ToClient
pushed_by d c number body = record { client = c; incarnation = incarnation_or_0 (record_of d.register c); body = told.Push d.epoch number body }

-- the case answers the write by a push from the server x, if as many were made as in s
module _ (s x : Server) (c : ℕ) (number : ℕ) (o : Outcome) (h : Holding) (same : (x.sessions c).last_push ≡ (s.sessions c).last_push) where
  pushed_once : (s.sessions c).last_push < END → (pushes x c (push.Answer number o h)).outs ≡ push_to x c (suc (s.sessions c).last_push) (push.Answer number o h) ∷ []
  pushed_once lt = subst (λ n. (pushes x c (push.Answer number o h)).outs ≡ push_to x c (suc n) (push.Answer number o h) ∷ []) same
      (rw (lt-ltb (x.sessions c).last_push END (subst (λ n. n < END) (sym same) lt)) refl)

  pushed_never : END ≤ (s.sessions c).last_push → (pushes x c (push.Answer number o h)).outs ≡ []
  pushed_never le = rw (le-ltb (x.sessions c).last_push END (subst (λ n. END ≤ n) (sym same) le)) refl

  answered_so : (kind : Following) (t : Server) (outs : List ToClient) → Ends (pushes x c (push.Answer number o h)) kind t outs → IsAnswered s c t outs (number, o)
  answered_so kind t outs ends =
      let a = push.Answer number o h in
      let r = rest_of (pushes x c a) kind t outs ends in
      record {
        once = λ lt. record {
          holding = h;
          others = r.rest;
          first = r.all ∙ ap (λ l. l ++ r.rest) (pushed_once lt) ∙ ap (λ d. pushed_by d c (suc (s.sessions c).last_push) a ∷ r.rest) (sym (ends_durable (pushes x c a) kind t outs ends ∙ pushes_durable x c a));
          no_other = r.none;
        };
        spent = λ le. subst (NoneIs is_answer) (sym (r.all ∙ ap (λ l. l ++ r.rest) (pushed_never le))) r.none;
      }

acknowledged_pushed : (s : Server) (c : ℕ) → ((acknowledged s c).sessions c).last_push ≡ (s.sessions c).last_push
acknowledged_pushed s c = ap (λ y. y.last_push) (session_here s.sessions c (record (s.sessions c) { unacked = None }))

answers_of : (s t : Server) (m : ToServer) (outs : List ToClient) (k : Case) → Ends (effect s m k) (following k) t outs → IfSome (answered_write k) (IsAnswered s m.client t outs)
answers_of s t m outs Ignored ends = tt
answers_of s t m outs Registers ends = tt
answers_of s t m outs Leaves ends = tt
answers_of s t m outs Tells ends = tt
answers_of s t m outs Alarms ends = tt
answers_of s t m outs (Rebuilds pieces) ends = tt
answers_of s t m outs (Repeats body) ends = tt
answers_of s t m outs Acknowledges ends = tt
answers_of s t m outs (Lowers span keep) ends = tt
answers_of s t m outs (Waits req point hi g) ends = tt
answers_of s t m outs (Judges number op o) ends =
    let x = effects.writes (acknowledged s m.client) m.client op o in
    answered_so s x m.client number o (holding x (slot_of x.durable.index (op_key op)) m.client) (acknowledged_pushed s m.client) Calls t outs ends
answers_of s t m outs (SeizesLock number op) ends =
    let x = effects.writes (acknowledged (effects.seizes s m.client op) m.client) m.client op outcome.Applied in
    answered_so s x m.client number outcome.Applied (holding x (slot_of x.durable.index (op_key op)) m.client) (acknowledged_pushed s m.client) Calls t outs ends
answers_of s t m outs (AnswersAgain number op o) ends =
    let x = acknowledged s m.client in
    answered_so s x m.client number o (holding x (slot_of x.durable.index (op_key op)) m.client) (acknowledged_pushed s m.client) Calls t outs ends

pub answers_said : (s t : Server) (m : ToServer) (outs : List ToClient) → ServerStep s m t outs → AnswersWrite s m t outs
answers_said s t m outs step = answers_of s t m outs (case_of s m) step
