-- Each push that a step sends is the last one to its client, and not acknowledged yet.
use Rattle.krl_server.proofs.Names.{◌≡◌, ◌≢◌, ℕ, suc, not, ◌||◌, Some, None, List, [], ◌∷◌, ◌++◌, inl, inr, refl, sym, ap, subst, ◌∙◌, ⊎_elim, append_assoc, append-nil, and_parts, none-some, nat_lt}
use Rattle.krl_server.proofs.Names.{is_some, END, ToServer, ToClient, PushBody, op_key, In, in_both, slot_of, front_dropped, granted, asks_absent, is_wanted_compatible, Session, Server, case_of, Done}
use Rattle.krl_server.proofs.Names.{holding, acknowledged, pushes, effect, callbacks, can_push, Turn, next_turn, answer_first, tells_absent, grants, AnswersWaiters, stops, goes_on, Following, Nothing, Answers, Calls}
use Rattle.krl_server.proofs.Names.{following, callbacks_after, Ends, at_once, recovers, serves, ServerStep, PushesStand}
use Rattle.krl_messages.specs.declared.to_client.ToClientBody.TheVariants as told
use Rattle.krl_messages.specs.declared.to_client.PushBody.TheVariants as push
use Rattle.krl_messages.specs.declared.outcome.Outcome.TheVariants as outcome
use Rattle.krl_server.specs.Effects as effects
use Rattle.krl_server.proofs.Tests.{if_both, none_of}
use Rattle.krl_server.proofs.Updates.{session_here, session_other}
use Rattle.krl_server.proofs.Turns.{turn_is}
use Rattle.krl_server.proofs.Cased.{by_said}
use Rattle.krl_server.proofs.Outputs.Says.{all_said}

-- One message

-- a push with the number and the body of its client's session
one_stands : (t : Server) (c epoch inc n : ℕ) (a : PushBody) → (t.sessions c).last_push ≡ n → (t.sessions c).unacked ≡ Some a → PushesStand t (record { client = c; incarnation = inc; body = told.Push epoch n a } ∷ [])
one_stands t c epoch inc n a last_push unacked o e number body (inl f) is =
    let same : told.Push epoch n a ≡ told.Push e number body = sym (ap (λ (y : ToClient). y.body) f) ∙ is in
    let here : o.client ≡ c = ap (λ (y : ToClient). y.client) f in
    let numbers : n ≡ number = cc in
    let bodies : a ≡ body = cc in
    (ap (λ d. (t.sessions d).last_push) here ∙ last_push ∙ numbers, ap (λ d. (t.sessions d).unacked) here ∙ unacked ∙ ap (λ b. Some b) bodies)
one_stands t c epoch inc n a last_push unacked o e number body (inr at) is = absurd at

none_stand : (t : Server) → PushesStand t []
none_stand t o e number body at is = absurd at

both_stand : (t : Server) (xs ys : List ToClient) → PushesStand t xs → PushesStand t ys → PushesStand t (xs ++ ys)
both_stand t xs ys h k o e number body at is = ⊎_elim (λ (x : In o xs). h o e number body x is) (λ (y : In o ys). k o e number body y is) (in_both xs ys o at)

no_push : (epoch e number : ℕ) (body : PushBody) → told.Epoch epoch ≡ told.Push e number body → ⊥
no_push epoch e number body f = absurd (cc)

epoch_stands : (t : Server) (c inc epoch : ℕ) → PushesStand t (record { client = c; incarnation = inc; body = told.Epoch epoch } ∷ [])
epoch_stands t c inc epoch o e number body (inl f) is = absurd (no_push epoch e number body (sym (ap (λ (y : ToClient). y.body) f) ∙ is))
epoch_stands t c inc epoch o e number body (inr at) is = absurd at

-- the next push is the last one then
pushed_stands : (s : Server) (c : ℕ) (a : PushBody) → PushesStand (pushes s c a).server (pushes s c a).outs
pushed_stands s c a =
    let session : Session = record (s.sessions c) { last_push = suc (s.sessions c).last_push; unacked = Some a } in
    if_both (λ (x : Done). PushesStand x.server x.outs) (nat_lt (s.sessions c).last_push END) _ _
    (one_stands (effects.with_session s c session) c s.durable.epoch _ (suc (s.sessions c).last_push) a (ap (λ y. y.last_push) (session_here s.sessions c session)) (ap (λ y. y.unacked) (session_here s.sessions c session)))
    (none_stand s)

-- Answers to waiters

others_pushed : (s : Server) (c : ℕ) (a : PushBody) (d : ℕ) → d ≢ c → (pushes s c a).server.sessions d ≡ s.sessions d
others_pushed s c a d ne = if_both (λ (x : Done). x.server.sessions d ≡ s.sessions d) (nat_lt (s.sessions c).last_push END) _ _ (session_other s.sessions c d _ ne) refl

others_turned : (s : Server) (t : Turn) (d : ℕ) → d ≢ t.waiter.client →
    (answer_first s t).server.sessions d ≡ s.sessions d
others_turned s t d ne = if_both (λ (x : Done). x.server.sessions d ≡ s.sessions d) (asks_absent s.durable.index t.waiter) (tells_absent s t) (grants s t)
    (others_pushed (effects.with_rows s (front_dropped s.rows t.slot)) t.waiter.client _ d ne)
    (others_pushed (effects.with_rows s (granted s.durable.reach s.durable.index s.rows t.slot)) t.waiter.client _ d ne)

turned_stands : (s : Server) (t : Turn) → PushesStand (answer_first s t).server (answer_first s t).outs
turned_stands s t = if_both (λ (x : Done). PushesStand x.server x.outs) (asks_absent s.durable.index t.waiter) (tells_absent s t) (grants s t)
    (pushed_stands (effects.with_rows s (front_dropped s.rows t.slot)) t.waiter.client _)
    (pushed_stands (effects.with_rows s (granted s.durable.reach s.durable.index s.rows t.slot)) t.waiter.client _)

-- a client that is answered has acknowledged every push
all_acknowledged : (s : Server) (t : Turn) → next_turn s ≡ Some t → (s.sessions t.waiter.client).unacked ≡ None
all_acknowledged s t e =
    let session = s.sessions t.waiter.client in
    let can = (and_parts (can_push session) (asks_absent s.durable.index t.waiter || is_wanted_compatible s.rows t.slot t.waiter) (turn_is s t e).answerable).0 in
    none_of session.unacked (and_parts (not (is_some session.unacked)) (nat_lt session.last_push END) can).0

-- so an answer leaves the pushes that stand
still_stand : (s : Server) (t : Turn) (outs : List ToClient) → next_turn s ≡ Some t → PushesStand s outs → PushesStand (answer_first s t).server outs
still_stand s t outs next h o e number body at is =
    let x = h o e number body at is in
    let ne : o.client ≢ t.waiter.client = λ f. none-some body (sym (ap (λ d. (s.sessions d).unacked) f ∙ all_acknowledged s t next) ∙ x.1) in
    let same = others_turned s t o.client ne in
    (ap (λ y. y.last_push) same ∙ x.0, ap (λ y. y.unacked) same ∙ x.1)

answered_stand : (s t : Server) (outs own : List ToClient) → AnswersWaiters s t outs → PushesStand s own → PushesStand t (own ++ outs)
answered_stand s t outs own (stops s' e) h = subst (PushesStand s) (sym (append-nil own)) h
answered_stand s t outs own (goes_on s' t' turn later e rest) h =
    subst (PushesStand t) (append_assoc own (answer_first s turn).outs later)
    (answered_stand (answer_first s turn).server t later (own ++ (answer_first s turn).outs) rest
    (both_stand (answer_first s turn).server own (answer_first s turn).outs (still_stand s turn own e h) (turned_stands s turn)))

-- Callbacks are no pushes

called_stand : (t : Server) → PushesStand t (callbacks t)
called_stand t o e number body at is =
    let x = (all_said.callbacks t o).0 at in
    let bad = sym (ap (λ (y : ToClient). y.body) x.4) ∙ is in
    absurd (cc)

callbacks_stand : (k : Following) (t : Server) → PushesStand t (callbacks_after k t)
callbacks_stand Nothing t = none_stand t
callbacks_stand Answers t = none_stand t
callbacks_stand Calls t = called_stand t

-- Cases

own_stands : (s : Server) (m : ToServer) → PushesStand (effect s m (case_of s m)).server (effect s m (case_of s m)).outs
own_stands s m = let t = acknowledged s m.client in
    by_said s m (λ k. PushesStand (effect s m k).server (effect s m k).outs)
    (record {
      ignored = none_stand s;
      registers = λ near newer said. epoch_stands (effects.registers s m.client m.incarnation) m.client _ _;
      leaves = λ r from said. none_stand (effects.departs s m.client);
      tells = epoch_stands s m.client _ _;
      alarms = λ r epoch pieces from said now missing bad. none_stand s;
      rebuilds = λ r epoch pieces from said now missing fine. none_stand (effects.adopts s m.client pieces);
      repeats = λ r body served unacked. one_stands s m.client s.durable.epoch _ (s.sessions m.client).last_push body refl unacked;
      acknowledges = λ r request b a. none_stand t;
      lowers = λ r request span keep a. none_stand (effects.lowers t m.client span keep);
      waits = λ r request req point hi g a new free near. none_stand (effects.queues t (record { client = m.client; req = req; point = point; hi = hi; mode = g }));
      judges = λ r request number op seizes o a under near new is. let x = effects.writes t m.client op o in
          pushed_stands x m.client (push.Answer number o (holding x (slot_of x.durable.index (op_key op)) m.client));
      seizes = λ r request number op seizes a under near new may. let x = effects.writes (acknowledged (effects.seizes s m.client op) m.client) m.client op outcome.Applied in
          pushed_stands x m.client (push.Answer number outcome.Applied (holding x (slot_of x.durable.index (op_key op)) m.client));
      answers_again = λ r request number op seizes o a under some last is. pushed_stands t m.client (push.Answer number o (holding t (slot_of t.durable.index (op_key op)) m.client));
    })

ends_stand : (done : Done) (kind : Following) (t : Server) (outs : List ToClient) → Ends done kind t outs → PushesStand done.server done.outs → PushesStand t outs
ends_stand done kind t outs (at_once e) h = h
ends_stand done kind t outs (recovers g) h = h
ends_stand done kind t outs (serves t' answers acted up rest) h =
    subst (PushesStand t) (append_assoc done.outs answers (callbacks_after kind t))
    (both_stand t (done.outs ++ answers) (callbacks_after kind t) (answered_stand done.server t answers done.outs rest h) (callbacks_stand kind t))

pub pushes_stand : (s t : Server) (m : ToServer) (outs : List ToClient) → ServerStep s m t outs → PushesStand t outs
pushes_stand s t m outs step = ends_stand (effect s m (case_of s m)) (following (case_of s m)) t outs step (own_stands s m)
