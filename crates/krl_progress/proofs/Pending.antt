-- A push that is on its way is one that its client waits for, and what a server does keeps that.
use Rattle.krl_progress.proofs.Names.{◌≡◌, ℕ, suc, ◌≤◌, ◌∙◌, true, Some, None, is_some, Bool, List, sym, ap, subst, arith, nat_lt, eq_cases, eqb-true, same_Some, END}
use Rattle.krl_progress.proofs.Names.{ToServer, ToClient, Client, Record, Server, Durable, Case, Registers, Leaves, Acknowledges, Lowers, Waits, Judges, SeizesLock, AnswersAgain, case_of, Done, effect, acknowledged, writes, pushes, Turn, next_turn, answer_first, AnswersWaiters, stops, goes_on, Following, following, Ends, at_once, recovers, serves, ServerStep}
use Rattle.krl_messages.specs.declared.to_server.ToServerBody.TheVariants as said
use Rattle.krl_messages.specs.declared.to_server.Request.{Request}
use Rattle.krl_messages.specs.declared.outcome.Outcome.TheVariants as outcome
use Rattle.krl_messages.specs.declared.to_client.PushBody.{PushBody}
use Rattle.krl_messages.specs.declared.to_client.PushBody.TheVariants as push
use Rattle.krl_messages.specs.declared.write_op.WriteOp.{WriteOp}
use Rattle.krl_client.specs.Clients.{is_waiting, outstanding}
use Rattle.krl_server.specs.declared.session.Session.{Session}
use Rattle.krl_server.specs.Servers.{incarnation_or_0, blank_session}
use Rattle.krl_server.specs.Effects as effects
use Rattle.krl_server.specs.Soundness.{IsSound}
use Rattle.krl_server.specs.Invariant.{IsOrdered}
use Rattle.krl_server.proofs.Tests.{if_both}
use Rattle.krl_server.proofs.Cased.{by_said, IsAsked}
use Rattle.krl_server.proofs.Updates.{session_here}
use Rattle.krl_server.proofs.Invariant.Kept.{server_keeps}
use Rattle.krl_messages.specs.declared.to_server.RequestBody.TheVariants as asked
use Rattle.krl_progress.specs.Answers.{answers_request}
use Rattle.krl_progress.specs.Requests.{IsAwaited}
use Rattle.krl_progress.proofs.AtOnce.{turn_sessions}
use Rattle.krl_progress.proofs.Queues.{turn_stands}
use Rattle.krl_progress.proofs.Doings.{write_of}
use Rattle.krl_progress.proofs.Knowing.{Knows, Heard, Asks, idle, untaken, stands, comes, effect_knows, turn_knows, effect_epoch, other_session, turn_pushes}

-- a push that the client has yet to accept is one that it waits for
abbrev pub Comes : Session → Client → Type 0
Comes x k = (b : PushBody) → x.unacked ≡ Some b → x.last_push ≡ suc k.seen → IsAwaited k b

abbrev pub Pending : Server → ℕ → Client → Type 0
Pending s c k = k.epoch ≡ s.durable.epoch → Comes (s.sessions c) k

-- a write that is sent with the client's last push seen is its outstanding one
abbrev pub Writes : ToServer → Client → Type 0
Writes m k = 1 ≤ k.epoch → m.incarnation ≡ k.incarnation → (r : Request) → m.body ≡ said.Request r → r.epoch ≡ k.epoch → r.seen ≡ k.seen → (n : ℕ) → write_of r.body ≡ Some n → (is_some (outstanding k.written) ≡ true) × (n ≡ k.writes)

none_comes : (x : Session) (k : Client) → x.unacked ≡ None → Comes x k
none_comes x k none b e l = absurd (let bad : None ≡ Some b = sym none ∙ e in cc)

pushes_comes : (t : Server) (c : ℕ) (k : Client) (b : PushBody) → (t.sessions c).unacked ≡ None → IsAwaited k b → Comes ((pushes t c b).server.sessions c) k
pushes_comes t c k b none is = if_both (λ (x : Done). Comes (x.server.sessions c) k) (nat_lt (t.sessions c).last_push END) _ _
    (subst (λ (x : Session). Comes x k) (sym (session_here t.sessions c _)) (λ b1 e l. subst (IsAwaited k) (same_Some b b1 e) is))
    (none_comes (t.sessions c) k none)

-- A message of the client's own number

module _ (s : Server) (m : ToServer) (k : Client) (i : IsSound s) (f : Heard s m k) (w : Writes m k) (low : k.epoch ≡ s.durable.epoch → k.seen ≤ (s.sessions m.client).last_push) (h : Pending s m.client k) where
  abbrev P : Case → Type 0
  P x = Pending (effect s m x).server m.client k

  acked : ((acknowledged s m.client).sessions m.client).unacked ≡ None
  acked = ap (λ (x : Session). x.unacked) (session_here s.sessions m.client (record (s.sessions m.client) { unacked = None }))

  awaits : (r : Record) (request : Request) (number : ℕ) (op : WriteOp) (seizes : Bool) → IsAsked s m r request (asked.Write number op seizes) → k.epoch ≡ s.durable.epoch → (is_some (outstanding k.written) ≡ true) × (number ≡ k.writes)
  awaits r request number op seizes a e =
      let from = a.served.from in
      let inc = from.same ∙ sym (ap incarnation_or_0 from.known) ∙ f.own e in
      let at_most = (f.requests inc request a.said).1 (a.now ∙ sym e) in
      let at_least = low e in
      let seen = a.seen in
      let begun = i.begun in
      w (omega (arith, e, begun)) inc request a.said (a.now ∙ sym e) (omega (arith, at_most, at_least, seen)) number (ap write_of a.asked)

  own_pending : P (case_of s m)
  own_pending = by_said s m P (record {
    ignored = h;
    registers = λ near newer body e. none_comes ((effect s m Registers).server.sessions m.client) k (ap (λ (x : Session). x.unacked) (session_here s.sessions m.client blank_session));
    leaves = λ r from body e. h (e ∙ effect_epoch s m Leaves);
    tells = h;
    alarms = λ r epoch pieces from body now missing bad. h;
    rebuilds = λ r epoch pieces from body now missing fine. h;
    repeats = λ r body served unacked. h;
    acknowledges = λ r request b a e. none_comes ((effect s m Acknowledges).server.sessions m.client) k acked;
    lowers = λ r request span keep a e. none_comes ((effect s m (Lowers span keep)).server.sessions m.client) k acked;
    waits = λ r request req point hi g a new free near e. none_comes ((effect s m (Waits req point hi g)).server.sessions m.client) k (ap (λ (x : Session). x.unacked) (session_here (acknowledged s m.client).sessions m.client (record ((acknowledged s m.client).sessions m.client) { last_request = req })) ∙ acked);
    judges = λ r request number op seizes o a under near new is e. pushes_comes (writes (acknowledged s m.client) m.client op o) m.client k _ acked (awaits r request number op seizes a (e ∙ effect_epoch s m (Judges number op o)));
    seizes = λ r request number op seizes a under near new may e. pushes_comes (writes (acknowledged (effects.seizes s m.client op) m.client) m.client op outcome.Applied) m.client k _ acked (awaits r request number op seizes a (e ∙ effect_epoch s m (SeizesLock number op)));
    answers_again = λ r request number op seizes o a under some last is e. pushes_comes (acknowledged s m.client) m.client k _ acked (awaits r request number op seizes a (e ∙ effect_epoch s m (AnswersAgain number op o)));
  })

effect_pending : (s : Server) (m : ToServer) (c : ℕ) (k : Client) → IsSound s → (m.client ≡ c → Heard s m k) → (m.client ≡ c → Writes m k) → Knows s c k → Pending s c k → Pending (effect s m (case_of s m)).server c k
effect_pending s m c k i f w knows h = eq_cases m.client c
    (λ e. subst (λ d. Pending (effect s m (case_of s m)).server d k) e (own_pending s m k i (f e) (w e) (λ now. ((subst (λ d. Knows s d k) (sym e) knows).now now).low) (subst (λ d. Pending s d k) (sym e) h)))
    (λ ne e. subst (λ (x : Session). Comes x k) (sym (other_session s m (case_of s m) c (λ x. ne (sym x)))) (h (e ∙ effect_epoch s m (case_of s m))))

-- An answer to a first waiter

awaited : (k : Client) (req : ℕ) (b : PushBody) → is_waiting k.asked ≡ true → req ≡ k.req → answers_request req b ≡ true → IsAwaited k b
awaited k req (push.Grant r hs) w e is = (w, eqb-true r req is ∙ e)
awaited k req (push.Absent r point) w e is = (w, eqb-true r req is ∙ e)
awaited k req (push.Answer number o y) w e is = absurd (cc)

turn_pending : (s : Server) (t : Turn) (c : ℕ) (k : Client) → next_turn s ≡ Some t → Knows s c k → Pending s c k → Pending (answer_first s t).server c k
turn_pending s t c k e knows h = eq_cases c t.waiter.client
    (λ f. subst (λ d. Pending (answer_first s t).server d k) (sym f) (own (subst (λ d. Knows s d k) f knows)))
    (λ ne now. subst (λ (x : Session). Comes x k) (sym (turn_sessions s t c ne)) (h (now ∙ epoch)))
  where
    epoch : (answer_first s t).server.durable.epoch ≡ s.durable.epoch
    epoch = ap (λ (d : Durable). d.epoch) (server_keeps.turn_durable s t)

    own : Knows s t.waiter.client k → Pending (answer_first s t).server t.waiter.client k
    own g now = let x = turn_pushes s t e in subst (λ (y : Session). Comes y k) (sym x.session) (λ b b_is l. subst (IsAwaited k) (same_Some x.body b b_is) (by_request x.body x.answers (g.now (now ∙ epoch)).request))
      where
        by_request : (b : PushBody) → answers_request t.waiter.req b ≡ true → Asks (s.sessions t.waiter.client) s.rows t.waiter.client k → IsAwaited k b
        by_request b is (idle w r a q) = absurd (a t.waiter (turn_stands s t e))
        by_request b is (untaken w r a q) = absurd (a t.waiter (turn_stands s t e))
        by_request b is (stands w r u y all q) = awaited k t.waiter.req b w (all t.waiter (turn_stands s t e)) is
        by_request b is (comes w r a b1 n l y) = absurd (a t.waiter (turn_stands s t e))

answered_pending : (s t : Server) (outs : List ToClient) (c : ℕ) (k : Client) → AnswersWaiters s t outs → IsOrdered s → Knows s c k → Pending s c k → Pending t c k
answered_pending s t outs c k (stops x e) o knows h = h
answered_pending s t outs c k (goes_on x y turn later e rest) o knows h = answered_pending (answer_first x turn).server y later c k rest (server_keeps.ordered_turn x turn e o) (turn_knows x turn c k e o.table knows) (turn_pending x turn c k e knows h)

ends_pending : (done : Done) (kind : Following) (t : Server) (outs : List ToClient) (c : ℕ) (k : Client) → Ends done kind t outs → IsOrdered done.server → Knows done.server c k → Pending done.server c k → Pending t c k
ends_pending done kind t outs c k (at_once i) o knows h = h
ends_pending done kind t outs c k (recovers g) o knows h = h
ends_pending done kind t outs c k (serves u answers n e a) o knows h = answered_pending done.server u answers c k a o knows h

pub step_pending : (s t : Server) (m : ToServer) (outs : List ToClient) (c : ℕ) (k : Client) → IsSound s → IsOrdered s → ServerStep s m t outs → (m.client ≡ c → Heard s m k) → (m.client ≡ c → Writes m k) → Knows s c k → Pending s c k → Pending t c k
step_pending s t m outs c k i o step f w knows h = ends_pending (effect s m (case_of s m)) (following (case_of s m)) t outs c k step (server_keeps.ordered_effect s m i o) (effect_knows s m c k i f knows) (effect_pending s m c k i f w knows h)
