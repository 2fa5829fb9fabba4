-- What a message makes of a client's session: its pushes have rising numbers.
use Rattle.krl_progress.proofs.Names.{◌≡◌, ℕ, suc, ◌<◌, ◌∙◌, Some, None, List, refl, sym, ap, subst, arith, nat_lt, eq_cases, END}
use Rattle.krl_progress.proofs.Names.{ToServer, ToClient, Server, Durable, record_of, case_of, Done, effect, acknowledged, writes, pushes, Judges, SeizesLock, AnswersAgain, Turn, next_turn, answer_first, AnswersWaiters, stops, goes_on, Following, following, Ends, at_once, recovers, serves, ServerStep}
use Rattle.krl_messages.specs.declared.outcome.Outcome.TheVariants as outcome
use Rattle.krl_messages.specs.declared.to_client.PushBody.{PushBody}
use Rattle.krl_server.specs.declared.session.Session.{Session}
use Rattle.krl_server.specs.Servers.{incarnation_of, incarnation_or_0}
use Rattle.krl_server.specs.Effects as effects
use Rattle.krl_server.proofs.Tests.{if_both}
use Rattle.krl_server.proofs.Cased.{by_said}
use Rattle.krl_server.proofs.Updates.{session_here, record_here}
use Rattle.krl_server.proofs.Outputs.Ends.{pushes_durable}
use Rattle.krl_server.proofs.Invariant.Kept.{server_keeps}
use Rattle.krl_progress.proofs.AtOnce.{turn_sessions}
use Rattle.krl_progress.proofs.Knowing.{other_inc, other_session, turn_pushes, judged_inc, taken_inc, left_same}

-- from s to t the client is registered again; or no push is made to it; or its pushes continue
pub data Later (s t : Server) (c : ℕ) : Type 0 where
  anew : incarnation_of s c < incarnation_of t c → Later s t c
  kept : incarnation_of t c ≡ incarnation_of s c → (t.sessions c).last_push ≡ (s.sessions c).last_push → ((b : PushBody) → (t.sessions c).unacked ≡ Some b → (s.sessions c).unacked ≡ Some b) → Later s t c
  more : incarnation_of t c ≡ incarnation_of s c → (s.sessions c).last_push < (t.sessions c).last_push → Later s t c

then : (s t x : Server) (c : ℕ) → Later s t c → Later t x c → Later s x c
then s t x c (anew l) (anew m) = anew (omega (arith, l, m))
then s t x c (anew l) (kept i n q) = anew (omega (arith, l, i))
then s t x c (anew l) (more i n) = anew (omega (arith, l, i))
then s t x c (kept i n q) (anew m) = anew (omega (arith, m, i))
then s t x c (kept i n q) (kept j l r) = kept (j ∙ i) (l ∙ n) (λ b e. q b (r b e))
then s t x c (kept i n q) (more j l) = more (j ∙ i) (omega (arith, n, l))
then s t x c (more i n) (anew m) = anew (omega (arith, m, i))
then s t x c (more i n) (kept j l r) = more (j ∙ i) (omega (arith, n, l))
then s t x c (more i n) (more j l) = more (j ∙ i) (omega (arith, n, l))

alike : (s t : Server) (c : ℕ) → incarnation_of t c ≡ incarnation_of s c → t.sessions c ≡ s.sessions c → Later s t c
alike s t c i e = kept i (ap (λ (x : Session). x.last_push) e) (λ b f. sym (ap (λ (x : Session). x.unacked) e) ∙ f)

acked : (s t : Server) (c : ℕ) → incarnation_of t c ≡ incarnation_of s c → (t.sessions c).last_push ≡ (s.sessions c).last_push → (t.sessions c).unacked ≡ None → Later s t c
acked s t c i l none = kept i l (λ b e. absurd (let bad : None ≡ Some b = sym none ∙ e in cc))

acked_here : (s : Server) (c : ℕ) → Later s (acknowledged s c) c
acked_here s c = let x = session_here s.sessions c (record (s.sessions c) { unacked = None }) in acked s (acknowledged s c) c refl (ap (λ (y : Session). y.last_push) x) (ap (λ (y : Session). y.unacked) x)

pushes_later : (s : Server) (c : ℕ) (b : PushBody) → Later s (pushes s c b).server c
pushes_later s c b = if_both (λ (x : Done). Later s x.server c) (nat_lt (s.sessions c).last_push END) _ _
    (let x = ap (λ (y : Session). y.last_push) (session_here s.sessions c (record (s.sessions c) { last_push = suc (s.sessions c).last_push; unacked = Some b })) in more refl (omega (arith, x)))
    (alike s s c refl refl)

own_later : (s : Server) (m : ToServer) → Later s (effect s m (case_of s m)).server m.client
own_later s m = let c = m.client in let t = acknowledged s m.client in by_said s m (λ x. Later s (effect s m x).server m.client) (record {
  ignored = alike s s m.client refl refl;
  registers = λ near newer body. anew (let x = ap incarnation_or_0 (record_here s.durable.register m.client (Rattle.krl_durable.specs.Registers.new_record m.incarnation)) in omega (arith, x, newer));
  leaves = λ r from body. kept (left_same s.durable m.client r from.known ∙ sym (ap incarnation_or_0 from.known)) refl (λ b e. e);
  tells = alike s s m.client refl refl;
  alarms = λ r epoch pieces from body now missing bad. alike s s m.client refl refl;
  rebuilds = λ r epoch pieces from body now missing fine. kept refl refl (λ b e. e);
  repeats = λ r body served unacked. alike s s m.client refl refl;
  acknowledges = λ r request b a. acked_here s m.client;
  lowers = λ r request span keep a. let x = session_here s.sessions m.client (record (s.sessions m.client) { unacked = None }) in kept refl (ap (λ (y : Session). y.last_push) x) (λ b e. absurd (let bad : None ≡ Some b = sym (ap (λ (y : Session). y.unacked) x) ∙ e in cc));
  waits = λ r request req point hi g a new free near.
      let x = session_here s.sessions m.client (record (s.sessions m.client) { unacked = None }) in
      let y = session_here t.sessions m.client (record (t.sessions m.client) { last_request = req }) in
      kept refl (ap (λ (z : Session). z.last_push) y ∙ ap (λ (z : Session). z.last_push) x) (λ b e. absurd (let bad : None ≡ Some b = sym (ap (λ (z : Session). z.unacked) y ∙ ap (λ (z : Session). z.unacked) x) ∙ e in cc));
  judges = λ r request number op seizes o a under near new is. let w = writes t m.client op o in
      let x = session_here s.sessions m.client (record (s.sessions m.client) { unacked = None }) in
      then s w (effect s m (Judges number op o)).server m.client
      (acked s w m.client (sym (ap (λ (d : Durable). incarnation_or_0 (record_of d.register m.client)) (pushes_durable w m.client _)) ∙ judged_inc s m number op o m.client) (ap (λ (y : Session). y.last_push) x) (ap (λ (y : Session). y.unacked) x))
      (pushes_later w m.client _);
  seizes = λ r request number op seizes a under near new may. let w = writes (acknowledged (effects.seizes s m.client op) m.client) m.client op outcome.Applied in
      let x = session_here s.sessions m.client (record (s.sessions m.client) { unacked = None }) in
      then s w (effect s m (SeizesLock number op)).server m.client
      (acked s w m.client (sym (ap (λ (d : Durable). incarnation_or_0 (record_of d.register m.client)) (pushes_durable w m.client _)) ∙ taken_inc s m number op m.client) (ap (λ (y : Session). y.last_push) x) (ap (λ (y : Session). y.unacked) x))
      (pushes_later w m.client _);
  answers_again = λ r request number op seizes o a under some last is. then s t (effect s m (AnswersAgain number op o)).server m.client (acked_here s m.client) (pushes_later t m.client _);
})

pub effect_later : (s : Server) (m : ToServer) (c : ℕ) → Later s (effect s m (case_of s m)).server c
effect_later s m c = eq_cases c m.client (λ e. subst (Later s (effect s m (case_of s m)).server) (sym e) (own_later s m))
    (λ ne. alike s (effect s m (case_of s m)).server c (other_inc s m (case_of s m) c ne) (other_session s m (case_of s m) c ne))

pub turn_later : (s : Server) (t : Turn) (c : ℕ) → next_turn s ≡ Some t → Later s (answer_first s t).server c
turn_later s t c e = let inc = ap (λ (d : Durable). incarnation_or_0 (record_of d.register c)) (server_keeps.turn_durable s t) in
    eq_cases c t.waiter.client
    (λ f. more inc (let x = ap (λ (y : Session). y.last_push) (turn_pushes s t e).session in
    subst (λ d. (s.sessions d).last_push < ((answer_first s t).server.sessions d).last_push) (sym f) (omega (arith, x))))
    (λ ne. alike s (answer_first s t).server c inc (turn_sessions s t c ne))

pub answered_later : (s t : Server) (outs : List ToClient) (c : ℕ) → AnswersWaiters s t outs → Later s t c
answered_later s t outs c (stops x e) = alike x x c refl refl
answered_later s t outs c (goes_on x y turn later e rest) = then x (answer_first x turn).server y c (turn_later x turn c e) (answered_later (answer_first x turn).server y later c rest)

ends_later : (s : Server) (done : Done) (kind : Following) (t : Server) (outs : List ToClient) (c : ℕ) → Ends done kind t outs → Later s done.server c → Later s t c
ends_later s done kind t outs c (at_once i) h = h
ends_later s done kind t outs c (recovers g) h = h
ends_later s done kind t outs c (serves u answers n e a) h = then s done.server u c h (answered_later done.server u answers c a)

pub step_later : (s t : Server) (m : ToServer) (outs : List ToClient) (c : ℕ) → ServerStep s m t outs → Later s t c
step_later s t m outs c step = ends_later s (effect s m (case_of s m)) (following (case_of s m)) t outs c step (effect_later s m c)
