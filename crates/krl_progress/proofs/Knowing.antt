-- What a server and a client know of a lock request, and that what a server does keeps it.
use Rattle.krl_progress.proofs.Names.{◌≡◌, ◌≢◌, ℕ, suc, ◌≤◌, ◌<◌, ⊎_elim, ◌∙◌, true, false, not, ◌||◌, Option, Some, None, is_some, refl, sym, ap, subst, arith, nat_lt, eq_cases, eq-eqb, and_parts, same_Some, END, In}
use Rattle.krl_progress.proofs.Names.{ToServer, Client, Record, Server, Durable, record_of, Rows, Case, clears, Ignored, Registers, Leaves, Tells, Alarms, Rebuilds, Repeats, Acknowledges, Lowers, Waits, Judges, SeizesLock, AnswersAgain, case_of, Done, effect, acknowledged, writes, pushes, holding, holdings, slot_of, op_key, Turn, next_turn, answer_first, with_rows, WriteOp, Outcome, left_by}
use Rattle.krl_messages.specs.declared.to_server.ToServerBody.TheVariants as said
use Rattle.krl_messages.specs.declared.to_server.Request.{Request}
use Rattle.krl_messages.specs.declared.to_server.RequestBody.{RequestBody}
use Rattle.krl_messages.specs.declared.outcome.Outcome.TheVariants as outcome
use Rattle.krl_messages.specs.declared.to_client.PushBody.{PushBody}
use Rattle.krl_messages.specs.declared.to_client.PushBody.TheVariants as push
use Rattle.krl_queue.specs.declared.waiter.Waiter.{Waiter}
use Rattle.krl_durable.specs.Splits.{applied_by}
use Rattle.krl_table.specs.Calls.{front_dropped}
use Rattle.krl_table.specs.Grants.{granted, reached_slots}
use Rattle.krl_table.specs.Replies.{asks_absent, is_wanted_compatible}
use Rattle.krl_table.specs.Sound.{IsTable}
use Rattle.krl_client.specs.Clients.{is_waiting}
use Rattle.krl_server.specs.declared.session.Session.{Session}
use Rattle.krl_server.specs.Servers.{incarnation_of, incarnation_or_0, blank_session}
use Rattle.krl_server.specs.Effects as effects
use Rattle.krl_server.specs.Answering.{can_push, tells_absent, grants}
use Rattle.krl_server.specs.Soundness.{IsSound}
use Rattle.krl_server.proofs.Tests.{if_both, if_case, none_of}
use Rattle.krl_server.proofs.Cased.{by_said, IsFrom, IsAsked}
use Rattle.krl_server.proofs.Turns.{turn_is}
use Rattle.krl_server.proofs.Updates.{session_here, session_other, record_here, record_other}
use Rattle.krl_server.proofs.Outputs.Ends.{pushes_durable, pushes_rows}
use Rattle.krl_server.proofs.Invariant.Kept.{server_keeps}
use Rattle.krl_server.proofs.Invariant.WaitersAfter.{Came, all_came}
use Rattle.krl_modes.proofs.Basics.{not_both}
use Rattle.krl_progress.specs.Answers.{answers_request}
use Rattle.krl_progress.proofs.AtOnce.{turn_sessions}
use Rattle.krl_progress.proofs.Queues.{Stands, Away, Stays, effect_stays, taken_stands, taken_only, cleared_away, turn_stands, turn_stays, turn_came, turn_away}
use Rattle.krl_progress.proofs.Doings.{request_of}

-- no push that is on its way answers the request of this number
abbrev pub IsClear : Session → ℕ → Type 0
IsClear x req = (b : PushBody) → x.unacked ≡ Some b → answers_request req b ≡ false

-- where the client's request is
pub data Asks (x : Session) (rows : Rows) (c : ℕ) (k : Client) : Type 0 where
  idle : is_waiting k.asked ≡ false → k.req ≡ x.last_request → Away rows c → IsClear x (suc k.req) → Asks x rows c k
  untaken : is_waiting k.asked ≡ true → k.req ≡ suc x.last_request → Away rows c → IsClear x k.req → Asks x rows c k
  stands : is_waiting k.asked ≡ true → k.req ≡ x.last_request → (u : Waiter) → Stands rows c u → ((v : Waiter) → Stands rows c v → v.req ≡ k.req) → IsClear x k.req → Asks x rows c k
  comes : is_waiting k.asked ≡ true → k.req ≡ x.last_request → Away rows c → (b : PushBody) → x.unacked ≡ Some b → x.last_push ≡ suc k.seen → answers_request k.req b ≡ true → Asks x rows c k

-- a client in the server's epoch
pub record Current (x : Session) (rows : Rows) (c : ℕ) (k : Client) : Type 0 where
  pub low : k.seen ≤ x.last_push
  pub high : x.last_push ≤ suc k.seen
  pub acked : x.unacked ≡ None → x.last_push ≡ k.seen
  pub request : Asks x rows c k

-- a client of whose incarnation the server has heard nothing in its epoch but its Hello
pub record Fresh (x : Session) (rows : Rows) (c : ℕ) : Type 0 where
  pub none_taken : x.last_request ≡ 0
  pub none_pushed : x.unacked ≡ None
  pub away : Away rows c

pub record Knows (s : Server) (c : ℕ) (k : Client) : Type 0 where
  pub early : incarnation_of s c ≡ k.incarnation → k.epoch < s.durable.epoch → Fresh (s.sessions c) s.rows c
  pub now : k.epoch ≡ s.durable.epoch → Current (s.sessions c) s.rows c k

-- Sessions

none_some : {A : Type 0} (o : Option PushBody) (b : PushBody) → o ≡ None → o ≡ Some b → A
none_some o b e f = absurd (let bad : None ≡ Some b = sym e ∙ f in cc)

module _ (x : Session) (rows : Rows) (c : ℕ) (k : Client) (h : Current x rows c k) where
  -- every push counts as acknowledged
  acked_stays : x.last_push ≤ k.seen → Current (record x { unacked = None }) rows c k
  acked_stays le = record { low = h.low; high = h.high; acked = λ e. let l = h.low in omega (arith, l, le); request = by_request h.request }
    where
      by_request : Asks x rows c k → Asks (record x { unacked = None }) rows c k
      by_request (idle w r a q) = idle w r a (λ b e. absurd (cc))
      by_request (untaken w r a q) = untaken w r a (λ b e. absurd (cc))
      by_request (stands w r u y all q) = stands w r u y all (λ b e. absurd (cc))
      by_request (comes w r a b e n y) = absurd (omega (arith, n, le))

  rows_change : (later : Rows) → Stays rows later c → Stays later rows c → Current x later c k
  rows_change later on back = record { low = h.low; high = h.high; acked = h.acked; request = by_request h.request }
    where
      by_request : Asks x rows c k → Asks x later c k
      by_request (idle w r a q) = idle w r (λ u y. a u (back u y)) q
      by_request (untaken w r a q) = untaken w r (λ u y. a u (back u y)) q
      by_request (stands w r u y all q) = stands w r u (on u y) (λ v z. all v (back v z)) q
      by_request (comes w r a b e n y) = comes w r (λ u z. a u (back u z)) b e n y

  -- a push that answers no lock request
  pushed_on : (b : PushBody) → x.unacked ≡ None → ((n : ℕ) → answers_request n b ≡ false) → Current (record x { last_push = suc x.last_push; unacked = Some b }) rows c k
  pushed_on b none unlike = let e = h.acked none in record { low = omega (arith, e); high = omega (arith, e); acked = λ f. absurd (cc); request = by_request h.request }
    where
      clear : (n : ℕ) → IsClear (record x { last_push = suc x.last_push; unacked = Some b }) n
      clear n b1 f = subst (λ y. answers_request n y ≡ false) (same_Some b b1 f) (unlike n)

      by_request : Asks x rows c k → Asks (record x { last_push = suc x.last_push; unacked = Some b }) rows c k
      by_request (idle w r a q) = idle w r a (clear (suc k.req))
      by_request (untaken w r a q) = untaken w r a (clear k.req)
      by_request (stands w r u y all q) = stands w r u y all (clear k.req)
      by_request (comes w r a b1 f n y) = none_some x.unacked b1 none f

  -- the server takes the request
  taken_now : (req : ℕ) (later : Rows) (u : Waiter) → x.last_push ≤ k.seen → req ≤ k.req → req ≡ suc x.last_request → Stands later c u → (Away rows c → (v : Waiter) → Stands later c v → v.req ≡ req) → Current (record x { unacked = None; last_request = req }) later c k
  taken_now req later u le most next there only = record { low = h.low; high = h.high; acked = λ e. let l = h.low in omega (arith, l, le); request = by_request h.request }
    where
      by_request : Asks x rows c k → Asks (record x { unacked = None; last_request = req }) later c k
      by_request (idle w r a q) = absurd (omega (arith, r, most, next))
      by_request (untaken w r a q) = stands w (omega (arith, r, next)) u there (λ v z. let e = only a v z in omega (arith, e, r, next)) (λ b e. absurd (cc))
      by_request (stands w r v y all q) = absurd (omega (arith, r, most, next))
      by_request (comes w r a b e n y) = absurd (omega (arith, r, most, next))

  -- the server answers it
  answered_now : (b : PushBody) (later : Rows) (u : Waiter) → x.unacked ≡ None → Stands rows c u → Away later c → answers_request u.req b ≡ true → Current (record x { last_push = suc x.last_push; unacked = Some b }) later c k
  answered_now b later u none at gone is = let e = h.acked none in record { low = omega (arith, e); high = omega (arith, e); acked = λ f. absurd (cc); request = by_request h.request }
    where
      by_request : Asks x rows c k → Asks (record x { last_push = suc x.last_push; unacked = Some b }) later c k
      by_request (idle w r a q) = absurd (a u at)
      by_request (untaken w r a q) = absurd (a u at)
      by_request (stands w r v y all q) = comes w r gone b refl (ap (λ n. suc n) (h.acked none)) (subst (λ n. answers_request n b ≡ true) (all u at) is)
      by_request (comes w r a b1 f n y) = absurd (a u at)

-- Epochs and incarnations

left_epoch : (d : Durable) (c : ℕ) (o : Option Record) → (left_by d c o).epoch ≡ d.epoch
left_epoch d c None = refl
left_epoch d c (Some r) = refl

applied_epoch : (d : Durable) (c : ℕ) (op : WriteOp) (o : Outcome) (r : Option Record) → (applied_by d c op o r).epoch ≡ d.epoch
applied_epoch d c op o None = refl
applied_epoch d c op o (Some r) = refl

pub effect_epoch : (s : Server) (m : ToServer) (x : Case) → (effect s m x).server.durable.epoch ≡ s.durable.epoch
effect_epoch s m Ignored = refl
effect_epoch s m Registers = refl
effect_epoch s m Leaves = left_epoch s.durable m.client (record_of s.durable.register m.client)
effect_epoch s m Tells = refl
effect_epoch s m Alarms = refl
effect_epoch s m (Rebuilds pieces) = refl
effect_epoch s m (Repeats body) = refl
effect_epoch s m Acknowledges = refl
effect_epoch s m (Lowers span keep) = refl
effect_epoch s m (Waits req point hi g) = refl
effect_epoch s m (Judges number op o) = ap (λ (d : Durable). d.epoch) (pushes_durable (writes (acknowledged s m.client) m.client op o) m.client _) ∙ applied_epoch s.durable m.client op o (record_of s.durable.register m.client)
effect_epoch s m (SeizesLock number op) = ap (λ (d : Durable). d.epoch) (pushes_durable (writes (acknowledged (effects.seizes s m.client op) m.client) m.client op outcome.Applied) m.client _) ∙ applied_epoch s.durable m.client op outcome.Applied (record_of s.durable.register m.client)
effect_epoch s m (AnswersAgain number op o) = ap (λ (d : Durable). d.epoch) (pushes_durable (acknowledged s m.client) m.client _)

abbrev pub inc_in : Durable → ℕ → ℕ
inc_in d c = incarnation_or_0 (record_of d.register c)

left_other : (d : Durable) (c e : ℕ) (o : Option Record) → e ≢ c → inc_in (left_by d c o) e ≡ inc_in d e
left_other d c e None ne = refl
left_other d c e (Some r) ne = ap incarnation_or_0 (record_other d.register c e (record r { left = true }) ne)

pub left_same : (d : Durable) (c : ℕ) (r : Record) → record_of d.register c ≡ Some r → inc_in (left_by d c (record_of d.register c)) c ≡ r.incarnation
left_same d c r e = ap (λ o. inc_in (left_by d c o) c) e ∙ ap incarnation_or_0 (record_here d.register c (record r { left = true }))

applied_inc : (d : Durable) (c e : ℕ) (op : WriteOp) (o : Outcome) (r : Option Record) → record_of d.register c ≡ r → inc_in (applied_by d c op o r) e ≡ inc_in d e
applied_inc d c e op o None f = refl
applied_inc d c e op o (Some r) f = eq_cases e c
    (λ g. subst (λ y. inc_in (applied_by d c op o (Some r)) y ≡ inc_in d y) (sym g) (ap incarnation_or_0 (record_here d.register c _) ∙ sym (ap incarnation_or_0 f)))
    (λ ne. ap incarnation_or_0 (record_other d.register c e _ ne))

pub judged_inc : (s : Server) (m : ToServer) (number : ℕ) (op : WriteOp) (o : Outcome) (e : ℕ) → incarnation_of (effect s m (Judges number op o)).server e ≡ incarnation_of s e
judged_inc s m number op o e = ap (λ (d : Durable). inc_in d e) (pushes_durable (writes (acknowledged s m.client) m.client op o) m.client _) ∙ applied_inc s.durable m.client e op o (record_of s.durable.register m.client) refl

pub taken_inc : (s : Server) (m : ToServer) (number : ℕ) (op : WriteOp) (e : ℕ) → incarnation_of (effect s m (SeizesLock number op)).server e ≡ incarnation_of s e
taken_inc s m number op e = ap (λ (d : Durable). inc_in d e) (pushes_durable (writes (acknowledged (effects.seizes s m.client op) m.client) m.client op outcome.Applied) m.client _) ∙ applied_inc s.durable m.client e op outcome.Applied (record_of s.durable.register m.client) refl

pub other_inc : (s : Server) (m : ToServer) (x : Case) (e : ℕ) → e ≢ m.client → incarnation_of (effect s m x).server e ≡ incarnation_of s e
other_inc s m Ignored e ne = refl
other_inc s m Registers e ne = ap incarnation_or_0 (record_other s.durable.register m.client e _ ne)
other_inc s m Leaves e ne = left_other s.durable m.client e (record_of s.durable.register m.client) ne
other_inc s m Tells e ne = refl
other_inc s m Alarms e ne = refl
other_inc s m (Rebuilds pieces) e ne = refl
other_inc s m (Repeats body) e ne = refl
other_inc s m Acknowledges e ne = refl
other_inc s m (Lowers span keep) e ne = refl
other_inc s m (Waits req point hi g) e ne = refl
other_inc s m (Judges number op o) e ne = judged_inc s m number op o e
other_inc s m (SeizesLock number op) e ne = taken_inc s m number op e
other_inc s m (AnswersAgain number op o) e ne = ap (λ (d : Durable). inc_in d e) (pushes_durable (acknowledged s m.client) m.client _)

pushes_other : (s : Server) (c : ℕ) (b : PushBody) (d : ℕ) → d ≢ c → (pushes s c b).server.sessions d ≡ s.sessions d
pushes_other s c b d ne = if_both (λ (x : Done). x.server.sessions d ≡ s.sessions d) (nat_lt (s.sessions c).last_push END) _ _ (session_other s.sessions c d _ ne) refl

pub other_session : (s : Server) (m : ToServer) (x : Case) (d : ℕ) → d ≢ m.client → (effect s m x).server.sessions d ≡ s.sessions d
other_session s m Ignored d ne = refl
other_session s m Registers d ne = session_other s.sessions m.client d blank_session ne
other_session s m Leaves d ne = refl
other_session s m Tells d ne = refl
other_session s m Alarms d ne = refl
other_session s m (Rebuilds pieces) d ne = refl
other_session s m (Repeats body) d ne = refl
other_session s m Acknowledges d ne = session_other s.sessions m.client d _ ne
other_session s m (Lowers span keep) d ne = session_other s.sessions m.client d _ ne
other_session s m (Waits req point hi g) d ne = session_other (acknowledged s m.client).sessions m.client d _ ne ∙ session_other s.sessions m.client d _ ne
other_session s m (Judges number op o) d ne = pushes_other (writes (acknowledged s m.client) m.client op o) m.client _ d ne ∙ session_other s.sessions m.client d _ ne
other_session s m (SeizesLock number op) d ne = pushes_other (writes (acknowledged (effects.seizes s m.client op) m.client) m.client op outcome.Applied) m.client _ d ne ∙ session_other s.sessions m.client d _ ne
other_session s m (AnswersAgain number op o) d ne = pushes_other (acknowledged s m.client) m.client _ d ne ∙ session_other s.sessions m.client d _ ne

-- A message of another client

-- the server still knows the same of the client, and its waiter stays
pub same_knows : (s t : Server) (c : ℕ) (k : Client) → t.durable.epoch ≡ s.durable.epoch → incarnation_of t c ≡ incarnation_of s c → t.sessions c ≡ s.sessions c → Stays s.rows t.rows c → Stays t.rows s.rows c → Knows s c k → Knows t c k
same_knows s t c k epoch inc session on back h = record {
  early = λ i lt. let f = h.early (sym inc ∙ i) (omega (arith, lt, epoch)) in
      record { none_taken = ap (λ (x : Session). x.last_request) session ∙ f.none_taken; none_pushed = ap (λ (x : Session). x.unacked) session ∙ f.none_pushed; away = λ u x. f.away u (back u x) };
  now = λ e. subst (λ x. Current x t.rows c k) (sym session) (rows_change (s.sessions c) s.rows c k (h.now (e ∙ epoch)) t.rows on back);
}

-- A message of the client's own number

pub record Heard (s : Server) (m : ToServer) (k : Client) : Type 0 where
  pub own : k.epoch ≡ s.durable.epoch → incarnation_of s m.client ≡ k.incarnation
  pub hello : m.body ≡ said.Hello → m.incarnation ≤ k.incarnation
  pub bye : m.body ≡ said.Bye → m.incarnation ≡ k.incarnation → ⊥
  pub requests : m.incarnation ≡ k.incarnation → (r : Request) → m.body ≡ said.Request r → (r.epoch ≤ k.epoch) × (r.epoch ≡ k.epoch → r.seen ≤ k.seen)
  pub locks : m.incarnation ≡ k.incarnation → (r : Request) → m.body ≡ said.Request r → r.epoch ≡ k.epoch → k.epoch ≡ s.durable.epoch → request_of r.body ≤ k.req

pushes_current : (t : Server) (c : ℕ) (k : Client) (b : PushBody) → ((n : ℕ) → answers_request n b ≡ false) → (t.sessions c).unacked ≡ None → Current (t.sessions c) t.rows c k → Current ((pushes t c b).server.sessions c) (pushes t c b).server.rows c k
pushes_current t c k b unlike none h = if_both (λ (x : Done). Current (x.server.sessions c) x.server.rows c k) (nat_lt (t.sessions c).last_push END) _ _
    (subst (λ x. Current x t.rows c k) (sym (session_here t.sessions c _)) (pushed_on (t.sessions c) t.rows c k h b none unlike)) h

module _ (s : Server) (m : ToServer) (k : Client) (f : Heard s m k) (h : Knows s m.client k) where
  abbrev P : Case → Type 0
  P x = ((m.client ≡ m.client → clears x ≡ false) → Stays s.rows (effect s m x).server.rows m.client) → Came s m x → Knows (effect s m x).server m.client k

  own_inc : (r : Record) → IsFrom s m r → incarnation_of s m.client ≡ k.incarnation → m.incarnation ≡ k.incarnation
  own_inc r from e = from.same ∙ sym (ap incarnation_or_0 from.known) ∙ e

  -- a request that is of the server's epoch is of the client's
  not_early : (r : Record) (request : Request) (b : RequestBody) → IsAsked s m r request b → incarnation_of s m.client ≡ k.incarnation → k.epoch < s.durable.epoch → ⊥
  not_early r request b a e lt = let x = (f.requests (own_inc r a.served.from e) request a.said).0 in omega (arith, x, a.now, lt)

  has_seen : (r : Record) (request : Request) (b : RequestBody) → IsAsked s m r request b → k.epoch ≡ s.durable.epoch → (s.sessions m.client).last_push ≤ k.seen
  has_seen r request b a e = let x = (f.requests (own_inc r a.served.from (f.own e)) request a.said).1 (a.now ∙ sym e) in omega (arith, x, a.seen)

  no_new : (x : Case) → Rattle.krl_server.proofs.Invariant.WaitersAfter.asks x ≡ false → Came s m x → Stays (effect s m x).server.rows s.rows m.client
  no_new x not came u y = ⊎_elim (λ (z : (j : ℕ) × In u (s.rows j).queue). record { slot = z.0; at = z.1; own = y.own }) (λ (z : (Rattle.krl_server.proofs.Invariant.WaitersAfter.asks x ≡ true) × (u.client ≡ m.client) × Rattle.krl_server.proofs.Invariant.WaitersAfter.IsAsked m u x). absurd (not_both (Rattle.krl_server.proofs.Invariant.WaitersAfter.asks x) z.0 not)) (came y.slot u y.at)

  acked_now : (r : Record) (request : Request) (b : RequestBody) → IsAsked s m r request b → k.epoch ≡ s.durable.epoch → Current ((acknowledged s m.client).sessions m.client) s.rows m.client k
  acked_now r request b a e = subst (λ x. Current x s.rows m.client k) (sym (session_here s.sessions m.client _)) (acked_stays (s.sessions m.client) s.rows m.client k (h.now e) (has_seen r request b a e))

  none_now : ((acknowledged s m.client).sessions m.client).unacked ≡ None
  none_now = ap (λ (x : Session). x.unacked) (session_here s.sessions m.client _)

  own_cases : P (case_of s m)
  own_cases = by_said s m P (record {
    ignored = λ on came. h;
    registers = λ near newer body on came. record {
      early = λ i lt. let x = session_here s.sessions m.client blank_session in record { none_taken = ap (λ (y : Session). y.last_request) x; none_pushed = ap (λ (y : Session). y.unacked) x; away = cleared_away s.rows m.client };
      now = λ e. absurd (let a = f.hello body in let b = f.own e in omega (arith, a, b, newer));
    };
    leaves = λ r from body on came. record {
      early = λ i lt. absurd (f.bye body (from.same ∙ sym (left_same s.durable m.client r from.known) ∙ i));
      now = λ e. absurd (f.bye body (own_inc r from (f.own (e ∙ left_epoch s.durable m.client (record_of s.durable.register m.client)))));
    };
    tells = λ on came. h;
    alarms = λ r epoch pieces from body now missing bad on came. h;
    rebuilds = λ r epoch pieces from body now missing fine on came. same_knows s (effect s m (Rebuilds pieces)).server m.client k refl refl refl (on (λ e. refl)) (no_new (Rebuilds pieces) refl came) h;
    repeats = λ r body served unacked on came. h;
    acknowledges = λ r request b a on came. record { early = λ i lt. absurd (not_early r request b a i lt); now = λ e. acked_now r request b a e };
    lowers = λ r request span keep a on came. record {
      early = λ i lt. absurd (not_early r request _ a i lt);
      now = λ e. rows_change ((acknowledged s m.client).sessions m.client) s.rows m.client k (acked_now r request _ a e) _ (on (λ e. refl)) (no_new (Lowers span keep) refl came);
    };
    waits = λ r request req point hi g a new free near on came. record {
      early = λ i lt. absurd (not_early r request _ a i lt);
      now = λ e. subst (λ x. Current x (effect s m (Waits req point hi g)).server.rows m.client k)
          (sym (session_here (acknowledged s m.client).sessions m.client _ ∙ ap (λ (x : Session). record x { last_request = req }) (session_here s.sessions m.client _)))
          (taken_now (s.sessions m.client) s.rows m.client k (h.now e) req _ (record { client = m.client; req = req; point = point; hi = hi; mode = g }) (has_seen r request _ a e)
          (subst (λ b. request_of b ≤ k.req) a.asked (f.locks (own_inc r a.served.from (f.own e)) request a.said (a.now ∙ sym e) e)) new
          (taken_stands s m req point hi g) (taken_only s m req point hi g));
    };
    judges = λ r request number op seizes o a under near new is on came. let t = writes (acknowledged s m.client) m.client op o in record {
      early = λ i lt. absurd (not_early r request _ a (sym (judged_inc s m number op o m.client) ∙ i) (let q = effect_epoch s m (Judges number op o) in omega (arith, q, lt)));
      now = λ e. let here = e ∙ effect_epoch s m (Judges number op o) in
          let b : PushBody = push.Answer number o (holding t (slot_of t.durable.index (op_key op)) m.client) in
          let same = pushes_rows t m.client b in
          pushes_current t m.client k b (λ n. refl) none_now
          (rows_change ((acknowledged s m.client).sessions m.client) s.rows m.client k (acked_now r request _ a here) t.rows
          (subst (λ rows. Stays s.rows rows m.client) same (on (λ e. refl))) (subst (λ rows. Stays rows s.rows m.client) same (no_new (Judges number op o) refl came)));
    };
    seizes = λ r request number op seizes a under near new may on came. let t = writes (acknowledged (effects.seizes s m.client op) m.client) m.client op outcome.Applied in record {
      early = λ i lt. absurd (not_early r request _ a (sym (taken_inc s m number op m.client) ∙ i) (let q = effect_epoch s m (SeizesLock number op) in omega (arith, q, lt)));
      now = λ e. let here = e ∙ effect_epoch s m (SeizesLock number op) in
          let b : PushBody = push.Answer number outcome.Applied (holding t (slot_of t.durable.index (op_key op)) m.client) in
          let same = pushes_rows t m.client b in
          pushes_current t m.client k b (λ n. refl) none_now
          (rows_change ((acknowledged s m.client).sessions m.client) s.rows m.client k (acked_now r request _ a here) t.rows
          (subst (λ rows. Stays s.rows rows m.client) same (on (λ e. refl))) (subst (λ rows. Stays rows s.rows m.client) same (no_new (SeizesLock number op) refl came)));
    };
    answers_again = λ r request number op seizes o a under some last is on came. let t = acknowledged s m.client in
        let b : PushBody = push.Answer number o (holding t (slot_of t.durable.index (op_key op)) m.client) in
        let same = pushes_durable t m.client b in record {
          early = λ i lt. absurd (not_early r request _ a (sym (ap (λ (d : Durable). inc_in d m.client) same) ∙ i) (let q = effect_epoch s m (AnswersAgain number op o) in omega (arith, q, lt)));
          now = λ e. pushes_current t m.client k b (λ n. refl) none_now (acked_now r request _ a (e ∙ effect_epoch s m (AnswersAgain number op o)));
        };
  })

pub effect_knows : (s : Server) (m : ToServer) (c : ℕ) (k : Client) → IsSound s → (m.client ≡ c → Heard s m k) → Knows s c k → Knows (effect s m (case_of s m)).server c k
effect_knows s m c k i f h = eq_cases m.client c
    (λ e. subst (λ d. Knows (effect s m (case_of s m)).server d k) e (own_cases s m k (f e) (subst (λ d. Knows s d k) (sym e) h) (effect_stays s m m.client i) (all_came s m i)))
    (λ ne. same_knows s (effect s m (case_of s m)).server c k (effect_epoch s m (case_of s m)) (other_inc s m (case_of s m) c (λ e. ne (sym e))) (other_session s m (case_of s m) c (λ e. ne (sym e)))
    (effect_stays s m c i (λ e. absurd (ne e)))
    (λ u x. ⊎_elim (λ (z : (j : ℕ) × In u (s.rows j).queue). record { slot = z.0; at = z.1; own = x.own }) (λ (z : (Rattle.krl_server.proofs.Invariant.WaitersAfter.asks (case_of s m) ≡ true) × (u.client ≡ m.client) × Rattle.krl_server.proofs.Invariant.WaitersAfter.IsAsked m u (case_of s m)). absurd (ne (sym z.1 ∙ x.own))) (all_came s m i x.slot u x.at)) h)

-- An answer to a first waiter

-- the session of the client that is answered
pub record IsPushed (s t : Server) (u : Waiter) : Type 0 where
  pub body : PushBody
  pub none : (s.sessions u.client).unacked ≡ None
  pub session : t.sessions u.client ≡ record (s.sessions u.client) { last_push = suc (s.sessions u.client).last_push; unacked = Some body }
  pub answers : answers_request u.req body ≡ true

pushes_now : (s : Server) (rows : Rows) (u : Waiter) (b : PushBody) → can_push (s.sessions u.client) ≡ true → answers_request u.req b ≡ true → IsPushed s (pushes (with_rows s rows) u.client b).server u
pushes_now s rows u b can is = let x = and_parts (not (is_some (s.sessions u.client).unacked)) (nat_lt (s.sessions u.client).last_push END) can in
    if_case (λ (y : Done). IsPushed s y.server u) (nat_lt (s.sessions u.client).last_push END) _ _
    (λ lt. record { body = b; none = none_of (s.sessions u.client).unacked x.0; session = session_here s.sessions u.client _; answers = is })
    (λ no. absurd (not_both _ x.1 no))

pub turn_pushes : (s : Server) (t : Turn) → next_turn s ≡ Some t → IsPushed s (answer_first s t).server t.waiter
turn_pushes s t e = if_both (λ (x : Done). IsPushed s x.server t.waiter) (asks_absent s.durable.index t.waiter) (tells_absent s t) (grants s t)
    (pushes_now s (front_dropped s.rows t.slot) t.waiter (push.Absent t.waiter.req t.waiter.point) can (eq-eqb t.waiter.req t.waiter.req refl))
    (pushes_now s (granted s.durable.reach s.durable.index s.rows t.slot) t.waiter (push.Grant t.waiter.req (holdings (with_rows s (granted s.durable.reach s.durable.index s.rows t.slot)) t.waiter.client (reached_slots s.durable.reach s.durable.index s.rows t.slot))) can (eq-eqb t.waiter.req t.waiter.req refl))
  where
    can : can_push (s.sessions t.waiter.client) ≡ true
    can = (and_parts (can_push (s.sessions t.waiter.client)) (asks_absent s.durable.index t.waiter || is_wanted_compatible s.rows t.slot t.waiter) (turn_is s t e).answerable).0

pub turn_knows : (s : Server) (t : Turn) (c : ℕ) (k : Client) → next_turn s ≡ Some t → IsTable s.durable.index s.rows → Knows s c k → Knows (answer_first s t).server c k
turn_knows s t c k e table h = eq_cases c t.waiter.client
    (λ f. subst (λ d. Knows (answer_first s t).server d k) (sym f) (own (subst (λ d. Knows s d k) f h)))
    (λ ne. same_knows s (answer_first s t).server c k (ap (λ (d : Durable). d.epoch) durable) (ap (λ (d : Durable). inc_in d c) durable) (turn_sessions s t c ne) (turn_stays s t e c ne) (turn_came s t e c) h)
  where
    durable : (answer_first s t).server.durable ≡ s.durable
    durable = server_keeps.turn_durable s t

    own : Knows s t.waiter.client k → Knows (answer_first s t).server t.waiter.client k
    own g = record {
      early = λ i lt. absurd ((g.early (sym (ap (λ (d : Durable). inc_in d t.waiter.client) durable) ∙ i) (let q = ap (λ (d : Durable). d.epoch) durable in omega (arith, q, lt))).away t.waiter (turn_stands s t e));
      now = λ f. let x = turn_pushes s t e in
          subst (λ y. Current y (answer_first s t).server.rows t.waiter.client k) (sym x.session)
          (answered_now (s.sessions t.waiter.client) s.rows t.waiter.client k (g.now (f ∙ ap (λ (d : Durable). d.epoch) durable)) x.body _ t.waiter x.none (turn_stands s t e) (turn_away s t e table) x.answers);
    }
