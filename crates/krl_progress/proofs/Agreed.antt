-- In each reachable world server and client agree on the client's lock request.
use Rattle.krl_world.proofs.Reaching.{by_reaching}
use Rattle.krl_progress.proofs.Names.{◌≡◌, ◌≢◌, ℕ, suc, ◌≤◌, inl, inr, ⊎_elim, ◌∙◌, Bool, true, false, Option, Some, None, List, [], ◌∷◌, ◌++◌, is_some, refl, sym, ap, subst, arith, nat_eq, if◌then◌else◌, eq-eqb, eqb-true, eqb-false, same_Some, In, in_both}
use Rattle.krl_progress.proofs.Names.{ToServer, ToClient, Client, Server, Durable, durable_of, ServerStep, start, nudge, Up, Down, State, ClientPlace, client_of, with_client, seated, served, opened, IsReachable, from_clients, from_server, AppliedWrite}
use Rattle.krl_queue.specs.declared.waiter.Waiter.{Waiter}
use Rattle.krl_queue.specs.Waiting.{first_of}
use Rattle.krl_table.specs.Rows.{waits}
use Rattle.krl_table.specs.Waiters.{waiter_at, place_of}
use Rattle.krl_table.specs.Sound.{IsTable}
use Rattle.krl_table.proofs.Invariant.Stands.{first_in}
use Rattle.krl_client.specs.Clients.{begun, is_waiting}
use Rattle.krl_client.specs.Ticks.{says_hello}
use Rattle.krl_server.specs.Servers.{incarnation_of}
use Rattle.krl_server.specs.Waits.{waiter_of}
use Rattle.krl_server.proofs.Functions.Rooms.{in_waits, waits_in}
use Rattle.krl_server.proofs.Functions.WaitersByClient.{waiter_waits}
use Rattle.krl_modes.proofs.Basics.{not_both}
use Rattle.krl_world.specs.declared.message.Message.TheVariants as message
use Rattle.krl_world.proofs.Refinement.Mirrors.{in_from_clients, not_from_clients, in_from_server, not_from_server}
use Rattle.krl_progress.specs.Requests.{untaken, queued, answered, RequestIsKnown, RequestsAreKnown}
use Rattle.krl_progress.proofs.Recovers.{next_reachable, same_up}
use Rattle.krl_progress.proofs.Standings.{standing}
use Rattle.krl_progress.proofs.CallsBack.{in_order}
use Rattle.krl_progress.proofs.Moves.{some_is}
use Rattle.krl_progress.proofs.Heard.{has_said, has_told}
use Rattle.krl_progress.proofs.Queues.{Stands, Away}
use Rattle.krl_progress.proofs.Doings.{request_said, Goes, Does, rests, goes, starts, ends, reads, nudges, stops, begins, does}
use Rattle.krl_progress.proofs.Knowing as know
use Rattle.krl_progress.proofs.Knowing.{Knows, Heard, Asks}
use Rattle.krl_progress.proofs.Known.{AllKnow, Within, AllWithin, Same, AllSame, step_knows, goes_knows, goes_within, goes_mine, nudge_unacked, step_same}
use Rattle.krl_progress.proofs.Later.{step_later}

pub record Agrees (u : State) : Type 0 where
  pub knows : AllKnow u
  pub within : AllWithin u
  pub same : AllSame u

-- the client at a place that is set
pub by_place : (u : State) (d : ℕ) (x : ClientPlace) (c : ℕ) (k : Client) (P : Type 0) → (c ≡ d → x.client ≡ Some k → P) → (c ≢ d → client_of u c ≡ Some k → P) → (if nat_eq c d then x else u.places c).client ≡ Some k → P
by_place u d x c k P f g e = by_test (nat_eq c d) refl e
  where
    by_test : (b : Bool) → nat_eq c d ≡ b → (if b then x else u.places c).client ≡ Some k → P
    by_test true i e = f (eqb-true c d i) e
    by_test false i e = g (eqb-false c d i) e

-- messages that a client sends change no push, and those that a server sends no request
same_by_clients : (u v : State) (s : Server) (c : ℕ) (ms : List ToServer) → v.sent ≡ u.sent ++ from_clients ms → Same u s c → Same v s c
same_by_clients u v s c ms e h o own at inc b b1 is f = h o own (⊎_elim (λ (x : In (message.ToClient o) u.sent). x) (λ (x : In (message.ToClient o) (from_clients ms)). absurd (not_from_clients o ms x)) (in_both u.sent (from_clients ms) (message.ToClient o) (subst (In (message.ToClient o)) e at))) inc b b1 is f

within_by_server : (u v : State) (c : ℕ) (k : Client) (outs : List ToClient) → v.sent ≡ u.sent ++ from_server outs → Within u c k → Within v c k
within_by_server u v c k outs e h m own at inc some r is now = h m own (⊎_elim (λ (x : In (message.ToServer m) u.sent). x) (λ (x : In (message.ToServer m) (from_server outs)). absurd (not_from_server m outs x)) (in_both u.sent (from_server outs) (message.ToServer m) (subst (In (message.ToServer m)) e at))) inc some r is now

-- messages of others, or that ask for no lock
within_by_clients : (u v : State) (c : ℕ) (k : Client) (ms : List ToServer) → v.sent ≡ u.sent ++ from_clients ms → ((m : ToServer) → In m ms → m.client ≡ c → request_said m.body ≤ k.req) → Within u c k → Within v c k
within_by_clients u v c k ms e f h m own at inc some r is now = ⊎_elim (λ (x : In (message.ToServer m) u.sent). h m own x inc some r is now)
    (λ (x : In (message.ToServer m) (from_clients ms)). let y = f m (in_from_clients m ms x) own in let z = ap request_said is in omega (arith, y, z))
    (in_both u.sent (from_clients ms) (message.ToServer m) (subst (In (message.ToServer m)) e at))

goes_on : (u : State) (d : ℕ) (k l : Client) (ms : List ToServer) → IsReachable u → IsReachable (with_client u d (Some l) ms) → client_of u d ≡ Some k → Goes u d k l ms → Agrees u → Agrees (with_client u d (Some l) ms)
goes_on u d k l ms ru rv i g h = record {
  knows = λ s c k1 up. by_place u d _ c k1 (Knows s c k1)
      (λ e f. subst (λ y. Knows s y k1) (sym e) (subst (Knows s d) (some_is l k1 f) (goes_knows u (with_client u d (Some l) ms) ru rv s up up d k i (h.same s d up) (h.knows s d k up i) l ms here g)))
      (λ ne f. h.knows s c k1 up f);
  within = λ c k1. by_place u d _ c k1 (Within (with_client u d (Some l) ms) c k1)
      (λ e f. subst (λ y. Within (with_client u d (Some l) ms) y k1) (sym e) (subst (Within (with_client u d (Some l) ms) d) (some_is l k1 f) (goes_within u (with_client u d (Some l) ms) d k l ms (has_said u d k ru i) (h.within d k i) refl g)))
      (λ ne f. within_by_clients u (with_client u d (Some l) ms) c k1 ms refl (λ m at own. absurd (ne (sym own ∙ goes_mine u d k l ms m g at ∙ (has_said u d k ru i).number))) (h.within c k1 f));
  same = λ s c up. same_by_clients u (with_client u d (Some l) ms) s c ms refl (h.same s c up);
}
  where
    here : client_of (with_client u d (Some l) ms) d ≡ Some l
    here = ap (λ b. (if b then (let x : ClientPlace = record { last_incarnation = (u.places d).last_incarnation; client = Some l } in x) else u.places d).client) (eq-eqb d d refl)

pub heard_of : (u : State) (s : Server) (c : ℕ) (k : Client) (m : ToServer) → IsReachable u → u.server ≡ Up s → client_of u c ≡ Some k → Within u c k → In (message.ToServer m) u.sent → m.client ≡ c → Heard s m k
heard_of u s c k m ru up runs within at own = let st = standing u s c k ru up runs in let x = has_said u c k ru runs in record {
  own = λ e. ap (incarnation_of s) own ∙ st.joined (let b = st.begun in omega (arith, b, e));
  hello = λ is. x.hellos m own at is;
  bye = λ is inc. x.byes m own at is inc;
  requests = λ inc r is. x.requests m own at inc r is;
  locks = λ inc r is now here. within m own at inc (let b = st.begun in omega (arith, b, here)) r is now;
}

reads_on : (u : State) (old new : Server) (m : ToServer) (outs : List ToClient) (writes : List AppliedWrite) → IsReachable u → u.server ≡ Up old → In (message.ToServer m) u.sent → ServerStep old m new outs → Agrees u → Agrees (served u (Up new) outs writes)
reads_on u old new m outs writes ru up at step h = let order = in_order u old ru up in record {
  knows = λ s c k e runs. subst (λ y. Knows y c k) (same_up new s e) (step_knows old new m outs c k order.0 order.1 step (λ own. heard_of u old c k m ru up runs (h.within c k runs) at own) (h.knows old c k up runs));
  within = λ c k runs. within_by_server u (served u (Up new) outs writes) c k outs refl (h.within c k runs);
  same = λ s c e. subst (λ y. Same (served u (Up new) outs writes) y c) (same_up new s e) (step_same u (served u (Up new) outs writes) old new c m outs (has_told u old c ru up) (h.same old c up) step (step_later old new m outs c step) refl);
}

nudges_on : (u : State) (s : Server) (d : ℕ) → u.server ≡ Up s → Agrees u → Agrees (served u (Up s) (nudge s d) [])
nudges_on u s d up h = record {
  knows = λ t c k e runs. h.knows t c k (up ∙ e) runs;
  within = λ c k runs. within_by_server u (served u (Up s) (nudge s d) []) c k (nudge s d) refl (h.within c k runs);
  same = λ t c e. subst (λ y. Same (served u (Up s) (nudge s d) []) y c) (same_up s t e)
      (λ o own at inc b b1 is f. ⊎_elim (λ (x : In (message.ToClient o) u.sent). h.same s c up o own x inc b b1 is f)
      (λ (x : In (message.ToClient o) (from_server (nudge s d))). let y = nudge_unacked s d o (in_from_server o (nudge s d) x) _ _ b is in same_Some b b1 (sym y ∙ ap (λ n. (s.sessions n).unacked) own ∙ f))
      (in_both u.sent (from_server (nudge s d)) (message.ToClient o) at));
}

abbrev pub new_place : State → ℕ → ClientPlace
new_place u d = record { last_incarnation = suc (u.places d).last_incarnation; client = Some (begun d (suc (u.places d).last_incarnation)) }

abbrev pub hello : State → ℕ → List ToServer
hello u d = says_hello (begun d (suc (u.places d).last_incarnation)) ∷ []

hello_asks : (u : State) (d : ℕ) (m : ToServer) (n : ℕ) → In m (hello u d) → request_said m.body ≤ n
hello_asks u d m n (inl e) = let x = ap (λ (y : ToServer). request_said y.body) e in omega (arith, x)
hello_asks u d m n (inr x) = absurd x

starts_on : (u : State) (d : ℕ) → IsReachable u → Agrees u → Agrees (seated u d (new_place u d) (hello u d))
starts_on u d ru h = record {
  knows = λ s c k up. by_place u d (new_place u d) c k (Knows s c k)
      (λ e f. subst (λ y. Knows s y k) (sym e) (subst (Knows s d) (some_is (begun d (suc (u.places d).last_incarnation)) k f) (record {
        early = λ inc lt. absurd (let x = (has_told u s d ru up).place in omega (arith, x, inc));
        now = λ g. absurd (let x = (in_order u s ru up).0.begun in omega (arith, x, g));
      })))
      (λ ne f. h.knows s c k up f);
  within = λ c k. by_place u d (new_place u d) c k (Within (seated u d (new_place u d) (hello u d)) c k)
      (λ e f m own at inc some r is now. absurd (let x : 0 ≡ k.epoch = ap (λ (y : Client). y.epoch) (some_is (begun d (suc (u.places d).last_incarnation)) k f) in omega (arith, x, some)))
      (λ ne f. within_by_clients u (seated u d (new_place u d) (hello u d)) c k (hello u d) refl (λ m at own. hello_asks u d m k.req at) (h.within c k f));
  same = λ s c up. same_by_clients u (seated u d (new_place u d) (hello u d)) s c (hello u d) refl (h.same s c up);
}

does_on : (u v : State) → IsReachable u → IsReachable v → Does u v → Agrees u → Agrees v
does_on u _ ru rv rests h = h
does_on u _ ru rv (goes d k l ms i g x) h = goes_on u d k l ms ru rv i g h
does_on u _ ru rv (starts d down) h = starts_on u d ru h
does_on u _ ru rv (ends d number ms most silent) h = record {
  knows = λ s c k up. by_place u d _ c k (Knows s c k) (λ e f. absurd (let bad : None ≡ Some k = f in cc)) (λ ne f. h.knows s c k up f);
  within = λ c k. by_place u d _ c k (Within (with_client u d None ms) c k) (λ e f. absurd (let bad : None ≡ Some k = f in cc))
      (λ ne f. within_by_clients u (with_client u d None ms) c k ms refl (λ m at own. let x = (most m at).1 in omega (arith, x)) (h.within c k f));
  same = λ s c up. same_by_clients u (with_client u d None ms) s c ms refl (h.same s c up);
}
does_on u _ ru rv (reads old new m outs writes up at step) h = reads_on u old new m outs writes ru up at step h
does_on u _ ru rv (nudges s c up) h = nudges_on u s c up h
does_on u _ ru rv (stops s up) h = record {
  knows = λ t c k e runs. absurd (cc);
  within = λ c k runs. within_by_server u (served u (Down s.durable) [] []) c k [] refl (h.within c k runs);
  same = λ t c e. absurd (cc);
}
does_on u _ ru rv (begins d up) h = record {
  knows = λ t c k e runs. subst (λ y. Knows y c k) (same_up (start d) t e) (record {
    early = λ inc lt. record { none_taken = refl; none_pushed = refl; away = λ w x. x.at };
    now = λ g. absurd (let x = (has_said u c k ru runs).epoch in let y = ap (λ n. (durable_of n).epoch) up in omega (arith, x, y, g));
  });
  within = λ c k runs. within_by_server u (served u (Up (start d)) [] []) c k [] refl (h.within c k runs);
  same = λ t c e. subst (λ y. Same (served u (Up (start d)) [] []) y c) (same_up (start d) t e) (λ o own at inc b b1 is f. absurd (cc));
}

first_agrees : (d : Durable) → Agrees (opened d)
unfolding opened
first_agrees d = record {
  knows = λ s c k up runs. absurd (cc);
  within = λ c k runs. absurd (cc);
  same = λ s c up o own at. absurd at;
}

pub agrees : (u : State) → IsReachable u → Agrees u
agrees = by_reaching Agrees (λ d h. first_agrees d) (λ w v s answer r h t. does_on w v r (next_reachable w v s answer r t) (does w v s answer t) h)
    (λ w d l r h e fits. record { knows = λ s c k up runs. absurd (cc); within = h.within; same = λ s c up o own at. absurd (cc) })

-- In the words of the server

module _ (s : Server) (c : ℕ) (table : IsTable s.durable.index s.rows) where
  pub waits_not : Away s.rows c → waits s.durable.index s.rows c ≡ false
  waits_not away = by_test (waits s.durable.index s.rows c) refl
    where
      by_test : (b : Bool) → waits s.durable.index s.rows c ≡ b → b ≡ false
      by_test true e = absurd (let x = waits_in s.durable.index s.rows c e in away x.1 (record { slot = x.0; at = x.2; own = x.3 }))
      by_test false e = refl

  has_waiter : (u : Waiter) → Stands s.rows c u → (v : Waiter) × (waiter_of s c ≡ Some v) × Stands s.rows c v
  has_waiter u x = by_place (place_of s.durable.index s.rows c) refl
    where
      found : is_some (waiter_of s c) ≡ true
      found = waiter_waits s.durable.index s.rows c ∙ subst (λ d. waits s.durable.index s.rows d ≡ true) x.own (in_waits s.durable.index s.rows x.slot u table x.at)

      by_first : (n : ℕ) (o : Option Waiter) → first_of c (s.rows n).queue ≡ o → waiter_of s c ≡ o → (v : Waiter) × (waiter_of s c ≡ Some v) × Stands s.rows c v
      by_first n None f e = absurd (not_both (is_some (waiter_of s c)) found (ap is_some e))
      by_first n (Some v) f e = let y = first_in c (s.rows n).queue v f in (v, e, record { slot = n; at = y.0; own = y.1 })

      by_place : (o : Option ℕ) → place_of s.durable.index s.rows c ≡ o → (v : Waiter) × (waiter_of s c ≡ Some v) × Stands s.rows c v
      by_place None e = absurd (not_both (is_some (waiter_of s c)) found (ap (λ o. is_some (waiter_at s.rows c o)) e))
      by_place (Some n) e = by_first n (first_of c (s.rows n).queue) refl (ap (waiter_at s.rows c) e)

  known_so : (k : Client) → Asks (s.sessions c) s.rows c k → RequestIsKnown s c k
  known_so k (know.idle w r a q) = record { waiting = λ e. absurd (not_both (is_waiting k.asked) e w); at_rest = λ e. (r, waits_not a) }
  known_so k (know.untaken w r a q) = record { waiting = λ e. untaken r (waits_not a); at_rest = λ e. absurd (not_both (is_waiting k.asked) w e) }
  known_so k (know.stands w r u y all q) = let x = has_waiter u y in record { waiting = λ e. queued x.0 r x.1 (all x.0 x.2); at_rest = λ e. absurd (not_both (is_waiting k.asked) w e) }
  known_so k (know.comes w r a b f n y) = record { waiting = λ e. answered b r (waits_not a) f n y; at_rest = λ e. absurd (not_both (is_waiting k.asked) w e) }

pub requests_are_known : RequestsAreKnown
requests_are_known w s c k h up runs now = known_so s c (in_order w s h up).1.table k (((agrees w h).knows s c k up runs).now now).request
