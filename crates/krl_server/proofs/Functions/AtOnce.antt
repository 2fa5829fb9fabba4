-- A grant at once, while nobody waits on the slot: it is what a place in the queue and a turn would give.
use Rattle.std.proofs.Common.{◌≡◌, ◌≢◌, ℕ, suc, ◌*◌, ◌≤◌, ◌<◌, Bool, true, false, not, ◌&&◌, ◌||◌, nat_eq, Some, None, List, [], ◌∷◌, ◌++◌, length, refl, sym, ap, subst, ◌∙◌, arith}
use Rattle.krl_server.proofs.Names.{lt-ltb, and_parts, fun_ext, is_some, set, if◌then◌else◌, END, Mode, at_most, compatible, ToClient, ToServer, In, Waiter, eq_cases, Index, slots, slot_of}
use Rattle.krl_server.proofs.Names.{Row, Rows, front_of, all_below, max_clients, enqueued, queue_with, with_queue, wanted, granted, nobody_waits, is_granted_at_once, KeptTable, rows_of}
use Rattle.krl_server.proofs.Names.{asks_absent, is_wanted_compatible, first_reply, IsTable, WaitsNowhere, Session, State, Server, set_session, is_recovering, sessions_of, meaning, meant, Waits}
use Rattle.krl_server.proofs.Names.{case_of, with_rows, acknowledged, queues, effect, can_push, next_turn, answer_first, grants, AnswersWaiters, stops, goes_on, callbacks, Calls, Ends}
use Rattle.krl_server.proofs.Names.{serves, following, ServerStep, IsSound, turn_here, HasTurned, HasAnsweredFirst, IsServer, waiting_clients, Sent, Sends}
use Rattle.krl_modes.specs.declared.mode.Mode.TheVariants as mode
use Rattle.krl_table.specs.declared.reply.Reply.TheVariants as reply
use Rattle.krl_server.specs.declared.case.Case.{Case as Found}
use Rattle.krl_server.specs.declared.case.Case.TheVariants as found
use Rattle.krl_server.proofs.Updates.{row_here, row_other, session_here, session_other}
use Rattle.krl_server.proofs.Functions.StateChanges.{sessions_set, set_twice}
use Rattle.krl_server.proofs.Grants.{slot_always}
use Rattle.krl_server.proofs.Functions.FirstTurn.{answered_grant}
use Rattle.krl_server.proofs.Functions.Rounds.{IsRound, round, empty_none, none_among, none_here, still_none, turn_can, turn_row_beside}
use Rattle.krl_server.proofs.Outputs.Ends.{turn_durable, turn_empties, turn_empties_here}
use Rattle.krl_server.proofs.Invariant.Sounds.{effect_sound}
use Rattle.krl_server.proofs.Invariant.Kept.{effect_table}
use Rattle.krl_server.proofs.Invariant.WaitersAfter.{all_came}
use Rattle.krl_server.proofs.Functions.Facts.{facts_of, waits_nowhere}
use Rattle.krl_server.proofs.Functions.Rooms.{few_waiting, one_more_client}
use Rattle.krl_table.proofs.Rows.Waiters.{some_first}
use Rattle.krl_server.proofs.Outputs.Numbers.{calls_few}
use Rattle.krl_server.proofs.Functions.Roomed.{alone_answered}
use Rattle.krl_server.specs.GrantRooms.{NobodyCame}

not_true : (b : Bool) → true ≡ not b → b ≡ false
not_true true e = absurd (cc)
not_true false e = refl

alone : (row : Row) (u : Waiter) → row.queue ≡ [] → queue_with row u ≡ u ∷ []
alone row u e = by_held (at_most (row.modes u.client) mode.N)
  where
    by_held : (b : Bool) → (if b then row.queue ++ (u ∷ []) else u ∷ row.queue) ≡ u ∷ []
    by_held true = ap (λ q. q ++ (u ∷ [])) e
    by_held false = ap (λ q. u ∷ q) e

-- The waiter in its queue

module _ (m : Index) (rows : Rows) (u : Waiter) where
  abbrev at : ℕ
  at = slot_of m u.point

  row_is : enqueued m rows u (slot_of m u.point) ≡ with_queue (rows (slot_of m u.point)) (queue_with (rows (slot_of m u.point)) u)
  row_is = row_here rows (slot_of m u.point) (with_queue (rows (slot_of m u.point)) (queue_with (rows (slot_of m u.point)) u))

  pub queue_here : (rows (slot_of m u.point)).queue ≡ [] → (enqueued m rows u (slot_of m u.point)).queue ≡ u ∷ []
  queue_here e = ap (λ r. r.queue) row_is ∙ alone (rows (slot_of m u.point)) u e

  pub queue_besides : (k : ℕ) → k ≢ slot_of m u.point → (enqueued m rows u k).queue ≡ (rows k).queue
  queue_besides k ne = ap (λ r. r.queue) (row_other rows (slot_of m u.point) (with_queue (rows (slot_of m u.point)) (queue_with (rows (slot_of m u.point)) u)) k ne)

  can_here : is_wanted_compatible (enqueued m rows u) (slot_of m u.point) u ≡ is_wanted_compatible rows (slot_of m u.point) u
  can_here = ap (λ (r : Row). all_below max_clients (λ d. nat_eq d u.client || compatible (wanted r u) (r.modes d))) row_is

  -- a grant at once is sent only if nobody waits
  pub free_here : true ≡ is_granted_at_once m rows u → (rows (slot_of m u.point)).queue ≡ []
  free_here e = by_queue (rows (slot_of m u.point)).queue (and_parts (nobody_waits (rows (slot_of m u.point)).queue) (is_wanted_compatible rows (slot_of m u.point) u && not (asks_absent m u)) (sym e)).0
    where
      by_queue : (us : List Waiter) → nobody_waits us ≡ true → us ≡ []
      by_queue [] f = refl
      by_queue (v ∷ vs) f = absurd (cc)

  pub reply_here : (rows (slot_of m u.point)).queue ≡ [] → true ≡ is_granted_at_once m rows u → first_reply m (enqueued m rows u) (slot_of m u.point) (enqueued m rows u (slot_of m u.point)).queue ≡ Some reply.Grant
  reply_here none e =
      let n = slot_of m u.point in
      let a = and_parts (nobody_waits (rows n).queue) (is_wanted_compatible rows n u
      && not (asks_absent m u)) (sym e) in
      let b = and_parts (is_wanted_compatible rows n u) (not (asks_absent m u)) a.1 in
      ap (λ q. first_reply m (enqueued m rows u) n q) (queue_here none)
      ∙ ap (λ x. if x then Some reply.Absent else (if is_wanted_compatible (enqueued m rows u) n u then Some reply.Grant else None)) (not_true (asks_absent m u) (sym b.1))
      ∙ ap (λ x. if x then Some reply.Grant else None) (can_here ∙ b.0)

-- The sessions

noted_sessions : (sessions : ℕ → Session) (u : Waiter) → set_session sessions u.client (record { last_push = (sessions u.client).last_push; unacked = None; last_request = u.req }) ≡ set_session (set_session sessions u.client (record (sessions u.client) { unacked = None })) u.client (record (set_session sessions u.client (record (sessions u.client) { unacked = None }) u.client) { last_request = u.req })
noted_sessions sessions u =
    sym (set_twice sessions u.client (record (sessions u.client) { unacked = None }) (record { last_push = (sessions u.client).last_push; unacked = None; last_request = u.req }))
    ∙ ap (λ x. set_session (set_session sessions u.client (record (sessions u.client) { unacked = None })) u.client (record x { last_request = u.req })) (sym (session_here sessions u.client (record (sessions u.client) { unacked = None })))

can_again : (s : Server) (u : Waiter) → (s.sessions u.client).last_push < END → true ≡ can_push ((queues (acknowledged s u.client) u).sessions u.client)
can_again s u lt =
    sym (ap can_push (sym (ap (λ ls. ls u.client) (noted_sessions s.sessions u)) ∙ session_here s.sessions u.client (record { last_push = (s.sessions u.client).last_push; unacked = None; last_request = u.req }))
    ∙ lt-ltb (s.sessions u.client).last_push END lt)

-- the state before the push
abbrev pub noted : State → Waiter → KeptTable → State
noted st u t = record st { table = t; sessions = set st.sessions u.client (record (sessions_of st.sessions u.client) { unacked = None; last_request = u.req }) }

module _ (st : State) (u : Waiter) (t : KeptTable) (room : u.client < length st.sessions) (rows : (n : ℕ) → rows_of t.map n ≡ granted st.durable.reach st.durable.index (enqueued st.durable.index (rows_of st.table.map) u) (slot_of st.durable.index u.point) n) where
  pub granted_means : meaning (noted st u t) ≡ with_rows (queues (acknowledged (meaning st) u.client) u) (granted st.durable.reach st.durable.index (enqueued st.durable.index (rows_of st.table.map) u) (slot_of st.durable.index u.point))
  granted_means =
      ap (λ (r : Rows). let s : Server = record { durable = st.durable; rows = r; sessions = sessions_of (set st.sessions u.client (record { last_push = (sessions_of st.sessions u.client).last_push; unacked = None; last_request = u.req })); missing = st.missing } in s) (fun_ext rows)
      ∙ ap (λ ls. let s : Server = record { durable = st.durable; rows = granted st.durable.reach st.durable.index (enqueued st.durable.index (rows_of st.table.map) u) (slot_of st.durable.index u.point); sessions = ls; missing = st.missing } in s)
      (sessions_set st.sessions u.client (record { last_push = (sessions_of st.sessions u.client).last_push; unacked = None; last_request = u.req }) room ∙ noted_sessions (sessions_of st.sessions) u)

-- the turn
pub granted_turn : (s t : Server) (u : Waiter) (old new : Sent) → (s.sessions u.client).last_push < END → true ≡ is_granted_at_once s.durable.index s.rows u → t ≡ (grants (queues (acknowledged s u.client) u) (record { slot = slot_of s.durable.index u.point; waiter = u })).server → Sends old new (grants (queues (acknowledged s u.client) u) (record { slot = slot_of s.durable.index u.point; waiter = u })).outs → HasAnsweredFirst (queues (acknowledged s u.client) u) t (slot_of s.durable.index u.point) old new
granted_turn s t u old new lt e server sends =
    let none = free_here s.durable.index s.rows u e in
    answered_grant (queues (acknowledged s u.client) u) (slot_of s.durable.index u.point) u (ap (λ q. front_of q) (queue_here s.durable.index s.rows u none)) true (can_again s u lt) t old new
    (sym (reply_here s.durable.index s.rows u none e)) server sends

-- The step

module _ (q t : Server) (n : ℕ) (u : Waiter) (o : ToClient) (sound : IsSound q) (table : IsTable q.durable.index q.rows) (there : Rattle.krl_durable.specs.Index.is_slot q.durable.index n ≡ true) (one : (q.rows n).queue ≡ u ∷ []) (none : (k : ℕ) → k ≢ n → turn_here q k ≡ None) (turned : HasTurned q t n o) where
  pub only_round : IsRound q t n o
  only_round = round q t n n o sound table (λ k lt. none k (λ e. omega (arith, lt, e))) there (λ k le lt. absurd (omega (arith, le, lt))) turned

  -- the others can be answered no more than before
  beside : (k : ℕ) → k ≢ n → (us : List Waiter) → (q.rows k).queue ≡ us → turn_here (answer_first q only_round.turn).server k ≡ None
  beside k ne [] e = empty_none (answer_first q only_round.turn).server k (turn_empties q only_round.turn only_round.next k e)
  beside k ne (v ∷ vs) e = still_none q (answer_first q only_round.turn).server k (turn_durable q only_round.turn) (turn_row_beside q only_round.turn k v vs (λ f. ne (f ∙ only_round.slot)) e) (λ w at. turn_can q only_round.turn w.client) (none k ne)

  none_left : (k : ℕ) → turn_here t k ≡ None
  none_left k = subst (λ x. turn_here x k ≡ None) (sym only_round.is) (eq_cases k n
      (λ e. empty_none (answer_first q only_round.turn).server k (turn_empties_here q only_round.turn only_round.next k (ap (λ q. length q) (ap (λ x. (q.rows x).queue) e ∙ one)) (let a = only_round.slot in e ∙ sym a)))
      (λ ne. beside k ne (q.rows k).queue refl))

  pub answered_alone : AnswersWaiters q t (o ∷ [])
  answered_alone =
      subst (λ x. AnswersWaiters q t (x ++ [])) only_round.outs
      (goes_on q t only_round.turn [] only_round.next (subst (λ x. AnswersWaiters x t []) only_round.is (stops t (none_among t (slots t.durable.index) none_left))))

-- a place in the queue lets nobody be answered at another slot
module _ (s : Server) (u : Waiter) (table : IsTable s.durable.index s.rows) (settled : next_turn s ≡ None) (free : WaitsNowhere s.rows u.client) where
  queued_row : (k : ℕ) → k ≢ slot_of s.durable.index u.point → (queues (acknowledged s u.client) u).rows k ≡ s.rows k
  queued_row k ne = row_other s.rows (slot_of s.durable.index u.point) (with_queue (s.rows (slot_of s.durable.index u.point)) (queue_with (s.rows (slot_of s.durable.index u.point)) u)) k ne

  other_client : (k : ℕ) (v : Waiter) → In v (s.rows k).queue → v.client ≢ u.client
  other_client k v at e =
      let none : true ≡ false = sym (some_first u.client (s.rows k).queue v at e) ∙ ap is_some (free k) in
      absurd (cc)

  other_session : (d : ℕ) → d ≢ u.client → (queues (acknowledged s u.client) u).sessions d ≡ s.sessions d
  other_session d ne =
      session_other (acknowledged s u.client).sessions u.client d (record ((acknowledged s u.client).sessions u.client) { last_request = u.req }) ne
      ∙ session_other s.sessions u.client d (record (s.sessions u.client) { unacked = None }) ne

  pub none_compatible : (k : ℕ) → k ≢ slot_of s.durable.index u.point →
      turn_here (queues (acknowledged s u.client) u) k ≡ None
  none_compatible k ne = still_none s (queues (acknowledged s u.client) u) k refl (queued_row k ne)
      (λ v at can. sym (ap can_push (other_session v.client (other_client k v at))) ∙ can) (none_here s table settled k)

-- The server s that takes the lock became t, and o reports the grant
pub record IsAtOnce (s : Server) (m : ToServer) (t : Server) (o : ToClient) : Type 0 where
  pub step : ServerStep s m t (o ∷ callbacks t)
  pub sound : IsSound t
  pub few : length (callbacks t) ≤ 63 * waiting_clients s
  pub came : NobodyCame s t

pub steps_at_once : (s : Server) (m : ToServer) (req point hi : ℕ) (g : Mode) (t : Server) (o : ToClient) → IsSound s → IsTable s.durable.index s.rows → case_of s m ≡ Waits req point hi g → is_recovering s.missing ≡ false → next_turn s ≡ None → WaitsNowhere s.rows m.client → (s.rows (slot_of s.durable.index point)).queue ≡ [] → HasTurned (queues (acknowledged s m.client) (record { client = m.client; req = req; point = point; hi = hi; mode = g })) t (slot_of s.durable.index point) o → IsAtOnce s m t o
steps_at_once s m req point hi g t o sound table e serving settled free empty turned =
    let u : Waiter = record { client = m.client; req = req; point = point; hi = hi; mode = g } in
    let q = queues (acknowledged s m.client) u in
    let n = slot_of s.durable.index point in
    let q_sound : IsSound q = subst (λ k. IsSound (effect s m k).server) e (effect_sound s m sound) in
    let q_table : IsTable q.durable.index q.rows = subst (λ k. IsTable (effect s m k).server.durable.index (effect s m k).server.rows) e (effect_table s m sound table) in
    let one = queue_here s.durable.index s.rows u empty in
    let none : (k : ℕ) → k ≢ n → turn_here q k ≡ None = none_compatible s u table settled free in
    let there = slot_always s.durable.index point in
    let r : IsRound q t n o = only_round q t n u o q_sound q_table there one none turned in
    let answered = answered_alone q t n u o q_sound q_table there one none turned in
    let more : waiting_clients q ≤ suc (waiting_clients s) = subst (λ k. waiting_clients (effect s m k).server ≤ suc (waiting_clients s)) e (one_more_client s m (case_of s m) (all_came s m sound) table) in
    let all = few_waiting q q_sound q_table in
    let less = r.less in
    let calls = calls_few t Calls r.sound in
    record {
      step = subst (λ k. Ends (effect s m k) (following k) t (o ∷ callbacks t)) (sym e) (serves t (o ∷ []) (λ x. absurd (cc)) serving answered);
      sound = r.sound;
      few = omega (arith, more, all, less, calls);
      came = subst (NobodyCame s) (sym r.is) (alone_answered s q n r.turn refl r.next r.slot (ap (λ us. length us) one) (queue_besides s.durable.index s.rows u));
    }

-- by the case that the code found
pub made_at_once : (st : State) (m : ToServer) (case : Found) (req point hi : ℕ) (g : Mode) (t : Server) (o : ToClient) → IsServer st → meant (meaning st) m.client m.body case ≡ case_of (meaning st) m → case ≡ found.Waits req point hi g → is_recovering st.missing ≡ false → HasTurned (queues (acknowledged (meaning st) m.client) (record { client = m.client; req = req; point = point; hi = hi; mode = g })) t (slot_of st.durable.index point) o → ((meaning st).rows (slot_of st.durable.index point)).queue ≡ [] → IsAtOnce (meaning st) m t o
made_at_once st m case req point hi g t o i e is serving turned empty =
    let s = meaning st in
    steps_at_once s m req point hi g t o i.sound i.ordered.table (sym e ∙ ap (meant s m.client m.body) is) serving (i.settled serving)
    (waits_nowhere s.durable.index s.rows m.client i.ordered.table (facts_of s m case (found.Waits req point hi g) e is).free) empty turned
