-- What a change of the state means.
use Rattle.std.proofs.Common.{◌≡◌, ℕ, suc, ◌+◌, ◌≤◌, ◌<◌, Bool, true, false, Some, None, List, [], ◌∷◌, length, set, refl, sym, ap, subst, ◌∙◌, nat_eq, add-one}
use Rattle.krl_server.proofs.Names.{lt-ltb, le-ltb, fun_ext, get_or-set_same, get_or-set_other, if◌then◌else◌, END, PushBody, eq_cases, Waiter, Rows, enqueued, KeptTable, rows_of, Session, Server}
use Rattle.krl_server.proofs.Names.{blank_session, set_session, Done, with_session, push_to, pushes, silent, acknowledged, queues, State, sessions_of, meaning}
use Rattle.krl_server.proofs.Updates.{session_here, session_other}

-- another session for one client
pub sessions_set : (sessions : List Session) (c : ℕ) (x : Session) → c < length sessions → sessions_of (set sessions c x) ≡ set_session (sessions_of sessions) c x
sessions_set sessions c x lt = fun_ext (λ d. eq_cases d c
    (λ e. subst (λ y. sessions_of (set sessions c x) y ≡ set_session (sessions_of sessions) c x y) (sym e) (get_or-set_same sessions c x blank_session lt ∙ sym (session_here (sessions_of sessions) c x)))
    (λ ne. get_or-set_other sessions c d x blank_session ne ∙ sym (session_other (sessions_of sessions) c d x ne)))

-- a push whose number is not spent
pub pushes_next : (s : Server) (c : ℕ) (body : PushBody) → (s.sessions c).last_push < END → pushes s c body ≡ (record { server = with_session s c (record (s.sessions c) { last_push = suc (s.sessions c).last_push; unacked = Some body }); outs = push_to s c (suc (s.sessions c).last_push) body ∷ [] })
pushes_next s c body lt = ap (λ b. if b then (let x : Done = record { server = with_session s c (record (s.sessions c) { last_push = suc (s.sessions c).last_push; unacked = Some body }); outs = push_to s c (suc (s.sessions c).last_push) body ∷ [] } in x) else silent s) (lt-ltb (s.sessions c).last_push END lt)

-- and one whose number is
pub pushes_none : (s : Server) (c : ℕ) (body : PushBody) → END ≤ (s.sessions c).last_push → pushes s c body ≡ silent s
pushes_none s c body le = ap (λ b. if b then (let x : Done = record { server = with_session s c (record (s.sessions c) { last_push = suc (s.sessions c).last_push; unacked = Some body }); outs = push_to s c (suc (s.sessions c).last_push) body ∷ [] } in x) else silent s) (le-ltb (s.sessions c).last_push END le)

-- the state after such a push
pub pushed_means : (st : State) (c : ℕ) (body : PushBody) → c < length st.sessions → (sessions_of st.sessions c).last_push < END → meaning (record st { sessions = set st.sessions c (record (sessions_of st.sessions c) { last_push = (sessions_of st.sessions c).last_push + 1; unacked = Some body }) }) ≡ (pushes (meaning st) c body).server
pushed_means st c body lt room =
    let x = sessions_of st.sessions c in
    ap (λ n. meaning (record st { sessions = set st.sessions c (record x { last_push = n; unacked = Some body }) })) (add-one x.last_push)
    ∙ ap (λ ls. record (meaning st) { sessions = ls }) (sessions_set st.sessions c (record x { last_push = suc x.last_push; unacked = Some body }) lt)
    ∙ sym (ap (λ d. d.server) (pushes_next (meaning st) c body room))

pub set_twice : (sessions : ℕ → Session) (c : ℕ) (x y : Session) →
    set_session (set_session sessions c x) c y ≡ set_session sessions c y
set_twice sessions c x y = fun_ext (λ d. by_test (nat_eq d c) d)
  where
    by_test : (b : Bool) (d : ℕ) → (if b then y else (if b then x else sessions d)) ≡ (if b then y else sessions d)
    by_test true d = refl
    by_test false d = refl

-- a lock request is taken
pub queued_means : (st : State) (u w : Waiter) (t : KeptTable) → w ≡ u → w.client < length st.sessions → ((n : ℕ) → rows_of t.map n ≡ enqueued st.durable.index (rows_of st.table.map) u n) → meaning (record st { table = t; sessions = set st.sessions w.client (record (sessions_of st.sessions w.client) { unacked = None; last_request = w.req }) }) ≡ queues (acknowledged (meaning st) u.client) u
queued_means st u w t same room rows =
    ap (λ (r : Rows). let s : Server = record { durable = st.durable; rows = r; sessions = sessions_of (set st.sessions w.client (noted w)); missing = st.missing } in s) (fun_ext rows)
    ∙ ap (λ ls. let s : Server = record { durable = st.durable; rows = enqueued st.durable.index (rows_of st.table.map) u; sessions = ls; missing = st.missing } in s)
    (sessions_set st.sessions w.client (noted w) room
    ∙ ap (λ v. set_session (sessions_of st.sessions) v.client (noted v)) same
    ∙ sym (set_twice (sessions_of st.sessions) u.client acknowledged_session (noted u))
    ∙ ap (λ x. set_session (set_session (sessions_of st.sessions) u.client acknowledged_session) u.client (record x { last_request = u.req })) (sym (session_here (sessions_of st.sessions) u.client acknowledged_session)))
  where
    acknowledged_session : Session
    acknowledged_session = record { last_push = (sessions_of st.sessions u.client).last_push; unacked = None; last_request = (sessions_of st.sessions u.client).last_request }

    noted : Waiter → Session
    noted v = record { last_push = (sessions_of st.sessions v.client).last_push; unacked = None; last_request = v.req }
