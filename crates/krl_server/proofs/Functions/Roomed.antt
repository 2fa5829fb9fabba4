-- The rooms for the grants of waiters, and what leaves them as good.
use Rattle.krl_server.proofs.Names.{◌≡◌, ◌≢◌, ℕ, ◌+◌, ◌≤◌, inl, inr, List, [], ◌∷◌, Option, Some, None, length, refl, sym, ap, subst, ◌∙◌, arith, eq-eqb, nat_eq, set, get_or-set_other, eq_cases, In, Waiter}
use Rattle.krl_server.proofs.Names.{front_of, behind_first, front_dropped, granted, granted_first, reached_slots, with_queue, grant_first, times, times_more, one, alone_here, Row, IsTable, Durable, Server, Turn, with_rows}
use Rattle.krl_server.proofs.Names.{holdings, grants, tells_absent, answer_first, next_turn}
use Rattle.std.proofs.lemmas.List.{length-set}
use Rattle.krl_messages.specs.declared.to_client.PushBody.TheVariants as push
use Rattle.krl_table.proofs.Invariant.Alone.{in_times}
use Rattle.krl_server.specs.GrantRooms.{slots_asked, slots_in, room_of, HasGrantRooms, NobodyCame}
use Rattle.krl_server.proofs.Grants.{granted_queue}
use Rattle.krl_server.proofs.Updates.{row_here, row_other}
use Rattle.krl_server.proofs.Invariant.Tabled.{kept_of}
use Rattle.krl_server.proofs.Outputs.Ends.{pushes_durable, pushes_rows, turn_durable, turn_empties, turn_empties_here}
use Rattle.krl_server.proofs.Functions.FirstTurn.{front_is}
use Rattle.krl_server.proofs.Functions.Rounds.{turn_row_beside}

-- there is as much room as before, or more
pub rooms_grow : (s : Server) (rooms more : List (Option ℕ)) → length more ≡ length rooms → ((c : ℕ) → room_of rooms c ≤ room_of more c) → HasGrantRooms s rooms → HasGrantRooms s more
rooms_grow s rooms more long grow h = record {
  full = long ∙ h.full;
  each = λ n u at. let x = h.each n u at in let y = grow u.client in omega (arith, x, y);
}

-- nobody has come to wait
pub rooms_stay : (s t : Server) (rooms : List (Option ℕ)) → NobodyCame s t → HasGrantRooms s rooms → HasGrantRooms t rooms
rooms_stay s t rooms came h = record {
  full = h.full;
  each = λ n u at. let x = came.before n u at in subst (λ r. slots_asked r u.point u.hi ≤ room_of rooms u.client) (sym came.reach) (h.each x.0 u x.1);
}

room_beside : (rooms : List (Option ℕ)) (c d : ℕ) → d ≢ c → room_of (set rooms c None) d ≡ room_of rooms d
room_beside rooms c d ne = ap slots_in (get_or-set_other rooms c d None None ne)

-- the first waiter u of the slot n no longer waits
module _ (s t : Server) (n : ℕ) (u : Waiter) (us : List Waiter) (queue : (s.rows n).queue ≡ u ∷ us) (reach : t.durable.reach ≡ s.durable.reach) (here : (t.rows n).queue ≡ us) (beside : (k : ℕ) → k ≢ n → (t.rows k).queue ≡ (s.rows k).queue) where
  before : (k : ℕ) (v : Waiter) → In v (t.rows k).queue → In v (s.rows k).queue
  before k v at = eq_cases k n
      (λ e. subst (In v) (sym (ap (λ x. (s.rows x).queue) e ∙ queue)) (inr (subst (In v) (ap (λ x. (t.rows x).queue) e ∙ here) at)))
      (λ ne. subst (In v) (beside k ne) at)

  nobody_came : NobodyCame s t
  nobody_came = record { reach = reach; before = λ k v at. (k, before k v at) }

  module _ (table : IsTable s.durable.index s.rows) where
    -- nor does its client at another place
    other : (k : ℕ) (v : Waiter) → In v (t.rows k).queue → v.client ≢ u.client
    other k v at same =
        let once = (kept_of s.durable.index s.rows table).alone u.client in
        eq_cases k n
        (λ e.
        let there = subst (λ c. 1 ≤ times c us) same (in_times us v (subst (In v) (ap (λ x. (t.rows x).queue) e ∙ here) at)) in
        let most = alone_here (λ j. times u.client (s.rows j).queue) once n in
        let whole = ap (times u.client) queue in
        let more = times_more u.client u us in
        let self : one (nat_eq u.client u.client) ≡ 1 = ap one (eq-eqb u.client u.client refl) in
        absurd (omega (arith, there, most, whole, more, self)))
        (λ ne.
        let there = subst (λ c. 1 ≤ times c (s.rows k).queue) same (in_times (s.rows k).queue v (before k v at)) in
        let first = in_times (s.rows n).queue u (subst (In u) (sym queue) (inl refl)) in
        let both = once k n ne in
        absurd (omega (arith, there, first, both)))

    rooms_without : (rooms : List (Option ℕ)) → HasGrantRooms s rooms → HasGrantRooms t (set rooms u.client None)
    rooms_without rooms h = record {
      full = length-set rooms u.client None ∙ h.full;
      each = λ k v at. subst (λ r. slots_asked r v.point v.hi ≤ room_of (set rooms u.client None) v.client) (sym reach)
          (subst (λ j. slots_asked s.durable.reach v.point v.hi ≤ j) (sym (room_beside rooms u.client v.client (other k v at))) (h.each k v (before k v at)));
    }

module _ (s : Server) (n : ℕ) (u : Waiter) (first : front_of (s.rows n).queue ≡ Some u) where
  queue : (s.rows n).queue ≡ u ∷ behind_first (s.rows n).queue
  queue = front_is (s.rows n).queue u first

  -- it is granted, with the room of its client
  pub granted_rooms : IsTable s.durable.index s.rows → (rooms : List (Option ℕ)) → HasGrantRooms s rooms → HasGrantRooms (grants s (record { slot = n; waiter = u })).server (set rooms u.client None)
  granted_rooms table rooms h =
      let r = s.durable.reach in
      let m = s.durable.index in
      let mid = with_rows s (granted r m s.rows n) in
      let body = push.Grant u.req (holdings mid u.client (reached_slots r m s.rows n)) in
      let rows = pushes_rows mid u.client body in
      rooms_without s (grants s (record { slot = n; waiter = u })).server n u (behind_first (s.rows n).queue) queue
      (ap (λ (d : Durable). d.reach) (pushes_durable mid u.client body))
      (ap (λ q. (q n).queue) rows ∙ granted_queue r m s.rows n n ∙ ap (λ (x : Row). x.queue) (row_here s.rows n (grant_first (s.rows n) (s.rows n).queue)) ∙ ap (λ q. (grant_first (s.rows n) q).queue) queue)
      (λ k ne. ap (λ q. (q k).queue) rows ∙ granted_queue r m s.rows n k ∙ ap (λ (x : Row). x.queue) (row_other s.rows n (grant_first (s.rows n) (s.rows n).queue) k ne))
      table rooms h

  -- there is no entry for it
  pub absent_rooms : (rooms : List (Option ℕ)) → HasGrantRooms s rooms → HasGrantRooms (tells_absent s (record { slot = n; waiter = u })).server rooms
  absent_rooms rooms h =
      let mid = with_rows s (front_dropped s.rows n) in
      let body = push.Absent u.req u.point in
      let rows = pushes_rows mid u.client body in
      let row = with_queue (s.rows n) (behind_first (s.rows n).queue) in
      let t = (tells_absent s (record { slot = n; waiter = u })).server in
      rooms_stay s t rooms
      (nobody_came s t n u (behind_first (s.rows n).queue) queue
      (ap (λ (d : Durable). d.reach) (pushes_durable mid u.client body))
      (ap (λ q. (q n).queue) rows ∙ ap (λ (x : Row). x.queue) (row_here s.rows n row))
      (λ k ne. ap (λ q. (q k).queue) rows ∙ ap (λ (x : Row). x.queue) (row_other s.rows n row k ne)))
      h

-- q is s with a waiter that is the only one at the slot n, and is answered
pub alone_answered : (s q : Server) (n : ℕ) (turn : Turn) → q.durable ≡ s.durable → next_turn q ≡ Some turn → turn.slot ≡ n → length (q.rows n).queue ≡ 1 → ((k : ℕ) → k ≢ n → (q.rows k).queue ≡ (s.rows k).queue) → NobodyCame s (answer_first q turn).server
alone_answered s q n turn durable next slot alone beside = record {
  reach = ap (λ (d : Durable). d.reach) (turn_durable q turn ∙ durable);
  before = λ k v at. (
    k,
    eq_cases k n
        (λ e. absurd (subst (In v) (turn_empties_here q turn next k (ap (λ x. length (q.rows x).queue) e ∙ alone) (e ∙ sym slot)) at))
        (λ ne. subst (In v) (beside k ne) (still k ne v at)),
  );
}
  where
    still : (k : ℕ) → k ≢ n → (v : Waiter) → In v ((answer_first q turn).server.rows k).queue → In v (q.rows k).queue
    still k ne v at = by_queue (q.rows k).queue refl
      where
        by_queue : (us : List Waiter) → (q.rows k).queue ≡ us → In v (q.rows k).queue
        by_queue [] e = absurd (subst (In v) (turn_empties q turn next k e) at)
        by_queue (w ∷ ws) e = subst (λ (r : Row). In v r.queue) (turn_row_beside q turn k w ws (λ f. ne (f ∙ slot)) e) at

-- no one waits at first
pub no_rooms : (s : Server) (rooms : List (Option ℕ)) → ((n : ℕ) → (s.rows n).queue ≡ []) → length rooms ≡ 64 → HasGrantRooms s rooms
no_rooms s rooms none full = record { full = full; each = λ n u at. absurd (subst (In u) (none n) at) }
