-- Each answer to a first waiter.
use Rattle.std.specs.Prelude.{◌-◌}
use Rattle.krl_refinement.proofs.Names.{◌≡◌, ◌≢◌, ℕ, ◌≤◌, ◌<◌, Bool, true, false, not, ◌||◌, Some, List, [], ◌∷◌, inl, refl, sym, ap, subst, ◌∙◌, arith, and_parts, none-some, AllByRecursion, END}
use Rattle.krl_refinement.proofs.Names.{RangePart, KeyPart, range_of, key_of, In, Waiter, Index, is_slot, record_of, Row, Rows, max_clients, mode_at, column, set_row, set_mode, range_at, key_at, with_mode, with_queue}
use Rattle.krl_refinement.proofs.Names.{wanted, behind_first, front_dropped, raised, raised_on, RangeAtMost, KeyAtMost, RangesAgree, KeysAgree, Link, IsSlot, Logged, Steps, none, more, WorldInv}
use Rattle.krl_refinement.proofs.Names.{grant_raises, put, put_changed, heard_kept, steps_on, world_steps, Server, lists, with_rows, holdings, pushes, IsSound, slot_here, slot_high, is_slot_true}
use Rattle.krl_refinement.proofs.Names.{is_slot_false, same_range, same_key, row_here, row_other, mode_here, mode_other, row_modes, pushes_serve, one_sound, at_first, stayed_on, dropped_is}
use Rattle.krl_refinement.proofs.Names.{drop_modes, if_case, none_of, LinkShows, IsHeardOf, Shows, view, world_of}
use Rattle.std.specs.Prelude.{nat_lt, is_some}
use Rattle.krl_messages.specs.declared.to_client.PushBody.TheVariants as push
use Rattle.krl_table.specs.Grants.{reached_after, reached_slots, granted}
use Rattle.krl_table.specs.Replies.{asks_absent, is_wanted_compatible}
use Rattle.krl_table.proofs.Invariant.Compatible.{or_true}
use Rattle.krl_machine.specs.Links as links
use Rattle.krl_machine.specs.Tables as machine
use Rattle.krl_server.specs.Answering.{can_push, Turn, next_turn, answer_first}
use Rattle.krl_server.proofs.Grants.{raised_queue, along, AreSlotsAfter, taken_slots, slot_near, slots_ascend, holdings_whole, granted_is, reached_is}
use Rattle.krl_server.proofs.Turns.{turn_is}
use Rattle.krl_refinement.proofs.Server.Meaning.{range_is, key_is}
use Rattle.krl_refinement.proofs.Server.Follows.{Goes, steps_then, put_client, put_shows, relink, not_two, not_recovering, record_kept}
use Rattle.krl_refinement.proofs.Server.Pushes.{pushes_on}
use Rattle.krl_refinement.proofs.Server.Judged.{row_shows, holdings_say}
use Rattle.krl_refinement.proofs.Server.Agreeing.{join_above, compatible_agrees}

-- The rows of one client rise

-- the machine follows, up to these rows
pub record Raises (s : Server) (of : ℕ → Link) (log : List Logged) (c : ℕ) (rows : Rows) : Type 0 where
  pub after : ℕ → Link
  pub steps : Steps (world_of s of log) (world_of (with_rows s rows) after log)
  pub shows : Shows (with_rows s rows) after
  pub sound : IsSound (with_rows s rows)
  pub heard : IsHeardOf (view s) (after c)
  pub clients : (d : ℕ) → (after d).client ≡ (of d).client
  -- in its link nothing but its row is another
  pub range : ℕ → RangePart
  pub key : ℕ → KeyPart
  pub here : after c ≡ record (of c) { top_range = range; top_key = key }

-- one row of the client c is another, in which its mode is not below the old one and agrees with those of all others
module _ (s : Server) (i : IsSound s) (c n : ℕ) (row : Row) (slot : IsSlot (view s) n) (rest : (d : ℕ) → d ≢ c → row.modes d ≡ mode_at s.rows n d) (stayed : (m : ℕ) (v : Waiter) → In v (set_row s.rows n row m).queue → In v (s.rows m).queue) where
  abbrev to : Rows
  to = set_row s.rows n row

  others : (d : ℕ) → d ≢ c → (m : ℕ) → mode_at s.rows m d ≡ mode_at to m d
  others d ne m = row_modes s.rows n row d (sym (rest d ne)) m

  column_here : column to c n ≡ row.modes c
  column_here = ap (λ r. r.modes c) (row_here s.rows n row)

  pub one_raise : (of : ℕ → Link) (log : List Logged) → c < max_clients → WorldInv (world_of s of log) → (view s).phase ≡ links.Serving → Shows s of → IsHeardOf (view s) (of c) → RangeAtMost (range_of (mode_at s.rows n c)) (range_of (row.modes c)) × KeyAtMost (key_of (mode_at s.rows n c)) (key_of (row.modes c)) → ((d : ℕ) → d ≢ c → RangesAgree (range_of (row.modes c)) (range_of (mode_at s.rows n d)) × KeysAgree (key_of (row.modes c)) (key_of (mode_at s.rows n d))) → Raises s of log c to
  one_raise of log lt inv serving h heard up agree =
      let m = s.durable.index in
      let t = with_rows s to in
      let l : Link = record (of c) { top_range = machine.range_at (view s) (column to c); top_key = machine.key_at (view s) (column to c) } in
      let ch = put_changed of c l in
      let k = h.link c in
      let raise = grant_raises (world_of s of log) (λ d. column s.rows d) i.near (λ d. row_shows s i d (of d) (h.link d) serving) inv serving c n slot (column to c)
      (λ j ne. ap (λ r. r.modes c) (row_other s.rows n row j ne))
      (subst (λ x. RangeAtMost (range_of (mode_at s.rows n c)) (range_of x) × KeyAtMost (key_of (mode_at s.rows n c)) (key_of x)) (sym column_here) up)
      (λ d ne. subst (λ x. RangesAgree (range_of x) (range_of (mode_at s.rows n d)) × KeysAgree (key_of x) (key_of (mode_at s.rows n d))) (sym column_here) (agree d ne))
      (put of c l) ch in
      let shown : LinkShows t c l = record {
        known = record_kept (record_of s.durable.register c) (of c) l refl refl refl refl k.known;
        missing = k.missing;
        last_push = k.last_push;
        acked = k.acked;
        unacked = k.unacked;
        range = λ p q. sym (range_is m s.durable.epoch (view s).phase i.near to c q);
        key = λ p q. sym (key_is m s.durable.epoch (view s).phase i.near to c q);
        new_range = λ p q. absurd (not_two (view s).phase serving p);
        new_key = λ p q. absurd (not_two (view s).phase serving p);
      } in
      record {
        after = put of c l;
        steps = more none raise;
        shows = put_shows s t of c l shown
            (λ d ne x. relink (view s) (record_of s.durable.register d) (lists s.missing d) (s.sessions d) (range_at m s.rows d) (range_at m to d) (key_at m s.rows d) (key_at m to d) (of d) (same_range m s.rows to d (others d ne)) (same_key m s.rows to d (others d ne)) x)
            h (λ j v at. heard_kept (view s) of (put of c l) c l ch (λ z. z) v.client (h.heard j v (stayed j v at)));
        sound = one_sound s i c n row rest stayed lt;
        heard = heard_kept (view s) of (put of c l) c l ch (λ z. z) c heard;
        clients = put_client of c l refl;
        range = machine.range_at (view s) (column to c);
        key = machine.key_at (view s) (column to c);
        here = ch.here;
      }

-- a grant that continues raises one row more
raises_more : (s : Server) (of : ℕ → Link) (log : List Logged) (u : Waiter) → u.client < max_clients → WorldInv (world_of s of log) → (view s).phase ≡ links.Serving → (rows : Rows) (n : ℕ) → is_slot s.durable.index n ≡ true → is_wanted_compatible rows n u ≡ true → Raises s of log u.client rows → Raises s of log u.client (raised rows n u)
raises_more s of log u lt inv serving rows n there may r =
    let c = u.client in
    let t = with_rows s rows in
    let x = one_raise t r.sound c n (with_mode (rows n) c (wanted (rows n) u)) (is_slot_true s.durable.index r.sound.near n there)
    (λ d ne. mode_other (rows n).modes c d (wanted (rows n) u) ne)
    (λ m v at. subst (In v) (raised_queue rows n u m) at)
    r.after log lt (world_steps (world_of s of log) (world_of t r.after log) r.steps inv) serving r.shows r.heard
    (subst (λ y. RangeAtMost (range_of (mode_at rows n c)) (range_of y) × KeyAtMost (key_of (mode_at rows n c)) (key_of y)) (sym (mode_here (rows n).modes c (wanted (rows n) u))) (join_above (mode_at rows n c) u.mode))
    (λ d ne. subst (λ y. RangesAgree (range_of y) (range_of (mode_at rows n d)) × KeysAgree (key_of y) (key_of (mode_at rows n d))) (sym (mode_here (rows n).modes c (wanted (rows n) u))) (compatible_agrees rows n c (wanted (rows n) u) (λ e ge. r.sound.strangers n e ge) may d ne)) in
    record {
      after = x.after;
      steps = steps_on r.steps x.steps;
      shows = x.shows;
      sound = x.sound;
      heard = x.heard;
      clients = λ d. x.clients d ∙ r.clients d;
      range = x.range;
      key = x.key;
      here = x.here ∙ ap (λ (l : Link). let m : Link = record l { top_range = x.range; top_key = x.key } in m) r.here;
    }

-- the first waiter of a slot receives Absent, or has its grant
module _ (s : Server) (i : IsSound s) (n : ℕ) (u : Waiter) (us : List Waiter) (queue : (s.rows n).queue ≡ u ∷ us) where
  abbrev drop_row : Row
  drop_row = with_queue (s.rows n) us

  abbrev grant_row : Row
  grant_row = record { modes = set_mode (s.rows n).modes u.client (wanted (s.rows n) u); queue = us }

  abbrev all_rows : Rows
  all_rows = raised_on (set_row s.rows n grant_row) (reached_after s.durable.index (set_row s.rows n grant_row) n u (s.durable.reach - 1)) u

  drop_shows : (of : ℕ → Link) → Shows s of → Shows (with_rows s (set_row s.rows n drop_row)) of
  drop_shows of h = record {
    link = λ d. relink (view s) (record_of s.durable.register d) (lists s.missing d) (s.sessions d) (range_at s.durable.index s.rows d) (range_at s.durable.index (set_row s.rows n drop_row) d) (key_at s.durable.index s.rows d) (key_at s.durable.index (set_row s.rows n drop_row) d) (of d)
        (same_range s.durable.index s.rows (set_row s.rows n drop_row) d (drop_modes s i n u us queue d)) (same_key s.durable.index s.rows (set_row s.rows n drop_row) d (drop_modes s i n u us queue d)) (h.link d);
    heard = λ m v at. h.heard m v (stayed_on s i n u us queue drop_row refl m v at);
  }

  pub absents_follow : (of : ℕ → Link) (log : List Logged) (cleared : ℕ → Bool) → (view s).phase ≡ links.Serving → can_push (s.sessions u.client) ≡ true → Shows s of → Goes s of log cleared (pushes (with_rows s (front_dropped s.rows n)) u.client (push.Absent u.req u.point)) log
  absents_follow of log cleared serving can h = subst (λ r. Goes s of log cleared (pushes (with_rows s r) u.client (push.Absent u.req u.point)) log) (dropped_is s i n u us queue)
      (let t = with_rows s (set_row s.rows n drop_row) in
      steps_then s t of of log log log cleared _ (pushes_serve t u.client (push.Absent u.req u.point) (not_recovering s.missing serving)) (λ c. refl) none
      (pushes_on t of log cleared u.client (push.Absent u.req u.point) serving i.begun tt (h.heard n u (at_first s i n u us queue))
      (none_of (s.sessions u.client).unacked (and_parts (not (is_some (s.sessions u.client).unacked)) (nat_lt (s.sessions u.client).last_push END) can).0)
      (record { says = λ q t e. absurd (none-some t e); answer = inl refl })
      (drop_shows of h)))

  slot_test : (m : Index) (k : ℕ) → IsSlot (view s) k → m ≡ s.durable.index → is_slot m k ≡ true
  slot_test m k slot same = by_test (is_slot m k) refl
    where
      by_test : (b : Bool) → is_slot m k ≡ b → b ≡ true
      by_test true e = refl
      by_test false e = let x = is_slot_false s.durable.index i.near k (subst (λ y. is_slot y k ≡ false) same e) in absurd (slot x.0 x.1)

  -- what a push states of slots
  slots_told : (ns : List ℕ) (low : ℕ) → AreSlotsAfter s.durable.index low ns → AllByRecursion (λ k. (k ≤ END) × IsSlot (view s) k) ns
  slots_told [] low h = tt
  slots_told (k ∷ ns) low h = ((slot_near s.durable.index i.near k h.1, is_slot_true s.durable.index i.near k h.1), slots_told ns k h.2)

  grants_step : (of : ℕ → Link) (log : List Logged) (cleared : ℕ → Bool) → WorldInv (world_of s of log) → (view s).phase ≡ links.Serving → can_push (s.sessions u.client) ≡ true → is_wanted_compatible s.rows n u ≡ true → Shows s of → Goes s of log cleared (let g = with_rows s all_rows in pushes g u.client (push.Grant u.req (holdings g u.client (n ∷ reached_after s.durable.index (set_row s.rows n grant_row) n u (s.durable.reach - 1))))) log
  grants_step of log cleared inv serving can may h =
      let c = u.client in
      let m = s.durable.index in
      let lt = i.clients n u (at_first s i n u us queue) in
      let place = i.placed n u (at_first s i n u us queue) in
      let slot : IsSlot (view s) n = subst (IsSlot (view s)) place.1 (slot_here m i.near u.point place.0).0 in
      let high : n ≤ END = subst (λ x. x ≤ END) place.1 (slot_high m i.near u.point place.0) in
      let first : Raises s of log c (set_row s.rows n grant_row) = one_raise s i c n grant_row slot (λ d ne. mode_other (s.rows n).modes c d (wanted (s.rows n) u) ne) (stayed_on s i n u us queue grant_row refl) of log lt inv serving h (h.heard n u (at_first s i n u us queue))
      (subst (λ y. RangeAtMost (range_of (mode_at s.rows n c)) (range_of y) × KeyAtMost (key_of (mode_at s.rows n c)) (key_of y)) (sym (mode_here (s.rows n).modes c (wanted (s.rows n) u))) (join_above (mode_at s.rows n c) u.mode))
      (λ d ne. subst (λ y. RangesAgree (range_of y) (range_of (mode_at s.rows n d)) × KeysAgree (key_of y) (key_of (mode_at s.rows n d))) (sym (mode_here (s.rows n).modes c (wanted (s.rows n) u))) (compatible_agrees s.rows n c (wanted (s.rows n) u) (λ e ge. i.strangers n e ge) may d ne)) in
      let r = along m u (λ rows. Raises s of log c rows) n (λ rows k far there is_compatible_there x. raises_more s of log u lt inv serving rows k there is_compatible_there x) (s.durable.reach - 1) n (set_row s.rows n grant_row) (omega arith) first in
      let t = with_rows s all_rows in
      let ns = reached_after m (set_row s.rows n grant_row) n u (s.durable.reach - 1) in
      let body = push.Grant u.req (holdings t c (n ∷ ns)) in
      steps_then s t of r.after log log log cleared _ (pushes_serve t c body (not_recovering s.missing serving)) r.clients r.steps
      (pushes_on t r.after log cleared c body serving i.begun
      (slots_ascend t i.near c n ns (slot_test m n slot refl) (taken_slots m u (s.durable.reach - 1) n (set_row s.rows n grant_row)), holdings_whole t c (n ∷ ns)) r.heard
      (none_of (s.sessions c).unacked (and_parts (not (is_some (s.sessions c).unacked)) (nat_lt (s.sessions c).last_push END) can).0)
      (record { says = holdings_say t r.sound c (r.after c) (r.shows.link c) serving (n ∷ ns) ((high, slot), slots_told ns n (taken_slots m u (s.durable.reach - 1) n (set_row s.rows n grant_row))); answer = inl refl })
      r.shows)

  pub grants_follow : (of : ℕ → Link) (log : List Logged) (cleared : ℕ → Bool) → WorldInv (world_of s of log) → (view s).phase ≡ links.Serving → can_push (s.sessions u.client) ≡ true → is_wanted_compatible s.rows n u ≡ true → Shows s of → Goes s of log cleared (let g = with_rows s (granted s.durable.reach s.durable.index s.rows n) in pushes g u.client (push.Grant u.req (holdings g u.client (reached_slots s.durable.reach s.durable.index s.rows n)))) log
  grants_follow of log cleared inv serving can may h =
      subst (λ r. Goes s of log cleared (let g = with_rows s r in pushes g u.client (push.Grant u.req (holdings g u.client (reached_slots s.durable.reach s.durable.index s.rows n)))) log) (sym (granted_is s.durable.reach s.durable.index s.rows n u us queue))
      (subst (λ ns. Goes s of log cleared (let g = with_rows s all_rows in pushes g u.client (push.Grant u.req (holdings g u.client ns))) log) (sym (reached_is s.durable.reach s.durable.index s.rows n u us queue))
      (grants_step of log cleared inv serving can may h))

-- each answer to a waiter is some steps
pub turn_follows : (s : Server) (of : ℕ → Link) (log : List Logged) (cleared : ℕ → Bool) (t : Turn) → IsSound s → WorldInv (world_of s of log) → (view s).phase ≡ links.Serving → next_turn s ≡ Some t → Shows s of → Goes s of log cleared (answer_first s t) log
turn_follows s of log cleared t i inv serving e h =
    let x = turn_is s t e in
    let both = and_parts (can_push (s.sessions t.waiter.client)) (asks_absent s.durable.index t.waiter || is_wanted_compatible s.rows t.slot t.waiter) x.answerable in
    if_case (λ x. Goes s of log cleared x log) (asks_absent s.durable.index t.waiter) _ _
    (λ yes. absents_follow s i t.slot t.waiter (behind_first (s.rows t.slot).queue) x.first of log cleared serving both.0 h)
    (λ no. grants_follow s i t.slot t.waiter (behind_first (s.rows t.slot).queue) x.first of log cleared inv serving both.0 (or_true (asks_absent s.durable.index t.waiter) (is_wanted_compatible s.rows t.slot t.waiter) both.1 no) h)
