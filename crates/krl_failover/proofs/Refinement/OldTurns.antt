-- An old server answers its first waiters.
use Rattle.std.specs.Prelude.{◌-◌}
use Rattle.krl_failover.proofs.Refinement.Names.{◌≡◌, ◌≢◌, ℕ, ◌<◌, ◌≤◌, inl, ⊎_elim, Bool, true, false, not, ◌||◌, nat_lt, Option, Value, Some, None, List, [], ◌∷◌, ◌++◌, refl, sym, ap, subst, ◌∙◌, arith, and_parts, none-some, is_some}
use Rattle.krl_failover.proofs.Refinement.Names.{AllByRecursion, END, range_of, key_of, In, in_both, ToClient, Waiter, Row, Rows, mode_at, set_row, IsSlot, Server, is_recovering, silent, with_rows, pushes, IsSound, if_case, none_of}
use Rattle.krl_failover.proofs.Refinement.Names.{sent_stays, Fenced, FencedReachable, IsHeardBy, ShowsOld}
use Rattle.std.proofs.lemmas.Bool.{cases_lt}
use Rattle.krl_modes.proofs.Basics.{not_both}
use Rattle.krl_messages.specs.declared.to_client.PushBody.TheVariants as push
use Rattle.krl_durable.specs.Index.{Index, is_slot}
use Rattle.krl_table.specs.Rows.{set_mode}
use Rattle.krl_table.specs.Calls.{with_mode, with_queue, wanted, behind_first, front_dropped, raised, raised_on}
use Rattle.krl_table.specs.Grants.{reached_after, reached_slots, granted}
use Rattle.krl_table.specs.Replies.{asks_absent, is_wanted_compatible}
use Rattle.krl_table.proofs.Invariant.Compatible.{mode_here, mode_other, or_true}
use Rattle.krl_machine.specs.Modes.{RangeAtMost, KeyAtMost, RangesAgree, KeysAgree}
use Rattle.krl_server.specs.Answering.{can_push, Turn, next_turn, answer_first, AnswersWaiters, stops, goes_on}
use Rattle.krl_server.specs.Effects.{holdings}
use Rattle.krl_server.proofs.Slots.{is_slot_true, is_slot_false, slot_here, slot_high}
use Rattle.krl_server.proofs.Grants.{raised_queue, along, AreSlotsAfter, taken_slots, slot_near, slots_ascend, holdings_whole, granted_is, reached_is}
use Rattle.krl_server.proofs.Turns.{turn_is}
use Rattle.krl_server.proofs.Invariant.AnswersSound.{one_sound, at_first, stayed_on, dropped_is, drop_modes, turn_sound}
use Rattle.krl_server.proofs.Invariant.Kept.{server_keeps}
use Rattle.krl_refinement.proofs.Server.Meaning.{seen_in}
use Rattle.krl_refinement.proofs.Server.Agreeing.{join_above, compatible_agrees}
use Rattle.krl_failover.proofs.Machine.Invariant.{phase_recovers}
use Rattle.krl_failover.proofs.Machine.Reached.{fenced_inv}
use Rattle.krl_failover.proofs.Refinement.Beside.{Beside, beside_on, steps_after}
use Rattle.krl_failover.proofs.Refinement.OldMoves as moves
use Rattle.krl_failover.proofs.Refinement.OldMoves.{Goes, goes_not}
use Rattle.krl_failover.proofs.Refinement.OldPushes.{CanPush, can_on, next_push}
use Rattle.krl_failover.proofs.Refinement.OldRows.{same_shows, holdings_said}
use Rattle.krl_failover.proofs.Refinement.OldTable.{raises}

-- a server that serves is at or below the bound, and may push
pub can_push_now : (first : ℕ → Option Value) (s : Server) (f : Fenced) → FencedReachable first END f → f.world.shared.end ≡ END → IsSound s → is_recovering s.missing ≡ false → ShowsOld s f → CanPush s f
can_push_now first s f reached far i up h = record {
  first = first;
  reached = reached;
  begun = i.begun;
  low = ⊎_elim (λ (lt : f.bound < s.durable.epoch). absurd (not_both (is_recovering s.missing) (h.recovers lt) up)) (λ (le : s.durable.epoch ≤ f.bound). le) (cases_lt f.bound s.durable.epoch);
  phase = λ is. let lt = h.old in phase_recovers f.world.shared f.bound (fenced_inv first END f reached).phase (omega (arith, is, lt));
  far = far;
}

-- what was heard stays so
pub heard_on : (e : ℕ) (f g : Fenced) (c : ℕ) → Beside e f g → IsHeardBy e (f.world.links c) (f.old e c) → IsHeardBy e (g.world.links c) (g.old e c)
heard_on e f g c b h = (h.0, (b.grows c).heads h.0 h.1, h.2 ∙ sym (b.reg c), h.3)

-- some steps and then more, and what both send
pub goes_both : (s t : Server) (f : Fenced) (outs later : List ToClient) (u : Server) → u.durable.epoch ≡ s.durable.epoch → (a : Goes s f (record { server = u; outs = outs })) → Goes u a.fenced (record { server = t; outs = later }) → Goes s f (record { server = t; outs = outs ++ later })
goes_both s t f outs later u same a b = record {
  fenced = b.fenced;
  steps = steps_after f a.fenced b.fenced a.steps b.steps;
  beside = beside_on s.durable.epoch f a.fenced b.fenced a.beside (subst (λ x. Beside x a.fenced b.fenced) same b.beside);
  shows = b.shows;
  sent = λ o at. ⊎_elim
      (λ (x : In o outs). sent_stays (a.fenced.world.links o.client) (b.fenced.world.links o.client) (b.beside.grows o.client) o.incarnation o.body (a.sent o x))
      (λ (x : In o later). b.sent o x)
      (in_both outs later o at);
}

-- the first waiter of a slot receives Absent, or has its grant
module _ (s : Server) (f : Fenced) (i : IsSound s) (can : CanPush s f) (h : ShowsOld s f) (n : ℕ) (u : Waiter) (us : List Waiter) (queue : (s.rows n).queue ≡ u ∷ us) (may : can_push (s.sessions u.client) ≡ true) where
  abbrev c : ℕ
  c = u.client

  abbrev m : Index
  m = s.durable.index

  abbrev drop_row : Row
  drop_row = with_queue (s.rows n) us

  abbrev grant_row : Row
  grant_row = record { modes = set_mode (s.rows n).modes c (wanted (s.rows n) u); queue = us }

  abbrev all_rows : Rows
  all_rows = raised_on (set_row s.rows n grant_row) (reached_after m (set_row s.rows n grant_row) n u (s.durable.reach - 1)) u

  free : (s.sessions c).unacked ≡ None
  free = none_of (s.sessions c).unacked (and_parts (not (is_some (s.sessions c).unacked)) (nat_lt (s.sessions c).last_push END) may).0

  own_heard : IsHeardBy s.durable.epoch (f.world.links c) (f.old s.durable.epoch c)
  own_heard = h.heard n u (at_first s i n u us queue)

  absents : Goes s f (pushes (with_rows s (front_dropped s.rows n)) c (push.Absent u.req u.point))
  absents = subst (λ r. Goes s f (pushes (with_rows s r) c (push.Absent u.req u.point))) (dropped_is s i n u us queue)
      (let t = with_rows s (set_row s.rows n drop_row) in
      let shown : ShowsOld t f = same_shows s (set_row s.rows n drop_row) s.sessions f (λ d k. drop_modes s i n u us queue d k) (λ d. (refl, refl)) (λ k v at. h.heard k v (stayed_on s i n u us queue drop_row refl k v at)) h in
      let a = goes_not s t f shown in
      moves.goes_on s t f _ refl a
      (next_push t f c (push.Absent u.req u.point) (can_on s t f (silent t) refl can a) shown tt own_heard free
      (record { says = λ is here q x e. absurd (none-some x e); answer = inl refl })))

  -- the machine follows, up to these rows
  abbrev Raised : Rows → Type 0
  Raised rows = Goes s f (silent (with_rows s rows)) × IsSound (with_rows s rows)

  raised_more : (rows : Rows) (k : ℕ) → is_slot m k ≡ true → is_wanted_compatible rows k u ≡ true → Raised rows → Raised (raised rows k u)
  raised_more rows k there fits r =
      let t = with_rows s rows in
      let a = r.0 in
      let row = with_mode (rows k) c (wanted (rows k) u) in
      let rest : (d : ℕ) → d ≢ c → row.modes d ≡ mode_at rows k d = λ d ne. mode_other (rows k).modes c d (wanted (rows k) u) ne in
      let stayed : (j : ℕ) (v : Waiter) → In v (set_row rows k row j).queue → In v (rows j).queue = λ j v at. subst (In v) (raised_queue rows k u j) at in (
        moves.goes_on s t f _ refl a
            (raises t a.fenced r.1 (can_on s t f (silent t) refl can a) a.shows c k row (is_slot_true m r.1.near k there) rest stayed
            (subst (λ y. RangeAtMost (range_of (mode_at rows k c)) (range_of y) × KeyAtMost (key_of (mode_at rows k c)) (key_of y)) (sym (mode_here (rows k).modes c (wanted (rows k) u))) (join_above (mode_at rows k c) u.mode))
            (λ d ne. subst (λ y. RangesAgree (range_of y) (range_of (mode_at rows k d)) × KeysAgree (key_of y) (key_of (mode_at rows k d))) (sym (mode_here (rows k).modes c (wanted (rows k) u))) (compatible_agrees rows k c (wanted (rows k) u) (λ d ge. r.1.strangers k d ge) fits d ne))),
        one_sound t r.1 c k row rest stayed (i.clients n u (at_first s i n u us queue)),
      )

  slot_test : (k : ℕ) → IsSlot (seen_in m f.world.shared.epoch f.world.shared.phase) k → is_slot m k ≡ true
  slot_test k slot = by_test (is_slot m k) refl
    where
      by_test : (b : Bool) → is_slot m k ≡ b → b ≡ true
      by_test true e = refl
      by_test false e = let x = is_slot_false m i.near k e in absurd (slot x.0 x.1)

  -- what a push states of slots
  slots_told : (ns : List ℕ) (low epoch : ℕ) (phase : Rattle.krl_machine.specs.Links.Phase) → AreSlotsAfter m low ns → AllByRecursion (λ k. (k ≤ END) × IsSlot (seen_in m epoch phase) k) ns
  slots_told [] low epoch phase h = tt
  slots_told (k ∷ ns) low epoch phase h = ((slot_near m i.near k h.1, is_slot_true m i.near k h.1), slots_told ns k epoch phase h.2)

  grants_all : is_wanted_compatible s.rows n u ≡ true → Goes s f (let g = with_rows s all_rows in pushes g c (push.Grant u.req (holdings g c (n ∷ reached_after m (set_row s.rows n grant_row) n u (s.durable.reach - 1)))))
  grants_all fits =
      let place = i.placed n u (at_first s i n u us queue) in
      let slot : IsSlot (seen_in m f.world.shared.epoch f.world.shared.phase) n = subst (IsSlot (seen_in m f.world.shared.epoch f.world.shared.phase)) place.1 (slot_here m i.near u.point place.0).0 in
      let high : n ≤ END = subst (λ x. x ≤ END) place.1 (slot_high m i.near u.point place.0) in
      let rest : (d : ℕ) → d ≢ c → grant_row.modes d ≡ mode_at s.rows n d = λ d ne. mode_other (s.rows n).modes c d (wanted (s.rows n) u) ne in
      let stayed = stayed_on s i n u us queue grant_row refl in
      let first : Raised (set_row s.rows n grant_row) = (
        raises s f i can h c n grant_row slot rest stayed
            (subst (λ y. RangeAtMost (range_of (mode_at s.rows n c)) (range_of y) × KeyAtMost (key_of (mode_at s.rows n c)) (key_of y)) (sym (mode_here (s.rows n).modes c (wanted (s.rows n) u))) (join_above (mode_at s.rows n c) u.mode))
            (λ d ne. subst (λ y. RangesAgree (range_of y) (range_of (mode_at s.rows n d)) × KeysAgree (key_of y) (key_of (mode_at s.rows n d))) (sym (mode_here (s.rows n).modes c (wanted (s.rows n) u))) (compatible_agrees s.rows n c (wanted (s.rows n) u) (λ d ge. i.strangers n d ge) fits d ne)),
        one_sound s i c n grant_row rest stayed (i.clients n u (at_first s i n u us queue)),
      ) in
      let r = along m u Raised n (λ rows k far there x done. raised_more rows k there x done) (s.durable.reach - 1) n (set_row s.rows n grant_row) (omega arith) first in
      let a = r.0 in
      let t = with_rows s all_rows in
      let ns = reached_after m (set_row s.rows n grant_row) n u (s.durable.reach - 1) in
      let slots = taken_slots m u (s.durable.reach - 1) n (set_row s.rows n grant_row) in
      let body = push.Grant u.req (holdings t c (n ∷ ns)) in
      let can_t = can_on s t f (silent t) refl can a in
      moves.goes_on s t f _ refl a
      (next_push t a.fenced c body can_t a.shows
      (slots_ascend t i.near c n ns (slot_test n slot) slots, holdings_whole t c (n ∷ ns))
      (heard_on s.durable.epoch f a.fenced c a.beside own_heard) free
      (record { says = λ is here. holdings_said t a.fenced c r.1 can_t.far a.shows is here (n ∷ ns) ((high, slot), slots_told ns n a.fenced.world.shared.epoch a.fenced.world.shared.phase slots); answer = inl refl }))

  grants : is_wanted_compatible s.rows n u ≡ true → Goes s f (let g = with_rows s (granted s.durable.reach m s.rows n) in pushes g c (push.Grant u.req (holdings g c (reached_slots s.durable.reach m s.rows n))))
  grants fits =
      subst (λ r. Goes s f (let g = with_rows s r in pushes g c (push.Grant u.req (holdings g c (reached_slots s.durable.reach m s.rows n))))) (sym (granted_is s.durable.reach m s.rows n u us queue))
      (subst (λ ns. Goes s f (let g = with_rows s all_rows in pushes g c (push.Grant u.req (holdings g c ns)))) (sym (reached_is s.durable.reach m s.rows n u us queue))
      (grants_all fits))

-- each answer to a waiter is some steps
pub turn_goes : (s : Server) (f : Fenced) (t : Turn) → IsSound s → CanPush s f → next_turn s ≡ Some t → ShowsOld s f → Goes s f (answer_first s t)
turn_goes s f t i can e h =
    let x = turn_is s t e in
    let both = and_parts (can_push (s.sessions t.waiter.client)) (asks_absent s.durable.index t.waiter || is_wanted_compatible s.rows t.slot t.waiter) x.answerable in
    if_case (λ x. Goes s f x) (asks_absent s.durable.index t.waiter) _ _
    (λ yes. absents s f i can h t.slot t.waiter (behind_first (s.rows t.slot).queue) x.first both.0)
    (λ no. grants s f i can h t.slot t.waiter (behind_first (s.rows t.slot).queue) x.first both.0 (or_true (asks_absent s.durable.index t.waiter) (is_wanted_compatible s.rows t.slot t.waiter) both.1 no))

-- and so are all of them
pub answering_goes : (s t : Server) (f : Fenced) (outs : List ToClient) → AnswersWaiters s t outs → IsSound s → CanPush s f → ShowsOld s f → Goes s f (record { server = t; outs = outs })
answering_goes s t f outs (stops s' e) i can h = goes_not s s f h
answering_goes s t f outs (goes_on s' t' turn later e rest) i can h =
    let u = (answer_first s turn).server in
    let same = ap (λ d. d.epoch) (server_keeps.turn_durable s turn) in
    let a = turn_goes s f turn i can e h in
    goes_both s t f (answer_first s turn).outs later u same a
    (answering_goes u t a.fenced later rest (turn_sound s turn i e) (can_on s u f (answer_first s turn) same can a) a.shows)
