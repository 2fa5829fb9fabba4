-- A server stays sound when it pushes and when it answers first waiters, and the missing are as they were.
use Rattle.std.specs.Prelude.{◌-◌}
use Rattle.krl_server.proofs.Names.{◌≡◌, ℕ, false, refl, ap, ◌∙◌, ◌≢◌, ◌<◌, Some, List, ◌∷◌, inl, inr, sym, subst, ⊎_elim, arith, nat_lt, END, PushBody, In, ToClient, Waiter, Row, Rows}
use Rattle.krl_server.proofs.Names.{max_clients, mode_at, set_row, set_mode, with_mode, with_queue, wanted, behind_first, front_dropped, raised_on, reached_after, reached_slots, granted, asks_absent}
use Rattle.krl_server.proofs.Names.{Server, is_recovering, Done, acknowledged, pushes, with_rows, holdings, IsSound, Turn, next_turn, tells_absent, grants, answer_first, AnswersWaiters, stops, goes_on}
use Rattle.krl_table.proofs.Invariant.Compatible.{mode_other}
use Rattle.krl_messages.specs.declared.to_client.PushBody.TheVariants as push
use Rattle.krl_server.proofs.Tests.{if_both}
use Rattle.krl_server.proofs.Updates.{row_modes}
use Rattle.krl_server.proofs.Grants.{raised_queue, along, granted_is}
use Rattle.krl_server.proofs.Turns.{turn_is, in_row}

pub acknowledged_sound : (s : Server) (c : ℕ) → IsSound s → IsSound (acknowledged s c)
acknowledged_sound s c i = record { near = i.near; begun = i.begun; strangers = i.strangers; placed = i.placed; clients = i.clients }

pub pushes_sound : (s : Server) (c : ℕ) (body : PushBody) → IsSound s → IsSound (pushes s c body).server
pushes_sound s c body i = if_both (λ (x : Done). IsSound x.server) (nat_lt (s.sessions c).last_push END) _ _ (record { near = i.near; begun = i.begun; strangers = i.strangers; placed = i.placed; clients = i.clients }) i

-- a push leaves the missing clients as they are
pub pushes_missing : (s : Server) (c : ℕ) (body : PushBody) → (pushes s c body).server.missing ≡ s.missing
pushes_missing s c body = if_both (λ (x : Done). x.server.missing ≡ s.missing) (nat_lt (s.sessions c).last_push END) _ _ refl refl

pub pushes_serve : (s : Server) (c : ℕ) (body : PushBody) → is_recovering s.missing ≡ false → is_recovering (pushes s c body).server.missing ≡ false
pushes_serve s c body e = ap is_recovering (pushes_missing s c body) ∙ e

-- one row of the client c is another, and a client that waits afterwards waited before
pub one_sound : (s : Server) → IsSound s → (c n : ℕ) (row : Row) → ((d : ℕ) → d ≢ c → row.modes d ≡ mode_at s.rows n d) → ((m : ℕ) (v : Waiter) → In v (set_row s.rows n row m).queue → In v (s.rows m).queue) → c < max_clients → IsSound (with_rows s (set_row s.rows n row))
one_sound s i c n row rest stayed lt = record {
  near = i.near;
  begun = i.begun;
  strangers = λ m d ge. sym (row_modes s.rows n row d (sym (rest d (λ e. omega (arith, e, ge, lt)))) m) ∙ i.strangers m d ge;
  placed = λ m v at. i.placed m v (stayed m v at);
  clients = λ m v at. i.clients m v (stayed m v at);
}

-- the first waiter of a slot no longer waits
module _ (s : Server) (i : IsSound s) (n : ℕ) (u : Waiter) (us : List Waiter) (queue : (s.rows n).queue ≡ u ∷ us) where
  pub at_first : In u (s.rows n).queue
  at_first = subst (In u) (sym queue) (inl refl)

  -- a client that waits afterwards waited before, on the same slot
  pub stayed_on : (row : Row) → row.queue ≡ us → (m : ℕ) (v : Waiter) → In v (set_row s.rows n row m).queue → In v (s.rows m).queue
  stayed_on row e m v h = ⊎_elim (λ (x : (m ≡ n) × In v row.queue). subst (λ y. In v (s.rows y).queue) (sym x.0) (subst (In v) (sym queue) (inr (subst (In v) e x.1)))) (λ (old : In v (s.rows m).queue). old) (in_row s.rows n row m v h)

  abbrev drop_row : Row
  drop_row = with_queue (s.rows n) us

  abbrev grant_row : Row
  grant_row = record { modes = set_mode (s.rows n).modes u.client (wanted (s.rows n) u); queue = us }

  pub dropped_is : set_row s.rows n drop_row ≡ front_dropped s.rows n
  dropped_is = ap (λ q. set_row s.rows n (with_queue (s.rows n) (behind_first q))) (sym queue)

  pub drop_modes : (c m : ℕ) → mode_at s.rows m c ≡ mode_at (set_row s.rows n drop_row) m c
  drop_modes c m = row_modes s.rows n drop_row c refl m

  drop_sound : IsSound (with_rows s (set_row s.rows n drop_row))
  drop_sound = record {
    near = i.near;
    begun = i.begun;
    strangers = λ m c ge. sym (drop_modes c m) ∙ i.strangers m c ge;
    placed = λ m v at. i.placed m v (stayed_on drop_row refl m v at);
    clients = λ m v at. i.clients m v (stayed_on drop_row refl m v at);
  }

  pub dropped_sound : IsSound (with_rows s (front_dropped s.rows n))
  dropped_sound = subst (λ r. IsSound (with_rows s r)) dropped_is drop_sound

  grant_sound : IsSound (with_rows s (set_row s.rows n grant_row))
  grant_sound = one_sound s i u.client n grant_row (λ d ne. mode_other (s.rows n).modes u.client d (wanted (s.rows n) u) ne) (stayed_on grant_row refl) (i.clients n u at_first)

  -- the rows that a grant leaves
  abbrev all_rows : Rows
  all_rows = raised_on (set_row s.rows n grant_row) (reached_after s.durable.index (set_row s.rows n grant_row) n u (s.durable.reach - 1)) u

  pub granted_sound : IsSound (with_rows s (granted s.durable.reach s.durable.index s.rows n))
  granted_sound = subst (λ r. IsSound (with_rows s r)) (sym (granted_is s.durable.reach s.durable.index s.rows n u us queue))
      (along s.durable.index u (λ r. IsSound (with_rows s r)) n
      (λ r j far there is_compatible_there x. one_sound (with_rows s r) x u.client j (with_mode (r j) u.client (wanted (r j) u)) (λ d ne. mode_other (r j).modes u.client d (wanted (r j) u) ne) (λ m v at. subst (In v) (raised_queue r j u m) at) (i.clients n u at_first))
      (s.durable.reach - 1) n (set_row s.rows n grant_row) (omega arith) grant_sound)

pub turn_sound : (s : Server) (t : Turn) → IsSound s → next_turn s ≡ Some t → IsSound (answer_first s t).server
turn_sound s t i e =
    let x = turn_is s t e in
    if_both (λ (x : Done). IsSound x.server) (asks_absent s.durable.index t.waiter) _ _
    (pushes_sound (with_rows s (front_dropped s.rows t.slot)) t.waiter.client (push.Absent t.waiter.req t.waiter.point) (dropped_sound s i t.slot t.waiter (behind_first (s.rows t.slot).queue) x.first))
    (pushes_sound (with_rows s (granted s.durable.reach s.durable.index s.rows t.slot)) t.waiter.client (push.Grant t.waiter.req (holdings (with_rows s (granted s.durable.reach s.durable.index s.rows t.slot)) t.waiter.client (reached_slots s.durable.reach s.durable.index s.rows t.slot))) (granted_sound s i t.slot t.waiter (behind_first (s.rows t.slot).queue) x.first))

pub turn_missing : (s : Server) (t : Turn) → (answer_first s t).server.missing ≡ s.missing
turn_missing s t = if_both (λ (x : Done). x.server.missing ≡ s.missing) (asks_absent s.durable.index t.waiter) (tells_absent s t) (grants s t)
    (pushes_missing (with_rows s (front_dropped s.rows t.slot)) t.waiter.client (push.Absent t.waiter.req t.waiter.point))
    (pushes_missing (with_rows s (granted s.durable.reach s.durable.index s.rows t.slot)) t.waiter.client (push.Grant t.waiter.req (holdings (with_rows s (granted s.durable.reach s.durable.index s.rows t.slot)) t.waiter.client (reached_slots s.durable.reach s.durable.index s.rows t.slot))))

-- an answer leaves the missing clients as they are
pub answered_up : (s t : Server) (outs : List ToClient) → AnswersWaiters s t outs → is_recovering s.missing ≡ false → is_recovering t.missing ≡ false
answered_up s t outs (stops s' e) up = up
answered_up s t outs (goes_on s' t' turn later e rest) up = answered_up (answer_first s turn).server t later rest (ap is_recovering (turn_missing s turn) ∙ up)

pub answering_sound : (s t : Server) (outs : List ToClient) → AnswersWaiters s t outs → IsSound s → IsSound t
answering_sound s t outs (stops s' e) i = i
answering_sound s t outs (goes_on s' t' turn later e rest) i = answering_sound (answer_first s turn).server t later rest (turn_sound s turn i e)
