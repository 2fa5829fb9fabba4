-- Which of the first waiters is answered next, and the answering of all that can be.
use Rattle.std.specs.Prelude.{◌≡◌, ℕ, Bool, not, ◌&&◌, ◌||◌, Option, Some, None, List, [], ◌∷◌, ◌++◌, nat_lt, is_some, if◌then◌else◌}
use Rattle.krl_modes.specs.declared.point.TheConstants.{END}
use Rattle.krl_messages.specs.declared.to_client.ToClient.{ToClient}
use Rattle.krl_messages.specs.declared.to_client.PushBody.TheVariants as push
use Rattle.krl_queue.specs.declared.waiter.Waiter.{Waiter}
use Rattle.krl_durable.specs.Index.{slots}
use Rattle.krl_table.specs.Calls.{front_dropped}
use Rattle.krl_table.specs.Grants.{reached_slots, granted}
use Rattle.krl_table.specs.Replies.{asks_absent, is_wanted_compatible}
use Rattle.krl_server.specs.declared.session.Session.{Session}
use Rattle.krl_server.specs.Servers.{Server}
use Rattle.krl_server.specs.Effects.{Done, with_rows, holdings, pushes}

-- the last push is acknowledged, and there is a number for the next
abbrev pub can_push : Session → Bool
can_push session = not (is_some session.unacked) && nat_lt session.last_push END

-- there can be a push to the waiter, and there is an answer: no entry, or a grant
abbrev pub is_answerable : Server → ℕ → Waiter → Bool
is_answerable s n u = can_push (s.sessions u.client)
    && (asks_absent s.durable.index u || is_wanted_compatible s.rows n u)

-- a slot and its first waiter
pub record Turn : Type 0 where
  pub slot : ℕ
  pub waiter : Waiter

-- the turn at slot n with this queue, if its first waiter is answerable, otherwise a later one
abbrev pub turn_at : Server → ℕ → List Waiter → Option Turn → Option Turn
turn_at s n [] later = later
turn_at s n (u ∷ us) later = if is_answerable s n u then Some (record { slot = n; waiter = u }) else later

-- the least of these slots whose first waiter is answerable
abbrev pub turn_among : Server → List ℕ → Option Turn
turn_among s [] = None
turn_among s (n ∷ ns) = turn_at s n (s.rows n).queue (turn_among s ns)

-- the waiter that is answered next
abbrev pub next_turn : Server → Option Turn
next_turn s = turn_among s (slots s.durable.index)

-- the waiter learns that there is no entry
abbrev pub tells_absent : Server → Turn → Done
tells_absent s t =
    pushes (with_rows s (front_dropped s.rows t.slot)) t.waiter.client (push.Absent t.waiter.req t.waiter.point)

-- the waiter is granted what it wants: first the rows of the slots that the grant reaches are raised, then the push is
-- made from them
abbrev pub grants : Server → Turn → Done
grants s t =
    let g = with_rows s (granted s.durable.reach s.durable.index s.rows t.slot) in
    pushes g t.waiter.client
    (push.Grant t.waiter.req (holdings g t.waiter.client (reached_slots s.durable.reach s.durable.index s.rows t.slot)))

-- the first waiter is answered
abbrev pub answer_first : Server → Turn → Done
answer_first s t = if asks_absent s.durable.index t.waiter then tells_absent s t else grants s t

-- one answer after another, until no first waiter is answerable
pub data AnswersWaiters : Server → Server → List ToClient → Type 0 where
  stops : (s : Server) → next_turn s ≡ None → AnswersWaiters s s []
  goes_on : (s t : Server) (turn : Turn) (outs : List ToClient) → next_turn s ≡ Some turn →
      AnswersWaiters (answer_first s turn).server t outs → AnswersWaiters s t ((answer_first s turn).outs ++ outs)
