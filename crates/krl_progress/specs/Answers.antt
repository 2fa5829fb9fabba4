-- When a waiter is answered.
use Rattle.std.specs.Prelude.{◌≡◌, ◌≢◌, ℕ, suc, ◌<◌, Bool, true, false, nat_eq, List, [], ◌∷◌, length, Some}
use Rattle.krl_modes.specs.Spans.{Bounds}
use Rattle.krl_client.specs.Clients.{Client, is_writing_in, meets_pin}
use Rattle.krl_steps.specs.declared.step.Step.TheVariants as step
use Rattle.krl_world.specs.declared.message.Message.TheVariants as message
use Rattle.krl_world.specs.States.{State, Up, client_of}
use Rattle.krl_world.specs.Steps.{message_at, Runs, IsReachable}
use Rattle.krl_modes.specs.Modes.{cap}
use Rattle.krl_modes.specs.Constants.{max_clients}
use Rattle.krl_messages.specs.declared.to_server.ToServer.{ToServer}
use Rattle.krl_messages.specs.declared.to_client.ToClient.{ToClient}
use Rattle.krl_messages.specs.declared.to_client.PushBody.{PushBody}
use Rattle.krl_messages.specs.declared.to_client.PushBody.TheVariants as push
use Rattle.krl_messages.specs.Members.{In}
use Rattle.krl_queue.specs.declared.waiter.Waiter.{Waiter}
use Rattle.krl_durable.specs.Index.{span_of, is_slot}
use Rattle.krl_table.specs.Calls.{wanted}
use Rattle.krl_server.specs.Servers.{Server, is_recovering}
use Rattle.krl_server.specs.Cases.{Lowers, case_of}
use Rattle.krl_server.specs.Effects.{push_to, callback_to, effect}
use Rattle.krl_server.specs.Answering.{can_push, is_answerable}
use Rattle.krl_server.specs.Callbacks.{is_compatible}
use Rattle.krl_server.specs.Steps.{Nothing, following, ServerStep}
use Rattle.krl_server.specs.Soundness.{IsSound}
use Rattle.krl_server.specs.Invariant.{IsOrdered}

-- the push grants the request of this number, or states that its entry is absent
abbrev pub answers_request : ℕ → PushBody → Bool
answers_request req (push.Grant r hs) = nat_eq r req
answers_request req (push.Absent r point) = nat_eq r req
answers_request req (push.Answer number o h) = false

-- the waiter's answer is among these messages
pub record IsAnswered (t : Server) (u : Waiter) (outs : List ToClient) : Type 0 where
  pub number : ℕ
  pub body : PushBody
  pub answers : answers_request u.req body ≡ true
  pub sent : In (push_to t u.client number body) outs

-- A first waiter that can be answered once the message has been judged is answered in that very step: its Grant or
-- Absent is among the step's messages.
abbrev pub AnswersAtOnce : Type 0
AnswersAtOnce =
    (s t : Server) (m : ToServer) (outs : List ToClient) (n : ℕ) (u : Waiter) (us : List Waiter) →
    IsSound s → IsOrdered s → ServerStep s m t outs → following (case_of s m) ≢ Nothing →
    is_recovering t.missing ≡ false →
    ((effect s m (case_of s m)).server.rows n).queue ≡ u ∷ us →
    is_answerable (effect s m (case_of s m)).server n u ≡ true → IsAnswered t u outs

-- only d blocks the first waiter u of the slot n, whose client has acknowledged every push
pub record IsLastBlocker (s : Server) (n : ℕ) (u : Waiter) (us : List Waiter) (d : ℕ) : Type 0 where
  pub serves : is_recovering s.missing ≡ false
  pub slot : is_slot s.durable.index n ≡ true
  pub first : (s.rows n).queue ≡ u ∷ us
  pub acked : can_push (s.sessions u.client) ≡ true
  pub other : d ≢ u.client
  pub alone : (e : ℕ) → e < max_clients → e ≢ d → is_compatible s n u e ≡ true

-- When the last client that blocks a first waiter gives way, as its callback asked, the waiter is answered in that very
-- step.
abbrev pub GivesWay : Type 0
GivesWay =
    (s t : Server) (m : ToServer) (outs : List ToClient) (n : ℕ) (u : Waiter) (us : List Waiter) → IsSound s →
    IsOrdered s → IsLastBlocker s n u us m.client →
    case_of s m ≡ Lowers (span_of s.durable.index n) (cap (wanted (s.rows n) u)) → ServerStep s m t outs →
    IsAnswered t u outs

-- Over worlds

-- the client has joined the server's epoch and accepted every push, and has no write outstanding and no pin on the span
pub record WillObey (s : Server) (d : ℕ) (span : Bounds) (k : Client) : Type 0 where
  pub epoch : k.epoch ≡ s.durable.epoch
  pub seen : k.seen ≡ (s.sessions d).last_push
  pub free : is_writing_in k span ≡ false
  pub unpinned : meets_pin k span ≡ false

-- the last blocker's callback is message i
pub record IsCalledBack (w : State) (s : Server) (n : ℕ) (u : Waiter) (us : List Waiter) (d : ℕ) (k : Client) (i : ℕ) :
    Type 0 where
  pub reachable : IsReachable w
  pub up : w.server ≡ Up s
  pub last : IsLastBlocker s n u us d
  pub runs : client_of w d ≡ Some k
  pub obeys : WillObey s d (span_of s.durable.index n) k
  pub sent : message_at w.sent i ≡
      Some (message.ToClient (callback_to s d (span_of s.durable.index n) (cap (wanted (s.rows n) u))))

-- In every reachable world: if the last client that blocks a first waiter is called back, has no push on its way, and
-- neither writes nor pins there, the waiter's Grant or Absent is sent two deliveries later: that of the callback, and
-- that of the Release that answers it.
abbrev pub CallbackFrees : Type 0
CallbackFrees =
    (w v : State) (s : Server) (n : ℕ) (u : Waiter) (us : List Waiter) (d : ℕ) (k : Client) (i : ℕ) →
    IsCalledBack w s n u us d k i → Runs w (step.Deliver i ∷ step.Deliver (suc (length w.sent)) ∷ []) v →
    (number : ℕ) × (body : PushBody) × (answers_request u.req body ≡ true)
    × In (message.ToClient (push_to s u.client number body)) v.sent
