-- What a server and a client know of a lock request.
use Rattle.std.specs.Prelude.{◌≡◌, ◌≤◌, ℕ, suc, true, false, Some, is_some}
use Rattle.krl_messages.specs.declared.to_client.PushBody.{PushBody}
use Rattle.krl_messages.specs.declared.to_client.PushBody.TheVariants as push
use Rattle.krl_messages.specs.declared.to_server.ToServer.{ToServer}
use Rattle.krl_messages.specs.declared.to_server.ToServerBody.TheVariants as said
use Rattle.krl_messages.specs.declared.to_server.Request.{Request}
use Rattle.krl_messages.specs.Members.{In}
use Rattle.krl_queue.specs.declared.waiter.Waiter.{Waiter}
use Rattle.krl_table.specs.Rows.{waits}
use Rattle.krl_server.specs.Servers.{Server, incarnation_of}
use Rattle.krl_server.specs.Waits.{waiter_of}
use Rattle.krl_client.specs.Clients.{Client, is_waiting, outstanding}
use Rattle.krl_world.specs.declared.message.Message.TheVariants as message
use Rattle.krl_world.specs.States.{Up, State, client_of}
use Rattle.krl_world.specs.Steps.{IsReachable}
use Rattle.krl_progress.specs.Answers.{answers_request}

-- where the request of a client that waits is: the server has yet to take it; or the client stands in a queue with it;
-- or the push that the client accepts next answers it
pub data IsSomewhere (s : Server) (c : ℕ) (k : Client) : Type 0 where
  untaken : k.req ≡ suc (s.sessions c).last_request → waits s.durable.index s.rows c ≡ false → IsSomewhere s c k
  queued : (u : Waiter) → k.req ≡ (s.sessions c).last_request → waiter_of s c ≡ Some u → u.req ≡ k.req →
      IsSomewhere s c k
  answered : (b : PushBody) → k.req ≡ (s.sessions c).last_request → waits s.durable.index s.rows c ≡ false →
      (s.sessions c).unacked ≡ Some b → (s.sessions c).last_push ≡ suc k.seen → answers_request k.req b ≡ true →
      IsSomewhere s c k

pub record RequestIsKnown (s : Server) (c : ℕ) (k : Client) : Type 0 where
  pub waiting : is_waiting k.asked ≡ true → IsSomewhere s c k
  -- a client that waits for nothing stands in no queue, and the server has taken all that it asked for
  pub at_rest : is_waiting k.asked ≡ false →
      (k.req ≡ (s.sessions c).last_request) × (waits s.durable.index s.rows c ≡ false)

-- In every reachable world: if the server runs, it and each client that runs in its epoch agree on the client's
-- last lock request.
abbrev pub RequestsAreKnown : Type 0
RequestsAreKnown =
    (w : State) (s : Server) (c : ℕ) (k : Client) → IsReachable w → w.server ≡ Up s → client_of w c ≡ Some k →
    k.epoch ≡ s.durable.epoch → RequestIsKnown s c k

-- the client waits for what the push reports: the reply to its lock request, or how its outstanding write was judged
abbrev pub IsAwaited : Client → PushBody → Type 0
IsAwaited k (push.Grant req hs) = (is_waiting k.asked ≡ true) × (req ≡ k.req)
IsAwaited k (push.Absent req point) = (is_waiting k.asked ≡ true) × (req ≡ k.req)
IsAwaited k (push.Answer number outcome h) = (is_some (outstanding k.written) ≡ true) × (number ≡ k.writes)

-- In every reachable world: a push that a client of the server's epoch has yet to accept is one that it waits for.
abbrev pub PushesAreAwaited : Type 0
PushesAreAwaited =
    (w : State) (s : Server) (c : ℕ) (k : Client) (b : PushBody) → IsReachable w → w.server ≡ Up s →
    client_of w c ≡ Some k → k.epoch ≡ s.durable.epoch → (s.sessions c).unacked ≡ Some b →
    (s.sessions c).last_push ≡ suc k.seen → IsAwaited k b

-- In every reachable world: if the server runs, the incarnation of each request that was sent is registered, or a later
-- one of that client is.
abbrev pub RequestsAreRegistered : Type 0
RequestsAreRegistered =
    (w : State) (s : Server) (m : ToServer) (r : Request) → IsReachable w → w.server ≡ Up s →
    In (message.ToServer m) w.sent → m.body ≡ said.Request r → m.incarnation ≤ incarnation_of s m.client
