-- A first waiter's tick asks for its lock again.
use Rattle.krl_progress.proofs.Names.{◌≡◌, ℕ, ◌≤◌, ◌∙◌, inl, inr, true, Some, List, [], ◌∷◌, refl, sym, ap, subst, arith, ltb-false, nat_lt}
use Rattle.krl_progress.proofs.Names.{ToServer, In, Client, Message, Pieces, Server, Step, Answer, Up, State, client_of, Takes, IsReachable, from_clients}
use Rattle.krl_modes.specs.declared.mode.Mode.{Mode}
use Rattle.krl_messages.proofs.Members.{in_left}
use Rattle.krl_messages.specs.declared.to_server.RequestBody.TheVariants as asked
use Rattle.krl_queue.specs.declared.waiter.Waiter.{Waiter}
use Rattle.krl_server.proofs.Tests.{if_case}
use Rattle.krl_client.specs.Ticks.{tick, says_hello, lock_again, write_again}
use Rattle.krl_client.specs.Clients.{outstanding, requests, is_waiting, LockRequest, NotAsked, Granted, Absent, Dropped, Waiting}
use Rattle.krl_steps.specs.declared.step.Step.TheVariants as step
use Rattle.krl_world.specs.declared.message.Message.TheVariants as message
use Rattle.krl_progress.specs.Blocks.{HasSeen}
use Rattle.krl_progress.proofs.Moves.{some_is}
use Rattle.krl_progress.proofs.Recovers.{At}
use Rattle.krl_progress.proofs.WriteSteps.{to_clients}
use Rattle.krl_progress.proofs.Arrivals.{request_from}
use Rattle.krl_progress.proofs.Queues.{Stands}
use Rattle.krl_progress.proofs.Knowing.{Asks, idle, untaken, stands, comes}
use Rattle.krl_progress.proofs.Agreed.{agrees}
use Rattle.krl_progress.proofs.Seen.{Sent, sent_now, sent_still, same_epoch, own_request}

record AsksAgain (k : Client) (a : LockRequest) (ms : List ToServer) : Type 0 where
  point : ℕ
  hi : ℕ
  mode : Mode
  is : a ≡ Waiting point hi mode
  said : In (requests k (asked.Lock k.req point hi mode)) ms

locks_again : (k : Client) (a : LockRequest) → is_waiting a ≡ true → AsksAgain k a (lock_again k a)
locks_again k NotAsked w = absurd (cc)
locks_again k Granted w = absurd (cc)
locks_again k Absent w = absurd (cc)
locks_again k Dropped w = absurd (cc)
locks_again k (Waiting point hi g) w = record { point = point; hi = hi; mode = g; is = refl; said = inl refl }

tick_asks : (k : Client) (ps : Pieces) → is_waiting k.asked ≡ true → 1 ≤ k.epoch → AsksAgain k k.asked (tick ps k)
tick_asks k ps waits some = if_case (AsksAgain k k.asked) (nat_lt 0 k.epoch) _ (says_hello k ∷ [])
    (λ j. let a = locks_again k k.asked waits in record { point = a.point; hi = a.hi; mode = a.mode; is = a.is; said = inr (in_left (lock_again k k.asked) (write_again k (outstanding k.written)) _ a.said) })
    (λ j. absurd (let y = ltb-false 0 k.epoch j in omega (arith, y, some)))

-- a client that stands in a queue waits, and knows it
pub queued_waits : (x : State) (s : Server) (n : ℕ) (u : Waiter) (k : Client) → IsReachable x → x.server ≡ Up s → In u (s.rows n).queue → client_of x u.client ≡ Some k → k.epoch ≡ s.durable.epoch → is_waiting k.asked ≡ true
queued_waits x s n u k rx up there runs now = by_request (((agrees x rx).knows s u.client k up runs).now now).request
  where
    at : Stands s.rows u.client u
    at = record { slot = n; at = there; own = refl }

    by_request : Asks (s.sessions u.client) s.rows u.client k → is_waiting k.asked ≡ true
    by_request (idle w r a q) = absurd (a u at)
    by_request (untaken w r a q) = absurd (a u at)
    by_request (stands w r y z all q) = w
    by_request (comes w r a p e m y) = absurd (a u at)

module _ (c inc epoch seen : ℕ) (some : 1 ≤ epoch) (n : ℕ) where
  abbrev pub lock_said : ℕ → ℕ → ℕ → Mode → Message
  lock_said req point hi g = message.ToServer (request_from c inc epoch seen (asked.Lock req point hi g))

  -- it was sent after number n
  pub record LockSaid (u : State) : Type 0 where
    pub req : ℕ
    pub point : ℕ
    pub hi : ℕ
    pub mode : Mode
    pub sent : Sent n (lock_said req point hi mode) u

  pub lock_still : (u v : State) (s : Step) (answer : Answer) → LockSaid u → Takes u s answer v → LockSaid v
  lock_still u v s answer h t = record { req = h.req; point = h.point; hi = h.hi; mode = h.mode; sent = sent_still n (lock_said h.req h.point h.hi h.mode) u v s answer h.sent t }

  -- with what the client asks for
  pub record SaysLock (k : Client) (v : State) : Type 0 where
    pub said : LockSaid v
    pub number : said.req ≡ k.req
    pub is : k.asked ≡ Waiting said.point said.hi said.mode

  pub waiting_says : (u v : State) (answer : Answer) (s : Server) → At c inc epoch n u → u.server ≡ Up s → (w : HasSeen u s c seen) → is_waiting w.client.asked ≡ true → Takes u (step.Tick c) answer v → SaysLock w.client v
  waiting_says u v answer s at up w waits t =
      let d = t.1.1 in
      let is = some_is d.0 w.client (sym d.1 ∙ w.runs) in
      let k = w.client in
      let a = tick_asks k d.2.0 waits (let x = same_epoch epoch some n u s c inc seen at up w in omega (arith, x, some)) in
      let own = own_request epoch some n u s c inc seen at up w (asked.Lock k.req a.point a.hi a.mode) in
      let there = subst (λ (y : Client). In (request_from c inc epoch seen (asked.Lock k.req a.point a.hi a.mode)) (tick d.2.0 y)) (sym is) (subst (λ m. In m (tick d.2.0 k)) own a.said) in
      record {
        said = record { req = k.req; point = a.point; hi = a.hi; mode = a.mode; sent = sent_now n u v (lock_said k.req a.point a.hi a.mode) (from_clients (tick d.2.0 d.0)) at.long (ap (λ (y : State). y.sent) d.2.2) (to_clients _ (tick d.2.0 d.0) there) };
        number = refl;
        is = a.is;
      }

-- a first waiter's tick
pub tick_says : (wait : Waiter) (inc epoch seen : ℕ) (some : 1 ≤ epoch) (n : ℕ) (u v : State) (answer : Answer) (s : Server) (slot : ℕ) (behind : List Waiter) → At wait.client inc epoch n u → u.server ≡ Up s → (s.rows slot).queue ≡ wait ∷ behind → HasSeen u s wait.client seen → Takes u (step.Tick wait.client) answer v → LockSaid wait.client inc epoch seen some n v
tick_says wait inc epoch seen some n u v answer s slot behind at up first w t =
    let waits = queued_waits u s slot wait w.client at.reachable up (subst (In wait) (sym first) (inl refl)) w.runs w.epoch in
    (waiting_says wait.client inc epoch seen some n u v answer s at up w waits t).said
