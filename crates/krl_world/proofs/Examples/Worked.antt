-- What the server does in a short run: a client sends Hello, and locks the gap below 10 and the entry there.
use Rattle.krl_modes.specs.declared.limits.TheConstants.{STANDARD_REACH}
use Rattle.krl_world.proofs.Names.{◌≡◌, ℕ, Option, Some, None, List, [], ◌∷◌, ◌++◌, refl, sym, subst, Value, Holding, ToServer, ToClient, Index, slots, STANDARD_ROOM, max_clients, Server, Registers, Waits}
use Rattle.krl_world.proofs.Names.{case_of, effect, Turn, turn_at, turn_among, next_turn, answer_first, AnswersWaiters, stops, goes_on, callbacks_at, callbacks_among, callbacks, Calls, following, Ends}
use Rattle.krl_world.proofs.Names.{serves, ServerStep, start}
use Rattle.std.specs.FinMap as map
use Rattle.krl_modes.specs.declared.mode.Mode.TheVariants as mode
use Rattle.krl_messages.specs.declared.to_server.ToServerBody.TheVariants as said
use Rattle.krl_messages.specs.declared.to_server.RequestBody.TheVariants as asked
use Rattle.krl_messages.specs.declared.to_client.ToClientBody.TheVariants as told
use Rattle.krl_messages.specs.declared.to_client.PushBody.TheVariants as push
use Rattle.krl_queue.specs.declared.waiter.Waiter.{Waiter}

abbrev pub two : List (ℕ × Value)
two = (10, 1 ∷ []) ∷ (20, 2 ∷ []) ∷ []

abbrev pub hello : ToServer
hello = record { client = 0; incarnation = 1; body = said.Hello }

abbrev pub lock : ToServer
lock = record { client = 0; incarnation = 1; body = said.Request (record { epoch = 1; seen = 0; body = asked.Lock 1 5 6 mode.RangeSS }) }

abbrev pub epoch : ToClient
epoch = record { client = 0; incarnation = 1; body = told.Epoch 1 }

abbrev pub gap : Holding
gap = record { span = record { lo = 0; hi = 11 }; mode = mode.RangeSS; value = Some (1 ∷ []) }

abbrev pub grant : ToClient
grant = record { client = 0; incarnation = 1; body = told.Push 1 1 (push.Grant 1 (gap ∷ [])) }

-- The server, with this index

abbrev pub begun : Index → Server
begun m = start (record { room = STANDARD_ROOM; reach = STANDARD_REACH; index = m; epoch = 0; register = [] })

abbrev pub joined : Index → Server
joined m = (effect (begun m) hello Registers).server

abbrev waiting : Index → Server
waiting m = (effect (joined m) lock (Waits 1 5 6 mode.RangeSS)).server

abbrev turn : Turn
turn = record { slot = 10; waiter = record { client = 0; req = 1; point = 5; hi = 6; mode = mode.RangeSS } }

abbrev pub granted : Index → Server
granted m = (answer_first (waiting m) turn).server

-- if nobody waits, nobody is answered or called back
turn_none : (s : Server) (n : ℕ) (later : Option Turn) (us : List Waiter) → us ≡ [] → later ≡ None → turn_at s n us later ≡ None
turn_none s n later us e l = subst (λ vs. turn_at s n vs later ≡ None) (sym e) l

pub no_turn : (s : Server) → ((n : ℕ) → (s.rows n).queue ≡ []) → (ns : List ℕ) → turn_among s ns ≡ None
no_turn s h [] = refl
no_turn s h (n ∷ ns) = turn_none s n (turn_among s ns) (s.rows n).queue (h n) (no_turn s h ns)

calls_none : (s : Server) (n : ℕ) (later : List ToClient) (us : List Waiter) → us ≡ [] → later ≡ [] → callbacks_at s n us ++ later ≡ []
calls_none s n later us e l = subst (λ vs. callbacks_at s n vs ++ later ≡ []) (sym e) l

no_calls : (s : Server) → ((n : ℕ) → (s.rows n).queue ≡ []) → (ns : List ℕ) → callbacks_among s ns ≡ []
no_calls s h [] = refl
no_calls s h (n ∷ ns) = calls_none s n (callbacks_among s ns) (s.rows n).queue (h n) (no_calls s h ns)

pub hello_case : (m : Index) → case_of (begun m) hello ≡ Registers
unfolding max_clients
hello_case m = refl

ends_hello : (m : Index) → Ends (effect (begun m) hello Registers) Calls (joined m) (epoch ∷ [])
ends_hello m = subst (λ (xs : List ToClient). Ends (effect (begun m) hello Registers) Calls (joined m) (epoch ∷ xs)) (no_calls (joined m) (λ n. refl) (slots m))
    (serves (joined m) [] (λ e. cc) refl (stops (joined m) (no_turn (joined m) (λ n. refl) (slots m))))

pub reads_hello : (m : Index) → ServerStep (begun m) hello (joined m) (epoch ∷ [])
reads_hello m = subst (λ k. Ends (effect (begun m) hello k) (following k) (joined m) (epoch ∷ [])) (sym (hello_case m)) (ends_hello m)

pub lock_case : (m : Index) → map.entries m ≡ two → case_of (joined m) lock ≡ Waits 1 5 6 mode.RangeSS
unfolding max_clients
lock_case m e = simp e

lock_turn : (m : Index) → map.entries m ≡ two → next_turn (waiting m) ≡ Some turn
unfolding max_clients
lock_turn m e = simp e

lock_outs : (m : Index) → map.entries m ≡ two → (answer_first (waiting m) turn).outs ≡ grant ∷ []
unfolding max_clients
lock_outs m e = simp (e, map.get-entries)

lock_ends : (m : Index) → map.entries m ≡ two → next_turn (granted m) ≡ None
unfolding max_clients
lock_ends m e = simp (e, map.get-entries)

lock_calls : (m : Index) → map.entries m ≡ two → callbacks (granted m) ≡ []
unfolding max_clients
lock_calls m e = simp (e, map.get-entries)

answers_lock : (m : Index) → map.entries m ≡ two → AnswersWaiters (waiting m) (granted m) (grant ∷ [])
answers_lock m e = subst (λ (xs : List ToClient). AnswersWaiters (waiting m) (granted m) (xs ++ [])) (lock_outs m e) (goes_on (waiting m) (granted m) turn [] (lock_turn m e) (stops (granted m) (lock_ends m e)))

ends_lock : (m : Index) → map.entries m ≡ two → Ends (effect (joined m) lock (Waits 1 5 6 mode.RangeSS)) Calls (granted m) (grant ∷ [])
ends_lock m e = subst (λ (xs : List ToClient). Ends (effect (joined m) lock (Waits 1 5 6 mode.RangeSS)) Calls (granted m) (grant ∷ xs)) (lock_calls m e)
    (serves (granted m) (grant ∷ []) (λ x. cc) refl (answers_lock m e))

pub reads_lock : (m : Index) → map.entries m ≡ two → ServerStep (joined m) lock (granted m) (grant ∷ [])
reads_lock m e = subst (λ k. Ends (effect (joined m) lock k) (following k) (granted m) (grant ∷ [])) (sym (lock_case m e)) (ends_lock m e)
