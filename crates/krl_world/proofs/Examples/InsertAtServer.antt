-- What the server does in another short run: a client may insert into the gap below 20, and inserts 15.
use Rattle.krl_world.proofs.Names.{◌≡◌, ℕ, false, Some, None, List, [], ◌∷◌, ◌++◌, refl, sym, subst, Value, Holding, ToServer, ToClient, PushBody, Index, STANDARD_ROOM, max_clients, Server, Waits, Judges}
use Rattle.krl_world.proofs.Names.{case_of, effect, Turn, next_turn, answer_first, AnswersWaiters, stops, goes_on, callbacks, Calls, following, Ends, serves, ServerStep}
use Rattle.std.specs.FinMap as map
use Rattle.krl_modes.specs.declared.mode.Mode.TheVariants as mode
use Rattle.krl_messages.specs.declared.outcome.Outcome.TheVariants as outcome
use Rattle.krl_messages.specs.declared.write_op.WriteOp.TheVariants as write
use Rattle.krl_messages.specs.declared.to_server.ToServerBody.TheVariants as said
use Rattle.krl_messages.specs.declared.to_server.RequestBody.{RequestBody}
use Rattle.krl_messages.specs.declared.to_server.RequestBody.TheVariants as asked
use Rattle.krl_messages.specs.declared.to_client.ToClientBody.TheVariants as told
use Rattle.krl_messages.specs.declared.to_client.PushBody.TheVariants as push
use Rattle.krl_world.proofs.Examples.Worked.{two, joined}

abbrev pub three : List (ℕ × Value)
three = (10, 1 ∷ []) ∷ (15, 5 ∷ []) ∷ (20, 2 ∷ []) ∷ []

abbrev says : ℕ → RequestBody → ToServer
says seen body = record { client = 0; incarnation = 1; body = said.Request (record { epoch = 1; seen = seen; body = body }) }

abbrev hears : ℕ → PushBody → ToClient
hears number body = record { client = 0; incarnation = 1; body = told.Push 1 number body }

abbrev pub lock : ToServer
lock = says 0 (asked.Lock 1 15 16 mode.RangeIN)

abbrev pub gap : Holding
gap = record { span = record { lo = 11; hi = 21 }; mode = mode.RangeIN; value = None }

abbrev pub grant : ToClient
grant = hears 1 (push.Grant 1 (gap ∷ []))

abbrev pub insert : ToServer
insert = says 1 (asked.Write 1 (write.Insert 15 (5 ∷ [])) false)

abbrev pub entry : Holding
entry = record { span = record { lo = 11; hi = 16 }; mode = mode.RangeIX; value = Some (5 ∷ []) }

abbrev pub answer : ToClient
answer = hears 2 (push.Answer 1 outcome.Applied entry)

abbrev waiting : Index → Server
waiting m = (effect (joined m) lock (Waits 1 15 16 mode.RangeIN)).server

abbrev turn : Turn
turn = record { slot = 20; waiter = record { client = 0; req = 1; point = 15; hi = 16; mode = mode.RangeIN } }

abbrev pub granted : Index → Server
granted m = (answer_first (waiting m) turn).server

abbrev pub inserted : Index → Server
inserted m = (effect (granted m) insert (Judges 1 (write.Insert 15 (5 ∷ [])) outcome.Applied)).server

-- The lock

pub lock_case : (m : Index) → map.entries m ≡ two → case_of (joined m) lock ≡ Waits 1 15 16 mode.RangeIN
unfolding max_clients
lock_case m e = simp e

lock_turn : (m : Index) → map.entries m ≡ two → next_turn (waiting m) ≡ Some turn
unfolding max_clients
lock_turn m e = simp e

lock_outs : (m : Index) → map.entries m ≡ two → (answer_first (waiting m) turn).outs ≡ grant ∷ []
unfolding max_clients
lock_outs m e = simp (e, map.get-entries)

lock_ends : (m : Index) → map.entries m ≡ two → next_turn (granted m) ≡ None
unfolding max_clients
lock_ends m e = simp (e, map.get-entries)

lock_calls : (m : Index) → map.entries m ≡ two → callbacks (granted m) ≡ []
unfolding max_clients
lock_calls m e = simp (e, map.get-entries)

answers_lock : (m : Index) → map.entries m ≡ two → AnswersWaiters (waiting m) (granted m) (grant ∷ [])
answers_lock m e = subst (λ (xs : List ToClient). AnswersWaiters (waiting m) (granted m) (xs ++ [])) (lock_outs m e) (goes_on (waiting m) (granted m) turn [] (lock_turn m e) (stops (granted m) (lock_ends m e)))

ends_lock : (m : Index) → map.entries m ≡ two → Ends (effect (joined m) lock (Waits 1 15 16 mode.RangeIN)) Calls (granted m) (grant ∷ [])
ends_lock m e = subst (λ (xs : List ToClient). Ends (effect (joined m) lock (Waits 1 15 16 mode.RangeIN)) Calls (granted m) (grant ∷ xs)) (lock_calls m e)
    (serves (granted m) (grant ∷ []) (λ x. cc) refl (answers_lock m e))

pub reads_lock : (m : Index) → map.entries m ≡ two → ServerStep (joined m) lock (granted m) (grant ∷ [])
reads_lock m e = subst (λ k. Ends (effect (joined m) lock k) (following k) (granted m) (grant ∷ [])) (sym (lock_case m e)) (ends_lock m e)

-- The insert

pub insert_case : (m : Index) → map.entries m ≡ two → case_of (granted m) insert ≡ Judges 1 (write.Insert 15 (5 ∷ [])) outcome.Applied
unfolding max_clients
insert_case m e = simp (e, map.get-entries)

insert_outs : (m : Index) → map.entries m ≡ two → map.entries (map.insert m 15 (5 ∷ [])) ≡ three → (effect (granted m) insert (Judges 1 (write.Insert 15 (5 ∷ [])) outcome.Applied)).outs ≡ answer ∷ []
insert_outs m e f = simp (e, f, map.get-entries)

insert_ends : (m : Index) → map.entries m ≡ two → map.entries (map.insert m 15 (5 ∷ [])) ≡ three → next_turn (inserted m) ≡ None
insert_ends m e f = simp (e, f, map.get-entries)

insert_calls : (m : Index) → map.entries m ≡ two → map.entries (map.insert m 15 (5 ∷ [])) ≡ three → callbacks (inserted m) ≡ []
insert_calls m e f = simp (e, f, map.get-entries)

ends_insert : (m : Index) → map.entries m ≡ two → map.entries (map.insert m 15 (5 ∷ [])) ≡ three → Ends (effect (granted m) insert (Judges 1 (write.Insert 15 (5 ∷ [])) outcome.Applied)) Calls (inserted m) (answer ∷ [])
ends_insert m e f = subst (λ (xs : List ToClient). Ends (effect (granted m) insert (Judges 1 (write.Insert 15 (5 ∷ [])) outcome.Applied)) Calls (inserted m) (xs ++ [])) (insert_outs m e f)
    (subst (λ (xs : List ToClient). Ends (effect (granted m) insert (Judges 1 (write.Insert 15 (5 ∷ [])) outcome.Applied)) Calls (inserted m) ((effect (granted m) insert (Judges 1 (write.Insert 15 (5 ∷ [])) outcome.Applied)).outs ++ xs)) (insert_calls m e f)
    (serves (inserted m) [] (λ x. cc) refl (stops (inserted m) (insert_ends m e f))))

pub reads_insert : (m : Index) → map.entries m ≡ two → map.entries (map.insert m 15 (5 ∷ [])) ≡ three → ServerStep (granted m) insert (inserted m) (answer ∷ [])
reads_insert m e f = subst (λ k. Ends (effect (granted m) insert k) (following k) (inserted m) (answer ∷ [])) (sym (insert_case m e)) (ends_insert m e f)
