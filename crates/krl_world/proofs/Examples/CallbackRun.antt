-- On from the first run: another client wants the same gap exclusively, so the first is called back, and the other is
-- granted it.
use Rattle.krl_world.proofs.Names.{◌≡◌, Some, None, List, [], ◌∷◌, refl, sym, ap, ToServer, ToClient, Index, max_clients, Server, Registers, Waits, Lowers, case_of, effect, Turn, next_turn}
use Rattle.krl_world.proofs.Names.{answer_first, callbacks, ServerStep, Client, locked, belief_lowered, says_report, says_ack, accepted, Step, Up, State, seated, served, with_client, opened, span}
use Rattle.krl_world.proofs.Names.{applies, Takes, Runs}
use Rattle.std.specs.FinMap as map
use Rattle.krl_modes.specs.declared.part.RangePart.TheVariants as range
use Rattle.krl_modes.specs.declared.part.KeyPart.TheVariants as key
use Rattle.krl_modes.specs.declared.mode.Mode.TheVariants as mode
use Rattle.krl_messages.specs.declared.to_server.ToServerBody.TheVariants as said
use Rattle.krl_messages.specs.declared.to_server.RequestBody.TheVariants as asked
use Rattle.krl_messages.specs.declared.to_client.ToClientBody.TheVariants as heard
use Rattle.krl_messages.specs.declared.to_client.PushBody.TheVariants as push
use Rattle.krl_client.specs.Clients as clients
use Rattle.krl_client.specs.Messages as messages
use Rattle.krl_steps.specs.declared.step.Step.TheVariants as step
use Rattle.krl_steps.specs.declared.step.Command.TheVariants as command
use Rattle.krl_steps.specs.declared.answer.Answer.TheVariants as told
use Rattle.krl_world.proofs.Examples.Acting.{answers_none, answers_one}
use Rattle.krl_world.proofs.Examples.Worked.{two, granted}
use Rattle.krl_world.proofs.Examples.Running.{m, index_entries, k3, no_pieces, told_nothing, w6}
use Rattle.krl_world.proofs.Examples.Pieced.{pieces_of, gap_alone, told_gap}

-- The messages

abbrev hello : ToServer
hello = record { client = 1; incarnation = 1; body = said.Hello }

abbrev epoch : ToClient
epoch = record { client = 1; incarnation = 1; body = heard.Epoch 1 }

abbrev lock : ToServer
lock = record { client = 1; incarnation = 1; body = said.Request (record { epoch = 1; seen = 0; body = asked.Lock 1 5 6 mode.RangeXX }) }

abbrev pub callback : ToClient
callback = record { client = 0; incarnation = 1; body = heard.Callback 1 (span 0 11) mode.N }

abbrev release : ToServer
release = record { client = 0; incarnation = 1; body = said.Request (record { epoch = 1; seen = 1; body = asked.Release (span 0 11) mode.N }) }

abbrev grant : ToClient
grant = record { client = 1; incarnation = 1; body = heard.Push 1 1 (push.Grant 1 (gap_alone ∷ [])) }

-- The server

abbrev both : Index → Server
both m = (effect (granted m) hello Registers).server

abbrev blocked : Index → Server
blocked m = (effect (both m) lock (Waits 1 5 6 mode.RangeXX)).server

abbrev freed : Index → Server
freed m = (effect (blocked m) release (Lowers (span 0 11) mode.N)).server

abbrev turn : Turn
turn = record { slot = 10; waiter = record { client = 1; req = 1; point = 5; hi = 6; mode = mode.RangeXX } }

abbrev pub taken : Index → Server
taken m = (answer_first (freed m) turn).server

hello_case : (m : Index) → case_of (granted m) hello ≡ Registers
unfolding max_clients
hello_case m = refl

hello_ends : (m : Index) → map.entries m ≡ two → next_turn (both m) ≡ None
unfolding max_clients
hello_ends m e = simp (e, map.get-entries)

hello_calls : (m : Index) → map.entries m ≡ two → callbacks (both m) ≡ []
unfolding max_clients
hello_calls m e = simp (e, map.get-entries)

reads_hello : (m : Index) → map.entries m ≡ two → ServerStep (granted m) hello (both m) (epoch ∷ [])
reads_hello m e = answers_none (granted m) hello Registers (epoch ∷ []) [] (hello_case m) (λ x. cc) refl refl (hello_ends m e) (hello_calls m e)

lock_case : (m : Index) → map.entries m ≡ two → case_of (both m) lock ≡ Waits 1 5 6 mode.RangeXX
unfolding max_clients
lock_case m e = simp e

lock_ends : (m : Index) → map.entries m ≡ two → next_turn (blocked m) ≡ None
unfolding max_clients
lock_ends m e = simp (e, map.get-entries)

lock_calls : (m : Index) → map.entries m ≡ two → callbacks (blocked m) ≡ callback ∷ []
unfolding max_clients
lock_calls m e = simp (e, map.get-entries)

reads_lock : (m : Index) → map.entries m ≡ two → ServerStep (both m) lock (blocked m) (callback ∷ [])
reads_lock m e = answers_none (both m) lock (Waits 1 5 6 mode.RangeXX) [] (callback ∷ []) (lock_case m e) (λ x. cc) refl refl (lock_ends m e) (lock_calls m e)

release_case : (m : Index) → case_of (blocked m) release ≡ Lowers (span 0 11) mode.N
unfolding max_clients
release_case m = refl

release_turn : (m : Index) → map.entries m ≡ two → next_turn (freed m) ≡ Some turn
unfolding max_clients
release_turn m e = simp (e, map.get-entries)

release_outs : (m : Index) → map.entries m ≡ two → (answer_first (freed m) turn).outs ≡ grant ∷ []
unfolding max_clients
release_outs m e = simp (e, map.get-entries)

release_ends : (m : Index) → map.entries m ≡ two → next_turn (taken m) ≡ None
unfolding max_clients
release_ends m e = simp (e, map.get-entries)

reads_release : (m : Index) → map.entries m ≡ two → ServerStep (blocked m) release (taken m) (grant ∷ [])
reads_release m e = answers_one (blocked m) release (Lowers (span 0 11) mode.N) turn [] (grant ∷ []) [] (release_case m) (λ x. cc) refl refl (release_turn m e) (release_outs m e) (release_ends m e) refl

-- The clients

abbrev pub k4 : Client
k4 = belief_lowered k3 (span 0 11) mode.N

abbrev j1 : Client
j1 = messages.joined (clients.begun 1 1) 1

abbrev j2 : Client
j2 = locked j1 5 6 mode.RangeXX

abbrev pub j3 : Client
j3 = accepted j2 (push.Grant 1 (gap_alone ∷ []))

-- The worlds

abbrev c7 : State
c7 = seated w6 1 (record { last_incarnation = 1; client = Some (clients.begun 1 1) }) (hello ∷ [])

abbrev c8 : State
c8 = served c7 (Up (both m)) (epoch ∷ []) []

abbrev c9 : State
c9 = with_client c8 1 (Some j1) (says_report no_pieces j1 ∷ [])

abbrev c10 : State
c10 = with_client c9 1 (Some j2) (lock ∷ [])

abbrev c11 : State
c11 = served c10 (Up (blocked m)) (callback ∷ []) []

abbrev c12 : State
c12 = with_client c11 0 (Some k4) (release ∷ [])

abbrev c13 : State
c13 = served c12 (Up (taken m)) (grant ∷ []) []

abbrev pub c14 : State
c14 = with_client c13 1 (Some j3) (says_ack j3 ∷ [])

starts : Takes w6 (step.StartClient 1) told.Done c7
unfolding opened
starts = (refl, (refl, refl))

hello_applies : applies hello (case_of (granted m) hello) ≡ []
hello_applies = ap (applies hello) (hello_case m)

hears_hello : Takes c7 (step.Deliver 7) told.Done c8
unfolding opened
hears_hello = (refl, (refl, (both m, epoch ∷ [], reads_hello m index_entries, ap (λ xs. served c7 (Up (both m)) (epoch ∷ []) xs) (sym hello_applies))))

joins : Takes c8 (step.Deliver 8) told.Done c9
unfolding opened
joins = (refl, (refl, (no_pieces, told_nothing, refl)))

asks : Takes c9 (step.Command 1 (command.Lock 5 6 mode.RangeXX)) told.Done c10
unfolding opened
asks = (refl, (j1, refl, (refl, refl)))

lock_applies : applies lock (case_of (both m) lock) ≡ []
lock_applies = ap (applies lock) (lock_case m index_entries)

hears_lock : Takes c10 (step.Deliver 10) told.Done c11
unfolding opened
hears_lock = (refl, (refl, (blocked m, callback ∷ [], reads_lock m index_entries, ap (λ xs. served c10 (Up (blocked m)) (callback ∷ []) xs) (sym lock_applies))))

lowers : Takes c11 (step.Deliver 11) told.Done c12
unfolding opened
lowers = (refl, (refl, (pieces_of range.S key.S, told_gap, refl)))

release_applies : applies release (case_of (blocked m) release) ≡ []
release_applies = ap (applies release) (release_case m)

hears_release : Takes c12 (step.Deliver 12) told.Done c13
unfolding opened
hears_release = (refl, (refl, (taken m, grant ∷ [], reads_release m index_entries, ap (λ xs. served c12 (Up (taken m)) (grant ∷ []) xs) (sym release_applies))))

accepts : Takes c13 (step.Deliver 13) told.Done c14
unfolding opened
accepts = (refl, (refl, (no_pieces, told_nothing, refl)))

abbrev pub more : List Step
more = step.StartClient 1 ∷ step.Deliver 7 ∷ step.Deliver 8 ∷ step.Command 1 (command.Lock 5 6 mode.RangeXX) ∷ step.Deliver 10 ∷ step.Deliver 11 ∷ step.Deliver 12 ∷ step.Deliver 13 ∷ []

pub runs_more : Runs w6 more c14
runs_more = (told.Done, c7, starts, (told.Done, c8, hears_hello, (told.Done, c9, joins, (told.Done, c10, asks, (told.Done, c11, hears_lock, (told.Done, c12, lowers, (told.Done, c13, hears_release, (told.Done, c14, accepts, refl))))))))
