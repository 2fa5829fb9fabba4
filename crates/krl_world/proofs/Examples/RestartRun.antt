-- On from there: the server crashes and starts again, both clients report, it serves, and the only holder of a key and
-- of the gaps at both of its sides deletes it, and receives Applied.
use Rattle.krl_world.proofs.Names.{◌≡◌, ◌≤◌, ℕ, zero, suc, ◌∙◌, Bool, true, false, cond, Some, None, List, [], ◌∷◌, ◌++◌, inl, inr, refl, sym, ap, arith, nat_cmp, eq_by_cmp, nat_cmp_total, put}
use Rattle.krl_world.proofs.Names.{nat_tests, Value, Holding, Pieces, ToServer, ToClient, PushBody, In, Index, is_slot, STANDARD_ROOM, max_clients, Server, Rebuilds, Waits, Judges, case_of, effect}
use Rattle.krl_world.proofs.Names.{Turn, next_turn, answer_first, callbacks, ServerStep, start, Client, locked, wrote, says_ack, accepted, AppliedWrite, Step, Up, Down, State, fresh, served}
use Rattle.krl_world.proofs.Names.{with_client, durable_of, index_of, is_serving, opened, span, applies, Takes, Runs, IsReachable, answer_message}
use Rattle.std.specs.FinMap as map
use Rattle.krl_modes.specs.declared.part.RangePart.TheVariants as range
use Rattle.krl_modes.specs.declared.part.KeyPart.TheVariants as key
use Rattle.krl_modes.specs.declared.mode.Mode.TheVariants as mode
use Rattle.krl_messages.specs.declared.outcome.Outcome.TheVariants as outcome
use Rattle.krl_messages.specs.declared.write_op.WriteOp.TheVariants as write
use Rattle.krl_messages.specs.declared.to_server.ToServerBody.TheVariants as said
use Rattle.krl_messages.specs.declared.to_server.RequestBody.{RequestBody}
use Rattle.krl_messages.specs.declared.to_server.RequestBody.TheVariants as asked
use Rattle.krl_messages.specs.declared.to_client.ToClientBody.TheVariants as heard
use Rattle.krl_messages.specs.declared.to_client.PushBody.TheVariants as push
use Rattle.krl_table.specs.Reports.{adopted}
use Rattle.krl_client.specs.Messages as messages
use Rattle.krl_world.specs.declared.message.Message.TheVariants as message
use Rattle.krl_steps.specs.declared.step.Step.TheVariants as step
use Rattle.krl_steps.specs.declared.step.Command.TheVariants as command
use Rattle.krl_steps.specs.declared.answer.Answer.TheVariants as told
use Rattle.krl_world.proofs.Examples.Acting.{still_recovers, answers_none, answers_one}
use Rattle.krl_world.proofs.Examples.Worked.{two}
use Rattle.krl_world.proofs.Examples.Running.{m, no_entries, index_entries, no_pieces, w6}
use Rattle.krl_world.proofs.Examples.Running.{reached as before}
use Rattle.krl_world.proofs.Examples.Pieced.{pieces_of, told_alone, told_given_up}
use Rattle.krl_world.proofs.Examples.CallbackRun as called
use Rattle.krl_world.proofs.Examples.CallbackRun.{taken, k4, j3, c14, callback}
use Rattle.krl_world.proofs.Reaching.{runs_reached}

-- The messages

abbrev epoch_to : ℕ → ToClient
epoch_to c = record { client = c; incarnation = 1; body = heard.Epoch 2 }

abbrev report : ℕ → Pieces → ToServer
report c pieces = record { client = c; incarnation = 1; body = said.Report 2 pieces }

abbrev alone : Pieces
alone = pieces_of range.X key.X

abbrev says : ℕ → RequestBody → ToServer
says seen body = record { client = 1; incarnation = 1; body = said.Request (record { epoch = 2; seen = seen; body = body }) }

abbrev hears : ℕ → PushBody → ToClient
hears number body = record { client = 1; incarnation = 1; body = heard.Push 2 number body }

abbrev lock : ToServer
lock = says 0 (asked.Lock 1 11 12 mode.RangeXX)

abbrev above : Holding
above = record { span = span 11 21; mode = mode.RangeXX; value = Some (2 ∷ []) }

abbrev grant : ToClient
grant = hears 1 (push.Grant 1 (above ∷ []))

abbrev delete : ToServer
delete = says 1 (asked.Write 1 (write.Delete 10) false)

abbrev pub whole : Holding
whole = record { span = span 0 21; mode = mode.RangeXX; value = Some (2 ∷ []) }

abbrev answer : ToClient
answer = hears 2 (push.Answer 1 outcome.Applied whole)

-- The server

abbrev again : Index → Server
again i = start (taken i).durable

abbrev half : Index → Server
half i = (effect (again i) (report 0 no_pieces) (Rebuilds no_pieces)).server

abbrev full : Index → Server
full i = (effect (half i) (report 1 alone) (Rebuilds alone)).server

abbrev waiting : Index → Server
waiting i = (effect (full i) lock (Waits 1 11 12 mode.RangeXX)).server

abbrev turn : Turn
turn = record { slot = 20; waiter = record { client = 1; req = 1; point = 11; hi = 12; mode = mode.RangeXX } }

abbrev granted : Index → Server
granted i = (answer_first (waiting i) turn).server

abbrev deleted : Index → Server
deleted i = (effect (granted i) delete (Judges 1 (write.Delete 10) outcome.Applied)).server

half_case : (i : Index) → map.entries i ≡ two → case_of (again i) (report 0 no_pieces) ≡ Rebuilds no_pieces
unfolding max_clients
half_case i e = simp e

reads_half : (i : Index) → map.entries i ≡ two → ServerStep (again i) (report 0 no_pieces) (half i) []
reads_half i e = still_recovers (again i) (report 0 no_pieces) (Rebuilds no_pieces) [] (half_case i e) refl refl

full_case : (i : Index) → map.entries i ≡ two → case_of (half i) (report 1 alone) ≡ Rebuilds alone
unfolding max_clients
full_case i e = simp (e, map.get-entries, adopted, is_slot)

full_ends : (i : Index) → map.entries i ≡ two → next_turn (full i) ≡ None
full_ends i e = simp (e, map.get-entries, adopted, is_slot)

full_calls : (i : Index) → map.entries i ≡ two → callbacks (full i) ≡ []
unfolding max_clients
full_calls i e = simp (e, map.get-entries, adopted, is_slot)

reads_full : (i : Index) → map.entries i ≡ two → ServerStep (half i) (report 1 alone) (full i) []
reads_full i e = answers_none (half i) (report 1 alone) (Rebuilds alone) [] [] (full_case i e) (λ x. cc) refl refl (full_ends i e) (full_calls i e)

lock_case : (i : Index) → map.entries i ≡ two → case_of (full i) lock ≡ Waits 1 11 12 mode.RangeXX
unfolding max_clients
lock_case i e = simp (e, map.get-entries, adopted, is_slot)

lock_turn : (i : Index) → map.entries i ≡ two → next_turn (waiting i) ≡ Some turn
unfolding max_clients
lock_turn i e = simp (e, map.get-entries, adopted, is_slot)

lock_outs : (i : Index) → map.entries i ≡ two → (answer_first (waiting i) turn).outs ≡ grant ∷ []
unfolding max_clients
lock_outs i e = simp (e, map.get-entries, adopted, is_slot)

lock_ends : (i : Index) → map.entries i ≡ two → next_turn (granted i) ≡ None
unfolding max_clients
lock_ends i e = simp (e, map.get-entries, adopted, is_slot)

lock_calls : (i : Index) → map.entries i ≡ two → callbacks (granted i) ≡ []
unfolding max_clients
lock_calls i e = simp (e, map.get-entries, adopted, is_slot)

reads_lock : (i : Index) → map.entries i ≡ two → ServerStep (full i) lock (granted i) (grant ∷ [])
reads_lock i e = answers_one (full i) lock (Waits 1 11 12 mode.RangeXX) turn [] (grant ∷ []) [] (lock_case i e) (λ x. cc) refl refl (lock_turn i e) (lock_outs i e) (lock_ends i e) (lock_calls i e)

abbrev rest : List (ℕ × Value)
rest = (20, 2 ∷ []) ∷ []

delete_case : (i : Index) → map.entries i ≡ two → case_of (granted i) delete ≡ Judges 1 (write.Delete 10) outcome.Applied
unfolding max_clients
delete_case i e = simp (e, map.get-entries, adopted, is_slot)

delete_outs : (i : Index) → map.entries i ≡ two → map.entries (map.remove i 10) ≡ rest → (effect (granted i) delete (Judges 1 (write.Delete 10) outcome.Applied)).outs ≡ answer ∷ []
delete_outs i e f = simp (e, f, map.get-entries, adopted, is_slot)

delete_ends : (i : Index) → map.entries i ≡ two → map.entries (map.remove i 10) ≡ rest → next_turn (deleted i) ≡ None
delete_ends i e f = simp (e, f, map.get-entries, adopted, is_slot)

delete_calls : (i : Index) → map.entries i ≡ two → map.entries (map.remove i 10) ≡ rest → callbacks (deleted i) ≡ []
delete_calls i e f = simp (e, f, map.get-entries, adopted, is_slot)

reads_delete : (i : Index) → map.entries i ≡ two → map.entries (map.remove i 10) ≡ rest → ServerStep (granted i) delete (deleted i) (answer ∷ [])
reads_delete i e f = answers_none (granted i) delete (Judges 1 (write.Delete 10) outcome.Applied) (answer ∷ []) [] (delete_case i e) (λ x. cc) refl (delete_outs i e f) (delete_ends i e f) (delete_calls i e f)

-- the index without the key

abbrev other : Index
other = map.insert map.empty 20 (2 ∷ [])

none_at : (q : ℕ) → eq_by_cmp nat_cmp q 20 ≡ false → map.get other q ≡ None
none_at q f = map.get-insert nat_cmp_total map.empty 20 (2 ∷ []) q ∙ ap (λ b. cond b (Some (2 ∷ [])) (map.get {R = nat_cmp} map.empty q)) f ∙ map.get-empty nat_cmp q

gone_at : (q : ℕ) (a : Bool) → eq_by_cmp nat_cmp q 10 ≡ a → cond a None (cond a (Some (1 ∷ [])) (map.get other q)) ≡ map.get other q
gone_at q true e =
    let f : eq_by_cmp nat_cmp q 20 ≡ false = grind (arith, nat_tests) in sym (none_at q f)
gone_at q false e = refl

left_at : (q : ℕ) → map.get (map.remove m 10) q ≡ map.get other q
left_at q = map.get-remove nat_cmp_total m 10 q ∙ ap (λ o. cond (eq_by_cmp nat_cmp q 10) None o) (map.get-insert nat_cmp_total other 10 (1 ∷ []) q) ∙ gone_at q (eq_by_cmp nat_cmp q 10) refl

rest_entries : map.entries (map.remove m 10) ≡ rest
rest_entries = ap map.entries (map.same_map nat_cmp_total map.nat_cmp-IsAntisymmetric _ _ left_at) ∙ map.entries-insert nat_cmp_total map.empty 20 (2 ∷ []) ∙ ap (put nat_cmp 20 (2 ∷ [])) no_entries

-- The clients

abbrev k5 : Client
k5 = messages.joined k4 2

abbrev j4 : Client
j4 = messages.joined j3 2

abbrev j5 : Client
j5 = locked j4 11 12 mode.RangeXX

abbrev j6 : Client
j6 = accepted j5 (push.Grant 1 (above ∷ []))

abbrev j7 : Client
j7 = wrote j6 (write.Delete 10)

abbrev gone : AppliedWrite
gone = record { client = 1; incarnation = 1; number = 1; op = write.Delete 10 }

-- The worlds

abbrev c15 : State
c15 = served c14 (Down (taken m).durable) [] []

abbrev c16 : State
c16 = served c15 (Up (again m)) [] []

abbrev c17 : State
c17 = served c16 (Up (again m)) (epoch_to 0 ∷ []) []

abbrev c18 : State
c18 = served c17 (Up (again m)) (epoch_to 1 ∷ []) []

abbrev c19 : State
c19 = with_client c18 0 (Some k5) (report 0 no_pieces ∷ [])

abbrev c20 : State
c20 = with_client c19 1 (Some j4) (report 1 alone ∷ [])

abbrev c21 : State
c21 = served c20 (Up (half m)) [] []

abbrev c22 : State
c22 = served c21 (Up (full m)) [] []

abbrev c23 : State
c23 = with_client c22 1 (Some j5) (lock ∷ [])

abbrev c24 : State
c24 = served c23 (Up (granted m)) (grant ∷ []) []

abbrev c25 : State
c25 = with_client c24 1 (Some j6) (says_ack j6 ∷ [])

abbrev c26 : State
c26 = with_client c25 1 (Some j7) (delete ∷ [])

abbrev pub c27 : State
c27 = served c26 (Up (deleted m)) (answer ∷ []) (gone ∷ [])

crashes : Takes c14 step.CrashServer told.Done c15
unfolding opened
crashes = (refl, (refl, refl))

starts : Takes c15 step.StartServer told.Done c16
unfolding opened
starts = (refl, (refl, refl))

nudges_first : Takes c16 (step.Nudge 0) told.Done c17
unfolding opened
nudges_first = (refl, (refl, refl))

nudges_second : Takes c17 (step.Nudge 1) told.Done c18
unfolding opened
nudges_second = (refl, (refl, refl))

joins_first : Takes c18 (step.Deliver 15) told.Done c19
unfolding opened
joins_first = (refl, (refl, (no_pieces, told_given_up, refl)))

joins_second : Takes c19 (step.Deliver 16) told.Done c20
unfolding opened
joins_second = (refl, (refl, (alone, told_alone, refl)))

hears_first : Takes c20 (step.Deliver 17) told.Done c21
unfolding opened
hears_first = (refl, (refl, (half m, [], reads_half m index_entries, ap (λ k. served c20 (Up (half m)) [] (applies (report 0 no_pieces) k)) (sym (half_case m index_entries)))))

hears_second : Takes c21 (step.Deliver 18) told.Done c22
unfolding opened
hears_second = (refl, (refl, (full m, [], reads_full m index_entries, ap (λ k. served c21 (Up (full m)) [] (applies (report 1 alone) k)) (sym (full_case m index_entries)))))

asks : Takes c22 (step.Command 1 (command.Lock 11 12 mode.RangeXX)) told.Done c23
unfolding opened
asks = (refl, (j4, refl, (refl, refl)))

hears_lock : Takes c23 (step.Deliver 19) told.Done c24
unfolding opened
hears_lock = (refl, (refl, (granted m, grant ∷ [], reads_lock m index_entries, ap (λ k. served c23 (Up (granted m)) (grant ∷ []) (applies lock k)) (sym (lock_case m index_entries)))))

accepts : Takes c24 (step.Deliver 20) told.Done c25
unfolding opened
accepts = (refl, (refl, (alone, told_alone, refl)))

writes : Takes c25 (step.Command 1 (command.Write (write.Delete 10))) told.Done c26
unfolding opened
writes = (refl, (j6, refl, (refl, refl)))

hears_delete : Takes c26 (step.Deliver 22) told.Done c27
unfolding opened
hears_delete = (refl, (refl, (deleted m, answer ∷ [], reads_delete m index_entries rest_entries, ap (λ k. served c26 (Up (deleted m)) (answer ∷ []) (applies delete k)) (sym (delete_case m index_entries)))))

abbrev last : List Step
last = step.CrashServer ∷ step.StartServer ∷ step.Nudge 0 ∷ step.Nudge 1 ∷ step.Deliver 15 ∷ step.Deliver 16 ∷ step.Deliver 17 ∷ step.Deliver 18 ∷ step.Command 1 (command.Lock 11 12 mode.RangeXX) ∷ step.Deliver 19 ∷ step.Deliver 20 ∷ step.Command 1 (command.Write (write.Delete 10)) ∷ step.Deliver 22 ∷ []

runs_last : Runs c14 last c27
runs_last = (told.Done, c15, crashes, (told.Done, c16, starts, (told.Done, c17, nudges_first, (told.Done, c18, nudges_second, (told.Done, c19, joins_first, (told.Done, c20, joins_second, (told.Done, c21, hears_first, (told.Done, c22, hears_second, (told.Done, c23, asks, (told.Done, c24, hears_lock, (told.Done, c25, accepts, (told.Done, c26, writes, (told.Done, c27, hears_delete, refl)))))))))))))

pub resumed : IsReachable c27
unfolding opened
resumed = runs_reached c14 c27 last (runs_reached w6 c14 called.more before called.runs_more) runs_last

-- What has happened there

pub told_back : In (message.ToClient callback) c27.sent
unfolding opened
told_back = inr (inr (inr (inr (inr (inr (inr (inr (inr (inr (inl refl))))))))))

pub reported : (c : ℕ) → c ≤ 1 → (pieces : Pieces) × In (message.ToServer (report c pieces)) c27.sent
unfolding opened
reported zero le = (no_pieces, inr (inr (inr (inr (inr (inr (inr (inr (inr (inr (inr (inr (inr (inr (inr (inr (inl refl)))))))))))))))))
reported (suc zero) le = (alone, inr (inr (inr (inr (inr (inr (inr (inr (inr (inr (inr (inr (inr (inr (inr (inr (inr (inl refl))))))))))))))))))
reported (suc (suc c)) le = absurd (omega (arith, le))

pub serves : is_serving c27.server ≡ true
serves = refl

pub second : (durable_of c27.server).epoch ≡ 2
second = refl

pub told_applied : In (answer_message 1 1 2 2 1 outcome.Applied whole) c27.sent
unfolding opened
told_applied = inr (inr (inr (inr (inr (inr (inr (inr (inr (inr (inr (inr (inr (inr (inr (inr (inr (inr (inr (inr (inr (inr (inl refl))))))))))))))))))))))

pub listed : c27.writes ≡ gone ∷ []
unfolding opened
listed = refl

pub without : map.get (index_of c27) 10 ≡ None
without = left_at 10 ∙ none_at 10 refl
