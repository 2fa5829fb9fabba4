-- Another run, step by step: a client locks the gap below 20, inserts 15 there, and receives Applied.
use Rattle.krl_world.proofs.Names.{◌≡◌, ◌∙◌, Some, List, [], ◌∷◌, refl, sym, ap, inl, inr, nat_cmp, nat_cmp_total, put, In, case_of, Client, locked, wrote, says_ack, accepted, AppliedWrite, Step, Up}
use Rattle.krl_world.specs.Steps as steps
use Rattle.krl_world.proofs.Reaching.{runs_reached}
use Rattle.krl_world.proofs.Names.{State, unused, fresh, served, with_client, opened, applies, Takes, IsReachable, answer_message}
use Rattle.std.specs.FinMap as map
use Rattle.krl_modes.specs.declared.mode.Mode.TheVariants as mode
use Rattle.krl_messages.specs.declared.outcome.Outcome.TheVariants as outcome
use Rattle.krl_messages.specs.declared.write_op.WriteOp.TheVariants as write
use Rattle.krl_messages.specs.declared.to_client.PushBody.TheVariants as push
use Rattle.krl_steps.specs.declared.step.Step.TheVariants as step
use Rattle.krl_steps.specs.declared.step.Command.TheVariants as command
use Rattle.krl_steps.specs.declared.answer.Answer.TheVariants as told
use Rattle.krl_world.proofs.Examples.Worked.{two, joined}
use Rattle.krl_world.proofs.Examples.Running.{m, index_entries, k1, no_pieces, told_nothing, w1, w2, w3, starts, hears_hello, joins, opens}
use Rattle.krl_world.proofs.Examples.InsertAtServer.{three, lock, gap, grant, insert, entry, answer, granted, inserted, lock_case, reads_lock, insert_case, reads_insert}

more_entries : map.entries (map.insert m 15 (5 ∷ [])) ≡ three
more_entries = map.entries-insert nat_cmp_total m 15 (5 ∷ []) ∙ ap (put nat_cmp 15 (5 ∷ [])) index_entries

abbrev k2 : Client
k2 = locked k1 15 16 mode.RangeIN

abbrev k3 : Client
k3 = accepted k2 (push.Grant 1 (gap ∷ []))

abbrev k4 : Client
k4 = wrote k3 (write.Insert 15 (5 ∷ []))

abbrev pub applied : AppliedWrite
applied = record { client = 0; incarnation = 1; number = 1; op = write.Insert 15 (5 ∷ []) }

abbrev v4 : State
v4 = with_client w3 0 (Some k2) (lock ∷ [])

abbrev v5 : State
v5 = served v4 (Up (granted m)) (grant ∷ []) []

abbrev v6 : State
v6 = with_client v5 0 (Some k3) (says_ack k3 ∷ [])

abbrev v7 : State
v7 = with_client v6 0 (Some k4) (insert ∷ [])

abbrev pub v8 : State
v8 = served v7 (Up (inserted m)) (answer ∷ []) (applied ∷ [])

asks : Takes w3 (step.Command 0 (command.Lock 15 16 mode.RangeIN)) told.Done v4
unfolding opened
asks = (refl, (k1, refl, (refl, refl)))

lock_applies : applies lock (case_of (joined m) lock) ≡ []
lock_applies = ap (applies lock) (lock_case m index_entries)

hears_lock : Takes v4 (step.Deliver 4) told.Done v5
unfolding opened
hears_lock = (refl, (refl, (granted m, grant ∷ [], reads_lock m index_entries, ap (λ xs. served v4 (Up (granted m)) (grant ∷ []) xs) (sym lock_applies))))

accepts : Takes v5 (step.Deliver 5) told.Done v6
unfolding opened
accepts = (refl, (refl, (no_pieces, told_nothing, refl)))

writes : Takes v6 (step.Command 0 (command.Write (write.Insert 15 (5 ∷ [])))) told.Done v7
unfolding opened
writes = (refl, (k3, refl, (refl, refl)))

insert_applies : applies insert (case_of (granted m) insert) ≡ applied ∷ []
insert_applies = ap (applies insert) (insert_case m index_entries)

hears_insert : Takes v7 (step.Deliver 7) told.Done v8
unfolding opened
hears_insert = (refl, (refl, (inserted m, answer ∷ [], reads_insert m index_entries more_entries, ap (λ xs. served v7 (Up (inserted m)) (answer ∷ []) xs) (sym insert_applies))))

abbrev run : List Step
run = step.StartClient 0 ∷ step.Deliver 1 ∷ step.Deliver 2 ∷ step.Command 0 (command.Lock 15 16 mode.RangeIN) ∷ step.Deliver 4 ∷ step.Deliver 5 ∷ step.Command 0 (command.Write (write.Insert 15 (5 ∷ []))) ∷ step.Deliver 7 ∷ []

pub written_reached : IsReachable v8
unfolding opened
written_reached = runs_reached (fresh two) v8 run (steps.opens (unused two) opens) (told.Done, w1, starts, (told.Done, w2, hears_hello, (told.Done, w3, joins, (told.Done, v4, asks, (told.Done, v5, hears_lock, (told.Done, v6, accepts, (told.Done, v7, writes, (told.Done, v8, hears_insert, refl))))))))

pub listed : v8.writes ≡ applied ∷ []
unfolding opened
listed = refl

pub told_applied : In (answer_message 0 1 1 2 1 outcome.Applied entry) v8.sent
unfolding opened
told_applied = inr (inr (inr (inr (inr (inr (inr (inl refl)))))))
