-- A run: three clients register in one batch, the host keeps two of the changes, informs a client, and crashes.
use Rattle.std.proofs.Common.{◌≡◌, ℕ, Some, None, List, [], ◌∷◌, ◌++◌, inl, inr, refl, ap, arith}
use Rattle.std.specs.FinMap as map
use Rattle.krl_modes.specs.Constants.{max_clients}
use Rattle.krl_messages.specs.declared.to_server.ToServer.{ToServer}
use Rattle.krl_messages.specs.declared.to_server.ToServerBody.TheVariants as said
use Rattle.krl_messages.specs.Members.{In}
use Rattle.krl_durable.specs.declared.change.Change.TheVariants as change
use Rattle.krl_durable.specs.Index.{Index, slots}
use Rattle.krl_server.specs.Cases.{case_of, Registers}
use Rattle.krl_server.specs.Effects.{effect}
use Rattle.krl_server.specs.Callbacks.{callbacks}
use Rattle.krl_server.specs.Changes.{change_of}
use Rattle.krl_server.specs.Servers.{Server}
use Rattle.krl_server.specs.Steps.{ServerStep}
use Rattle.krl_steps.specs.declared.step.Step.TheVariants as step
use Rattle.krl_steps.specs.declared.answer.Answer.TheVariants as told
use Rattle.krl_world.specs.declared.message.Message.TheVariants as message
use Rattle.krl_world.specs.States.{State, opened, unused}
use Rattle.krl_world.specs.Steps.{Takes}
use Rattle.krl_world.proofs.Examples.Acting.{answers_none}
use Rattle.krl_world.proofs.Examples.Worked.{two, joined, hello_case, reads_hello, no_turn}
use Rattle.krl_world.proofs.Examples.Running.{m, index_entries, opens}
use Rattle.krl_host_laws.specs.Hosts.{Note, Changed, notes_of, Said, Host, stepped, HostWorld, acts, keeps, releases, crashes, IsReached, moved, kept, client_started}
use Rattle.krl_host_laws.specs.Hosts as hosts
use Rattle.krl_host_laws.specs.Batches.{KeepsInParts, epoch_for}
use Rattle.krl_host_laws.proofs.Ahead.{judged, first, h0}

abbrev hello_of : ℕ → ToServer
hello_of c = record { client = c; incarnation = 1; body = said.Hello }

-- The server

abbrev second : Index → Server
second i = (effect (joined i) (hello_of 1) Registers).server

abbrev third : Index → Server
third i = (effect (second i) (hello_of 2) Registers).server

second_case : (i : Index) → case_of (joined i) (hello_of 1) ≡ Registers
unfolding max_clients
second_case i = refl

third_case : (i : Index) → case_of (second i) (hello_of 2) ≡ Registers
unfolding max_clients
third_case i = refl

second_calls : (i : Index) → map.entries i ≡ two → callbacks (second i) ≡ []
unfolding max_clients
second_calls i e = simp e

third_calls : (i : Index) → map.entries i ≡ two → callbacks (third i) ≡ []
unfolding max_clients
third_calls i e = simp e

reads_second : (i : Index) → map.entries i ≡ two → ServerStep (joined i) (hello_of 1) (second i) (epoch_for 1 ∷ [])
reads_second i e = answers_none (joined i) (hello_of 1) Registers (epoch_for 1 ∷ []) [] (second_case i) (λ x. cc) refl refl (no_turn (second i) (λ n. refl) (slots i)) (second_calls i e)

reads_third : (i : Index) → map.entries i ≡ two → ServerStep (second i) (hello_of 2) (third i) (epoch_for 2 ∷ [])
reads_third i e = answers_none (second i) (hello_of 2) Registers (epoch_for 2 ∷ []) [] (third_case i) (λ x. cc) refl refl (no_turn (third i) (λ n. refl) (slots i)) (third_calls i e)

-- The clients

abbrev s1 : State
s1 = client_started first.world 0 1

abbrev s2 : State
s2 = client_started s1 1 1

abbrev s3 : State
s3 = client_started s2 2 1

starts_0 : Takes first.world (step.StartClient 0) told.Done s1
unfolding opened
starts_0 = (refl, (refl, refl))

starts_1 : Takes s1 (step.StartClient 1) told.Done s2
unfolding opened
starts_1 = (refl, (refl, refl))

starts_2 : Takes s2 (step.StartClient 2) told.Done s3
unfolding opened
starts_2 = (refl, (refl, refl))

abbrev w3 : HostWorld
w3 = record first { world = s3 }

r3 : IsReached w3
r3 =
    moved (record first { world = s2 }) w3
    (moved (record first { world = s1 }) (record first { world = s2 })
    (moved first (record first { world = s1 }) (hosts.opens (unused two) opens) (acts (step.StartClient 0) told.Done s1 (λ e. cc) starts_0))
    (acts (step.StartClient 1) told.Done s2 (λ e. cc) starts_1))
    (acts (step.StartClient 2) told.Done s3 (λ e. cc) starts_2)

sent_0 : In (message.ToServer (hello_of 0)) s3.sent
unfolding opened
sent_0 = inl refl

sent_1 : In (message.ToServer (hello_of 1)) s3.sent
unfolding opened
sent_1 = inr (inl refl)

sent_2 : In (message.ToServer (hello_of 2)) s3.sent
unfolding opened
sent_2 = inr (inr (inl refl))

-- The batch

abbrev registers : ℕ → List Note
registers c = Changed (change.Registered c 1) ∷ []

abbrev h1 : Host
h1 = stepped h0 (joined m) (registers 0) (epoch_for 0 ∷ [])

abbrev h2 : Host
h2 = stepped h1 (second m) (registers 1) (epoch_for 1 ∷ [])

abbrev h3 : Host
h3 = stepped h2 (third m) (registers 2) (epoch_for 2 ∷ [])

abbrev w6 : HostWorld
w6 = record w3 { host = Some h3 }

r4 : IsReached (record w3 { host = Some h1 })
r4 = judged w3 h0 (joined m) (hello_of 0) (epoch_for 0 ∷ []) (registers 0) r3 refl sent_0 (reads_hello m) (ap (λ k. notes_of (change_of (hello_of 0) k)) (hello_case m))

r5 : IsReached (record w3 { host = Some h2 })
r5 = judged (record w3 { host = Some h1 }) h1 (second m) (hello_of 1) (epoch_for 1 ∷ []) (registers 1) r4 refl sent_1 (reads_second m index_entries) (ap (λ k. notes_of (change_of (hello_of 1) k)) (second_case m))

r6 : IsReached w6
r6 = judged (record w3 { host = Some h2 }) h2 (third m) (hello_of 2) (epoch_for 2 ∷ []) (registers 2) r5 refl sent_2 (reads_third m index_entries) (ap (λ k. notes_of (change_of (hello_of 2) k)) (third_case m))

-- Two of the three are kept

abbrev two_notes : List Note
two_notes = registers 0 ++ registers 1

abbrev h7 : Host
h7 = record h3 { kept = 3; unkept = registers 2 }

abbrev w7 : HostWorld
w7 = record { world = kept s3 two_notes; host = Some h7 }

r7 : IsReached w7
r7 = moved w6 w7 r6 (keeps h3 2 refl (omega arith))

abbrev told_second : Said
told_second = record { after = 3; message = epoch_for 1 }

abbrev w8 : HostWorld
w8 = record w7 { world = record w7.world { sent = w7.world.sent ++ message.ToClient (epoch_for 1) ∷ [] } }

r8 : IsReached w8
r8 = moved w7 w8 r7 (releases h7 told_second refl (inr (inl refl)) (omega arith))

abbrev w9 : HostWorld
w9 = record w8 { host = None }

r9 : IsReached w9
r9 = moved w8 w9 r8 crashes

was_told : In (message.ToClient (epoch_for 1)) w9.world.sent
unfolding opened
was_told = inr (inr (inr (inl refl)))

pub keeps_in_parts : KeepsInParts
keeps_in_parts = record {
  before = w6;
  reached = r6;
  host = h3;
  runs = refl;
  batch = refl;
  nothing = (refl, refl, refl);
  after = w9;
  goes_on = r9;
  crashed = refl;
  parts = (refl, refl, refl);
  told = was_told;
}
