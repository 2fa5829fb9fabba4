-- A client that is held stays as it is.
use Rattle.std.proofs.Common.{◌≡◌, ◌≢◌, ℕ, suc, ◌∙◌, false, List, [], ◌∷◌, Some, None, Option, refl, sym, ap, arith}
use Rattle.std.specs.Prelude.{nat_eq, if◌then◌else◌}
use Rattle.std.proofs.Math.Logic.{⊎_elim}
use Rattle.std.proofs.lemmas.Bool.Decides.{nat_tests}
use Rattle.krl_messages.specs.declared.to_server.ToServer.{ToServer}
use Rattle.krl_messages.specs.declared.to_client.ToClient.{ToClient}
use Rattle.krl_client.specs.Clients.{Client, begun}
use Rattle.krl_client.specs.Commands.{locked, wrote, seized, says_lock, says_write, says_release, says_bye}
use Rattle.krl_client.specs.Messages as receiver
use Rattle.krl_client.specs.Ticks.{tick, says_hello}
use Rattle.krl_world.specs.declared.message.Message.{Message}
use Rattle.krl_world.specs.declared.message.Message.TheVariants as message
use Rattle.krl_steps.specs.declared.step.Step.{Step}
use Rattle.krl_steps.specs.declared.step.Step.TheVariants as step
use Rattle.krl_steps.specs.declared.step.Command.{Command}
use Rattle.krl_steps.specs.declared.step.Command.TheVariants as command
use Rattle.krl_steps.specs.declared.answer.Answer.{Answer}
use Rattle.krl_world.specs.States.{State, ClientPlace, ServerPlace, Up, Down, client_of, seated}
use Rattle.krl_world.specs.Steps.{Takes, Delivers, ServerReads, ClientReads, Obeys, message_at, span, nudged, started, crashed}
use Rattle.krl_shards.specs.declared.part.Part.{Part}
use Rattle.krl_host_laws.specs.Hosts as host
use Rattle.krl_fenced_hosts.specs.Processes as store
use Rattle.krl_world_laws.specs.Readers.{Rows, IsStill}
use Rattle.krl_world_laws.specs.Shards.Scans.{views, AnswerMeanwhile}
use Rattle.krl_world_laws.specs.Shards.Held.{IsNotTo, IsOthersCommand, IsElsewhere, HeldSystem, held_worlds, spares_of_host, held_hosts, spares_of_store, held_fenced_hosts, RunsHeld, begins, goes_on, IsMeanwhile, AnswerHeld, ScanWhileHeld}
use Rattle.krl_world_laws.proofs.Systems.{Follows, worlds_follow, hosts_follow, fenced_hosts_follow}
use Rattle.krl_world_laws.proofs.Shards.Scanned.{meanwhile}

not_same : (c d : ℕ) → d ≢ c → nat_eq c d ≡ false
not_same c d h = grind (arith, nat_tests)

same_world : (v w : State) (c : ℕ) → w ≡ v → IsStill v w c
same_world v w c e = ap (λ x. client_of x c) (sym e)

-- another client's place changes
other_place : (v w : State) (c d : ℕ) (x : ClientPlace) (ms : List ToServer) → d ≢ c → w ≡ seated v d x ms → IsStill v w c
other_place v w c d x ms ne e =
    sym (ap (λ y. client_of y c) e ∙ ap (λ t. (if t then x else v.places c).client) (not_same c d ne))

pub server_reads : (v w : State) (c : ℕ) (n : ServerPlace) (m : ToServer) → ServerReads v n m w → IsStill v w c
server_reads v w c (Up s) m h = sym (ap (λ y. client_of y c) h.3)
server_reads v w c (Down d) m h = same_world v w c h

client_reads : (v w : State) (c : ℕ) (k : Option Client) (m : ToClient) → m.client ≢ c → ClientReads v k m w → IsStill v w c
client_reads v w c (Some k) m ne h = other_place v w c m.client _ (receiver.sends h.0 k (receiver.client_case_of k m)) ne h.2
client_reads v w c None m ne h = same_world v w c h

delivers : (v w : State) (c : ℕ) (m : Option Message) → IsNotTo c m → Delivers v m w → IsStill v w c
delivers v w c (Some (message.ToServer m)) ne h = server_reads v w c v.server m h
delivers v w c (Some (message.ToClient m)) ne h = client_reads v w c (client_of v m.client) m ne h
delivers v w c None ne h = absurd h

obeys : (v w : State) (c d : ℕ) (k : Client) (what : Command) (answer : Answer) → IsOthersCommand c d what → Obeys v d k what answer w → IsStill v w c
obeys v w c d k (command.Lock point hi m) answer ne h = other_place v w c d _ (says_lock (locked k point hi m) point hi m ∷ []) ne h.1
obeys v w c d k (command.Write op) answer ne h = other_place v w c d _ (says_write (wrote k op) op ∷ []) ne h.1
obeys v w c d k (command.Seize op) answer ne h = other_place v w c d _ (says_write (seized k op) op ∷ []) ne h.1
obeys v w c d k (command.Scan lo hi) answer ne h = same_world v w c h.1
obeys v w c d k (command.Lower lo hi keep) answer ne h = other_place v w c d _ (says_release k (span lo hi) keep ∷ []) ne h.1
obeys v w c d k (command.Pin lo hi) answer ne h = other_place v w c d _ [] ne h.3
obeys v w c d k (command.Unpin id) answer ne h = other_place v w c d _ [] ne h.1
obeys v w c d k command.Leave answer ne h = other_place v w c d _ (says_bye k ∷ []) ne h.1

pub nudges : (v w : State) (c d : ℕ) (n : ServerPlace) → w ≡ nudged v n d → IsStill v w c
nudges v w c d (Up s) e = sym (ap (λ y. client_of y c) e)
nudges v w c d (Down x) e = same_world v w c e

pub starts : (v w : State) (c : ℕ) (n : ServerPlace) → w ≡ started v n → IsStill v w c
starts v w c (Up s) e = same_world v w c e
starts v w c (Down x) e = sym (ap (λ y. client_of y c) e)

pub crashes : (v w : State) (c : ℕ) (n : ServerPlace) → w ≡ crashed v n → IsStill v w c
crashes v w c (Up s) e = sym (ap (λ y. client_of y c) e)
crashes v w c (Down x) e = same_world v w c e

one_step : (v w : State) (c : ℕ) (s : Step) (answer : Answer) → Takes v s answer w → IsElsewhere v c s → IsStill v w c
one_step v w c (step.Deliver i) answer t ne = delivers v w c (message_at v.sent i) ne t.1.1
one_step v w c (step.Command d what) answer t ne = obeys v w c d t.1.0 what answer ne t.1.2
one_step v w c (step.Tick d) answer t ne = other_place v w c d _ (tick t.1.1.2.0 t.1.1.0) ne t.1.1.2.2
one_step v w c (step.Nudge d) answer t ne = nudges v w c d v.server t.1.1
one_step v w c (step.StartClient d) answer t ne = other_place v w c d _ (says_hello (begun d (suc (v.places d).last_incarnation)) ∷ []) ne t.1.1
one_step v w c (step.CrashClient d) answer t ne = other_place v w c d _ [] ne t.1.1
one_step v w c step.StartServer answer t ne = starts v w c v.server t.1.1
one_step v w c step.CrashServer answer t ne = crashes v w c v.server t.1.1

-- Moves

host_spares : (c : ℕ) (v w : host.HostWorld) (m : host.Moves v w) → spares_of_host c v w m → IsStill v.world w.world c
host_spares c v _ (host.acts s answer u ne t) alone = one_step v.world u c s answer t alone
host_spares c v _ (host.begins d n number off less le) alone = other_place v.world (host.client_started v.world d n) c d _ (says_hello (begun d n) ∷ []) alone refl
host_spares c v _ (host.starts l e fits can) alone = refl
host_spares c v _ (host.judges h t m outs said e at step among) alone = refl
host_spares c v _ (host.nudges h d said e lt among) alone = refl
host_spares c v _ (host.keeps h n e le) alone = refl
host_spares c v _ (host.releases h x e i le) alone = refl
host_spares c v _ (host.drops h left e among) alone = refl
host_spares c v _ host.crashes alone = refl

store_spares : (c : ℕ) (v w : store.StoreWorld) (m : store.Moves v w) → spares_of_store c v w m → IsStill v.world w.world c
store_spares c v _ (store.acts s answer u ne t) alone = one_step v.world u c s answer t alone
store_spares c v _ (store.begins d n number off less le) alone = other_place v.world (host.client_started v.world d n) c d _ (says_hello (begun d n) ∷ []) alone refl
store_spares c v _ (store.starts p l off fits can) alone = refl
store_spares c v _ (store.judges p x t m outs said e at step among) alone = refl
store_spares c v _ (store.nudges p x d said e lt among) alone = refl
store_spares c v _ (store.keeps p x n e current some le) alone = refl
store_spares c v _ (store.releases p x y e i le) alone = refl
store_spares c v _ (store.drops p x left e among) alone = refl
store_spares c v _ (store.crashes p) alone = refl

-- a move that spares a client leaves it as it is
record Stays (h : HeldSystem) : Type 0 where
  by : (c : ℕ) (v w : h.system.World) (m : h.system.Moves v w) → h.Spares c v w m → IsStill (h.system.view v) (h.system.view w) c

worlds_stay : Stays held_worlds
worlds_stay = record { by = λ c v w m alone. one_step v w c m.0 m.1 m.2 alone }

hosts_stay : Stays held_hosts
hosts_stay = record { by = host_spares }

fenced_hosts_stay : Stays held_fenced_hosts
fenced_hosts_stay = record { by = store_spares }

module _ (h : HeldSystem) (f : Follows h.system) (k : Stays h) where
  held : (c : ℕ) (v w : h.system.World) → RunsHeld h c v w → IsStill (h.system.view v) (h.system.view w) c
  held c v w begins = refl
  held c v w (goes_on u x r m alone) = held c v u r ∙ k.by c u w m alone

  between : (v w : h.system.World) (c : ℕ) → IsMeanwhile h v w c → IsStill (h.system.view v) (h.system.view w) c
  between v w c i = ⊎_elim (λ (r : RunsHeld h c v w). held c v w r) (λ (r : RunsHeld h c w v). sym (held c w v r)) i

  answer_held : (x : ℕ → h.system.World) (c : ℕ → ℕ) (ps : List Part) (rows : Rows) → AnswerHeld h x c ps rows → AnswerMeanwhile (views h.system x) c ps rows
  answer_held x c [] rows e = e
  answer_held x c (p ∷ ps) rows a = (h.system.view a.0, a.1, a.2, between a.0 (x p.shard) (c p.shard) a.3, a.4, answer_held x c ps a.2 a.5, a.6)

  scan : ScanWhileHeld h
  scan bounds x c m lo hi parts rows reach together follow a = meanwhile h.system f bounds x c m lo hi parts rows reach together follow (answer_held x c parts rows a)

pub held_of_worlds : ScanWhileHeld held_worlds
held_of_worlds = scan held_worlds worlds_follow worlds_stay

pub held_of_hosts : ScanWhileHeld held_hosts
held_of_hosts = scan held_hosts hosts_follow hosts_stay

pub held_of_fenced_hosts : ScanWhileHeld held_fenced_hosts
held_of_fenced_hosts = scan held_fenced_hosts fenced_hosts_follow fenced_hosts_stay
