-- What a step makes of the server: it stays, or reads a message, crashes or starts.
use Rattle.krl_world.proofs.Names.{◌≡◌, ℕ, ◌∙◌, Option, Some, None, List, refl, sym, ap, ToServer, ToClient, In, Durable, Server, ServerStep, start, Client, Message, Step, Command, Answer}
use Rattle.krl_world.proofs.Names.{ServerPlace, Up, Down, State, client_of, message_at, ServerReads, ClientReads, Delivers, Obeys, nudged, started, crashed, Does}
use Rattle.krl_world.specs.declared.message.Message.TheVariants as message
use Rattle.krl_steps.specs.declared.step.Step.TheVariants as step
use Rattle.krl_steps.specs.declared.step.Command.TheVariants as command
use Rattle.krl_world.proofs.Refinement.Taken.{at_in}

pub data Way (w v : State) (s : Step) : Type 0 where
  stays : v.server ≡ w.server → Way w v s
  reads : (old new : Server) (m : ToServer) (outs : List ToClient) → w.server ≡ Up old → v.server ≡ Up new → In (message.ToServer m) w.sent → ServerStep old m new outs → Way w v s
  stops : (old : Server) → s ≡ step.CrashServer → w.server ≡ Up old → v.server ≡ Down old.durable → Way w v s
  begins : (d : Durable) → w.server ≡ Down d → v.server ≡ Up (start d) → Way w v s

same : (w v x : State) (s : Step) → x.server ≡ w.server → v ≡ x → Way w v s
same w v x s h e = stays (ap (λ (y : State). y.server) e ∙ h)

read_way : (w v : State) (s : Step) (m : ToServer) (n : ServerPlace) → w.server ≡ n → In (message.ToServer m) w.sent → ServerReads w n m v → Way w v s
read_way w v s m (Up old) up at d = reads old d.0 m d.1 up (ap (λ (y : State). y.server) d.3) at d.2
read_way w v s m (Down x) up at d = same w v w s refl d

client_way : (w v : State) (s : Step) (m : ToClient) (o : Option Client) → ClientReads w o m v → Way w v s
client_way w v s m None d = same w v w s refl d
client_way w v s m (Some k) d = same w v _ s refl d.2

deliver_way : (w v : State) (s : Step) (o : Option Message) → ((m : Message) → o ≡ Some m → In m w.sent) → Delivers w o v → Way w v s
deliver_way w v s None at d = absurd d
deliver_way w v s (Some (message.ToServer m)) at d = read_way w v s m w.server refl (at (message.ToServer m) refl) d
deliver_way w v s (Some (message.ToClient m)) at d = client_way w v s m (client_of w m.client) d

obey_way : (w v : State) (s : Step) (c : ℕ) (k : Client) (what : Command) (answer : Answer) → Obeys w c k what answer v → Way w v s
obey_way w v s c k (command.Lock point hi m) answer d = same w v _ s refl d.1
obey_way w v s c k (command.Write op) answer d = same w v _ s refl d.1
obey_way w v s c k (command.Seize op) answer d = same w v _ s refl d.1
obey_way w v s c k (command.Scan lo hi) answer d = same w v _ s refl d.1
obey_way w v s c k (command.Lower lo hi keep) answer d = same w v _ s refl d.1
obey_way w v s c k (command.Pin lo hi) answer d = same w v _ s refl d.3
obey_way w v s c k (command.Unpin id) answer d = same w v _ s refl d.1
obey_way w v s c k command.Leave answer d = same w v _ s refl d.1

nudge_way : (w v : State) (s : Step) (c : ℕ) (n : ServerPlace) → w.server ≡ n → v ≡ nudged w n c → Way w v s
nudge_way w v s c (Up old) up d = same w v _ s (sym up) d
nudge_way w v s c (Down x) up d = same w v _ s refl d

start_way : (w v : State) (s : Step) (n : ServerPlace) → w.server ≡ n → v ≡ started w n → Way w v s
start_way w v s (Up old) up d = same w v _ s refl d
start_way w v s (Down x) up d = begins x up (ap (λ (y : State). y.server) d)

crash_way : (w v : State) (n : ServerPlace) → w.server ≡ n → v ≡ crashed w n → Way w v step.CrashServer
crash_way w v (Up old) up d = stops old refl up (ap (λ (y : State). y.server) d)
crash_way w v (Down x) up d = same w v _ step.CrashServer refl d

pub way : (w v : State) (s : Step) (answer : Answer) → Does w s answer v → Way w v s
way w v (step.Deliver i) answer d = deliver_way w v (step.Deliver i) (message_at w.sent i) (at_in w.sent i) d.1
way w v (step.Command c what) answer d = obey_way w v (step.Command c what) c d.0 what answer d.2
way w v (step.Tick c) answer d = same w v _ (step.Tick c) refl d.1.2.2
way w v (step.Nudge c) answer d = nudge_way w v (step.Nudge c) c w.server refl d.1
way w v (step.StartClient c) answer d = same w v _ (step.StartClient c) refl d.1
way w v (step.CrashClient c) answer d = same w v _ (step.CrashClient c) refl d.1
way w v step.StartServer answer d = start_way w v step.StartServer w.server refl d.1
way w v step.CrashServer answer d = crash_way w v w.server refl d.1
