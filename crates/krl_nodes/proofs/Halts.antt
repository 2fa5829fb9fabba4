-- A server that stops, and one that starts, as a world has it.
use Rattle.krl_nodes.proofs.Names.{◌≡◌, [], None, refl, sym, ap, ◌∙◌, Result, Ok, Err, Answer, Refused, ServerPlace, Up, Down, State, unused, Takes, Steps, crashed, started, server_down, server_start}
use Rattle.krl_nodes.proofs.Names.{Mail, Pick, ServerActs, did_of}
use Rattle.krl_steps.specs.declared.step.Step.TheVariants as step
use Rattle.krl_world.specs.declared.node.ServerPlace.{ServerPlace as KeptNode}
use Rattle.krl_world.specs.Fields.{KeptWorld, meaning, node_of}
use Rattle.krl_nodes.specs.declared.orders.ServerOrder.TheVariants as to_server

-- a world with this server
abbrev alone : KeptNode → KeptWorld
alone n = record { opening = unused []; server = n; places = []; sent = []; writes = [] }

module _ (p : Pick) (mail : Mail) where
  crash_taken : (w v : State) (d : ServerPlace) (a : Answer) → w.server ≡ d → Takes w step.CrashServer a v → ServerActs p to_server.Crash mail d mail v.server (did_of (Ok a))
  crash_taken w v (Up s) a is t = (t.1.0, refl, record { server = s; was = refl; now = ap (λ (u : State). u.server) t.1.1 ∙ ap (λ n. (crashed w n).server) is; post = refl })
  crash_taken w v (Down d) a is t = let no : server_down (Down d) ≡ None = ap server_down (sym is) ∙ t.0 in absurd (cc)

  crash_acts : (w v : State) (r : Result Answer Refused) → Steps w step.CrashServer r v → ServerActs p to_server.Crash mail w.server mail v.server (did_of r)
  unfolding Steps
  crash_acts w v (Ok a) t = crash_taken w v w.server a refl t
  crash_acts w v (Err r) t = (t.1, record { post = refl; node = ap (λ (u : State). u.server) t.0 })

  start_taken : (w v : State) (d : ServerPlace) (a : Answer) → w.server ≡ d → Takes w step.StartServer a v → ServerActs p to_server.Start mail d mail v.server (did_of (Ok a))
  start_taken w v (Up s) a is t = let no : server_start (Up s) ≡ None = ap server_start (sym is) ∙ t.0 in absurd (cc)
  start_taken w v (Down d) a is t = (t.1.0, ap server_start (sym is) ∙ t.0, record { durable = d; was = refl; now = ap (λ (u : State). u.server) t.1.1 ∙ ap (λ n. (started w n).server) is; post = refl })

  start_acts : (w v : State) (r : Result Answer Refused) → Steps w step.StartServer r v → ServerActs p to_server.Start mail w.server mail v.server (did_of r)
  unfolding Steps
  start_acts w v (Ok a) t = start_taken w v w.server a refl t
  start_acts w v (Err r) t = (t.1, record { post = refl; node = ap (λ (u : State). u.server) t.0 })

  pub stops : (n next : KeptNode) (r : Result Answer Refused) → ((w : KeptWorld) → w.server ≡ n → Steps (meaning w) step.CrashServer r (meaning (record w { server = next }))) → ServerActs p to_server.Crash mail (node_of n) mail (node_of next) (did_of r)
  stops n next r h = crash_acts (meaning (alone n)) (meaning (record (alone n) { server = next })) r (h (alone n) refl)

  pub begins : (n next : KeptNode) (r : Result Answer Refused) → ((w : KeptWorld) → w.server ≡ n → Steps (meaning w) step.StartServer r (meaning (record w { server = next }))) → ServerActs p to_server.Start mail (node_of n) mail (node_of next) (did_of r)
  begins n next r h = start_acts (meaning (alone n)) (meaning (record (alone n) { server = next })) r (h (alone n) refl)
