-- Each move leads from a world that shows to one that does; so each world that is reached shows.
use Rattle.std.proofs.Common.{◌≡◌, ◌≢◌, ℕ, suc, ◌∙◌, cond, Option, Some, None, List, [], refl, sym, ap, subst}
use Rattle.std.specs.Prelude.{is_some}
use Rattle.krl_messages.specs.declared.to_server.ToServer.{ToServer}
use Rattle.krl_messages.specs.declared.to_client.ToClient.{ToClient}
use Rattle.krl_messages.specs.Members.{In}
use Rattle.krl_client.specs.Clients.{Client, begun}
use Rattle.krl_refinement.specs.Client.Shows.{ShowsPlace, Leads}
use Rattle.krl_refinement.proofs.Messages.{sent_tells}
use Rattle.krl_refinement.proofs.Client.Simulation.{start_shows, crash_shows, commands_show, ticks_show_all, messages_show}
use Rattle.krl_world.specs.declared.message.Message.{Message}
use Rattle.krl_world.specs.declared.message.Message.TheVariants as message
use Rattle.krl_steps.specs.declared.step.Step.{Step}
use Rattle.krl_steps.specs.declared.step.Step.TheVariants as step
use Rattle.krl_steps.specs.declared.step.Command.{Command}
use Rattle.krl_steps.specs.declared.step.Command.TheVariants as command
use Rattle.krl_steps.specs.declared.answer.Answer.{Answer}
use Rattle.krl_steps.specs.declared.refused.Refused.{Refused}
use Rattle.krl_steps.specs.declared.refused.Refused.TheVariants as refused
use Rattle.krl_steps.specs.Refusals.{refused_by_client}
use Rattle.krl_world.specs.States.{Up, State, client_of, with_client}
use Rattle.krl_world.specs.Steps.{Takes, span, message_at, command_refusal, if_runs, server_start, ServerReads, ClientReads, Delivers, Obeys, nudged}
use Rattle.krl_world.proofs.Refinement.Mirrors.{shared_of}
use Rattle.krl_world.proofs.Refinement.Taken.{client_ok, not_named, runs_ok, at_in}
use Rattle.krl_failover.specs.Worlds.{FencedWorld, Moves, takes, starts, old_reads, old_nudged}
use Rattle.krl_failover.proofs.Worlds.Shown.{Shown, reads_shown, nudged_shown, starts_shown, old_reads_shown, old_nudged_shown, client_shown}

module _ (w : FencedWorld) (h : Shown w) where
  abbrev To : State → Type 0
  To v = Shown (record w { world = v })

  place_at : (c : ℕ) (k : Option Client) → client_of w.world c ≡ k → ShowsPlace c (w.world.places c).last_incarnation k (h.of c)
  place_at c k e = subst (λ x. ShowsPlace c (w.world.places c).last_incarnation x (h.of c)) e (h.world.places c)

  -- the client of c continues as k, or no longer, and sends these
  on_client : (v : State) (c : ℕ) (k : Option Client) (ms : List ToServer) → Leads (shared_of w.world.server) (h.of c) c (w.world.places c).last_incarnation k ms → v ≡ with_client w.world c k ms → To v
  on_client v c k ms g e = subst To (sym e) (client_shown w h c (record { last_incarnation = (w.world.places c).last_incarnation; client = k }) ms g)

  on_command : (v : State) (c : ℕ) (k : Client) (what : Command) (answer : Answer) → client_of w.world c ≡ Some k → command_refusal k what ≡ None → Obeys w.world c k what answer v → To v
  on_command v c k (command.Lock point hi m) answer i e d = on_client v c _ _ (commands_show.lock k point hi m e (shared_of w.world.server) (h.of c) c (w.world.places c).last_incarnation (place_at c (Some k) i)) d.1
  on_command v c k (command.Write op) answer i e d = on_client v c _ _ (commands_show.write k op e (shared_of w.world.server) (h.of c) c (w.world.places c).last_incarnation (place_at c (Some k) i)) d.1
  on_command v c k (command.Seize op) answer i e d = on_client v c _ _ (commands_show.seize k op e (shared_of w.world.server) (h.of c) c (w.world.places c).last_incarnation (place_at c (Some k) i)) d.1
  on_command v c k (command.Scan lo hi) answer i e d = subst To (sym d.1) h
  on_command v c k (command.Lower lo hi keep) answer i e d = on_client v c _ _ (commands_show.lower k (span lo hi) keep e (shared_of w.world.server) (h.of c) c (w.world.places c).last_incarnation (place_at c (Some k) i)) d.1
  on_command v c k (command.Pin lo hi) answer i e d = on_client v c _ _ (commands_show.pin k (span lo hi) d.0 (shared_of w.world.server) (h.of c) c (w.world.places c).last_incarnation (place_at c (Some k) i)) d.3
  on_command v c k (command.Unpin id) answer i e d = on_client v c _ _ (commands_show.unpin k id (shared_of w.world.server) (h.of c) c (w.world.places c).last_incarnation (place_at c (Some k) i)) d.1
  on_command v c k command.Leave answer i e d = on_client v c _ _ (commands_show.leave k (shared_of w.world.server) (h.of c) c (w.world.places c).last_incarnation (place_at c (Some k) i)) d.1

  -- a message reaches a client, or is lost
  on_message : (v : State) (m : ToClient) (o : Option Client) → In (message.ToClient m) w.world.sent → client_of w.world m.client ≡ o → ClientReads w.world o m v → To v
  on_message v m None at i d = subst To (sym d) h
  on_message v m (Some k) at i d = on_client v m.client _ _ (messages_show k d.0 m d.1 (shared_of w.world.server) (h.of m.client) m.client (w.world.places m.client).last_incarnation (place_at m.client (Some k) i) (λ own. sent_tells (h.of m.client) m.incarnation m.body (h.world.to m at))) d.2

  -- a message reaches the store's server
  on_request : (v : State) (m : ToServer) → In (message.ToServer m) w.world.sent → ServerReads w.world w.world.server m v → To v
  on_request v m at d =
      let x : ServerReads w.world (Up h.store) m v = subst (λ n. ServerReads w.world n m v) h.up d in
      subst To (sym x.3) (reads_shown w h x.0 m x.1 at x.2)

  on_delivery : (v : State) (o : Option Message) → ((m : Message) → o ≡ Some m → In m w.world.sent) → Delivers w.world o v → To v
  on_delivery v None at d = absurd d
  on_delivery v (Some (message.ToServer m)) at d = on_request v m (at (message.ToServer m) refl) d
  on_delivery v (Some (message.ToClient m)) at d = on_message v m (client_of w.world m.client) (at (message.ToClient m) refl) refl d

  not_running : (o : Option Client) (r : Option Refused) → cond (is_some o) (Some refused.Running) r ≡ None → o ≡ None
  not_running None r e = refl
  not_running (Some k) r e = absurd (cc)

  on_crash : (v : State) (c : ℕ) (o : Option Client) → client_of w.world c ≡ o → if_runs o (λ k. None) ≡ None → v ≡ with_client w.world c None [] → To v
  on_crash v c None i e d = absurd (cc)
  on_crash v c (Some k) i e d = on_client v c None [] (crash_shows k (shared_of w.world.server) (h.of c) c (w.world.places c).last_incarnation (place_at c (Some k) i)) d

  -- a server that runs does not start
  not_started : server_start w.world.server ≡ None → ⊥
  not_started e = let x = subst (λ n. server_start n ≡ None) h.up e in cc

  takes_shown : (s : Step) (answer : Answer) (v : State) → s ≢ step.CrashServer → Takes w.world s answer v → To v
  takes_shown (step.Deliver i) answer v ne t = on_delivery v (message_at w.world.sent i) (λ m. at_in w.world.sent i m) t.1.1
  takes_shown (step.Command c what) answer v ne t = let d = t.1 in on_command v c d.0 what answer d.1 (not_named refused_by_client (command_refusal d.0 what) (runs_ok (client_of w.world c) d.0 _ d.1 (client_ok c _ t.0))) d.2
  takes_shown (step.Tick c) answer v ne t = let d = t.1 in on_client v c _ _ (ticks_show_all d.1.0 d.1.2.0 d.1.2.1 (shared_of w.world.server) (h.of c) c (w.world.places c).last_incarnation (place_at c (Some d.1.0) d.1.1)) d.1.2.2
  takes_shown (step.Nudge c) answer v ne t = subst To (sym (t.1.1 ∙ ap (λ n. nudged w.world n c) h.up)) (nudged_shown w h c)
  takes_shown (step.StartClient c) answer v ne t =
      subst To (sym t.1.1) (client_shown w h c (record { last_incarnation = suc (w.world.places c).last_incarnation; client = Some (begun c (suc (w.world.places c).last_incarnation)) }) _
      (start_shows (shared_of w.world.server) (h.of c) c (w.world.places c).last_incarnation (place_at c None (not_running (client_of w.world c) _ (client_ok c _ t.0)))))
  takes_shown (step.CrashClient c) answer v ne t = on_crash v c (client_of w.world c) refl (client_ok c _ t.0) t.1.1
  takes_shown step.StartServer answer v ne t = absurd (not_started t.0)
  takes_shown step.CrashServer answer v ne t = absurd (ne refl)

pub move_shown : (w v : FencedWorld) → Moves w v → Shown w → Shown v
move_shown w v (takes s answer u ne t) h = takes_shown w h s answer u ne t
move_shown w v (starts s l up fits can) h = starts_shown w h s l up can
move_shown w v (old_reads epoch s t m outs is at step kept) h = old_reads_shown w h epoch s is t m outs at step kept
move_shown w v (old_nudged epoch c s is) h = old_nudged_shown w h epoch s is c
