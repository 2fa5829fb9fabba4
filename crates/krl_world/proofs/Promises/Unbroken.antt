-- A server that serves serves on, as long as it does not crash.
use Rattle.krl_world.proofs.Names.{◌≡◌, ◌≢◌, ℕ, ◌∙◌, Bool, true, false, List, [], ◌∷◌, inl, inr, refl, sym, ap, subst, if◌then◌else◌, Durable, ToServer, ToClient, In, Server, is_recovering, unlist}
use Rattle.krl_world.proofs.Names.{Case, Ignored, Registers, Leaves, Tells, Alarms, Rebuilds, Repeats, Acknowledges, Lowers, Waits, Judges, SeizesLock, seizes, AnswersAgain, case_of, Done, acknowledged, writes, effect}
use Rattle.krl_world.proofs.Names.{Following, following, Ends, at_once, recovers, serves, ServerStep, pushes_missing, answered_up, Step, Up, Down, State, is_serving, opened, CanOpen, Runs, ServesOn}
use Rattle.krl_messages.specs.declared.outcome.Outcome.TheVariants as outcome
use Rattle.krl_steps.specs.declared.step.Step.TheVariants as step
use Rattle.krl_world.proofs.Refinement.ServerMoves.{Way, stays, reads, stops, begins, way}

-- One message

pub none_missing : (cs : List ℕ) → is_recovering cs ≡ false → cs ≡ []
none_missing [] e = refl
none_missing (c ∷ cs) e = absurd (cc)

pub effect_serves : (s : Server) (m : ToServer) (k : Case) → s.missing ≡ [] → (effect s m k).server.missing ≡ []
effect_serves s m Ignored e = e
effect_serves s m Registers e = ap (λ cs. unlist cs m.client) e
effect_serves s m Leaves e = ap (λ cs. unlist cs m.client) e
effect_serves s m Tells e = e
effect_serves s m Alarms e = e
effect_serves s m (Rebuilds pieces) e = ap (λ cs. unlist cs m.client) e
effect_serves s m (Repeats body) e = e
effect_serves s m Acknowledges e = e
effect_serves s m (Lowers span keep) e = e
effect_serves s m (Waits req point hi g) e = e
effect_serves s m (Judges number op o) e =
    pushes_missing (writes (acknowledged s m.client) m.client op o) m.client _ ∙ e
effect_serves s m (SeizesLock number op) e =
    pushes_missing (writes (acknowledged (seizes s m.client op) m.client) m.client op outcome.Applied) m.client _ ∙ e
effect_serves s m (AnswersAgain number op o) e = pushes_missing (acknowledged s m.client) m.client _ ∙ e

ends_serve : (done : Done) (kind : Following) (t : Server) (outs : List ToClient) → is_recovering done.server.missing ≡ false → Ends done kind t outs → is_recovering t.missing ≡ false
ends_serve done kind t outs e (at_once i) = e
ends_serve done kind t outs e (recovers g) = e
ends_serve done kind t outs e (serves u answers n g a) = answered_up done.server u answers a e

step_serves : (s t : Server) (m : ToServer) (outs : List ToClient) → is_recovering s.missing ≡ false → ServerStep s m t outs → is_recovering t.missing ≡ false
step_serves s t m outs e h =
    ends_serve (effect s m (case_of s m)) (following (case_of s m)) t outs
    (ap is_recovering (effect_serves s m (case_of s m) (none_missing s.missing e))) h

-- One step

not_recovering : (t : Bool) → (if t then false else true) ≡ true → t ≡ false
not_recovering true e = absurd (cc)
not_recovering false e = refl

serving : (s : Server) → is_recovering s.missing ≡ false → is_serving (Up s) ≡ true
serving s e = ap (λ (t : Bool). if t then false else true) e

takes_serve : (w v : State) (s : Step) → is_serving w.server ≡ true → s ≢ step.CrashServer → Way w v s → is_serving v.server ≡ true
takes_serve w v s h n (stays e) = subst (λ x. is_serving x ≡ true) (sym e) h
takes_serve w v s h n (reads old new m outs e f at t) =
    let up : is_serving (Up old) ≡ true = subst (λ x. is_serving x ≡ true) e h in
    subst (λ x. is_serving x ≡ true) (sym f) (serving new (step_serves old new m outs (not_recovering (is_recovering old.missing) up) t))
takes_serve w v s h n (stops old e up f) = absurd (n e)
takes_serve w v s h n (begins d e f) = let bad : is_serving (Down d) ≡ true = subst (λ x. is_serving x ≡ true) e h in absurd (cc)

-- A run

runs_serve : (w v : State) (steps : List Step) → is_serving w.server ≡ true → (In step.CrashServer steps → ⊥) → Runs w steps v → is_serving v.server ≡ true
runs_serve w v [] h n r = subst (λ x. is_serving x.server ≡ true) (sym r) h
runs_serve w v (s ∷ steps) h n r = runs_serve r.1 v steps (takes_serve w r.1 s h (λ e. n (inl (sym e))) (way w r.1 s r.0 r.2.1)) (λ i. n (inr i)) r.3

first_serves : (d : Durable) → CanOpen d → is_serving (opened d).server ≡ true
unfolding opened
first_serves d h = ap (λ ms. if is_recovering ms then false else true) h.left

pub serves_on : ServesOn
serves_on d steps w h n r = runs_serve (opened d) w steps (first_serves d h) n r
