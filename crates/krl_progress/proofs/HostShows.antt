-- A host's good rounds are good rounds of a world: the one with its server in memory, in which all that the server produced has left.
use Rattle.krl_progress.proofs.Names.{◌≡◌, ◌≢◌, ℕ, zero, suc, ◌+◌, ◌-◌, ◌≤◌, ◌∙◌, inl, inr, ⊎_elim, Bool, true, false, Option, Some, None, List, [], ◌∷◌, ◌++◌, length, slice_get, refl, sym, ap, subst, arith, nat_lt, if◌then◌else◌, ltb-true, ltb-false, same_Some, append-nil, append_assoc, length-append}
use Rattle.krl_progress.proofs.Names.{In, in_both, ToClient, Message, AppliedWrite, Step, Answer, Up, Down, State, client_of, seated, served, from_clients, from_server}
use Rattle.krl_progress.proofs.Names.{message_at, Delivers, Takes, Runs, applies, case_of, nudge}
use Rattle.std.specs.Prelude.{take, drop}
use Rattle.krl_messages.proofs.Members.{in_left, in_right}
use Rattle.krl_server.specs.Changes.{change_of}
use Rattle.krl_world.specs.declared.message.Message.TheVariants as message
use Rattle.krl_steps.specs.declared.step.Step.TheVariants as step
use Rattle.krl_steps.specs.declared.answer.Answer.TheVariants as answered
use Rattle.krl_world.proofs.Refinement.Taken.{client_ok, at_in}
use Rattle.krl_host_laws.specs.Hosts.{Said, said_after, Host, HostWorld, Moves, IsReached, moved, acts, begins, starts, judges, nudges, keeps, releases, drops, crashes, notes_of, disk_of, stepped, kept}
use Rattle.krl_host_laws.proofs.Clients.{Has, beside}
use Rattle.krl_host_laws.proofs.Incarnations.{in_range}
use Rattle.krl_host_laws.proofs.Shown.{said_in, in_told}
use Rattle.krl_host_laws.proofs.Promised.{reached_shown}
use Rattle.krl_progress.specs.Rounds.{loses_a_node, IsRound}
use Rattle.krl_progress.specs.Blocks.{Throughout, RoundsWhile}
use Rattle.krl_progress.specs.HostRounds.{in_memory, ahead, Acts, DoesAs, HostRuns, ends, moves, HostRounds, anything}
use Rattle.krl_progress.proofs.MakesRounds.{Quiet, ticked as tick, handed}
use Rattle.krl_progress.proofs.HostActs.{past, low, message_left, get_some, nth_of, cancel, any, Alike, rests, sits, commanded, ticked, started, crashed, not_down, delivers_one, heard}

-- At first these messages are under way, and those were sent in the world; what is new since is new in both

module _ (P S : List Message) (has : Has P S) where
  abbrev number : (o : Option Message) → ((m : Message) → o ≡ Some m → In m S) → ℕ
  number None h = 0
  number (Some m) h = suc (nth_of S m (h m refl)).0

  number_is : (o : Option Message) (h : (m : Message) → o ≡ Some m → In m S) (m : Message) → o ≡ Some m → message_at S (number o h) ≡ Some m
  number_is None h m e = absurd (cc)
  number_is (Some x) h m e = (nth_of S x (h x refl)).1 ∙ e

  -- the number that a message has in the world
  abbrev pub there : ℕ → ℕ
  there j = if nat_lt (length P) j then j - length P + length S else number (message_at P j) (λ m e. has m (at_in P j m e))

  there_is : (new : List Message) (j : ℕ) (m : Message) → message_at (P ++ new) j ≡ Some m → message_at (S ++ new) (there j) ≡ Some m
  there_is new j m e = by_test (nat_lt (length P) j) refl
    where
      by_test : (b : Bool) → nat_lt (length P) j ≡ b → message_at (S ++ new) (if b then j - length P + length S else number (message_at P j) (λ m e. has m (at_in P j m e))) ≡ Some m
      by_test true t =
          let lt = ltb-true (length P) j t in
          let i = j - length P - 1 in
          let here : message_at (P ++ new) j ≡ slice_get new i = past P new i j (omega (arith, lt)) in
          let mine : message_at (S ++ new) (j - length P + length S) ≡ slice_get new i = past S new i (j - length P + length S) (omega (arith, lt)) in
          mine ∙ sym here ∙ e
      by_test false t =
          let le = ltb-false (length P) j t in
          message_left S new (number (message_at P j) (λ m e. has m (at_in P j m e))) m (number_is (message_at P j) (λ m e. has m (at_in P j m e)) m (low P new j m le e))

  abbrev pub as_there : Step → Step
  as_there (step.Deliver j) = step.Deliver (there j)
  as_there (step.Command c what) = step.Command c what
  as_there (step.Tick c) = step.Tick c
  as_there (step.Nudge c) = step.Nudge c
  as_there (step.StartClient c) = step.StartClient c
  as_there (step.CrashClient c) = step.CrashClient c
  as_there step.StartServer = step.StartServer
  as_there step.CrashServer = step.CrashServer

  abbrev pub all_there : List Step → List Step
  all_there [] = []
  all_there (s ∷ steps) = as_there s ∷ all_there steps

  abbrev pub world : HostWorld → Host → List Message → List AppliedWrite → State
  world w h new writes = beside w.world (Up h.memory) (S ++ new) writes

  pub record Seen (w : HostWorld) (made : List Message) (h : Host) (new : List Message) : Type 0 where
    pub up : w.host ≡ Some h
    pub made_is : made ≡ P ++ new
    pub left : Has w.world.sent (S ++ new)
    pub waits : (x : Said) → In x h.unsent → In (message.ToClient x.message) (S ++ new)

  -- what a move of the host makes of the world u: nothing, or what its step makes of it
  data Made (u : State) (v : HostWorld) (more : List Message) (writes : List AppliedWrite) : List Step → Type 0 where
    still : (h : Host) (new : List Message) → Seen v more h new → u ≡ world v h new writes → Made u v more writes []
    taken : (s : Step) (answer : Answer) (h : Host) (new : List Message) (written : List AppliedWrite) → Seen v more h new → Takes u (as_there s) answer (world v h new written) → Made u v more writes (s ∷ [])

  grown : (new xs : List Message) (y : Message) → In y (S ++ new) → In y (S ++ (new ++ xs))
  grown new xs y i = subst (λ zs. In y zs) (append_assoc S new xs) (in_left (S ++ new) xs y i)

  fresh : (new xs : List Message) (y : Message) → In y xs → In y (S ++ (new ++ xs))
  fresh new xs y i = in_right S (new ++ xs) y (in_right new xs y i)

  longer : (made more new xs : List Message) → made ≡ P ++ new → more ≡ made ++ xs → more ≡ P ++ (new ++ xs)
  longer made more new xs e f = f ∙ ap (λ zs. zs ++ xs) e ∙ append_assoc P new xs

  -- A client's step

  module _ (w : HostWorld) (made : List Message) (h : Host) (new : List Message) (writes : List AppliedWrite) (seen : Seen w made h new) where
    abbrev here : State
    here = world w h new writes

    client_seen : (v : State) (more xs : List Message) → v.sent ≡ w.world.sent ++ xs → more ≡ made ++ xs → Seen (record w { world = v }) more h (new ++ xs)
    client_seen v more xs e f = record {
      up = seen.up;
      made_is = longer made more new xs seen.made_is f;
      left = λ y i. ⊎_elim (λ (a : In y w.world.sent). grown new xs y (seen.left y a)) (λ (b : In y xs). fresh new xs y b) (in_both w.world.sent xs y (subst (λ zs. In y zs) e i));
      waits = λ x i. grown new xs (message.ToClient x.message) (seen.waits x i);
    }

    by_client : (v : State) (s f : Step) (Fits : List Message → Type 0) (more xs : List Message) → Alike w.world f Fits v → Fits (S ++ new) → as_there s ≡ f → v.sent ≡ w.world.sent ++ xs → more ≡ made ++ xs → Made here (record w { world = v }) more writes (s ∷ [])
    by_client v s f Fits more xs (rests go) g same e m =
        let t = go (Up h.memory) (S ++ new) writes g in
        let none : xs ≡ [] = cancel w.world.sent xs [] (sym e ∙ sym (append-nil w.world.sent)) in
        let sent : S ++ new ≡ S ++ (new ++ xs) = ap (λ zs. S ++ zs) (sym (ap (λ zs. new ++ zs) none ∙ append-nil new)) in
        taken s t.0 h (new ++ xs) writes (client_seen w.world more xs e m)
        (subst (λ z. Takes here z t.0 (world w h (new ++ xs) writes)) (sym same) (subst (λ ms. Takes here f t.0 (beside w.world (Up h.memory) ms writes)) sent t.1))
    by_client v s f Fits more xs (sits c x ms go) g same e m =
        let t = go (Up h.memory) (S ++ new) writes g in
        let u = seated w.world c x ms in
        let new_is : from_clients ms ≡ xs = cancel w.world.sent (from_clients ms) xs e in
        let sent : S ++ new ++ from_clients ms ≡ S ++ (new ++ xs) = append_assoc S new (from_clients ms) ∙ ap (λ zs. S ++ (new ++ zs)) new_is in
        taken s t.0 h (new ++ xs) writes (client_seen u more xs e m)
        (subst (λ z. Takes here z t.0 (beside u (Up h.memory) (S ++ (new ++ xs)) writes)) (sym same) (subst (λ zs. Takes here f t.0 (beside u (Up h.memory) zs writes)) sent t.1))

    -- the number of a message of the list
    found : (j : ℕ) (m : Message) → message_at made j ≡ Some m → message_at (S ++ new) (there j) ≡ Some m
    found j m e = there_is new j m (subst (λ xs. message_at xs j ≡ Some m) seen.made_is e)

    acted : (v : State) (s : Step) (answer : Answer) (more : List Message) (now : List Step) → w.world.server ≡ Down (disk_of w.world) → s ≢ step.StartServer → Takes w.world s answer v → Acts w.world s v made now more → Made here (record w { world = v }) more writes now
    acted v (step.Deliver i) answer more now down ne t d =
        let m = d.1 in
        let at = d.3 in
        let reads = subst (λ o. Delivers w.world o v) at t.1.1 in
        subst (Made here (record w { world = v }) more writes) (sym d.5)
        (by_client v (step.Deliver d.0) (step.Deliver (there d.0)) (λ ms. message_at ms (there d.0) ≡ Some (message.ToClient m)) more d.2 (heard w.world v (there d.0) m (client_of w.world m.client) refl reads) (found d.0 (message.ToClient m) d.4) refl d.6 d.7)
    acted v (step.Command c what) answer more now down ne t d = subst (Made here (record w { world = v }) more writes) (sym d.1)
        (by_client v (step.Command c what) (step.Command c what) any more d.0 (commanded w.world v c t.1.0 what answer t.0 t.1.1 t.1.2) tt refl d.2 d.3)
    acted v (step.Tick c) answer more now down ne t d = subst (Made here (record w { world = v }) more writes) (sym d.1)
        (by_client v (step.Tick c) (step.Tick c) any more d.0 (ticked w.world v c answer t) tt refl d.2 d.3)
    acted v (step.Nudge c) answer more now down ne t d = absurd (not_down w.world (disk_of w.world) down (client_ok c _ t.0))
    acted v (step.StartClient c) answer more now down ne t d = subst (Made here (record w { world = v }) more writes) (sym d.1)
        (by_client v (step.StartClient c) (step.StartClient c) any more d.0 (started w.world v c answer t) tt refl d.2 d.3)
    acted v (step.CrashClient c) answer more now down ne t d = subst (Made here (record w { world = v }) more writes) (sym d.1)
        (by_client v (step.CrashClient c) (step.CrashClient c) any more d.0 (crashed w.world v c answer t) tt refl d.2 d.3)
    acted v step.StartServer answer more now down ne t d = absurd (ne refl)
    acted v step.CrashServer answer more now down ne t d = absurd (not_down w.world (disk_of w.world) down t.0)

    -- A step of the server

    server_seen : (v : HostWorld) (t : Host) (n : ℕ) (outs said : List ToClient) (more : List Message) → v.host ≡ Some t → v.world.sent ≡ w.world.sent → t.unsent ≡ h.unsent ++ said_after n said → ((m : ToClient) → In m said → In m outs) → more ≡ made ++ from_server outs → Seen v more t (new ++ from_server outs)
    server_seen v t n outs said more e sent unsent among m = record {
      up = e;
      made_is = longer made more new (from_server outs) seen.made_is m;
      left = λ y i. grown new (from_server outs) y (seen.left y (subst (λ ms. In y ms) sent i));
      waits = λ x i. ⊎_elim (λ (a : In x h.unsent). grown new (from_server outs) (message.ToClient x.message) (seen.waits x a))
          (λ (b : In x (said_after n said)). fresh new (from_server outs) (message.ToClient x.message) (in_told outs x.message (among x.message (said_in n said x b).1)))
          (in_both h.unsent (said_after n said) x (subst (λ xs. In x xs) unsent i));
    }

    -- the server in memory becomes that of t, and sends these
    by_server : (v : HostWorld) (s : Step) (answer : Answer) (t : Host) (outs : List ToClient) (more : List Message) (written : List AppliedWrite) → v.world ≡ w.world → Seen v more t (new ++ from_server outs) → Takes here (as_there s) answer (served here (Up t.memory) outs written) → Made here v more writes (s ∷ [])
    by_server v s answer t outs more written same after takes = taken s answer t (new ++ from_server outs) (writes ++ written) after
        (subst (λ x. Takes here (as_there s) answer (beside x (Up t.memory) (S ++ (new ++ from_server outs)) (writes ++ written))) (sym same)
        (subst (λ ms. Takes here (as_there s) answer (beside w.world (Up t.memory) ms (writes ++ written))) (append_assoc S new (from_server outs)) takes))

  -- the same, of the host that the move names
  at_host : (w v : HostWorld) (made more : List Message) (now : List Step) (h x : Host) (new : List Message) (writes : List AppliedWrite) → Seen w made h new → w.host ≡ Some x → (Seen w made x new → Made (world w x new writes) v more writes now) → Made (world w h new writes) v more writes now
  at_host w v made more now h x new writes seen e go =
      let is : x ≡ h = same_Some x h (sym e ∙ seen.up) in
      subst (λ y. Made (world w y new writes) v more writes now) is (go (subst (λ y. Seen w made y new) (sym is) seen))

  none_made : (v : HostWorld) (u : State) (more : List Message) (now : List Step) (writes : List AppliedWrite) (h : Host) (new : List Message) → now ≡ [] → Seen v more h new → u ≡ world v h new writes → Made u v more writes now
  none_made v u more now writes h new e seen same = subst (Made u v more writes) (sym e) (still h new seen same)

  one : (w v : HostWorld) (made more : List Message) (now : List Step) (m : Moves w v) → IsReached w → DoesAs w v m made now more → (h : Host) (new : List Message) (writes : List AppliedWrite) → Seen w made h new → Made (world w h new writes) v more writes now
  one w v made more now (acts s answer x ne t) r d h new writes seen = acted w made h new writes seen x s answer more now (reached_shown w r).down ne t d
  one w v made more now (begins c n lt off less le) r d h new writes seen = absurd d
  one w v made more now (starts l off fits can) r d h new writes seen = absurd d
  one w v made more now (judges x t m outs said runs sent st among) r d h new writes seen =
      let n = x.kept + length (x.unkept ++ notes_of (change_of m (case_of x.memory m))) in
      let y = stepped x t (notes_of (change_of m (case_of x.memory m))) said in
      let u : HostWorld = record w { host = Some y } in
      at_host w u made more now h x new writes seen runs (λ s.
      subst (Made (world w x new writes) u more writes) (sym d.2)
      (by_server w made x new writes s u (step.Deliver d.0) answered.Done y outs more (applies m (case_of x.memory m)) refl
      (server_seen w made x new writes s u y n outs said more refl refl refl among d.3)
      (delivers_one (world w x new writes) (served (world w x new writes) (Up t) outs (applies m (case_of x.memory m))) (there d.0) (message.ToServer m) (found w made x new writes s d.0 (message.ToServer m) d.1) (t, outs, st, refl))))
  one w v made more now (nudges x c said runs lt among) r d h new writes seen =
      let n = x.kept + length (x.unkept ++ []) in
      let y = stepped x x.memory [] said in
      let u : HostWorld = record w { host = Some y } in
      at_host w u made more now h x new writes seen runs (λ s.
      subst (Made (world w x new writes) u more writes) (sym d.0)
      (by_server w made x new writes s u (step.Nudge c) answered.Done y (nudge x.memory c) more [] refl
      (server_seen w made x new writes s u y n (nudge x.memory c) said more refl refl refl among d.1)
      (in_range c lt, (refl, refl))))
  one w v made more now (keeps x n runs le) r d h new writes seen =
      let y : Host = record x { kept = x.kept + n; unkept = drop n x.unkept } in
      let u : HostWorld = record { world = kept w.world (take n x.unkept); host = Some y } in
      at_host w u made more now h x new writes seen runs (λ s.
      none_made u (world w x new writes) more now writes y new d.0 (record { up = refl; made_is = d.1 ∙ s.made_is; left = s.left; waits = s.waits }) refl)
  one w v made more now (releases x y runs i le) r d h new writes seen =
      let u : HostWorld = record w { world = record w.world { sent = w.world.sent ++ message.ToClient y.message ∷ [] } } in
      at_host w u made more now h x new writes seen runs (λ s.
      none_made u (world w x new writes) more now writes x new d.0 (record {
        up = runs;
        made_is = d.1 ∙ s.made_is;
        left = λ m at. ⊎_elim (λ (a : In m w.world.sent). s.left m a)
            (λ (b : In m (message.ToClient y.message ∷ [])). only m (message.ToClient y.message) (s.waits y i) b)
            (in_both w.world.sent (message.ToClient y.message ∷ []) m at);
        waits = s.waits;
      }) refl)
    where
      only : (m z : Message) → In z (S ++ new) → In m (z ∷ []) → In m (S ++ new)
      only m z p (inl q) = subst (λ k. In k (S ++ new)) (sym q) p
      only m z p (inr q) = absurd q
  one w v made more now (drops x others runs among) r d h new writes seen =
      let y : Host = record x { unsent = others } in
      let u : HostWorld = record w { host = Some y } in
      at_host w u made more now h x new writes seen runs (λ s.
      none_made u (world w x new writes) more now writes y new d.0 (record { up = refl; made_is = d.1 ∙ s.made_is; left = s.left; waits = λ z i. s.waits z (among z i) }) refl)
  one w v made more now crashes r d h new writes seen = absurd d

  -- What stays so in the world in quiet steps: then the host's run is one in which it holds

  module _ (Q Inv : State → Type 0) (goes : (u v : State) (s : Step) (answer : Answer) → Quiet s → Inv u → Takes u s answer v → Inv v) (says : (u : State) → Inv u → Q u) (same : (u : State) (sent : List Message) (writes : List AppliedWrite) → Q u → Q (record u { sent = sent; writes = writes })) where
    pub record Stays (w : HostWorld) (made : List Message) (steps : List Step) (v : HostWorld) (all : List Message) : Type 0 where
      pub run : HostRuns Q w made steps v all
      pub host : Host
      pub new : List Message
      pub writes : List AppliedWrite
      pub seen : Seen v all host new
      pub stays : Inv (world v host new writes)

    quiet_there : (s : Step) → Quiet s → Quiet (as_there s)
    quiet_there _ (tick c) = tick c
    quiet_there _ (handed j) = handed (there j)

    first : (w x v : HostWorld) (made more all : List Message) (now later : List Step) (m : Moves w x) → DoesAs w x m made now more → (h : Host) (new : List Message) (writes : List AppliedWrite) → Seen x more h new → Inv (world x h new writes) → Stays x more later v all → Stays w made (now ++ later) v all
    first w x v made more all now later m d h new writes seen i r = record {
      run = moves w x v made more all now later m d (subst (λ o. Q (record x.world { server = in_memory o x.world.server })) (sym seen.up) (same (world x h new writes) x.world.sent x.world.writes (says (world x h new writes) i))) r.run;
      host = r.host;
      new = r.new;
      writes = r.writes;
      seen = r.seen;
      stays = r.stays;
    }

    after : (u : State) (w x v : HostWorld) (made more all : List Message) (writes : List AppliedWrite) (now later : List Step) → Made u x more writes now → Inv u → ((s : Step) → In s (now ++ later) → Quiet s) → (m : Moves w x) → DoesAs w x m made now more → ((h : Host) (new : List Message) (written : List AppliedWrite) → Seen x more h new → Inv (world x h new written) → Stays x more later v all) → Stays w made (now ++ later) v all
    after u w x v made more all writes now later (still h new seen is) i quiet m d rest = let j = subst Inv is i in first w x v made more all [] later m d h new writes seen j (rest h new writes seen j)
    after u w x v made more all writes now later (taken s answer h new written seen t) i quiet m d rest =
        let j = goes u (world x h new written) (as_there s) answer (quiet_there s (quiet s (inl refl))) i t in
        first w x v made more all (s ∷ []) later m d h new written seen j (rest h new written seen j)

    pub stays_through : (w v : HostWorld) (made all : List Message) (steps : List Step) → HostRuns anything w made steps v all → IsReached w → ((s : Step) → In s steps → Quiet s) → (h : Host) (new : List Message) (writes : List AppliedWrite) → Seen w made h new → Inv (world w h new writes) → Stays w made steps v all
    stays_through w v made all steps (ends x xs) r quiet h new writes seen i = record { run = ends x xs; host = h; new = new; writes = writes; seen = seen; stays = i }
    stays_through w v made all steps (moves x u y xs more ys now later m d q rest) r quiet h new writes seen i =
        after (world x h new writes) x u y xs more ys writes now later (one x u xs more now m r d h new writes seen) i quiet m d
        (λ h2 new2 writes2 seen2 i2. stays_through u y more ys later rest (moved x u r m) (λ s k. quiet s (in_right now later s k)) h2 new2 writes2 seen2 i2)

  -- Runs

  module _ (Q : State → Type 0) (same : (u : State) (sent : List Message) (writes : List AppliedWrite) → Q u → Q (record u { sent = sent; writes = writes })) where
    record Ran (u : State) (v : HostWorld) (all : List Message) (steps : List Step) : Type 0 where
      pub host : Host
      pub new : List Message
      pub writes : List AppliedWrite
      pub seen : Seen v all host new
      pub run : Runs u (all_there steps) (world v host new writes)
      pub through : Throughout Q u (all_there steps) (world v host new writes) run

    holds : (v : HostWorld) (h : Host) (new : List Message) (writes : List AppliedWrite) → v.host ≡ Some h → Q (ahead v) → Q (world v h new writes)
    holds v h new writes e q = same (record v.world { server = Up h.memory }) (S ++ new) writes (subst (λ o. Q (record v.world { server = in_memory o v.world.server })) e q)

    joined : (u : State) (x v : HostWorld) (more all : List Message) (writes : List AppliedWrite) (now later : List Step) → Made u x more writes now → Q (ahead x) → ((h : Host) (new : List Message) (written : List AppliedWrite) → Seen x more h new → Ran (world x h new written) v all later) → Ran u v all (now ++ later)
    joined u x v more all writes now later (still h new seen is) q rest = subst (λ z. Ran z v all later) (sym is) (rest h new writes seen)
    joined u x v more all writes now later (taken s answer h new written seen t) q rest =
        let r = rest h new written seen in
        record {
          host = r.host;
          new = r.new;
          writes = r.writes;
          seen = r.seen;
          run = (answer, world x h new written, t, r.run);
          through = (holds x h new written seen.up q, r.through);
        }

    ran : (w v : HostWorld) (made all : List Message) (steps : List Step) → HostRuns Q w made steps v all → IsReached w → (h : Host) (new : List Message) (writes : List AppliedWrite) → Seen w made h new → Ran (world w h new writes) v all steps
    ran w v made all steps (ends x xs) r h new writes seen = record { host = h; new = new; writes = writes; seen = seen; run = refl; through = refl }
    ran w v made all steps (moves x u y xs more ys now later m d q rest) r h new writes seen =
        joined (world x h new writes) u y more ys writes now later (one x u xs more now m r d h new writes seen) q
        (λ h2 new2 writes2 seen2. ran u y more ys later rest (moved x u r m) h2 new2 writes2 seen2)

    reached : (w v : HostWorld) (made all : List Message) (steps : List Step) → HostRuns Q w made steps v all → IsReached w → IsReached v
    reached w v made all steps (ends x xs) r = r
    reached w v made all steps (moves x u y xs more ys now later m d q rest) r = reached u y more ys later rest (moved x u r m)

    -- Rounds

    same_loss : (s : Step) → loses_a_node (as_there s) ≡ loses_a_node s
    same_loss (step.Deliver j) = refl
    same_loss (step.Command c what) = refl
    same_loss (step.Tick c) = refl
    same_loss (step.Nudge c) = refl
    same_loss (step.StartClient c) = refl
    same_loss (step.CrashClient c) = refl
    same_loss step.StartServer = refl
    same_loss step.CrashServer = refl

    in_there : (s : Step) (steps : List Step) → In s steps → In (as_there s) (all_there steps)
    in_there s [] i = absurd i
    in_there s (x ∷ steps) (inl e) = inl (ap (λ z. as_there z) e)
    in_there s (x ∷ steps) (inr i) = inr (in_there s steps i)

    safe_there : (steps : List Step) → ((s : Step) → In s steps → loses_a_node s ≡ false) → (s : Step) → In s (all_there steps) → loses_a_node s ≡ false
    safe_there [] h s i = absurd i
    safe_there (x ∷ steps) h s (inl e) = ap (λ z. loses_a_node z) e ∙ same_loss x ∙ h x (inl refl)
    safe_there (x ∷ steps) h s (inr i) = safe_there steps (λ z j. h z (inr j)) s i

    module _ (w : HostWorld) (made : List Message) (h : Host) (new : List Message) (writes : List AppliedWrite) (seen : Seen w made h new) where
      made_length : length made ≡ length P + length new
      made_length = ap length seen.made_is ∙ length-append P new

      sent_length : length (S ++ new) ≡ length S + length new
      sent_length = length-append S new

      round_there : (from start : ℕ) (steps : List Step) → IsRound (record w.world { sent = made }) from steps → length P ≤ from → start + length P ≡ from + length S → IsRound (world w h new writes) start (all_there steps)
      round_there from start steps round le e = record {
        stays = safe_there steps round.stays;
        ticked = λ c i. in_there (step.Tick c) steps (round.ticked c i);
        handed = λ i above within.
            let lm = made_length in
            let ls = sent_length in
            let q = i - length S - 1 in
            let k = length P + suc q in
            let hand = round.handed k (omega (arith, above, le, e)) (omega (arith, above, within, le, e, lm, ls)) in
            let m = get_some new q (omega (arith, above, within, le, e, ls)) in
            let mine : message_at (S ++ new) i ≡ Some m.0 = past S new q i (omega (arith, above, le, e)) ∙ m.1 in
            let theirs : message_at made hand.copy ≡ Some m.0 = hand.same ∙ ap (λ xs. message_at xs k) seen.made_is ∙ past P new q k refl ∙ m.1 in
            record {
              copy = there hand.copy;
              same = found w made h new writes seen hand.copy m.0 theirs ∙ sym mine;
              delivers = in_there (step.Deliver hand.copy) steps hand.delivers;
            };
      }

    pub record Rounded (n start : ℕ) (u : State) (v : HostWorld) (all : List Message) : Type 0 where
      pub host : Host
      pub new : List Message
      pub writes : List AppliedWrite
      pub seen : Seen v all host new
      pub rounds : RoundsWhile Q n start u (world v host new writes)

    pub rounded : (n from start : ℕ) (w v : HostWorld) (made all : List Message) → HostRounds Q n from w made v all → IsReached w → (h : Host) (new : List Message) (writes : List AppliedWrite) → Seen w made h new → length P ≤ from → start + length P ≡ from + length S → Rounded n start (world w h new writes) v all
    rounded zero from start w v made all r reach h new writes seen le e = record {
      host = h;
      new = new;
      writes = writes;
      seen = subst (λ y. Seen y all h new) (sym r.0) (subst (λ xs. Seen w xs h new) (sym r.1) seen);
      rounds = ap (λ y. world y h new writes) r.0;
    }
    rounded (suc n) from start w v made all r reach h new writes seen le e =
        let x = ran w r.1 made r.2 r.0 r.4 reach h new writes seen in
        let lm = made_length w made h new writes seen in
        let ls = sent_length w made h new writes seen in
        let y = rounded n (length made) (length (S ++ new)) r.1 v r.2 all r.5 (reached w r.1 made r.2 r.0 r.4 reach) x.host x.new x.writes x.seen (omega (arith, lm)) (omega (arith, lm, ls)) in
        record {
          host = y.host;
          new = y.new;
          writes = y.writes;
          seen = y.seen;
          rounds = (all_there r.0, world r.1 x.host x.new x.writes, round_there w made h new writes seen from start r.0 r.3 le e, x.run, x.through, y.rounds);
        }
