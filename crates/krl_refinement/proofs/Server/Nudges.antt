-- A nudge changes nothing, and what it sends may be sent.
use Rattle.krl_refinement.proofs.Names.{◌≡◌, ℕ, ◌≤◌, Bool, true, false, Option, Some, None, List, [], ◌∷◌, refl, subst, ⊎_elim, nat_eq, if◌then◌else◌, ToClient, PushBody, In, in_both, Waiter, Record}
use Rattle.krl_refinement.proofs.Names.{slots, record_of, Link, Logged, none, Server, is_recovering, lists, epoch_to, push_to, nudge_served, nudge_missing, nudge_known, IsSound, WasSent, Shows}
use Rattle.krl_refinement.proofs.Names.{world_of, Follows, BoundStays, NudgeFollows}
use Rattle.krl_messages.specs.declared.to_client.ToClientBody.TheVariants as told
use Rattle.krl_server.specs.Callbacks.{callbacks_for, callbacks_of_among, callbacks_of}
use Rattle.krl_refinement.proofs.Server.Follows.{one_sent, reg_is}
use Rattle.krl_refinement.proofs.Server.Pushes.{tells}
use Rattle.krl_refinement.proofs.Server.Callbacks.{callbacks_for_sent}

-- the callbacks for the waiter of c
of_sent : (s : Server) (of : ℕ → Link) → 1 ≤ s.durable.epoch → (c n : ℕ) (us : List Waiter) (o : ToClient) → In o (callbacks_of c s n us) → WasSent (of o.client) o.incarnation o.body
of_sent s of begun c n [] o at = absurd at
of_sent s of begun c n (u ∷ us) o at = by_client (nat_eq u.client c) at
  where
    by_client : (b : Bool) → In o (if b then callbacks_for s n u else []) → WasSent (of o.client) o.incarnation o.body
    by_client true h = callbacks_for_sent s of begun n u o h
    by_client false h = absurd h

of_among_sent : (s : Server) (of : ℕ → Link) → 1 ≤ s.durable.epoch → (c : ℕ) (ns : List ℕ) (o : ToClient) → In o (callbacks_of_among c s ns) → WasSent (of o.client) o.incarnation o.body
of_among_sent s of begun c [] o at = absurd at
of_among_sent s of begun c (n ∷ ns) o at = ⊎_elim (λ (x : In o (callbacks_of c s n (s.rows n).queue)). of_sent s of begun c n (s.rows n).queue o x) (λ (x : In o (callbacks_of_among c s ns)). of_among_sent s of begun c ns o x) (in_both (callbacks_of c s n (s.rows n).queue) (callbacks_of_among c s ns) o at)

record Nudged (s : Server) (of : ℕ → Link) (log : List Logged) (outs : List ToClient) : Type 0 where
  pub follows : Follows (world_of s of log) of s outs
  pub writes : follows.log_after ≡ log
  pub bound : (d : ℕ) → BoundStays false (of d) (follows.after d)

module _ (s : Server) (of : ℕ → Link) (log : List Logged) (c : ℕ) (h : Shows s of) (i : IsSound s) where
  -- what is sent stands already
  still : (outs : List ToClient) → ((o : ToClient) → In o outs → WasSent (of o.client) o.incarnation o.body) → Nudged s of log outs
  still outs sent = record {
    follows = record { after = of; log_after = log; steps = none; shows = h; sound = i; sent = sent; clients = λ d. refl };
    writes = refl;
    bound = λ d. record { range = λ p. refl; key = λ p. refl };
  }

  silence : Nudged s of log []
  silence = still [] (λ o at. absurd at)

  by_left : (r : Record) → Nudged s of log (nudge_known s c (Some r))
  by_left r = on_left r.left
    where
      served : (o : Option PushBody) → (s.sessions c).unacked ≡ o → Nudged s of log (nudge_served s c o)
      served None e = still (callbacks_of_among c s (slots s.durable.index)) (of_among_sent s of i.begun c (slots s.durable.index))
      served (Some body) e = still (push_to s c (s.sessions c).last_push body ∷ [])
          (one_sent of (push_to s c (s.sessions c).last_push body) (subst (λ x. WasSent (of c) x (told.Push s.durable.epoch (s.sessions c).last_push body)) (reg_is (record_of s.durable.register c) (of c) (h.link c).known) ((h.link c).unacked body e)))

      missing : (b : Bool) → is_recovering s.missing ≡ true → Nudged s of log (if b then epoch_to s c ∷ [] else [])
      missing true g = let f = tells s of log (λ d. false) c (λ d. refl) h in record {
        follows = record { after = f.after; log_after = log; steps = f.steps; shows = f.shows; sound = i; sent = f.sent; clients = f.clients };
        writes = refl;
        bound = f.bound g;
      }
      missing false g = silence

      recovers : (b : Bool) → is_recovering s.missing ≡ b → Nudged s of log (if b then nudge_missing s c else nudge_served s c (s.sessions c).unacked)
      recovers true g = missing (lists s.missing c) g
      recovers false g = served (s.sessions c).unacked refl

      on_left : (b : Bool) → Nudged s of log (if b then [] else (if is_recovering s.missing then nudge_missing s c else nudge_served s c (s.sessions c).unacked))
      on_left true = silence
      on_left false = recovers (is_recovering s.missing) refl

  known : (o : Option Record) → Nudged s of log (nudge_known s c o)
  known None = silence
  known (Some r) = by_left r

  pub nudge_follows : NudgeFollows s of log c
  nudge_follows = let x = known (record_of s.durable.register c) in record { follows = x.follows; writes = x.writes; bound = x.bound }
