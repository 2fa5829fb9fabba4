-- Each step of the server is some steps of the machine.
use Rattle.krl_refinement.proofs.Names.{ℕ, false, ◌&&◌, List, ◌++◌, refl, ◌∙◌, ⊎_elim, nat_eq, END, ToServer, ToClient, In, in_both, Link, Logged, WorldInv, steps_on, world_steps}
use Rattle.krl_refinement.proofs.Names.{reachable_inv, Server, is_recovering, case_of, clears, effect, callbacks_after, following, at_once, recovers, serves, ServerStep, IsSound, not_both, answering_sound}
use Rattle.krl_refinement.proofs.Names.{answered_up, Stands, Shows, world_of, logged, StepFollows, ServerFollows}
use Rattle.krl_server.proofs.Invariant.Sounds.{effect_sound}
use Rattle.krl_refinement.proofs.Server.Follows.{Goes}
use Rattle.krl_refinement.proofs.Server.Served.{sent_kept, answering_follows}
use Rattle.krl_refinement.proofs.Server.Callbacks.{calls_sent}
use Rattle.krl_refinement.proofs.Server.Restart.{crash_follows, start_follows, opens}
use Rattle.krl_refinement.proofs.Server.Nudges.{nudge_follows}
use Rattle.krl_refinement.proofs.Server.Walk.{effect_follows}

module _ (s : Server) (of : ℕ → Link) (log : List Logged) (m : ToServer) (inv : WorldInv (world_of s of log)) (h : Shows s of) (i : IsSound s) (at : Stands (of m.client) m.incarnation m.body) where
  effect_goes : Goes s of log (λ c. nat_eq c m.client && clears (case_of s m)) (effect s m (case_of s m)) (logged m (case_of s m) log)
  effect_goes = (effect_follows s of log m inv h i at).1

  -- the effect only
  no_more : StepFollows s of log m (effect s m (case_of s m)).server (effect s m (case_of s m)).outs
  no_more = let f = effect_goes in record {
    follows = record { after = f.after; log_after = logged m (case_of s m) log; steps = f.steps; shows = f.shows; sound = effect_sound s m i; sent = f.sent; clients = f.clients };
    writes = refl;
    bound = f.bound;
  }

  pub step_follows : (t : Server) (outs : List ToClient) → ServerStep s m t outs → StepFollows s of log m t outs
  step_follows t outs (at_once k) = no_more
  step_follows t outs (recovers g) = no_more
  step_follows t outs (serves t' answers acted up rest) =
      let f = effect_goes in
      let done = effect s m (case_of s m) in
      let log' = logged m (case_of s m) log in
      let kept = world_steps (world_of s of log) (world_of done.server f.after log') f.steps inv in
      let g = answering_follows done.server t f.after log' (λ c. false) answers rest (effect_sound s m i) kept up f.shows in
      let sound = answering_sound done.server t answers rest (effect_sound s m i) in
      record {
        follows = record {
          after = g.after;
          log_after = log';
          steps = steps_on f.steps g.steps;
          shows = g.shows;
          sound = sound;
          sent = λ o x. ⊎_elim
              (λ (y : In o done.outs). sent_kept (world_of done.server f.after log') (world_of t g.after log') g.steps o.client o.incarnation o.body (f.sent o y))
              (λ (y : In o (answers ++ callbacks_after (following (case_of s m)) t)). ⊎_elim (λ (z : In o answers). g.sent o z) (λ (z : In o (callbacks_after (following (case_of s m)) t)). calls_sent t g.after sound.begun (following (case_of s m)) o z) (in_both answers (callbacks_after (following (case_of s m)) t) o y))
              (in_both done.outs (answers ++ callbacks_after (following (case_of s m)) t) o x);
          clients = λ c. g.clients c ∙ f.clients c;
        };
        writes = refl;
        bound = λ y. absurd (not_both (is_recovering t.missing) y (answered_up done.server t answers rest up));
      }

pub all_follow : ServerFollows
all_follow = record {
  step = λ first s t of log m outs reached h i at step. step_follows s of log m (reachable_inv first END (world_of s of log) reached) h i at t outs step;
  no_alarm = λ first s of log m reached h i at. (effect_follows s of log m (reachable_inv first END (world_of s of log) reached) h i at).0;
  nudge = λ first s of log c reached h i. nudge_follows s of log c h i;
  crash = crash_follows;
  start = start_follows;
  opens = opens;
}
