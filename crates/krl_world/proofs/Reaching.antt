-- What holds of each world that is reached, by how it was.
use Rattle.krl_world.proofs.Names.{◌≡◌, List, [], ◌∷◌, subst, sym, Durable, Step, Answer, Down, State, opened, CanOpen, Takes, Runs, IsReachable, IsReachedByRun}
use Rattle.krl_durable.specs.declared.limits.Limits.{Limits}
use Rattle.krl_durable.specs.Limits.{Fits}
use Rattle.krl_world.specs.Steps.{resized, opens, takes, resizes}

module _ (P : State → Type 0)
    (first : (d : Durable) → CanOpen d → P (opened d))
    (step : (w v : State) (s : Step) (answer : Answer) → IsReachable w → P w → Takes w s answer v → P v)
    (resize : (w : State) (d : Durable) (l : Limits) → IsReachable w → P w → w.server ≡ Down d → Fits l d → P (resized w d l)) where
  pub by_reaching : (w : State) → IsReachable w → P w
  by_reaching w (opens d h) = first d h
  by_reaching w (takes u v s answer r t) = step u v s answer r (by_reaching u r) t
  by_reaching w (resizes u d l r e fits) = resize u d l r (by_reaching u r) e fits

-- by some more steps
pub runs_reached : (w v : State) (steps : List Step) → IsReachable w → Runs w steps v → IsReachable v
runs_reached w v [] h r = subst IsReachable (sym r) h
runs_reached w v (s ∷ steps) h r = runs_reached r.1 v steps (takes w r.1 s r.0 h r.2) r.3

pub by_run : (w : State) → IsReachedByRun w → IsReachable w
by_run w h = runs_reached (opened w.opening) w h.1 (opens w.opening h.0) h.2
