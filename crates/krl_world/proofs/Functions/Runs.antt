-- What a step of a reachable world keeps, and what a run of steps is.
use Rattle.krl_world.proofs.Names.{◌≡◌, ℕ, ◌+◌, ◌<◌, ◌≤◌, List, [], ◌∷◌, ◌++◌, length, drop, get_or, refl, sym, ap, subst, ◌∙◌, drop-cons, add-one, drop_of_length-le, append-nil, append_assoc}
use Rattle.krl_world.proofs.Names.{Result, all_follow, Step, Answer, Refused, State, index_of, Steps, RunsWith, IsReachable, IsCompatible, ScansIndex, WritesOnce, Bound, HasBound, IsBounded}
use Rattle.krl_world.proofs.Names.{HoldsOverRestarts, CanGoOn, Takes}
use Rattle.std.specs.Prelude.{Ok}
use Rattle.krl_steps.specs.declared.step.Step.TheVariants as step
use Rattle.krl_steps.specs.declared.step.Command.TheVariants as command
use Rattle.krl_steps.specs.declared.answer.Answer.TheVariants as answered
use Rattle.krl_world.proofs.Promises.Kept.{headline_holds, bounded_holds, restarts_holds}
use Rattle.krl_world.proofs.Functions.Shapes.{reachable_stays}
use Rattle.krl_world.proofs.Progress.CanGoOn.{can_go_on}

pub compatible_at : (v : State) → IsReachable v → IsCompatible v
compatible_at v h = (headline_holds all_follow v h).compatible

pub writes_at : (v : State) → IsReachable v → WritesOnce v
writes_at v h = (headline_holds all_follow v h).writes

-- a step that succeeds is taken
taken_as : (w v : State) (s t : Step) (r : Result Answer Refused) (a : Answer) → s ≡ t → r ≡ Ok a → Steps w s r v → Takes w t a v
unfolding Steps
taken_as w v s t r a is ok h = subst (λ (x : Step). Steps w x (Ok a) v) is (subst (λ (x : Result Answer Refused). Steps w s x v) ok h)

-- a step from one world to the next, of which the first is reachable
module _ (w v : State) (s : Step) (r : Result Answer Refused) (h : IsReachable w) (t : Steps w s r v) where
  pub reachable_after : IsReachable v
  reachable_after = reachable_stays.step w v s r h t

  pub compatible_after : IsCompatible v
  compatible_after = compatible_at v reachable_after

  pub scans_before : ScansIndex (index_of w) s r
  scans_before c lo hi rows is ok = (headline_holds all_follow w h).scans c lo hi rows v (taken_as w v s (step.Command c (command.Scan lo hi)) r (answered.Rows rows) is ok t)

  pub writes_after : WritesOnce v
  writes_after = writes_at v reachable_after

  pub bounded_after : (b : Bound) → HasBound v b → IsBounded v b
  bounded_after b x = bounded_holds all_follow v b x

  pub restarts_after : (b : Bound) → HasBound v b → HoldsOverRestarts v b
  restarts_after b x = restarts_holds all_follow v b x

  pub goes_on_after : CanGoOn v
  goes_on_after = can_go_on all_follow v reachable_after

-- Runs

-- these steps were taken from w to v, with these results, and those are still to come
pub record GoesOn (w v : State) (all rest : List Step) (results : List (Result Answer Refused)) : Type 0 where
  pub goes : (more : List (Result Answer Refused)) (last : State) → RunsWith v rest more last → RunsWith w all (results ++ more) last

pub run_begins : (w : State) (steps : List Step) → GoesOn w w steps steps []
run_begins w steps = record { goes = λ more last h. h }

run_goes_on : (w v u : State) (all rest : List Step) (results : List (Result Answer Refused)) (s : Step) (r : Result Answer Refused) → GoesOn w v all (s ∷ rest) results → Steps v s r u → GoesOn w u all rest (results ++ r ∷ [])
run_goes_on w v u all rest results s r g t = record {
  goes = λ more last h. subst (λ rs. RunsWith w all rs last) (sym (append_assoc results (r ∷ []) more)) (g.goes (r ∷ more) last (u, t, h));
}

-- the step at this place is taken
pub run_steps : (w v u : State) (all : List Step) (i : ℕ) (d : Step) (results more : List (Result Answer Refused)) (r : Result Answer Refused) → i < length all → GoesOn w v all (drop i all) results → Steps v (get_or all i d) r u → more ≡ results ++ r ∷ [] → GoesOn w u all (drop (i + 1) all) more
run_steps w v u all i d results more r lt g t e =
    let split : drop i all ≡ get_or all i d ∷ drop (i + 1) all = drop-cons all i d lt ∙ ap (λ k. get_or all i d ∷ drop k all) (sym (add-one i)) in
    subst (λ rs. GoesOn w u all (drop (i + 1) all) rs) (sym e) (run_goes_on w v u all (drop (i + 1) all) results (get_or all i d) r (subst (λ rest. GoesOn w v all rest results) split g) t)

-- none is left
pub run_ends : (w v : State) (all : List Step) (i : ℕ) (results : List (Result Answer Refused)) → length all ≤ i → GoesOn w v all (drop i all) results → RunsWith w all results v
run_ends w v all i results le g =
    let h = subst (λ rest. GoesOn w v all rest results) (drop_of_length-le all le) g in
    subst (λ rs. RunsWith w all rs v) (append-nil results) (h.goes [] v refl)
