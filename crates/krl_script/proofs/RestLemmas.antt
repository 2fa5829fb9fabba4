-- Steps of good rounds, one after another.
use Rattle.std.proofs.Common.{◌≡◌, ℕ, ◌+◌, ◌-◌, ◌≤◌, true, false, List, [], ◌∷◌, ◌++◌, map, length, Result, Ok, Err, IfOk, refl, subst, sym, ap, ◌∙◌, arith, add-one}
use Rattle.std.proofs.lemmas.List.Folds.{list_all-append}
use Rattle.krl_steps.specs.declared.step.Step.{Step}
use Rattle.krl_steps.specs.declared.answer.Answer.{Answer}
use Rattle.krl_steps.specs.declared.refused.Refused.{Refused}
use Rattle.krl_steps.specs.declared.refused.Refused.TheVariants as refused
use Rattle.krl_world.specs.States.{State}
use Rattle.krl_world.specs.Steps.{Steps, RunsWith}
use Rattle.std.proofs.lemmas.List.{map-append}
use Rattle.krl_steps.specs.declared.step.Step.TheVariants as step
use Rattle.krl_script.specs.Soundness.{numbers_below}
use Rattle.krl_script.specs.declared.rest.Rest.{Rest}
use Rattle.krl_script.specs.Rests.{is_of_round, GoesByRounds, had_memory, Leads, starts_below, ticks_below, deliveries}
use Rattle.krl_script.specs.Rests.{IsRound, Rounds, rounds_of, GoesRound, StartsAndGoesRound}

pub stays : (w : State) → GoesByRounds w w
stays w = record { steps = []; outcomes = []; all = refl; runs = refl }

pub goes_once : (w w' : State) (s : Step) (r : Result Answer Refused) → Steps w s r w' → is_of_round s ≡ true → GoesByRounds w w'
goes_once w w' s r h of = record { steps = s ∷ []; outcomes = r ∷ []; all = rw (of) refl; runs = (w', h, refl) }

runs_join : (u v w : State) (xs ys : List Step) (rs qs : List (Result Answer Refused)) → RunsWith u xs rs v → RunsWith v ys qs w → RunsWith u (xs ++ ys) (rs ++ qs) w
runs_join u v w [] ys [] qs h k = subst (λ (x : State). RunsWith x ys qs w) h k
runs_join u v w [] ys (r ∷ rs) qs h k = absurd h
runs_join u v w (x ∷ xs) ys [] qs h k = absurd h
runs_join u v w (x ∷ xs) ys (r ∷ rs) qs h k = (h.0, h.1, runs_join h.0 v w xs ys rs qs h.2 k)

pub goes_on : (u v w : State) → GoesByRounds u v → GoesByRounds v w → GoesByRounds u w
goes_on u v w h k = record {
  steps = h.steps ++ k.steps;
  outcomes = h.outcomes ++ k.outcomes;
  all = list_all-append is_of_round h.steps k.steps ∙ rw (h.all, k.all) refl;
  runs = runs_join u v w h.steps k.steps h.outcomes k.outcomes h.runs k.runs;
}

-- only a refusal for want of memory had none
lacked : (r : Result Answer Refused) → had_memory r ≡ false → r ≡ Err refused.OutOfMemory
lacked (Ok a) e = absurd (cc)
lacked (Err refused.OutOfMemory) e = refl
lacked (Err refused.BadPoint) e = absurd (cc)
lacked (Err refused.BadSpan) e = absurd (cc)
lacked (Err refused.NotJoined) e = absurd (cc)
lacked (Err refused.Busy) e = absurd (cc)
lacked (Err refused.NotHeld) e = absurd (cc)
lacked (Err refused.Pinned) e = absurd (cc)
lacked (Err refused.Writing) e = absurd (cc)
lacked (Err refused.TooManyPins) e = absurd (cc)
lacked (Err refused.Spent) e = absurd (cc)
lacked (Err refused.BadClient) e = absurd (cc)
lacked (Err refused.Down) e = absurd (cc)
lacked (Err refused.Running) e = absurd (cc)
lacked (Err refused.NoMessage) e = absurd (cc)
lacked (Err refused.BadKey) e = absurd (cc)
lacked (Err refused.Twice) e = absurd (cc)
lacked (Err refused.Full) e = absurd (cc)
lacked (Err (refused.StillRegistered c)) e = absurd (cc)

pub lacks_once : (w w' : State) (s : Step) (r : Result Answer Refused) → Steps w s r w' → had_memory r ≡ false → Steps w s (Err refused.OutOfMemory) w'
lacks_once w w' s r h e = subst (λ (x : Result Answer Refused). Steps w s x w') (lacked r e) h

--- Steps that are known

pub leads_nowhere : (w : State) → Leads w [] w
leads_nowhere w = record { outcomes = []; runs = refl; had = refl }

pub leads_once : (w w' : State) (s : Step) (r : Result Answer Refused) → Steps w s r w' → had_memory r ≡ true → Leads w (s ∷ []) w'
leads_once w w' s r h had = record { outcomes = r ∷ []; runs = (w', h, refl); had = rw (had) refl }

pub leads_on : (u v w : State) (xs ys : List Step) → Leads u xs v → Leads v ys w → Leads u (xs ++ ys) w
leads_on u v w xs ys h k = record {
  outcomes = h.outcomes ++ k.outcomes;
  runs = runs_join u v w xs ys h.outcomes k.outcomes h.runs k.runs;
  had = list_all-append had_memory h.outcomes k.outcomes ∙ rw (h.had, k.had) refl;
}

-- the steps are these as well
pub leads_by : (u w : State) (xs ys : List Step) → xs ≡ ys → Leads u xs w → Leads u ys w
leads_by u w xs ys e h = subst (λ (zs : List Step). Leads u zs w) e h

pub one_more : (f : ℕ → Step) (n : ℕ) → map f (numbers_below n) ++ f n ∷ [] ≡ map f (numbers_below (n + 1))
unfolding numbers_below
one_more f n = rw (add-one n, map-append) refl

pub none_below : (f : ℕ → Step) → map f (numbers_below 0) ≡ []
unfolding numbers_below
none_below f = refl

pub started_none : step.StartServer ∷ [] ≡ starts_below 0
started_none = rw (none_below step.StartClient) refl

pub started_more : (n : ℕ) → starts_below n ++ step.StartClient n ∷ [] ≡ starts_below (n + 1)
started_more n = ap (λ (xs : List Step). step.StartServer ∷ xs) (one_more step.StartClient n)

pub ticked_none : [] ≡ ticks_below 0
ticked_none = sym (none_below step.Tick)

pub ticked_more : (n : ℕ) → ticks_below n ++ step.Tick n ∷ [] ≡ ticks_below (n + 1)
ticked_more n = one_more step.Tick n

pub delivered_none : (past : ℕ) → [] ≡ deliveries past (past - past)
delivered_none past = let none : past - past ≡ 0 = omega arith in rw none (sym (none_below (λ (i : ℕ). step.Deliver (past + i + 1))))

pub delivered_more : (past before : ℕ) → past ≤ before → deliveries past (before - past) ++ step.Deliver (before + 1) ∷ [] ≡ deliveries past (before + 1 - past)
delivered_more past before l =
    let more : before + 1 - past ≡ (before - past) + 1 = omega (arith, l) in
    let here : past + (before - past) + 1 ≡ before + 1 = omega (arith, l) in
    rw (more, ← one_more (λ (i : ℕ). step.Deliver (past + i + 1)) (before - past), here) refl

pub round : (u v w : State) (past last : ℕ) → last ≡ length u.sent → Leads u (ticks_below 4) v → Leads v (deliveries past (last - past)) w → IsRound past u w
round u v w past last e h k = leads_on u v w (ticks_below 4) _ h (leads_by v w _ _ (ap (λ (n : ℕ). deliveries past (n - past)) e) k)

pub round_more : (start : State) (first n past last : ℕ) (w w' : State) → Rounds start first n past w → IsRound past w w' → last ≡ length w.sent → Rounds start first (n + 1) last w'
round_more start first n past last w w' h k e = rw (add-one n, e) (Rounds.went n past w w' h k)

pub goes_round : (start w : State) (first n past : ℕ) (r : Rest) → rounds_of r ≡ n → n ≤ 1172 → Rounds start first n past w → GoesRound first start w r
goes_round start w first n past r e l h = rw e (l, past, h)

pub starts_and_goes : {E : Type 0} (u v w : State) (past : ℕ) (r : Result Rest E) → Leads u (starts_below 4) v → past ≡ length u.sent → IfOk r (λ rest. GoesRound past v w rest) → IfOk r (λ rest. StartsAndGoesRound u w rest)
starts_and_goes u v w past (Ok rest) h e k = (v, h, subst (λ (n : ℕ). GoesRound n v w rest) e k)
starts_and_goes u v w past (Err fault) h e k = k
