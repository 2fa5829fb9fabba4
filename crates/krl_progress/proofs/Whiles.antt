-- What becomes true in a run in which something holds all the time.
use Rattle.krl_progress.proofs.Names.{◌≡◌, inl, inr, false, List, [], ◌∷◌, refl, sym, subst, In, Step, Answer, State, Runs, Takes}
use Rattle.krl_progress.specs.Rounds.{loses_a_node}
use Rattle.krl_progress.specs.Blocks.{Throughout}

-- W holds from step to step as long as P holds
module _ (P W : State → Type 0) (along : (u v : State) (s : Step) (answer : Answer) → loses_a_node s ≡ false → W u → P v → Takes u s answer v → W v) where
  abbrev pub Lasts : (State → Type 0) → Type 0
  Lasts X = (u v : State) (s : Step) (answer : Answer) → W u → W v → X u → Takes u s answer v → X v

  abbrev pub Hits : (State → Type 0) → Step → (State → Type 0) → Type 0
  Hits X s0 Y = (u v : State) (answer : Answer) → W u → W v → X u → Takes u s0 answer v → Y v

  pub stays_so : (Y : State → Type 0) → Lasts Y → (steps : List Step) (u v : State) → ((s : Step) → In s steps → loses_a_node s ≡ false) → W u → Y u → (r : Runs u steps v) → Throughout P u steps v r → W v × Y v
  stays_so Y y_lasts [] u v calm h y r all = subst (λ z. W z × Y z) (sym r) (h, y)
  stays_so Y y_lasts (s ∷ steps) u v calm h y r all =
      let next = along u r.1 s r.0 (calm s (inl refl)) h all.0 r.2 in
      stays_so Y y_lasts steps r.1 v (λ z i. calm z (inr i)) next (y_lasts u r.1 s r.0 h next y r.2) r.3 all.1

  -- a step of the run turns X, which lasts until then, into Y
  pub hit : (X Y : State → Type 0) (s0 : Step) → Lasts X → Lasts Y → Hits X s0 Y → (steps : List Step) (u v : State) → ((s : Step) → In s steps → loses_a_node s ≡ false) → In s0 steps → W u → X u → (r : Runs u steps v) → Throughout P u steps v r → W v × Y v
  hit X Y s0 x_lasts y_lasts hits [] u v calm i h x r all = absurd i
  hit X Y s0 x_lasts y_lasts hits (s ∷ steps) u v calm (inl e) h x r all =
      let next = along u r.1 s r.0 (calm s (inl refl)) h all.0 r.2 in
      stays_so Y y_lasts steps r.1 v (λ z i. calm z (inr i)) next (hits u r.1 r.0 h next x (subst (λ z. Takes u z r.0 r.1) (sym e) r.2)) r.3 all.1
  hit X Y s0 x_lasts y_lasts hits (s ∷ steps) u v calm (inr i) h x r all =
      let next = along u r.1 s r.0 (calm s (inl refl)) h all.0 r.2 in
      hit X Y s0 x_lasts y_lasts hits steps r.1 v (λ z j. calm z (inr j)) i next (x_lasts u r.1 s r.0 h next x r.2) r.3 all.1
