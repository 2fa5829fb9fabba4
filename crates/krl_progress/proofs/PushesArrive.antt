-- A push that a server has made is accepted within three good rounds.
use Rattle.krl_progress.proofs.Names.{◌≡◌, ℕ, suc, ◌≤◌, ◌<◌, ◌∙◌, ◌⊎◌, inl, inr, ⊎_elim, Bool, true, false, Some, is_some, List, length, refl, sym, ap, subst, arith, END}
use Rattle.krl_progress.proofs.Names.{Client, Server, is_recovering, Step, Up, State, message_at, Runs, IsReachable}
use Rattle.krl_steps.specs.declared.step.Step.TheVariants as step
use Rattle.krl_progress.specs.Rounds.{loses_a_node, IsRound, Rounds}
use Rattle.krl_progress.specs.Pushes.{PushesArriveIn}
use Rattle.krl_progress.proofs.Moves.{moves, still_sent, some_is}
use Rattle.krl_progress.proofs.Standings.{standing, pushed_nothing}
use Rattle.krl_progress.proofs.Recovers.{same_up, run_stays, within, again as at_again}
use Rattle.krl_progress.proofs.Arrivals.{Going, Risen, Stays, Or, Lasts, or_kept, one, said_by, Asked, asked_lasts, hit_tick, Pushed, pushed, pushed_lasts, hit_request, hit_push}

module _ (c inc epoch seen0 : ℕ) (some : 1 ≤ epoch) (room : seen0 < END) where
  abbrev GoingAt : ℕ → State → Type 0
  GoingAt n u = Going c inc epoch seen0 some room n u

  abbrev OrAt : ℕ → (State → Type 0) → State → Type 0
  OrAt n X u = Or c inc epoch seen0 some room n X u

  abbrev LastsAt : ℕ → (State → Type 0) → Type 0
  LastsAt n X = Lasts c inc epoch seen0 some room n X

  abbrev StaysAt : State → Type 0
  StaysAt u = Stays c inc epoch seen0 some room 0 u

  abbrev RisenAt : State → Type 0
  RisenAt u = Risen c inc epoch seen0 some room 0 u

  abbrev AskedAt : ℕ → State → Type 0
  AskedAt n u = Asked c inc epoch seen0 some room n u

  abbrev PushedAt : ℕ → State → Type 0
  PushedAt n u = Pushed c inc epoch seen0 some room n u

  going_again : (n : ℕ) (u : State) → GoingAt n u → GoingAt (length u.sent) u
  going_again n u h = record { live = record { at = at_again c inc epoch n u h.live.at; joined = h.live.joined; serves = h.live.serves }; made = h.made }

  -- the push was accepted already
  risen_round : (n : ℕ) (Y : State → Type 0) → LastsAt n Y → (w v : State) (from : ℕ) (steps : List Step) → IsRound w from steps → Runs w steps v → GoingAt n w → RisenAt w → OrAt n Y v
  risen_round n Y y w v from steps round runs h r =
      run_stays (OrAt n Y) (OrAt n Y) (step.Nudge 0)
      (or_kept c inc epoch seen0 some room n Y y) (or_kept c inc epoch seen0 some room n Y y)
      (λ u x a p t. or_kept c inc epoch seen0 some room n Y y u x (step.Nudge 0) a refl p t)
      steps w v round.stays (h, inl r) runs

  first_round : (w v : State) (from n : ℕ) (steps : List Step) → IsRound w from steps → Runs w steps v → GoingAt n w → StaysAt w → OrAt n (AskedAt n) v
  first_round w v from n steps round runs h waits =
      one c inc epoch seen0 some room n (λ u. Unit {0}) (AskedAt n) (step.Tick c)
      (λ u x s a calm e t. tt) (asked_lasts c inc epoch seen0 some room n) refl (hit_tick c inc epoch seen0 some room n)
      w v steps round.stays (round.ticked c (ap is_some h.live.at.runs)) (h, inr (waits, tt)) runs

  second_round : (w v : State) (m n : ℕ) (steps : List Step) → IsRound w m steps → Runs w steps v → GoingAt n w → RisenAt w ⊎ (StaysAt w × AskedAt m w) → OrAt n (PushedAt n) v
  second_round w v m n steps round runs h (inl r) = risen_round n (PushedAt n) (pushed_lasts c inc epoch seen0 some room n) w v m steps round runs h r
  second_round w v m n steps round runs h (inr x) =
      let hand = round.handed x.1.sent.index x.1.sent.above (within w.sent x.1.sent.index _ x.1.sent.sent) in
      one c inc epoch seen0 some room n (λ u. message_at u.sent hand.copy ≡ Some (said_by c inc epoch seen0 some room n x.1.body)) (PushedAt n) (step.Deliver hand.copy)
      (λ u y s a calm e t. still_sent (loses_a_node s) u y hand.copy _ (moves u y s a t) e) (pushed_lasts c inc epoch seen0 some room n) refl
      (hit_request c inc epoch seen0 some room n hand.copy x.1.body)
      w v steps round.stays hand.delivers (h, inr (x.0, hand.same ∙ x.1.sent.sent)) runs

  third_round : (w v : State) (m n : ℕ) (steps : List Step) → IsRound w m steps → Runs w steps v → GoingAt n w → RisenAt w ⊎ (StaysAt w × PushedAt m w) → OrAt n (λ u. ⊥) v
  third_round w v m n steps round runs h (inl r) = risen_round n (λ u. ⊥) (λ u y s a calm e t. e) w v m steps round runs h r
  third_round w v m n steps round runs h (inr x) =
      let hand = round.handed x.1.sent.index x.1.sent.above (within w.sent x.1.sent.index _ x.1.sent.sent) in
      one c inc epoch seen0 some room n (λ u. message_at u.sent hand.copy ≡ Some (pushed c inc epoch seen0 some room n x.1.body)) (λ u. ⊥) (step.Deliver hand.copy)
      (λ u y s a calm e t. still_sent (loses_a_node s) u y hand.copy _ (moves u y s a t) e) (λ u y s a calm e t. e) refl
      (hit_push c inc epoch seen0 some room n hand.copy x.1.body x.1.fits)
      w v steps round.stays hand.delivers (h, inr (x.0, hand.same ∙ x.1.sent.sent)) runs

  three_rounds : (w v : State) → GoingAt (length w.sent) w → StaysAt w → Rounds 3 (length w.sent) w v → RisenAt v
  three_rounds w v h waits r1 =
      let f1 = first_round w r1.1 (length w.sent) (length w.sent) r1.0 r1.2 r1.3 h waits in
      let r2 = r1.4 in
      let f2 = second_round r1.1 r2.1 (length w.sent) (length r1.1.sent) r2.0 r2.2 r2.3 (going_again _ r1.1 f1.0) f1.1 in
      let r3 = r2.4 in
      let f3 = third_round r2.1 r3.1 (length r1.1.sent) (length r2.1.sent) r3.0 r3.2 r3.3 (going_again _ r2.1 f2.0) f2.1 in
      subst RisenAt (sym r3.4) (⊎_elim (λ (x : RisenAt r3.1). x) (λ (x : StaysAt r3.1 × ⊥). absurd x.1) f3.1)

-- a server that recovers has pushed nothing
serves_by : (w : State) (s : Server) (c seen : ℕ) → IsReachable w → w.server ≡ Up s → seen < (s.sessions c).last_push → is_recovering s.missing ≡ false
serves_by w s c seen h up made = by_test (is_recovering s.missing) refl
  where
    by_test : (b : Bool) → is_recovering s.missing ≡ b → b ≡ false
    by_test false e = refl
    by_test true e = absurd (let x = pushed_nothing w s c h up e in omega (arith, x, made))

pub pushes_arrive : PushesArriveIn 3
pushes_arrive w v s c k l h up runs now made room r there =
    let st = standing w s c k h up runs in
    let going : Going c k.incarnation s.durable.epoch k.seen st.begun room (length w.sent) w = record {
      live = record {
        at = record { reachable = h; server = s; up = up; now = refl; client = k; runs = runs; same = refl; long = omega arith };
        joined = λ x y. subst (λ (z : Client). s.durable.epoch ≤ z.epoch) (some_is k x (sym runs ∙ y)) (omega (arith, now));
        serves = λ x y. subst (λ (z : Server). is_recovering z.missing ≡ false) (same_up s x (sym up ∙ y)) (serves_by w s c k.seen h up made);
      };
      made = λ x y. subst (λ (z : Server). suc k.seen ≤ (z.sessions c).last_push) (same_up s x (sym up ∙ y)) (omega (arith, made));
    } in
    three_rounds c k.incarnation s.durable.epoch k.seen st.begun room w v going
    (λ x y. subst (λ (z : Client). z.seen ≡ k.seen) (some_is k x (sym runs ∙ y)) refl) r l there
