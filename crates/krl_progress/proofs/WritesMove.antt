-- A client whose write is outstanding accepts a further push within three good rounds.
use Rattle.krl_progress.proofs.Names.{◌≡◌, ℕ, ◌≤◌, ◌<◌, ◌∙◌, ◌⊎◌, inl, inr, ⊎_elim, Bool, true, false, Some, is_some, List, [], ◌∷◌, length, refl, sym, ap, subst, arith, if◌then◌else◌, END}
use Rattle.krl_progress.proofs.Names.{Client, Server, is_recovering, lists, Step, Up, Down, State, ServerPlace, message_at, Runs, is_serving}
use Rattle.krl_messages.specs.declared.write_op.WriteOp.{WriteOp}
use Rattle.krl_client.specs.Clients.{outstanding}
use Rattle.krl_steps.specs.declared.step.Step.TheVariants as step
use Rattle.krl_progress.specs.Rounds.{loses_a_node, IsRound, Rounds}
use Rattle.krl_progress.specs.Writes.{WritesMoveOnIn}
use Rattle.krl_progress.proofs.Moves.{moves, still_sent, some_is}
use Rattle.krl_progress.proofs.Standings.{standing}
use Rattle.krl_progress.proofs.Recovers.{same_up, At, run_stays, within, again as at_again}
use Rattle.krl_progress.proofs.WriteSteps.{Live, Risen, Waits, Or, Lasts, or_kept, one, write_said, WriteSent, write_lasts, hit_tick, Pushed, pushed, pushed_lasts, hit_write, hit_push, nothing}

module _ (c inc epoch seen0 number : ℕ) (op : WriteOp) (some : 1 ≤ epoch) (room : seen0 < END) where
  abbrev LiveAt : ℕ → State → Type 0
  LiveAt n u = Live c inc epoch seen0 number op some room n u

  abbrev OrAt : ℕ → (State → Type 0) → State → Type 0
  OrAt n X u = Or c inc epoch seen0 number op some room n X u

  abbrev LastsAt : ℕ → (State → Type 0) → Type 0
  LastsAt n X = Lasts c inc epoch seen0 number op some room n X

  abbrev WaitsAt : State → Type 0
  WaitsAt u = Waits c inc epoch seen0 number op some room 0 u

  abbrev RisenAt : State → Type 0
  RisenAt u = Risen c inc epoch seen0 number op some room 0 u

  abbrev SentAt : ℕ → State → Type 0
  SentAt n u = WriteSent c inc epoch seen0 number op some room n u

  abbrev PushedAt : ℕ → State → Type 0
  PushedAt n u = Pushed c inc epoch seen0 number op some room n u

  live_again : (n : ℕ) (u : State) → LiveAt n u → LiveAt (length u.sent) u
  live_again n u h = record { at = at_again c inc epoch n u h.at; joined = h.joined; serves = h.serves }

  -- a push was accepted already
  risen_round : (n : ℕ) (Y : State → Type 0) → LastsAt n Y → (w v : State) (from : ℕ) (steps : List Step) → IsRound w from steps → Runs w steps v → LiveAt n w → RisenAt w → OrAt n Y v
  risen_round n Y y w v from steps round runs h r =
      run_stays (Or c inc epoch seen0 number op some room n Y) (Or c inc epoch seen0 number op some room n Y) (step.Nudge 0)
      (or_kept c inc epoch seen0 number op some room n Y y) (or_kept c inc epoch seen0 number op some room n Y y)
      (λ u x a p t. or_kept c inc epoch seen0 number op some room n Y y u x (step.Nudge 0) a refl p t)
      steps w v round.stays (h, inl r) runs

  first_round : (w v : State) (from n : ℕ) (steps : List Step) → IsRound w from steps → Runs w steps v → LiveAt n w → WaitsAt w → OrAt n (SentAt n) v
  first_round w v from n steps round runs h waits =
      one c inc epoch seen0 number op some room n (λ u. Unit {0}) (WriteSent c inc epoch seen0 number op some room n) (step.Tick c)
      (nothing c inc epoch seen0 number op some room n) (write_lasts c inc epoch seen0 number op some room n) refl
      (λ u x a l z tt t. hit_tick c inc epoch seen0 number op some room n u x a l z t)
      w v steps round.stays (round.ticked c (ap is_some h.at.runs)) (h, inr (waits, tt)) runs

  second_round : (w v : State) (m n : ℕ) (steps : List Step) → IsRound w m steps → Runs w steps v → LiveAt n w → RisenAt w ⊎ (WaitsAt w × SentAt m w) → OrAt n (PushedAt n) v
  second_round w v m n steps round runs h (inl r) = risen_round n (Pushed c inc epoch seen0 number op some room n) (pushed_lasts c inc epoch seen0 number op some room n) w v m steps round runs h r
  second_round w v m n steps round runs h (inr x) =
      let hand = round.handed x.1.sent.index x.1.sent.above (within w.sent x.1.sent.index _ x.1.sent.sent) in
      one c inc epoch seen0 number op some room n (λ u. message_at u.sent hand.copy ≡ Some (write_said c inc epoch seen0 number op some room n x.1.seizes)) (Pushed c inc epoch seen0 number op some room n) (step.Deliver hand.copy)
      (λ u y s a calm e t. still_sent (loses_a_node s) u y hand.copy _ (moves u y s a t) e) (pushed_lasts c inc epoch seen0 number op some room n) refl
      (λ u y a l z e t. hit_write c inc epoch seen0 number op some room n x.1.seizes hand.copy u y a l z e t)
      w v steps round.stays hand.delivers (h, inr (x.0, hand.same ∙ x.1.sent.sent)) runs

  third_round : (w v : State) (m n : ℕ) (steps : List Step) → IsRound w m steps → Runs w steps v → LiveAt n w → RisenAt w ⊎ (WaitsAt w × PushedAt m w) → OrAt n (λ u. ⊥) v
  third_round w v m n steps round runs h (inl r) = risen_round n (λ u. ⊥) (λ u y s a calm e t. e) w v m steps round runs h r
  third_round w v m n steps round runs h (inr x) =
      let hand = round.handed x.1.sent.index x.1.sent.above (within w.sent x.1.sent.index _ x.1.sent.sent) in
      one c inc epoch seen0 number op some room n (λ u. message_at u.sent hand.copy ≡ Some (pushed c inc epoch seen0 number op some room n x.1.body)) (λ u. ⊥) (step.Deliver hand.copy)
      (λ u y s a calm e t. still_sent (loses_a_node s) u y hand.copy _ (moves u y s a t) e) (λ u y s a calm e t. e) refl
      (λ u y a l z e t. inl (hit_push c inc epoch seen0 number op some room n hand.copy x.1.body x.1.fits u y a l z e t))
      w v steps round.stays hand.delivers (h, inr (x.0, hand.same ∙ x.1.sent.sent)) runs

  three_rounds : (w v : State) → LiveAt (length w.sent) w → WaitsAt w → Rounds 3 (length w.sent) w v → RisenAt v
  three_rounds w v h waits r1 =
      let f1 = first_round w r1.1 (length w.sent) (length w.sent) r1.0 r1.2 r1.3 h waits in
      let r2 = r1.4 in
      let f2 = second_round r1.1 r2.1 (length w.sent) (length r1.1.sent) r2.0 r2.2 r2.3 (live_again _ r1.1 f1.0) f1.1 in
      let r3 = r2.4 in
      let f3 = third_round r2.1 r3.1 (length r1.1.sent) (length r2.1.sent) r3.0 r3.2 r3.3 (live_again _ r2.1 f2.0) f2.1 in
      subst RisenAt (sym r3.4) (⊎_elim (λ (x : RisenAt r3.1). x) (λ (x : WaitsAt r3.1 × ⊥). absurd x.1) f3.1)

pub serving_now : (s : Server) → is_serving (Up s) ≡ true → is_recovering s.missing ≡ false
serving_now s e = by_test (is_recovering s.missing) refl
  where
    by_test : (b : Bool) → is_recovering s.missing ≡ b → b ≡ false
    by_test false f = refl
    by_test true f = absurd (let x : false ≡ true = sym (ap (λ (b : Bool). if b then false else true) f) ∙ e in cc)

pub nobody_listed : (cs : List ℕ) (c : ℕ) → is_recovering cs ≡ false → lists cs c ≡ false
nobody_listed [] c e = refl
nobody_listed (d ∷ cs) c e = absurd (cc)

pub writes_move_on : WritesMoveOnIn 3
writes_move_on w v c k l op h up_now runs out room r done = by_node w.server refl up_now
  where
    by_node : (x : ServerPlace) → w.server ≡ x → is_serving x ≡ true → k.seen < l.seen
    by_node (Down d) e f = absurd (cc)
    by_node (Up s) e f =
        let st = standing w s c k h e runs in
        let up = serving_now s f in
        let now = st.writing (nobody_listed s.missing c up) op out in
        let at : At c k.incarnation s.durable.epoch (length w.sent) w = record { reachable = h; server = s; up = e; now = refl; client = k; runs = runs; same = refl; long = omega arith } in
        let live : Live c k.incarnation s.durable.epoch k.seen k.writes op st.begun room (length w.sent) w = record {
          at = at;
          joined = λ x y. subst (λ (z : Client). s.durable.epoch ≤ z.epoch) (some_is k x (sym runs ∙ y)) (omega (arith, now));
          serves = λ x y. subst (λ (z : Server). is_recovering z.missing ≡ false) (same_up s x (sym e ∙ y)) up;
        } in
        three_rounds c k.incarnation s.durable.epoch k.seen k.writes op st.begun room w v live
        (λ x y. subst (λ (z : Client). (z.seen ≡ k.seen) × (outstanding z.written ≡ Some op) × (z.writes ≡ k.writes)) (some_is k x (sym runs ∙ y)) (refl, out, refl)) r l done
