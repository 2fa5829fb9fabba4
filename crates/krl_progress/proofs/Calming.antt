-- Calm rounds are quiet, except for the last three: whatever is on its way brings a push that is accepted within three.
use Rattle.krl_progress.proofs.Names.{◌≡◌, ℕ, zero, suc, ◌≤◌, ◌<◌, ◌⊎◌, inl, inr, ⊎_elim, ◌∙◌, true, false, Option, Some, None, List, [], ◌∷◌, length, refl, sym, ap, subst, arith, if◌then◌else◌, END, In}
use Rattle.krl_progress.proofs.Names.{Client, Server, is_recovering, Step, Answer, Up, State, client_of, Runs, Takes, IsReachable, is_serving, WriteOp}
use Rattle.std.proofs.lemmas.Bool.{cases_lt}
use Rattle.krl_queue.specs.declared.waiter.Waiter.{Waiter}
use Rattle.krl_client.specs.Clients.{outstanding}
use Rattle.krl_progress.specs.Rounds.{loses_a_node, Rounds}
use Rattle.krl_progress.specs.Blocks.{Throughout, RoundsWhile}
use Rattle.krl_progress.specs.Standstills.{Requests, IsTaken, IsAtRest, IsQuiet}
use Rattle.krl_progress.specs.Calm.{IsCalmFor, IsCalm}
use Rattle.krl_progress.proofs.Moves.{Moves, moves, client_follows, some_is}
use Rattle.krl_progress.proofs.Standings.{HasStanding, standing}
use Rattle.krl_progress.proofs.Recovers.{same_up, next_reachable}
use Rattle.krl_progress.proofs.Arrivals.{Live, live_kept, now_in, Made, made_kept}
use Rattle.krl_progress.proofs.Answering.{runs_longer}
use Rattle.krl_progress.proofs.PushesArrive.{pushes_arrive}
use Rattle.krl_progress.proofs.WritesMove.{writes_move_on}
use Rattle.krl_progress.proofs.FirstBlocks.{run_end, rounds_end}
use Rattle.krl_progress.proofs.Standstill.{no_standstill}

-- rounds in which something holds are rounds
pub forget : (P : State → Type 0) (n from : ℕ) (w v : State) → RoundsWhile P n from w v → Rounds n from w v
forget P zero from w v r = r
forget P (suc n) from w v r = (r.0, r.1, r.2, r.3, forget P n (length w.sent) r.1 v r.5)

-- rounds of which more may be lost
pub later_while : (P : State → Type 0) (m from more : ℕ) (w v : State) → from ≤ more → RoundsWhile P m from w v → RoundsWhile P m more w v
later_while P zero from more w v le r = r
later_while P (suc m) from more w v le r = (r.0, r.1, record { stays = r.2.stays; ticked = r.2.ticked; handed = λ i lt within. r.2.handed i (omega (arith, lt, le)) within }, r.3, r.4, r.5)

-- a run whose steps lose no node, as in a round
abbrev pub IsSafe : List Step → Type 0
IsSafe steps = (s : Step) → In s steps → loses_a_node s ≡ false

-- the end of a round, and three calm rounds after it
pub record Behind (R : Requests) (seen : ℕ → ℕ) (x : State) : Type 0 where
  pub end : State
  pub reached : IsReachable x
  pub rounds : RoundsWhile (IsCalm R seen) 3 (length x.sent) x end

-- One client in the server's epoch

module _ (c inc epoch seen0 : ℕ) (some : 1 ≤ epoch) (room : seen0 < END) (n : ℕ) where
  abbrev LiveNow : State → Type 0
  LiveNow u = Live c inc epoch seen0 some room n u

  run_lives : (steps : List Step) (u v : State) → IsSafe steps → LiveNow u → Runs u steps v → LiveNow v
  run_lives [] u v safe h r = subst LiveNow (sym r) h
  run_lives (s ∷ steps) u v safe h r = run_lives steps r.1 v (λ z i. safe z (inr i)) (live_kept c inc epoch seen0 some room n u r.1 s r.0 (safe s (inl refl)) h r.2) r.3

  rounds_live : (m from : ℕ) (u v : State) → LiveNow u → Rounds m from u v → LiveNow v
  rounds_live zero from u v h r = subst LiveNow (sym r) h
  rounds_live (suc m) from u v h r = rounds_live m (length u.sent) r.1 v (run_lives r.0 u r.1 r.2.stays h r.3) r.4

  run_made : (steps : List Step) (u v : State) → IsSafe steps → LiveNow u → Made c inc epoch seen0 some room n u → Runs u steps v → Made c inc epoch seen0 some room n v
  run_made [] u v safe h made r = subst (Made c inc epoch seen0 some room n) (sym r) made
  run_made (s ∷ steps) u v safe h made r =
      run_made steps r.1 v (λ z i. safe z (inr i)) (live_kept c inc epoch seen0 some room n u r.1 s r.0 (safe s (inl refl)) h r.2)
      (made_kept c inc epoch seen0 some room n u r.1 s r.0 (safe s (inl refl)) h made r.2) r.3

  module _ (R : Requests) (seen : ℕ → ℕ) (is : seen c ≡ seen0) where
    -- in a calm world the client has accepted so many pushes
    accepted : (u : State) → LiveNow u → IsCalm R seen u → (k : Client) → client_of u c ≡ Some k → k.seen ≡ seen0
    accepted u h q k i = (q.calm c k i (now_in c inc epoch seen0 some room n u h k i ∙ sym h.at.now ∙ ap (λ (s : Server). s.durable.epoch) (same_up h.at.server q.server (sym h.at.up ∙ q.up)))).accepted ∙ is

    -- an outstanding write stays so
    step_writes : (u v : State) (s : Step) (answer : Answer) → loses_a_node s ≡ false → LiveNow u → LiveNow v → IsCalm R seen u → IsCalm R seen v → Takes u s answer v → (k l : Client) (op : WriteOp) → client_of u c ≡ Some k → client_of v c ≡ Some l → outstanding k.written ≡ Some op → outstanding l.written ≡ Some op
    step_writes u v s answer safe h g q p t k l op i j out =
        ⊎_elim (λ (x : k.seen < l.seen). absurd (let a = accepted u h q k i in let b = accepted v g p l j in omega (arith, x, a, b)))
        (λ (x : (l.seen ≡ k.seen) × ((outstanding k.written ≡ None) ⊎ ((l.written ≡ k.written) × (l.writes ≡ k.writes)))). ⊎_elim
        (λ (y : outstanding k.written ≡ None). absurd (let bad : None ≡ Some op = sym y ∙ out in cc))
        (λ (y : (l.written ≡ k.written) × (l.writes ≡ k.writes)). ap outstanding y.0 ∙ out) x.1)
        (client_follows u v c k l (subst (λ b. Moves b u v) safe (moves u v s answer t)) i j (now_in c inc epoch seen0 some room n v g l j ∙ sym (now_in c inc epoch seen0 some room n u h k i)))

    run_writes : (steps : List Step) (u v : State) → IsSafe steps → LiveNow u → IsCalm R seen u → (r : Runs u steps v) → Throughout (IsCalm R seen) u steps v r → (k : Client) (op : WriteOp) → client_of u c ≡ Some k → outstanding k.written ≡ Some op → (l : Client) × (client_of v c ≡ Some l) × (outstanding l.written ≡ Some op)
    run_writes [] u v safe h q r all k op i out = (k, ap (λ (x : State). client_of x c) r ∙ i, out)
    run_writes (s ∷ steps) u v safe h q r all k op i out =
        let next = live_kept c inc epoch seen0 some room n u r.1 s r.0 (safe s (inl refl)) h r.2 in
        run_writes steps r.1 v (λ z j. safe z (inr j)) next all.0 r.3 all.1 next.at.client op next.at.runs
        (step_writes u r.1 s r.0 (safe s (inl refl)) h next q all.0 r.2 k next.at.client op i next.at.runs out)

    module _ (steps : List Step) (u e : State) (safe : IsSafe steps) (h : LiveNow u) (q : IsCalm R seen u) (r : Runs u steps e) (all : Throughout (IsCalm R seen) u steps e r) (calm_end : IsCalm R seen e) (b : Behind R seen e) where
      live_end : LiveNow e
      live_end = run_lives steps u e safe h r

      live_last : LiveNow b.end
      live_last = rounds_live 3 (length e.sent) e b.end live_end (forget (IsCalm R seen) 3 (length e.sent) e b.end b.rounds)

      calm_last : IsCalm R seen b.end
      calm_last = (rounds_end (IsCalm R seen) 3 (length e.sent) e b.end b.reached calm_end b.rounds).1

      -- so neither a push nor a write is left
      none_rises : (k : Client) → client_of e c ≡ Some k → ((l : Client) → client_of b.end c ≡ Some l → k.seen < l.seen) → ⊥
      none_rises k i rises = let l = live_last.at.client in let a = accepted e live_end calm_end k i in let z = accepted b.end live_last calm_last l live_last.at.runs in let lt = rises l live_last.at.runs in omega (arith, a, z, lt)

      none_made : Made c inc epoch seen0 some room n u → ⊥
      none_made made =
          let k = live_end.at.client in
          let made_end = run_made steps u e safe h made r live_end.at.server live_end.at.up in
          let a = accepted e live_end calm_end k live_end.at.runs in
          none_rises k live_end.at.runs (λ l j. pushes_arrive e b.end live_end.at.server c k l b.reached live_end.at.up live_end.at.runs
          (now_in c inc epoch seen0 some room n e live_end k live_end.at.runs ∙ sym live_end.at.now)
          (omega (arith, a, made_end)) (omega (arith, a, room)) (forget (IsCalm R seen) 3 (length e.sent) e b.end b.rounds) j)

      none_writes : (k : Client) (op : WriteOp) → client_of u c ≡ Some k → outstanding k.written ≡ Some op → ⊥
      none_writes k op i out =
          let x = run_writes steps u e safe h q r all k op i out in
          let a = accepted e live_end calm_end x.0 x.1 in
          none_rises x.0 x.1 (λ l j. writes_move_on e b.end c x.0 l op b.reached (serving_there e calm_end) x.1 x.2 (omega (arith, a, room)) (forget (IsCalm R seen) 3 (length e.sent) e b.end b.rounds) j)
        where
          serving_there : (y : State) → IsCalm R seen y → is_serving y.server ≡ true
          serving_there y z = ap is_serving z.up ∙ ap (λ x. if x then false else true) z.serves

-- All clients

module _ (R : Requests) (seen : ℕ → ℕ) (room : (c : ℕ) → seen c < END) where
  quiet_at : (steps : List Step) (u e : State) → IsReachable u → IsSafe steps → IsCalm R seen u → (r : Runs u steps e) → Throughout (IsCalm R seen) u steps e r → IsCalm R seen e → Behind R seen e → IsQuiet R seen u
  quiet_at steps u e ru safe q r all calm_end b = record { server = q.server; up = q.up; serves = q.serves; here = q.here; at_rest = at_rest }
    where
      at_rest : (c : ℕ) (k : Client) → client_of u c ≡ Some k → k.epoch ≡ q.server.durable.epoch → IsAtRest R q.server c (seen c) k
      at_rest c k runs now = record { accepted = calm.accepted; last = last; request = calm.request; judged = none_out (outstanding k.written) refl; unpinned = calm.unpinned }
        where
          calm : IsCalmFor R q.server c (seen c) k
          calm = q.calm c k runs now

          st : HasStanding u q.server c k
          st = standing u q.server c k ru q.up runs

          live : Live c k.incarnation q.server.durable.epoch (seen c) st.begun (room c) (length u.sent) u
          live = record {
            at = record { reachable = ru; server = q.server; up = q.up; now = refl; client = k; runs = runs; same = refl; long = omega arith };
            joined = λ x y. subst (λ (z : Client). q.server.durable.epoch ≤ z.epoch) (some_is k x (sym runs ∙ y)) (omega (arith, now));
            serves = λ x y. subst (λ (z : Server). is_recovering z.missing ≡ false) (same_up q.server x (sym q.up ∙ y)) q.serves;
          }

          none_out : (o : Option WriteOp) → outstanding k.written ≡ o → o ≡ None
          none_out None f = refl
          none_out (Some op) f = absurd (none_writes c k.incarnation q.server.durable.epoch (seen c) st.begun (room c) (length u.sent) R seen refl steps u e safe live q r all calm_end b k op runs f)

          low : seen c ≤ (q.server.sessions c).last_push
          low = let x = st.seen (let b0 = st.begun in omega (arith, b0, now)) now in let a = calm.accepted in omega (arith, x, a)

          last : (q.server.sessions c).last_push ≡ seen c
          last = ⊎_elim (λ (x : suc (seen c) ≤ (q.server.sessions c).last_push). absurd
              (none_made c k.incarnation q.server.durable.epoch (seen c) st.begun (room c) (length u.sent) R seen refl steps u e safe live q r all calm_end b
              (λ s f. subst (λ (z : Server). suc (seen c) ≤ (z.sessions c).last_push) (same_up q.server s (sym q.up ∙ f)) x)))
              (λ (x : (q.server.sessions c).last_push ≤ seen c). omega (arith, x, low)) (cases_lt (seen c) (q.server.sessions c).last_push)

  pub run_quiet : (steps : List Step) (u e : State) → IsReachable u → IsSafe steps → (r : Runs u steps e) → Throughout (IsCalm R seen) u steps e r → IsCalm R seen e → Behind R seen e → Throughout (IsQuiet R seen) u steps e r
  run_quiet [] u e ru safe r all calm_end b = r
  run_quiet (s ∷ steps) u e ru safe r all calm_end b =
      let next = next_reachable u r.1 s r.0 ru r.2 in
      let later : IsSafe steps = λ z i. safe z (inr i) in
      (quiet_at steps r.1 e next later all.0 r.3 all.1 calm_end b, run_quiet steps r.1 e next later r.3 all.1 calm_end b)

  -- the first three of some rounds, as those after the round before
  pub three_behind : (n from : ℕ) (x v : State) → IsReachable x → from ≤ length x.sent → RoundsWhile (IsCalm R seen) (suc (suc (suc n))) from x v → Behind R seen x
  three_behind n from x v rx le r = let r2 = r.5 in let r3 = r2.5 in record {
    end = r3.1;
    reached = rx;
    rounds = (r.0, r.1, record { stays = r.2.stays; ticked = r.2.ticked; handed = λ i lt within. r.2.handed i (omega (arith, lt, le)) within }, r.3, r.4, (r2.0, r2.1, r2.2, r2.3, r2.4, (r3.0, r3.1, r3.2, r3.3, r3.4, refl)));
  }

  -- n rounds, of n and three more
  pub rounds_quiet : (n from : ℕ) (w v : State) → IsReachable w → IsCalm R seen w → RoundsWhile (IsCalm R seen) (suc (suc (suc n))) from w v → (x : State) × RoundsWhile (IsQuiet R seen) n from w x
  rounds_quiet zero from w v rw q r = (w, refl)
  rounds_quiet (suc n) from w v rw q r =
      let end = run_end (IsCalm R seen) r.0 w r.1 rw q r.3 r.4 in
      let behind = three_behind n (length w.sent) r.1 v end.0 (runs_longer r.0 w r.1 r.3) r.5 in
      let rest = rounds_quiet n (length w.sent) r.1 v end.0 end.1 r.5 in
      (rest.0, (r.0, r.1, r.2, r.3, run_quiet r.0 w r.1 rw r.2.stays r.3 r.4 end.1 behind, rest.1))

-- the world from which four calm rounds or more lead on is quiet
pub quiet_now : (R : Requests) (seen : ℕ → ℕ) → ((c : ℕ) → seen c < END) → (n from : ℕ) (w v : State) → IsReachable w → IsCalm R seen w → RoundsWhile (IsCalm R seen) (suc (suc (suc (suc n)))) from w v → IsQuiet R seen w
quiet_now R seen room n from w v rw q r =
    let end = run_end (IsCalm R seen) r.0 w r.1 rw q r.3 r.4 in
    let behind = three_behind R seen room n (length w.sent) r.1 v end.0 (runs_longer r.0 w r.1 r.3) r.5 in
    quiet_at R seen room r.0 w r.1 rw r.2.stays q r.3 r.4 end.1 behind

-- nobody waits in a queue through seven calm rounds in which every lock request is taken
pub waiters_move_on : (seen : ℕ → ℕ) (w v : State) (s : Server) (slot : ℕ) (u : Waiter) → IsReachable w → IsCalm IsTaken seen w → ((c : ℕ) → seen c < END) → w.server ≡ Up s → In u (s.rows slot).queue → RoundsWhile (IsCalm IsTaken seen) 7 (length w.sent) w v → ⊥
waiters_move_on seen w v s slot u rw q room up at r =
    let rest = rounds_quiet IsTaken seen room 4 (length w.sent) w v rw q r in
    no_standstill seen w rest.0 s slot u rw (quiet_now IsTaken seen room 3 (length w.sent) w v rw q r) room up at rest.1
