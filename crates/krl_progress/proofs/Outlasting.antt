-- An outstanding write is answered within eleven good rounds even if the server has yet to recover.
use Rattle.krl_progress.proofs.Names.{◌≡◌, ℕ, zero, suc, ◌<◌, inl, inr, ◌∙◌, true, false, Option, Some, None, List, [], ◌∷◌, length, refl, sym, ap, subst, arith, eq_cases, END, In}
use Rattle.krl_progress.proofs.Names.{Client, Server, Step, Up, Down, State, ServerPlace, client_of, Runs, IsReachable, is_serving}
use Rattle.krl_messages.specs.declared.write_op.WriteOp.{WriteOp}
use Rattle.krl_client.specs.Clients.{outstanding}
use Rattle.krl_progress.specs.Rounds.{loses_a_node, Rounds}
use Rattle.krl_progress.specs.Laws.{MissingRun}
use Rattle.krl_progress.specs.Writes.{HasAskedNoMore, WritesOutlastRecoveriesIn}
use Rattle.krl_progress.proofs.Moves.{some_is}
use Rattle.krl_progress.proofs.Standings.{standing}
use Rattle.krl_progress.proofs.Recovers.{At, at_kept}
use Rattle.krl_progress.proofs.RecoveryEnds.{recovery_ends}
use Rattle.krl_progress.proofs.WritesMove.{serving_now, nobody_listed}
use Rattle.krl_progress.proofs.Answering.{runs_longer, later_rounds, writes_are_answered}
use Rattle.krl_progress.proofs.Growing.{Grows, RunsOn, rounds_grow}

-- The recovery, and what follows

record Parts (w v : State) : Type 0 where
  mid : State
  first : Rounds 5 (length w.sent) w mid
  second : Rounds 6 (length mid.sent) mid v

parts : (w v : State) → Rounds 11 (length w.sent) w v → Parts w v
parts w v r = let r2 = r.4 in let r3 = r2.4 in let r4 = r3.4 in let r5 = r4.4 in record {
  mid = r5.1;
  first = (r.0, r.1, r.2, r.3, (r2.0, r2.1, r2.2, r2.3, (r3.0, r3.1, r3.2, r3.3, (r4.0, r4.1, r4.2, r4.3, (r5.0, r5.1, r5.2, r5.3, refl)))));
  second = later_rounds 6 (length r4.1.sent) (length r5.1.sent) r5.1 v (runs_longer r5.0 r4.1 r5.1 r5.3) r5.4;
}

module _ (c inc epoch n : ℕ) where
  at_run : (steps : List Step) (u v : State) → ((s : Step) → In s steps → loses_a_node s ≡ false) → At c inc epoch n u → Runs u steps v → At c inc epoch n v
  at_run [] u v calm h r = subst (At c inc epoch n) (sym r) h
  at_run (s ∷ steps) u v calm h r = at_run steps r.1 v (λ x i. calm x (inr i)) (at_kept c inc epoch n u r.1 s r.0 (calm s (inl refl)) h r.2) r.3

  at_rounds : (m from : ℕ) (w v : State) → At c inc epoch n w → Rounds m from w v → At c inc epoch n v
  at_rounds zero from w v h r = subst (At c inc epoch n) (sym r) h
  at_rounds (suc m) from w v h r = at_rounds m (length w.sent) r.1 v (at_run r.0 w r.1 r.2.stays h r.3) r.4

module _ (w v : State) (s : Server) (c : ℕ) (k l : Client) (h : IsReachable w) (up : w.server ≡ Up s) (missing : MissingRun w w.server) (runs : client_of w c ≡ Some k) (halves : Parts w v) (there : client_of v c ≡ Some l) (room : suc l.seen < END) (more : HasAskedNoMore k l) (number : l.writes ≡ k.writes) where
  abbrev mid : State
  mid = halves.mid

  at_mid : At c k.incarnation s.durable.epoch (length w.sent) mid
  at_mid = at_rounds c k.incarnation s.durable.epoch (length w.sent) 5 (length w.sent) w mid (record { reachable = h; server = s; up = up; now = refl; client = k; runs = runs; same = refl; long = omega arith }) halves.first

  at_end : At c k.incarnation s.durable.epoch (length w.sent) v
  at_end = at_rounds c k.incarnation s.durable.epoch (length w.sent) 6 (length mid.sent) mid v at_mid halves.second

  serves : is_serving mid.server ≡ true
  serves = recovery_ends w mid h missing halves.first

  then : RunsOn k mid c
  then = rounds_grow 5 (length w.sent) w mid c k runs halves.first

  abbrev k1 : Client
  k1 = then.client

  grows : Grows k1 l
  grows = let x = rounds_grow 6 (length mid.sent) mid v c k1 then.runs halves.second in subst (Grows k1) (some_is x.client l (sym x.runs ∙ there)) x.grows

  same_number : l.writes ≡ k1.writes
  same_number = let a = then.grows.writes in let b = grows.writes in omega (arith, a, b, number)

  -- a write that is outstanding then is of the server's epoch, in which the client stays
  module _ (op : WriteOp) (out : outstanding k1.written ≡ Some op) where
    joined : k1.epoch ≡ s.durable.epoch
    joined =
        let t = at_mid.server in
        let serving = serving_now t (ap is_serving (sym at_mid.up) ∙ serves) in
        (standing mid t c k1 at_mid.reachable at_mid.up then.runs).writing (nobody_listed t.missing c serving) op out ∙ at_mid.now

    same_epoch : l.epoch ≡ k1.epoch
    same_epoch = let a = grows.epoch in let b = (standing v at_end.server c l at_end.reachable at_end.up there).epoch in let x = at_end.now in omega (arith, a, b, x, joined)

    same_request : l.req ≡ k1.req
    same_request = let asks = grows.asks same_epoch in eq_cases k1.epoch k.epoch
        (λ e. let a = then.grows.asks e in let b = more.0 (same_epoch ∙ e) in omega (arith, a, b, asks))
        (λ ne. let a = then.grows.epoch in let b = more.1 (omega (arith, a, ne, same_epoch)) in omega (arith, b, asks))

    answered : outstanding l.written ≡ None
    answered = writes_are_answered mid v c k1 l op at_mid.reachable serves then.runs out (let x = grows.seen same_epoch in omega (arith, x, room)) halves.second there same_request same_number

  now_answered : outstanding l.written ≡ None
  now_answered = by_out (outstanding k1.written) refl
    where
      by_out : (o : Option WriteOp) → outstanding k1.written ≡ o → outstanding l.written ≡ None
      by_out None e = grows.answered same_number e
      by_out (Some op) e = answered op e

pub writes_outlast_recoveries : WritesOutlastRecoveriesIn 11
writes_outlast_recoveries w v c k l h missing runs r there room more number = by_node w.server refl missing
  where
    by_node : (x : ServerPlace) → w.server ≡ x → MissingRun w x → outstanding l.written ≡ None
    by_node (Down d) e f = absurd f
    by_node (Up s) e f = now_answered w v s c k l h e missing runs (parts w v r) there room more number
