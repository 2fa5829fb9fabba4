-- A recovery ends in five good rounds.
use Rattle.krl_progress.proofs.Names.{◌≡◌, ℕ, zero, suc, ◌∙◌, inl, inr, Bool, true, false, Option, Some, None, List, [], ◌∷◌, length, is_some, ◌||◌, refl, sym, ap, subst, arith, if◌then◌else◌, eq-eqb}
use Rattle.krl_progress.proofs.Names.{In, Client, Server, is_recovering, lists, Step, Answer, Up, Down, State, ServerPlace, client_of, Runs, IsReachable, Takes, is_serving}
use Rattle.krl_modes.proofs.Basics.{not_both}
use Rattle.krl_world.proofs.Refinement.ServerMoves.{way}
use Rattle.krl_progress.specs.Rounds.{loses_a_node, Rounds}
use Rattle.krl_progress.specs.Laws.{MissingRun, RecoveryEndsIn}
use Rattle.krl_progress.proofs.Standings.{standing}
use Rattle.krl_progress.proofs.Recovers.{GoesOn, server_goes_on, At, five_rounds}

-- Only the server

server_lasts : (s : Server) (u v : State) (taken : Step) (answer : Answer) → loses_a_node taken ≡ false → GoesOn s u → Takes u taken answer v → GoesOn s v
server_lasts s u v taken answer calm g t = let n = server_goes_on u v g.after taken calm g.up (way u v taken answer t.1) in record { after = n.after; up = n.up; epoch = n.epoch ∙ g.epoch; heard = λ c e. n.heard c (g.heard c e) }

run_server : (s : Server) (steps : List Step) (u v : State) → ((x : Step) → In x steps → loses_a_node x ≡ false) → GoesOn s u → Runs u steps v → GoesOn s v
run_server s [] u v calm g r = subst (GoesOn s) (sym r) g
run_server s (x ∷ steps) u v calm g r = run_server s steps r.1 v (λ y i. calm y (inr i)) (server_lasts s u r.1 x r.0 (calm x (inl refl)) g r.2) r.3

rounds_server : (s : Server) (n from : ℕ) (u v : State) → GoesOn s u → Rounds n from u v → GoesOn s v
rounds_server s zero from u v g r = subst (GoesOn s) (sym r) g
rounds_server s (suc n) from u v g r = rounds_server s n (length u.sent) r.1 v (run_server s r.0 u r.1 r.2.stays g r.3) r.4

-- The end

some_client : (o : Option Client) → is_some o ≡ true → (k : Client) × (o ≡ Some k)
some_client None e = absurd (cc)
some_client (Some k) e = (k, refl)

recovers : (w v : State) (s : Server) → IsReachable w → w.server ≡ Up s → MissingRun w (Up s) → Rounds 5 (length w.sent) w v → is_serving v.server ≡ true
recovers w v s h up run r = subst (λ n. is_serving n ≡ true) (sym g.up) (by_list g.after.missing refl)
  where
    g : GoesOn s v
    g = rounds_server s 5 (length w.sent) w v (record { after = s; up = up; epoch = refl; heard = λ c e. e }) r

    here : (c : ℕ) (cs : List ℕ) → lists (c ∷ cs) c ≡ true
    here c cs = ap (λ b. b || lists cs c) (eq-eqb c c refl)

    -- a client that is missing still was missing at first
    still : (c : ℕ) (b : Bool) → lists s.missing c ≡ b → lists g.after.missing c ≡ true → ⊥
    still c false e f = not_both (lists g.after.missing c) f (g.heard c e)
    still c true e f =
        let k = some_client (client_of w c) (run c e) in
        let st = standing w s c k.0 h up k.1 in
        let at : At c k.0.incarnation s.durable.epoch (length w.sent) w = record { reachable = h; server = s; up = up; now = refl; client = k.0; runs = k.1; same = refl; long = omega arith } in
        not_both (lists g.after.missing c) f (five_rounds c k.0.incarnation s.durable.epoch st.begun w v at r g.after g.up)

    by_list : (cs : List ℕ) → g.after.missing ≡ cs → is_serving (Up g.after) ≡ true
    by_list [] e = ap (λ xs. if is_recovering xs then false else true) e
    by_list (c ∷ cs) e = absurd (still c (lists s.missing c) refl (ap (λ xs. lists xs c) e ∙ here c cs))

pub recovery_ends : RecoveryEndsIn 5
recovery_ends w v h run r = by_node w.server refl run
  where
    by_node : (n : ServerPlace) → w.server ≡ n → MissingRun w n → is_serving v.server ≡ true
    by_node (Up s) e m = recovers w v s h e m r
    by_node (Down d) e m = absurd m
