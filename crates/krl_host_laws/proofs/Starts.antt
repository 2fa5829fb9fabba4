-- A host crashes and starts, and the first world shows.
use Rattle.std.proofs.Common.{◌≡◌, ℕ, zero, suc, ◌+◌, ◌≤◌, true, Option, Some, None, List, [], ◌∷◌, ◌++◌, arith, refl, sym, subst, if◌then◌else◌}
use Rattle.std.specs.Prelude.{take}
use Rattle.std.proofs.lemmas.List.{append-nil}
use Rattle.krl_durable.specs.declared.limits.Limits.{Limits}
use Rattle.krl_durable.specs.Registers.{Durable}
use Rattle.krl_durable.specs.Limits.{Fits, sized}
use Rattle.krl_server.specs.Replays.{raised}
use Rattle.krl_server.specs.Steps.{start, can_start}
use Rattle.krl_steps.specs.declared.applied_write.AppliedWrite.{AppliedWrite}
use Rattle.krl_steps.specs.declared.step.Step.TheVariants as step
use Rattle.krl_steps.specs.declared.answer.Answer.TheVariants as answered
use Rattle.krl_steps.specs.declared.refused.Refused.TheVariants as refused
use Rattle.krl_world.specs.declared.message.Message.{Message}
use Rattle.krl_world.specs.States.{ServerPlace, Up, Down, State, durable_of, opened, served}
use Rattle.krl_world.specs.Steps.{CanOpen, IsReachable}
use Rattle.krl_world.proofs.Functions.Shapes.{reachable_stays}
use Rattle.krl_host_laws.specs.Hosts.{Started, Host, HostWorld, disk_of}
use Rattle.krl_host_laws.specs.Promises.{IsWorld}
use Rattle.krl_host_laws.proofs.Clients.{takes_on, beside}
use Rattle.krl_host_laws.proofs.Shown.{At, Runs, HostShows, Shown}

-- Crash and start

no_more : (w : State) (n : ServerPlace) (sent : List Message) → IsReachable (beside w n sent (w.writes ++ [])) → IsReachable (beside w n sent w.writes)
no_more w n sent h = subst (λ ws. IsReachable (beside w n sent ws)) (append-nil w.writes) h

pub world_of : (w : State) (o : Option Host) → HostShows w o → IsWorld w
world_of w None a = a
world_of w (Some h) r = let a = r.upto 0 (omega arith) in record {
  server = a.server;
  disk = a.durable;
  sent = a.sent;
  all = a.all;
  reachable = no_more w a.server a.sent a.reachable;
}

pub crashes_shown : (w : HostWorld) → Shown w → Shown (record w { host = None })
crashes_shown w s = record { down = s.down; host = world_of w.world w.host s.host }

-- a server that is up crashes; so none runs
fallen : (w : State) (n : ServerPlace) (d : Durable) (sent : List Message) (writes : List AppliedWrite) → durable_of n ≡ d → IsReachable (beside w n sent writes) → IsReachable (beside w (Down d) sent writes)
fallen w (Down x) d sent writes e h = subst (λ y. IsReachable (beside w (Down y) sent writes)) e h
fallen w (Up s) d sent writes e h =
    let u = beside w (Up s) sent writes in
    let v = served u (Down s.durable) [] [] in
    let r : IsReachable v = takes_on u v step.CrashServer answered.Done h (refl, (refl, refl)) in
    let x = subst (λ ms. IsReachable (beside w (Down s.durable) ms (writes ++ []))) (append-nil sent) r in
    let y = subst (λ ws. IsReachable (beside w (Down s.durable) sent ws)) (append-nil writes) x in
    subst (λ z. IsReachable (beside w (Down z) sent writes)) e y

risen : (w : State) (d : Durable) (sent : List Message) (writes : List AppliedWrite) → can_start d ≡ true → IsReachable (beside w (Down d) sent writes) → IsReachable (beside w (Up (start d)) sent (writes ++ []))
risen w d sent writes can h =
    let u = beside w (Down d) sent writes in
    let v = served u (Up (start d)) [] [] in
    let r : IsReachable v = takes_on u v step.StartServer answered.Done h (subst (λ b. (if b then None else Some refused.Spent) ≡ None) (sym can) refl, (refl, refl)) in
    subst (λ ms. IsReachable (beside w (Up (start d)) ms (writes ++ []))) (append-nil sent) r

-- what is down gets other limits
rested : (w : State) (d : Durable) (l : Limits) (sent : List Message) (writes : List AppliedWrite) → Fits l d → IsReachable (beside w (Down d) sent writes) → IsReachable (beside w (Down (sized l d)) sent writes)
rested w d l sent writes fits h = reachable_stays.resized (beside w (Down d) sent writes) d l h refl fits

abbrev begins : Limits → Durable → Host
begins l d = record { memory = start (sized l d); kept = 0; unkept = Started l ∷ []; unsent = [] }

start_runs : (w : State) (l : Limits) → Fits l (disk_of w) → can_start (disk_of w) ≡ true → IsWorld w → Runs w (begins l (disk_of w))
start_runs w l fits can a = record {
  bound = λ x i. absurd i;
  upto = by_count;
}
  where
    by_count : (k : ℕ) → k ≤ 1 → At w (take k (Started l ∷ [])) (begins l (disk_of w)) (0 + k)
    by_count zero le = record {
      server = a.server;
      durable = a.disk;
      sent = a.sent;
      all = a.all;
      tells = λ x i b. absurd i;
      reachable = subst (λ ws. IsReachable (beside w a.server a.sent ws)) (sym (append-nil w.writes)) a.reachable;
      last = λ e. absurd (let no : ⊥ = omega (arith, e) in no);
    }
    by_count (suc zero) le = record {
      server = Up (start (sized l (disk_of w)));
      durable = refl;
      sent = a.sent;
      all = a.all;
      tells = λ x i b. absurd i;
      reachable = risen w (sized l (disk_of w)) a.sent w.writes can (rested w (disk_of w) l a.sent w.writes fits (fallen w a.server (disk_of w) a.sent w.writes a.disk a.reachable));
      last = λ e. refl;
    }
    by_count (suc (suc k)) le = absurd (let no : ⊥ = omega (arith, le) in no)

pub starts_shown : (w : HostWorld) → Shown w → (l : Limits) → w.host ≡ None → Fits l (disk_of w.world) → can_start (disk_of w.world) ≡ true → Shown (record w { host = Some (begins l (disk_of w.world)) })
starts_shown w s l e fits can = record { down = s.down; host = start_runs w.world l fits can (world_of w.world w.host s.host) }

-- The first world

abbrev first_host : Durable → Host
first_host d = record { memory = start d; kept = 1; unkept = []; unsent = [] }

abbrev first_disk : Durable → State
first_disk d = record (opened d) { server = Down (raised d) }

first_at : (d : Durable) → CanOpen d → (k : ℕ) → k ≡ 0 → At (first_disk d) (take k []) (first_host d) (1 + k)
unfolding opened
first_at d can zero e = record {
  server = Up (start d);
  durable = refl;
  sent = [];
  all = λ m i. i;
  tells = λ x i b. absurd i;
  reachable = reachable_stays.first d can;
  last = λ e. refl;
}
first_at d can (suc k) e = absurd (let no : ⊥ = omega (arith, e) in no)

pub begun_shown : (d : Durable) → CanOpen d → Shown (let v : HostWorld = record { world = first_disk d; host = Some (first_host d) } in v)
begun_shown d can = record {
  down = refl;
  host = record {
    bound = λ x i. absurd i;
    upto = λ k le. first_at d can k (omega (arith, le));
  };
}
