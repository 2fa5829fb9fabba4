-- The first world over a store shows.
use Rattle.std.proofs.Common.{◌≡◌, ℕ, zero, suc, ◌≤◌, Option, Some, None, [], ◌++◌, length, arith, refl, sym, ap, subst}
use Rattle.std.specs.Prelude.{take}
use Rattle.std.proofs.lemmas.Option.{none-some}
use Rattle.krl_messages.specs.Members.{In}
use Rattle.krl_durable.specs.Registers.{Durable}
use Rattle.krl_server.specs.Replays.{raised}
use Rattle.krl_server.specs.Steps.{start}
use Rattle.krl_world.specs.States.{Up, Down, opened}
use Rattle.krl_world.specs.Steps.{CanOpen}
use Rattle.krl_failover.specs.Worlds.{FencedWorld, set_old}
use Rattle.krl_failover.specs.Worlds as fenced
use Rattle.krl_host_laws.proofs.Clients.{beside}
use Rattle.krl_fenced_hosts.specs.Processes.{Process, StoreWorld, set_process}
use Rattle.krl_fenced_hosts.proofs.Scenes.{is_store, Seen, Scene, one, nothing, one_self, Ahead, AheadAt, Shown, process_cases}

-- The first world

abbrev first_process : Durable → Process
first_process d = record { host = record { memory = start d; kept = 1; unkept = []; unsent = [] }; mark = 1 }

abbrev nobody : ℕ → Option Process
nobody q = None

abbrev pub first_store : Durable → StoreWorld
first_store d = record { world = record (opened d) { server = Down (raised d) }; mark = 1; processes = set_process nobody 0 (Some (first_process d)) }

first_seen : (d : Durable) (k : ℕ) → k ≡ 0 → Seen (start d) (λ e. None) [] (λ e. 0) 0 (first_process d).host k
first_seen d k e = record {
  few = omega (arith, e);
  begun = omega arith;
  bound = λ y i. absurd i;
  tells = λ y i le. absurd i;
  here = λ b. record { low = omega arith; own = refl };
  placed = λ b f. is_store refl;
}

abbrev first_scene : (d : Durable) → fenced.IsReached (record { world = beside (opened d) (Up (start d)) [] []; old = λ e. None }) → (opened d).sent ≡ [] → (opened d).writes ≡ [] → (mine : ℕ → ℕ) → mine 0 ≡ 0 → Scene (first_store d) [] mine
first_scene d reached sent writes mine e = record {
  store = start d;
  old = λ q. None;
  sent = [];
  owner = λ q. 0;
  all = λ m i. subst (In m) sent i;
  durable = refl;
  reached = subst (λ ws. fenced.IsReached (record { world = beside (opened d) (Up (start d)) [] ws; old = λ q. None })) (sym (ap (λ ws. ws ++ []) writes)) reached;
  each = process_cases (λ q y. Seen (start d) (λ a. None) [] (λ a. 0) q y.host (mine q)) nobody 0 (first_process d) (first_seen d (mine 0) e) (λ q y ne i. absurd (none-some y i));
}

first_ahead : (d : Durable) → fenced.IsReached (record { world = beside (opened d) (Up (start d)) [] []; old = λ e. None }) → (opened d).sent ≡ [] → (opened d).writes ≡ [] → (k : ℕ) → k ≤ 0 → AheadAt (first_store d) 0 (first_process d) (take k []) k
first_ahead d reached sent writes zero le = record {
  scene = first_scene d reached sent writes (one 0 0) (one_self 0 0);
  leads = λ e b. refl;
  epoch = λ b. refl;
}
first_ahead d reached sent writes (suc k) le = absurd (let no : ⊥ = omega (arith, le) in no)

opened_reached : (d : Durable) → CanOpen d → fenced.IsReached (record { world = beside (opened d) (Up (start d)) [] []; old = λ e. None })
unfolding opened
opened_reached d can = fenced.begun d can

opened_sent : (d : Durable) → (opened d).sent ≡ []
unfolding opened
opened_sent d = refl

opened_writes : (d : Durable) → (opened d).writes ≡ []
unfolding opened
opened_writes d = refl

pub first_shown : (d : Durable) → CanOpen d → Shown (first_store d)
first_shown d can = record {
  down = refl;
  base = first_scene d (opened_reached d can) (opened_sent d) (opened_writes d) nothing refl;
  marks = process_cases (λ q y. y.mark ≤ 1) nobody 0 (first_process d) (omega arith) (λ q y ne i. absurd (none-some y i));
  new = process_cases (λ q y. y.host.kept ≡ 0 → y.mark ≡ 1 → y.host.memory.durable.epoch ≡ suc (raised d).epoch) nobody 0 (first_process d) (λ zero mark. absurd (let no : ⊥ = omega (arith, zero) in no)) (λ q y ne i. absurd (none-some y i));
  ahead = process_cases (λ q y. y.mark ≡ 1 → (k : ℕ) → k ≤ length y.host.unkept → Ahead (first_store d) q y k) nobody 0 (first_process d) (λ mark. first_ahead d (opened_reached d can) (opened_sent d) (opened_writes d)) (λ q y ne i. absurd (none-some y i));
}
