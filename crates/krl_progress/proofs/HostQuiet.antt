-- Undisturbed good rounds of a host: in some of them a client waits for a lock, and is answered.
use Rattle.krl_progress.proofs.Names.{◌≡◌, ◌≢◌, ℕ, Bool, if◌then◌else◌, ne_eqb, Some, None, List, [], ◌++◌, refl, ap, arith}
use Rattle.krl_progress.proofs.Names.{begun, Message, ClientPlace, never_started, Server, AppliedWrite, Up, State, unused, opened, client_of, IsReachable}
use Rattle.krl_world.proofs.Examples.Worked.{two, joined}
use Rattle.krl_world.proofs.Examples.Running.{m, k1}
use Rattle.krl_host_laws.specs.Hosts.{Host, HostWorld}
use Rattle.krl_host_laws.proofs.Clients.{beside}
use Rattle.krl_host_laws.proofs.Ahead.{k2, w6, h2, r6}
use Rattle.krl_progress.specs.Locks.{IsManned, IsUndisturbed, HasRoom}
use Rattle.krl_progress.specs.HostRounds.{ahead}
use Rattle.krl_progress.specs.HostLaws.{HostUndisturbedRoundsCanBeMade, HostAnswersSomebody}
use Rattle.krl_progress.proofs.Recovers.{same_up}
use Rattle.krl_progress.proofs.QuietRounds.{Rests, rests_on, is_undisturbed, request_by, writes_by, first_rests}
use Rattle.krl_progress.proofs.HostProgress.{begins, runs_at, in_mind, out_of_mind, carried, undisturbed}
use Rattle.krl_progress.proofs.HostMakes.{rounds_made}
use Rattle.krl_progress.proofs.Somebody.{manned, has_room, answered_in}

-- A manned world is so whatever was sent

module _ (u : State) (sent : List Message) (written : List AppliedWrite) where
  abbrev manned_with : IsManned u → IsManned (record u { sent = sent; writes = written })
  manned_with h = record { server = h.server; up = h.up; serves = h.serves; here = h.here; registered = h.registered }

  room_with : HasRoom u → HasRoom (record u { sent = sent; writes = written })
  room_with h = h

-- what holds of the world with the server in memory
abbrev at_memory : (w : HostWorld) (h : Host) (P : State → Type 0) → w.host ≡ Some h → P (ahead w) → P (record w.world { server = Up h.memory })
at_memory w h P e p = in_mind w h (λ n. P (record w.world { server = n })) e p

pub undisturbed_rounds_can_be_made : HostUndisturbedRoundsCanBeMade
undisturbed_rounds_can_be_made w n r crew room =
    let at = runs_at w (λ x. x ≡ Up crew.server) r crew.up (λ x. cc) in
    let here = record w.world { server = Up at.host.memory } in
    let h = at_memory w at.host IsManned at.up crew in
    let free = at_memory w at.host HasRoom at.up room in
    let e = h.server.durable.epoch in
    let reqs = λ (c : ℕ). request_by e (client_of w.world c) in
    let writes = λ (c : ℕ). writes_by (client_of w.world c) in
    let rests : (sent : List Message) (written : List AppliedWrite) → IsReachable (beside w.world (Up at.host.memory) sent written) → Rests e reqs writes (beside w.world (Up at.host.memory) sent written) =
    λ sent written reach. first_rests (beside w.world (Up at.host.memory) sent written) reach (manned_with here sent written h) (room_with here sent written free) in
    let b = begins w at.host r at.up in
    let world = beside w.world (Up at.host.memory) (b.sent ++ []) b.writes in
    let quiet = is_undisturbed e reqs writes world (rests (b.sent ++ []) b.writes b.reachable) in
    let made = rounds_made (IsUndisturbed reqs writes) (Rests e reqs writes) (rests_on e reqs writes) (is_undisturbed e reqs writes) (undisturbed reqs writes) w at.host n r at.up rests in
    (reqs, writes, made.0, out_of_mind w at.host (λ x. IsUndisturbed reqs writes (record w.world { server = x })) at.up (undisturbed reqs writes world w.world.sent w.world.writes quiet), made.1)

-- The client has joined, and waits for a lock. Nobody else runs

abbrev begins_at : ClientPlace
begins_at = record { last_incarnation = 1; client = Some (begun 0 1) }

abbrev joins_at : ClientPlace
joins_at = record { last_incarnation = 1; client = Some k1 }

abbrev asks_at : ClientPlace
asks_at = record { last_incarnation = 1; client = Some k2 }

nobody_else : (c : ℕ) → c ≢ 0 → client_of w6.world c ≡ None
unfolding opened
nobody_else c ne = ap (λ (t : Bool). (if t then asks_at else (if t then joins_at else (if t then begins_at else never_started (unused two) c))).client) (ne_eqb c 0 ne)

pub somebody_is_answered : HostAnswersSomebody
unfolding opened
somebody_is_answered =
    let made = undisturbed_rounds_can_be_made w6 1161 r6 (manned (ahead w6) k2 refl refl refl nobody_else) (has_room (ahead w6) k2 refl refl refl nobody_else (λ span. refl) (omega arith)) in
    let reqs = made.0 in
    let writes = made.1 in
    let u = made.3 in
    let c = carried (IsUndisturbed reqs writes) (undisturbed reqs writes) 1161 w6 made.2 h2 r6 refl made.4 in
    let a = beside w6.world (Up h2.memory) c.sent c.writes in
    let b = beside made.2.world (Up c.host.memory) c.sent_then c.writes_then in
    let quiet : IsUndisturbed reqs writes a = undisturbed reqs writes (ahead w6) c.sent c.writes u in
    let mine = ap (λ (y : Server). y.durable.epoch) (same_up (joined m) quiet.server quiet.up) in
    let x = answered_in reqs writes a b 0 k2 c.reachable quiet refl mine c.rounds in
    record {
      reqs = reqs;
      writes = writes;
      before = w6;
      reached = r6;
      undisturbed = u;
      waiter = k2;
      runs = refl;
      waits = refl;
      after = made.2;
      rounds = made.4;
      answered = x.client;
      runs_on = x.runs;
      same_request = x.same;
      no_longer = x.no_longer;
    }
