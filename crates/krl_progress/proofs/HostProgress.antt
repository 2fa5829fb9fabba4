-- What becomes of a host in good rounds.
use Rattle.krl_progress.proofs.Names.{◌≡◌, ℕ, inl, inr, ⊎_elim, true, Option, Some, None, List, [], ◌∷◌, ◌++◌, length, refl, sym, ap, subst, arith, append-nil}
use Rattle.krl_progress.proofs.Names.{In, in_both, Message, AppliedWrite, ServerPlace, Up, Down, State, IsReachable, is_serving}
use Rattle.krl_world.specs.declared.message.Message.TheVariants as message
use Rattle.krl_host_laws.specs.Hosts.{Said, Host, HostWorld, IsReached, disk_of, writes_noted}
use Rattle.krl_host_laws.proofs.Clients.{Has, beside}
use Rattle.krl_host_laws.proofs.Shown.{in_host}
use Rattle.krl_host_laws.proofs.Promised.{reached_shown}
use Rattle.std.specs.Prelude.{take}
use Rattle.krl_progress.specs.Laws.{MissingRun}
use Rattle.krl_progress.specs.Locks.{IsUndisturbed}
use Rattle.krl_progress.specs.Blocks.{RoundsWhile}
use Rattle.krl_progress.specs.HostRounds.{in_memory, ahead, waiting, unsent_by, under_way, GoodRounds, anything}
use Rattle.krl_progress.specs.HostLaws.{HostRecoveryEndsIn, HostAnswersWritesIn, HostWritesOutlastRecoveriesIn, HostAnswersLocksIn}
use Rattle.krl_progress.proofs.Calming.{forget}
use Rattle.krl_progress.proofs.RecoveryEnds as recovery
use Rattle.krl_progress.proofs.Answering as answering
use Rattle.krl_progress.proofs.Outlasting as outlasting
use Rattle.krl_progress.proofs.LocksAnswered as locks
use Rattle.krl_progress.proofs.HostShows.{Seen, rounded}

pub in_waiting : (xs : List Said) (m : Message) → In m (waiting xs) → (x : Said) × In x xs × (m ≡ message.ToClient x.message)
in_waiting [] m i = absurd i
in_waiting (x ∷ xs) m (inl e) = (x, inl refl, e)
in_waiting (x ∷ xs) m (inr i) = let r = in_waiting xs m i in (r.0, inr r.1, r.2)

-- The world with the server in memory

pub record Begins (w : HostWorld) (h : Host) : Type 0 where
  pub sent : List Message
  pub has : Has (under_way w) sent
  pub seen : Seen (under_way w) sent has w (under_way w) h []
  pub writes : List AppliedWrite
  pub reachable : IsReachable (beside w.world (Up h.memory) (sent ++ []) writes)

pub begins : (w : HostWorld) (h : Host) → IsReached w → w.host ≡ Some h → Begins w h
begins w h r e =
    let runs = in_host w h e (reached_shown w r) in
    let a = runs.upto (length h.unkept) (omega arith) in
    let writes = w.world.writes ++ writes_noted (take (length h.unkept) h.unkept) (disk_of w.world) in
    let whole = sym (append-nil a.sent) in
    let waits : (x : Said) → In x h.unsent → In (message.ToClient x.message) a.sent = λ x i. a.tells x i (runs.bound x i) in
    record {
      sent = a.sent;
      has = λ m i. ⊎_elim (λ (x : In m w.world.sent). a.all m x)
          (λ (x : In m (unsent_by w.host)). let y = in_waiting h.unsent m (subst (λ o. In m (unsent_by o)) e x) in subst (λ k. In k a.sent) (sym y.2) (waits y.0 y.1))
          (in_both w.world.sent (unsent_by w.host) m i);
      seen = record {
        up = e;
        made_is = sym (append-nil (under_way w));
        left = λ m i. subst (λ ms. In m ms) whole (a.all m i);
        waits = λ x i. subst (λ ms. In (message.ToClient x.message) ms) whole (waits x i);
      };
      writes = writes;
      reachable = subst (λ ms. IsReachable (beside w.world (Up h.memory) ms writes)) whole (subst (λ n. IsReachable (beside w.world n a.sent writes)) (a.last refl) a.reachable);
    }

-- good rounds of the host, as rounds of the world
pub record Carried (Q : State → Type 0) (n : ℕ) (w v : HostWorld) (h : Host) : Type 0 where
  pub sent : List Message
  pub writes : List AppliedWrite
  pub reachable : IsReachable (beside w.world (Up h.memory) sent writes)
  pub host : Host
  pub up : v.host ≡ Some host
  pub sent_then : List Message
  pub writes_then : List AppliedWrite
  pub rounds : RoundsWhile Q n (length sent) (beside w.world (Up h.memory) sent writes) (beside v.world (Up host.memory) sent_then writes_then)

pub carried : (Q : State → Type 0) → ((u : State) (sent : List Message) (writes : List AppliedWrite) → Q u → Q (record u { sent = sent; writes = writes })) → (n : ℕ) (w v : HostWorld) (h : Host) → IsReached w → w.host ≡ Some h → GoodRounds Q n w v → Carried Q n w v h
carried Q same n w v h r e g =
    let b = begins w h r e in
    let p = under_way w in
    let size = ap length (append-nil b.sent) in
    let x = rounded p b.sent b.has Q same n (length p) (length (b.sent ++ [])) w v p g.0 g.1 r h [] b.writes b.seen (omega arith) (omega (arith, size)) in
    record {
      sent = b.sent ++ [];
      writes = b.writes;
      reachable = b.reachable;
      host = x.host;
      up = x.seen.up;
      sent_then = b.sent ++ x.new;
      writes_then = x.writes;
      rounds = x.rounds;
    }

-- The host that runs

pub record RunsAt (w : HostWorld) : Type 0 where
  pub host : Host
  pub up : w.host ≡ Some host

pub runs_at : (w : HostWorld) (P : ServerPlace → Type 0) → IsReached w → P (in_memory w.host w.world.server) → (P (Down (disk_of w.world)) → ⊥) → RunsAt w
runs_at w P r p never = by_host w.host refl p
  where
    by_host : (o : Option Host) → w.host ≡ o → P (in_memory o w.world.server) → RunsAt w
    by_host None e q = absurd (never (subst P (reached_shown w r).down q))
    by_host (Some h) e q = record { host = h; up = e }

-- what holds of its server in memory
pub in_mind : (w : HostWorld) (h : Host) (P : ServerPlace → Type 0) → w.host ≡ Some h → P (in_memory w.host w.world.server) → P (Up h.memory)
in_mind w h P e p = subst (λ o. P (in_memory o w.world.server)) e p

pub out_of_mind : (w : HostWorld) (h : Host) (P : ServerPlace → Type 0) → w.host ≡ Some h → P (Up h.memory) → P (in_memory w.host w.world.server)
out_of_mind w h P e p = subst (λ o. P (in_memory o w.world.server)) (sym e) p

-- The laws

pub nothing_else : (u : State) (sent : List Message) (writes : List AppliedWrite) → anything u → anything (record u { sent = sent; writes = writes })
nothing_else u sent writes q = tt

pub recovery_ends : HostRecoveryEndsIn 5
recovery_ends w v r missing g =
    let at = runs_at w (MissingRun (ahead w)) r missing (λ x. x) in
    let c = carried anything nothing_else 5 w v at.host r at.up g in
    let a = beside w.world (Up at.host.memory) c.sent c.writes in
    let b = beside v.world (Up c.host.memory) c.sent_then c.writes_then in
    out_of_mind v c.host (λ n. is_serving n ≡ true) c.up
    (recovery.recovery_ends a b c.reachable (in_mind w at.host (MissingRun (ahead w)) at.up missing) (forget anything 5 (length c.sent) a b c.rounds))

pub writes_are_answered : HostAnswersWritesIn 6
writes_are_answered w v d k l op r serves runs out room g there req number =
    let at = runs_at w (λ n. is_serving n ≡ true) r serves (λ x. cc) in
    let c = carried anything nothing_else 6 w v at.host r at.up g in
    let a = beside w.world (Up at.host.memory) c.sent c.writes in
    let b = beside v.world (Up c.host.memory) c.sent_then c.writes_then in
    answering.writes_are_answered a b d k l op c.reachable (in_mind w at.host (λ n. is_serving n ≡ true) at.up serves) runs out room (forget anything 6 (length c.sent) a b c.rounds) there req number

pub writes_outlast_recoveries : HostWritesOutlastRecoveriesIn 11
writes_outlast_recoveries w v d k l r missing runs g there room more number =
    let at = runs_at w (MissingRun (ahead w)) r missing (λ x. x) in
    let c = carried anything nothing_else 11 w v at.host r at.up g in
    let a = beside w.world (Up at.host.memory) c.sent c.writes in
    let b = beside v.world (Up c.host.memory) c.sent_then c.writes_then in
    outlasting.writes_outlast_recoveries a b d k l c.reachable (in_mind w at.host (MissingRun (ahead w)) at.up missing) runs (forget anything 11 (length c.sent) a b c.rounds) there room more number

-- what keeps a world undisturbed is its server and its clients
pub undisturbed : (reqs writes : ℕ → ℕ) (u : State) (sent : List Message) (written : List AppliedWrite) → IsUndisturbed reqs writes u → IsUndisturbed reqs writes (record u { sent = sent; writes = written })
undisturbed reqs writes u sent written q = record { server = q.server; up = q.up; serves = q.serves; here = q.here; undisturbed = q.undisturbed }

pub locks_are_answered : HostAnswersLocksIn 1161
locks_are_answered reqs writes w v s d k r q g up there epoch =
    let at = runs_at w (λ n. n ≡ Up q.server) r q.up (λ x. cc) in
    let c = carried (IsUndisturbed reqs writes) (undisturbed reqs writes) 1161 w v at.host r at.up g in
    let a = beside w.world (Up at.host.memory) c.sent c.writes in
    let b = beside v.world (Up c.host.memory) c.sent_then c.writes_then in
    let first : IsUndisturbed reqs writes a = undisturbed reqs writes (record w.world { server = Up at.host.memory }) c.sent c.writes (subst (λ o. IsUndisturbed reqs writes (record w.world { server = in_memory o w.world.server })) at.up q) in
    locks.locks_are_answered reqs writes a b s d k c.reachable first c.rounds (in_mind v c.host (λ n. n ≡ Up s) c.up up) there epoch
