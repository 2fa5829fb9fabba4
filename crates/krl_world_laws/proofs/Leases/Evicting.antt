-- An eviction is a run of the host and of the lease.
use Rattle.std.proofs.Common.{◌≡◌, ◌<◌, ◌≤◌, ◌∙◌, inl, inr, ℕ, Bool, true, false, ◌&&◌, Option, Some, None, List, [], ◌∷◌, refl, sym, ap, subst, if◌then◌else◌}
use Rattle.std.specs.Prelude.{nat_eq}
use Rattle.std.proofs.lemmas.Bool.{eqb-false}
use Rattle.krl_modes.specs.declared.limits.TheConstants.{MAX_CLIENTS}
use Rattle.krl_modes.specs.declared.point.TheConstants.{END}
use Rattle.krl_client.specs.Clients.{Client}
use Rattle.krl_steps.specs.declared.step.Step.TheVariants as step
use Rattle.krl_steps.specs.declared.answer.Answer.TheVariants as answered
use Rattle.krl_world.specs.States.{ClientPlace, State, client_of, with_client}
use Rattle.krl_world.specs.Steps.{Takes, of_client, if_runs}
use Rattle.krl_host_laws.specs.Hosts.{HostWorld, acts}
use Rattle.krl_host_laws.proofs.Incarnations.{at_set, in_range}
use Rattle.krl_host_laws.proofs.Evicting.{leaves_at_once}
use Rattle.krl_leases.specs.Clocks.{Limits}
use Rattle.krl_leases.specs.Machine.{State as Lease, Evicted}
use Rattle.krl_world_laws.specs.Systems.{hosts}
use Rattle.krl_world_laws.specs.Leases.Leased.{Machines, Leased, Event, Acts, Evicts, set_lease, IsRunning, GoesWithout, Runs}
use Rattle.krl_world_laws.specs.Leases.Evictions.{HasEnded, IsEvictedBy, EvictionsAreRuns}

-- the lease that was set
lease_set : (leases : ℕ → ℕ → Lease) (c i : ℕ) (l : Lease) → set_lease leases c i l c i ≡ l
lease_set leases c i l = by_tests (nat_eq c c) (nat_eq i i) refl refl
  where
    by_tests : (a b : Bool) → nat_eq c c ≡ a → nat_eq i i ≡ b → (if a && b then l else leases c i) ≡ l
    by_tests true true e f = refl
    by_tests false b e f = absurd (eqb-false c c e refl)
    by_tests true false e f = absurd (eqb-false i i f refl)

module _ (limits : Limits) (m : Machines) (w : Leased hosts) (c i n : ℕ) (in_number : c < MAX_CLIENTS) (ended : HasEnded (m c i) (w.leases c i)) (less : (w.world.world.places c).last_incarnation < n) (le : n ≤ END) where
  abbrev lease : Lease
  lease = record (w.leases c i) { standing = Evicted }

  abbrev leases : ℕ → ℕ → Lease
  leases = set_lease w.leases c i lease

  -- from where the client does not run
  evicts_from : (u : HostWorld) → GoesWithout hosts w.world c i u → u.host ≡ w.world.host → client_of u.world c ≡ None → (u.world.places c).last_incarnation < n → (es : List Event) × (v : Leased hosts) × Runs hosts limits m w es v × IsEvictedBy w v c i n
  evicts_from u goes same off below =
      let x = leaves_at_once u c n in_number off below le in
      let a : Leased hosts = record { world = u; leases = leases } in
      let b : Leased hosts = record { world = x.mid; leases = leases } in
      let v : Leased hosts = record { world = x.after; leases = leases } in (
        Evicts c i ∷ Acts ∷ Acts ∷ [],
        v,
        (a, (goes, (lease, (ended.0, ended.1, ended.2, ended.3, refl), refl)), (b, (x.first, refl), (v, (x.second, refl), refl))),
        record {
          evicted = ap (λ (l : Lease). l.standing) (lease_set w.leases c i lease);
          gone = x.gone;
          host = x.host ∙ same;
          hello = x.hello;
          bye = x.bye;
        },
      )

  abbrev crashed : State
  crashed = with_client w.world.world c None []

  gone : client_of crashed c ≡ None
  gone = ap (λ (p : ClientPlace). p.client) (at_set w.world.world.places c (record { last_incarnation = (w.world.world.places c).last_incarnation; client = None }))

  last : (crashed.places c).last_incarnation ≡ (w.world.world.places c).last_incarnation
  last = ap (λ (p : ClientPlace). p.last_incarnation) (at_set w.world.world.places c (record { last_incarnation = (w.world.world.places c).last_incarnation; client = None }))

  not_running : (v : State) → client_of v c ≡ None → IsRunning v c i → ⊥
  not_running v off r = let bad : None ≡ Some r.0 = sym off ∙ r.1 in cc

  evicts : (o : Option Client) → client_of w.world.world c ≡ o → (es : List Event) × (v : Leased hosts) × Runs hosts limits m w es v × IsEvictedBy w v c i n
  evicts None off = evicts_from w.world (inl refl, not_running w.world.world off) refl off less
  evicts (Some k) on =
      let t : Takes w.world.world (step.CrashClient c) answered.Done crashed = (ap (λ o. of_client c (if_runs o (λ k. None))) on ∙ in_range c in_number, (refl, refl)) in
      evicts_from (record w.world { world = crashed }) (inr (acts (step.CrashClient c) answered.Done crashed (λ e. cc) t), not_running crashed gone) refl gone (subst (λ j. j < n) (sym last) less)

pub evictions_are_runs : EvictionsAreRuns
evictions_are_runs limits m w c i n reached in_number ended less le = evicts limits m w c i n in_number ended less le (client_of w.world.world c) refl
