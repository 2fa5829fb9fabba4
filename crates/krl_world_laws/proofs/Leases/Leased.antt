-- Leases go as their own machines do, and a system as its moves lead.
use Rattle.std.proofs.Common.{◌≡◌, inl, inr, ℕ, Bool, true, false, ◌&&◌, List, [], ◌∷◌, refl, sym, ap, ◌∙◌, subst, eqb-true, if◌then◌else◌}
use Rattle.std.specs.Prelude.{nat_eq}
use Rattle.std.proofs.lemmas.Bool.{and_parts}
use Rattle.krl_leases.specs.Clocks.{Clocks, Limits}
use Rattle.krl_leases.specs.Machine.{State as Lease, Unknown, Evicted, Event as LeaseEvent, Pass, Connect, Say, Hear, Confirm, Take, Hello, Register, Stop, Start, Revise, Evict, begun as no_lease, Goes as LeaseGoes, Runs as LeaseRuns}
use Rattle.krl_leases.proofs.Evicted.{evicted_answer_nothing}
use Rattle.krl_world_laws.specs.Systems.{System, worlds, hosts, fenced_hosts}
use Rattle.krl_world_laws.specs.Leases.Leased.{Machines, AllAgree, Leased, Event, Acts, Passes, Leases, Evicts, Changes, GoesWithout, Goes, Runs, unleased, IsReached}
use Rattle.krl_world_laws.specs.Leases.Laws.{MayHandOver, ScansAreIndex, WorldsAreReached}
use Rattle.krl_world_laws.proofs.Systems.{Follows, worlds_follow, hosts_follow, fenced_hosts_follow}
use Rattle.krl_world_laws.proofs.Readers.{rows_are}

-- Systems

module _ (s : System) (f : Follows s) where
  goes_without : (w w' : s.World) (c i : ℕ) → GoesWithout s w c i w' → s.IsReached w → s.IsReached w'
  goes_without w w' c i g r = elim g.0 [ inl e ↦ subst s.IsReached (sym e) r | inr m ↦ f.moves w w' r m ]

  module _ (limits : Limits) (m : Machines) where
    world_goes : (w w' : Leased s) (e : Event) → Goes s limits m w e w' → s.IsReached w.world → s.IsReached w'.world
    world_goes w w' Acts g r = f.moves w.world w'.world r g.0
    world_goes w w' (Passes n) g r = subst s.IsReached (sym g.0) r
    world_goes w w' (Leases c i e) g r = subst s.IsReached (sym g.1) r
    world_goes w w' (Evicts c i) g r = goes_without w.world w'.world c i g.0 r

    world_runs : (w w' : Leased s) (es : List Event) → Runs s limits m w es w' → s.IsReached w.world → s.IsReached w'.world
    world_runs w w' [] g r = subst (λ (x : Leased s). s.IsReached x.world) (sym g) r
    world_runs w w' (e ∷ es) g r = world_runs g.0 w' es g.2 (world_goes w g.0 e g.1 r)

    pub reached : (w : Leased s) → IsReached s limits m w → s.IsReached w.world
    reached w h = world_runs (unleased s h.0) w h.2 h.3 h.1

module _ (s : System) (limits : Limits) (m : Machines) where
  runs_on : (u v w : Leased s) (es fs : List Event) → Runs s limits m u es v → Runs s limits m v fs w → (gs : List Event) × Runs s limits m u gs w
  runs_on u v w [] fs r t = (fs, subst (λ x. Runs s limits m x fs w) r t)
  runs_on u v w (e ∷ es) fs r t = let rest = runs_on r.0 v w es fs r.2 t in (e ∷ rest.0, (r.0, r.1, rest.1))

  pub reached_on : (v w : Leased s) (es : List Event) → IsReached s limits m v → Runs s limits m v es w → IsReached s limits m w
  reached_on v w es h r = let all = runs_on (unleased s h.0) v w h.2 es h.3 r in (h.0, h.1, all.0, all.1)

-- Leases

-- what may become of a lease: its machine runs
abbrev Becomes : Limits → Clocks → Lease → Lease → Type 0
Becomes limits clocks l l' = (es : List LeaseEvent) × LeaseRuns limits clocks l es l'

both_runs : (limits : Limits) (clocks : Clocks) (es fs : List LeaseEvent) (x y z : Lease) → LeaseRuns limits clocks x es y → LeaseRuns limits clocks y fs z → Becomes limits clocks x z
both_runs limits clocks [] fs x y z r s = (fs, subst (λ u. LeaseRuns limits clocks u fs z) r s)
both_runs limits clocks (e ∷ es) fs x y z r s = let rest = both_runs limits clocks es fs r.0 y z r.2 s in (e ∷ rest.0, (r.0, r.1, rest.1))

module _ (s : System) (limits : Limits) (m : Machines) where
  one : (c i : ℕ) (l l' : Lease) (e : LeaseEvent) → LeaseGoes limits (m c i) l e l' → Becomes limits (m c i) l l'
  one c i l l' e g = (e ∷ [], (l', g, refl))

  same : (c i : ℕ) (l l' : Lease) → l' ≡ l → Becomes limits (m c i) l l'
  same c i l l' e = ([], e)

  -- the lease of one incarnation changes
  changes : (leases : ℕ → ℕ → Lease) (c i d j : ℕ) (l : Lease) (e : LeaseEvent) → LeaseGoes limits (m c i) (leases c i) e l → (b : Bool) → (nat_eq d c && nat_eq j i) ≡ b →
      Becomes limits (m d j) (leases d j) (if b then l else leases d j)
  changes leases c i d j l e g false t = same d j (leases d j) (leases d j) refl
  changes leases c i d j l e g true t =
      let p = and_parts (nat_eq d c) (nat_eq j i) t in
      let x : c ≡ d = sym (eqb-true d c p.0) in
      let y : i ≡ j = sym (eqb-true j i p.1) in
      subst (λ n. Becomes limits (m d n) (leases d n) l) y
      (subst (λ n. Becomes limits (m n i) (leases n i) l) x (one c i (leases c i) l e g))

  changed : (w w' : Leased s) (c i d j : ℕ) (e : LeaseEvent) → Changes s limits m w c i e w' → Becomes limits (m d j) (w.leases d j) (w'.leases d j)
  changed w w' c i d j e g =
      subst (λ (f : ℕ → ℕ → Lease). Becomes limits (m d j) (w.leases d j) (f d j)) (sym g.2)
      (changes w.leases c i d j g.0 e g.1 (nat_eq d c && nat_eq j i) refl)

  lease_goes : (w w' : Leased s) (d j : ℕ) (e : Event) → Goes s limits m w e w' → Becomes limits (m d j) (w.leases d j) (w'.leases d j)
  lease_goes w w' d j Acts g = same d j (w.leases d j) (w'.leases d j) (ap (λ (f : ℕ → ℕ → Lease). f d j) g.1)
  lease_goes w w' d j (Passes n) g = one d j (w.leases d j) (w'.leases d j) (Pass n) (g.1 d j)
  lease_goes w w' d j (Leases c i e) g = changed w w' c i d j e g.2
  lease_goes w w' d j (Evicts c i) g = changed w w' c i d j Evict g.1

  lease_runs : (w w' : Leased s) (d j : ℕ) (es : List Event) → Runs s limits m w es w' → Becomes limits (m d j) (w.leases d j) (w'.leases d j)
  lease_runs w w' d j [] g = same d j (w.leases d j) (w'.leases d j) (ap (λ (x : Leased s). x.leases d j) g)
  lease_runs w w' d j (e ∷ es) g =
      let first = lease_goes w g.0 d j e g.1 in
      let rest = lease_runs g.0 w' d j es g.2 in
      both_runs limits (m d j) first.0 rest.0 (w.leases d j) (g.0.leases d j) (w'.leases d j) first.1 rest.1

-- A client that is evicted stays so

not_unknown : {A : Type 0} → Evicted ≡ Unknown → A
not_unknown e = absurd (differ e)
  where
    differ : Evicted ≡ Unknown → ⊥
    differ e = cc

module _ (limits : Limits) (clocks : Clocks) where
  stays_evicted : (x y : Lease) (e : LeaseEvent) → LeaseGoes limits clocks x e y → x.standing ≡ Evicted → y.standing ≡ Evicted
  stays_evicted x y (Pass n) g h = ap (λ (l : Lease). l.standing) g ∙ h
  stays_evicted x y Connect g h = ap (λ (l : Lease). l.standing) g.2 ∙ h
  stays_evicted x y Say g h = ap (λ (l : Lease). l.standing) g.1 ∙ h
  stays_evicted x y (Hear sign) g h = ap (λ (l : Lease). l.standing) g.4 ∙ h
  stays_evicted x y (Confirm grant) g h = ap (λ (l : Lease). l.standing) g.3 ∙ h
  stays_evicted x y (Take grant) g h = ap (λ (l : Lease). l.standing) g.2 ∙ h
  stays_evicted x y Hello g h = ap (λ (l : Lease). l.standing) g.2 ∙ h
  stays_evicted x y Register g h = not_unknown (sym h ∙ g.3)
  stays_evicted x y Stop g h = ap (λ (l : Lease). l.standing) g ∙ h
  stays_evicted x y (Start machine terms) g h = ap (λ (l : Lease). l.standing) g.2 ∙ h
  stays_evicted x y Revise g h = ap (λ (l : Lease). l.standing) g.2 ∙ h
  stays_evicted x y Evict g h = ap (λ (l : Lease). l.standing) g.4

  evicted_on : (x y : Lease) (es : List LeaseEvent) → LeaseRuns limits clocks x es y → x.standing ≡ Evicted → y.standing ≡ Evicted
  evicted_on x y [] r h = ap (λ (l : Lease). l.standing) r ∙ h
  evicted_on x y (e ∷ es) r h = evicted_on r.0 y es r.2 (stays_evicted x r.0 e r.1 h)

-- The laws

module _ (s : System) (f : Follows s) where
  they_are_reached : WorldsAreReached s
  they_are_reached limits m w h = let r = reached s f limits m w h in (r, f.holds w.world r)

  pub too_late : (limits : Limits) (m : Machines) (v w : Leased s) (es : List Event) (c i : ℕ) → AllAgree limits m → IsReached s limits m v → (v.leases c i).standing ≡ Evicted → Runs s limits m v es w → MayHandOver s m w c i → ⊥
  too_late limits m v w es c i agree h x r a =
      let before = lease_runs s limits m (unleased s h.0) v c i h.2 h.3 in
      let after = lease_runs s limits m v w c i es r in
      let all = both_runs limits (m c i) before.0 after.0 no_lease (v.leases c i) (w.leases c i) before.1 after.1 in
      evicted_answer_nothing limits (m c i) all.0 (w.leases c i) (agree c i) all.1
      (evicted_on limits (m c i) (v.leases c i) (w.leases c i) after.0 after.1 x) a

  they_are_index : ScansAreIndex s
  they_are_index limits m v w es c i lo hi rows agree h (inl read) r a =
      rows_are (s.view v.world) c lo hi rows (f.holds v.world (reached s f limits m v h)) read.1
  they_are_index limits m v w es c i lo hi rows agree h (inr x) r a = absurd (too_late limits m v w es c i agree h x r a)

pub scans_of_worlds : ScansAreIndex worlds
scans_of_worlds = they_are_index worlds worlds_follow

pub scans_of_hosts : ScansAreIndex hosts
scans_of_hosts = they_are_index hosts hosts_follow

pub scans_of_fenced_hosts : ScansAreIndex fenced_hosts
scans_of_fenced_hosts = they_are_index fenced_hosts fenced_hosts_follow

pub worlds_reached : WorldsAreReached worlds
worlds_reached = they_are_reached worlds worlds_follow

pub hosts_reached : WorldsAreReached hosts
hosts_reached = they_are_reached hosts hosts_follow

pub fenced_hosts_reached : WorldsAreReached fenced_hosts
fenced_hosts_reached = they_are_reached fenced_hosts fenced_hosts_follow
