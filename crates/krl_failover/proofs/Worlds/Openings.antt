-- A world that krl_machine reaches, and in which a server is up, many servers reach: each crash with its start is a
-- start that fences.
use Rattle.std.proofs.Common.{◌≡◌, ◌≢◌, ℕ, suc, Bool, true, Option, refl, sym, ap, subst, ◌∙◌}
use Rattle.krl_modes.specs.declared.point.TheConstants.{END}
use Rattle.krl_messages.specs.Values.{Value}
use Rattle.krl_machine.specs.Links.{Phase, Down, Recovering, Serving, Shared, Link, LinkStep, starts, crashes, leaves, joins, accepts, lowers, issues, hellos_again, reports_again, speaks, writes_again, registers, notifies, sees_off, takes_report, takes_head, takes_release, refuses, pushes, no_range, no_key}
use Rattle.krl_machine.specs.Worlds.{World, Changed, Step, none, more, at_link, raises, applies, crash, start, finish, Reachable, begun, stepped, IsMissing, first}
use Rattle.krl_failover.specs.Fenced.{Fenced, first_fenced}
use Rattle.krl_failover.specs.Steps.{runs, takes_over, FencedReachable, opened, went}
use Rattle.krl_failover.proofs.Refinement.Stores.{store_steps, reached_on}

-- many servers reach this world; while it is down, with a server that is up
record Shadow (index : ℕ → Option Value) (w : World) : Type 0 where
  pub fenced : Fenced
  pub reached : FencedReachable index END fenced
  pub links : fenced.world.links ≡ w.links
  pub log : fenced.world.log ≡ w.log
  pub epoch : fenced.world.shared.epoch ≡ w.shared.epoch
  pub index_is : fenced.world.shared.index ≡ w.shared.index
  pub end_is : fenced.world.shared.end ≡ w.shared.end
  pub phase : w.shared.phase ≢ Down → fenced.world.shared.phase ≡ w.shared.phase

-- if it is up, it is this world
shown : (index : ℕ → Option Value) (w : World) (x : Shadow index w) → w.shared.phase ≢ Down → x.fenced.world ≡ w
shown index w x up =
    let epoch = x.epoch in
    let phase = x.phase up in
    let i = x.index_is in
    let end = x.end_is in
    let links = x.links in
    let log = x.log in
    λ t. record { shared = record { epoch = epoch t; phase = phase t; index = i t; end = end t }; links = links t; log = log t }

of_world : (index : ℕ → Option Value) (w : World) (f : Fenced) → FencedReachable index END f → f.world ≡ w → Shadow index w
of_world index w f reached is = record {
  fenced = f;
  reached = reached;
  links = ap (λ x. x.links) is;
  log = ap (λ x. x.log) is;
  epoch = ap (λ x. x.shared.epoch) is;
  index_is = ap (λ x. x.shared.index) is;
  end_is = ap (λ x. x.shared.end) is;
  phase = λ up. ap (λ x. x.shared.phase) is;
}

-- a step of one world that stays up in its epoch
stays_up : (index : ℕ → Option Value) (v u : World) → Shadow index v → v.shared.phase ≢ Down → u.shared.phase ≢ Down → u.shared.epoch ≡ v.shared.epoch → Step v u → Shadow index u
stays_up index v u x up on same step =
    let g = store_steps index v u (more none step) x.fenced x.reached (shown index v x up) on same in
    of_world index u g.fenced (reached_on index END x.fenced g.fenced x.reached g.steps) g.world

serves_up : (p : Phase) → p ≡ Serving → p ≢ Down
serves_up p e d = let x = sym e ∙ d in cc

recovers_up : (p : Phase) → p ≡ Recovering → p ≢ Down
recovers_up p e d = let x = sym e ∙ d in cc

-- while nobody is up, a link has steps of its client only
client_step : (s r : Shared) (l m : Link) → s.phase ≡ Down → LinkStep s l m → LinkStep r l m
client_step s r l m d (starts a) = starts a
client_step s r l m d crashes = crashes
client_step s r l m d (leaves a) = leaves a
client_step s r l m d (joins n a b c e) = joins n a b c e
client_step s r l m d (accepts p out a b c) = accepts p out a b c
client_step s r l m d (lowers x range key a b c e f g) = lowers x range key a b c e f g
client_step s r l m d (issues op a b c e) = issues op a b c e
client_step s r l m d (hellos_again a) = hellos_again a
client_step s r l m d (reports_again a b) = reports_again a b
client_step s r l m d (speaks a b) = speaks a b
client_step s r l m d (writes_again op a b c) = writes_again op a b c
client_step s r l m d (registers h a on b) = absurd (on d)
client_step s r l m d (notifies on) = absurd (on d)
client_step s r l m d (sees_off b a on c) = absurd (on d)
client_step s r l m d (takes_report x range key a rec b c e f) = absurd (recovers_up s.phase rec d)
client_step s r l m d (takes_head a b ok) = absurd (serves_up s.phase ok.serving d)
client_step s r l m d (takes_release x range key a ok b c e) = absurd (serves_up s.phase ok.serving d)
client_step s r l m d (refuses w a ok b c) = absurd (serves_up s.phase ok.serving d)
client_step s r l m d (pushes p a b c e on g h i j k n o) = absurd (serves_up s.phase on d)

-- a client's step while nobody is up
link_down : (index : ℕ → Option Value) (v : World) (c : ℕ) (l : Link) (links : ℕ → Link) → Shadow index v → v.shared.phase ≡ Down → LinkStep v.shared (v.links c) l → Changed v.links links c l → Shadow index (record v { links = links })
link_down index v c l links x down step ch =
    let f = x.fenced in
    let u : World = record f.world { links = links } in
    let here : LinkStep f.world.shared (f.world.links c) l = subst (λ k. LinkStep f.world.shared (k c) l) (sym x.links) (client_step v.shared f.world.shared (v.links c) l down step) in
    let changed : Changed f.world.links links c l = subst (λ k. Changed k links c l) (sym x.links) ch in
    record {
      fenced = record f { world = u };
      reached = went f (record f { world = u }) x.reached (runs u (at_link c l links here changed) refl refl);
      links = refl;
      log = x.log;
      epoch = x.epoch;
      index_is = x.index_is;
      end_is = x.end_is;
      phase = λ up. absurd (up down);
    }

-- the links after a start
abbrev started : (ℕ → Link) → (ℕ → Bool) → ℕ → Link
started of missing c = record (of c) { missing = missing c; last_push = 0; acked = true; new_range = no_range; new_key = no_key }

by_phase : (p : Phase) {A : Type 0} → (p ≡ Down → A) → (p ≢ Down → A) → A
by_phase Down down up = down refl
by_phase Recovering down up = up (λ e. cc)
by_phase Serving down up = up (λ e. cc)

shadow_on : (index : ℕ → Option Value) (v u : World) → Shadow index v → Step v u → Shadow index u
shadow_on index v u x (at_link c l links step ch) = by_phase v.shared.phase
    (λ down. link_down index v c l links x down step ch)
    (λ up. stays_up index v (record v { links = links }) x up up refl (at_link c l links step ch))
shadow_on index v u x (raises c range key links serving row grow agrees ch) = let up = serves_up v.shared.phase serving in stays_up index v u x up up refl (raises c range key links serving row grow agrees ch)
shadow_on index v u x (applies c m i key links at ok acked next does ch) = let up = serves_up v.shared.phase ok.serving in stays_up index v u x up up refl (applies c m i key links at ok acked next does ch)
shadow_on index v u x (crash on) = record {
  fenced = x.fenced;
  reached = x.reached;
  links = x.links;
  log = x.log;
  epoch = x.epoch;
  index_is = x.index_is;
  end_is = x.end_is;
  phase = λ up. absurd (up refl);
}
shadow_on index v u x (start missing down is) =
    let f = x.fenced in
    let step = takes_over missing (λ c. subst (λ k. IsMissing (k c) (missing c)) (sym x.links) (is c)) in
    record {
      fenced = _;
      reached = went f _ x.reached step;
      links = ap (λ k. started k missing) x.links;
      log = x.log;
      epoch = ap (λ e. suc e) x.epoch;
      index_is = x.index_is;
      end_is = x.end_is;
      phase = λ up. refl;
    }
shadow_on index v u x (finish rec all) = stays_up index v u x (recovers_up v.shared.phase rec) (λ e. cc) refl (finish rec all)

shadow : (index : ℕ → Option Value) (w : World) → Reachable index END w → Shadow index w
shadow index w begun = of_world index (first index END) (first_fenced index END) opened refl
shadow index w (stepped v u r step) = shadow_on index v u (shadow index v r) step

pub fenced_of : (index : ℕ → Option Value) (w : World) → Reachable index END w → w.shared.phase ≢ Down → (f : Fenced) × FencedReachable index END f × (f.world ≡ w)
fenced_of index w r up = let x = shadow index w r in (x.fenced, x.reached, shown index w x up)
