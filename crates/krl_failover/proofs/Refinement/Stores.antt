-- Steps of krl_machine's world, in which the server stays up in its epoch, are steps of many servers.
use Rattle.std.proofs.Common.{◌≡◌, ◌≢◌, ℕ, ◌≤◌, ◌<◌, inl, inr, Option, refl, sym, ap, subst, ◌∙◌, arith}
use Rattle.krl_messages.specs.Values.{Value}
use Rattle.krl_modes.specs.declared.point.TheConstants.{END}
use Rattle.krl_machine.specs.Links.{Down, Recovering, Link}
use Rattle.krl_machine.specs.Worlds.{World, Changed, Step, Steps, none, more, at_link, raises, applies, crash, start, finish}
use Rattle.krl_machine.proofs.Links.{not_both}
use Rattle.krl_refinement.specs.Client.Shows.{Grows}
use Rattle.krl_refinement.proofs.Client.Basics.{grows_not}
use Rattle.krl_failover.specs.Fenced.{Fenced}
use Rattle.krl_failover.specs.Steps.{FencedSteps, stays_so, on_then, runs, finishes, FencedReachable, went}
use Rattle.krl_failover.proofs.Machine.Invariant.{link_at, phase_recovers}
use Rattle.krl_failover.proofs.Machine.Reached.{fenced_inv}
use Rattle.krl_failover.proofs.Refinement.Beside.{steps_after}
use Rattle.krl_failover.proofs.Refinement.Ahead.{RowAhead, row_same, link_row, IsBlankLeft, link_blank, link_grows, Ahead, ahead_self, ahead_on}

step_epoch : (v u : World) → Step v u → v.shared.epoch ≤ u.shared.epoch
step_epoch v u (at_link c l links step ch) = omega arith
step_epoch v u (raises c range key links serving row up agrees ch) = omega arith
step_epoch v u (applies c m index key links at ok acked next does ch) = omega arith
step_epoch v u (crash on) = omega arith
step_epoch v u (start missing down is) = omega arith
step_epoch v u (finish on all) = omega arith

steps_epoch : (w u : World) → Steps w u → w.shared.epoch ≤ u.shared.epoch
steps_epoch w u none = omega arith
steps_epoch w u (more {v = v} a b) = omega (arith, steps_epoch w v a, step_epoch v u b)

-- a server was up before a step that leaves one up in the same epoch
up_before : (v u : World) → Step v u → u.shared.phase ≢ Down → u.shared.epoch ≡ v.shared.epoch → v.shared.phase ≢ Down
up_before v u (at_link c l links step ch) on e = on
up_before v u (raises c range key links serving row up agrees ch) on e = on
up_before v u (applies c m index key links at ok acked next does ch) on e = on
up_before v u (crash up) on e = absurd (on refl)
up_before v u (start missing down is) on e = absurd (omega (arith, e))
up_before v u (finish rec all) on e = λ d. let x = sym rec ∙ d in absurd (cc)

-- and one that recovers recovered before
recovered_before : (v u : World) → Step v u → u.shared.epoch ≡ v.shared.epoch → u.shared.phase ≡ Recovering → v.shared.phase ≡ Recovering
recovered_before v u (at_link c l links step ch) e rec = rec
recovered_before v u (raises c range key links serving row up agrees ch) e rec = rec
recovered_before v u (applies c m index key links at ok acked next does ch) e rec = rec
recovered_before v u (crash up) e rec = absurd (cc)
recovered_before v u (start missing down is) e rec = absurd (omega (arith, e))
recovered_before v u (finish on all) e rec = absurd (cc)

pub reached_on : (index : ℕ → Option Value) (end : ℕ) (f g : Fenced) → FencedReachable index end f → FencedSteps f g → FencedReachable index end g
reached_on index end f g r stays_so = r
reached_on index end f g r (on_then {g = m} a b) = went m g (reached_on index end f m r a) b

-- the bound is blank of the clients that have left
abbrev pub IsBlankWorld : World → Type 0
IsBlankWorld w = (c : ℕ) → IsBlankLeft (w.links c)

-- the machine of many servers continues to the world u, and old servers are as they were
pub record Goes (f : Fenced) (u : World) : Type 0 where
  pub fenced : Fenced
  pub steps : FencedSteps f fenced
  pub world : fenced.world ≡ u
  pub old : fenced.old ≡ f.old
  pub copy : fenced.copy ≡ f.copy
  pub ahead : Ahead f fenced
  pub blank : u.shared.phase ≡ Recovering → IsBlankWorld f.world → IsBlankWorld fenced.world

-- one step, which is neither a crash nor a start
module _ (first : ℕ → Option Value) (f : Fenced) (reached : FencedReachable first END f) where
  rec_of : f.bound < f.world.shared.epoch → f.world.shared.phase ≡ Recovering
  rec_of lt = phase_recovers f.world.shared f.bound (fenced_inv first END f reached).phase lt

  -- the links change at c, if no message goes
  links_ahead : (c : ℕ) (l : Link) (links : ℕ → Link) → Changed f.world.links links c l → Grows (f.world.links c) l → (d : ℕ) → Grows (f.world.links d) (links d)
  links_ahead c l links ch g d = link_at ch d (λ m. Grows (f.world.links d) m) (λ e. subst (λ x. Grows (f.world.links x) l) (sym e) g) (λ ne. grows_not (f.world.links d))

  one : (u : World) → Step f.world u → u.shared.phase ≢ Down → u.shared.epoch ≡ f.world.shared.epoch → Goes f u
  one u (at_link c l links step ch) on e = record {
    fenced = record f { world = u };
    steps = on_then stays_so (runs u (at_link c l links step ch) refl refl);
    world = refl;
    old = refl;
    copy = refl;
    ahead = record {
      epoch = omega arith;
      old = λ x d lt. refl;
      copy = λ x lt. refl;
      grows = links_ahead c l links ch (link_grows f.world.shared (f.world.links c) l step);
      bound = inl refl;
      rows = λ same lt d. link_at ch d (λ m. RowAhead (f.world.links d) m)
          (λ a. subst (λ x. RowAhead (f.world.links x) l) (sym a) (link_row f.world.shared (f.world.links c) l (rec_of lt) step))
          (λ ne. row_same (f.world.links d) (f.world.links d) refl refl (refl, refl));
    };
    blank = λ rec b d. link_at ch d IsBlankLeft (λ a. link_blank f.world.shared (f.world.links c) l rec step (b c)) (λ ne. b d);
  }
  one u (raises c range key links serving row up agrees ch) on e = record {
    fenced = record f { world = u };
    steps = on_then stays_so (runs u (raises c range key links serving row up agrees ch) refl refl);
    world = refl;
    old = refl;
    copy = refl;
    ahead = record {
      epoch = omega arith;
      old = λ x d lt. refl;
      copy = λ x lt. refl;
      grows = links_ahead c _ links ch (record { hellos = λ x h. h; byes = λ x h. h; heads = λ x h. h; releases = λ x h. h; writes = λ x h. h; reports = λ x h. h; notices = λ x h. h; pushes = λ x h. h });
      bound = inl refl;
      rows = λ same lt. absurd (not_both serving (rec_of lt));
    };
    blank = λ rec. absurd (not_both serving rec);
  }
  one u (applies c m index key links at ok acked next does ch) on e = record {
    fenced = record f { world = u };
    steps = on_then stays_so (runs u (applies c m index key links at ok acked next does ch) refl refl);
    world = refl;
    old = refl;
    copy = refl;
    ahead = record {
      epoch = omega arith;
      old = λ x d lt. refl;
      copy = λ x lt. refl;
      grows = links_ahead c _ links ch (record { hellos = λ x h. h; byes = λ x h. h; heads = λ x h. h; releases = λ x h. h; writes = λ x h. h; reports = λ x h. h; notices = λ x h. h; pushes = λ x h. h });
      bound = inl refl;
      rows = λ same lt. absurd (not_both ok.serving (rec_of lt));
    };
    blank = λ rec. absurd (not_both ok.serving rec);
  }
  one u (crash up) on e = absurd (on refl)
  one u (start missing down is) on e = absurd (omega (arith, e))
  one u (finish rec all) on e = record {
    fenced = record { world = u; bound = f.world.shared.epoch; old = f.old; copy = f.copy };
    steps = on_then stays_so (finishes rec all);
    world = refl;
    old = refl;
    copy = refl;
    ahead = record {
      epoch = omega arith;
      old = λ x d lt. refl;
      copy = λ x lt. refl;
      grows = λ c. record { hellos = λ x h. h; byes = λ x h. h; heads = λ x h. h; releases = λ x h. h; writes = λ x h. h; reports = λ x h. h; notices = λ x h. h; pushes = λ x h. h };
      bound = inr (omega arith);
      rows = λ same lt. absurd (omega (arith, same, lt));
    };
    blank = λ serves. absurd (cc);
  }

pub store_steps : (first : ℕ → Option Value) (w u : World) → Steps w u → (f : Fenced) → FencedReachable first END f → f.world ≡ w → u.shared.phase ≢ Down → u.shared.epoch ≡ w.shared.epoch → Goes f u
store_steps first w u none f reached is on e = record { fenced = f; steps = stays_so; world = is; old = refl; copy = refl; ahead = ahead_self f; blank = λ rec b. b }
store_steps first w u (more {v = v} a b) f reached is on e =
    let low = steps_epoch w v a in
    let high = step_epoch v u b in
    let now : u.shared.epoch ≡ v.shared.epoch = omega (arith, low, high, e) in
    let g = store_steps first w v a f reached is (up_before v u b on now) (omega (arith, low, high, e)) in
    let h = one first g.fenced (reached_on first END f g.fenced reached g.steps) u (subst (λ x. Step x u) (sym g.world) b) on (now ∙ sym (ap (λ x. x.shared.epoch) g.world)) in
    record {
      fenced = h.fenced;
      steps = steps_after f g.fenced h.fenced g.steps h.steps;
      world = h.world;
      old = h.old ∙ g.old;
      copy = h.copy ∙ g.copy;
      ahead = ahead_on f g.fenced h.fenced g.ahead h.ahead;
      blank = λ rec x. h.blank rec (g.blank (recovered_before v u b now rec) x);
    }
