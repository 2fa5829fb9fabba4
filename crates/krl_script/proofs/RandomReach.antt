-- The worlds of a random run are reachable.
use Rattle.std.proofs.Common.{◌≡◌, ℕ, zero, suc, ◌≤◌, length, Option, None, Some, List, refl, sym, ap, subst, ◌∙◌, arith}
use Rattle.std.proofs.lemmas.Option.{none-some}
use Rattle.std.specs.Prelude.{MatchOption}
use Rattle.std.specs.Cmp.{nat_cmp_total}
use Rattle.std.specs.Ordering.{nat_cmp}
use Rattle.std.specs.FinMap as map
use Rattle.std.specs.FinMap.Entries.{put}
use Rattle.std.specs.Int.{w64, to_be_bytes}
use Rattle.std.specs.List.{IsDistinct}
use Rattle.krl_modes.specs.declared.limits.TheConstants.{STANDARD_ROOM, MAX_ROOM}
use Rattle.rand_pcg.specs.Lcg.{Lcg}
use Rattle.krl_draws.specs.Generator.{drawn}
use Rattle.krl_draws.specs.declared.generator.Writes.{Writes}
use Rattle.krl_draws.specs.declared.generator.Writes.TheVariants as writes
use Rattle.krl_messages.specs.Values.{Value}
use Rattle.krl_durable.specs.Index.{Index}
use Rattle.krl_durable.specs.Kept.{IsKept, AreBelowEnd}
use Rattle.krl_steps.specs.declared.step.Step.{Step}
use Rattle.krl_steps.specs.declared.step.Step.TheVariants as step
use Rattle.krl_world.specs.States.{State, unused}
use Rattle.krl_world.specs.Steps.{IsReachable, CanOpen}
use Rattle.krl_world.proofs.Functions.Shapes.{reachable_stays}
use Rattle.krl_world.proofs.Examples.Running.{no_entries}
use Rattle.krl_script.specs.declared.random.Pace.{Pace}
use Rattle.krl_script.specs.declared.random.Pace.TheVariants as pace
use Rattle.krl_script.specs.RandomRuns.{RandomStage, first_entries, first_of, observed_of, TakesDrawn, GoesBy, GoesOn, late, max_hurried, Hurries, GoesAt, RunsRandomly, EndsRandomRun}

-- The first world

abbrev first_map : Index
first_map = map.from_entries first_entries

first_index : map.entries first_map ≡ first_entries
first_index =
    let one = to_be_bytes w64 1 in let two = to_be_bytes w64 2 in
    map.entries-insert nat_cmp_total (map.insert map.empty 20 two) 10 one ∙ ap (put nat_cmp 10 one) (map.entries-insert nat_cmp_total map.empty 20 two ∙ ap (put nat_cmp 20 two) no_entries)

first_kept : IsKept (unused first_entries)
unfolding IsDistinct
first_kept = record {
  keys = subst AreBelowEnd (sym first_index) (refl, (refl, tt));
  few = subst (λ (es : List (ℕ × Value)). length es ≤ STANDARD_ROOM) (sym first_index) (omega arith);
  room = (omega arith, omega arith);
  reach = (omega arith, omega arith);
  epoch = omega arith;
  clients = tt;
  once = tt;
  outcomes = λ c r e. absurd (none-some r e);
  lasts = λ c r e. absurd (none-some r e);
  incarnations = λ c r e. absurd (none-some r e);
}

first_opens : CanOpen (unused first_entries)
first_opens = record { kept = first_kept; starts = refl; left = refl }

-- Step by step

drawn_reachable : (s t : RandomStage) (what : Option Step) (g : Lcg) → IsReachable s.world → GoesBy s what g t → IsReachable t.world
drawn_reachable s t None g i h = subst (λ (x : RandomStage). IsReachable x.world) (sym h) i
drawn_reachable s t (Some what) g i h = subst (λ (x : RandomStage). IsReachable x.world) (sym h.leaves) (reachable_stays.step s.world h.world what h.outcome i h.steps)

hurried_reachable : (n : ℕ) (s t : RandomStage) → IsReachable s.world → Hurries n s t → IsReachable t.world
unfolding Hurries
hurried_reachable zero s t i h = subst (λ (x : RandomStage). IsReachable x.world) (sym h) i
hurried_reachable (suc n) s t i h = by_late (late s) h (hurried_reachable n)
  where
    by_late : (o : Option ℕ) → MatchOption o (t ≡ s) (λ number. (mid : RandomStage) × TakesDrawn s.world s.waits (step.Deliver number) s.generator mid × Hurries n mid t) → ((x y : RandomStage) → IsReachable x.world → Hurries n x y → IsReachable y.world) → IsReachable t.world
    by_late None e f = subst (λ (x : RandomStage). IsReachable x.world) (sym e) i
    by_late (Some number) k f = f k.0 t (drawn_reachable s k.0 (Some (step.Deliver number)) s.generator i k.1) k.2

next_reachable : (what : Writes) (s t : RandomStage) → IsReachable s.world → GoesOn what s t → IsReachable t.world
next_reachable what s t i h = let d = drawn (observed_of s) what s.generator in drawn_reachable s t d.0 d.1 i h

goes_reachable : (at : Pace) (s t : RandomStage) → IsReachable s.world → GoesAt at s t → IsReachable t.world
goes_reachable pace.Drawn s t i h = next_reachable writes.Plain s t i h
goes_reachable pace.Busy s t i h = hurried_reachable max_hurried h.0 t (next_reachable writes.Taking s h.0 i h.1) h.2

runs_reachable : (at : Pace) (n : ℕ) (s t : RandomStage) → IsReachable s.world → RunsRandomly at n s t → IsReachable t.world
runs_reachable at zero s t i h = subst (λ (x : RandomStage). IsReachable x.world) (sym h) i
runs_reachable at (suc n) s t i h = goes_reachable at h.0 t (runs_reachable at n s h.0 i h.1) h.2

pub end_reachable : (at : Pace) (seed steps : ℕ) (w : State) → EndsRandomRun at seed steps w → IsReachable w
end_reachable at seed steps w e = subst IsReachable e.world (runs_reachable at steps (first_of seed) e.last (reachable_stays.first (unused first_entries) first_opens) e.runs)
