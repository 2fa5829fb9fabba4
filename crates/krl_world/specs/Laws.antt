-- What each step keeps of a world.
use Rattle.std.specs.Prelude.{◌≡◌, ℕ, ◌≤◌, true, false, List, Result}
use Rattle.krl_modes.specs.declared.part.RangePart.TheVariants as range
use Rattle.krl_modes.specs.declared.part.KeyPart.TheVariants as key
use Rattle.krl_modes.specs.declared.limits.TheConstants.{MAX_CLIENTS}
use Rattle.krl_messages.specs.Members.{In}
use Rattle.krl_durable.specs.declared.limits.Limits.{Limits}
use Rattle.krl_durable.specs.Registers.{Durable}
use Rattle.krl_durable.specs.Limits.{Fits}
use Rattle.krl_server.specs.Servers.{Server, is_recovering}
use Rattle.krl_steps.specs.declared.step.Step.{Step}
use Rattle.krl_steps.specs.declared.step.Step.TheVariants as step
use Rattle.krl_steps.specs.declared.answer.Answer.{Answer}
use Rattle.krl_steps.specs.declared.refused.Refused.{Refused}
use Rattle.krl_world.specs.States.{Up, Down, State, opened, range_held, key_held}
use Rattle.krl_world.specs.Shown.{is_serving}
use Rattle.krl_world.specs.Bounds.{Bound, table_of, HasBound, IsTableWithin, Covers}
use Rattle.krl_world.specs.Steps.{CanOpen, Takes, Steps, Runs, RunsWith, resized, IsReachable}

-- the first world is reachable, and so is what a step, a run or other limits leave of a reachable one
pub record ReachableStays : Type 0 where
  pub first : (d : Durable) → CanOpen d → IsReachable (opened d)
  pub step : (w v : State) (s : Step) (r : Result Answer Refused) → IsReachable w → Steps w s r v → IsReachable v
  pub run : (w v : State) (steps : List Step) (results : List (Result Answer Refused)) → IsReachable w →
      RunsWith w steps results v → IsReachable v
  pub resized : (w : State) (d : Durable) (l : Limits) → IsReachable w → w.server ≡ Down d → Fits l d →
      IsReachable (resized w d l)

-- nobody has a number above 63
abbrev pub NobodyAbove63 : Type 0
NobodyAbove63 =
    (w : State) → IsReachable w → (c p : ℕ) → MAX_CLIENTS ≤ c → (range_held w c p ≡ range.N) × (key_held w c p ≡ key.N)

-- a server that never crashed serves
abbrev pub ServesOn : Type 0
ServesOn =
    (d : Durable) (steps : List Step) (w : State) → CanOpen d → (In step.CrashServer steps → ⊥) →
    Runs (opened d) steps w → is_serving w.server ≡ true

-- nobody gets anything by a restart: if a server recovered and now serves, its table is within the bound until then,
-- and it has what each client believes
abbrev pub RecoveriesEnd : Type 0
RecoveriesEnd =
    (w v : State) (b : Bound) (s t : Server) (taken : Step) (answer : Answer) → HasBound w b → w.server ≡ Up s →
    is_recovering s.missing ≡ true → Takes w taken answer v → v.server ≡ Up t → is_recovering t.missing ≡ false →
    IsTableWithin (table_of t) b × ((c : ℕ) → Covers (table_of t) v c)

-- while a server serves, the bound of a run is its table
abbrev pub BoundIsTable : Type 0
BoundIsTable =
    (w : State) (b : Bound) (s : Server) → HasBound w b → w.server ≡ Up s → is_recovering s.missing ≡ false →
    b ≡ table_of s
