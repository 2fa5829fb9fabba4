-- The steps of many servers over one fenced store.
use Rattle.std.specs.Prelude.{◌≡◌, ◌≢◌, ℕ, suc, ◌≤◌, ◌<◌, Bool, true, false, Option, Some, ◌∷◌, ◌⊎◌, if◌then◌else◌, ◌==◌}
use Rattle.krl_modes.specs.declared.part.RangePart.{RangePart}
use Rattle.krl_modes.specs.declared.part.KeyPart.{KeyPart}
use Rattle.krl_messages.specs.Values.{Value}
use Rattle.krl_messages.specs.Members.{In}
use Rattle.krl_machine.specs.Modes.{RangeAtMost, KeyAtMost, RangesAgree, KeysAgree}
use Rattle.krl_machine.specs.Links.{Recovering, Serving, Head, Said, Push, Release, Report, Link, MaySay, IsSlot, SlotLowered, IsRow, IsRebuilt, no_range, no_key}
use Rattle.krl_machine.specs.Worlds.{World, Step, Changed, IsMissing}
use Rattle.krl_failover.specs.Fenced.{Kept, kept_of, Fenced, IsHere, seen_by, Turned, MayPush, Finished, first_fenced}

pub data FencedStep (f : Fenced) : Fenced → Type 0 where
  -- The clients and the store's server

  -- a client, or the store's server, takes a step in its epoch and phase
  runs : (v : World) → Step f.world v → v.shared.phase ≡ f.world.shared.phase →
      v.shared.epoch ≡ f.world.shared.epoch →
      FencedStep f (record f { world = v })
  -- the store's server has every report: it serves from now on
  finishes : f.world.shared.phase ≡ Recovering → ((c : ℕ) → (f.world.links c).missing ≡ false) →
      FencedStep f (record {
        world = record {
          shared = record f.world.shared { phase = Serving };
          links = λ c. record (f.world.links c) {
            top_range = (f.world.links c).new_range;
            top_key = (f.world.links c).new_key;
          };
          log = f.world.log;
        };
        bound = f.world.shared.epoch;
        old = f.old;
        copy = f.copy;
      })
  -- a server starts, in whatever phase the one before is: that one is fenced, and continues as an old server
  takes_over : (missing : ℕ → Bool) → ((c : ℕ) → IsMissing (f.world.links c) (missing c)) →
      FencedStep f (record {
        world = record {
          shared = record f.world.shared { epoch = suc f.world.shared.epoch; phase = Recovering };
          links = λ c. record (f.world.links c) {
            missing = missing c;
            last_push = 0;
            acked = true;
            new_range = no_range;
            new_key = no_key;
          };
          log = f.world.log;
        };
        bound = f.bound;
        old = λ e c. if e == f.world.shared.epoch then kept_of (f.world.links c) else f.old e c;
        copy = λ e. if e == f.world.shared.epoch then f.world.shared.index else f.copy e;
      })
  -- Any old server, of the epoch e

  -- it sends Epoch
  old_notifies : (e c : ℕ) (links : ℕ → Link) → 1 ≤ e → e < f.world.shared.epoch →
      Changed f.world.links links c (record (f.world.links c) {
        notices = record { inc = (f.old e c).reg; epoch = e } ∷ (f.world.links c).notices;
      }) →
      FencedStep f (record f { world = record f.world { links = links } })
  -- a message that has seen its last push acknowledges that
  old_hears : (e c : ℕ) (a : Head) (old : ℕ → ℕ → Kept) → 1 ≤ e → e < f.world.shared.epoch →
      In a (f.world.links c).heads → a.inc ≡ (f.old e c).reg → a.epoch ≡ e → a.seen ≡ (f.old e c).last →
      Turned f.old old e c (record (f.old e c) { acked = true }) →
      FencedStep f (record f { old = old })
  -- The old server whose table is the bound

  -- a grant raises a row to one that agrees with all others
  old_raises : (c : ℕ) (range : ℕ → RangePart) (key : ℕ → KeyPart) (links : ℕ → Link) →
      f.world.shared.phase ≡ Recovering → IsRow (seen_by f f.bound) range key →
      ((q : ℕ) → RangeAtMost ((f.world.links c).top_range q) (range q)
      × KeyAtMost ((f.world.links c).top_key q) (key q)) →
      ((d : ℕ) → d ≢ c → (q : ℕ) → RangesAgree (range q) ((f.world.links d).top_range q)
      × KeysAgree (key q) ((f.world.links d).top_key q)) →
      Changed f.world.links links c (record (f.world.links c) { top_range = range; top_key = key }) →
      FencedStep f (record f { world = record f.world { links = links } })
  -- it obeys a release that has seen its last push
  old_releases : (c : ℕ) (r : Release) (range : ℕ → RangePart) (key : ℕ → KeyPart) (links : ℕ → Link) →
      f.world.shared.phase ≡ Recovering →
      IsHere (f.world.links c) (f.old f.bound c) → In r (f.world.links c).releases →
      r.head.inc ≡ (f.old f.bound c).reg → r.head.epoch ≡ f.bound → r.head.seen ≡ (f.old f.bound c).last →
      ((n : ℕ) → IsSlot (seen_by f f.bound) n → SlotLowered (seen_by f f.bound) r (f.world.links c) range key n) →
      IsRow (seen_by f f.bound) range key →
      Changed f.world.links links c (record (f.world.links c) { top_range = range; top_key = key }) →
      FencedStep f (record f { world = record f.world { links = links } })
  -- it makes the next push, from its rows and its own copy of the index; an answer sent again is one too
  old_pushes : (c : ℕ) (p : Push) (links : ℕ → Link) (old : ℕ → ℕ → Kept) →
      f.world.shared.phase ≡ Recovering → IsHere (f.world.links c) (f.old f.bound c) →
      MayPush (f.world.links c) f.bound (f.old f.bound c) p →
      ((q : ℕ) (t : Said) → p.says q ≡ Some t → MaySay (seen_by f f.bound) (f.world.links c) q t) →
      Changed f.world.links links c (record (f.world.links c) { pushes = p ∷ (f.world.links c).pushes }) →
      Turned f.old old f.bound c (record (f.old f.bound c) {
        last = suc (f.old f.bound c).last;
        acked = false;
      }) →
      FencedStep f (record f { world = record f.world { links = links }; old = old })
  -- An old server that served once, and is older than that one, or pushes to an incarnation that is gone

  -- it pushes what it likes: its table is not looked at
  stale_pushes : (e c : ℕ) (p : Push) (links : ℕ → Link) (old : ℕ → ℕ → Kept) → 1 ≤ e →
      e < f.world.shared.epoch → e ≤ f.bound →
      (e < f.bound) ⊎ ((f.old e c).reg ≢ (f.world.links c).reg) ⊎ ((f.world.links c).left ≡ true) →
      MayPush (f.world.links c) e (f.old e c) p →
      Changed f.world.links links c (record (f.world.links c) { pushes = p ∷ (f.world.links c).pushes }) →
      Turned f.old old e c (record (f.old e c) { last = suc (f.old e c).last; acked = false }) →
      FencedStep f (record f { world = record f.world { links = links }; old = old })
  -- An old server that recovers, which is later than the bound

  -- it takes the report of a client that it waits for, and rebuilds the row
  old_takes_report : (e c : ℕ) (r : Report) (range : ℕ → RangePart) (key : ℕ → KeyPart) (old : ℕ → ℕ → Kept) →
      f.bound < e → e < f.world.shared.epoch → In r (f.world.links c).reports →
      (f.old e c).missing ≡ true → r.inc ≡ (f.old e c).reg → r.epoch ≡ e → IsRebuilt (seen_by f e) r range key →
      Turned f.old old e c (record (f.old e c) { missing = false; new_range = range; new_key = key }) →
      FencedStep f (record f { old = old })
  -- it has every report: it serves from now on, and the rows that it rebuilt are the bound
  old_finishes : (e : ℕ) (links : ℕ → Link) → f.bound < e → e < f.world.shared.epoch →
      ((c : ℕ) → (f.old e c).missing ≡ false) → ((c : ℕ) → Finished (f.world.links c) (f.old e c) (links c)) →
      FencedStep f (record f { world = record f.world { links = links }; bound = e })

-- a list of steps leads from the first world to this one
pub data FencedReachable (index : ℕ → Option Value) (end : ℕ) : Fenced → Type 0 where
  opened : FencedReachable index end (first_fenced index end)
  went : (f g : Fenced) → FencedReachable index end f → FencedStep f g → FencedReachable index end g

-- steps, one after another, or none
pub data FencedSteps : Fenced → Fenced → Type 0 where
  stays_so : {f : Fenced} → FencedSteps f f
  on_then : {f g h : Fenced} → FencedSteps f g → FencedStep g h → FencedSteps f h
