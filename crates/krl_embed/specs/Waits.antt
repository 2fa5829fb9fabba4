-- Who waits at a server, for whom, and what clients hold, as C sees it.
use Rattle.std.specs.Prelude.{◌≡◌, ◌⊎◌, ◌≤◌, ◌<◌, ℕ, true, false, List, Option, Some, None}
use Rattle.krl_modes.specs.declared.limits.TheConstants.{MAX_CLIENTS}
use Rattle.krl_queue.specs.declared.waiter.Waiter.{Waiter}
use Rattle.krl_messages.specs.declared.holding.Holding.{Holding}
use Rattle.krl_table.specs.Holds.{HoldsAt}
use Rattle.krl_wire.specs.Spelling.{mode_tag}
use Rattle.krl_server.specs.declared.state.State.{State}
use Rattle.krl_server.specs.StateMeaning.{meaning}
use Rattle.krl_server.specs.Servers.{Server}
use Rattle.krl_server.specs.Waits.{waiter_of, waited_for, HoldsNoMore, IsNextHolding, may_read}
use Rattle.krl_durable.specs.Index.{slot_of}
use Rattle.krl_modes.specs.declared.point.TheConstants.{END}
use Rattle.krl_embed.specs.declared.code.Code.{Code}
use Rattle.krl_embed.specs.declared.code.Code.TheVariants as code
use Rattle.krl_embed.specs.declared.reply.Reply.{Reply}
use Rattle.krl_embed.specs.declared.server_shows.Waiting.{Waiting}
use Rattle.krl_embed.specs.declared.server_shows.HeldSlot.{HeldSlot}
use Rattle.krl_embed.specs.Replies.{code_of}
use Rattle.krl_embed.specs.Endpoints.{IsCode, IsUntold}
use Rattle.krl_embed.specs.Shown.{Copies}

-- what is reported of a client; a number that is no client's is refused
pub record OfNumber {R : Type 0} (Is : Code → R → Type 0) (c : ℕ) (Tells : R → Type 0) (r : R) : Type 0 where
  pub client : c < MAX_CLIENTS → Tells r
  pub stranger : MAX_CLIENTS ≤ c → Is code.BadClient r

-- it waits so, with what it asked for
abbrev pub IsWait : Option Waiter → Waiting → Type 0
IsWait None r = (r.waits ≡ 0) × (r.request ≡ 0) × (r.point ≡ 0) × (r.hi ≡ 0) × (r.mode ≡ 0)
IsWait (Some u) r =
    (r.waits ≡ 1) × (r.request ≡ u.req) × (r.point ≡ u.point) × (r.hi ≡ u.hi) × (r.mode ≡ mode_tag u.mode)

abbrev pub IsNoWait : Code → Waiting → Type 0
IsNoWait c r = IsCode c r.reply × IsWait None r

abbrev pub TellsWait : ℕ → State → Waiting → Type 0
TellsWait c s r =
    OfNumber IsNoWait c (λ r. IsCode code.Done r.reply × IsWait (waiter_of (meaning s) c) r) r

abbrev pub TellsWaited : ℕ → List ℕ → List ℕ → State → Reply → Type 0
TellsWaited c was now s r = OfNumber (IsUntold was now) c (Copies (waited_for (meaning s) c) was now) r

-- the detail is the number of slots at which the client holds a mode other than N
pub record IsHolding (s : State) (c : ℕ) (r : Reply) : Type 0 where
  pub done : code_of r ≡ Some code.Done
  pub count : HoldsAt (meaning s).rows c r.detail

abbrev pub TellsHeld : ℕ → State → Reply → Type 0
TellsHeld c s r = OfNumber IsCode c (IsHolding s c) r

-- this is a slot's span, and the client's mode there
abbrev pub ShowsHolding : Holding → HeldSlot → Type 0
ShowsHolding h r = (r.holds ≡ 1) × (r.lo ≡ h.span.lo) × (r.hi ≡ h.span.hi) × (r.mode ≡ mode_tag h.mode)

abbrev pub ShowsNoHolding : HeldSlot → Type 0
ShowsNoHolding r = (r.holds ≡ 0) × (r.lo ≡ 0) × (r.hi ≡ 0) × (r.mode ≡ 0)

abbrev pub IsNoHolding : Code → HeldSlot → Type 0
IsNoHolding c r = IsCode c r.reply × ShowsNoHolding r

-- what the client holds first from this point on; or none, if it holds no more
abbrev pub ShowsNext : Server → ℕ → ℕ → HeldSlot → Type 0
ShowsNext s c from r =
    ((h : Holding) × IsNextHolding s c from h × ShowsHolding h r) ⊎ (HoldsNoMore s c from × ShowsNoHolding r)

abbrev pub TellsNext : ℕ → ℕ → State → HeldSlot → Type 0
TellsNext c from s r =
    OfNumber IsNoHolding c (λ r. IsCode code.Done r.reply × ShowsNext (meaning s) c from r) r

-- the client would get at once, to read it, each slot that has one of the points from lo on below hi
abbrev pub MayReadEach : Server → ℕ → ℕ → ℕ → Type 0
MayReadEach s c lo hi = (p : ℕ) → lo ≤ p → p < hi → may_read s c (slot_of s.durable.index p) ≡ true

-- it would not get one of them
abbrev pub MayNotRead : Server → ℕ → ℕ → ℕ → Type 0
MayNotRead s c lo hi = (p : ℕ) × (lo ≤ p) × (p < hi) × (may_read s c (slot_of s.durable.index p) ≡ false)

-- the detail is 1 or 0 by that
abbrev pub ShowsReads : Server → ℕ → ℕ → ℕ → Reply → Type 0
ShowsReads s c lo hi r =
    (code_of r ≡ Some code.Done)
    × (((r.detail ≡ 1) × MayReadEach s c lo hi) ⊎ ((r.detail ≡ 0) × MayNotRead s c lo hi))

-- a range that ends above END is refused
pub record OfRange (hi : ℕ) (Tells : Reply → Type 0) (r : Reply) : Type 0 where
  pub within : hi ≤ END → Tells r
  pub above : END < hi → IsCode code.BadPoint r

abbrev pub TellsReads : ℕ → ℕ → ℕ → State → Reply → Type 0
TellsReads c lo hi s r = OfNumber IsCode c (OfRange hi (ShowsReads (meaning s) c lo hi)) r
