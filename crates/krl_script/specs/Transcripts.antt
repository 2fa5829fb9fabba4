-- What a script prints, line by line.
use Rattle.std.specs.Prelude.{◌≡◌, ◌≢◌, ℕ, zero, suc, ◌+◌, ◌<◌, ◌≤◌, ◌⊎◌, Bool, true, false, nat_lt, List, [], ◌∷◌, ◌++◌, length, slice_get, Option, None, Some, Result, Ok, Err, MatchBool}
use Rattle.std.specs.Str.Lines.{lines}
use Rattle.std.specs.Int.{w64, to_be_bytes}
use Rattle.krl_messages.specs.Values.{Value}
use Rattle.krl_world.specs.States.{State, fresh}
use Rattle.krl_world.specs.Shown.{sent_count}
use Rattle.krl_world.specs.Steps.{CanBegin, CannotBegin, Steps}
use Rattle.krl_steps.specs.declared.step.Step.{Step}
use Rattle.krl_steps.specs.declared.step.Step.TheVariants as step
use Rattle.krl_steps.specs.declared.answer.Answer.{Answer}
use Rattle.krl_steps.specs.declared.refused.Refused.{Refused}
use Rattle.krl_steps.specs.declared.refused.Refused.TheVariants as refused
use Rattle.krl_text.specs.Limits.{max_text, max_deliveries}
use Rattle.krl_text.specs.declared.request.Request.{Request}
use Rattle.krl_text.specs.declared.request.Request.TheVariants as request
use Rattle.krl_script.specs.declared.delivery.Delivery.{Delivery}
use Rattle.krl_script.specs.declared.delivery.Delivery.TheVariants as delivery
use Rattle.krl_text.specs.declared.fault.SyntaxFault.{SyntaxFault}
use Rattle.krl_text.specs.declared.fault.SyntaxFault.TheVariants.{TextTooLong}
use Rattle.krl_text.specs.Words.{line_request}
use Rattle.krl_script.specs.Undelivered.{Waits, none_sent, sent_to, without, none_waiting}
use Rattle.krl_text.specs.Printing.{outcome_lines, refused_line, unsettled_line, modes_lines, fault_line}
use Rattle.krl_script.specs.Shown.{shown_lines}

-- What is known between two lines: whether the world is made, the world, and which messages wait.
pub record Stage : Type 0 where
  pub begun : Bool
  pub world : State
  pub waits : Waits

-- Before the first line. A world that is not made yet is one with no entries.
abbrev pub first_stage : Stage
first_stage = record { begun = false; world = fresh []; waits = none_sent }

-- the stage in which the world is this one, and whatever it sent is counted
abbrev pub counted : State → Waits → Stage
counted w waits = record { begun = true; world = w; waits = sent_to waits (sent_count w) }

-- a step of the world, whatever it answers, prints this
pub record Acts (s : Stage) (what : Step) (out : List ℕ) (s' : Stage) : Type 0 where
  pub outcome : Result Answer Refused
  pub world : State
  pub steps : Steps s.world what outcome world
  pub prints : out ≡ outcome_lines outcome
  pub leaves : s' ≡ counted world s.waits

-- which messages wait, if this came of the delivery of one: a delivery that is refused leaves
-- it waiting
abbrev pub waits_after : Result Answer Refused → ℕ → Waits → Waits
waits_after (Ok answer) number waits = without waits number
waits_after (Err r) number waits = waits

-- this came of the delivery of a message
pub record Delivers (s : Stage) (number : ℕ) (outcome : Result Answer Refused) (s' : Stage) : Type 0 where
  pub world : State
  pub steps : Steps s.world (step.Deliver number) outcome world
  pub leaves : s' ≡ counted world (waits_after outcome number s.waits)

-- the message of this number is delivered
pub record DeliversThis (s : Stage) (number : ℕ) (out : List ℕ) (s' : Stage) : Type 0 where
  pub outcome : Result Answer Refused
  pub delivers : Delivers s number outcome s'
  pub prints : out ≡ outcome_lines outcome

-- this came of the delivery of the oldest waiting message
pub record DeliversOldest (s : Stage) (outcome : Result Answer Refused) (s' : Stage) : Type 0 where
  pub number : ℕ
  pub waits : slice_get s.waits.waiting 0 ≡ Some number
  pub delivers : Delivers s number outcome s'

-- the oldest waiting message is delivered
abbrev pub TakesOldest : Stage → Stage → Type 0
TakesOldest s s' = (answer : Answer) × DeliversOldest s (Ok answer) s'

-- what becomes of the oldest waiting message
abbrev pub Tries : Stage → Delivery → Stage → Type 0
Tries s delivery.Idle s' = (s.waits.waiting ≡ []) × (s' ≡ s)
Tries s delivery.Delivered s' = TakesOldest s s'
Tries s (delivery.Refused r) s' = DeliversOldest s (Err r) s'

-- n deliveries, one after another
abbrev pub DeliversMany : ℕ → Stage → Stage → Type 0
DeliversMany zero s s' = s' ≡ s
DeliversMany (suc n) s s' = (mid : Stage) × DeliversMany n s mid × TakesOldest mid s'

-- Deliveries, at most so many, end after n: nothing waits; or they were so many and a message
-- waits, of which this is printed; or the next delivery is refused.
abbrev pub Ends : ℕ → List ℕ → ℕ → Stage → List ℕ → Stage → Type 0
Ends most unsettled n s out s' =
    ((s.waits.waiting ≡ []) × (out ≡ []) × (s' ≡ s))
    ⊎ ((n ≡ most) × (s.waits.waiting ≢ []) × (out ≡ unsettled) × (s' ≡ s))
    ⊎ ((n < most) × ((r : Refused) × DeliversOldest s (Err r) s' × (out ≡ refused_line r)))

-- messages are delivered, oldest first, until deliveries end
pub record Settles (most : ℕ) (unsettled : List ℕ) (s : Stage) (out : List ℕ) (s' : Stage) : Type 0 where
  pub count : ℕ
  pub last : Stage
  pub bounded : count ≤ most
  pub delivers : DeliversMany count (record s { begun = true }) last
  pub ends : Ends most unsettled count last out s'

-- the keys from 0 on below n, each with its own number as its value
abbrev pub filled : ℕ → List (ℕ × Value)
filled zero = []
filled (suc n) = filled n ++ (n, to_be_bytes w64 n) ∷ []

-- a world begins with these entries
pub record Begins (s : Stage) (entries : List (ℕ × Value)) (out : List ℕ) (s' : Stage) : Type 0 where
  pub can : CanBegin entries
  pub prints : out ≡ []
  pub leaves : s' ≡ record s { begun = true; world = fresh entries }

-- the entries are refused, and the world has none
pub record BeginsEmpty (s : Stage) (entries : List (ℕ × Value)) (r : Refused) (out : List ℕ) (s' : Stage) : Type 0 where
  pub due : CannotBegin entries r
  pub has_memory : r ≢ refused.OutOfMemory
  pub prints : out ≡ refused_line r
  pub leaves : s' ≡ record s { begun = true; world = fresh [] }

-- A world is made with these entries; if they are refused, it has none.
abbrev pub Seeds : Stage → List (ℕ × Value) → List ℕ → Stage → Type 0
Seeds s entries out s' = Begins s entries out s' ⊎ ((r : Refused) × BeginsEmpty s entries r out s')

-- what is asked for prints this, from one stage to the next
abbrev pub Obeys : Stage → Request → List ℕ → Stage → Type 0
Obeys s request.Nothing out s' = (out ≡ []) × (s' ≡ s)
Obeys s (request.Seed entries) out s' = Seeds s entries out s'
Obeys s (request.Fill n) out s' = Seeds s (filled n) out s'
Obeys s (request.Step step) out s' = Acts s step out s'
Obeys s (request.Deliver number) out s' = DeliversThis s number out s'
Obeys s (request.Next n) out s' = Settles n [] s out s'
Obeys s request.Settle out s' = Settles max_deliveries unsettled_line s out s'
Obeys s request.Drop out s' =
    (out ≡ []) × (s' ≡ record s { begun = true; waits = none_waiting s.waits })
Obeys s (request.Query what) out s' =
    (out ≡ shown_lines s.world what) × (s' ≡ record s { begun = true })
Obeys s request.Modes out s' = (out ≡ modes_lines) × (s' ≡ s)

-- the line of number n asks for something, which prints this
pub record ObeysLine (s : Stage) (n : ℕ) (line out : List ℕ) (s' : Stage) : Type 0 where
  pub request : Request
  pub asks : line_request s.begun n line ≡ Ok request
  pub obeys : Obeys s request out s'

-- the fault that ends a script, with the number of its line, or none
abbrev pub End : Type 0
End = Option (ℕ × SyntaxFault)

-- A line that asks for this prints this, and what Rest prints comes after it. A fault ends the
-- script.
abbrev pub PrintsLine : Result Request SyntaxFault → Stage → ℕ → (Stage → List ℕ → End → Type 0) →
    List ℕ → End → Type 0
PrintsLine (Ok request) s n Rest out end =
    (printed : List ℕ) × (tail : List ℕ) × (s' : Stage)
    × Obeys s request printed s' × Rest s' tail end × (out ≡ printed ++ tail)
PrintsLine (Err what) s n Rest out end = (out ≡ fault_line n what) × (end ≡ Some (n, what))

-- From a stage, these lines, the first of number n, print this, and end in this fault or in none.
abbrev pub Prints : Stage → ℕ → List (List ℕ) → List ℕ → End → Type 0
Prints s n [] out end = (out ≡ []) × (end ≡ None)
Prints s n (line ∷ more) out end =
    PrintsLine (line_request s.begun n line) s n
    (λ s' tail end'. Prints s' (n + 1) more tail end') out end

-- What a script of this text may print, and the fault in which it ends, or none. There may be more
-- than one such output: each step that takes memory may be refused for want of it.
abbrev pub Transcript : List ℕ → List ℕ → End → Type 0
Transcript text out end =
    MatchBool (nat_lt max_text (length text))
    ((out ≡ fault_line 0 TextTooLong) × (end ≡ Some (0, TextTooLong)))
    (Prints first_stage 1 (lines text) out end)
