-- Good rounds after a random run, and what is written of them.
use Rattle.std.specs.Prelude.{◌≡◌, ℕ, suc, ◌+◌, ◌-◌, ◌≤◌, Bool, true, false, List, [], ◌∷◌, ◌++◌, map, length, codes, Option, None, Some, Result, Ok, Err}
use Rattle.std.specs.List.{flat_map, list_all}
use Rattle.std.specs.Fmt.{decimal}
use Rattle.krl_client.specs.declared.status.LockStatus.{LockStatus}
use Rattle.krl_client.specs.declared.status.LockStatus.TheVariants as lock
use Rattle.krl_client.specs.declared.status.WriteStatus.{WriteStatus}
use Rattle.krl_client.specs.declared.status.WriteStatus.TheVariants as written
use Rattle.krl_client.specs.Clients.{Client}
use Rattle.krl_client.specs.Shown.{status_of}
use Rattle.krl_steps.specs.declared.step.Step.{Step}
use Rattle.krl_steps.specs.declared.step.Step.TheVariants as step
use Rattle.krl_steps.specs.declared.answer.Answer.{Answer}
use Rattle.krl_steps.specs.declared.refused.Refused.{Refused}
use Rattle.krl_steps.specs.declared.refused.Refused.TheVariants as refused
use Rattle.krl_world.specs.States.{State, client_of}
use Rattle.krl_world.specs.Steps.{RunsWith, IsReachable}
use Rattle.krl_world.specs.Promises.{IsCompatible}
use Rattle.krl_text.specs.Printing.{line_of}
use Rattle.krl_text.specs.Transfers.{Known}
use Rattle.krl_text.specs.declared.fault.ScriptFault.{ScriptFault}
use Rattle.krl_script.specs.declared.rest.Rest.{Rest}
use Rattle.krl_script.specs.declared.rest.Rest.TheVariants as rest
use Rattle.krl_script.specs.declared.rest.Awaited.{Awaited}
use Rattle.krl_script.specs.declared.rest.Awaited.TheVariants as awaited
use Rattle.krl_script.specs.RandomRuns.{WroteLineOf}
use Rattle.krl_script.specs.Soundness.{all_below, numbers_below}

-- a step of a good round: nobody crashes or leaves, and nobody asks for more
abbrev pub is_of_round : Step → Bool
is_of_round (step.Deliver i) = true
is_of_round (step.Tick c) = true
is_of_round (step.StartClient c) = true
is_of_round step.StartServer = true
is_of_round other = false

-- such steps are taken or refused, one after another
pub record GoesByRounds (w w' : State) : Type 0 where
  pub steps : List Step
  pub outcomes : List (Result Answer Refused)
  pub all : list_all is_of_round steps ≡ true
  pub runs : RunsWith w steps outcomes w'

--- Rounds

-- it is no refusal for want of memory
abbrev pub had_memory : Result Answer Refused → Bool
had_memory (Err refused.OutOfMemory) = false
had_memory other = true

-- these steps, one after another, lead from a world to another one, and none of them lacked memory
pub record Leads (w : State) (steps : List Step) (w' : State) : Type 0 where
  pub outcomes : List (Result Answer Refused)
  pub runs : RunsWith w steps outcomes w'
  pub had : list_all had_memory outcomes ≡ true

-- the server starts, and the clients below n
abbrev pub starts_below : ℕ → List Step
starts_below n = step.StartServer ∷ map step.StartClient (numbers_below n)

-- the clients below n tick
abbrev pub ticks_below : ℕ → List Step
ticks_below n = map step.Tick (numbers_below n)

-- the n messages after the first `past` are delivered
abbrev pub deliveries : ℕ → ℕ → List Step
deliveries past n = map (λ i. step.Deliver (past + i + 1)) (numbers_below n)

-- A good round of the clients 0 to 3: each ticks, and what was sent in the round before is delivered. That is all after
-- the first `past` messages.
abbrev pub IsRound : ℕ → State → State → Type 0
IsRound past w w' = Leads w (ticks_below 4 ++ deliveries past (length w.sent - past)) w'

-- So many good rounds lead from a world to another one. The first of them delivers all after the first so many
-- messages, and the next one would deliver all after the first so many more.
pub data Rounds (start : State) (first : ℕ) : ℕ → ℕ → State → Type 0 where
  begun : Rounds start first 0 first start
  went : (n past : ℕ) (w w' : State) → Rounds start first n past w → IsRound past w w' →
      Rounds start first (suc n) (length w.sent) w'

-- how many rounds were made, if they ended so
abbrev pub rounds_of : Rest → ℕ
rounds_of (rest.Reached n) = n
rounds_of rest.Missed = 1172
rounds_of (rest.Unsound n) = n

-- as many rounds as the ending reports, and not more than 1172, lead here
abbrev pub GoesRound : ℕ → State → State → Rest → Type 0
GoesRound past w w' r = (rounds_of r ≤ 1172) × (next : ℕ) × Rounds w past (rounds_of r) next w'

-- first what does not run is started
abbrev pub StartsAndGoesRound : State → State → Rest → Type 0
StartsAndGoesRound w w' r = (v : State) × Leads w (starts_below 4) v × GoesRound (length w.sent) v w' r

-- what the clients hold goes together, and some run leads here
abbrev pub IsWhole : State → Type 0
IsWhole w = IsCompatible w × IsReachable w

-- what is not answered yet
abbrev pub awaited_by : LockStatus → WriteStatus → Awaited
awaited_by lock.Waiting (written.Waiting n) = awaited.Both
awaited_by lock.Waiting other = awaited.Lock
awaited_by other (written.Waiting n) = awaited.Write
awaited_by other more = awaited.Nothing

-- what the client waits for
abbrev pub awaited_of : Option Client → Awaited
awaited_of None = awaited.Nothing
awaited_of (Some k) = let s = status_of k in awaited_by s.lock s.write

abbrev pub is_nothing : Awaited → Bool
is_nothing awaited.Nothing = true
is_nothing other = false

-- none of the clients 0 to 3 waits
abbrev pub nobody_waits : State → Bool
nobody_waits w = all_below 4 (λ c. is_nothing (awaited_of (client_of w c)))

-- How the rounds ended: in this world nobody waits, or somebody does; they never end unsound. That they end with nobody
-- waiting is not stated here: krl_progress has the laws from which the greatest number of rounds is taken. Of 11 rounds
-- writes_outlast_recoveries states that they answer each write, if the server runs, and each client whose report it
-- misses. Of 1161 more locks_are_answered states that they answer each lock request, if nobody pins, and each client
-- that holds something or waits runs in the server's epoch.
abbrev pub EndsAs : State → Rest → Type 0
EndsAs w (rest.Reached n) = nobody_waits w ≡ true
EndsAs w rest.Missed = nobody_waits w ≡ false
EndsAs w (rest.Unsound n) = ⊥

-- what a line reports of a client that waits
abbrev pub awaited_text : ℕ → Awaited → List ℕ
awaited_text c awaited.Nothing = []
awaited_text c awaited.Lock = codes "; client " ++ (decimal c ++ codes " waits for its lock")
awaited_text c awaited.Write = codes "; client " ++ (decimal c ++ codes " waits for its write")
awaited_text c awaited.Both =
    codes "; client " ++ (decimal c ++ codes " waits for its lock and its write")

abbrev pub waiter_text : State → ℕ → List ℕ
waiter_text w c = awaited_text c (awaited_of (client_of w c))

-- the line of the rounds
abbrev pub rest_line : State → Rest → List ℕ
rest_line w (rest.Reached n) = codes "rest after " ++ (decimal n ++ line_of (codes " rounds"))
rest_line w rest.Missed =
    line_of (codes "no rest after 1172 rounds" ++ flat_map (waiter_text w) (0 ∷ 1 ∷ 2 ∷ 3 ∷ []))
rest_line w (rest.Unsound n) = codes "unsound after " ++ (decimal n ++ line_of (codes " rounds"))

-- the line of this ending
abbrev pub IsEnding : Result Rest ScriptFault → Rest → Type 0
IsEnding (Ok told) r = told ≡ r
IsEnding (Err fault) r = Unit {0}

-- the line of how the rounds ended was written, or how far the writer got
abbrev pub WroteRest : Known → Known → State → Result Rest ScriptFault → Type 0
WroteRest before after w ended =
    (r : Rest) × IsEnding ended r × WroteLineOf before after (rest_line w r) ended
