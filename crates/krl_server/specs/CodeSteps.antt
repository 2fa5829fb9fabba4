-- What a step's parts do: a case is performed, first waiters are answered, and there is room for what is sent.
use Rattle.std.specs.Prelude.{◌≡◌, ℕ, zero, suc, ◌+◌, ◌*◌, ◌≤◌, ◌<◌, Bool, true, false, not, ◌||◌, nat_eq, List, [], ◌∷◌, ◌++◌, length, Option, Some, None, if◌then◌else◌}
use Rattle.krl_messages.specs.declared.to_client.ToClient.{ToClient}
use Rattle.krl_messages.specs.declared.to_server.ToServer.{ToServer}
use Rattle.krl_table.specs.declared.first.FirstWaiter.{FirstWaiter}
use Rattle.krl_table.specs.Kept.{mode_of}
use Rattle.krl_table.specs.Rows.{mode_at, waits}
use Rattle.krl_table.specs.Waiters.{front_of, NobodyWaits}
use Rattle.krl_server.specs.declared.case.Case.{Case as Found}
use Rattle.krl_server.specs.declared.case.Case.TheVariants as found
use Rattle.krl_server.specs.declared.out.ServerOut.{ServerOut}
use Rattle.krl_durable.specs.declared.record.Record.{Record}
use Rattle.krl_durable.specs.Registers.{Durable}
use Rattle.krl_server.specs.declared.start_refused.NotStarted.{NotStarted}
use Rattle.krl_server.specs.declared.start_refused.ServerNotStarted.{ServerNotStarted}
use Rattle.krl_server.specs.declared.start_refused.ServerNotStarted.TheVariants as not_started
use Rattle.krl_server.specs.declared.state.State.{State}
use Rattle.krl_server.specs.declared.case.After.{After}
use Rattle.krl_server.specs.Afters.{does_answer, does_call}
use Rattle.krl_server.specs.Termination.{waiting}
use Rattle.krl_server.specs.Servers.{Server, is_recovering}
use Rattle.krl_server.specs.StateMeaning.{meaning}
use Rattle.krl_server.specs.FoundCases.{IsFormed, after_of}
use Rattle.krl_server.specs.Outboxes.{Sent, Sends}
use Rattle.krl_server.specs.Cases.{case_of}
use Rattle.krl_modes.specs.declared.mode.Mode.{Mode}
use Rattle.krl_modes.specs.Modes.{compatible, cap}
use Rattle.krl_modes.specs.Spans.{Bounds}
use Rattle.krl_modes.specs.declared.limits.TheConstants.{MAX_CLIENTS}
use Rattle.krl_modes.specs.Constants.{max_clients}
use Rattle.krl_durable.specs.Index.{span_of, is_slot}
use Rattle.krl_table.specs.Calls.{wanted}
use Rattle.krl_server.specs.Effects.{callback_to, effect}
use Rattle.krl_server.specs.Changes.{change_of}
use Rattle.krl_server.specs.Answering.{Turn, answer_first, AnswersWaiters, turn_at}
use Rattle.krl_queue.specs.declared.waiter.Waiter.{Waiter}
use Rattle.krl_server.specs.Callbacks.{is_compatible, callbacks_for, callbacks, callbacks_of}
use Rattle.krl_server.specs.Steps.{ServerStep, alarms, start, can_start}
use Rattle.krl_server.specs.Settled.{IsSettled}
use Rattle.krl_server.specs.Soundness.{IsSound}
use Rattle.krl_server.specs.Invariant.{IsOrdered}
use Rattle.krl_server.specs.Ranges.{IsWithin, AreRegistered}

-- the turn of the slot's first waiter, if it can be answered
abbrev pub turn_here : Server → ℕ → Option Turn
turn_here s n = turn_at s n (s.rows n).queue None

-- the first waiter of slot n was answered by this message
pub record HasTurned (s t : Server) (n : ℕ) (o : ToClient) : Type 0 where
  pub turn : Turn
  pub here : turn_here s n ≡ Some turn
  pub server : t ≡ (answer_first s turn).server
  pub out : (answer_first s turn).outs ≡ o ∷ []

-- the first waiter of slot n was answered, and the answer was sent after all other messages
pub record HasAnsweredFirst (s t : Server) (n : ℕ) (old new : Sent) : Type 0 where
  pub out : ToClient
  pub turned : HasTurned s t n out
  pub sends : Sends old new (out ∷ [])

-- the client is registered and has not left
abbrev pub is_registered : Option Record → Bool
is_registered None = false
is_registered (Some r) = not r.left

-- the callbacks for the slot's first waiter, if that is the client's
abbrev pub calls_at_first : Server → ℕ → ℕ → List ToClient
calls_at_first s n c = callbacks_of c s n (s.rows n).queue

-- first waiters are answered until none can be, and the answers are sent
pub record HasAnswered (s t : Server) (old new : Sent) : Type 0 where
  pub outs : List ToClient
  pub answered : AnswersWaiters s t outs
  pub sends : Sends old new outs

-- the callback to the client d for this span, if what d holds there blocks the waiter u, which wants the mode g
abbrev pub call_if : Server → Waiter → Mode → Bounds → ℕ → Mode → List ToClient
call_if s u g span d held =
    if nat_eq d u.client || compatible g held then [] else callback_to s d span (cap g) ∷ []

-- the callback to the client d for the waiter u of the slot n, if d blocks it
abbrev pub callback_if : Server → ℕ → Waiter → ℕ → List ToClient
callback_if s n u d =
    if is_compatible s n u d then [] else callback_to s d (span_of s.durable.index n) (cap (wanted (s.rows n) u)) ∷ []

-- f is what the table shows of the first waiter of slot n
pub record IsFirst (s : Server) (n : ℕ) (f : FirstWaiter) : Type 0 where
  pub waiter : front_of (s.rows n).queue ≡ Some f.waiter
  pub client : f.waiter.client < MAX_CLIENTS
  pub span : f.span ≡ span_of s.durable.index n
  pub modes : (c : ℕ) → mode_of f.modes c ≡ mode_at s.rows n c

-- the callbacks for a slot's first waiter, if there is one
abbrev pub calls_of_first : Server → Option (ℕ × FirstWaiter) → List ToClient
calls_of_first s None = []
calls_of_first s (Some w) = callbacks_for s w.0 w.1.waiter

-- these are slots from this point on, in ascending order, and at the others nobody waits
abbrev pub HaveWaiters : Server → ℕ → List ℕ → Type 0
HaveWaiters s from [] = (k : ℕ) → from ≤ k → (s.rows k).queue ≡ []
HaveWaiters s from (n ∷ ns) =
    (from ≤ n) × (is_slot s.durable.index n ≡ true) × NobodyWaits s.rows from n × HaveWaiters s (suc n) ns

-- the message's case was done, before any waiter is answered; these are its own messages
pub record IsPerformed (s : Server) (m : ToServer) (t : Server) (left : After) (outs : List ToClient) : Type 0 where
  pub server : t ≡ (effect s m (case_of s m)).server
  pub outs_are : outs ≡ (effect s m (case_of s m)).outs
  pub after : left ≡ after_of (case_of s m)

-- and they are sent
pub record HasPerformed (s : Server) (m : ToServer) (t : Server) (left : After) (old new : Sent) : Type 0 where
  pub outs : List ToClient
  pub performed : IsPerformed s m t left outs
  pub sends : Sends old new outs

-- the callbacks that are left to be sent
abbrev pub calls_after : After → Server → List ToClient
calls_after left t = if does_call left then callbacks t else []

-- what is left to be done makes t of the server s, and sends these
pub data Finished (s : Server) (left : After) : Server → List ToClient → Type 0 where
  rests : does_answer left ≡ false → Finished s left s []
  still_recovering : is_recovering s.missing ≡ true → Finished s left s []
  served : (t : Server) (answers : List ToClient) → does_answer left ≡ true → is_recovering s.missing ≡ false →
      AnswersWaiters s t answers → Finished s left t (answers ++ calls_after left t)

pub record HasFinished (s : Server) (left : After) (t : Server) (old new : Sent) : Type 0 where
  pub outs : List ToClient
  pub finished : Finished s left t outs
  pub sends : Sends old new outs

-- there is room for what is left to be sent
pub record HasRoom (s : Server) (left : After) (box : Sent) : Type 0 where
  pub answers : does_answer left ≡ true → length box.sent + waiting s ≤ box.room
  pub calls : does_call left ≡ true → length box.sent + MAX_CLIENTS * waiting s ≤ box.room

-- the client whose report contradicts what the server knows
abbrev pub alarm_of : Server → ToServer → Option ℕ
alarm_of s m = if alarms s m then Some m.client else None

-- the message was taken: the server s became t, and this was sent and reported
pub record HasStepped (s : Server) (m : ToServer) (t : Server) (out : ServerOut) : Type 0 where
  pub step : ServerStep s m t out.messages
  pub alarm : out.alarm ≡ alarm_of s m
  pub change : out.change ≡ change_of m (case_of s m)

-- how many of the numbers below n pass the test
abbrev pub count_below : ℕ → (ℕ → Bool) → ℕ
count_below zero f = 0
count_below (suc n) f = (if f n then 1 else 0) + count_below n f

-- how many clients wait
abbrev pub waiting_clients : Server → ℕ
waiting_clients s = count_below max_clients (waits s.durable.index s.rows)

-- how many messages a case sends itself, at the most
abbrev pub own_of : Found → ℕ
own_of found.Ignored = 0
own_of found.Registers = 1
own_of found.Leaves = 0
own_of found.Tells = 1
own_of found.Reports = 0
own_of found.Repeats = 1
own_of found.Acknowledges = 0
own_of (found.Lowers span keep) = 0
own_of (found.Waits req point hi g) = 0
own_of (found.Judges number op) = 1
own_of (found.SeizesLock number op) = 1
own_of (found.AnswersAgain number op o) = 1

-- how many messages a step can send, if so many clients wait
abbrev pub room_for : ℕ → Found → ℕ
room_for n found.Ignored = 0
room_for n found.Registers = 1 + MAX_CLIENTS * n
room_for n found.Leaves = MAX_CLIENTS * n
room_for n found.Tells = 1
room_for n found.Reports = MAX_CLIENTS * n
room_for n found.Repeats = 1
room_for n found.Acknowledges = MAX_CLIENTS * n
room_for n (found.Lowers span keep) = n
room_for n (found.Waits req point hi g) = MAX_CLIENTS * (n + 1)
room_for n (found.Judges number op) = 1 + MAX_CLIENTS * n
room_for n (found.SeizesLock number op) = 1 + MAX_CLIENTS * n
room_for n (found.AnswersAgain number op o) = 1 + MAX_CLIENTS * n

-- What holds of the state of every server between two steps
pub record IsServer (st : State) : Type 0 where
  pub formed : IsFormed st
  pub sound : IsSound (meaning st)
  pub ordered : IsOrdered (meaning st)
  pub settled : IsSettled (meaning st)
  pub within : IsWithin (meaning st)
  pub here : AreRegistered (meaning st)

-- Starts

-- why a start is refused: there is no epoch for it; or there is one, and memory was not there
abbrev pub IsReason : Durable → ServerNotStarted → Type 0
IsReason d not_started.Spent = can_start d ≡ false
IsReason d not_started.OutOfMemory = can_start d ≡ true

-- a start that was refused gives back what it would have started on
pub record IsNotStarted (d : Durable) (e : NotStarted) : Type 0 where
  pub durable : e.durable ≡ d
  pub reason : IsReason d e.refused

pub record IsStarted (d : Durable) (s : Server) : Type 0 where
  pub epoch : can_start d ≡ true
  pub server : s ≡ start d
