-- Runs that come to where something happens, so that what holds of all runs is not vacuous.
use Rattle.std.specs.Prelude.{◌≡◌, ◌≤◌, ℕ, true, [], ◌∷◌, None, Ok}
use Rattle.std.specs.FinMap as map
use Rattle.krl_modes.specs.declared.mode.Mode.TheVariants as mode
use Rattle.krl_messages.specs.declared.holding.Holding.{Holding}
use Rattle.krl_messages.specs.declared.outcome.Outcome.{Outcome}
use Rattle.krl_messages.specs.declared.outcome.Outcome.TheVariants as outcome
use Rattle.krl_messages.specs.declared.write_op.WriteOp.TheVariants as write
use Rattle.krl_messages.specs.declared.to_client.ToClientBody.TheVariants as told
use Rattle.krl_messages.specs.declared.to_client.PushBody.TheVariants as push
use Rattle.krl_messages.specs.declared.to_server.ToServerBody.TheVariants as said
use Rattle.krl_messages.specs.declared.pieces.Pieces.{Pieces}
use Rattle.krl_messages.specs.Members.{In}
use Rattle.krl_durable.specs.Registers.{Durable}
use Rattle.krl_world.specs.declared.message.Message.{Message}
use Rattle.krl_world.specs.declared.message.Message.TheVariants as message
use Rattle.krl_steps.specs.declared.step.Step.TheVariants as step
use Rattle.krl_steps.specs.declared.step.Command.TheVariants as command
use Rattle.krl_steps.specs.declared.answer.Answer.TheVariants as answered
use Rattle.krl_world.specs.States.{State, Down, durable_of, index_of}
use Rattle.krl_world.specs.Shown.{is_serving}
use Rattle.krl_world.specs.Steps.{span, Steps, IsReachable}

-- a scan from a cache gives an entry
abbrev pub ScansSomewhere : Type 0
ScansSomewhere =
    (w : State) × IsReachable w
    × Steps w (step.Command 0 (command.Scan 0 11)) (Ok (answered.Rows ((10, 1 ∷ []) ∷ []))) w

-- a scan from a cache gives an entry while no server runs
abbrev pub ScansWhileDown : Type 0
ScansWhileDown =
    (w : State) × (d : Durable) × IsReachable w × (w.server ≡ Down d)
    × Steps w (step.Command 0 (command.Scan 0 11)) (Ok (answered.Rows ((10, 1 ∷ []) ∷ []))) w

-- the push of this epoch and number that reports to the client the outcome of its write
abbrev pub answer_message : ℕ → ℕ → ℕ → ℕ → ℕ → Outcome → Holding → Message
answer_message c incarnation epoch push_number number o h =
    message.ToClient (record {
      client = c;
      incarnation = incarnation;
      body = told.Push epoch push_number (push.Answer number o h);
    })

-- a client received Applied for its insert, and it stands in the list of writes
abbrev pub WritesSomewhere : Type 0
WritesSomewhere = (w : State) × (h : Holding) × IsReachable w × In (answer_message 0 1 1 2 1 outcome.Applied h) w.sent
    × (w.writes ≡ record { client = 0; incarnation = 1; number = 1; op = write.Insert 15 (5 ∷ []) } ∷ [])

-- one run through all this: a client that read a gap was called back; the server crashed, started again and serves with
-- what both its clients reported; and the client that became the gap's only holder deleted the key there, and received
-- Applied
pub record HasComeThrough (w : State) : Type 0 where
  pub reached : IsReachable w
  pub called_back : In (message.ToClient (record {
    client = 0;
    incarnation = 1;
    body = told.Callback 1 (span 0 11) mode.N;
  })) w.sent
  pub epoch : (durable_of w.server).epoch ≡ 2
  pub reports : (c : ℕ) → c ≤ 1 → (pieces : Pieces) × In (message.ToServer (record {
    client = c;
    incarnation = 1;
    body = said.Report 2 pieces;
  })) w.sent
  pub serves : is_serving w.server ≡ true
  pub told : (h : Holding) × In (answer_message 1 1 2 2 1 outcome.Applied h) w.sent
  pub listed : w.writes ≡ record { client = 1; incarnation = 1; number = 1; op = write.Delete 10 } ∷ []
  pub gone : map.get (index_of w) 10 ≡ None

abbrev pub ComesThroughSomewhere : Type 0
ComesThroughSomewhere = (w : State) × HasComeThrough w
