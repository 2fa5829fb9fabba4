-- What each server keeps, from step to step.
use Rattle.std.specs.Prelude.{◌≡◌, ℕ, ◌≤◌, Some, None, List}
use Rattle.std.specs.FinMap as map
use Rattle.krl_modes.specs.declared.point.TheConstants.{END}
use Rattle.krl_messages.specs.declared.to_server.ToServer.{ToServer}
use Rattle.krl_messages.specs.declared.to_client.ToClient.{ToClient}
use Rattle.krl_durable.specs.Registers.{Durable, HasOutcomes}
use Rattle.krl_table.specs.Sound.{IsTable}
use Rattle.krl_server.specs.Servers.{Server}
use Rattle.krl_server.specs.Cases.{case_of}
use Rattle.krl_server.specs.Effects.{effect}
use Rattle.krl_server.specs.Answering.{Turn, next_turn, answer_first}
use Rattle.krl_server.specs.Steps.{ServerStep, start}
use Rattle.krl_server.specs.Settled.{IsSettled}
use Rattle.krl_server.specs.Soundness.{IsSound}

-- the table and the register are in order
pub record IsOrdered (s : Server) : Type 0 where
  pub table : IsTable s.durable.index s.rows
  pub outcomes : HasOutcomes s.durable.register

-- whatever message comes, also one that nobody sent
pub record ServerKeeps : Type 0 where
  -- after the effect of a message, before anyone is answered
  pub sound_effect : (s : Server) (m : ToServer) → IsSound s → IsSound (effect s m (case_of s m)).server
  pub ordered_effect : (s : Server) (m : ToServer) → IsSound s → IsOrdered s →
      IsOrdered (effect s m (case_of s m)).server
  -- after an answer to a first waiter, which changes nothing durable
  pub sound_turn : (s : Server) (t : Turn) → next_turn s ≡ Some t → IsSound s → IsSound (answer_first s t).server
  pub ordered_turn : (s : Server) (t : Turn) → next_turn s ≡ Some t → IsOrdered s → IsOrdered (answer_first s t).server
  pub turn_durable : (s : Server) (t : Turn) → (answer_first s t).server.durable ≡ s.durable
  -- after a message
  pub sound_step : (s t : Server) (m : ToServer) (outs : List ToClient) → IsSound s → ServerStep s m t outs → IsSound t
  pub ordered_step : (s t : Server) (m : ToServer) (outs : List ToClient) → IsSound s → IsOrdered s →
      ServerStep s m t outs → IsOrdered t
  pub settled_step : (s t : Server) (m : ToServer) (outs : List ToClient) → IsSettled s → ServerStep s m t outs →
      IsSettled t
  pub step_durable : (s t : Server) (m : ToServer) (outs : List ToClient) → ServerStep s m t outs →
      t.durable ≡ (effect s m (case_of s m)).server.durable
  -- after a start
  pub sound_start : (d : Durable) → ((q : ℕ) → END ≤ q → map.get d.index q ≡ None) → IsSound (start d)
  pub ordered_start : (d : Durable) → HasOutcomes d.register → IsOrdered (start d) × IsSettled (start d)
