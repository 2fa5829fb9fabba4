-- Each step of a server has one outcome, and it sends few messages.
use Rattle.std.specs.Prelude.{◌≡◌, ℕ, ◌+◌, ◌≤◌, false, List, [], ◌∷◌, length}
use Rattle.krl_messages.specs.declared.to_server.ToServer.{ToServer}
use Rattle.krl_messages.specs.declared.to_client.ToClient.{ToClient}
use Rattle.krl_durable.specs.Index.{slots}
use Rattle.krl_table.specs.Rows.{Rows}
use Rattle.krl_table.specs.Sound.{IsTable}
use Rattle.krl_server.specs.Servers.{Server, is_recovering}
use Rattle.krl_server.specs.Answering.{AnswersWaiters}
use Rattle.krl_server.specs.Steps.{ServerStep, nudge}
use Rattle.krl_server.specs.Settled.{IsSettled}
use Rattle.krl_server.specs.Soundness.{IsSound}

-- how many wait on these slots
abbrev pub waiting_on : Rows → List ℕ → ℕ
waiting_on rows [] = 0
waiting_on rows (n ∷ ns) = length (rows n).queue + waiting_on rows ns

-- how many wait
abbrev pub waiting : Server → ℕ
waiting s = waiting_on s.rows (slots s.durable.index)

-- the most messages of a step or nudge
unfoldable pub max_messages : ℕ
max_messages = 4097

pub record StepsEnd : Type 0 where
  -- each message has an outcome, and only one
  pub some : (s : Server) (m : ToServer) → (t : Server) × (outs : List ToClient) × ServerStep s m t outs
  pub one : (s t u : Server) (m : ToServer) (outs others : List ToClient) → ServerStep s m t outs →
      ServerStep s m u others → (t ≡ u) × (outs ≡ others)
  -- each answer is to a client that no longer waits
  pub answers : (s t : Server) (outs : List ToClient) → AnswersWaiters s t outs → waiting t + length outs ≤ waiting s
  pub few : (s t : Server) (m : ToServer) (outs : List ToClient) → IsSound s → IsTable s.durable.index s.rows →
      ServerStep s m t outs → length outs ≤ max_messages
  -- while a settled server serves, there is nobody to answer: so a nudge answers nobody
  pub nobody_left : (s : Server) → IsSettled s → is_recovering s.missing ≡ false → AnswersWaiters s s []
  pub few_nudged : (s : Server) (c : ℕ) → IsSound s → IsTable s.durable.index s.rows →
      length (nudge s c) ≤ max_messages
