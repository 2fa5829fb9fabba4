-- The rows of a scan that lasts are the index's at each of its moments.
use Rattle.std.proofs.Common.{◌≡◌, ℕ, ◌∙◌, refl, sym, ap}
use Rattle.krl_durable.specs.Index.{range}
use Rattle.krl_steps.specs.Refusals.{refused_by_client}
use Rattle.krl_steps.specs.declared.step.Command.TheVariants as command
use Rattle.krl_world.specs.Promises.{Headline}
use Rattle.krl_world.specs.States.{State, client_of, index_of}
use Rattle.krl_world.specs.Steps.{Steps, of_client, if_runs, named, command_refusal}
use Rattle.krl_world_laws.specs.Systems.{System, worlds, hosts, fenced_hosts}
use Rattle.krl_world_laws.specs.Readers.{Rows, AnswersScan, IsStill, Lasts, begins, goes_on, ScansLast}
use Rattle.krl_world_laws.proofs.Systems.{Follows, worlds_follow, hosts_follow, fenced_hosts_follow}

-- a scan reads its client, and nothing else of the world
pub answers_still : (v w : State) (c lo hi : ℕ) (rows : Rows) → IsStill v w c → AnswersScan v c lo hi rows → AnswersScan w c lo hi rows
unfolding Steps
answers_still v w c lo hi rows still a = (
  ap (λ o. of_client c (if_runs o (λ k. named refused_by_client (command_refusal k (command.Scan lo hi))))) (sym still) ∙ a.0,
  (a.1.0, sym still ∙ a.1.1, (a.1.2.0, refl)),
)

-- its rows are that range of the index
pub rows_are : (w : State) (c lo hi : ℕ) (rows : Rows) → Headline w → AnswersScan w c lo hi rows → rows ≡ range (index_of w) lo hi
unfolding Steps
rows_are w c lo hi rows h a = h.scans c lo hi rows w a

module _ (s : System) (f : Follows s) where
  lasts : (v : s.World) (c lo hi : ℕ) (rows : Rows) (w : s.World) → s.IsReached v → AnswersScan (s.view v) c lo hi rows → Lasts s c v w → s.IsReached w × AnswersScan (s.view w) c lo hi rows
  lasts v c lo hi rows w r a begins = (r, a)
  lasts v c lo hi rows w r a (goes_on u x l m still) =
      let before = lasts v c lo hi rows u r a l in
      (f.moves u w before.0 m, answers_still (s.view u) (s.view w) c lo hi rows still before.1)

  last : ScansLast s
  last v w c lo hi rows r a l =
      let end = lasts v c lo hi rows w r a l in
      rows_are (s.view w) c lo hi rows (f.holds w end.0) end.1

pub scans_of_worlds : ScansLast worlds
scans_of_worlds = last worlds worlds_follow

pub scans_of_hosts : ScansLast hosts
scans_of_hosts = last hosts hosts_follow

pub scans_of_fenced_hosts : ScansLast fenced_hosts
scans_of_fenced_hosts = last fenced_hosts fenced_hosts_follow
