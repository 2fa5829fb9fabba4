-- Scans over several servers.
use Rattle.std.proofs.Common.{◌≡◌, ℕ, ◌≤◌, ◌∙◌, List, [], ◌∷◌, ◌++◌, sym, ap, arith}
use Rattle.krl_durable.specs.Index.{Index, range}
use Rattle.krl_world.specs.States.{index_of}
use Rattle.krl_shards.specs.declared.part.Part.{Part}
use Rattle.krl_shards.specs.Parts.{Follow}
use Rattle.krl_shards.proofs.Parts.{follow_up}
use Rattle.krl_world_laws.specs.Systems.{System, worlds, hosts, fenced_hosts}
use Rattle.krl_world_laws.specs.Readers.{Rows}
use Rattle.krl_world_laws.specs.Shards.Scans.{Moment, views, AreReached, IsTogether, AnswerAll, AnswerMeanwhile, ScanOfAll, ScanMeanwhile}
use Rattle.krl_world_laws.proofs.Systems.{Follows, worlds_follow, hosts_follow, fenced_hosts_follow}
use Rattle.krl_world_laws.proofs.Readers.{answers_still, rows_are}
use Rattle.krl_world_laws.proofs.Shards.Ranges.{range_split, range_empty, range_alike}

-- each part's rows are that range of its shard's index; they stand one after another
abbrev pub AreRanges : Moment → List Part → Rows → Type 0
AreRanges w [] rows = rows ≡ []
AreRanges w (p ∷ ps) rows =
    (some : Rows) × (rest : Rows) × (some ≡ range (index_of (w p.shard)) p.lo p.hi) × AreRanges w ps rest × (rows ≡ some ++ rest)

-- so all are that range of the indexes together
pub ranges_together : (bounds : List ℕ) (w : Moment) (m : Index) (lo hi : ℕ) (parts : List Part) (rows : Rows) → IsTogether bounds w m → Follow bounds hi lo hi parts → AreRanges w parts rows → rows ≡ range m lo hi
ranges_together bounds w m lo hi [] rows together f are = are ∙ sym (range_empty m lo hi (omega arith))
ranges_together bounds w m lo hi (p ∷ ps) rows together f are =
    let b = f.0.begins in let e = f.0.ends in let whole = f.0.whole in let l = f.0.shard.lies in
    let some = are.0 in
    let rest = are.1 in
    let up : p.hi ≤ hi = follow_up bounds hi p.hi hi ps f.1 in
    let alike : range m lo p.hi ≡ range (index_of (w p.shard)) lo p.hi =
    range_alike m (index_of (w p.shard)) lo p.hi (λ k from to. together p.shard k f.0.shard.there (omega arith, omega arith)) in
    let first : some ≡ range m lo p.hi = are.2 ∙ ap (λ n. range (index_of (w p.shard)) n p.hi) b ∙ sym alike in
    let others : rest ≡ range m p.hi hi = ranges_together bounds w m p.hi hi ps rest together f.1 are.3 in
    are.4 ∙ ap (λ (xs : Rows). xs ++ rest) first ∙ ap (λ (xs : Rows). range m lo p.hi ++ xs) others
    ∙ sym (range_split m lo p.hi hi (omega arith) up)

-- a client that is the same answers the same
answer_all : (w : Moment) (c : ℕ → ℕ) (ps : List Part) (rows : Rows) → AnswerMeanwhile w c ps rows → AnswerAll w c ps rows
answer_all w c [] rows e = e
answer_all w c (p ∷ ps) rows a = (a.1, a.2, answers_still a.0 (w p.shard) (c p.shard) p.lo p.hi a.1 a.3 a.4, answer_all w c ps a.2 a.5, a.6)

module _ (s : System) (f : Follows s) where
  answer_ranges : (bounds : List ℕ) (x : ℕ → s.World) (c : ℕ → ℕ) (lo hi : ℕ) (parts : List Part) (rows : Rows) → AreReached s bounds x → Follow bounds hi lo hi parts → AnswerAll (views s x) c parts rows → AreRanges (views s x) parts rows
  answer_ranges bounds x c lo hi [] rows reach follow answer = answer
  answer_ranges bounds x c lo hi (p ∷ ps) rows reach follow answer = (
    answer.0,
    answer.1,
    rows_are (s.view (x p.shard)) (c p.shard) p.lo p.hi answer.0 (f.holds (x p.shard) (reach p.shard follow.0.shard.there)) answer.2,
    answer_ranges bounds x c p.hi hi ps answer.1 reach follow.1 answer.3,
    answer.4,
  )

  pub of_all : ScanOfAll s
  of_all bounds x c m lo hi parts rows reach together follow answer =
      ranges_together bounds (views s x) m lo hi parts rows together follow (answer_ranges bounds x c lo hi parts rows reach follow answer)

  pub meanwhile : ScanMeanwhile s
  meanwhile bounds x c m lo hi parts rows reach together follow answer =
      of_all bounds x c m lo hi parts rows reach together follow (answer_all (views s x) c parts rows answer)

pub all_of_worlds : ScanOfAll worlds
all_of_worlds = of_all worlds worlds_follow

pub all_of_hosts : ScanOfAll hosts
all_of_hosts = of_all hosts hosts_follow

pub all_of_fenced_hosts : ScanOfAll fenced_hosts
all_of_fenced_hosts = of_all fenced_hosts fenced_hosts_follow

pub meanwhile_of_worlds : ScanMeanwhile worlds
meanwhile_of_worlds = meanwhile worlds worlds_follow

pub meanwhile_of_hosts : ScanMeanwhile hosts
meanwhile_of_hosts = meanwhile hosts hosts_follow

pub meanwhile_of_fenced_hosts : ScanMeanwhile fenced_hosts
meanwhile_of_fenced_hosts = meanwhile fenced_hosts fenced_hosts_follow
