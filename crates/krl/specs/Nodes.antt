-- What is printed of nodes on threads, and the exit status.
use Rattle.std.specs.Prelude.{◌≡◌, ◌⊎◌, ℕ, List, [], codes, Result, Ok, Err}
use Rattle.std.specs.Io.KnownBytes.{Appends}
use Rattle.krl_nodes_demo.specs.declared.run.NodesReport.{NodesReport}
use Rattle.krl_nodes_demo.specs.declared.run.NotRun.{NotRun}
use Rattle.krl_nodes_demo.specs.declared.run.NotRun.TheVariants as not_run
use Rattle.krl_text.specs.Printing.{rows_line}
use Rattle.krl_text.specs.Transfers.{Known}
use Rattle.krl_script.specs.RandomRuns.{WroteFrontOf}

-- the line: the rows that were read, or that a client gave up; none if they found no memory
abbrev pub nodes_line : Result NodesReport NotRun → List ℕ
nodes_line (Ok report) = rows_line report.rows
nodes_line (Err not_run.GaveUp) = codes "nodes gave up\n"
nodes_line (Err not_run.OutOfMemory) = []

-- 0 if the rows were read, otherwise 1
abbrev pub nodes_status : Result NodesReport NotRun → ℕ
nodes_status (Ok report) = 0
nodes_status (Err why) = 1

-- The line was written, with the status of what came of them; or a front of it was, and the status is 1.
abbrev pub ToldNodes : Known → Known → Result NodesReport NotRun → ℕ → Type 0
ToldNodes before after ended status =
    ((status ≡ nodes_status ended) × Appends before after (nodes_line ended))
    ⊎ ((status ≡ 1) × WroteFrontOf before after (nodes_line ended))
