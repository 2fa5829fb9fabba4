-- What a host has if it keeps what the steps of its server report.
use Rattle.std.specs.Prelude.{◌≡◌, ℕ, List, [], ◌∷◌, take, Option, Some, None, ◌==◌, if◌then◌else◌}
use Rattle.krl_messages.specs.declared.outcome.Outcome.{Outcome}
use Rattle.krl_messages.specs.declared.write_op.WriteOp.{WriteOp}
use Rattle.krl_messages.specs.declared.write_op.WriteOp.TheVariants as write
use Rattle.krl_durable.specs.declared.change.Change.{Change}
use Rattle.krl_durable.specs.declared.change.Change.TheVariants as change
use Rattle.krl_durable.specs.Changes.{changed_by}
use Rattle.krl_durable.specs.declared.limits.Limits.{Limits}
use Rattle.krl_durable.specs.Registers.{Durable}
use Rattle.krl_server.specs.declared.state.State.{State}
use Rattle.krl_server.specs.StateMeaning.{meaning}
use Rattle.krl_server.specs.Steps.{start}
use Rattle.krl_server.specs.Replays.{raised}
use Rattle.krl_embed.specs.declared.changes.ChangeRow.{ChangeRow}
use Rattle.krl_embed.specs.declared.records.RecordRow.{RecordRow}
use Rattle.krl_embed.specs.declared.rows.Row.{Row}
use Rattle.krl_embed.specs.declared.server_calls.Stepped.{Stepped}
use Rattle.krl_embed.specs.Changes.{change_row}
use Rattle.krl_embed.specs.Opening.{parts}
use Rattle.krl_embed.specs.Records.{outcome_of}
use Rattle.krl_embed.specs.Servers.{Hears}

-- the write of these numbers, whose value is the row's bytes
abbrev pub write_named : ℕ → Row → WriteOp
write_named kind r =
    if kind == 0 then write.Insert r.key (take r.length r.bytes)
    else (if kind == 1 then write.Put r.key (take r.length r.bytes) else write.Delete r.key)

abbrev pub judged_named : ℕ → ℕ → WriteOp → Option Outcome → Option Change
judged_named c number op None = None
judged_named c number op (Some o) = Some (change.Judged c number op o)

-- the change that a host reads from what is reported to it
abbrev pub change_named : ChangeRow → Option Change
change_named r =
    if r.kind == 1 then Some (change.Registered r.client r.number)
    else (if r.kind == 2 then Some (change.Left r.client)
    else (if r.kind == 3 then judged_named r.client r.number (write_named r.write r.row) (outcome_of r.outcome)
    else None))

-- what it makes of what it has, by the answer of a step
abbrev pub kept : Stepped → Durable → Durable
kept r d = changed_by (change_named r.change) d

abbrev pub all_kept : List Stepped → Durable → Durable
all_kept [] d = d
all_kept (r ∷ rs) d = all_kept rs (kept r d)

-- the server was given some bytes, and this was answered
abbrev pub Answered : State → Stepped → State → Type 0
Answered s r t = (bytes : List ℕ) × (old : List ℕ) × (new : List ℕ) × Hears bytes s old t new r

-- these were answered, one after another
abbrev pub AllAnswered : State → List Stepped → State → Type 0
AllAnswered s [] t = t ≡ s
AllAnswered s (r ∷ rs) t = (mid : State) × Answered s r mid × AllAnswered mid rs t

pub record ChangesAreKept : Type 0 where
  -- what is reported of a change names it
  pub named : (o : Option Change) → change_named (change_row o) ≡ o
  -- a server that is opened on some parts has them, at the next epoch
  pub opened :
      (l : Limits) (epoch : ℕ) (entries : List Row) (records : List RecordRow) (s : State)
      → meaning s ≡ start (parts l epoch entries records)
      → (meaning s).durable ≡ raised (parts l epoch entries records)
  -- after any answers, what they make of what survived before them is what survives
  pub kept :
      (s t : State) (rs : List Stepped) → AllAnswered s rs t → (meaning t).durable ≡ all_kept rs (meaning s).durable
