-- Changes of what survives, by the record of the client: as code and proofs take them apart.
use Rattle.std.specs.Prelude.{ℕ, true, Option}
use Rattle.krl_messages.specs.declared.write_op.WriteOp.{WriteOp}
use Rattle.krl_messages.specs.declared.outcome.Outcome.{Outcome}
use Rattle.krl_messages.specs.Members.{map_or}
use Rattle.krl_durable.specs.declared.record.Record.{Record}
use Rattle.krl_durable.specs.Registers.{Durable, with_record}
use Rattle.krl_durable.specs.Writes.{index_after, noted}

-- the client of this record, if there is one, is marked left
abbrev pub left_by : Durable → ℕ → Option Record → Durable
left_by d c o = map_or o d (λ (r : Record). record d { register = with_record d.register c (record r { left = true }) })

-- the next write of the client of this record, if there is one
abbrev pub applied_by : Durable → ℕ → WriteOp → Outcome → Option Record → Durable
applied_by d c op o r =
    map_or r d (λ r. record d { index = index_after d.index op o; register = with_record d.register c (noted r o) })
