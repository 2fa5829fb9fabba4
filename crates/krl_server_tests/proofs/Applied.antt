-- The index after a write.
use Rattle.std.proofs.Common.{◌≡◌, ℕ, ◌<◌, Option, Some, None, refl, ap, ◌∙◌}
use Rattle.std.specs.Prelude.{IsSomeAnd}
use Rattle.krl_modes.specs.declared.point.TheConstants.{END}
use Rattle.krl_messages.specs.declared.write_op.WriteOp.{WriteOp}
use Rattle.krl_messages.specs.declared.outcome.Outcome.{Outcome}
use Rattle.krl_messages.specs.declared.outcome.Outcome.TheVariants as outcome
use Rattle.krl_durable.specs.declared.record.Record.{Record}
use Rattle.krl_durable.specs.Registers.{Durable, record_of}
use Rattle.krl_durable.specs.Writes.{written, applied}
use Rattle.krl_durable.specs.Splits.{applied_by}

-- the write of a registered client that is Applied
pub applied_index : (d new : Durable) (c : ℕ) (op : WriteOp) (o : Outcome) → IsSomeAnd (record_of d.register c) (λ r. r.last < END) → o ≡ outcome.Applied → new ≡ applied d c op o → new.index ≡ written d.index op
applied_index d new c op o known is made = ap (λ (x : Durable). x.index) (made ∙ ap (applied d c op) is) ∙ by_record (record_of d.register c) known
  where
    by_record : (x : Option Record) → IsSomeAnd x (λ r. r.last < END) → (applied_by d c op outcome.Applied x).index ≡ written d.index op
    by_record None h = absurd h
    by_record (Some r) h = refl

-- a write leaves the room of the index
pub applied_room : (d new : Durable) (c : ℕ) (op : WriteOp) (o : Outcome) → new ≡ applied d c op o → new.room ≡ d.room
applied_room d new c op o made = ap (λ (x : Durable). x.room) made ∙ by_record (record_of d.register c)
  where
    by_record : (x : Option Record) → (applied_by d c op o x).room ≡ d.room
    by_record None = refl
    by_record (Some r) = refl
