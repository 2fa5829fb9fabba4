-- The changes of what survives, and what each makes of it.
use Rattle.std.specs.Prelude.{◌≡◌, ◌↔◌, ℕ, Option, Some, None}
use Rattle.krl_messages.specs.declared.write_op.WriteOp.{WriteOp}
use Rattle.krl_messages.specs.declared.outcome.Outcome.{Outcome}
use Rattle.krl_durable.specs.declared.change.Change.{Change}
use Rattle.krl_durable.specs.declared.change.Change.TheVariants as change
use Rattle.krl_durable.specs.declared.record.Record.{Record}
use Rattle.krl_durable.specs.Registers.{Durable, record_of, with_record, registered, departed}
use Rattle.krl_durable.specs.Writes.{index_after}

-- the write of this number is the last one in the record, with its outcome
abbrev pub judged_in : Record → ℕ → Outcome → Record
judged_in r number o = record r { last = number; outcome = Some o }

abbrev pub judged_of : Durable → ℕ → ℕ → WriteOp → Outcome → Option Record → Durable
judged_of d c number op o None = d
judged_of d c number op o (Some r) =
    record d { index = index_after d.index op o; register = with_record d.register c (judged_in r number o) }

-- the registered client's write of this number was judged: done if it is Applied, and noted
abbrev pub judged : Durable → ℕ → ℕ → WriteOp → Outcome → Durable
judged d c number op o = judged_of d c number op o (record_of d.register c)

-- what a change makes of what survives
abbrev pub changed : Change → Durable → Durable
changed (change.Registered c incarnation) d = registered d c incarnation
changed (change.Left c) d = departed d c
changed (change.Judged c number op o) d = judged d c number op o

-- and what none makes of it: nothing else
abbrev pub changed_by : Option Change → Durable → Durable
changed_by None d = d
changed_by (Some x) d = changed x d

-- the change makes the new of the old, and there is none exactly if nothing has changed
pub record IsChange (old new : Durable) (o : Option Change) : Type 0 where
  pub makes : new ≡ changed_by o old
  pub none : (o ≡ None) ↔ (new ≡ old)
