-- How many slots a grant takes at most: no message changes it.
use Rattle.krl_server.proofs.Names.{◌≡◌, ℕ, Option, Some, None, refl, ap, ◌∙◌, Durable, Server}
use Rattle.krl_messages.specs.declared.to_server.ToServer.{ToServer}
use Rattle.krl_messages.specs.declared.write_op.WriteOp.{WriteOp}
use Rattle.krl_messages.specs.declared.outcome.Outcome.{Outcome}
use Rattle.krl_messages.specs.declared.outcome.Outcome.TheVariants as outcome
use Rattle.krl_messages.specs.declared.to_client.PushBody.TheVariants as push
use Rattle.krl_messages.specs.Writes.{op_key}
use Rattle.krl_durable.specs.declared.record.Record.{Record}
use Rattle.krl_durable.specs.Index.{slot_of}
use Rattle.krl_durable.specs.Registers.{record_of}
use Rattle.krl_durable.specs.Splits.{left_by, applied_by}
use Rattle.krl_server.specs.Cases.{Case, Ignored, Registers, Leaves, Tells, Alarms, Rebuilds, Repeats, Acknowledges, Lowers, Waits, Judges, SeizesLock, AnswersAgain}
use Rattle.krl_server.specs.Effects.{effect, tells_outcome, acknowledged, seizes, writes, holding}
use Rattle.krl_server.proofs.Outputs.Ends.{pushes_durable}

left_reach : (d : Durable) (c : ℕ) (o : Option Record) → (left_by d c o).reach ≡ d.reach
left_reach d c None = refl
left_reach d c (Some r) = refl

applied_reach : (d : Durable) (c : ℕ) (op : WriteOp) (o : Outcome) (r : Option Record) → (applied_by d c op o r).reach ≡ d.reach
applied_reach d c op o None = refl
applied_reach d c op o (Some r) = refl

answers_reach : (s : Server) (c number : ℕ) (op : WriteOp) (o : Outcome) → (tells_outcome s c number op o).server.durable.reach ≡ s.durable.reach
answers_reach s c number op o = ap (λ (d : Durable). d.reach) (pushes_durable s c (push.Answer number o (holding s (slot_of s.durable.index (op_key op)) c)))

pub effect_reach : (s : Server) (m : ToServer) (k : Case) → (effect s m k).server.durable.reach ≡ s.durable.reach
effect_reach s m Ignored = refl
effect_reach s m Registers = refl
effect_reach s m Leaves = left_reach s.durable m.client (record_of s.durable.register m.client)
effect_reach s m Tells = refl
effect_reach s m Alarms = refl
effect_reach s m (Rebuilds pieces) = refl
effect_reach s m (Repeats body) = refl
effect_reach s m Acknowledges = refl
effect_reach s m (Lowers span keep) = refl
effect_reach s m (Waits req point hi g) = refl
effect_reach s m (Judges number op o) =
    answers_reach (writes (acknowledged s m.client) m.client op o) m.client number op o ∙ applied_reach s.durable m.client op o (record_of s.durable.register m.client)
effect_reach s m (SeizesLock number op) =
    answers_reach (writes (acknowledged (seizes s m.client op) m.client) m.client op outcome.Applied) m.client number op outcome.Applied ∙ applied_reach s.durable m.client op outcome.Applied (record_of s.durable.register m.client)
effect_reach s m (AnswersAgain number op o) = answers_reach (acknowledged s m.client) m.client number op o
