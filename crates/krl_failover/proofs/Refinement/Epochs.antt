-- No message changes a server's epoch.
use Rattle.std.proofs.Common.{◌≡◌, ℕ, List, Option, Some, None, refl, ap, ◌∙◌}
use Rattle.krl_messages.specs.declared.to_server.ToServer.{ToServer}
use Rattle.krl_messages.specs.declared.to_client.ToClient.{ToClient}
use Rattle.krl_server.specs.Servers.{Server}
use Rattle.krl_server.specs.Steps.{ServerStep}
use Rattle.krl_server.specs.Cases.{case_of}
use Rattle.krl_messages.specs.declared.write_op.WriteOp.{WriteOp}
use Rattle.krl_messages.specs.declared.outcome.Outcome.{Outcome}
use Rattle.krl_durable.specs.declared.change.Change.{Change}
use Rattle.krl_durable.specs.declared.change.Change.TheVariants as change
use Rattle.krl_durable.specs.declared.record.Record.{Record}
use Rattle.krl_durable.specs.Registers.{Durable, record_of}
use Rattle.krl_durable.specs.Splits.{left_by}
use Rattle.krl_durable.specs.Changes.{changed_by, judged_of}
use Rattle.krl_server.specs.Changes.{change_of}
use Rattle.krl_server.specs.declared.out.ServerOut.{ServerOut}
use Rattle.krl_server.specs.CodeSteps.{alarm_of}
use Rattle.krl_server.proofs.Outputs.Replayed.{change_said}

judged_epoch : (d : Durable) (c number : ℕ) (op : WriteOp) (o : Outcome) (r : Option Record) → (judged_of d c number op o r).epoch ≡ d.epoch
judged_epoch d c number op o None = refl
judged_epoch d c number op o (Some r) = refl

left_epoch : (d : Durable) (c : ℕ) (r : Option Record) → (left_by d c r).epoch ≡ d.epoch
left_epoch d c None = refl
left_epoch d c (Some r) = refl

changed_epoch : (o : Option Change) (d : Durable) → (changed_by o d).epoch ≡ d.epoch
changed_epoch None d = refl
changed_epoch (Some (change.Registered c i)) d = refl
changed_epoch (Some (change.Left c)) d = left_epoch d c (record_of d.register c)
changed_epoch (Some (change.Judged c number op o)) d = judged_epoch d c number op o (record_of d.register c)

pub step_epoch_same : (s t : Server) (m : ToServer) (outs : List ToClient) → ServerStep s m t outs → t.durable.epoch ≡ s.durable.epoch
step_epoch_same s t m outs step =
    let out : ServerOut = record { messages = outs; alarm = alarm_of s m; change = change_of m (case_of s m) } in
    ap (λ d. d.epoch) (change_said s t m out (record { step = step; alarm = refl; change = refl })).makes ∙ changed_epoch (change_of m (case_of s m)) s.durable
