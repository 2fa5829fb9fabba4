use Rattle.std.proofs.Common.{◌≡◌, ℕ, List, Some, sym, refl, ap, subst, ◌∙◌, rules}
use Rattle.std.specs.Prelude.{Result, Ok, Err}
use Rattle.krl_messages.specs.declared.to_client.ToClient.{ToClient}
use Rattle.krl_wire.specs.declared.fault.Fault.{Fault}
use Rattle.krl_wire.specs.declared.fault.ReadError.{ReadError}
use Rattle.krl_wire.specs.declared.fault.ReadError.TheVariants as errors
use Rattle.krl_wire.specs.Reading.{GivesIfRoom}
use Rattle.krl_wire.specs.Reading as reading
use Rattle.krl_client.specs.Fields.{KeptClient}
use Rattle.krl_embed.specs.declared.code.Code.TheVariants as code
use Rattle.krl_embed.specs.declared.reply.Reply.{Reply}
use Rattle.krl_embed.specs.Clients.{Did, HearsRead, IsUnread, fault_number}
use Rattle.krl_client.specs.Fields.{meaning}
use Rattle.krl_client.specs.FieldSteps.{Follows}
use Rattle.krl_client.specs.Messages.{client_case_of}
use Rattle.krl_embed.specs.Replies as replies
use Rattle.krl_embed.proofs.Commanding.{did, did_not}
use Rattle.krl_embed.proofs.client_calls.hear.Goals as goal

pub returns-in-Ok-step : goal.returns-in-Ok-step
returns-in-Ok-step c =
    let k = c.args.client.now in
    rw c.in-Ok.ensures.exact (
      c.say.ensures.detail,
      did (λ x list. Follows (meaning k) (client_case_of (meaning k) c.in-Ok.message) (meaning x) list) k c.step.new.self
          c.args.outgoing.now c.say.new.outgoing c.in-Ok-step.messages.items (replies.code_of c.say.result)
          c.in-Ok-step.ensures.follows
          (rw (sym c.as_slice.ensures.value) c.say.ensures.waits),
    )

pub returns : goal.returns
returns c =
    let k = c.args.client.now in
    rw c.in-Ok.ensures.exact (
      c.of-in-Err.ensures.detail,
      did_not (λ x list. Follows (meaning k) (client_case_of (meaning k) c.in-Ok.message) (meaning x) list) k c.step.new.self
          c.args.outgoing.now c.args.outgoing.now (replies.code_of c.of-in-Err.result) c.of-in-Err.ensures.code
          c.in-Err.ensures.unchanged refl,
    )

-- memory ran out before the message was read
unread : (bytes : List ℕ) (read : Result ToClient Fault) (k : KeptClient) (old : List ℕ) (r : Reply) → replies.code_of r ≡ Some code.OutOfMemory → r.detail ≡ 0 → reading.BeginsGrant bytes → HearsRead bytes read k old k old r
unread bytes (Ok m) k old r e d g = (d, subst (Did (λ x list. Follows (meaning k) (client_case_of (meaning k) m) (meaning x) list) k old k old) (sym e) (refl, refl))
unread bytes (Err f) k old r e d g = subst (IsUnread bytes f k old k old r) (sym e) (refl, refl, d, g)

pub returns-in-Err-OutOfMemory : goal.returns-in-Err-OutOfMemory
returns-in-Err-OutOfMemory c =
    unread c.args.bytes.now (reading.to_client_of c.args.bytes.now) c.args.client.now c.args.outgoing.now c.of.result c.of.ensures.code c.of.ensures.detail
    (c.to_client_of.ensures.memory (c.in-Err-OutOfMemory.is ∙ ap Err c.in-Err-OutOfMemory.field-0-is))

pub returns-in-Err-Fault : goal.returns-in-Err-Fault
returns-in-Err-Fault c =
    let e : c.to_client_of.result ≡ Err (errors.Fault c.in-Err-Fault.fault) = c.in-Err-Fault.is ∙ ap Err c.in-Err-Fault.field-0-is in
    let read : reading.to_client_of c.args.bytes.now ≡ Err c.in-Err-Fault.fault =
    subst (λ (q : Result ToClient ReadError). GivesIfRoom q (reading.to_client_of c.args.bytes.now)) e c.to_client_of.ensures.exact in
    let number : c.with.result.detail ≡ fault_number c.in-Err-Fault.fault = search rules in
    rw read
    (subst (IsUnread c.args.bytes.now c.in-Err-Fault.fault c.args.client.now c.args.outgoing.now c.args.client.now c.args.outgoing.now c.with.result) (sym c.with.ensures.code)
    (refl, refl, number))
