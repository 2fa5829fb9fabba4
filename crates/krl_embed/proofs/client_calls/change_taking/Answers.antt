use Rattle.krl_client.specs.Fields.{meaning}
use Rattle.krl_client.specs.Commands.{seize_refusal, seized, says_write}
use Rattle.krl_embed.specs.Replies as replies
use Rattle.krl_embed.proofs.Commanding.{commanded}
use Rattle.krl_embed.proofs.client_calls.change_taking.Goals as goal

pub returns : goal.returns
returns c =
    let k = meaning c.args.client.now in let op = c.in-Some.op in let call = c.seize-messages in
    rw c.in-Some.is (
      c.said.ensures.detail,
      commanded (seize_refusal k op) (seized k op) (says_write (seized k op) op) c.args.client.now call.new.self
          c.args.outgoing.now c.said.new.outgoing call.result (replies.code_of c.said.result) call.ensures.due
          call.ensures.unchanged call.ensures.none_due call.ensures.client call.ensures.says c.said.ensures.said,
    )
