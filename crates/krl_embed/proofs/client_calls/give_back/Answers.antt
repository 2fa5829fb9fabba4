use Rattle.krl_modes.specs.Spans.{Bounds}
use Rattle.krl_client.specs.Fields.{meaning}
use Rattle.krl_client.specs.Commands.{lower_refusal, belief_lowered, says_release}
use Rattle.krl_embed.specs.Replies as replies
use Rattle.krl_embed.proofs.Commanding.{commanded}
use Rattle.krl_embed.proofs.client_calls.give_back.Goals as goal

pub returns : goal.returns
returns c =
    let k = meaning c.args.client.now in let s : Bounds = record { lo = c.args.lo; hi = c.args.hi } in
    let mode = c.in-Some.mode in let call = c.lower-messages in
    rw c.in-Some.is (
      c.said.ensures.detail,
      commanded (lower_refusal k s) (belief_lowered k s mode) (says_release k s mode) c.args.client.now call.new.self
          c.args.outgoing.now c.said.new.outgoing call.result (replies.code_of c.said.result) call.ensures.due
          call.ensures.unchanged call.ensures.none_due call.ensures.client call.ensures.says c.said.ensures.said,
    )
