use Rattle.std.proofs.Common.{sym}
use Rattle.krl_client.specs.Fields.{meaning}
use Rattle.krl_client.specs.Commands.{lock_refusal, locked, says_lock}
use Rattle.krl_embed.specs.Replies as replies
use Rattle.krl_embed.proofs.Commanding.{commanded}
use Rattle.krl_embed.proofs.client_calls.ask.Goals as goal

pub returns : goal.returns
returns c =
    let k = meaning c.args.client.now in let m = c.in-Some.mode in let call = c.lock-messages in
    let point = c.args.point in let hi = c.args.hi in (
      c.said.ensures.detail,
      rw (sym c.in-Some.ensures) (
          commanded (lock_refusal k point hi) (locked k point hi m) (says_lock (locked k point hi m) point hi m)
          c.args.client.now call.new.self c.args.outgoing.now c.said.new.outgoing call.result
          (replies.code_of c.said.result) call.ensures.due call.ensures.unchanged call.ensures.none_due
          call.ensures.client call.ensures.says c.said.ensures.said
          ),
    )
