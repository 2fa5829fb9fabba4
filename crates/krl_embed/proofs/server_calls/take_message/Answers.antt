use Rattle.std.proofs.Common.{ap, ◌∙◌}
use Rattle.krl_embed.specs.declared.reply.Reply.{Reply}
use Rattle.krl_embed.specs.Replies as replies
use Rattle.krl_embed.proofs.Acting.{alarmed}
use Rattle.krl_embed.proofs.server_calls.take_message.Goals as goal

pub returns-in-Some : goal.returns-in-Some
returns-in-Some c =
    let made = c.unchanged-in-Some.ensures in
    alarmed c.args.message.now c.args.server.now c.step.new.self c.args.outgoing.now c.in-Ok.out c.in-Some.client
    c.unchanged-in-Some.result c.in-Ok.ensures.stepped c.in-Some.is
    (ap (λ (r : Reply). replies.code_of r) made.reply ∙ c.with.ensures.code)
    (ap (λ (r : Reply). r.detail) made.reply ∙ c.with.ensures.detail) made.change
