use Rattle.krl_embed.specs.Frames.{told_frame}
use Rattle.krl_embed.proofs.Framing.{one_more}
use Rattle.krl_embed.proofs.frames.frames_told.Goals as goal

pub loop-message-preserved : goal.loop-message-preserved
loop-message-preserved c =
    one_more told_frame c.args.messages.now c.loop-message.message-index c.message-item.result c.loop-message.out.items
    c.put_told.new.out.items c.loop-message-test.true c.message-item.is c.loop-message.invariant
    c.in_ok-put_told.ensures
