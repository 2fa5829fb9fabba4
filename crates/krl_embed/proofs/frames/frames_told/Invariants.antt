use Rattle.std.proofs.Common.{◌≡◌, take}
use Rattle.krl_embed.specs.Frames.{told_frames}
use Rattle.krl_embed.proofs.frames.frames_told.Given as goal

abbrev pub invariant-loop-message : goal.invariant-loop-message
invariant-loop-message l = l.out.items ≡ told_frames (take l.message-index l.messages)
