use Rattle.std.proofs.Common.{◌≡◌, take}
use Rattle.krl_embed.specs.Frames.{said_frames}
use Rattle.krl_embed.proofs.frames.frames_said.Given as goal

abbrev pub invariant-loop-message : goal.invariant-loop-message
invariant-loop-message l = l.out.items ≡ said_frames (take l.message-index l.messages)
