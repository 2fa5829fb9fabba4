-- What a host has that writes down what changes in what survives.
use Rattle.std.specs.Prelude.{◌≡◌, suc, true, List, [], ◌∷◌}
use Rattle.krl_messages.specs.declared.to_server.ToServer.{ToServer}
use Rattle.krl_durable.specs.declared.limits.Limits.{Limits}
use Rattle.krl_durable.specs.Registers.{Durable}
use Rattle.krl_durable.specs.Limits.{Fits, sized}
use Rattle.krl_durable.specs.Changes.{changed_by}
use Rattle.krl_server.specs.declared.out.ServerOut.{ServerOut}
use Rattle.krl_server.specs.Servers.{Server}
use Rattle.krl_server.specs.Steps.{crash, can_start, start}
use Rattle.krl_server.specs.CodeSteps.{HasStepped}

-- of what a server does a host writes these down: it takes a message, and this is sent and reported; or it crashes, and
-- starts on what survived, with these limits
pub data Event : Type 0 where
  Took : ToServer → ServerOut → Event
  Restarted : Limits → Event

-- the server s lives through the event, and becomes t
abbrev pub Lives : Server → Event → Server → Type 0
Lives s (Took m out) t = HasStepped s m t out
Lives s (Restarted l) t = Fits l (crash s) × (can_start (crash s) ≡ true) × (t ≡ start (sized l (crash s)))

-- through these events, one after another
abbrev pub LivesThrough : Server → List Event → Server → Type 0
LivesThrough s [] t = t ≡ s
LivesThrough s (e ∷ es) t = (mid : Server) × Lives s e mid × LivesThrough mid es t

-- the next epoch, and nothing else
abbrev pub raised : Durable → Durable
raised d = record d { epoch = suc d.epoch }

-- what the host makes of an event: the change that the step reports; at a start the next epoch, and the limits
abbrev pub written_down : Event → Durable → Durable
written_down (Took m out) d = changed_by out.change d
written_down (Restarted l) d = raised (sized l d)

abbrev pub replayed : List Event → Durable → Durable
replayed [] d = d
replayed (e ∷ es) d = replayed es (written_down e d)

pub record ChangesReplay : Type 0 where
  -- a start changes only the epoch
  pub started : (d : Durable) → (start d).durable ≡ raised d
  -- after any events, what they make of what survived before them is what survives
  pub replays : (s t : Server) (es : List Event) → LivesThrough s es t → t.durable ≡ replayed es s.durable
