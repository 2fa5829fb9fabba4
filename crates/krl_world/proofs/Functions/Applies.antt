-- The write that is noted is the one that the server applied: the step reports it.
use Rattle.krl_world.proofs.Names.{◌≡◌, List, ◌++◌, refl, ap, ◌∙◌, ToServer, Server, Case, Ignored, Registers, Leaves, Tells, Alarms}
use Rattle.krl_world.proofs.Names.{Rebuilds, Repeats, Acknowledges, Lowers, Waits, Judges, SeizesLock, AnswersAgain, case_of, HasStepped, AppliedWrite, applies, applied_in, HasServed, Message, from_server}
use Rattle.krl_server.specs.declared.out.ServerOut.{ServerOut}
use Rattle.krl_server.specs.Changes.{change_of}

-- what is noted of a case's change is what the case applies
noted_is_applied : (m : ToServer) (k : Case) → applied_in m (change_of m k) ≡ applies m k
noted_is_applied m Ignored = refl
noted_is_applied m Registers = refl
noted_is_applied m Leaves = refl
noted_is_applied m Tells = refl
noted_is_applied m Alarms = refl
noted_is_applied m (Rebuilds pieces) = refl
noted_is_applied m (Repeats body) = refl
noted_is_applied m Acknowledges = refl
noted_is_applied m (Lowers s keep) = refl
noted_is_applied m (Waits req point hi g) = refl
noted_is_applied m (Judges number op o) = refl
noted_is_applied m (SeizesLock number op) = refl
noted_is_applied m (AnswersAgain number op o) = refl

-- a message is read: what was sent and what is noted, by what the step sends and reports
pub served_by : (s t : Server) (m : ToServer) (out : ServerOut) (old new : List Message) (before after : List AppliedWrite) → HasStepped s m t out → new ≡ old ++ from_server out.messages → after ≡ before ++ applied_in m out.change → HasServed s m t old new before after
served_by s t m out old new before after h e f = record {
  outs = out.messages;
  step = h.step;
  sent = e;
  writes_are = f ∙ ap (λ o. before ++ applied_in m o) h.change ∙ ap (λ xs. before ++ xs) (noted_is_applied m (case_of s m));
}
