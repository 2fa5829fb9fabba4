-- What a step reports of its change: it makes what survives, and so do the changes of many steps.
use Rattle.krl_server.proofs.Names.{◌≡◌, ℕ, suc, ◌<◌, Bool, true, false, Option, Some, None, List, [], ◌∷◌, refl, sym, ap, subst, ◌∙◌, arith, WriteOp, Outcome, ToServer, ToClient, op_key, Record}
use Rattle.krl_server.proofs.Names.{slot_of, Durable, record_of, with_record, new_record, registered, left_by, departed, index_after, applied, ServerOut, Server, incarnation_or_0, Case, case_of}
use Rattle.krl_server.proofs.Names.{holding, acknowledged, effect, following, ServerStep, HasStepped, last_of}
use Rattle.krl_messages.specs.declared.to_client.PushBody.TheVariants as push
use Rattle.krl_messages.specs.declared.outcome.Outcome.TheVariants as outcome
use Rattle.krl_durable.specs.Changes.{judged_in, judged_of, judged, changed_by, IsChange}
use Rattle.krl_server.specs.Effects as effects
use Rattle.krl_server.specs.Changes.{change_of}
use Rattle.krl_server.specs.Replays.{Event, Took, Restarted, Lives, LivesThrough, written_down, replayed, ChangesReplay}
use Rattle.krl_server.proofs.Cased.{IsFrom, by_case}
use Rattle.krl_server.proofs.Outputs.Ends.{pushes_durable}
use Rattle.krl_server.proofs.Invariant.Kept.{ends_durable}
use Rattle.krl_server.proofs.Updates.{record_here}
use Rattle.krl_server.proofs.Invariant.WritesSound.{applied_is}

-- A new write

-- the next write of a registered client is the write of its number
judged_is : (d : Durable) (c number : ℕ) (op : WriteOp) (o : Outcome) (r : Record) → record_of d.register c ≡ Some r → number ≡ suc r.last → applied d c op o ≡ judged d c number op o
judged_is d c number op o r e new =
    applied_is d c op o r e
    ∙ ap (λ n. record d { index = index_after d.index op o; register = with_record d.register c (judged_in r n o) }) (sym new)
    ∙ sym (ap (judged_of d c number op o) e)

answered_durable : (s : Server) (m : ToServer) (number : ℕ) (op : WriteOp) (o : Outcome) (x : Server) → (effects.tells_outcome x m.client number op o).server.durable ≡ x.durable
answered_durable s m number op o x = pushes_durable x m.client (push.Answer number o (holding x (slot_of x.durable.index (op_key op)) m.client))

-- the client has left
abbrev is_left : Option Record → Bool
is_left None = false
is_left (Some r) = r.left

-- The change makes what survives

module _ (s : Server) (m : ToServer) where
  abbrev Makes : Case → Type 0
  Makes k = (effect s m k).server.durable ≡ changed_by (change_of m k) s.durable

  case_makes : Makes (case_of s m)
  case_makes = by_case s m Makes (record {
    ignored = refl;
    registers = λ near newer said. refl;
    leaves = λ r from. refl;
    tells = refl;
    alarms = refl;
    rebuilds = λ r epoch pieces from now missing fine. refl;
    repeats = λ r body served unacked. refl;
    acknowledges = λ r served. refl;
    lowers = λ r span keep served. refl;
    waits = λ r req point hi g served new free near. refl;
    judges = λ r number op o served under near new is.
        answered_durable s m number op o (effects.writes (acknowledged s m.client) m.client op o)
        ∙ judged_is s.durable m.client number op o r served.from.known new;
    seizes = λ r number op served under near new may.
        answered_durable s m number op outcome.Applied (effects.writes (acknowledged (effects.seizes s m.client op) m.client) m.client op outcome.Applied)
        ∙ judged_is s.durable m.client number op outcome.Applied r served.from.known new;
    answers_again = λ r number op o served under some last is. answered_durable s m number op o (acknowledged s m.client);
  })

  -- Each change changes something

  abbrev None_if_same : Case → Type 0
  None_if_same k = (effect s m k).server.durable ≡ s.durable → change_of m k ≡ None

  -- what is read of the client's record, before and after
  read : {A : Type 0} (f : Option Record → A) (d : Durable) → d ≡ s.durable → f (record_of d.register m.client) ≡ f (record_of s.durable.register m.client)
  read f d same = ap (λ x. f (record_of x.register m.client)) same

  no_same_hello : incarnation_or_0 (record_of s.durable.register m.client) < m.incarnation → registered s.durable m.client m.incarnation ≡ s.durable → ⊥
  no_same_hello newer same =
      let e = sym (ap incarnation_or_0 (record_here s.durable.register m.client (new_record m.incarnation))) ∙ read incarnation_or_0 (registered s.durable m.client m.incarnation) same in
      omega (arith, newer, e)

  no_same_bye : (r : Record) → IsFrom s m r → departed s.durable m.client ≡ s.durable → ⊥
  no_same_bye r from same =
      let gone = ap (left_by s.durable m.client) from.known in
      let here = ap is_left (record_here s.durable.register m.client (record r { left = true })) in
      let e : true ≡ false = sym here ∙ sym (ap (λ d. is_left (record_of d.register m.client)) gone) ∙ read is_left (departed s.durable m.client) same ∙ ap is_left from.known ∙ from.here in
      cc

  no_same_write : (number : ℕ) (op : WriteOp) (o : Outcome) (r : Record) → record_of s.durable.register m.client ≡ Some r → number ≡ suc r.last → judged s.durable m.client number op o ≡ s.durable → ⊥
  no_same_write number op o r known new same =
      let done = ap (judged_of s.durable m.client number op o) known in
      let here = ap last_of (record_here s.durable.register m.client (judged_in r number o)) in
      let e = sym here ∙ sym (ap (λ d. last_of (record_of d.register m.client)) done) ∙ read last_of (judged s.durable m.client number op o) same ∙ ap last_of known in
      omega (arith, new, e)

  case_none : None_if_same (case_of s m)
  case_none = by_case s m None_if_same (record {
    ignored = λ same. refl;
    registers = λ near newer said same. absurd (no_same_hello newer same);
    leaves = λ r from same. absurd (no_same_bye r from same);
    tells = λ same. refl;
    alarms = λ same. refl;
    rebuilds = λ r epoch pieces from now missing fine same. refl;
    repeats = λ r body served unacked same. refl;
    acknowledges = λ r served same. refl;
    lowers = λ r span keep served same. refl;
    waits = λ r req point hi g served new free near same. refl;
    judges = λ r number op o served under near new is same.
        absurd (no_same_write number op o r served.from.known new
        (sym (answered_durable s m number op o (effects.writes (acknowledged s m.client) m.client op o) ∙ judged_is s.durable m.client number op o r served.from.known new) ∙ same));
    seizes = λ r number op served under near new may same.
        absurd (no_same_write number op outcome.Applied r served.from.known new
        (sym (answered_durable s m number op outcome.Applied (effects.writes (acknowledged (effects.seizes s m.client op) m.client) m.client op outcome.Applied) ∙ judged_is s.durable m.client number op outcome.Applied r served.from.known new) ∙ same));
    answers_again = λ r number op o served under some last is same. refl;
  })

  module _ (t : Server) (outs : List ToClient) (step : ServerStep s m t outs) where
    after : t.durable ≡ (effect s m (case_of s m)).server.durable
    after = ends_durable (effect s m (case_of s m)) (following (case_of s m)) t outs step

    makes : t.durable ≡ changed_by (change_of m (case_of s m)) s.durable
    makes = after ∙ case_makes

    is_change : IsChange s.durable t.durable (change_of m (case_of s m))
    is_change = record {
      makes = makes;
      none = (λ e. makes ∙ ap (λ o. changed_by o s.durable) e, λ same. case_none (sym after ∙ same));
    }

pub change_said : (s t : Server) (m : ToServer) (out : ServerOut) → HasStepped s m t out → IsChange s.durable t.durable out.change
change_said s t m out h = subst (IsChange s.durable t.durable) (sym h.change) (is_change s m t out.messages h.step)

-- Many steps

event_replays : (s t : Server) (e : Event) → Lives s e t → t.durable ≡ written_down e s.durable
event_replays s t (Took m out) h = (change_said s t m out h).makes
event_replays s t (Restarted l) h = ap (λ (x : Server). x.durable) h.2

replays : (s t : Server) (es : List Event) → LivesThrough s es t → t.durable ≡ replayed es s.durable
replays s t [] h = ap (λ (x : Server). x.durable) h
replays s t (e ∷ es) h = replays h.0 t es h.2 ∙ ap (replayed es) (event_replays s h.0 e h.1)

pub all_replay : ChangesReplay
all_replay = record { started = λ d. refl; replays = replays }
