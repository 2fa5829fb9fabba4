-- What an old server does with a message that was sent is some steps of the machine, unless it changes what survives.
use Rattle.krl_failover.proofs.Refinement.Names.{◌≡◌, ℕ, ◌<◌, ◌≤◌, inr, ⊎_elim, Option, Value, Some, None, List, [], ◌∷◌, ◌++◌, refl, sym, ap, subst, ◌∙◌, arith, none-some, END, Bounds, Mode, op_key}
use Rattle.krl_failover.proofs.Refinement.Names.{In, in_both, Outcome, WriteOp, PushBody, ToClient, ToServer, Waiter, Record, record_of, Row, set_row, Session, Server, silent, acknowledged}
use Rattle.krl_failover.proofs.Refinement.Names.{push_to, IsSound, session_here, session_other, set_session, eq_cases, WasSent, Stands, Fenced, FencedReachable, IsRecordKept, IsHeardBy, ShowsOld}
use Rattle.std.specs.Prelude.{Bool}
use Rattle.krl_messages.specs.declared.to_client.ToClientBody.TheVariants as told
use Rattle.krl_messages.specs.declared.to_client.PushBody.TheVariants as push
use Rattle.krl_messages.specs.declared.to_server.ToServerBody.{ToServerBody}
use Rattle.krl_messages.specs.declared.to_server.ToServerBody.TheVariants as said
use Rattle.krl_messages.specs.declared.to_server.Request.{Request}
use Rattle.krl_messages.specs.declared.to_server.RequestBody.{RequestBody}
use Rattle.krl_messages.specs.declared.to_server.RequestBody.TheVariants as asked
use Rattle.krl_durable.specs.Index.{slot_of}
use Rattle.krl_table.specs.Calls.{queue_with, with_queue}
use Rattle.krl_table.proofs.Invariant.Stands.{in_queue_with}
use Rattle.krl_server.specs.Cases.{Case, case_of}
use Rattle.krl_server.specs.Changes.{change_of}
use Rattle.krl_server.specs.Effects.{effect, queues, tells_outcome, holding}
use Rattle.krl_server.specs.Steps.{ServerStep, following, callbacks_after, at_once, recovers, serves}
use Rattle.krl_server.specs.Effects as effects
use Rattle.krl_server.proofs.Slots.{slot_here, slot_high}
use Rattle.krl_server.specs.declared.out.ServerOut.{ServerOut}
use Rattle.krl_server.specs.CodeSteps.{alarm_of}
use Rattle.krl_server.proofs.Outputs.Replayed.{change_said}
use Rattle.krl_server.proofs.Cased.{IsFrom, IsAsked, by_said}
use Rattle.krl_server.proofs.Turns.{in_row}
use Rattle.krl_server.proofs.Updates.{row_modes}
use Rattle.krl_server.proofs.Invariant.AnswersSound.{acknowledged_sound, answering_sound}
use Rattle.krl_server.proofs.Invariant.Sounds.{effect_sound}
use Rattle.krl_server.proofs.Invariant.Kept.{server_keeps}
use Rattle.krl_refinement.specs.Messages.{head_of, RequestStands}
use Rattle.krl_refinement.proofs.Server.Follows.{one_sent}
use Rattle.krl_refinement.proofs.Server.Callbacks.{calls_sent}
use Rattle.krl_failover.proofs.Refinement.Stores.{reached_on}
use Rattle.krl_failover.proofs.Refinement.OldMoves as moves
use Rattle.krl_failover.proofs.Refinement.OldMoves.{Goes, goes_not, kept_reg}
use Rattle.krl_failover.proofs.Refinement.OldPushes.{CanPush, can_on, next_push, answer_fits}
use Rattle.krl_failover.proofs.Refinement.OldRows.{same_shows, holdings_said}
use Rattle.krl_failover.proofs.Refinement.OldTable.{lowers_goes}
use Rattle.krl_failover.proofs.Refinement.OldTurns.{can_push_now, heard_on, goes_both, answering_goes}
use Rattle.krl_failover.proofs.Refinement.OldGathers.{takes_report}

-- its last push is sent again
pub repeats : (s : Server) (f : Fenced) (c : ℕ) (body : PushBody) → (s.sessions c).unacked ≡ Some body → ShowsOld s f → Goes s f (record { server = s; outs = push_to s c (s.sessions c).last_push body ∷ [] })
repeats s f c body e h =
    let a = goes_not s s f h in record {
      fenced = f;
      steps = a.steps;
      beside = a.beside;
      shows = h;
      sent = one_sent f.world.links (push_to s c (s.sessions c).last_push body) (subst (λ x. WasSent (f.world.links c) x (told.Push s.durable.epoch (s.sessions c).last_push body)) (kept_reg (record_of s.durable.register c) (f.old s.durable.epoch c) (h.link c).known) ((h.link c).unacked body e));
    }

-- a request waits: no step
asked_alike : (sessions : ℕ → Session) (c asked d : ℕ) → ((set_session sessions c (record (sessions c) { last_request = asked }) d).last_push ≡ (sessions d).last_push) × ((set_session sessions c (record (sessions c) { last_request = asked }) d).unacked ≡ (sessions d).unacked)
asked_alike sessions c asked d = eq_cases d c
    (λ e. subst (λ x. ((set_session sessions c (record (sessions c) { last_request = asked }) x).last_push ≡ (sessions x).last_push) × ((set_session sessions c (record (sessions c) { last_request = asked }) x).unacked ≡ (sessions x).unacked)) (sym e)
    (ap (λ y. y.last_push) (session_here sessions c (record (sessions c) { last_request = asked })), ap (λ y. y.unacked) (session_here sessions c (record (sessions c) { last_request = asked }))))
    (λ ne. let e = session_other sessions c d (record (sessions c) { last_request = asked }) ne in (ap (λ y. y.last_push) e, ap (λ y. y.unacked) e))

queues_shows : (s : Server) (f : Fenced) (u : Waiter) → IsHeardBy s.durable.epoch (f.world.links u.client) (f.old s.durable.epoch u.client) → ShowsOld s f → ShowsOld (queues s u) f
queues_shows s f u able h =
    let n = slot_of s.durable.index u.point in
    let row : Row = with_queue (s.rows n) (queue_with (s.rows n) u) in
    same_shows s (set_row s.rows n row) (set_session s.sessions u.client (record (s.sessions u.client) { last_request = u.req })) f
    (λ d k. row_modes s.rows n row d refl k)
    (asked_alike s.sessions u.client u.req)
    (λ m v at. ⊎_elim
    (λ (x : (m ≡ n) × In v row.queue). ⊎_elim (λ (e : v ≡ u). subst (λ y. IsHeardBy s.durable.epoch (f.world.links y.client) (f.old s.durable.epoch y.client)) (sym e) able) (λ (old : In v (s.rows n).queue). h.heard n v old) (in_queue_with (s.rows n) u v x.1))
    (λ (old : In v (s.rows m).queue). h.heard m v old)
    (in_row s.rows n row m v at))
    h

module _ (first : ℕ → Option Value) (s : Server) (f : Fenced) (m : ToServer) (reached : FencedReachable first END f) (far : f.world.shared.end ≡ END) (h : ShowsOld s f) (i : IsSound s) (at : Stands (f.world.links m.client) m.incarnation m.body) where
  abbrev c : ℕ
  c = m.client

  abbrev e : ℕ
  e = s.durable.epoch

  -- unless it is a change, the case is some steps
  abbrev P : Case → Type 0
  P k = change_of m k ≡ None → Goes s f (effect s m k)

  said_is : (b : ToServerBody) → m.body ≡ b → Stands (f.world.links c) m.incarnation b
  said_is b is = subst (Stands (f.world.links c) m.incarnation) is at

  known : (r : Record) → IsFrom s m r → IsRecordKept (Some r) (f.old e c)
  known r from = subst (λ o. IsRecordKept o (f.old e c)) from.known (h.link c).known

  same_inc : (r : Record) → IsFrom s m r → m.incarnation ≡ (f.old e c).reg
  same_inc r from = from.same ∙ sym (known r from).reg

  module _ (r : Record) (request : Request) (b : RequestBody) (a : IsAsked s m r request b) where
    stands : Stands (f.world.links c) m.incarnation (said.Request request)
    stands = said_is (said.Request request) a.said

    asks : RequestStands (f.world.links c) (head_of m.incarnation request) b
    asks = subst (RequestStands (f.world.links c) (head_of m.incarnation request)) a.asked stands.1

    hears : Goes s f (silent (acknowledged s c))
    hears = moves.acknowledges s f c (head_of m.incarnation request) i.begun stands.0 (same_inc r a.served.from) a.now a.seen h

    can : CanPush (acknowledged s c) hears.fenced
    can = can_on s (acknowledged s c) f (silent (acknowledged s c)) refl (can_push_now first s f reached far i a.served.serves h) hears

    own_heard : IsHeardBy e (hears.fenced.world.links c) (hears.fenced.old e c)
    own_heard = heard_on e f hears.fenced c hears.beside (head_of m.incarnation request, stands.0, same_inc r a.served.from, a.now)

    -- the record, as it is kept after the message was heard
    known_then : IsRecordKept (Some r) (hears.fenced.old e c)
    known_then = subst (λ o. IsRecordKept o (hears.fenced.old e c)) a.served.from.known (hears.shows.link c).known

    inc_then : m.incarnation ≡ (hears.fenced.old e c).reg
    inc_then = a.served.from.same ∙ sym known_then.reg

    seen_then : request.seen ≡ (hears.fenced.old e c).last
    seen_then = a.seen ∙ sym (ap (λ x. x.last_push) (session_here s.sessions c (record (s.sessions c) { unacked = None }))) ∙ sym (hears.shows.link c).last

    free : ((acknowledged s c).sessions c).unacked ≡ None
    free = ap (λ x. x.unacked) (session_here s.sessions c (record (s.sessions c) { unacked = None }))

  on_lowers : (r : Record) (request : Request) (span : Bounds) (keep : Mode) (a : IsAsked s m r request (asked.Release span keep)) → Goes s f (silent (effects.lowers (acknowledged s c) c span keep))
  on_lowers r request span keep a =
      let b = asked.Release span keep in
      let x = hears r request b a in
      moves.goes_on s (acknowledged s c) f _ refl x
      (lowers_goes (acknowledged s c) x.fenced (acknowledged_sound s c i) (can r request b a) x.shows c (head_of m.incarnation request) span keep
      ((x.beside.grows c).releases _ (asks r request b a).1) (inc_then r request b a) a.now (seen_then r request b a))

  on_waits : (r : Record) (request : Request) (req point hi : ℕ) (g : Mode) (a : IsAsked s m r request (asked.Lock req point hi g)) → Goes s f (let u : Waiter = record { client = c; req = req; point = point; hi = hi; mode = g } in silent (queues (acknowledged s c) u))
  on_waits r request req point hi g a =
      let b = asked.Lock req point hi g in
      let x = hears r request b a in
      let u : Waiter = record { client = c; req = req; point = point; hi = hi; mode = g } in
      moves.goes_on s (acknowledged s c) f _ refl x
      (goes_not (acknowledged s c) (queues (acknowledged s c) u) x.fenced (queues_shows (acknowledged s c) x.fenced u (own_heard r request b a) x.shows))

  on_again : (r : Record) (request : Request) (number : ℕ) (op : WriteOp) (seizes : Bool) (o : Outcome) (a : IsAsked s m r request (asked.Write number op seizes)) → op_key op < END → 1 ≤ number → number ≡ r.last → r.outcome ≡ Some o → Goes s f (tells_outcome (acknowledged s c) c number op o)
  on_again r request number op seizes o a under some last is =
      let b = asked.Write number op seizes in
      let t = acknowledged s c in
      let x = hears r request b a in
      let can_t = can r request b a in
      let sound = acknowledged_sound s c i in
      let here = a.served.from.here in
      let known = known_then r request b a in
      let n = slot_of s.durable.index (op_key op) in
      let slot = slot_here s.durable.index i.near (op_key op) (omega (arith, under)) in
      let high = slot_high s.durable.index i.near (op_key op) (omega (arith, under)) in
      moves.goes_on s t f _ refl x
      (next_push t x.fenced c (push.Answer number o (holding t n c)) can_t x.shows some (own_heard r request b a) (free r request b a)
      (record {
        says = λ now there. holdings_said t x.fenced c sound can_t.far x.shows now there (n ∷ []) ((high, slot.0), tt);
        answer = inr (answer_fits t x.fenced c (head_of m.incarnation request) number op o sound ((x.beside.grows c).writes _ (asks r request b a)) (inc_then r request b a) (last ∙ sym (known.done here)) (sym (known.applied o here is)) under);
      }))

  pub effect_goes : P (case_of s m)
  effect_goes = by_said s m P
      (record {
        ignored = λ n. goes_not s s f h;
        registers = λ near newer is n. absurd (none-some _ (sym n));
        leaves = λ r from is n. absurd (none-some _ (sym n));
        tells = λ n. moves.tells s f c i.begun h;
        alarms = λ r epoch pieces from is now missing bad n. goes_not s s f h;
        rebuilds = λ r epoch pieces from is now missing fine n. takes_report s f i far h c pieces epoch m.incarnation (same_inc r from) now missing (said_is (said.Report epoch pieces) is);
        repeats = λ r body served unacked n. repeats s f c body unacked h;
        acknowledges = λ r request b a n. hears r request b a;
        lowers = λ r request span keep a n. on_lowers r request span keep a;
        waits = λ r request req point hi g a new free near n. on_waits r request req point hi g a;
        judges = λ r request number op seizes o a under near new is n. absurd (none-some _ (sym n));
        seizes = λ r request number op seizes a under near new may n. absurd (none-some _ (sym n));
        answers_again = λ r request number op seizes o a under some last is n. on_again r request number op seizes o a under some last is;
      })

  -- the whole step
  ends : (t : Server) (outs : List ToClient) → change_of m (case_of s m) ≡ None → (effect s m (case_of s m)).server.durable.epoch ≡ e → ServerStep s m t outs → Goes s f (record { server = t; outs = outs })
  ends t outs none same (at_once k) = effect_goes none
  ends t outs none same (recovers g) = effect_goes none
  ends t outs none same (serves t' later acted up rest) =
      let done = effect s m (case_of s m) in
      let u = done.server in
      let x = effect_goes none in
      let sound = effect_sound s m i in
      let now = reached_on first END f x.fenced reached x.steps in
      let a = answering_goes u t x.fenced later rest sound (can_push_now first u x.fenced now (ap (λ y. y.end) x.beside.shared ∙ far) sound up x.shows) x.shows in
      let last = answering_sound u t later rest sound in
      goes_both s t f done.outs (later ++ callbacks_after (following (case_of s m)) t) u same x
      (record {
        fenced = a.fenced;
        steps = a.steps;
        beside = a.beside;
        shows = a.shows;
        sent = λ o y. ⊎_elim (λ (z : In o later). a.sent o z) (λ (z : In o (callbacks_after (following (case_of s m)) t)). calls_sent t a.fenced.world.links last.begun (following (case_of s m)) o z) (in_both later (callbacks_after (following (case_of s m)) t) o y);
      })

  pub step_goes : (t : Server) (outs : List ToClient) → ServerStep s m t outs → t.durable ≡ s.durable → Goes s f (record { server = t; outs = outs })
  step_goes t outs step kept =
      let out : ServerOut = record { messages = outs; alarm = alarm_of s m; change = change_of m (case_of s m) } in
      ends t outs ((change_said s t m out (record { step = step; alarm = refl; change = refl })).none.1 kept) (ap (λ d. d.epoch) (sym (server_keeps.step_durable s t m outs step) ∙ kept)) step
