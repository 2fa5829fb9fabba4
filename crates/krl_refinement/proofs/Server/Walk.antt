-- What the server does with a message that was sent, except for the answers at the end of the step, is some steps of
-- the machine, and it does not report Alarm.
use Rattle.krl_refinement.proofs.Names.{◌≡◌, ◌≢◌, ℕ, suc, ◌<◌, Bool, true, false, not, ◌&&◌, Some, List, refl, sym, subst, ◌∙◌, nat_eq, eq-eqb, ne_eqb, END, Pieces, WriteOp, Outcome}
use Rattle.krl_refinement.proofs.Names.{ToServer, op_key, is_applied, Record, conflicts, Link, Passes, Logged, WorldInv, Server, lists, effect, IsSound, not_both, IsRecord, Shows}
use Rattle.krl_refinement.proofs.Names.{view, world_of, logged}
use Rattle.krl_messages.specs.declared.to_server.ToServerBody.{ToServerBody}
use Rattle.krl_messages.specs.declared.to_server.Request.{Request}
use Rattle.krl_messages.specs.declared.to_server.RequestBody.{RequestBody}
use Rattle.krl_messages.specs.declared.outcome.Outcome.TheVariants as outcome
use Rattle.krl_messages.specs.declared.to_server.ToServerBody.TheVariants as said
use Rattle.krl_messages.specs.declared.to_server.RequestBody.TheVariants as asked
use Rattle.krl_server.specs.Cases.{Case, Ignored, Registers, Leaves, Tells, Rebuilds, Repeats, Acknowledges, Lowers, Waits, Judges, SeizesLock, AnswersAgain, judged, case_of, is_alarm, clears}
use Rattle.krl_server.proofs.Cased.{IsFrom, IsAsked, by_said}
use Rattle.krl_refinement.specs.Messages.{head_of, RequestStands, Stands}
use Rattle.krl_refinement.proofs.Server.Follows.{Goes, stays, serving_phase}
use Rattle.krl_refinement.proofs.Server.Pushes.{tells, repeats, acknowledges}
use Rattle.krl_refinement.proofs.Server.Judged.{answers_again}
use Rattle.krl_refinement.proofs.Server.Refused.{refused}
use Rattle.krl_refinement.proofs.Server.LockRequests.{waits_follow}
use Rattle.krl_refinement.proofs.Server.Releases.{lowers_follow}
use Rattle.krl_refinement.proofs.Server.HelloAndBye.{registers_follow, leaves_follow}
use Rattle.krl_refinement.proofs.Server.Writes.{writes_follow}
use Rattle.krl_refinement.proofs.Server.Seizes.{seizes_follow}
use Rattle.krl_refinement.proofs.Server.Rebuilt.{rebuilds_follow}
use Rattle.krl_refinement.proofs.Server.Alarms.{no_conflict}
use mathlib.Core.Bool.{and-false, and-true}

module _ (s : Server) (of : ℕ → Link) (log : List Logged) (m : ToServer) (inv : WorldInv (world_of s of log)) (h : Shows s of) (i : IsSound s) (at : Stands (of m.client) m.incarnation m.body) where
  abbrev cleared : Case → ℕ → Bool
  cleared k c = nat_eq c m.client && clears k

  abbrev P : Case → Type 0
  P k = (is_alarm k ≡ false) × Goes s of log (cleared k) (effect s m k) (logged m k log)

  -- nobody's bound is cleared
  nobody : (c : ℕ) → (nat_eq c m.client && false) ≡ false
  nobody c = and-false (nat_eq c m.client)

  -- the client's own is
  own : (nat_eq m.client m.client && true) ≡ true
  own = and-true (nat_eq m.client m.client) ∙ eq-eqb m.client m.client refl

  others : (d : ℕ) → d ≢ m.client → (nat_eq d m.client && true) ≡ false
  others d ne = and-true (nat_eq d m.client) ∙ ne_eqb d m.client ne

  said_is : (b : ToServerBody) → m.body ≡ b → Stands (of m.client) m.incarnation b
  said_is b e = subst (Stands (of m.client) m.incarnation) e at

  module _ (r : Record) (from : IsFrom s m r) where
    shown : IsRecord (Some r) (of m.client)
    shown = subst (λ o. IsRecord o (of m.client)) from.known (h.link m.client).known

    no_alarm : (epoch : ℕ) (pieces : Pieces) → m.body ≡ said.Report epoch pieces → epoch ≡ s.durable.epoch → lists s.missing m.client ≡ true → conflicts s.durable.index s.rows m.client pieces ≡ true → ⊥
    no_alarm epoch pieces is now missing bad = not_both (conflicts s.durable.index s.rows m.client pieces) bad (no_conflict s of log m epoch pieces r inv h i from.known from.same now missing (said_is (said.Report epoch pieces) is))

    rebuilt : (epoch : ℕ) (pieces : Pieces) → m.body ≡ said.Report epoch pieces → epoch ≡ s.durable.epoch → lists s.missing m.client ≡ true → P (Rebuilds pieces)
    rebuilt epoch pieces is now missing = (refl, rebuilds_follow s of log (cleared (Rebuilds pieces)) m epoch pieces r i from.known from.same now missing (said_is (said.Report epoch pieces) is) nobody h)

  module _ (r : Record) (request : Request) (b : RequestBody) (a : IsAsked s m r request b) where
    stands : Stands (of m.client) m.incarnation (said.Request request)
    stands = said_is (said.Request request) a.said

    asks : RequestStands (of m.client) (head_of m.incarnation request) b
    asks = subst (RequestStands (of m.client) (head_of m.incarnation request)) a.asked stands.1

    passes : Passes (view s) (of m.client) (head_of m.incarnation request)
    passes = let own = shown r a.served.from in record { serving = serving_phase s.missing a.served.serves; here = own.left ∙ a.served.from.here; inc = a.served.from.same ∙ sym own.reg; epoch = a.now; seen = a.seen ∙ sym (h.link m.client).last_push }

  on_judged : (r : Record) (request : Request) (number : ℕ) (op : WriteOp) (seizes : Bool) (o : Outcome) → IsAsked s m r request (asked.Write number op seizes) → op_key op < END → number ≡ suc r.last → judged s m.client op ≡ o → P (Judges number op o)
  on_judged r request number op seizes o a under num is = by_outcome o is
    where
      refusal : (o : Outcome) → is_applied o ≡ false → Goes s of log (cleared (Judges number op o)) (effect s m (Judges number op o)) log
      refusal o not = refused s of log (cleared (Judges number op o)) m.client (head_of m.incarnation request) number op o r a.served.from.known not i (asks r request (asked.Write number op seizes) a) (stands r request (asked.Write number op seizes) a).0 (passes r request (asked.Write number op seizes) a) num under h

      by_outcome : (o : Outcome) → judged s m.client op ≡ o → P (Judges number op o)
      by_outcome outcome.Applied is = (refl, writes_follow s of log (cleared (Judges number op outcome.Applied)) m (head_of m.incarnation request) number op r i inv a.served.from.known a.served.from.same a.served.from.client (asks r request (asked.Write number op seizes) a) (stands r request (asked.Write number op seizes) a).0 (passes r request (asked.Write number op seizes) a) num under is h)
      by_outcome outcome.Exists is = (refl, refusal outcome.Exists refl)
      by_outcome outcome.Absent is = (refl, refusal outcome.Absent refl)
      by_outcome outcome.NotHeld is = (refl, refusal outcome.NotHeld refl)
      by_outcome outcome.Full is = (refl, refusal outcome.Full refl)

  -- the effect of the message's case
  pub effect_follows : (is_alarm (case_of s m) ≡ false) × Goes s of log (λ c. nat_eq c m.client && clears (case_of s m)) (effect s m (case_of s m)) (logged m (case_of s m) log)
  effect_follows = by_said s m P
      (record {
        ignored = (refl, stays s of log (cleared Ignored) nobody h);
        registers = λ near newer is. (refl, registers_follow s of log (cleared Registers) m.client m.incarnation own others (said_is said.Hello is) newer h);
        leaves = λ r from is. (refl, leaves_follow s of log (cleared Leaves) m.client m.incarnation r own others from.known (said_is said.Bye is) from.same h);
        tells = (refl, tells s of log (cleared Tells) m.client nobody h);
        alarms = λ r epoch pieces from is now missing bad. absurd (no_alarm r from epoch pieces is now missing bad);
        rebuilds = λ r epoch pieces from is now missing fine. rebuilt r from epoch pieces is now missing;
        repeats = λ r body served unacked. (refl, repeats s of log (cleared (Repeats body)) m.client body unacked nobody h);
        acknowledges = λ r request b a. (refl, acknowledges s of log (cleared Acknowledges) m.client (head_of m.incarnation request) (stands r request b a).0 (passes r request b a) h);
        lowers = λ r request span keep a. (refl, lowers_follow s of log (cleared (Lowers span keep)) m.client (head_of m.incarnation request) span keep a.served.from.client i (asks r request (asked.Release span keep) a).1 (stands r request (asked.Release span keep) a).0 (passes r request (asked.Release span keep) a) h);
        waits = λ r request req point hi g a new free near. (refl, waits_follow s of log (cleared (Waits req point hi g)) (record { client = m.client; req = req; point = point; hi = hi; mode = g }) (head_of m.incarnation request) (stands r request (asked.Lock req point hi g) a).0 (passes r request (asked.Lock req point hi g) a) h);
        judges = λ r request number op seizes o a under near new is. on_judged r request number op seizes o a under new is;
        seizes = λ r request number op seizes a under near new may. (refl, seizes_follow s of log (cleared (SeizesLock number op)) m (head_of m.incarnation request) number op r i inv a.served.from.known a.served.from.same a.served.from.client (asks r request (asked.Write number op seizes) a) (stands r request (asked.Write number op seizes) a).0 (passes r request (asked.Write number op seizes) a) new under may h);
        answers_again = λ r request number op seizes o a under some last is. (refl, answers_again s of log (cleared (AnswersAgain number op o)) m.client (head_of m.incarnation request) number op o i (asks r request (asked.Write number op seizes) a) (stands r request (asked.Write number op seizes) a).0 (passes r request (asked.Write number op seizes) a) (last ∙ sym ((shown r a.served.from).done a.served.from.here)) some (sym ((shown r a.served.from).applied o a.served.from.here is)) under h);
      })
