-- What holds of the server and the message in each case: so anything is proved of the case that a message meets.
use Rattle.krl_server.proofs.Names.{◌≡◌, ℕ, suc, ◌≤◌, ◌<◌, Bool, true, false, not, ◌&&◌, ◌||◌, Option, Some, None, refl, sym, subst, arith, nat_eq, eqb-true, ltb-true, ltb-false, eqb-false, and_parts}
use Rattle.krl_server.proofs.Names.{or_parts, not-true, not-false, nat_lt, nat_le, END, TOP, Mode, Bounds, Pieces, WriteOp, Outcome, ToServer, PushBody, Record, record_of, op_key, max_clients}
use Rattle.krl_server.proofs.Names.{waits, conflicts, Server, is_recovering, lists, incarnation_or_0, Case, Ignored, Registers, Leaves, Tells, Alarms, Rebuilds, Repeats, Acknowledges, Lowers, Waits}
use Rattle.krl_server.proofs.Names.{Judges, SeizesLock, AnswersAgain, may_seize, case_of_new_write, judged, case_of_repeated_write, is_bad_write, case_of_write, has_points, case_of_request, case_of_late, case_of_seen, case_of_report, case_of_body}
use Rattle.krl_server.proofs.Names.{case_of_newer, case_of_record, is_malformed, case_of}
use Rattle.krl_messages.specs.declared.to_server.ToServerBody.{ToServerBody}
use Rattle.krl_messages.specs.declared.to_server.ToServerBody.TheVariants as said
use Rattle.krl_messages.specs.declared.to_server.Request.{Request}
use Rattle.krl_messages.specs.declared.to_server.RequestBody.{RequestBody}
use Rattle.krl_messages.specs.declared.to_server.RequestBody.TheVariants as asked
use Rattle.krl_server.proofs.Tests.{if_case}

-- the message is the registered incarnation's, which has not left
pub record IsFrom (s : Server) (m : ToServer) (r : Record) : Type 0 where
  pub client : m.client < max_clients
  pub known : record_of s.durable.register m.client ≡ Some r
  pub same : m.incarnation ≡ r.incarnation
  pub here : r.left ≡ false

-- it is one of the requests of a serving epoch
pub record IsServed (s : Server) (m : ToServer) (r : Record) : Type 0 where
  pub from : IsFrom s m r
  pub serves : is_recovering s.missing ≡ false

-- and it asks this, with the last push seen
pub record IsAsked (s : Server) (m : ToServer) (r : Record) (request : Request) (b : RequestBody) : Type 0 where
  pub served : IsServed s m r
  pub said : m.body ≡ said.Request request
  pub now : request.epoch ≡ s.durable.epoch
  pub seen : request.seen ≡ (s.sessions m.client).last_push
  pub asked : request.body ≡ b

-- what is to be proved in each case, by what the message contains
pub record EachSaid (s : Server) (m : ToServer) (P : Case → Type 0) : Type 0 where
  pub ignored : P Ignored
  pub registers : m.client < max_clients → incarnation_or_0 (record_of s.durable.register m.client) < m.incarnation → m.body ≡ said.Hello → P Registers
  pub leaves : (r : Record) → IsFrom s m r → m.body ≡ said.Bye → P Leaves
  pub tells : P Tells
  pub alarms : (r : Record) (epoch : ℕ) (pieces : Pieces) → IsFrom s m r → m.body ≡ said.Report epoch pieces → epoch ≡ s.durable.epoch → lists s.missing m.client ≡ true → conflicts s.durable.index s.rows m.client pieces ≡ true → P Alarms
  pub rebuilds : (r : Record) (epoch : ℕ) (pieces : Pieces) → IsFrom s m r → m.body ≡ said.Report epoch pieces → epoch ≡ s.durable.epoch → lists s.missing m.client ≡ true → conflicts s.durable.index s.rows m.client pieces ≡ false → P (Rebuilds pieces)
  pub repeats : (r : Record) (body : PushBody) → IsServed s m r → (s.sessions m.client).unacked ≡ Some body → P (Repeats body)
  pub acknowledges : (r : Record) (request : Request) (b : RequestBody) → IsAsked s m r request b → P Acknowledges
  pub lowers : (r : Record) (request : Request) (span : Bounds) (keep : Mode) → IsAsked s m r request (asked.Release span keep) → P (Lowers span keep)
  pub waits : (r : Record) (request : Request) (req point hi : ℕ) (g : Mode) → IsAsked s m r request (asked.Lock req point hi g) → req ≡ suc (s.sessions m.client).last_request → waits s.durable.index s.rows m.client ≡ false → point ≤ END → P (Waits req point hi g)
  pub judges : (r : Record) (request : Request) (number : ℕ) (op : WriteOp) (seizes : Bool) (o : Outcome) → IsAsked s m r request (asked.Write number op seizes) → op_key op < END → number ≤ END → number ≡ suc r.last → judged s m.client op ≡ o → P (Judges number op o)
  pub seizes : (r : Record) (request : Request) (number : ℕ) (op : WriteOp) (seizes : Bool) → IsAsked s m r request (asked.Write number op seizes) → op_key op < END → number ≤ END → number ≡ suc r.last → may_seize s m.client op ≡ true → P (SeizesLock number op)
  pub answers_again : (r : Record) (request : Request) (number : ℕ) (op : WriteOp) (seizes : Bool) (o : Outcome) → IsAsked s m r request (asked.Write number op seizes) → op_key op < END → 1 ≤ number → number ≡ r.last → r.outcome ≡ Some o → P (AnswersAgain number op o)

module _ (s : Server) (m : ToServer) (P : Case → Type 0) (each : EachSaid s m P) where
  of_newer : m.client < max_clients → incarnation_or_0 (record_of s.durable.register m.client) < m.incarnation → (b : ToServerBody) → m.body ≡ b → P (case_of_newer b)
  of_newer lt newer said.Hello e = each.registers lt newer e
  of_newer lt newer said.Bye e = each.ignored
  of_newer lt newer (said.Report epoch pieces) e = each.ignored
  of_newer lt newer (said.Request request) e = each.ignored

  module _ (r : Record) (from : IsFrom s m r) where
    of_report : (epoch : ℕ) (pieces : Pieces) → m.body ≡ said.Report epoch pieces → epoch ≡ s.durable.epoch → P (case_of_report s m.client pieces)
    of_report epoch pieces is now = if_case P (lists s.missing m.client) _ Ignored
        (λ yes. if_case P (conflicts s.durable.index s.rows m.client pieces) Alarms (Rebuilds pieces) (λ bad. each.alarms r epoch pieces from is now yes bad) (λ fine. each.rebuilds r epoch pieces from is now yes fine))
        (λ no. each.ignored)

    module _ (request : Request) (is : m.body ≡ said.Request request) (now : request.epoch ≡ s.durable.epoch) (serves : is_recovering s.missing ≡ false) where
      served : IsServed s m r
      served = record { from = from; serves = serves }

      of_last : (number : ℕ) (op : WriteOp) (seizes : Bool) (o : Option Outcome) → IsAsked s m r request (asked.Write number op seizes) → op_key op < END → 1 ≤ number → number ≡ r.last → r.outcome ≡ o → P (case_of_repeated_write number op o)
      of_last number op seizes None a under some last e = each.acknowledges r request (asked.Write number op seizes) a
      of_last number op seizes (Some o) a under some last e = each.answers_again r request number op seizes o a under some last e

      of_new_write : (number : ℕ) (op : WriteOp) (seizes : Bool) → IsAsked s m r request (asked.Write number op seizes) → op_key op < END → number ≤ END → number ≡ suc r.last → P (case_of_new_write s m.client number op seizes)
      of_new_write number op seizes a under near new = if_case P (seizes && may_seize s m.client op) (SeizesLock number op) (Judges number op (judged s m.client op))
          (λ yes. each.seizes r request number op seizes a under near new (and_parts seizes (may_seize s m.client op) yes).1)
          (λ no. each.judges r request number op seizes (judged s m.client op) a under near new refl)

      of_write : (number : ℕ) (op : WriteOp) (seizes : Bool) → IsAsked s m r request (asked.Write number op seizes) → P (case_of_write s m.client r number op seizes)
      of_write number op seizes a = if_case P (is_bad_write number op) Acknowledges _ (λ bad. each.acknowledges r request (asked.Write number op seizes) a)
          (λ fine.
          let x = or_parts (not (nat_lt (op_key op) END)) (nat_eq number 0 || nat_lt END number) fine in
          let y = or_parts (nat_eq number 0) (nat_lt END number) x.1 in
          let under = ltb-true (op_key op) END (not-false (nat_lt (op_key op) END) x.0) in
          let ne = eqb-false number 0 y.0 in
          if_case P (nat_eq number (suc r.last)) _ _
          (λ new. of_new_write number op seizes a under (ltb-false END number y.1) (eqb-true number (suc r.last) new))
          (λ old. if_case P (nat_eq number r.last) _ Acknowledges (λ last. of_last number op seizes r.outcome a under (omega (arith, ne)) (eqb-true number r.last last) refl) (λ other. each.acknowledges r request (asked.Write number op seizes) a)))

      of_request : (b : RequestBody) → IsAsked s m r request b → P (case_of_request s m.client r b)
      of_request (asked.Lock req point hi g) a = if_case P (nat_eq req (suc (s.sessions m.client).last_request) && (not (waits s.durable.index s.rows m.client) && has_points point hi)) (Waits req point hi g) Acknowledges
          (λ yes.
          let x = and_parts (nat_eq req (suc (s.sessions m.client).last_request)) (not (waits s.durable.index s.rows m.client) && has_points point hi) yes in
          let y = and_parts (not (waits s.durable.index s.rows m.client)) (has_points point hi) x.1 in
          let z = and_parts (not (nat_lt END point)) (nat_lt point hi && nat_le hi TOP) y.1 in
          each.waits r request req point hi g a (eqb-true req (suc (s.sessions m.client).last_request) x.0) (not-true (waits s.durable.index s.rows m.client) y.0) (ltb-false END point (not-true (nat_lt END point) z.0)))
          (λ no. each.acknowledges r request (asked.Lock req point hi g) a)
      of_request (asked.Write number op seizes) a = of_write number op seizes a
      of_request (asked.Release span keep) a = each.lowers r request span keep a
      of_request asked.Ack a = each.acknowledges r request asked.Ack a

      of_late : (o : Option PushBody) → (s.sessions m.client).unacked ≡ o → P (case_of_late request.seen (s.sessions m.client).last_push o)
      of_late None e = each.ignored
      of_late (Some body) e = if_case P (nat_eq (suc request.seen) (s.sessions m.client).last_push) (Repeats body) Ignored (λ yes. each.repeats r body served e) (λ no. each.ignored)

      of_seen : P (case_of_seen s m.client r request)
      of_seen = if_case P (nat_eq request.seen (s.sessions m.client).last_push) _ _
          (λ yes. of_request request.body (record { served = served; said = is; now = now; seen = eqb-true request.seen (s.sessions m.client).last_push yes; asked = refl }))
          (λ no. of_late (s.sessions m.client).unacked refl)

    of_body : (b : ToServerBody) → m.body ≡ b → P (case_of_body s m.client r b)
    of_body said.Hello is = each.tells
    of_body said.Bye is = each.leaves r from is
    of_body (said.Report epoch pieces) is = if_case P (nat_eq epoch s.durable.epoch) _ Tells (λ yes. of_report epoch pieces is (eqb-true epoch s.durable.epoch yes)) (λ no. each.tells)
    of_body (said.Request request) is = if_case P (nat_eq request.epoch s.durable.epoch) _ Tells
        (λ yes. if_case P (is_recovering s.missing) Ignored _ (λ recovers. each.ignored) (λ serves. of_seen request is (eqb-true request.epoch s.durable.epoch yes) serves))
        (λ no. each.tells)

  of_record : m.client < max_clients → 1 ≤ m.incarnation → (o : Option Record) → record_of s.durable.register m.client ≡ o → P (case_of_record s m o)
  of_record lt some None e = of_newer lt (subst (λ o. incarnation_or_0 o < m.incarnation) (sym e) (omega (arith, some))) m.body refl
  of_record lt some (Some r) e = if_case P (nat_lt r.incarnation m.incarnation) _ _
      (λ newer. of_newer lt (subst (λ o. incarnation_or_0 o < m.incarnation) (sym e) (ltb-true r.incarnation m.incarnation newer)) m.body refl)
      (λ not_newer. if_case P (nat_lt m.incarnation r.incarnation || r.left) Ignored _ (λ out. each.ignored)
      (λ fine. let x = or_parts (nat_lt m.incarnation r.incarnation) r.left fine in
      let up = ltb-false r.incarnation m.incarnation not_newer in let down = ltb-false m.incarnation r.incarnation x.0 in
      of_body r (record { client = lt; known = e; same = omega (arith, up, down); here = x.1 }) m.body refl))

  -- what holds in each case holds of the case that the message meets
  pub by_said : P (case_of s m)
  by_said = if_case P (is_malformed m) Ignored _ (λ malformed. each.ignored)
      (λ fine.
      let x = or_parts (not (nat_lt m.client max_clients)) (nat_eq m.incarnation 0 || nat_lt END m.incarnation) fine in
      let y = or_parts (nat_eq m.incarnation 0) (nat_lt END m.incarnation) x.1 in
      of_record (ltb-true m.client max_clients (not-false (nat_lt m.client max_clients) x.0)) (let ne = eqb-false m.incarnation 0 y.0 in omega (arith, ne)) (record_of s.durable.register m.client) refl)

-- the same for what does not depend on what the message contains
pub record EachCase (s : Server) (m : ToServer) (P : Case → Type 0) : Type 0 where
  pub ignored : P Ignored
  pub registers : m.client < max_clients → incarnation_or_0 (record_of s.durable.register m.client) < m.incarnation → m.body ≡ said.Hello → P Registers
  pub leaves : (r : Record) → IsFrom s m r → P Leaves
  pub tells : P Tells
  pub alarms : P Alarms
  pub rebuilds : (r : Record) (epoch : ℕ) (pieces : Pieces) → IsFrom s m r → epoch ≡ s.durable.epoch → lists s.missing m.client ≡ true → conflicts s.durable.index s.rows m.client pieces ≡ false → P (Rebuilds pieces)
  pub repeats : (r : Record) (body : PushBody) → IsServed s m r → (s.sessions m.client).unacked ≡ Some body → P (Repeats body)
  pub acknowledges : (r : Record) → IsServed s m r → P Acknowledges
  pub lowers : (r : Record) (span : Bounds) (keep : Mode) → IsServed s m r → P (Lowers span keep)
  pub waits : (r : Record) (req point hi : ℕ) (g : Mode) → IsServed s m r → req ≡ suc (s.sessions m.client).last_request → waits s.durable.index s.rows m.client ≡ false → point ≤ END → P (Waits req point hi g)
  pub judges : (r : Record) (number : ℕ) (op : WriteOp) (o : Outcome) → IsServed s m r → op_key op < END → number ≤ END → number ≡ suc r.last → judged s m.client op ≡ o → P (Judges number op o)
  pub seizes : (r : Record) (number : ℕ) (op : WriteOp) → IsServed s m r → op_key op < END → number ≤ END → number ≡ suc r.last → may_seize s m.client op ≡ true → P (SeizesLock number op)
  pub answers_again : (r : Record) (number : ℕ) (op : WriteOp) (o : Outcome) → IsServed s m r → op_key op < END → 1 ≤ number → number ≡ r.last → r.outcome ≡ Some o → P (AnswersAgain number op o)

pub by_case : (s : Server) (m : ToServer) (P : Case → Type 0) → EachCase s m P → P (case_of s m)
by_case s m P each = by_said s m P
    (record {
      ignored = each.ignored;
      registers = each.registers;
      leaves = λ r from is. each.leaves r from;
      tells = each.tells;
      alarms = λ r epoch pieces from is now missing bad. each.alarms;
      rebuilds = λ r epoch pieces from is now missing fine. each.rebuilds r epoch pieces from now missing fine;
      repeats = each.repeats;
      acknowledges = λ r request b a. each.acknowledges r a.served;
      lowers = λ r request span keep a. each.lowers r span keep a.served;
      waits = λ r request req point hi g a new free near. each.waits r req point hi g a.served new free near;
      judges = λ r request number op seizes o a under near new is. each.judges r number op o a.served under near new is;
      seizes = λ r request number op seizes a under near new may. each.seizes r number op a.served under near new may;
      answers_again = λ r request number op seizes o a under some last is. each.answers_again r number op o a.served under some last is;
    })
