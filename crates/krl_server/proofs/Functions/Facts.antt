-- What holds of the message in the case that was found, and what performing it comes to.
use Rattle.krl_server.proofs.Names.{◌≡◌, ℕ, ◌≤◌, ◌<◌, Bool, true, false, not, ◌||◌, nat_eq, ltb-false, Option, Some, None, List, refl, sym, ap, subst, ◌∙◌, arith, eqb-false, or_parts, nat_lt}
use Rattle.krl_server.proofs.Names.{is_some, IsSome, IsSomeAnd, if◌then◌else◌, END, ToClient, ToServer, Pieces, WriteOp, Outcome, op_key, Record, Index, slots, is_slot, IsIncarnation, record_of}
use Rattle.krl_server.proofs.Names.{first_of, Rows, max_clients, waits, conflicts, IsTable, Server, Case, Ignored, Registers, Leaves, Tells, Alarms, Rebuilds, Repeats, Acknowledges, Lowers, Waits}
use Rattle.krl_server.proofs.Names.{PushBody, pushed_again, case_of_unacked, Judges, SeizesLock, may_seize, seizes, judged, case_of_new_write, AnswersAgain, is_malformed, case_of_record, case_of, acknowledged, writes, tells_outcome, effect, meant, case_of_pieces, WaitsNowhere, IsPerformed}
use Rattle.krl_messages.specs.declared.to_server.ToServerBody.TheVariants as said
use Rattle.krl_messages.specs.declared.outcome.Outcome.TheVariants as outcome
use Rattle.krl_durable.specs.declared.change.Change.TheVariants as change
use Rattle.krl_server.specs.Changes.{change_of}
use Rattle.krl_server.specs.declared.case.Case.{Case as Found}
use Rattle.krl_server.specs.declared.case.Case.TheVariants as found
use Rattle.krl_server.specs.declared.case.After.TheVariants as after
use Rattle.krl_modes.proofs.Basics.{None-if_not_some}
use Rattle.krl_server.proofs.Tests.{if_case, if_both}
use Rattle.krl_server.proofs.Cased.{by_said}
use Rattle.krl_server.proofs.Outputs.Numbers.{sixty_four}
use Rattle.krl_server.proofs.Invariant.Tabled.{slots_have, any_in}

-- the sender is a client whose record can note another write
pub record MayWrite (s : Server) (m : ToServer) (op : WriteOp) : Type 0 where
  pub client : m.client < 64
  pub key : op_key op < END
  pub unspent : IsSomeAnd (record_of s.durable.register m.client) (λ r. r.last < END)

-- and the lock that the write needs is free
pub record MaySeizeLock (s : Server) (m : ToServer) (op : WriteOp) : Type 0 where
  pub write : MayWrite s m op
  pub lock : may_seize s m.client op ≡ true

pub record MayWait (s : Server) (m : ToServer) : Type 0 where
  pub client : m.client < 64
  pub free : waits s.durable.index s.rows m.client ≡ false

pub record MayAnswer (m : ToServer) (op : WriteOp) : Type 0 where
  pub client : m.client < 64
  pub key : op_key op < END

pub record MayRegister (m : ToServer) : Type 0 where
  pub client : m.client < 64
  pub incarnation : IsIncarnation m.incarnation

pub record MayLeave (s : Server) (m : ToServer) : Type 0 where
  pub client : m.client < 64
  pub known : IsSome (record_of s.durable.register m.client)

abbrev pub CaseFacts : Server → ToServer → Case → Type 0
CaseFacts s m Ignored = Unit {0}
CaseFacts s m Registers = MayRegister m
CaseFacts s m Leaves = MayLeave s m
CaseFacts s m Tells = Unit {0}
CaseFacts s m Alarms = m.client < 64
CaseFacts s m (Rebuilds pieces) = m.client < 64
CaseFacts s m (Repeats body) = m.client < 64
CaseFacts s m Acknowledges = m.client < 64
CaseFacts s m (Lowers span keep) = m.client < 64
CaseFacts s m (Waits req point hi g) = MayWait s m
CaseFacts s m (Judges number op o) = MayWrite s m op
CaseFacts s m (SeizesLock number op) = MaySeizeLock s m op
CaseFacts s m (AnswersAgain number op o) = MayAnswer m op

module _ (s : Server) (m : ToServer) where
  low : m.client < max_clients → m.client < 64
  low lt = subst (λ k. m.client < k) sixty_four lt

  noted_at : (o : Option Record) (r : Record) → o ≡ Some r → r.last < END → IsSomeAnd o (λ r. r.last < END)
  noted_at o r e lt = subst (λ o. IsSomeAnd o (λ r. r.last < END)) (sym e) lt

  some_at : (o : Option Record) (r : Record) → o ≡ Some r → IsSome o
  some_at o r e = subst (λ o. IsSome o) (sym e) refl

  facts_said : 1 ≤ m.incarnation → m.incarnation ≤ END → CaseFacts s m (case_of s m)
  facts_said some high = by_said s m (CaseFacts s m)
      (record {
        ignored = tt;
        registers = λ lt newer body. record { client = low lt; incarnation = (some, high) };
        leaves = λ r from body. record { client = low from.client; known = some_at (record_of s.durable.register m.client) r from.known };
        tells = tt;
        alarms = λ r epoch pieces from body now missing bad. low from.client;
        rebuilds = λ r epoch pieces from body now missing fine. low from.client;
        repeats = λ r body served unacked. low served.from.client;
        acknowledges = λ r request b a. low a.served.from.client;
        lowers = λ r request span keep a. low a.served.from.client;
        waits = λ r request req point hi g a new free near. record { client = low a.served.from.client; free = free };
        judges = λ r request number op seizes o a under near new is. record { client = low a.served.from.client; key = under; unspent = noted_at (record_of s.durable.register m.client) r a.served.from.known (omega (arith, near, new)) };
        seizes = λ r request number op seizes a under near new may. record { write = record { client = low a.served.from.client; key = under; unspent = noted_at (record_of s.durable.register m.client) r a.served.from.known (omega (arith, near, new)) }; lock = may };
        answers_again = λ r request number op seizes o a under some last is. record { client = low a.served.from.client; key = under };
      })

  -- a malformed message is ignored
  pub all_facts : CaseFacts s m (case_of s m)
  all_facts = if_case (λ k. CaseFacts s m k) (is_malformed m) Ignored (case_of_record s m (record_of s.durable.register m.client))
      (λ malformed. tt)
      (λ fine.
      let x = or_parts (not (nat_lt m.client max_clients)) (nat_eq m.incarnation 0 || nat_lt END m.incarnation) fine in
      let y = or_parts (nat_eq m.incarnation 0) (nat_lt END m.incarnation) x.1 in
      subst (CaseFacts s m) (ap (λ b. if b then Ignored else case_of_record s m (record_of s.durable.register m.client)) fine)
      (facts_said (let ne = eqb-false m.incarnation 0 y.0 in omega (arith, ne)) (ltb-false END m.incarnation y.1)))

  -- what holds in the case that was found
  pub facts_of : (f g : Found) → meant s m.client m.body f ≡ case_of s m → f ≡ g → CaseFacts s m (meant s m.client m.body g)
  facts_of f g e is = subst (λ x. CaseFacts s m (meant s m.client m.body x)) is (subst (CaseFacts s m) (sym e) all_facts)

  -- and if it is a report
  pub reporter : (epoch : ℕ) (pieces : Pieces) → case_of_pieces s m.client m.body ≡ case_of s m → m.body ≡ said.Report epoch pieces → m.client < 64
  reporter epoch pieces e is = by_conflict (conflicts s.durable.index s.rows m.client pieces) (subst (λ b. CaseFacts s m (case_of_pieces s m.client b)) is (subst (CaseFacts s m) (sym e) all_facts))
    where
      by_conflict : (b : Bool) → CaseFacts s m (if b then Alarms else Rebuilds pieces) → m.client < 64
      by_conflict true h = h
      by_conflict false h = h

  -- a push was sent again
  pub performed_repeat : (o : Option PushBody) (outs : List ToClient) → case_of_unacked o ≡ case_of s m → outs ≡ pushed_again s m.client o → IsPerformed s m s after.Nothing outs
  performed_repeat None outs e sent = record {
    server = ap (λ k. (effect s m k).server) e;
    outs_are = sent ∙ ap (λ k. (effect s m k).outs) e;
    after = ap Rattle.krl_server.specs.FoundCases.after_of e;
  }
  performed_repeat (Some body) outs e sent = record {
    server = ap (λ k. (effect s m k).server) e;
    outs_are = sent ∙ ap (λ k. (effect s m k).outs) e;
    after = ap Rattle.krl_server.specs.FoundCases.after_of e;
  }

  -- a new write was done and answered
  pub performed_write : (t : Server) (number : ℕ) (op : WriteOp) (o : Outcome) (outs : List ToClient) → Judges number op o ≡ case_of s m → t ≡ (tells_outcome (acknowledged (writes s m.client op o) m.client) m.client number op o).server → outs ≡ (tells_outcome (acknowledged (writes s m.client op o) m.client) m.client number op o).outs → IsPerformed s m t after.Calls outs
  performed_write t number op o outs e server sent = record {
    server = server ∙ ap (λ k. (effect s m k).server) e;
    outs_are = sent ∙ ap (λ k. (effect s m k).outs) e;
    after = ap Rattle.krl_server.specs.FoundCases.after_of e;
  }

  -- and what holds of a write that asks for its lock, whether it takes it or not
  write_facts : (number : ℕ) (op : WriteOp) → CaseFacts s m (case_of_new_write s m.client number op true) → MayWrite s m op
  write_facts number op = if_both (λ k. CaseFacts s m k → MayWrite s m op) (may_seize s m.client op) (SeizesLock number op) (Judges number op (judged s m.client op)) (λ h. h.write) (λ h. h)

  pub taking_facts : (f : Found) (number : ℕ) (op : WriteOp) → meant s m.client m.body f ≡ case_of s m → f ≡ found.SeizesLock number op → MayWrite s m op
  taking_facts f number op e is = write_facts number op (facts_of f (found.SeizesLock number op) e is)

  -- it was done and answered
  pub performed_taking : (t : Server) (number : ℕ) (op : WriteOp) (o : Outcome) (x : Server) (outs : List ToClient) → case_of_new_write s m.client number op true ≡ case_of s m → o ≡ (if may_seize s m.client op then outcome.Applied else judged s m.client op) → x ≡ (if may_seize s m.client op then writes (seizes s m.client op) m.client op outcome.Applied else writes s m.client op (judged s m.client op)) → t ≡ (tells_outcome (acknowledged x m.client) m.client number op o).server → outs ≡ (tells_outcome (acknowledged x m.client) m.client number op o).outs → IsPerformed s m t after.Calls outs
  performed_taking t number op o x outs e is written server sent = by_test (may_seize s m.client op) refl
    where
      done : (k : Case) (p : Outcome) (y : Server) → k ≡ case_of s m → o ≡ p → x ≡ y → effect s m k ≡ tells_outcome (acknowledged y m.client) m.client number op p → Rattle.krl_server.specs.FoundCases.after_of k ≡ after.Calls → IsPerformed s m t after.Calls outs
      done k p y same o_is x_is effect_is calls =
          let all = ap (λ z. tells_outcome (acknowledged z m.client) m.client number op o) x_is ∙ ap (λ z. tells_outcome (acknowledged y m.client) m.client number op z) o_is ∙ sym effect_is ∙ ap (effect s m) same in
          record {
            server = server ∙ ap (λ d. d.server) all;
            outs_are = sent ∙ ap (λ d. d.outs) all;
            after = sym calls ∙ ap Rattle.krl_server.specs.FoundCases.after_of same;
          }

      by_test : (b : Bool) → may_seize s m.client op ≡ b → IsPerformed s m t after.Calls outs
      by_test true f = done (SeizesLock number op) outcome.Applied (writes (seizes s m.client op) m.client op outcome.Applied)
          (sym (ap (λ b. if b then SeizesLock number op else Judges number op (judged s m.client op)) f) ∙ e)
          (is ∙ ap (λ b. if b then outcome.Applied else judged s m.client op) f)
          (written ∙ ap (λ b. if b then writes (seizes s m.client op) m.client op outcome.Applied else writes s m.client op (judged s m.client op)) f) refl refl
      by_test false f = done (Judges number op (judged s m.client op)) (judged s m.client op) (writes s m.client op (judged s m.client op))
          (sym (ap (λ b. if b then SeizesLock number op else Judges number op (judged s m.client op)) f) ∙ e)
          (is ∙ ap (λ b. if b then outcome.Applied else judged s m.client op) f)
          (written ∙ ap (λ b. if b then writes (seizes s m.client op) m.client op outcome.Applied else writes s m.client op (judged s m.client op)) f) refl refl

  -- and it is the change that the step reports
  pub changed_taking : (number : ℕ) (op : WriteOp) (o : Outcome) → case_of_new_write s m.client number op true ≡ case_of s m → o ≡ (if may_seize s m.client op then outcome.Applied else judged s m.client op) → Some (change.Judged m.client number op o) ≡ change_of m (case_of s m)
  changed_taking number op o e is = by_test (may_seize s m.client op) refl
    where
      by_test : (b : Bool) → may_seize s m.client op ≡ b → Some (change.Judged m.client number op o) ≡ change_of m (case_of s m)
      by_test true f = ap (λ p. Some (change.Judged m.client number op p)) (is ∙ ap (λ b. if b then outcome.Applied else judged s m.client op) f)
          ∙ ap (change_of m) (sym (ap (λ b. if b then SeizesLock number op else Judges number op (judged s m.client op)) f) ∙ e)
      by_test false f = ap (λ p. Some (change.Judged m.client number op p)) (is ∙ ap (λ b. if b then outcome.Applied else judged s m.client op) f)
          ∙ ap (change_of m) (sym (ap (λ b. if b then SeizesLock number op else Judges number op (judged s m.client op)) f) ∙ e)

  -- the last write was answered again
  pub performed_again : (t : Server) (number : ℕ) (op : WriteOp) (o : Outcome) (outs : List ToClient) → AnswersAgain number op o ≡ case_of s m → t ≡ (tells_outcome (acknowledged s m.client) m.client number op o).server → outs ≡ (tells_outcome (acknowledged s m.client) m.client number op o).outs → IsPerformed s m t after.Calls outs
  performed_again t number op o outs e server sent = record {
    server = server ∙ ap (λ k. (effect s m k).server) e;
    outs_are = sent ∙ ap (λ k. (effect s m k).outs) e;
    after = ap Rattle.krl_server.specs.FoundCases.after_of e;
  }

-- a client that waits on no slot waits nowhere
pub waits_nowhere : (m : Index) (rows : Rows) (c : ℕ) → IsTable m rows → waits m rows c ≡ false → WaitsNowhere rows c
waits_nowhere m rows c table e n = by_slot (is_slot m n) refl
  where
    by_slot : (b : Bool) → is_slot m n ≡ b → first_of c (rows n).queue ≡ None
    by_slot true f = None-if_not_some (first_of c (rows n).queue) (any_in (λ k. is_some (first_of c (rows k).queue)) (slots m) n e (slots_have m n f))
    by_slot false f = ap (λ r. first_of c r.queue) (table.blank n f)
