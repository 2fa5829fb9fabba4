-- Each step of a world has some outcome, and each list of entries begins a world or is refused.
use Rattle.std.proofs.Common.{◌≡◌, ◌≢◌, ℕ, zero, suc, ◌+◌, ◌-◌, ◌≤◌, ◌<◌, Bool, true, false, List, [], ◌∷◌, length, Option, None, Some, Result, Ok, Err, refl, sym, subst, arith, ◌⊎◌, inl, inr}
use Rattle.std.proofs.lemmas.Bool.{cases_lt}
use Rattle.std.proofs.lemmas.Bool.Decides.{nat_tests, eqb_tells}
use Rattle.std.specs.Prelude.{is_some, cond, not}
use Rattle.krl_modes.specs.declared.point.TheConstants.{END}
use Rattle.krl_modes.specs.Spans.{Bounds}
use Rattle.krl_modes.specs.declared.limits.TheConstants.{STANDARD_ROOM}
use Rattle.krl_messages.specs.Values.{Value}
use Rattle.krl_messages.specs.declared.to_server.ToServer.{ToServer}
use Rattle.krl_messages.specs.declared.to_client.ToClient.{ToClient}
use Rattle.krl_messages.specs.declared.write_op.WriteOp.{WriteOp}
use Rattle.krl_messages.specs.Writes.{op_key}
use Rattle.krl_cache.specs.Beliefs.{Belief, is_span, is_covered, CoversAll, IsLeastUncovered}
use Rattle.krl_client.specs.Clients.{Client, outstanding, is_writing_in, free_pin}
use Rattle.krl_client.specs.Splits.{is_in}
use Rattle.krl_client.specs.Commands.{ScanGives, is_pending, misses, due, first_reason}
use Rattle.krl_client.specs.declared.refused.CommandRefused.{CommandRefused}
use Rattle.krl_client.specs.declared.refused.CommandRefused.TheVariants as client
use Rattle.krl_client.specs.declared.scan_answer.ScanAnswer.TheVariants as scanned
use Rattle.krl_world.specs.declared.message.Message.{Message}
use Rattle.krl_world.specs.declared.message.Message.TheVariants as message
use Rattle.krl_steps.specs.declared.step.Step.{Step}
use Rattle.krl_steps.specs.declared.step.Step.TheVariants as step
use Rattle.krl_steps.specs.declared.step.Command.{Command}
use Rattle.krl_steps.specs.declared.step.Command.TheVariants as command
use Rattle.krl_steps.specs.declared.answer.Answer.{Answer}
use Rattle.krl_steps.specs.declared.answer.Answer.TheVariants as told
use Rattle.krl_steps.specs.declared.refused.Refused.{Refused}
use Rattle.krl_steps.specs.declared.refused.Refused.TheVariants as refused
use Rattle.krl_world.specs.States.{State, ServerPlace, Up, Down, client_of}
use Rattle.krl_durable.specs.InitialEntries.{key_of_entry, stands_before, IsGood, AreGood}
use Rattle.krl_durable.specs.declared.refused.EntriesRefused.TheVariants as index
use Rattle.krl_world.specs.Steps.{CanBegin, CannotBegin, span, named, if_runs, command_refusal, server_down, message_at, refusal_of, Arrives, ServerReads, ClientReads, Delivers, NeedsMemory, Does, Steps}
use Rattle.krl_steps.specs.Refusals.{refused_by_client}
use Rattle.krl_world.proofs.Refinement.Taken.{client_ok}

-- what is reported of a step
abbrev Outcome : State → Step → Type 0
Outcome w s = (o : Result Answer Refused) × (w' : State) × Steps w s o w'

-- memory may be refused to a step that takes some
starved : (w : State) (s : Step) → refusal_of w s ≡ None → NeedsMemory w s → Outcome w s
unfolding Steps
starved w s e m = (Err refused.OutOfMemory, w, (refl, inr (e, refl, m)))

taken : (w w' : State) (s : Step) (answer : Answer) → refusal_of w s ≡ None → Does w s answer w' → Outcome w s
unfolding Steps
taken w w' s answer e d = (Ok answer, w', (e, d))

-- Deliveries

server_reads : (w : State) (s : ServerPlace) (m : ToServer) → (server_down s ≡ None) ⊎ ServerReads w s m w
server_reads w (Up s) m = inl refl
server_reads w (Down d) m = inr refl

client_reads : (w : State) (k : Option Client) (m : ToClient) → (is_some k ≡ true) ⊎ ClientReads w k m w
client_reads w None m = inr refl
client_reads w (Some k) m = inl refl

arrives : (w : State) (arrived : Option Message) → cond (is_some arrived) None (Some refused.NoMessage) ≡ None → Arrives w arrived ⊎ Delivers w arrived w
arrives w None e = absurd (let bad : ◌≡◌ {A = Option Refused} (Some refused.NoMessage) None = e in cc)
arrives w (Some (message.ToServer m)) e = server_reads w w.server m
arrives w (Some (message.ToClient m)) e = client_reads w (client_of w m.client) m

some_delivery : (w : State) (i : ℕ) → refusal_of w (step.Deliver i) ≡ None → Outcome w (step.Deliver i)
some_delivery w i e =
    elim (arrives w (message_at w.sent i) e) [
      | inl m ↦ starved w (step.Deliver i) e m
      | inr d ↦ taken w w (step.Deliver i) told.Done e (refl, d)
    ]

-- Commands

named_none : (r : Option CommandRefused) → named refused_by_client r ≡ None → r ≡ None
named_none None e = refl
named_none (Some r) e = absurd (let bad : ◌≡◌ {A = Option Refused} (Some (refused_by_client r)) None = e in cc)

-- a client that isn't refused runs
runs : (k : Option Client) (what : Command) → if_runs k (λ x. named refused_by_client (command_refusal x what)) ≡ None → (x : Client) × (k ≡ Some x) × (command_refusal x what ≡ None)
runs None what e = absurd (let bad : ◌≡◌ {A = Option Refused} (Some refused.Down) None = e in cc)
runs (Some k) what e = (k, refl, named_none (command_refusal k what) e)

-- the client knows n points from lo on, or there is a least one that it doesn't know
abbrev Known : Belief → ℕ → ℕ → Type 0
Known b lo n = CoversAll b (span lo (lo + n)) ⊎ ((p : ℕ) × IsLeastUncovered b (span lo (lo + n)) p)

known_or_not : (b : Belief) (lo n : ℕ) → Known b lo n
known_or_not b lo zero = inl (λ p h. absurd (omega (arith, h.0, h.1)))
known_or_not b lo (suc n) =
    elim (known_or_not b lo n) [
      | inl all ↦
          elim (is_covered b (lo + n)) as (λ (v : Bool). is_covered b (lo + n) ≡ v → Known b lo (suc n)) [
            | true ↦ λ v. inl (λ p h.
                elim (eqb_tells p (lo + n)) [
                  | inl e ↦ subst (λ (q : ℕ). is_covered b q ≡ true) (sym e.1) v
                  | inr ne ↦ all p (h.0, grind (arith, nat_tests, ne.1, h.1))
                ])
            | false ↦ λ v. inr (lo + n, record { point = (omega arith, omega arith); uncovered = v; least = λ q l h. all q (l, h) })
          ] refl
      | inr miss ↦ inr (miss.0, record { point = (miss.1.point.0, omega (arith, miss.1.point.1)); uncovered = miss.1.uncovered; least = miss.1.least })
    ]

writes_there : (k : Client) (s : Bounds) (o : Option WriteOp) → outstanding k.written ≡ o → is_in s o ≡ true → (key : ℕ) × ScanGives k s (scanned.Pending key)
writes_there k s None e h = absurd (let bad : false ≡ true = h in cc)
writes_there k s (Some change) e h = (op_key change, is_pending change e h)

some_scan : (w : State) (c lo hi : ℕ) (k : Client) → client_of w c ≡ Some k → refusal_of w (step.Command c (command.Scan lo hi)) ≡ None → Outcome w (step.Command c (command.Scan lo hi))
some_scan w c lo hi k is e =
    elim (is_writing_in k (span lo hi)) as (λ (v : Bool). is_writing_in k (span lo hi) ≡ v → Outcome w (step.Command c (command.Scan lo hi))) [
      | true ↦ λ v.
          let found = writes_there k (span lo hi) (outstanding k.written) refl v in
          taken w w (step.Command c (command.Scan lo hi)) (told.Pending found.0) e (k, is, (found.1, refl))
      | false ↦ λ v.
          elim (spans k) [
            | inl all ↦ starved w (step.Command c (command.Scan lo hi)) e (k, is, (v, all))
            | inr miss ↦ taken w w (step.Command c (command.Scan lo hi)) (told.Miss miss.0) e (k, is, (misses miss.0 v miss.1, refl))
          ]
    ] refl
  where
    spans : (x : Client) → CoversAll x.belief (span lo hi) ⊎ ((p : ℕ) × IsLeastUncovered x.belief (span lo hi) p)
    spans x =
        elim (cases_lt hi lo) [
          | inl l ↦ inl (λ p h. absurd (omega (arith, h.0, h.1, l)))
          | inr l ↦
              let at : lo + (hi - lo) ≡ hi = omega (arith, l) in
              subst (λ (n : ℕ). CoversAll x.belief (span lo n) ⊎ ((p : ℕ) × IsLeastUncovered x.belief (span lo n) p)) at (known_or_not x.belief lo (hi - lo))
        ]

-- a pin that isn't refused finds a place
free : (fits : Bool) (place : Option ℕ) → first_reason (due client.BadSpan (not fits) ∷ due client.TooManyPins (not (is_some place)) ∷ []) ≡ None → (id : ℕ) × (place ≡ Some id)
free fits (Some id) e = (id, refl)
free true None e = absurd (let bad : ◌≡◌ {A = Option CommandRefused} (Some client.TooManyPins) None = e in cc)
free false None e = absurd (let bad : ◌≡◌ {A = Option CommandRefused} (Some client.BadSpan) None = e in cc)

some_command : (w : State) (c : ℕ) (what : Command) (k : Client) → client_of w c ≡ Some k → command_refusal k what ≡ None → refusal_of w (step.Command c what) ≡ None → Outcome w (step.Command c what)
some_command w c (command.Lock p hi m) k is may e = starved w (step.Command c (command.Lock p hi m)) e (k, is, tt)
some_command w c (command.Write op) k is may e = starved w (step.Command c (command.Write op)) e (k, is, tt)
some_command w c (command.Seize op) k is may e = starved w (step.Command c (command.Seize op)) e (k, is, tt)
some_command w c (command.Scan lo hi) k is may e = some_scan w c lo hi k is e
some_command w c (command.Lower lo hi keep) k is may e = starved w (step.Command c (command.Lower lo hi keep)) e (k, is, tt)
some_command w c (command.Pin lo hi) k is may e =
    let id = free (is_span (span lo hi)) (free_pin k) may in
    taken w _ (step.Command c (command.Pin lo hi)) (told.Pinned id.0) e (k, is, (id.0, id.1, refl, refl))
some_command w c (command.Unpin id) k is may e = taken w _ (step.Command c (command.Unpin id)) told.Done e (k, is, (refl, refl))
some_command w c command.Leave k is may e = starved w (step.Command c command.Leave) e (k, is, tt)

-- Steps

-- a step that isn't refused
some_taken : (w : State) (s : Step) → refusal_of w s ≡ None → Outcome w s
some_taken w (step.Deliver i) e = some_delivery w i e
some_taken w (step.Command c what) e =
    let x = runs (client_of w c) what (client_ok c (if_runs (client_of w c) (λ k. named refused_by_client (command_refusal k what))) e) in
    some_command w c what x.0 x.1 x.2 e
some_taken w (step.Tick c) e = starved w (step.Tick c) e tt
some_taken w (step.Nudge c) e = starved w (step.Nudge c) e tt
some_taken w (step.StartClient c) e = starved w (step.StartClient c) e tt
some_taken w (step.CrashClient c) e = taken w _ (step.CrashClient c) told.Done e (refl, refl)
some_taken w step.StartServer e = starved w step.StartServer e tt
some_taken w step.CrashServer e = taken w _ step.CrashServer told.Done e (refl, refl)

judged : (w : State) (s : Step) (r : Option Refused) → refusal_of w s ≡ r → Outcome w s
unfolding Steps
judged w s (Some r) e = (Err r, w, (refl, inl e))
judged w s None e = some_taken w s e

pub some_step : (w : State) (s : Step) → (o : Result Answer Refused) × (w' : State) × Steps w s o w'
some_step w s = judged w s (refusal_of w s) refl

-- Beginnings

-- these entries are good, or the first bad one is here
abbrev FirstBad : List (ℕ × Value) → ℕ → Type 0
FirstBad es n = (i : ℕ) × (i < n) × AreGood es i × ((END ≤ key_of_entry es i) ⊎ ((key_of_entry es i < END) × (stands_before es i ≡ true)))

good_or_not : (es : List (ℕ × Value)) (n : ℕ) → AreGood es n ⊎ FirstBad es n
good_or_not es zero = inl (λ i l. absurd (omega arith))
good_or_not es (suc n) =
    elim (good_or_not es n) [
      | inr bad ↦ inr (bad.0, omega (arith, bad.1), bad.2, bad.3)
      | inl all ↦
          elim (cases_lt (key_of_entry es n) END) [
            | inr l ↦ inr (n, omega arith, all, inl l)
            | inl l ↦
                elim (stands_before es n) as (λ (b : Bool). stands_before es n ≡ b → AreGood es (suc n) ⊎ FirstBad es (suc n)) [
                  | true ↦ λ b. inr (n, omega arith, all, inr (l, b))
                  | false ↦ λ b. inl (λ i h.
                      elim (eqb_tells i n) [
                        | inl e ↦ subst (λ (j : ℕ). IsGood es j) (sym e.1) (l, b)
                        | inr ne ↦ all i (grind (arith, nat_tests, ne.1))
                      ])
                ] refl
          ]
    ]

pub can_begin_or_not : (entries : List (ℕ × Value)) → CanBegin entries ⊎ ((r : Refused) × CannotBegin entries r × (r ≢ refused.OutOfMemory))
can_begin_or_not entries =
    elim (cases_lt STANDARD_ROOM (length entries)) [
      | inl l ↦ inr (refused.Full, (index.Full, l, refl), λ e. absurd (let bad : refused.Full ≡ refused.OutOfMemory = e in cc))
      | inr l ↦
          elim (good_or_not entries (length entries)) [
            | inl all ↦ inl (l, all)
            | inr bad ↦
                elim bad.3 [
                  | inl high ↦ inr (refused.BadKey, (index.BadKey, (l, bad.0, bad.1, bad.2, high), refl), λ e. absurd (let other : refused.BadKey ≡ refused.OutOfMemory = e in cc))
                  | inr twice ↦ inr (refused.Twice, (index.Twice, (l, bad.0, bad.1, bad.2, twice.0, twice.1), refl), λ e. absurd (let other : refused.Twice ≡ refused.OutOfMemory = e in cc))
                ]
          ]
    ]
