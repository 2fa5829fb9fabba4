-- How a script continues from line to line.
use Rattle.std.proofs.Common.{◌≡◌, ◌≢◌, ℕ, zero, suc, ◌+◌, ◌<◌, ◌≤◌, true, false, List, [], ◌∷◌, ◌++◌, length, None, Some, Result, Ok, Err, refl, sym, ap, subst, ◌∙◌, inl, inr, arith}
use Rattle.std.proofs.lemmas.Bool.{le-ltb, lt-ltb}
use Rattle.std.proofs.lemmas.List.{append-nil, append_assoc, nil_from_length}
use Rattle.std.specs.Prelude.{OnOk, IfErr, nat_lt, slice_get}
use Rattle.std.specs.Io.KnownBytes.{Appends, Consumes}
use Rattle.std.specs.Str.Lines.{lines}
use Rattle.std.proofs.KnownBytes.{Appends-trans, Appends-nil}
use Rattle.krl_messages.specs.Values.{Value}
use Rattle.krl_world.specs.States.{fresh}
use Rattle.krl_world.specs.Steps.{Steps}
use Rattle.krl_script.proofs.SomeSteps.{some_step, can_begin_or_not}
use Rattle.krl_steps.specs.declared.step.Step.TheVariants as step
use Rattle.krl_steps.specs.declared.answer.Answer.{Answer}
use Rattle.krl_steps.specs.declared.refused.Refused.{Refused}
use Rattle.krl_text.specs.declared.request.Request.{Request}
use Rattle.krl_text.specs.declared.request.Request.TheVariants as request
use Rattle.krl_text.specs.declared.fault.SyntaxFault.{SyntaxFault}
use Rattle.krl_text.specs.declared.fault.SyntaxFault.TheVariants.{TextTooLong}
use Rattle.krl_text.specs.Limits.{max_text, max_deliveries}
use Rattle.krl_text.specs.declared.fault.ScriptFault.{ScriptFault}
use Rattle.krl_text.specs.declared.fault.ScriptFault.TheVariants as script
use Rattle.krl_text.specs.Words.{line_request}
use Rattle.krl_script.specs.Undelivered.{none_waiting}
use Rattle.krl_text.specs.Printing.{outcome_lines, refused_line, unsettled_line, modes_lines, fault_line}
use Rattle.krl_script.specs.Shown.{shown_lines}
use Rattle.krl_script.specs.Transcripts.{Stage, first_stage, counted, waits_after, DeliversOldest, DeliversMany, Settles, filled, Seeds, Obeys, ObeysLine, PrintsLine, Prints, Transcript, End}
use Rattle.krl_script.specs.Runs.{Texts, WroteWhole, WroteFront, Failed, Wrote, EndsInFault, RunsLine, Ran}
use Rattle.krl_text.specs.Transfers.{Known, ComesOfReading, ReadsWhole}

-- a way in which deliveries end, from a stage that was reached by some
abbrev SettlesFrom : ℕ → List ℕ → Stage → Type 0
SettlesFrom most text s = (out : List ℕ) × (s' : Stage) × Settles most text s out s'

-- k more deliveries may come, after n
some_settles_from : (most : ℕ) (text : List ℕ) (k n : ℕ) (s mid : Stage) (waiting : List ℕ) → mid.waits.waiting ≡ waiting → n + k ≡ most → DeliversMany n (record s { begun = true }) mid → SettlesFrom most text s
some_settles_from most text k n s mid [] e total many =
    ([], mid, record { count = n; last = mid; bounded = omega (arith, total); delivers = many; ends = inl (e, refl, refl) })
some_settles_from most text zero n s mid (i ∷ more) e total many =
    let waits : mid.waits.waiting ≢ [] = λ nil. let bad : i ∷ more ≡ [] = sym e ∙ nil in cc in (
      text,
      mid,
      record { count = n; last = mid; bounded = omega (arith, total); delivers = many; ends = inr (inl (omega (arith, total), waits, refl, refl)) },
    )
some_settles_from most text (suc k) n s mid (i ∷ more) e total many =
    let o = some_step mid.world (step.Deliver i) in
    let oldest : slice_get mid.waits.waiting 0 ≡ Some i = ap (λ (xs : List ℕ). slice_get xs 0) e in
    elim o.0 as (λ (r : Result Answer Refused). Steps mid.world (step.Deliver i) r o.1 → SettlesFrom most text s) [
      | Ok answer ↦ λ taken.
          let next : Stage = counted o.1 (waits_after (Ok answer) i mid.waits) in
          let delivered : DeliversOldest mid (Ok answer) next = record { number = i; waits = oldest; delivers = record { world = o.1; steps = taken; leaves = refl } } in
          some_settles_from most text k (suc n) s next next.waits.waiting refl (omega (arith, total)) (mid, many, (answer, delivered))
      | Err r ↦ λ refused.
          let next : Stage = counted o.1 mid.waits in
          let stays : DeliversOldest mid (Err r) next = record { number = i; waits = oldest; delivers = record { world = o.1; steps = refused; leaves = refl } } in
          (refused_line r, next, record { count = n; last = mid; bounded = omega (arith, total); delivers = many; ends = inr (inr (omega (arith, total), (r, stays, refl))) })
    ] o.2

-- deliveries end in some way
some_settles : (most : ℕ) (text : List ℕ) (s : Stage) → SettlesFrom most text s
some_settles most text s = some_settles_from most text most 0 s (record s { begun = true }) s.waits.waiting refl (omega arith) refl

-- a world is made, or the entries are refused
some_seeds : (s : Stage) (entries : List (ℕ × Value)) → (out : List ℕ) × (s' : Stage) × Seeds s entries out s'
some_seeds s entries =
    elim (can_begin_or_not entries) [
      | inl can ↦ ([], record s { begun = true; world = fresh entries }, inl (record { can = can; prints = refl; leaves = refl }))
      | inr refusal ↦ (
        refused_line refusal.0,
        record s { begun = true; world = fresh [] },
        inr (refusal.0, record { due = refusal.1; has_memory = refusal.2; prints = refl; leaves = refl }),
      )
    ]

-- whatever is asked for is done in some way
pub some_obeys : (s : Stage) (request : Request) → (out : List ℕ) × (s' : Stage) × Obeys s request out s'
some_obeys s request.Nothing = ([], s, (refl, refl))
some_obeys s (request.Seed entries) = some_seeds s entries
some_obeys s (request.Fill n) = some_seeds s (filled n)
some_obeys s (request.Step step) =
    let o = some_step s.world step in
    (outcome_lines o.0, counted o.1 s.waits, record { outcome = o.0; world = o.1; steps = o.2; prints = refl; leaves = refl })
some_obeys s (request.Deliver i) =
    let o = some_step s.world (step.Deliver i) in (
      outcome_lines o.0,
      counted o.1 (waits_after o.0 i s.waits),
      record { outcome = o.0; delivers = record { world = o.1; steps = o.2; leaves = refl }; prints = refl },
    )
some_obeys s (request.Next n) = some_settles n [] s
some_obeys s request.Settle = some_settles max_deliveries unsettled_line s
some_obeys s request.Drop = ([], record s { begun = true; waits = none_waiting s.waits }, (refl, refl))
some_obeys s (request.Query what) = (shown_lines s.world what, record s { begun = true }, (refl, refl))
some_obeys s request.Modes = (modes_lines, s, (refl, refl))

some_line : (j : Result Request SyntaxFault) (s : Stage) (n : ℕ) (Rest : Stage → List ℕ → End → Type 0) → ((s' : Stage) → (tail : List ℕ) × (end : End) × Rest s' tail end) → (out : List ℕ) × (end : End) × PrintsLine j s n Rest out end
some_line (Ok request) s n Rest rest =
    let o = some_obeys s request in
    let t = rest o.1 in
    (o.0 ++ t.0, t.1, (o.0, t.0, o.1, o.2, t.2, refl))
some_line (Err what) s n Rest rest = (fault_line n what, Some (n, what), (refl, refl))

-- some transcript continues from each stage
pub some_prints : (s : Stage) (n : ℕ) (ls : List (List ℕ)) → (out : List ℕ) × (end : End) × Prints s n ls out end
some_prints s n [] = ([], None, (refl, refl))
some_prints s n (line ∷ more) =
    some_line (line_request s.begun n line) s n (λ s' tail end. Prints s' (n + 1) more tail end) (λ s'. some_prints s' (n + 1) more)

-- What was written, and what may follow it: all that prints the rest completes what T states.
abbrev pub Continues : Known → Known → Texts → Stage → ℕ → List (List ℕ) → Type 0
Continues before after T s n ls =
    (written : List ℕ) × Appends before after written × ((tail : List ℕ) (end : End) → Prints s n ls tail end → T (written ++ tail) end)

pub continue_first : (before : Known) (s : Stage) (n : ℕ) (ls : List (List ℕ)) → Continues before before (Prints s n ls) s n ls
continue_first before s n ls = ([], Appends-nil before, λ tail end h. h)

pub continue_more : {A : Type 0} (before mid after : Known) (T : Texts) (s s' : Stage) (n : ℕ) (line : List ℕ) (more : List (List ℕ)) (done : A) → Continues before mid T s n (line ∷ more) → RunsLine mid after s n line (Ok done) s' → Continues before after T s' (n + 1) more
continue_more before mid after T s s' n line more done c r = (
  c.0 ++ r.printed,
  Appends-trans before mid after c.0 r.printed c.1 r.appends,
  λ tail end h.
      let next : Prints s n (line ∷ more) (r.printed ++ tail) end = rw r.obeys.asks (r.printed, tail, s', r.obeys.obeys, h, refl) in
      subst (λ (out : List ℕ). T out end) (sym (append_assoc c.0 r.printed tail)) (c.2 (r.printed ++ tail) end next),
)

-- what a front completes
front_on : (before mid after : Known) (T U : Texts) (written : List ℕ) → Appends before mid written → ((tail : List ℕ) (end : End) → U tail end → T (written ++ tail) end) → WroteFront mid after U → WroteFront before after T
front_on before mid after T U written a f w = record {
  front = written ++ w.front;
  rest = w.rest;
  end = w.end;
  appends = Appends-trans before mid after written w.front a w.appends;
  whole = subst (λ (out : List ℕ). T out w.end) (sym (append_assoc written w.front w.rest)) (f (w.front ++ w.rest) w.end w.whole);
}

pub failed_on : (before mid after : Known) (T U : Texts) (written : List ℕ) → Appends before mid written → ((tail : List ℕ) (end : End) → U tail end → T (written ++ tail) end) → (fault : ScriptFault) → Failed mid after U fault → Failed before after T fault
failed_on before mid after T U written a f (script.Read e) w = absurd w
failed_on before mid after T U written a f script.NoEnd w = absurd w
failed_on before mid after T U written a f script.Write w = front_on before mid after T U written a f w
failed_on before mid after T U written a f script.OutOfMemory w = front_on before mid after T U written a f w
failed_on before mid after T U written a f (script.Syntax n what) w =
    record { text = written ++ w.text; appends = Appends-trans before mid after written w.text a w.appends; whole = f w.text (Some (n, what)) w.whole }

pub continue_fault : (before mid after : Known) (T : Texts) (s s' : Stage) (n : ℕ) (line : List ℕ) (more : List (List ℕ)) (fault : ScriptFault) → Continues before mid T s n (line ∷ more) → RunsLine {A = Unit {0}} mid after s n line (Err fault) s' → Failed before after T fault
continue_fault before mid after T s s' n line more fault c r = failed_on before mid after T (Prints s n (line ∷ more)) c.0 c.1 c.2 fault (r more)

-- at the end of the lines
pub continue_end : (before after : Known) (T : Texts) (s : Stage) (n : ℕ) (ls : List (List ℕ)) → ls ≡ [] → Continues before after T s n ls → WroteWhole before after T None
continue_end before after T s n ls e c =
    record { text = c.0; appends = c.1; whole = subst (λ (out : List ℕ). T out None) (append-nil c.0) (c.2 [] None (rw e (refl, refl))) }

whole_wider : (before after : Known) (T U : Texts) → ((out : List ℕ) (end : End) → T out end → U out end) → (end : End) → WroteWhole before after T end → WroteWhole before after U end
whole_wider before after T U f end w = record { text = w.text; appends = w.appends; whole = f w.text end w.whole }

front_wider : (before after : Known) (T U : Texts) → ((out : List ℕ) (end : End) → T out end → U out end) → WroteFront before after T → WroteFront before after U
front_wider before after T U f w = record { front = w.front; rest = w.rest; end = w.end; appends = w.appends; whole = f (w.front ++ w.rest) w.end w.whole }

-- a result is one of a wider relation
pub wrote_wider : {A : Type 0} (before after : Known) (T U : Texts) → ((out : List ℕ) (end : End) → T out end → U out end) → (r : Result A ScriptFault) → Wrote before after T r → Wrote before after U r
wrote_wider before after T U f (Ok done) w = whole_wider before after T U f None w
wrote_wider before after T U f (Err (script.Syntax n what)) w = whole_wider before after T U f (Some (n, what)) w
wrote_wider before after T U f (Err (script.Read e)) w = absurd w
wrote_wider before after T U f (Err script.NoEnd) w = absurd w
wrote_wider before after T U f (Err script.Write) w = front_wider before after T U f w
wrote_wider before after T U f (Err script.OutOfMemory) w = front_wider before after T U f w

-- a fault that was line_request ends the script
pub runs_fault : {A : Type 0} (before after : Known) (s s' : Stage) (n : ℕ) (line : List ℕ) (what : SyntaxFault) (r : Result A ScriptFault) → line_request s.begun n line ≡ Err what → EndsInFault before after n what r → RunsLine before after s n line r s'
runs_fault before after s s' n line what (Ok done) j h = absurd (let bad : false ≡ true = h.0 in cc)
runs_fault before after s s' n line what (Err fault) j h =
    λ more. failed_on before before after (Prints s n (line ∷ more)) (λ out end. (out ≡ fault_line n what) × (end ≡ Some (n, what))) [] (Appends-nil before) (λ tail end k. rw j k) fault h.1

-- from how far the writer got to what a whole script did
pub ran : {A : Type 0} (unread left before after : Known) (text : List ℕ) → ReadsWhole unread left text → (r : Result A ScriptFault) → Wrote before after (Transcript text) r → Ran unread left before after r
ran unread left before after text reads (Ok done) w = record { text = text; reads = reads; writes = w }
ran unread left before after text reads (Err (script.Syntax n what)) w = record { text = text; reads = reads; writes = w }
ran unread left before after text reads (Err (script.Read e)) w = absurd w
ran unread left before after text reads (Err script.NoEnd) w = absurd w
ran unread left before after text reads (Err script.Write) w = record { text = text; reads = reads; writes = w }
ran unread left before after text reads (Err script.OutOfMemory) w = inr (record { text = text; reads = reads; writes = w })

-- memory ran out before the line was obeyed
pub nothing_printed : (before : Known) (s : Stage) (n : ℕ) (ls : List (List ℕ)) → WroteFront before before (Prints s n ls)
nothing_printed before s n ls =
    let t = some_prints s n ls in
    record { front = []; rest = t.0; end = t.1; appends = Appends-nil before; whole = t.2 }

-- the writer failed in the middle of what a line prints
pub cut_line : (before after : Known) (s s' : Stage) (n : ℕ) (line printed front back : List ℕ) → ObeysLine s n line printed s' → front ++ back ≡ printed → Appends before after front → (more : List (List ℕ)) → WroteFront before after (Prints s n (line ∷ more))
cut_line before after s s' n line printed front back o e a more =
    let t = some_prints s' (n + 1) more in
    let whole : front ++ (back ++ t.0) ≡ printed ++ t.0 = sym (append_assoc front back t.0) ∙ ap (λ (bytes : List ℕ). bytes ++ t.0) e in
    record { front = front; rest = back ++ t.0; end = t.1; appends = a; whole = rw o.asks (printed, t.0, s', o.obeys, t.2, whole) }

-- what a line prints was written, or its front
pub runs_printed : {A : Type 0} (before after : Known) (s s' : Stage) (n : ℕ) (line printed bytes : List ℕ) (r : Result A ScriptFault) → ObeysLine s n line printed s' → bytes ≡ printed → OnOk r (Appends before after bytes) → IfErr r (λ e. (e ≡ script.Write) × (front : List ℕ) × (back : List ℕ) × (front ++ back ≡ bytes) × Appends before after front) → RunsLine before after s n line r s'
runs_printed before after s s' n line printed bytes (Ok done) o same written failed =
    record { printed = printed; obeys = o; appends = subst (λ (out : List ℕ). Appends before after out) same written }
runs_printed before after s s' n line printed bytes (Err fault) o same written failed =
    λ more. subst (λ (f : ScriptFault). Failed before after (Prints s n (line ∷ more)) f) (sym failed.0)
    (cut_line before after s s' n line printed failed.1 failed.2 o (failed.3 ∙ same) failed.4 more)

pub no_lines : (text : List ℕ) → length text ≡ 0 → lines text ≡ []
no_lines text e = ap lines (nil_from_length text e)

-- nothing was written yet
pub ran_unread : (unread left before : Known) (text : List ℕ) → Consumes unread left text → (fault : ScriptFault) → ComesOfReading fault → Ran {A = Unit {0}} unread left before before (Err fault)
ran_unread unread left before text reads (script.Read e) comes = (comes, record { text = text; reads = reads; writes = Appends-nil before })
ran_unread unread left before text reads script.NoEnd comes = record { text = text; reads = reads; writes = Appends-nil before }
ran_unread unread left before text reads script.Write comes = absurd comes
ran_unread unread left before text reads script.OutOfMemory comes = inl (record { text = text; reads = reads; writes = Appends-nil before })
ran_unread unread left before text reads (script.Syntax n what) comes = absurd comes

-- the transcript of a text that is too long, or not
pub long_text : (text : List ℕ) → max_text < length text → (out : List ℕ) (end : End) → (out ≡ fault_line 0 TextTooLong) × (end ≡ Some (0, TextTooLong)) → Transcript text out end
long_text text l out end h = let t : nat_lt max_text (length text) ≡ true = lt-ltb max_text (length text) l in rw t h

pub short_text : (text : List ℕ) → length text ≤ max_text → (out : List ℕ) (end : End) → Prints first_stage 1 (lines text) out end → Transcript text out end
short_text text l out end h = let t : nat_lt max_text (length text) ≡ false = le-ltb max_text (length text) l in rw t h
