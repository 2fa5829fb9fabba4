-- What a random run keeps from step to step.
use Rattle.std.proofs.Common.{◌≡◌, ◌≢◌, ℕ, zero, suc, ◌+◌, ◌<◌, ◌&&◌, Bool, true, false, ◌-◌, length, take, drop, get_or, List, [], ◌∷◌, ◌++◌, Option, None, Some, Result, Ok, Err, refl, sym, ap, subst, ◌∙◌, arith, add-one, drop-cons, eq-eqb, eqb-true, nat_le, nat_eq}
use Rattle.std.specs.Prelude.{not, is_some, is_none, slice_get, nat_lt}
use Rattle.std.specs.FinMap as map
use Rattle.std.specs.Cmp.Lexicographic.{pointwise, same_text, other_text}
use Rattle.std.proofs.Math.ListN.{replicate}
use Rattle.std.proofs.Math.Seq.{take-append_seam}
use Rattle.std.proofs.lemmas.List.{take_more, take-append-drop, append-nil, append_assoc, append_cancel_left}
use Rattle.std.proofs.lemmas.List.Elements.{filter-append}
use Rattle.krl_blocks.specs.Laid.{flat}
use Rattle.krl_blocks.proofs.Places.{flat_join}
use Rattle.krl_blocks.proofs.Readings.{flat_next}
use Rattle.std.proofs.lemmas.Bool.{and_parts, not-false}
use Rattle.krl_durable.specs.Index.{Index}
use Rattle.std.specs.List.{filter}
use Rattle.rand_pcg.specs.Lcg.{Lcg}
use Rattle.krl_messages.specs.Values.{Value}
use Rattle.krl_messages.specs.Padded.{padded}
use Rattle.krl_world.specs.declared.node.ServerPlace.{ServerPlace as KeptNode}
use Rattle.krl_world.specs.declared.node.ServerPlace.TheVariants as kept
use Rattle.krl_steps.specs.declared.step.Step.{Step}
use Rattle.krl_steps.specs.declared.step.Step.TheVariants as step
use Rattle.krl_steps.specs.declared.step.Command.{Command}
use Rattle.krl_steps.specs.declared.step.Command.TheVariants as command
use Rattle.krl_steps.specs.declared.answer.Answer.{Answer}
use Rattle.krl_steps.specs.declared.answer.Answer.TheVariants as told
use Rattle.krl_steps.specs.declared.refused.Refused.{Refused}
use Rattle.krl_world.specs.States.{State, fresh, index_of, opened}
use Rattle.krl_world.specs.Steps.{Steps}
use Rattle.krl_world.specs.Promises.{IsCompatible, ScansIndex}
use Rattle.krl_script.specs.ScannedRows.{AnswerIsRange, CommandIsRange, RowsAreRange}
use Rattle.krl_world.specs.Fields as world
use Rattle.krl_world.specs.FieldParts as field_parts
use Rattle.krl_script.specs.declared.random.RandomRun.{RandomRun}
use Rattle.krl_script.specs.declared.random.Pace.{Pace}
use Rattle.krl_script.specs.declared.random.Pace.TheVariants as pace
use Rattle.krl_draws.specs.declared.generator.Writes.TheVariants as writes
use Rattle.krl_script.specs.Undelivered.{Waits, sent_to}
use Rattle.krl_script.specs.Soundness.{are_compatible, all_below, is_sound_at, first_unsound, numbers_below}
use Rattle.krl_script.specs.RandomRuns.{RandomStage, stage_of, first_entries, first_of, is_down, observed_of, waits_since, TakesDrawn, GoesOn, late, max_hurried, Hurries, GoesAt, RunsRandomly, EndsRandomRun}
use Rattle.krl_script.proofs.Interpreting.{sent_is}
use Rattle.krl_script.proofs.SoundnessLemmas.{all_of_below, none_unsound}

-- A sound world

-- two clients of a compatible world
together : (w : State) → IsCompatible w → (p c d : ℕ) → d < c → are_compatible w p c d ≡ true
together w h p c d l =
    let apart : c ≢ d = λ e. absurd (let here : d < d = subst (λ (n : ℕ). d < n) e l in omega (arith, here)) in
    let both = h c d p apart in
    rw (both.0, both.1) refl

sound_at : (w : State) → IsCompatible w → (n p : ℕ) → is_sound_at w n p ≡ true
sound_at w h n p = all_of_below n (λ (c : ℕ). all_below c (are_compatible w p c)) (λ c lt. all_of_below c (are_compatible w p c) (λ d l. together w h p c d l))

pub sound_points : (w : State) (n m : ℕ) (r : Option ℕ) (b : Bool) → r ≡ first_unsound w n (numbers_below m) → is_some r ≡ not b → IsCompatible w → b ≡ true
sound_points w n m r b e is h =
    let none : first_unsound w n (numbers_below m) ≡ None = none_unsound m (λ (p : ℕ). not (is_sound_at w n p)) (λ p. rw (sound_at w h n p) refl) in
    not-false b (sym is ∙ ap is_some (e ∙ none))

-- a world in which nothing has happened
fresh_compatible : (entries : List (ℕ × Value)) → IsCompatible (fresh entries)
unfolding opened
fresh_compatible entries c d p apart = (refl, refl)

pub first_compatible : (r : RandomRun) (seed : ℕ) → stage_of r ≡ first_of seed → IsCompatible (world.meaning r.world)
first_compatible r seed e =
    subst (λ (s : RandomStage). IsCompatible s.world) (sym e) (fresh_compatible first_entries)

-- Scans

scan_stays : (w v : State) (c lo hi : ℕ) (r : Result Answer Refused) → Steps w (step.Command c (command.Scan lo hi)) r v → v ≡ w
unfolding Steps
scan_stays w v c lo hi (Ok answer) t = t.1.2.1
scan_stays w v c lo hi (Err e) t = t.0

command_same : (w v : State) (c : ℕ) (what : Command) (r : Result Answer Refused) → Steps w (step.Command c what) r v → RowsAreRange (index_of w) (step.Command c what) r → RowsAreRange (index_of v) (step.Command c what) r
command_same w v c (command.Lock p hi m) (Ok answer) t h = tt
command_same w v c (command.Write op) (Ok answer) t h = tt
command_same w v c (command.Seize op) (Ok answer) t h = tt
command_same w v c (command.Scan lo hi) (Ok answer) t h =
    subst (λ (u : State). CommandIsRange (index_of u) (command.Scan lo hi) answer) (sym (scan_stays w v c lo hi (Ok answer) t)) h
command_same w v c (command.Lower lo hi keep) (Ok answer) t h = tt
command_same w v c (command.Pin lo hi) (Ok answer) t h = tt
command_same w v c (command.Unpin id) (Ok answer) t h = tt
command_same w v c command.Leave (Ok answer) t h = tt
command_same w v c what (Err e) t h = tt

answer_range : (m : Index) (c lo hi : ℕ) (answer : Answer) → ScansIndex m (step.Command c (command.Scan lo hi)) (Ok answer) → AnswerIsRange m lo hi answer
answer_range m c lo hi (told.Rows rows) h = h c lo hi rows refl refl
answer_range m c lo hi other h = tt

command_range : (m : Index) (c : ℕ) (what : Command) (answer : Answer) → ScansIndex m (step.Command c what) (Ok answer) → CommandIsRange m what answer
command_range m c (command.Scan lo hi) answer h = answer_range m c lo hi answer h
command_range m c other answer h = tt

-- what a world promises of a scan, case by case
pub rows_range : (m : Index) (s : Step) (r : Result Answer Refused) → ScansIndex m s r → RowsAreRange m s r
rows_range m (step.Command c what) (Ok answer) h = command_range m c what answer h
rows_range m other r h = tt

-- a scan's rows are the index's after it too
pub scans_same : (w v : State) (what : Step) (r : Result Answer Refused) → Steps w what r v → RowsAreRange (index_of w) what r → RowsAreRange (index_of v) what r
scans_same w v (step.Deliver i) r t h = tt
scans_same w v (step.Command c what) r t h = command_same w v c what r t h
scans_same w v (step.Tick c) r t h = tt
scans_same w v (step.Nudge c) r t h = tt
scans_same w v (step.StartClient c) r t h = tt
scans_same w v (step.CrashClient c) r t h = tt
scans_same w v step.StartServer r t h = tt
scans_same w v step.CrashServer r t h = tt

-- Steps

down_is : (n : KeptNode) → is_none (field_parts.server_up n) ≡ is_down (world.node_of n)
down_is (kept.Up s) = refl
down_is (kept.Down d) = refl

-- what is read of a world
pub sight_is : (w : world.KeptWorld) (waits : Waits) (g : Lcg) (waiting : Option ℕ) (sent : ℕ) (is_down : Bool) → waiting ≡ slice_get waits.waiting 0 → sent ≡ length w.sent → is_down ≡ is_none (field_parts.server_up w.server) → record { waiting = waiting; sent = sent; is_down = is_down } ≡ observed_of (record { world = world.meaning w; waits = waits; generator = g })
sight_is w waits g waiting sent down oldest all none = rw (oldest, all, sent_is w, none, down_is w.server) refl

-- a step was taken, and what it sent is counted
pub taken : (w v : world.KeptWorld) (waits passed counted : Waits) (g : Lcg) (what : Step) (r : Result Answer Refused) (sent : ℕ) → Steps (world.meaning w) what r (world.meaning v) → passed ≡ waits_since what r waits → sent ≡ length v.sent → counted ≡ sent_to passed sent → RowsAreRange (index_of (world.meaning w)) what r → (taken : TakesDrawn (world.meaning w) waits what g (record { world = world.meaning v; waits = counted; generator = g })) × (taken.outcome ≡ r)
taken w v waits passed counted g what r sent t p e h s = (
  record {
    outcome = r;
    world = world.meaning v;
    steps = t;
    rows = scans_same (world.meaning w) (world.meaning v) what r t s;
    leaves = rw (h, p, e, sent_is v) refl;
  },
  refl,
)

-- Rows

-- the entries that are left, from the one at i on
drop_at : (es : List (ℕ × Value)) (i : ℕ) (d : ℕ × Value) → i < length es → drop i es ≡ get_or es i d ∷ drop (i + 1) es
drop_at es i d l = drop-cons es i d l ∙ ap (λ (k : ℕ). get_or es i d ∷ drop k es) (sym (add-one i))

-- how two rows are compared: by their keys, by their values with the zeros after them, and by how long these are
abbrev pub same_row : ℕ × Value → ℕ × Value → Bool
same_row r e = nat_eq r.0 e.0 && (pointwise nat_eq (padded r.1) (padded e.1) && nat_eq (length r.1) (length e.1))

from_padded : (xs : List ℕ) → take (length xs) (padded xs) ≡ xs
from_padded xs = take-append_seam xs (replicate (32 - length xs) 0)

rows_equal : (r e : ℕ × Value) → same_row r e ≡ true → r ≡ e
rows_equal r e is =
    let key = and_parts (nat_eq r.0 e.0) (pointwise nat_eq (padded r.1) (padded e.1) && nat_eq (length r.1) (length e.1)) is in
    let rest = and_parts (pointwise nat_eq (padded r.1) (padded e.1)) (nat_eq (length r.1) (length e.1)) key.1 in
    let bytes = same_text (padded r.1) (padded e.1) (sym rest.0) in
    let same : r.1 ≡ e.1 =
    sym (from_padded r.1) ∙ ap (λ (n : ℕ). take n (padded r.1)) (eqb-true (length r.1) (length e.1) rest.1) ∙ ap (λ (xs : List ℕ). take (length e.1) xs) bytes ∙ from_padded e.1 in
    let keys = eqb-true r.0 e.0 key.0 in
    λ i. (keys i, same i)

itself : (r : ℕ × Value) → same_row r r ≡ true
itself r = by_test (pointwise nat_eq (padded r.1) (padded r.1)) refl
  where
    by_test : (b : Bool) → pointwise nat_eq (padded r.1) (padded r.1) ≡ b → same_row r r ≡ true
    by_test true e = rw (eq-eqb r.0 r.0 refl, e, eq-eqb (length r.1) (length r.1) refl) refl
    by_test false e = absurd (other_text (padded r.1) (padded r.1) (sym e) refl)

-- Rows that begin with a range

module _ (p : ℕ × Value → Bool) (es rows left : List (ℕ × Value)) (i : ℕ) (e : ℕ × Value) (l : i < length es) (is : e ≡ get_or es i e) (h : rows ≡ filter p (take i es) ++ left) where
  range_next : filter p (take (i + 1) es) ≡ filter p (take i es) ++ filter p (e ∷ [])
  range_next = ap (filter p) (take_more es i e l ∙ ap (λ (x : ℕ × Value). take i es ++ x ∷ []) (sym is)) ∙ filter-append p (take i es) (e ∷ [])

  -- an entry that lies elsewhere
  pub range_passes : p e ≡ false → rows ≡ filter p (take (i + 1) es) ++ left
  range_passes fails =
      let none : filter p (e ∷ []) ≡ [] = rw fails refl in
      h ∙ ap (λ (xs : List (ℕ × Value)). xs ++ left) (sym (range_next ∙ ap (λ (xs : List (ℕ × Value)). filter p (take i es) ++ xs) none ∙ append-nil (filter p (take i es))))

  -- an entry of the range, which is the next row
  pub range_goes_on : p e ≡ true → (rest : List (ℕ × Value)) → left ≡ e ∷ rest → rows ≡ filter p (take (i + 1) es) ++ rest
  range_goes_on passes rest first =
      let one : filter p (e ∷ []) ≡ e ∷ [] = rw passes refl in
      h ∙ ap (λ (xs : List (ℕ × Value)). filter p (take i es) ++ xs) first ∙ sym (append_assoc (filter p (take i es)) (e ∷ []) rest)
      ∙ ap (λ (xs : List (ℕ × Value)). xs ++ rest) (sym (range_next ∙ ap (λ (xs : List (ℕ × Value)). filter p (take i es) ++ xs) one))

  -- and if the rows begin with the whole range, it is
  pub row_must : p e ≡ true → (rest : List (ℕ × Value)) → rows ≡ filter p es ++ rest → left ≡ e ∷ (filter p (drop (i + 1) es) ++ rest)
  row_must passes rest all =
      let back : drop i es ≡ e ∷ drop (i + 1) es = drop_at es i e l ∙ ap (λ (x : ℕ × Value). x ∷ drop (i + 1) es) (sym is) in
      let range : filter p (drop i es) ≡ e ∷ filter p (drop (i + 1) es) = ap (filter p) back ∙ rw passes refl in
      let whole : filter p es ≡ filter p (take i es) ++ (e ∷ filter p (drop (i + 1) es)) =
      ap (filter p) (sym (take-append-drop i es)) ∙ filter-append p (take i es) (drop i es) ∙ ap (λ (xs : List (ℕ × Value)). filter p (take i es) ++ xs) range in
      append_cancel_left (filter p (take i es)) left (e ∷ (filter p (drop (i + 1) es) ++ rest))
      (sym h ∙ all ∙ ap (λ (xs : List (ℕ × Value)). xs ++ rest) whole ∙ append_assoc (filter p (take i es)) (e ∷ filter p (drop (i + 1) es)) rest)

-- the next row is another one
pub other_first : (r e : ℕ × Value) (left xs ys : List (ℕ × Value)) (b : Bool) → left ≡ r ∷ xs → left ≡ e ∷ ys → b ≡ same_row r e → b ≡ false → ⊥
other_first r e left xs ys b f g said differs =
    let same : r ≡ e = ap (λ (zs : List (ℕ × Value)). get_or zs 0 r) (sym f ∙ g) in
    let bad : false ≡ true = sym (sym said ∙ differs) ∙ ap (λ (x : ℕ × Value). same_row x e) same ∙ itself e in
    cc

-- or that one
pub same_first : (r e : ℕ × Value) (left xs : List (ℕ × Value)) (b : Bool) → left ≡ r ∷ xs → b ≡ same_row r e → b ≡ true → left ≡ e ∷ xs
same_first r e left xs b f said agrees = f ∙ ap (λ (x : ℕ × Value). x ∷ xs) (rows_equal r e (sym said ∙ agrees))

-- the same over runs
module _ (p : ℕ × Value → Bool) (xs : List (List (ℕ × Value))) (rows left : List (ℕ × Value)) (i : ℕ) (x : List (ℕ × Value)) (there : Some x ≡ slice_get xs i) (h : rows ≡ filter p (flat (take i xs)) ++ left) where
  -- the rows continue with the range of the next run
  pub runs_go_on : (rest : List (ℕ × Value)) → left ≡ filter p x ++ rest → rows ≡ filter p (flat (take (i + 1) xs)) ++ rest
  runs_go_on rest first =
      h ∙ ap (λ (es : List (ℕ × Value)). filter p (flat (take i xs)) ++ es) first ∙ sym (append_assoc (filter p (flat (take i xs))) (filter p x) rest)
      ∙ ap (λ (es : List (ℕ × Value)). es ++ rest) (sym (ap (filter p) (flat_next xs i x there) ∙ filter-append p (flat (take i xs)) x))

  -- and if they are the whole range they do
  pub runs_must : rows ≡ filter p (flat xs) → left ≡ filter p x ++ filter p (flat (drop (i + 1) xs))
  runs_must all =
      let back : xs ≡ take (i + 1) xs ++ drop (i + 1) xs = sym (take-append-drop (i + 1) xs) in
      let whole : filter p (flat xs) ≡ filter p (flat (take i xs)) ++ (filter p x ++ filter p (flat (drop (i + 1) xs))) =
      ap (λ (ys : List (List (ℕ × Value))). filter p (flat ys)) back
      ∙ ap (filter p) (flat_join (take (i + 1) xs) (drop (i + 1) xs) ∙ ap (λ (es : List (ℕ × Value)). es ++ flat (drop (i + 1) xs)) (flat_next xs i x there) ∙ append_assoc (flat (take i xs)) x (flat (drop (i + 1) xs)))
      ∙ filter-append p (flat (take i xs)) (x ++ flat (drop (i + 1) xs))
      ∙ ap (λ (es : List (ℕ × Value)). filter p (flat (take i xs)) ++ es) (filter-append p x (flat (drop (i + 1) xs))) in
      append_cancel_left (filter p (flat (take i xs))) left (filter p x ++ filter p (flat (drop (i + 1) xs))) (sym h ∙ all ∙ whole)

-- what a scan answered
pub range_answered : (m : Index) (s : Step) (r : Result Answer Refused) (c : ℕ) (what : Command) (lo hi : ℕ) (answer : Answer) (rows shown entries : List (ℕ × Value)) → s ≡ step.Command c what → what ≡ command.Scan lo hi → r ≡ Ok answer → answer ≡ told.Rows rows → shown ≡ rows → entries ≡ map.entries m → RowsAreRange m s r → shown ≡ filter (λ e. nat_le lo e.0 && nat_lt e.0 hi) entries
range_answered m s r c what lo hi answer rows shown entries of_client scans ok gives same all h =
    let of_scan : RowsAreRange m (step.Command c (command.Scan lo hi)) r = subst (λ (x : Step). RowsAreRange m x r) (of_client ∙ ap (λ (x : Command). step.Command c x) scans) h in
    let range : RowsAreRange m (step.Command c (command.Scan lo hi)) (Ok (told.Rows rows)) = subst (λ (x : Result Answer Refused). RowsAreRange m (step.Command c (command.Scan lo hi)) x) (ok ∙ ap Ok gives) of_scan in
    same ∙ range ∙ ap (λ (xs : List (ℕ × Value)). filter (λ e. nat_le lo e.0 && nat_lt e.0 hi) xs) (sym all)

pub answered_range : (m : Index) (s : Step) (r : Result Answer Refused) (c : ℕ) (what : Command) (lo hi : ℕ) (answer : Answer) (rows shown entries : List (ℕ × Value)) → s ≡ step.Command c what → what ≡ command.Scan lo hi → r ≡ Ok answer → answer ≡ told.Rows rows → shown ≡ rows → entries ≡ map.entries m → shown ≡ filter (λ e. nat_le lo e.0 && nat_lt e.0 hi) entries → RowsAreRange m s r
answered_range m s r c what lo hi answer rows shown entries of_client scans ok gives same all h =
    let range : RowsAreRange m (step.Command c (command.Scan lo hi)) (Ok (told.Rows rows)) = sym same ∙ h ∙ ap (λ (xs : List (ℕ × Value)). filter (λ e. nat_le lo e.0 && nat_lt e.0 hi) xs) all in
    let of_scan : RowsAreRange m (step.Command c (command.Scan lo hi)) r = subst (λ (x : Result Answer Refused). RowsAreRange m (step.Command c (command.Scan lo hi)) x) (sym (ok ∙ ap Ok gives)) range in
    subst (λ (x : Step). RowsAreRange m x r) (sym (of_client ∙ ap (λ (x : Command). step.Command c x) scans)) of_scan

-- Deliveries of what is late

hurries_none : (n : ℕ) (s : RandomStage) → late s ≡ None → Hurries n s s
unfolding Hurries
hurries_none zero s e = refl
hurries_none (suc n) s e = rw e refl

pub hurries_stay : (n : ℕ) (r q : RandomRun) → None ≡ late (stage_of r) → q ≡ r → Hurries n (stage_of r) (stage_of q)
hurries_stay n r q is same = subst (λ (x : RandomRun). Hurries n (stage_of r) (stage_of x)) (sym same) (hurries_none n (stage_of r) (sym is))

pub hurries_end : (n : ℕ) (s : RandomStage) → n ≡ 0 → Hurries n s s
unfolding Hurries
hurries_end zero s e = refl
hurries_end (suc n) s e = absurd (omega (arith, e))

hurries_more : (n : ℕ) (s mid last : RandomStage) (number : ℕ) → late s ≡ Some number → TakesDrawn s.world s.waits (step.Deliver number) s.generator mid → Hurries n mid last → Hurries (suc n) s last
unfolding Hurries
hurries_more n s mid last number e takes h = rw e (mid, takes, h)

pub hurries_step : (n m : ℕ) (r q t : RandomRun) (number : ℕ) (last : RandomStage) → n ≡ suc m → Some number ≡ late (stage_of r) → q ≡ r → TakesDrawn (world.meaning q.world) q.waiting (step.Deliver number) q.draws (stage_of t) → Hurries m (stage_of t) last → Hurries n (stage_of r) last
hurries_step n m r q t number last e is same takes h =
    subst (λ (k : ℕ). Hurries k (stage_of r) last) (sym e)
    (hurries_more m (stage_of r) (stage_of t) last number (sym is)
    (subst (λ (x : RandomRun). TakesDrawn (world.meaning x.world) x.waiting (step.Deliver number) x.draws (stage_of t)) same takes) h)

pub goes_busily : (at : Pace) (s mid last : RandomStage) → at ≡ pace.Busy → GoesOn writes.Taking s mid → Hurries max_hurried mid last → GoesAt at s last
goes_busily at s mid last e goes h = subst (λ (x : Pace). GoesAt x s last) (sym e) (mid, goes, h)

-- Whole runs

pub ended : (at : Pace) (r last : RandomRun) (seed steps : ℕ) (unsound : Option ℕ) → stage_of r ≡ first_of seed → (IsCompatible (world.meaning r.world) → (unsound ≡ None) × RunsRandomly at steps (stage_of r) (stage_of last)) → (unsound ≡ None) × EndsRandomRun at seed steps (world.meaning last.world)
ended at r last seed steps unsound first runs =
    let done = runs (first_compatible r seed first) in (
      done.0,
      record {
        last = stage_of last;
        runs = subst (λ (s : RandomStage). RunsRandomly at steps s (stage_of last)) first done.1;
        world = refl;
      },
    )
