-- What each request prints, from what its parts did.
use Rattle.std.proofs.Common.{◌≡◌, ℕ, zero, suc, ◌+◌, ◌≤◌, ◌<◌, true, false, length, List, [], ◌∷◌, Option, Result, Ok, Err, refl, sym, ap, subst, ◌∙◌, arith, inl, inr, add-one, length-append}
use Rattle.std.specs.Prelude.{IfOk, OnOk, is_ok, is_some, slice_get, ◌≢◌}
use Rattle.std.specs.Int.{w64, to_be_bytes}
use Rattle.krl_modes.specs.declared.limits.TheConstants.{STANDARD_ROOM}
use Rattle.krl_durable.specs.declared.refused.EntriesRefused.TheVariants as index
use Rattle.krl_steps.specs.declared.refused.Refused.{Refused}
use Rattle.krl_steps.specs.declared.refused.Refused.TheVariants as refused
use Rattle.krl_script.specs.declared.delivery.Delivery.{Delivery}
use Rattle.krl_script.specs.declared.delivery.Delivery.TheVariants as delivery
use Rattle.krl_steps.specs.declared.answer.Answer.{Answer}
use Rattle.krl_world.specs.States.{fresh}
use Rattle.krl_world.specs.Shown.{sent_count}
use Rattle.krl_world.specs.Fields as world
use Rattle.krl_script.specs.Fields.{Fields, meaning}
use Rattle.krl_script.specs.Undelivered.{Waits, sent_to, without}
use Rattle.krl_text.specs.Printing.{refused_line}
use Rattle.krl_script.specs.Transcripts.{Stage, counted, waits_after, Tries, DeliversMany, Ends, Settles, filled, Seeds}

-- all that a world sent is counted
pub sent_is : (w : world.KeptWorld) → length w.sent ≡ sent_count (world.meaning w)
unfolding sent_count
sent_is w = refl

-- the stage of a world once something was asked of it
abbrev stage_of : world.KeptWorld → Waits → Stage
stage_of w waits = record { begun = true; world = world.meaning w; waits = waits }

pub counted_on : {A E : Type 0} (w : world.KeptWorld) (waits after : Waits) (sent : ℕ) (r : Result A E) → sent ≡ length w.sent → OnOk r (after ≡ sent_to waits sent) → IfOk r (λ done. stage_of w after ≡ counted (world.meaning w) waits)
counted_on w waits after sent (Ok done) e h =
    let all : after ≡ sent_to waits (sent_count (world.meaning w)) = h ∙ ap (λ (n : ℕ). sent_to waits n) (e ∙ sent_is w) in
    ap (λ (x : Waits). stage_of w x) all
counted_on w waits after sent (Err x) e h = tt

-- which messages wait after a delivery
pub waits_delivered : (outcome : Result Answer Refused) (number : ℕ) (waits : Waits) → is_ok outcome ≡ true → without waits number ≡ waits_after outcome number waits
waits_delivered (Ok answer) number waits e = refl
waits_delivered (Err r) number waits e = absurd (let bad : false ≡ true = e in cc)

pub waits_refused : (outcome : Result Answer Refused) (number : ℕ) (waits : Waits) → is_ok outcome ≡ false → waits ≡ waits_after outcome number waits
waits_refused (Ok answer) number waits e = absurd (let bad : true ≡ false = e in cc)
waits_refused (Err r) number waits e = refl

-- there is an entry for each number
length_filled : (n : ℕ) → length (filled n) ≡ n
length_filled zero = refl
length_filled (suc n) = omega (arith, length-append (filled n) ((n, to_be_bytes w64 n) ∷ []), length_filled n)

-- more than there may be are refused
pub fill_refused : (s s' : Stage) (n : ℕ) (out : List ℕ) → 65536 < n → out ≡ refused_line refused.Full → s' ≡ record s { begun = true; world = fresh [] } → Seeds s (filled n) out s'
fill_refused s s' n out l line leaves =
    let many : STANDARD_ROOM < length (filled n) = omega (arith, length_filled n, l) in
    inr (refused.Full, record { due = (index.Full, many, refl); has_memory = λ e. absurd (let other : refused.Full ≡ refused.OutOfMemory = e in cc); prints = line; leaves = leaves })

-- the beginning of a settling, and how it ends
pub settles : (most : ℕ) (text : List ℕ) (s mid s' : Stage) (n : ℕ) (out : List ℕ) → n ≤ most → DeliversMany n (record s { begun = true }) mid → Ends most text n mid out s' → Settles most text s out s'
settles most text s mid s' n out l many ends = record { count = n; last = mid; bounded = l; delivers = many; ends = ends }

pub settles_idle : (most : ℕ) (text : List ℕ) (s mid s' : Stage) (n : ℕ) (out : List ℕ) (d : Delivery) → n < most → DeliversMany n (record s { begun = true }) mid → Tries mid d s' → d ≡ delivery.Idle → out ≡ [] → Settles most text s out s'
settles_idle most text s mid s' n out d l many tried is none =
    let idle : Tries mid delivery.Idle s' = subst (λ (x : Delivery). Tries mid x s') is tried in
    settles most text s mid s' n out (omega arith) many (inl (idle.0, none, idle.1))

pub settles_refused : (most : ℕ) (text : List ℕ) (s mid s' : Stage) (n : ℕ) (out : List ℕ) (d : Delivery) (r : Refused) → n < most → DeliversMany n (record s { begun = true }) mid → Tries mid d s' → d ≡ delivery.Refused r → out ≡ refused_line r → Settles most text s out s'
settles_refused most text s mid s' n out d r l many tried is line =
    let refuses : Tries mid (delivery.Refused r) s' = subst (λ (x : Delivery). Tries mid x s') is tried in
    settles most text s mid s' n out (omega arith) many (inr (inr (l, (r, refuses, line))))

pub delivers_more : (s mid s' : Stage) (n : ℕ) (d : Delivery) → DeliversMany n s mid → Tries mid d s' → d ≡ delivery.Delivered → DeliversMany (n + 1) s s'
delivers_more s mid s' n d many tried is =
    let one : Tries mid delivery.Delivered s' = subst (λ (x : Delivery). Tries mid x s') is tried in
    rw (add-one n) (mid, many, one)

-- the oldest that waits shows whether one does
none_waits : (oldest : Option ℕ) (xs : List ℕ) → oldest ≡ slice_get xs 0 → is_some oldest ≡ false → xs ≡ []
none_waits oldest [] e is = refl
none_waits oldest (x ∷ xs) e is = absurd (let bad : true ≡ false = sym (ap is_some e) ∙ is in cc)

some_waits : (oldest : Option ℕ) (xs : List ℕ) → oldest ≡ slice_get xs 0 → is_some oldest ≡ true → xs ≢ []
some_waits oldest [] e is = absurd (let bad : false ≡ true = sym (ap is_some e) ∙ is in cc)
some_waits oldest (x ∷ xs) e is = λ nil. let bad : x ∷ xs ≡ [] = nil in cc

-- looking for the oldest changes nothing
looked : (i j : Fields) (after : Waits) → i ≡ j → after ≡ i.waits → meaning j ≡ meaning (record i { waits = after })
looked i j after is same = ap meaning (sym is) ∙ ap (λ (w : Waits). meaning (record i { waits = w })) (sym same)

-- no message waits at the bound, or one does
pub settles_at_bound : (most : ℕ) (text : List ℕ) (s : Stage) (i j : Fields) (after : Waits) (n : ℕ) (out : List ℕ) (oldest : Option ℕ) → i ≡ j → after ≡ i.waits → n ≡ most → DeliversMany n (record s { begun = true }) (meaning j) → oldest ≡ slice_get i.waits.waiting 0 → is_some oldest ≡ false → out ≡ [] → Settles most text s out (meaning (record i { waits = after }))
settles_at_bound most text s i j after n out oldest is same e many first none line =
    let last : Stage = meaning (record i { waits = after }) in
    settles most text s last last n out (omega (arith, e)) (subst (λ (m : Stage). DeliversMany n (record s { begun = true }) m) (looked i j after is same) many)
    (inl (none_waits oldest after.waiting (first ∙ ap (λ (w : Waits). slice_get w.waiting 0) (sym same)) none, line, refl))

pub settles_unsettled : (most : ℕ) (text : List ℕ) (s : Stage) (i j : Fields) (after : Waits) (n : ℕ) (out : List ℕ) (oldest : Option ℕ) → i ≡ j → after ≡ i.waits → n ≡ most → DeliversMany n (record s { begun = true }) (meaning j) → oldest ≡ slice_get i.waits.waiting 0 → is_some oldest ≡ true → out ≡ text → Settles most text s out (meaning (record i { waits = after }))
settles_unsettled most text s i j after n out oldest is same e many first some line =
    let last : Stage = meaning (record i { waits = after }) in
    settles most text s last last n out (omega (arith, e)) (subst (λ (m : Stage). DeliversMany n (record s { begun = true }) m) (looked i j after is same) many)
    (inr (inl (e, some_waits oldest after.waiting (first ∙ ap (λ (w : Waits). slice_get w.waiting 0) (sym same)) some, line, refl)))
