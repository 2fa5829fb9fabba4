-- The numbers of the messages that wait, and flags that show which no longer wait.
use Rattle.std.proofs.Common.{◌≡◌, ◌≢◌, ℕ, zero, suc, ◌+◌, ◌-◌, ◌≤◌, ◌<◌, Bool, true, false, not, List, take, get_or, [], ◌∷◌, ◌++◌, length, Some, refl, sym, ap, ◌∙◌, arith, ◌⊎◌, inl, inr, append_assoc, add-one}
use Rattle.std.proofs.lemmas.Bool.Decides.{eqb_tells}
use Rattle.std.specs.Prelude.{filter, nat_eq, slice_get, slice_set}
use Rattle.std.proofs.Math.ListN.{length-set}
use Rattle.std.proofs.lemmas.List.{take_more}
use Rattle.std.proofs.lemmas.Bool.{ne_eqb}
use Rattle.krl_script.specs.Undelivered.{Waits, waiting_after, numbers, sent_to, without}

same_waits : (m n : ℕ) (xs ys : List ℕ) → m ≡ n → xs ≡ ys → ◌≡◌ {A = Waits} (record { sent = m; waiting = xs }) (record { sent = n; waiting = ys })
same_waits m n xs ys e f = cc

-- a new message waits after the others
pub waiting_more : (n : ℕ) (flags : List Bool) → waiting_after n (flags ++ false ∷ []) ≡ waiting_after n flags ++ (n + length flags + 1) ∷ []
waiting_more n [] = ap (λ (k : ℕ). k ∷ []) (omega arith)
waiting_more n (true ∷ flags) = waiting_more (suc n) flags ∙ ap (λ (k : ℕ). waiting_after (suc n) flags ++ k ∷ []) (omega arith)
waiting_more n (false ∷ flags) = ap (λ (xs : List ℕ). suc n ∷ xs) (waiting_more (suc n) flags ∙ ap (λ (k : ℕ). waiting_after (suc n) flags ++ k ∷ []) (omega arith))

-- one flag more
pub one_more_waits : (n : ℕ) (flags : List Bool) → length (waiting_after n (flags ++ false ∷ [])) ≡ length (waiting_after n flags) + 1
one_more_waits n [] = refl
one_more_waits n (true ∷ flags) = one_more_waits (suc n) flags
one_more_waits n (false ∷ flags) = let more = one_more_waits (suc n) flags in omega (arith, more)

pub no_more_waits : (n : ℕ) (flags : List Bool) → waiting_after n (flags ++ true ∷ []) ≡ waiting_after n flags
no_more_waits n [] = refl
no_more_waits n (true ∷ flags) = no_more_waits (suc n) flags
no_more_waits n (false ∷ flags) = ap (λ (xs : List ℕ). suc n ∷ xs) (no_more_waits (suc n) flags)

-- how many wait of the flags up to one place more
pub count_waiting : (past i : ℕ) (flags : List Bool) (b : Bool) → i < length flags → b ≡ get_or flags i b → b ≡ false → length (waiting_after past (take (i + 1) flags)) ≡ length (waiting_after past (take i flags)) + 1
count_waiting past i flags b l at e =
    ap (λ (xs : List Bool). length (waiting_after past xs)) (take_more flags i b l ∙ ap (λ (x : Bool). take i flags ++ x ∷ []) (sym at ∙ e))
    ∙ one_more_waits past (take i flags)

pub count_passed : (past i : ℕ) (flags : List Bool) (b : Bool) → i < length flags → b ≡ get_or flags i b → b ≡ true → length (waiting_after past (take (i + 1) flags)) ≡ length (waiting_after past (take i flags))
count_passed past i flags b l at e =
    ap (λ (xs : List Bool). length (waiting_after past xs)) (take_more flags i b l ∙ ap (λ (x : Bool). take i flags ++ x ∷ []) (sym at ∙ e))
    ∙ ap length (no_more_waits past (take i flags))

-- a list without this number
abbrev without_number : ℕ → List ℕ → List ℕ
without_number m xs = filter (λ k. not (nat_eq k m)) xs

same : (k m : ℕ) → k ≡ m → nat_eq k m ≡ true
same k m is = elim (eqb_tells k m) [ inl e ↦ e.0 | inr e ↦ absurd (e.1 is) ]

-- no message up to the n-th, or past the last, is among them
pub not_among : (m n : ℕ) (flags : List Bool) → (m ≤ n) ⊎ (n + length flags < m) → without_number m (waiting_after n flags) ≡ waiting_after n flags
not_among m n [] h = refl
not_among m n (true ∷ flags) h = not_among m (suc n) flags (elim h [ inl l ↦ inl (omega (arith, l)) | inr l ↦ inr (omega (arith, l)) ])
not_among m n (false ∷ flags) h =
    let ne : nat_eq (suc n) m ≡ false = ne_eqb (suc n) m (λ e. elim h [ inl l ↦ absurd (omega (arith, l, e)) | inr l ↦ absurd (omega (arith, l, e)) ]) in
    rw ne (ap (λ (xs : List ℕ). suc n ∷ xs) (not_among m (suc n) flags (elim h [ inl l ↦ inl (omega (arith, l)) | inr l ↦ inr (omega (arith, l)) ])))

-- once the flag at a place is set, its message is no longer among them
pub one_past : (n at : ℕ) (flags : List Bool) → at < length flags → waiting_after n (slice_set flags at true) ≡ without_number (n + at + 1) (waiting_after n flags)
one_past n at [] l = absurd (omega (arith, l))
one_past n zero (true ∷ flags) l = sym (not_among (n + 0 + 1) (suc n) flags (inl (omega arith)))
one_past n zero (false ∷ flags) l =
    let e : nat_eq (suc n) (n + 0 + 1) ≡ true = same (suc n) (n + 0 + 1) (omega arith) in
    rw e (sym (not_among (n + 0 + 1) (suc n) flags (inl (omega arith))))
one_past n (suc at) (true ∷ flags) l =
    let more = one_past (suc n) at flags (omega (arith, l)) in
    more ∙ ap (λ (m : ℕ). without_number m (waiting_after (suc n) flags)) (omega arith)
one_past n (suc at) (false ∷ flags) l =
    let more = one_past (suc n) at flags (omega (arith, l)) in
    let ne : nat_eq (suc n) (n + suc at + 1) ≡ false = ne_eqb (suc n) (n + suc at + 1) (λ e. absurd (omega (arith, e))) in
    rw ne (ap (λ (xs : List ℕ). suc n ∷ xs) (more ∙ ap (λ (m : ℕ). without_number m (waiting_after (suc n) flags)) (omega arith)))

-- a message more is counted
pub counts_more : (before : List ℕ) (past counted counter : ℕ) (flags : List Bool) → past + length flags ≡ counted + counter → waiting_after past flags ≡ before ++ numbers counted counter → waiting_after past (flags ++ false ∷ []) ≡ before ++ numbers counted (counter + 1)
counts_more before past counted counter flags at is =
    let last : past + length flags + 1 ≡ counted + suc counter = omega (arith, at) in
    waiting_more past flags
    ∙ ap (λ (xs : List ℕ). xs ++ (past + length flags + 1) ∷ []) is
    ∙ append_assoc before (numbers counted counter) ((past + length flags + 1) ∷ [])
    ∙ ap (λ (k : ℕ). before ++ (numbers counted counter ++ k ∷ [])) last
    ∙ ap (λ (n : ℕ). before ++ numbers counted n) (sym (add-one counter))

-- what these flags stand for
abbrev pub waits : ℕ → List Bool → Waits
waits past flags = record { sent = past + length flags; waiting = waiting_after past flags }

-- so many messages were sent by now
pub all_counted : (past past' counted counter total : ℕ) (flags flags' : List Bool) → counted ≡ past + length flags → counter ≡ total - counted → past' + length flags' ≡ counted + counter → waiting_after past' flags' ≡ waiting_after past flags ++ numbers counted counter → waits past' flags' ≡ sent_to (waits past flags) total
all_counted past past' counted counter total flags flags' is more sent w =
    let n : counter ≡ total - (past + length flags) = more ∙ ap (λ (k : ℕ). total - k) is in
    let s : past' + length flags' ≡ (past + length flags) + (total - (past + length flags)) = sent ∙ ap (λ (k : ℕ). k + counter) is ∙ ap (λ (k : ℕ). past + length flags + k) n in
    let ws : waiting_after past' flags' ≡ waiting_after past flags ++ numbers (past + length flags) (total - (past + length flags)) = w ∙ ap (λ (k : ℕ). waiting_after past flags ++ numbers k counter) is ∙ ap (λ (k : ℕ). waiting_after past flags ++ numbers (past + length flags) k) n in
    same_waits _ _ _ _ s ws

-- one of them no longer waits
pub removed : (past number : ℕ) (flags : List Bool) → past < number → number - past ≤ length flags → waits past (slice_set flags (number - past - 1) true) ≡ without (waits past flags) number
removed past number flags l m =
    let at : number - past - 1 < length flags = omega (arith, l, m) in
    let is : past + (number - past - 1) + 1 ≡ number = omega (arith, l) in
    same_waits _ _ _ _ (ap (λ (n : ℕ). past + n) (length-set flags (number - past - 1) true))
    (one_past past (number - past - 1) flags at ∙ ap (λ (n : ℕ). without_number n (waiting_after past flags)) is)

-- the first of the flags shows whether its message waits
pub first_waits : (past : ℕ) (flags : List Bool) → slice_get flags 0 ≢ Some true → 0 < length flags → Some (past + 1) ≡ slice_get (waiting_after past flags) 0
first_waits past [] first l = absurd (omega (arith, l))
first_waits past (true ∷ flags) first l = absurd (first refl)
first_waits past (false ∷ flags) first l = ap (λ (k : ℕ). Some k) (omega arith)
