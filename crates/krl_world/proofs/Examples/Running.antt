-- A run, step by step: a client locks the gap below 10 and the entry there, and a scan of its cache gives the entry.
use Rattle.krl_world.proofs.Names.{◌≡◌, ℕ, suc, ◌<◌, ◌≤◌, ◌∙◌, Bool, true, false, ◌||◌, cond, Some, None, List, [], ◌∷◌, length, refl, sym, ap, subst, arith, nat_eq, if◌then◌else◌, Ok, nat_tests}
use Rattle.krl_world.proofs.Names.{nil_from_length, none-some, nat_cmp, eq_by_cmp, nat_cmp_total, put, contains, Pieces, Index, Value, IsDistinct, STANDARD_ROOM, MAX_ROOM, reads_key, reads_gap, no_belief}
use Rattle.krl_world.proofs.Names.{CoversAll, AreRows, Describes, Client, locked, finds_rows, says_report, says_ack, accepted, Step, Up, State, unused, opened, fresh, seated, served, with_client}
use Rattle.krl_world.specs.Steps as steps
use Rattle.krl_world.proofs.Reaching.{runs_reached}
use Rattle.krl_world.proofs.Names.{CanOpen, span, applies, Takes, Steps, Runs, IsReachable, case_of}
use Rattle.std.specs.FinMap as map
use Rattle.krl_modes.specs.declared.part.RangePart.TheVariants as range
use Rattle.krl_modes.specs.declared.part.KeyPart.TheVariants as key
use Rattle.krl_modes.specs.declared.mode.Mode.TheVariants as mode
use Rattle.krl_messages.specs.declared.to_client.PushBody.TheVariants as push
use Rattle.krl_durable.specs.Kept.{AreBelowEnd, IsKept}
use Rattle.krl_client.specs.Clients as clients
use Rattle.krl_client.specs.Messages as messages
use Rattle.krl_steps.specs.declared.step.Step.TheVariants as step
use Rattle.krl_steps.specs.declared.step.Command.TheVariants as command
use Rattle.krl_steps.specs.declared.answer.Answer.TheVariants as told
use Rattle.krl_world.proofs.Examples.Worked.{two, begun, hello, lock, epoch, gap, grant, joined, granted, hello_case, reads_hello, lock_case, reads_lock}

-- The index

abbrev pub m : Index
m = map.from_entries two

pub no_entries : map.entries (map.empty {X = Value} {R = nat_cmp}) ≡ []
no_entries = nil_from_length _ (sym (map.len-entries (map.empty {X = Value} {R = nat_cmp})) ∙ map.len-empty nat_cmp Value)

pub index_entries : map.entries m ≡ two
index_entries = map.entries-insert nat_cmp_total (map.insert map.empty 20 (2 ∷ [])) 10 (1 ∷ []) ∙ ap (put nat_cmp 10 (1 ∷ [])) (map.entries-insert nat_cmp_total map.empty 20 (2 ∷ []) ∙ ap (put nat_cmp 20 (2 ∷ [])) no_entries)

-- The client

abbrev pub no_pieces : Pieces
no_pieces = record { ranges = []; keys = [] }

abbrev k0 : Client
k0 = clients.begun 0 1

abbrev pub k1 : Client
k1 = messages.joined k0 1

abbrev k2 : Client
k2 = locked k1 5 6 mode.RangeSS

abbrev pub k3 : Client
k3 = accepted k2 (push.Grant 1 (gap ∷ []))

pub told_nothing : Describes no_pieces no_belief
told_nothing = record { ranges_in_order = tt; merged = tt; keys_in_order = tt; ranges = λ p. refl; keys = λ p. refl }

-- The worlds

abbrev pub w1 : State
w1 = seated (fresh two) 0 (record { last_incarnation = 1; client = Some k0 }) (hello ∷ [])

abbrev pub w2 : State
w2 = served w1 (Up (joined m)) (epoch ∷ []) []

abbrev pub w3 : State
w3 = with_client w2 0 (Some k1) (says_report no_pieces k1 ∷ [])

abbrev w4 : State
w4 = with_client w3 0 (Some k2) (lock ∷ [])

abbrev w5 : State
w5 = served w4 (Up (granted m)) (grant ∷ []) []

abbrev pub w6 : State
w6 = with_client w5 0 (Some k3) (says_ack k3 ∷ [])

pub starts : Takes (fresh two) (step.StartClient 0) told.Done w1
unfolding opened
starts = (refl, (refl, refl))

hello_applies : applies hello (case_of (begun m) hello) ≡ []
hello_applies = ap (applies hello) (hello_case m)

pub hears_hello : Takes w1 (step.Deliver 1) told.Done w2
unfolding opened
hears_hello = (refl, (refl, (joined m, epoch ∷ [], reads_hello m, ap (λ xs. served w1 (Up (joined m)) (epoch ∷ []) xs) (sym hello_applies))))

pub joins : Takes w2 (step.Deliver 2) told.Done w3
unfolding opened
joins = (refl, (refl, (no_pieces, told_nothing, refl)))

asks : Takes w3 (step.Command 0 (command.Lock 5 6 mode.RangeSS)) told.Done w4
unfolding opened
asks = (refl, (k1, refl, (refl, refl)))

lock_applies : applies lock (case_of (joined m) lock) ≡ []
lock_applies = ap (applies lock) (lock_case m index_entries)

hears_lock : Takes w4 (step.Deliver 4) told.Done w5
unfolding opened
hears_lock = (refl, (refl, (granted m, grant ∷ [], reads_lock m index_entries, ap (λ xs. served w4 (Up (granted m)) (grant ∷ []) xs) (sym lock_applies))))

accepts : Takes w5 (step.Deliver 5) told.Done w6
unfolding opened
accepts = (refl, (refl, (no_pieces, told_nothing, refl)))

abbrev pub run : List Step
run = step.StartClient 0 ∷ step.Deliver 1 ∷ step.Deliver 2 ∷ step.Command 0 (command.Lock 5 6 mode.RangeSS) ∷ step.Deliver 4 ∷ step.Deliver 5 ∷ []

kept : IsKept (unused two)
unfolding IsDistinct
kept = record {
  keys = subst AreBelowEnd (sym index_entries) (refl, (refl, tt));
  few = subst (λ (es : List (ℕ × Value)). length es ≤ STANDARD_ROOM) (sym index_entries) (omega arith);
  room = (omega arith, omega arith);
  reach = (omega arith, omega arith);
  epoch = omega arith;
  clients = tt;
  once = tt;
  outcomes = λ c r e. absurd (none-some r e);
  lasts = λ c r e. absurd (none-some r e);
  incarnations = λ c r e. absurd (none-some r e);
}

pub opens : CanOpen (unused two)
opens = record { kept = kept; starts = refl; left = refl }

pub runs : Runs (fresh two) run w6
runs = (told.Done, w1, starts, (told.Done, w2, hears_hello, (told.Done, w3, joins, (told.Done, w4, asks, (told.Done, w5, hears_lock, (told.Done, w6, accepts, refl))))))

pub reached : IsReachable w6
unfolding opened
reached = runs_reached (fresh two) w6 run (steps.opens (unused two) opens) runs

-- Its scan

covered_by : (t u : Bool) → t ≡ true → (reads_key (if t then (if u then key.S else key.N) else key.N) || reads_gap (if t then range.S else range.N)) ≡ true
covered_by true true e = refl
covered_by true false e = refl
covered_by false u e = absurd (cc)

pub covers : CoversAll k3.belief (span 0 11)
covers p at = let h = at.1 in covered_by (contains (span 0 11) p) (nat_eq (suc p) 11) (inside p h)
  where
    inside : (p : ℕ) → p < 11 → contains (span 0 11) p ≡ true
    inside p h = grind (arith, nat_tests)

row_by : (v : Value) (p : ℕ) (t u : Bool) → contains (span 0 11) p ≡ t → nat_eq (suc p) 11 ≡ u → cond (eq_by_cmp nat_cmp p 10) (Some v) None ≡ (if t then (if t then (if u then Some v else None) else None) else None)
row_by v p true true e f = let i : p ≡ 10 = grind (arith, nat_tests) in subst (λ q. cond (eq_by_cmp nat_cmp q 10) (Some v) None ≡ Some v) (sym i) refl
row_by v p true false e f = let i : eq_by_cmp nat_cmp p 10 ≡ false = grind (arith, nat_tests) in rw i refl
row_by v p false u e f = let i : eq_by_cmp nat_cmp p 10 ≡ false = grind (arith, nat_tests) in rw i refl

pub rows : AreRows k3.belief (span 0 11) ((10, 1 ∷ []) ∷ [])
rows = record { sorted = refl; at = λ p. row_by (1 ∷ []) p (contains (span 0 11) p) (nat_eq (suc p) 11) refl refl }

pub scans : Steps w6 (step.Command 0 (command.Scan 0 11)) (Ok (told.Rows ((10, 1 ∷ []) ∷ []))) w6
unfolding opened Steps
scans = (refl, (k3, refl, (finds_rows ((10, 1 ∷ []) ∷ []) refl (covers, rows), refl)))
