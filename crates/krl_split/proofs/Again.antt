-- A run over a cut: the server of a part starts, takes the client's clipped report, and serves, and the client holds what
-- it held before the crash.
use Rattle.krl_split.proofs.Names.{◌≡◌, ◌≢◌, ◌≤◌, ◌<◌, ℕ, true, false, None, [], ◌∷◌, inl, inr, refl, sym, ap, subst, ◌∙◌, ⊎_elim, true≢false, arith, cases_lt, nat_eq, eq-eqb, ne_eqb, Mode, at_or_above, RangeAtMost}
use Rattle.krl_split.proofs.Names.{Down, Recovering, Serving, Report, Shared, Link, LinkSteps, idle, next, IsSlot, InSpan, IsRebuilt, IsMissing, no_range, no_key, notifies, joins, takes_report, range_at, key_at, World, Steps, none, more, start, finish, blank_link}
use Rattle.krl_modes.specs.declared.part.RangePart.TheVariants as range
use Rattle.krl_machine.proofs.Worlds.{eq_cases}
use Rattle.krl_machine.proofs.Steps.{put, put_changed, steps_on, link_steps}
use Rattle.krl_machine.proofs.Tables.{KeysNear, range_near, range_far, report_rebuilds}
use Rattle.krl_machine.proofs.Runs.{reachable_inv}
use Rattle.krl_machine.proofs.Witness.{reach2, shared, scan_mode, joined, scan_row, holds, world2}
use Rattle.krl_split.specs.Parts.{index_part, link_part, part}
use Rattle.krl_split.proofs.Clips.{where_is, choose_in, choose_out}
use Rattle.krl_split.proofs.Witness.{down}

abbrev pub cut : World
cut = part 3 7 down

-- the server of the part has started, and waits for client 0
abbrev recovering : Shared
recovering = record { epoch = 2; phase = Recovering; index = index_part 3 7 (λ q. None); end = 9 }

abbrev started : World
started = record {
  shared = recovering;
  links = λ c. record (cut.links c) { missing = nat_eq c 0; last_push = 0; acked = true; new_range = no_range; new_key = no_key };
  log = [];
}

none_part : (q : ℕ) → recovering.index q ≡ None
none_part q = where_is 3 7 q (λ a b. choose_in 3 7 q None None a b) (λ out. choose_out 3 7 q None None out)

others : (c : ℕ) → c ≢ 0 → world2.links c ≡ blank_link
others c ne = (put_changed (put (put (λ d. blank_link) 0 joined) 0 scan_row) 0 holds).rest c ne ∙ (put_changed (put (λ d. blank_link) 0 joined) 0 scan_row).rest c ne ∙ (put_changed (λ d. blank_link) 0 joined).rest c ne

counted : (c : ℕ) → IsMissing (cut.links c) (nat_eq c 0)
counted c e = eq_cases c 0 (λ z. absurd (true≢false (sym (eq-eqb c 0 z) ∙ e))) (λ ne. inr (ap (λ (x : Link). x.reg) (others c ne)))

is_down : cut.shared.phase ≡ Down
is_down = refl

starts_again : Steps cut started
starts_again = more none (start (λ c. nat_eq c 0) is_down counted)

-- client 0 learns of it, and reports what it holds of the part
abbrev waited : Link
waited = record (link_part 3 7 9 holds) { missing = true; last_push = 0; acked = true; new_range = no_range; new_key = no_key }

abbrev told : Link
told = record waited { notices = record { inc = 1; epoch = 2 } ∷ waited.notices }

abbrev report : Report
report = record { inc = 1; epoch = 2; range = waited.client.range; key = waited.client.key }

abbrev reported : Link
reported = record told { client = record told.client { epoch = 2; seen = 0 }; reports = report ∷ told.reports }

abbrev modes : ℕ → Mode
modes m = scan_mode

abbrev taken : Link
taken = record reported { missing = false; new_range = range_at recovering modes; new_key = key_at recovering modes }

near : KeysNear recovering
near q le = none_part q

only_end : (n : ℕ) → IsSlot recovering n → n ≡ 9
only_end n slot = eq_cases n 9 (λ e. e) (λ ne. absurd (slot ne (none_part n)))

top_reads : (q : ℕ) → RangeAtMost (range_at shared (λ m. scan_mode) q) range.S
top_reads q = ⊎_elim
    (λ (far : 9 < q). subst (λ x. RangeAtMost x range.S) (sym (range_far shared (λ m. scan_mode) q far)) (omega arith, omega arith))
    (λ (le : q ≤ 9). subst (λ x. RangeAtMost x range.S) (sym (range_near shared (λ m. scan_mode) q le)) (omega arith, omega arith)) (cases_lt 9 q)

held_reads : (q : ℕ) → RangeAtMost (holds.client.range q) range.S
held_reads q = let b = ((reachable_inv (λ x. None) 9 world2 reach2).links 0).belief.bound q in let t = top_reads q in (omega (arith, b, t), omega (arith, b, t))

rebuilt : IsRebuilt recovering report (range_at recovering modes) (key_at recovering modes)
rebuilt = report_rebuilds recovering near report modes (λ n. range.S)
    (λ n q slot span. where_is 3 7 q
    (λ a b. subst (λ x. RangeAtMost x range.S) (sym (choose_in 3 7 q (holds.client.range q) range.N a b)) (held_reads q))
    (λ out. subst (λ x. RangeAtMost x range.S) (sym (choose_out 3 7 q (holds.client.range q) range.N out)) (omega arith, omega arith)))
    (λ n a slot ranges. let e = only_end n slot in ranges 5 (subst (λ m. InSpan recovering m 5) (sym e) (omega arith, λ k x y. (none_part k, λ f. omega (arith, f, y)))))
    (λ n slot. subst (λ m. scan_mode ≡ at_or_above range.S (report.key m)) (sym (only_end n slot)) refl)

up_phase : Recovering ≢ Down
up_phase e = absurd (cc)

reports_to_it : LinkSteps recovering waited taken
reports_to_it = next {m = told} (notifies up_phase) (next {m = reported} (joins (record { inc = 1; epoch = 2 }) (inl refl) refl refl (omega arith)) (next {m = taken} (takes_report report (range_at recovering modes) (key_at recovering modes) (inl refl) refl refl refl refl rebuilt) idle))

abbrev all_reported : World
all_reported = record { shared = recovering; links = put started.links 0 taken; log = [] }

gathers : Steps started all_reported
gathers = link_steps recovering [] 0 waited taken started.links (put started.links 0 taken) refl reports_to_it (put_changed started.links 0 taken)

nobody_missing : (c : ℕ) → (all_reported.links c).missing ≡ false
nobody_missing c = eq_cases c 0
    (λ e. subst (λ x. (all_reported.links x).missing ≡ false) (sym e) (ap (λ (x : Link). x.missing) (put_changed started.links 0 taken).here))
    (λ ne. ap (λ (x : Link). x.missing) ((put_changed started.links 0 taken).rest c ne) ∙ ne_eqb c 0 ne)

abbrev pub serves : World
serves = record {
  shared = record recovering { phase = Serving };
  links = λ c. record (all_reported.links c) { top_range = (all_reported.links c).new_range; top_key = (all_reported.links c).new_key };
  log = [];
}

pub goes_on : Steps cut serves
goes_on = more (steps_on starts_again gathers) (finish refl nobody_missing)

pub holds_on : (serves.links 0).client.range 5 ≡ range.S
holds_on = refl
