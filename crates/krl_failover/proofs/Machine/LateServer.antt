-- A run in which a server that is old before it has served comes to serve.
use Rattle.std.specs.Bool.{◌==◌}
use Rattle.krl_failover.proofs.Machine.Names.{◌≡◌, ◌≢◌, ℕ, true, false, None, [], ◌∷◌, inl, inr, refl, sym, ap, subst, ◌∙◌, ⊎_elim, true≢false, arith, eq-eqb, ne_eqb, if◌then◌else◌, Down, Recovering}
use Rattle.krl_failover.proofs.Machine.Names.{Shared, Link, Report, IsRebuilt, no_range, no_key, notifies, joins, at_link}
use Rattle.krl_machine.proofs.Links.{row_none}
use Rattle.krl_machine.proofs.Worlds.{eq_cases}
use Rattle.krl_machine.proofs.Steps.{put, put_changed}
use Rattle.krl_failover.specs.Fenced.{Kept, kept_of, Fenced, IsHere, Turned, here_rows, seen_by}
use Rattle.krl_failover.specs.Steps.{FencedStep, runs, takes_over, old_takes_report, old_finishes, FencedReachable, went, FencedSteps, stays_so, on_then}
use Rattle.krl_failover.proofs.Machine.Witness.{links5, old5, f5, reach5, lost, rest4, same_both}

-- the client of epoch 1 learns epoch 2, and joins it
abbrev invited : Link
invited = record (links5 0) { notices = record { inc = 1; epoch = 2 } ∷ (links5 0).notices }

abbrev report : Report
report = record { inc = 1; epoch = 2; range = no_range; key = no_key }

abbrev joined : Link
joined = record invited { client = record invited.client { epoch = 2; seen = 0 }; reports = report ∷ invited.reports }

abbrev links6 : ℕ → Link
links6 = put (λ c. links5 c) 0 invited

abbrev links7 : ℕ → Link
links7 = put links6 0 joined

abbrev f6 : Fenced
f6 = record f5 { world = record f5.world { links = links6 } }

abbrev f7 : Fenced
f7 = record f5 { world = record f5.world { links = links7 } }

recovering_up : Recovering ≢ Down
recovering_up e = absurd (cc)

reach7 : FencedReachable (λ q. None) 9 f7
reach7 =
    went f6 f7 (went f5 f6 reach5 (runs f6.world (at_link 0 invited links6 (notifies recovering_up) (put_changed (λ c. links5 c) 0 invited)) refl refl))
    (runs f7.world (at_link 0 joined links7 (joins (record { inc = 1; epoch = 2 }) (inl refl) refl refl (omega arith)) (put_changed links6 0 joined)) refl refl)

rest7 : (d : ℕ) → d ≢ 0 → links7 d ≡ links5 d
rest7 d ne = (put_changed links6 0 joined).rest d ne ∙ (put_changed (λ c. links5 c) 0 invited).rest d ne

-- the server of epoch 3 starts before that of epoch 2 has the client's report
abbrev shared3 : Shared
shared3 = record { epoch = 3; phase = Recovering; index = λ q. None; end = 9 }

abbrev links8 : ℕ → Link
links8 c = record (links7 c) { missing = lost c; last_push = 0; acked = true; new_range = no_range; new_key = no_key }

abbrev old8 : ℕ → ℕ → Kept
old8 = λ e c. if e == 2 then kept_of (links7 c) else old5 e c

abbrev f8 : Fenced
f8 = record { world = record { shared = shared3; links = λ c. links8 c; log = [] }; bound = 1; old = old8; copy = λ e. if e == 2 then (λ q. None) else f5.copy e }

reach8 : FencedReachable (λ q. None) 9 f8
reach8 = went f7 f8 reach7 (takes_over lost (λ c m. eq_cases c 0 (λ e. absurd (true≢false (sym (eq-eqb c 0 e) ∙ m))) (λ ne. inr (ap (λ l. l.reg) (rest7 c ne) ∙ ap (λ l. l.reg) (rest4 c ne)))))

-- that of epoch 2 takes the report
blank_rebuilt : IsRebuilt (seen_by f8 2) report no_range no_key
blank_rebuilt = record {
  row = row_none (seen_by f8 2);
  above = λ n q slot span. (omega arith, omega arith);
  key_above = λ n slot. omega arith;
  least = λ n a k slot mode r key. ((omega arith, omega arith), omega arith);
}

abbrev kept9 : Kept
kept9 = record (kept_of (links7 0)) { missing = false; new_range = no_range; new_key = no_key }

abbrev old9 : ℕ → ℕ → Kept
old9 e c = if e == 2 then (if c == 0 then kept9 else old8 e c) else old8 e c

turned9 : Turned old8 old9 2 0 kept9
turned9 = record {
  here = refl;
  rest = λ e d. ⊎_elim
      (λ (ne : e ≢ 2). ap (λ b. if b then (if d == 0 then kept9 else old8 e d) else old8 e d) (ne_eqb e 2 ne))
      (λ (ne : d ≢ 0). ap (λ b. if e == 2 then (if b then kept9 else old8 e d) else old8 e d) (ne_eqb d 0 ne) ∙ same_both (e == 2) (old8 e d));
}

abbrev f9 : Fenced
f9 = record f8 { old = old9 }

step9 : FencedStep f8 f9
step9 = old_takes_report 2 0 report no_range no_key old9 (omega arith) (omega arith) (inl refl) refl refl refl blank_rebuilt turned9

-- and has every report
none_missing : (c : ℕ) → (old9 2 c).missing ≡ false
none_missing c = eq_cases c 0
    (λ e. subst (λ x. (old9 2 x).missing ≡ false) (sym e) refl)
    (λ ne. ap (λ b. (if b then kept9 else old8 2 c).missing) (ne_eqb c 0 ne) ∙ ap (λ l. l.missing) (rest7 c ne) ∙ ne_eqb c 0 ne)

all_here : (c : ℕ) → IsHere (links8 c) (old9 2 c)
all_here c = eq_cases c 0
    (λ e. subst (λ x. IsHere (links8 x) (old9 2 x)) (sym e) (refl, refl))
    (λ ne. (ap (λ b. (if b then kept9 else old8 2 c).reg) (ne_eqb c 0 ne), ap (λ l. l.left) (rest7 c ne) ∙ ap (λ l. l.left) (rest4 c ne)))

abbrev links10 : ℕ → Link
links10 c = record (links8 c) { top_range = (old9 2 c).new_range; top_key = (old9 2 c).new_key }

abbrev f10 : Fenced
f10 = record f9 { world = record f9.world { links = λ c. links10 c }; bound = 2 }

step10 : FencedStep f9 f10
step10 = old_finishes 2 (λ c. links10 c) (omega arith) (omega arith) none_missing (λ c. here_rows (all_here c))

pub serves_late : (f g : Fenced) × FencedReachable (λ q. None) 9 f × FencedSteps f g × (f.world.shared.epoch ≡ 3) × (f.bound ≡ 1) × (g.world.shared.epoch ≡ 3) × (g.bound ≡ 2)
serves_late = (f8, f10, reach8, on_then (on_then stays_so step9) step10, refl, refl, refl, refl)
