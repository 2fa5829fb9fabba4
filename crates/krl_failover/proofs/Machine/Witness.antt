-- A run in which an old server continues: a client in its epoch comes to hold a lock after another server has started.
use Rattle.std.specs.Bool.{◌==◌}
use Rattle.krl_failover.proofs.Machine.Names.{◌≡◌, ◌≢◌, ℕ, ◌<◌, true, false, Bool, Some, None, [], ◌∷◌, inl, inr, refl, sym, ap, subst, ◌∙◌, ⊎_elim, true≢false, arith, nat_eq, eq-eqb, ne_eqb, if◌then◌else◌, Mode, RangesAgree, KeysAgree, Down, Recovering, Serving}
use Rattle.krl_failover.proofs.Machine.Names.{Said, Push, Shared, Link, LinkStep, adopted, MaySay, IsSlot, InSpan, no_range, no_key, starts, joins, accepts, speaks, registers, range_at, key_at, at_link, blank_link, reads_bound, inserts_bound, rank_bound}
use Rattle.krl_modes.specs.declared.part.RangePart.TheVariants as range
use Rattle.krl_modes.specs.declared.mode.Mode.TheVariants as mode
use Rattle.krl_machine.proofs.Worlds.{eq_cases}
use Rattle.krl_machine.proofs.Steps.{put, put_changed}
use Rattle.krl_machine.proofs.Holdings.{slot_holding, said_each}
use Rattle.krl_machine.specs.Holdings.{said_by}
use Rattle.krl_messages.specs.declared.holding.Holding.{Holding}
use Rattle.krl_machine.proofs.Tables.{KeysNear, table_row}
use Rattle.krl_failover.specs.Fenced.{Kept, kept_of, Fenced, Turned, first_fenced}
use Rattle.krl_failover.specs.Steps.{FencedStep, runs, takes_over, old_raises, old_pushes, FencedReachable, opened, went, FencedSteps, stays_so, on_then}

abbrev shared1 : Shared
shared1 = record { epoch = 1; phase = Serving; index = λ q. None; end = 9 }

abbrev shared2 : Shared
shared2 = record { epoch = 2; phase = Recovering; index = λ q. None; end = 9 }

abbrev scan_mode : Mode
scan_mode = mode.RangeSS

near : KeysNear shared2
near q le = refl

up_phase : Serving ≢ Down
up_phase e = absurd (cc)

abbrev l1 : Link
l1 = record blank_link {
  client = record { up = true; inc = 1; epoch = 0; seen = 0; range = no_range; key = no_key; value = λ q. None; issued = 0; out = None };
  hellos = 1 ∷ [];
}

abbrev l2 : Link
l2 = record l1 { reg = 1; notices = record { inc = 1; epoch = 1 } ∷ [] }

abbrev l3 : Link
l3 = record l2 {
  client = record l2.client { epoch = 1; seen = 0 };
  reports = record { inc = 1; epoch = 1; range = no_range; key = no_key } ∷ [];
}

abbrev l4 : Link
l4 = record l3 { heads = record { inc = 1; epoch = 1; seen = 0 } ∷ [] }

abbrev links4 : ℕ → Link
links4 = put (put (put (put (λ c. blank_link) 0 l1) 0 l2) 0 l3) 0 l4

pub rest4 : (d : ℕ) → d ≢ 0 → links4 d ≡ blank_link
rest4 d ne = (put_changed (put (put (put (λ c. blank_link) 0 l1) 0 l2) 0 l3) 0 l4).rest d ne
    ∙ (put_changed (put (put (λ c. blank_link) 0 l1) 0 l2) 0 l3).rest d ne
    ∙ (put_changed (put (λ c. blank_link) 0 l1) 0 l2).rest d ne
    ∙ (put_changed (λ c. blank_link) 0 l1).rest d ne

abbrev with_links : (ℕ → Link) → Fenced
with_links links = record (first_fenced (λ q. None) 9) { world = record { shared = shared1; links = links; log = [] } }

go : (links : ℕ → Link) (l : Link) → LinkStep shared1 (links 0) l → FencedReachable (λ q. None) 9 (with_links links) → FencedReachable (λ q. None) 9 (with_links (put links 0 l))
go links l step r = went (with_links links) (with_links (put links 0 l)) r (runs (record { shared = shared1; links = put links 0 l; log = [] }) (at_link 0 l (put links 0 l) step (put_changed links 0 l)) refl refl)

abbrev f4 : Fenced
f4 = with_links links4

reach4 : FencedReachable (λ q. None) 9 f4
reach4 =
    go (put (put (put (λ c. blank_link) 0 l1) 0 l2) 0 l3) l4 (speaks refl (omega arith))
    (go (put (put (λ c. blank_link) 0 l1) 0 l2) l3 (joins (record { inc = 1; epoch = 1 }) (inl refl) refl refl (omega arith))
    (go (put (λ c. blank_link) 0 l1) l2 (registers 1 (inl refl) up_phase (omega arith))
    (go (λ c. blank_link) l1 (starts refl) opened)))

-- client 0 is missing, all others are unknown
abbrev pub lost : ℕ → Bool
lost c = nat_eq c 0

abbrev pub links5 : ℕ → Link
links5 c = record (links4 c) { missing = lost c; last_push = 0; acked = true; new_range = no_range; new_key = no_key }

abbrev pub old5 : ℕ → ℕ → Kept
old5 = λ e c. if e == 1 then kept_of (links4 c) else f4.old e c

abbrev pub f5 : Fenced
f5 = record { world = record { shared = shared2; links = λ c. links5 c; log = [] }; bound = 1; old = old5; copy = λ e. if e == 1 then (λ q. None) else f4.copy e }

pub reach5 : FencedReachable (λ q. None) 9 f5
reach5 = went f4 f5 reach4 (takes_over lost (λ c m. eq_cases c 0 (λ e. absurd (true≢false (sym (eq-eqb c 0 e) ∙ m))) (λ ne. inr (ap (λ l. l.reg) (rest4 c ne)))))

abbrev raised : Link
raised = record (links5 0) { top_range = range_at shared2 (λ m. scan_mode); top_key = key_at shared2 (λ m. scan_mode) }

abbrev f6 : Fenced
f6 = record f5 { world = record f5.world { links = put f5.world.links 0 raised } }

step6 : FencedStep f5 f6
step6 = old_raises 0 (range_at shared2 (λ m. scan_mode)) (key_at shared2 (λ m. scan_mode)) (put f5.world.links 0 raised) refl (table_row shared2 near (λ m. scan_mode)) (λ q. ((omega arith, omega arith), omega arith))
    (λ d ne q. subst (λ (x : Link). RangesAgree (range_at shared2 (λ m. scan_mode) q) (x.top_range q) × KeysAgree (key_at shared2 (λ m. scan_mode) q) (x.top_key q)) (sym (rest4 d ne))
    ((omega (arith, reads_bound (range_at shared2 (λ m. scan_mode) q)), omega (arith, inserts_bound (range_at shared2 (λ m. scan_mode) q))), omega (arith, rank_bound (key_at shared2 (λ m. scan_mode) q))))
    (put_changed f5.world.links 0 raised)

abbrev whole : Holding
whole = record { span = record { lo = 0; hi = 10 }; mode = scan_mode; value = None }

abbrev push : Push
push = record { inc = 1; epoch = 1; number = 1; answers = 0; applied = false; says = said_by (whole ∷ []) }

end_slot : IsSlot shared2 9
end_slot far = absurd (far refl)

whole_span : (q : ℕ) → q < 10 → InSpan shared2 9 q
whole_span q lt = (omega arith, λ k a b. (refl, λ e. omega (arith, e)))

may_say : (q : ℕ) (t : Said) → push.says q ≡ Some t → MaySay shared2 raised q t
may_say = said_each (MaySay shared2 raised) (whole ∷ []) (
  slot_holding shared2 raised (λ m. scan_mode) near (record { range = λ p. refl; key = λ p. refl }) 9 end_slot whole refl refl
      (λ q low up. whole_span q up) (λ far. absurd (far refl)),
  tt,
)

abbrev told : Link
told = record raised { pushes = push ∷ [] }

abbrev kept7 : Kept
kept7 = record (kept_of (links4 0)) { last = 1; acked = false }

abbrev old7 : ℕ → ℕ → Kept
old7 e c = if e == 1 then (if c == 0 then kept7 else old5 e c) else old5 e c

pub same_both : (b : Bool) (z : Kept) → (if b then z else z) ≡ z
same_both true z = refl
same_both false z = refl

turned7 : Turned old5 old7 1 0 kept7
turned7 = record {
  here = refl;
  rest = λ e d. ⊎_elim
      (λ (ne : e ≢ 1). ap (λ b. if b then (if d == 0 then kept7 else old5 e d) else old5 e d) (ne_eqb e 1 ne))
      (λ (ne : d ≢ 0). ap (λ b. if e == 1 then (if b then kept7 else old5 e d) else old5 e d) (ne_eqb d 0 ne) ∙ same_both (e == 1) (old5 e d));
}

abbrev f7 : Fenced
f7 = record f6 { world = record f6.world { links = put f6.world.links 0 told }; old = old7 }

step7 : FencedStep f6 f7
step7 = old_pushes 0 push (put f6.world.links 0 told) old7 refl (refl, refl)
    (record { head = record { inc = 1; epoch = 1; seen = 0 }; heard = inl refl; head_inc = refl; head_epoch = refl; acked = refl; inc = refl; epoch = refl; number = refl; answers = inl refl })
    may_say (put_changed f6.world.links 0 told) turned7

abbrev holds : Link
holds = record told {
  client = record told.client { seen = 1; range = λ q. (adopted told push q).range; key = λ q. (adopted told push q).key; value = λ q. (adopted told push q).value; out = None };
  heads = record { inc = 1; epoch = 1; seen = 1 } ∷ told.heads;
}

accept_step : LinkStep shared2 told holds
accept_step = accepts push None (inl refl) (record { up = refl; inc = refl; epoch = refl; number = refl }) (inl (refl, refl))

abbrev f8 : Fenced
f8 = record f7 { world = record f7.world { links = put f7.world.links 0 holds } }

step8 : FencedStep f7 f8
step8 = runs (record f7.world { links = put f7.world.links 0 holds }) (at_link 0 holds (put f7.world.links 0 holds) accept_step (put_changed f7.world.links 0 holds)) refl refl

pub goes_on : (f g : Fenced) × FencedReachable (λ q. None) 9 f × FencedSteps f g × (f.world.shared.epoch ≡ 2) × ((f.world.links 0).range 5 ≡ range.N) × (g.world.shared.epoch ≡ 2) × ((g.world.links 0).epoch ≡ 1) × ((g.world.links 0).range 5 ≡ range.S)
goes_on = (f5, f8, reach5, on_then (on_then (on_then stays_so step6) step7) step8, refl, refl, refl, refl, refl)
