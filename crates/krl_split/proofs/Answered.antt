-- A run over a cut: client 0 inserts the key 5, and its server crashes before it answers. The server of the part answers.
use Rattle.krl_split.proofs.Names.{◌≡◌, ◌≢◌, ℕ, true, false, Option, Some, None, [], ◌∷◌, inl, inr, refl, sym, ap, subst, ◌∙◌, true≢false, arith, cond, nat_eq, eq-eqb, ne_eqb, none-some, same_Some, Mode, KeyPart, Value, RangeAtMost, KeyAtMost, RangesAgree, KeysAgree}
use Rattle.krl_split.proofs.Names.{Down, Recovering, Serving, Insert, Said, Push, Write, Wrote, Report, Shared, Link, LinkStep, LinkSteps, idle, next, starts, registers, issues, MaySay, at_slot, AnswersLast, IsSlot, IsRebuilt, IsMissing, adopted, no_range, no_key, notifies, joins, speaks, takes_report, pushes, accepts}
use Rattle.krl_split.proofs.Names.{reads_bound, inserts_bound, rank_bound, inserts, range_at, key_at, World, Reachable, begun, first, stepped, raises, at_link, applies, inserted, crash, Steps, none, more, start, finish, blank_link}
use Rattle.krl_modes.specs.declared.part.RangePart.TheVariants as range
use Rattle.krl_modes.specs.declared.part.KeyPart.TheVariants as key
use Rattle.krl_modes.specs.declared.mode.Mode.TheVariants as mode
use Rattle.krl_machine.proofs.Worlds.{eq_cases}
use Rattle.krl_machine.proofs.Steps.{put, put_changed, steps_on, steps_reachable, link_steps}
use Rattle.krl_machine.proofs.Tables.{KeysNear, table_row, range_near}
use Rattle.krl_machine.proofs.Witness.{shared, joined, world1}
use Rattle.krl_split.specs.Parts.{choose, index_part, link_part, part}
use Rattle.krl_split.specs.Somewhere.{AnsweredSomewhere}
use Rattle.krl_split.proofs.Clips.{where_is, choose_in, choose_out}
use Rattle.krl_split.proofs.Promised.{reachable_parted}

-- Client 0 joins, and the server lets it insert. The client does not hear of it, and inserts

abbrev widest : ℕ → Mode
widest m = mode.RangeXX

near : KeysNear shared
near q le = refl

joins_up : LinkSteps shared blank_link joined
joins_up =
    next (starts refl) (next (registers 1 (inl refl) (λ e. absurd (cc)) (omega arith)) (next (joins (record { inc = 1; epoch = 1 }) (inl refl) refl refl (omega arith)) (next (speaks refl (omega arith)) idle)))

reach_joined : Reachable (λ q. None) 9 world1
reach_joined = steps_reachable (λ q. None) 9 (first (λ q. None) 9) world1 begun (link_steps shared [] 0 blank_link joined (λ c. blank_link) world1.links refl joins_up (put_changed (λ c. blank_link) 0 joined))

abbrev let_in : Link
let_in = record joined { top_range = range_at shared widest; top_key = key_at shared widest }

abbrev ready : World
ready = record { shared = shared; links = put world1.links 0 let_in; log = [] }

reach_ready : Reachable (λ q. None) 9 ready
reach_ready = stepped world1 ready reach_joined (raises 0 (range_at shared widest) (key_at shared widest) (put world1.links 0 let_in) refl (table_row shared near widest) (λ q. ((omega arith, omega arith), omega arith))
    (λ d ne q. subst (λ (x : Link). RangesAgree (range_at shared widest q) (x.top_range q) × KeysAgree (key_at shared widest q) (x.top_key q)) (sym ((put_changed (λ c. blank_link) 0 joined).rest d ne))
    ((omega (arith, reads_bound (range_at shared widest q)), omega (arith, inserts_bound (range_at shared widest q))), omega (arith, rank_bound (key_at shared widest q))))
    (put_changed world1.links 0 let_in))

abbrev value : Value
value = 1 ∷ []

abbrev write : Write
write = record { head = record { inc = 1; epoch = 1; seen = 0 }; number = 1; op = Insert 5 value }

abbrev asking : Link
asking = record let_in {
  client = record let_in.client { issued = 1; out = Some (Insert 5 value) };
  heads = write.head ∷ let_in.heads;
  writes = write ∷ let_in.writes;
}

issue : LinkStep shared let_in asking
issue = issues (Insert 5 value) refl (omega arith) refl tt

abbrev asked : World
asked = record { shared = shared; links = put ready.links 0 asking; log = [] }

reach_asked : Reachable (λ q. None) 9 asked
reach_asked = stepped ready asked reach_ready (at_link 0 asking (put ready.links 0 asking) issue (put_changed ready.links 0 asking))

-- The write is applied, and the server crashes

abbrev index : ℕ → Option Value
index q = cond (nat_eq q 5) (Some value) None

abbrev keys : ℕ → KeyPart
keys q = cond (nat_eq q 5) key.X (key_at shared widest q)

abbrev wrote : Wrote
wrote = record { inc = 1; number = 1; op = Insert 5 value }

abbrev judged : Link
judged = record asking { done = 1; applied = true; wrote = wrote ∷ []; top_key = keys }

abbrev made : World
made = record { shared = record shared { index = index }; links = put asked.links 0 judged; log = record { client = 0; wrote = wrote } ∷ [] }

reach_made : Reachable (λ q. None) 9 made
reach_made = stepped asked made reach_asked (applies 0 write index keys (put asked.links 0 judged) (inl refl) (record { serving = refl; here = refl; inc = refl; epoch = refl; seen = refl }) refl refl
    (inserted 5 value (omega arith) refl (ap inserts (range_near shared widest 5 (omega arith))) refl
    (λ q ne. ap (λ b. cond b (Some value) None) (ne_eqb q 5 ne)) refl (λ q ne. ap (λ b. cond b key.X (key_at shared widest q)) (ne_eqb q 5 ne)))
    (put_changed asked.links 0 judged))

abbrev whole : World
whole = record { shared = record made.shared { phase = Down }; links = made.links; log = made.log }

reach_whole : Reachable (λ q. None) 9 whole
reach_whole = stepped made whole reach_made (crash (λ e. absurd (cc)))

-- The server of the part of the key has started, and waits for client 0

abbrev cut : World
cut = part 3 7 whole

abbrev recovering : Shared
recovering = record { epoch = 2; phase = Recovering; index = index_part 3 7 index; end = 9 }

abbrev started : World
started = record {
  shared = recovering;
  links = λ c. record (cut.links c) { missing = nat_eq c 0; last_push = 0; acked = true; new_range = no_range; new_key = no_key };
  log = cut.log;
}

others : (c : ℕ) → c ≢ 0 → whole.links c ≡ blank_link
others c ne = (put_changed asked.links 0 judged).rest c ne ∙ (put_changed ready.links 0 asking).rest c ne ∙ (put_changed world1.links 0 let_in).rest c ne ∙ (put_changed (λ d. blank_link) 0 joined).rest c ne

counted : (c : ℕ) → IsMissing (cut.links c) (nat_eq c 0)
counted c e = eq_cases c 0 (λ z. absurd (true≢false (sym (eq-eqb c 0 z) ∙ e))) (λ ne. inr (ap (λ (x : Link). x.reg) (others c ne)))

starts_again : Steps cut started
starts_again = more none (start (λ c. nat_eq c 0) refl counted)

-- client 0 learns of it, and reports that it holds nothing

abbrev waited : Link
waited = record (link_part 3 7 9 judged) { missing = true; last_push = 0; acked = true; new_range = no_range; new_key = no_key }

abbrev noticed : Link
noticed = record waited { notices = record { inc = 1; epoch = 2 } ∷ waited.notices }

abbrev report : Report
report = record { inc = 1; epoch = 2; range = waited.client.range; key = waited.client.key }

abbrev reported : Link
reported = record noticed { client = record noticed.client { epoch = 2; seen = 0 }; reports = report ∷ noticed.reports }

abbrev heard : Link
heard = record reported { heads = record { inc = 1; epoch = 2; seen = 0 } ∷ reported.heads }

abbrev taken : Link
taken = record heard { missing = false }

reads_nothing : (q : ℕ) → choose 3 7 q range.N range.N ≡ range.N
reads_nothing q = where_is 3 7 q (λ a b. choose_in 3 7 q range.N range.N a b) (λ out. choose_out 3 7 q range.N range.N out)

holds_nothing : (q : ℕ) → choose 3 7 q key.N key.N ≡ key.N
holds_nothing q = where_is 3 7 q (λ a b. choose_in 3 7 q key.N key.N a b) (λ out. choose_out 3 7 q key.N key.N out)

rebuilt : IsRebuilt recovering report no_range no_key
rebuilt = record {
  row = record { same = λ q ne absent. refl; past = λ q far. (refl, refl); mode = λ n slot. (omega arith, omega arith); off = λ q ne absent. refl };
  above = λ n q slot span. subst (λ x. RangeAtMost x range.N) (sym (reads_nothing q)) (omega arith, omega arith);
  key_above = λ n slot. subst (λ x. KeyAtMost x key.N) (sym (holds_nothing n)) (omega arith);
  least = λ n a k slot is ranges keys. ((omega arith, omega arith), omega arith);
}

reports_to_it : LinkSteps recovering waited taken
reports_to_it =
    next {m = noticed} (notifies (λ e. absurd (cc))) (next {m = reported} (joins (record { inc = 1; epoch = 2 }) (inl refl) refl refl (omega arith))
    (next {m = heard} (speaks refl (omega arith)) (next {m = taken} (takes_report report no_range no_key (inl refl) refl refl refl refl rebuilt) idle)))

abbrev all_reported : World
all_reported = record { shared = recovering; links = put started.links 0 taken; log = cut.log }

gathers : Steps started all_reported
gathers = link_steps recovering cut.log 0 waited taken started.links (put started.links 0 taken) refl reports_to_it (put_changed started.links 0 taken)

nobody_missing : (c : ℕ) → (all_reported.links c).missing ≡ false
nobody_missing c = eq_cases c 0
    (λ e. subst (λ x. (all_reported.links x).missing ≡ false) (sym e) refl)
    (λ ne. ap (λ (x : Link). x.missing) ((put_changed started.links 0 taken).rest c ne) ∙ ne_eqb c 0 ne)

-- It serves, and answers

abbrev serving : Shared
serving = record recovering { phase = Serving }

abbrev serves : World
serves = record {
  shared = serving;
  links = λ c. record (all_reported.links c) { top_range = (all_reported.links c).new_range; top_key = (all_reported.links c).new_key };
  log = cut.log;
}

abbrev waiting : Link
waiting = record taken { top_range = no_range; top_key = no_key }

abbrev nothing : Said
nothing = record { range = range.N; key = key.N; value = None }

abbrev answer : Push
answer = record { inc = 1; epoch = 2; number = 1; answers = 1; applied = true; says = λ q. cond (nat_eq q 5) (Some nothing) None }

abbrev answered : Link
answered = record waiting { last_push = 1; acked = false; pushes = answer ∷ waiting.pushes }

abbrev told : Link
told = record answered {
  client = record answered.client { seen = 1; range = λ q. (adopted answered answer q).range; key = λ q. (adopted answered answer q).key; value = λ q. (adopted answered answer q).value; out = None };
  heads = record { inc = 1; epoch = 2; seen = 1 } ∷ answered.heads;
}

key_slot : IsSlot serving 5
key_slot far e = none-some value (sym e)

may_say_there : (t : Said) → answer.says 5 ≡ Some t → MaySay serving waiting 5 t
may_say_there t s = subst (λ x. MaySay serving waiting 5 x) (same_Some nothing t s) (at_slot key_slot refl refl (λ ne read. absurd (omega (arith, read))))

may_say : (q : ℕ) (t : Said) → answer.says q ≡ Some t → MaySay serving waiting q t
may_say q t = eq_cases q 5
    (λ e. subst (λ p. answer.says p ≡ Some t → MaySay serving waiting p t) (sym e) (may_say_there t))
    (λ ne s. absurd (none-some t (sym (ap (λ b. cond b (Some nothing) None) (ne_eqb q 5 ne)) ∙ s)))

answers_it : AnswersLast waiting answer
answers_it = record { write = write; sent = inl refl; inc = refl; number = refl; answers = refl; applied = refl; speaks = λ e. none-some nothing (sym e) }

tells : LinkSteps serving waiting told
tells =
    next {m = answered} (pushes answer (record { inc = 1; epoch = 2; seen = 0 }) (inl refl) refl refl refl refl refl refl refl refl may_say (inr answers_it))
    (next {m = told} (accepts answer None (inl refl) (record { up = refl; inc = refl; epoch = refl; number = refl }) (inl (refl, refl))) idle)

abbrev after : World
after = record { shared = serving; links = put serves.links 0 told; log = cut.log }

to_after : Steps cut after
to_after =
    steps_on (more (steps_on starts_again gathers) (finish refl nobody_missing))
    (link_steps serving cut.log 0 waiting told serves.links (put serves.links 0 told) refl tells (put_changed serves.links 0 told))

pub answered_somewhere : AnsweredSomewhere
answered_somewhere = record {
  whole = whole;
  is_whole = reachable_parted (λ q. None) 9 whole reach_whole;
  is_down = refl;
  value = value;
  outstanding = refl;
  unanswered = refl;
  row = refl;
  listed = (record { client = 0; wrote = wrote }, inl refl, refl, refl, refl);
  no_row = refl;
  not_listed = refl;
  after = after;
  steps = to_after;
  push = answer;
  sent = inl refl;
  answers = refl;
  applied = refl;
  told = refl;
}
