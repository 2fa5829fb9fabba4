-- A run in which a client comes to hold a lock: the steps' conditions can be met.
use Rattle.krl_machine.proofs.Names.{◌≡◌, ◌≢◌, ◌≤◌, ◌<◌, true, false, None, [], ◌∷◌, inl, refl, sym, ap, subst, ◌∙◌, ⊎_elim, arith, cases_lt, Mode, RangesAgree, KeysAgree, off_slot, Down, Serving}
use Rattle.krl_machine.proofs.Names.{Said, Push, Shared, Link, LinkStep, LinkSteps, idle, next, adopted, MaySay, IsLive, IsSlot, InSpan, no_range, no_key, starts, joins, accepts, speaks, registers}
use Rattle.krl_machine.proofs.Names.{pushes, reads_bound, inserts_bound, rank_bound, ℕ, Some, In, range_at, key_at, World, raises, crash, Reachable, begun, stepped, first, blank_link}
use Rattle.krl_modes.specs.declared.part.RangePart.TheVariants as range
use Rattle.krl_modes.specs.declared.mode.Mode.TheVariants as mode
use Rattle.krl_machine.proofs.Worlds.{eq_cases}
use Rattle.krl_machine.proofs.Steps.{put, put_changed, steps_reachable, link_steps}
use Rattle.krl_machine.proofs.Refines.{Shows}
use Rattle.krl_machine.proofs.Holdings.{slot_holding, said_each}
use Rattle.krl_machine.specs.Holdings.{said_by}
use Rattle.krl_messages.specs.declared.holding.Holding.{Holding}
use Rattle.krl_machine.proofs.Tables.{KeysNear, table_row, key_slot, range_near, range_far, key_off}

abbrev pub shared : Shared
shared = record { epoch = 1; phase = Serving; index = λ q. None; end = 9 }

abbrev pub no_mode : Mode
no_mode = mode.N

abbrev pub scan_mode : Mode
scan_mode = mode.RangeSS

near : KeysNear shared
near q le = refl

no_row : Shows shared blank_link (λ m. no_mode)
no_row = record {
  range = λ q. sym (⊎_elim (λ (f : 9 < q). range_far shared (λ m. no_mode) q f) (λ (g : q ≤ 9). range_near shared (λ m. no_mode) q g) (cases_lt 9 q));
  key = λ q. sym (eq_cases q 9 (λ e. key_slot shared near (λ m. no_mode) q (λ far. absurd (far e))) (λ ne. key_off shared near (λ m. no_mode) q ne refl ∙ ap off_slot (⊎_elim (λ (f : 9 < q). range_far shared (λ m. no_mode) q f) (λ (g : q ≤ 9). range_near shared (λ m. no_mode) q g) (cases_lt 9 q))));
}

up_phase : Serving ≢ Down
up_phase e = absurd (cc)

-- client 0 has joined
abbrev pub joined : Link
joined = record blank_link {
  client = record { up = true; inc = 1; epoch = 1; seen = 0; range = no_range; key = no_key; value = λ q. None; issued = 0; out = None };
  reg = 1;
  hellos = 1 ∷ [];
  heads = record { inc = 1; epoch = 1; seen = 0 } ∷ [];
  reports = record { inc = 1; epoch = 1; range = no_range; key = no_key } ∷ [];
  notices = record { inc = 1; epoch = 1 } ∷ [];
}

joins_up : LinkSteps shared blank_link joined
joins_up =
    next (starts refl) (next (registers 1 (inl refl) up_phase (omega arith)) (next (joins (record { inc = 1; epoch = 1 }) (inl refl) refl refl (omega arith)) (next (speaks refl (omega arith)) idle)))

abbrev pub world1 : World
world1 = record { shared = shared; links = put (λ c. blank_link) 0 joined; log = [] }

reach1 : Reachable (λ q. None) 9 world1
reach1 = steps_reachable (λ q. None) 9 (first (λ q. None) 9) world1 begun (link_steps shared [] 0 blank_link joined (λ c. blank_link) (put (λ c. blank_link) 0 joined) refl joins_up (put_changed (λ c. blank_link) 0 joined))

abbrev pub scan_row : Link
scan_row = record joined { top_range = range_at shared (λ m. scan_mode); top_key = key_at shared (λ m. scan_mode) }

-- RangeS-S on all points up to the slot 9
abbrev pub whole : Holding
whole = record { span = record { lo = 0; hi = 10 }; mode = scan_mode; value = None }

abbrev pub push : Push
push = record { inc = 1; epoch = 1; number = 1; answers = 0; applied = false; says = said_by (whole ∷ []) }

end_slot : IsSlot shared 9
end_slot far = absurd (far refl)

whole_span : (q : ℕ) → q < 10 → InSpan shared 9 q
whole_span q lt = (omega arith, λ k a b. (refl, λ e. omega (arith, e)))

may_say : (q : ℕ) (t : Said) → push.says q ≡ Some t → MaySay shared scan_row q t
may_say = said_each (MaySay shared scan_row) (whole ∷ []) (
  slot_holding shared scan_row (λ m. scan_mode) near (record { range = λ p. refl; key = λ p. refl }) 9 end_slot whole refl refl
      (λ q low up. whole_span q up) (λ far. absurd (far refl)),
  tt,
)

abbrev pub told : Link
told = record scan_row { last_push = 1; acked = false; pushes = push ∷ [] }

-- and it believes so after the grant
abbrev pub holds : Link
holds = record told {
  client = record told.client { seen = 1; range = λ q. (adopted told push q).range; key = λ q. (adopted told push q).key; value = λ q. (adopted told push q).value; out = None };
  heads = record { inc = 1; epoch = 1; seen = 1 } ∷ told.heads;
}

push_step : LinkStep shared scan_row told
push_step = pushes push (record { inc = 1; epoch = 1; seen = 0 }) (inl refl) refl refl refl refl refl refl refl refl may_say (inl refl)

accept_step : LinkStep shared told holds
accept_step = accepts push None (inl refl) (record { up = refl; inc = refl; epoch = refl; number = refl }) (inl (refl, refl))

accepts_it : LinkSteps shared scan_row holds
accepts_it = next {m = told} push_step (next {m = holds} accept_step idle)

abbrev pub world2 : World
world2 = record { shared = shared; links = put (put (put (λ c. blank_link) 0 joined) 0 scan_row) 0 holds; log = [] }

pub raised : Reachable (λ q. None) 9 (record { shared = shared; links = put (put (λ c. blank_link) 0 joined) 0 scan_row; log = [] })
raised = stepped world1 _ reach1 (raises 0 (range_at shared (λ m. scan_mode)) (key_at shared (λ m. scan_mode)) (put world1.links 0 scan_row) refl (table_row shared near (λ m. scan_mode)) (λ q. ((omega arith, omega arith), omega arith))
    (λ d ne q. subst (λ (x : Link). RangesAgree (range_at shared (λ m. scan_mode) q) (x.top_range q) × KeysAgree (key_at shared (λ m. scan_mode) q) (x.top_key q)) (sym ((put_changed (λ c. blank_link) 0 joined).rest d ne))
    ((omega (arith, reads_bound (range_at shared (λ m. scan_mode) q)), omega (arith, inserts_bound (range_at shared (λ m. scan_mode) q))), omega (arith, rank_bound (key_at shared (λ m. scan_mode) q))))
    (put_changed world1.links 0 scan_row))

-- a reachable world in which client 0 holds RangeS-S on all points
pub reach2 : Reachable (λ q. None) 9 world2
reach2 =
    steps_reachable (λ q. None) 9 (record { shared = shared; links = put (put (λ c. blank_link) 0 joined) 0 scan_row; log = [] }) world2
    raised
    (link_steps shared [] 0 scan_row holds (put world1.links 0 scan_row) (put (put world1.links 0 scan_row) 0 holds) (put_changed world1.links 0 scan_row).here accepts_it (put_changed (put world1.links 0 scan_row) 0 holds))

pub it_reads : (world2.links 0).range 5 ≡ range.S
it_reads = refl

-- a server that is down, and a live push of the durable epoch: between a crash and the next start live
-- pushes need not be of an older epoch
abbrev pub world3 : World
world3 = record { shared = record { epoch = 1; phase = Down; index = λ q. None; end = 9 }; links = put (put (put (λ c. blank_link) 0 joined) 0 scan_row) 0 told; log = [] }

pub reach3 : Reachable (λ q. None) 9 world3
reach3 = stepped (record { shared = shared; links = world3.links; log = [] }) world3
    (steps_reachable (λ q. None) 9 (record { shared = shared; links = put (put (λ c. blank_link) 0 joined) 0 scan_row; log = [] }) (record { shared = shared; links = world3.links; log = [] })
    raised (link_steps shared [] 0 scan_row told (put world1.links 0 scan_row) world3.links (put_changed world1.links 0 scan_row).here (next {m = told} push_step idle) (put_changed (put world1.links 0 scan_row) 0 told)))
    (crash up_phase)

pub live_while_down : (world3.shared.phase ≡ Down) × IsLive (world3.links 0) push × In push (world3.links 0).pushes × (push.epoch ≡ world3.shared.epoch)
live_while_down = (refl, record { up = refl; inc = refl; epoch = refl; number = refl }, inl refl, refl)
