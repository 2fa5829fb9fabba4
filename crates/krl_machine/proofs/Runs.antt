-- The invariant holds in every reachable world, and what follows.
use Rattle.krl_machine.proofs.Names.{◌≡◌, ◌≢◌, ℕ, zero, ◌+◌, suc, ◌≤◌, ◌<◌, Bool, true, false, Option, ◌⊎◌, inl, inr, refl, sym, ap, subst, ◌∙◌, ⊎_elim, true≢false, arith, none-some, RangePart}
use Rattle.krl_machine.proofs.Names.{KeyPart, Value, In, reads, rank, RangeAtMost, KeyAtMost, RangesAgree, KeysAgree, Down, Recovering, Serving, op_key, Notice, Shared, Link, IsRow, no_range, no_key}
use Rattle.krl_machine.proofs.Names.{takes_report, World, Changed, IsMissing, Step, at_link, raises, applies, crash, start, finish, blank_link, Reachable, begun, stepped, IsCompatible, IsBounded}
use Rattle.krl_machine.proofs.Names.{IsCovered, row_of, ScanIsIndex, NoAlarm, with_entry, entries, ScanIsRange, Restarts}
use Rattle.krl_modes.specs.declared.part.RangePart.TheVariants as range
use Rattle.krl_modes.specs.declared.part.KeyPart.TheVariants as key
use Rattle.krl_machine.proofs.Basics.{IsBlank, Inv}
use Rattle.krl_machine.proofs.Points.{epoch_cases}
use Rattle.krl_machine.proofs.RowChanges.{Below, blank_below}
use Rattle.krl_machine.proofs.Belief.{live_registered}
use Rattle.krl_machine.proofs.Kept.{known_blank}
use Rattle.krl_machine.proofs.Links.{not_both, link_kept, row_none}
use Rattle.krl_machine.proofs.Worlds.{eq_cases, Agree, WorldInv, aside, aside_inv, own_inv, own_agrees, top_falls}

-- parts below parts that agree, agree
pub agree_below : (a b c d : RangePart) (e f g h : KeyPart) → RangeAtMost a b × KeyAtMost e f → RangeAtMost c d × KeyAtMost g h → RangesAgree b d × KeysAgree f h → RangesAgree a c × KeysAgree e g
agree_below a b c d e f g h x y z = ((omega (arith, x, y, z), omega (arith, x, y, z)), omega (arith, x, y, z))

pub agree_sym : (l m : Link) → Agree l m → Agree m l
agree_sym l m a q = let b = a q in ((omega (arith, b), omega (arith, b)), omega (arith, b))

agree_of : (l l0 m m0 : Link) → ((q : ℕ) → RangeAtMost (l.top_range q) (l0.top_range q) × KeyAtMost (l.top_key q) (l0.top_key q)) → ((q : ℕ) → RangeAtMost (m.top_range q) (m0.top_range q) × KeyAtMost (m.top_key q) (m0.top_key q)) → Agree l0 m0 → Agree l m
agree_of l l0 m m0 a b g q = agree_below (l.top_range q) (l0.top_range q) (m.top_range q) (m0.top_range q) (l.top_key q) (l0.top_key q) (m.top_key q) (m0.top_key q) (a q) (b q) (g q)

-- a row grows
pub raise_inv : (s : Shared) (l : Link) (range : ℕ → RangePart) (key : ℕ → KeyPart) → Inv s l → IsRow s range key → ((q : ℕ) → Below (l.top_range q) (l.top_key q) (range q) (key q)) → Inv s (record l { top_range = range; top_key = key })
raise_inv s l range key i row up = record {
  standing = i.standing;
  counting = i.counting;
  belief = record { down = i.belief.down; early = i.belief.early; bound = λ q. let b = i.belief.bound q in let u = up q in ((omega (arith, b, u), omega (arith, b, u)), omega (arith, b, u)) };
  live_pushes = λ p at live. let v = i.live_pushes p at live in record {
    says = λ q t e. let x = v.says q t e in let u = up q in record { low = ((omega (arith, x.low, u), omega (arith, x.low, u)), omega (arith, x.low, u)); covers = x.covers; gone = x.gone; known = x.known };
    answer = v.answer;
  };
  released = i.released;
  known = i.known;
  writing = i.writing;
  recovery = record {
    reports = λ g m r at a c q. let b = i.recovery.reports g m r at a c q in let u = up q in ((omega (arith, b, u), omega (arith, b, u)), omega (arith, b, u));
    covers = i.recovery.covers;
    low = λ g q. let b = i.recovery.low g q in let u = up q in ((omega (arith, b, u), omega (arith, b, u)), omega (arith, b, u));
    high = i.recovery.high;
  };
  rows = record { top = row; new = i.rows.new };
}

down_recovering : Down ≡ Recovering → ⊥
down_recovering e = absurd (cc)

down_serving : Down ≡ Serving → ⊥
down_serving e = absurd (cc)

crash_inv : (s : Shared) (l : Link) → Inv s l → Inv (record s { phase = Down }) l
crash_inv s l i = record {
  standing = record { server = i.standing.server; reg = i.standing.reg; counts = i.standing.counts; epoch = i.standing.epoch; joined = i.standing.joined; stays = i.standing.stays; hellos = i.standing.hellos; byes = i.standing.byes; notices = i.standing.notices; reports = i.standing.reports; present = i.standing.present; serving = λ e. absurd (down_serving e) };
  counting = record {
    heads = i.counting.heads;
    head_epochs = i.counting.head_epochs;
    pushes = λ p at. let c = i.counting.pushes p at in record { reg = c.reg; low = c.low; epoch = c.epoch; seen = c.seen; last_push = c.last_push; phase = λ e. down_recovering };
    seen = i.counting.seen;
    acked = i.counting.acked;
    early = i.counting.early;
    releases = i.counting.releases;
    writes = i.counting.writes;
  };
  belief = i.belief;
  live_pushes = i.live_pushes;
  released = i.released;
  known = i.known;
  writing = i.writing;
  recovery = record { reports = λ g. absurd (down_recovering g); covers = λ g. absurd (down_recovering g); low = λ g. absurd (down_recovering g); high = λ g. absurd (down_recovering g) };
  rows = record { top = i.rows.top; new = λ g. absurd (down_recovering g) };
}

-- a client that a start does not count as missing holds nothing
not_missing_blank : (s : Shared) (l : Link) → Inv s l → (l.left ≡ true) ⊎ (l.reg ≡ 0) → IsBlank l
not_missing_blank s l i (inl left) = epoch_cases l.epoch (λ e. i.belief.early e) (λ h. i.belief.down (i.standing.stays left (i.standing.joined h)))
not_missing_blank s l i (inr none) = by_up l.up refl
  where
    by_up : (u : Bool) → l.up ≡ u → IsBlank l
    by_up false e = i.belief.down e
    by_up true e = epoch_cases l.epoch (λ e. i.belief.early e) (λ h. absurd (omega (arith, i.standing.joined h, i.standing.counts e, none)))

start_inv : (s : Shared) (l : Link) (missing : Bool) → IsMissing l missing → Inv s l → Inv (record s { epoch = suc s.epoch; phase = Recovering }) (record l { missing = missing; last_push = 0; acked = true; new_range = no_range; new_key = no_key })
start_inv s l missing is i = record {
  standing = record {
    server = omega arith;
    reg = i.standing.reg;
    counts = i.standing.counts;
    epoch = omega (arith, i.standing.epoch);
    joined = i.standing.joined;
    stays = i.standing.stays;
    hellos = i.standing.hellos;
    byes = i.standing.byes;
    notices = λ n at. let x = i.standing.notices n at in (x.0, omega (arith, x.1));
    reports = λ r at. let x = i.standing.reports r at in (x.0, x.1, omega (arith, x.2));
    present = λ m u e. absurd (⊎_elim (λ (a : l.left ≡ true). true≢false (sym u ∙ i.standing.stays a e)) (λ (a : l.reg ≡ 0). omega (arith, i.standing.counts u, a, e)) (is m));
    serving = λ e. absurd (not_both e refl);
  };
  counting = record {
    heads = i.counting.heads;
    head_epochs = λ a at. omega (arith, i.counting.head_epochs a at);
    pushes = λ p at. let c = i.counting.pushes p at in let low : p.epoch ≤ s.epoch = c.epoch in record { reg = c.reg; low = c.low; epoch = omega arith; seen = c.seen; last_push = λ a b. absurd (omega arith); phase = λ b. absurd (omega arith) };
    seen = λ a b. absurd (omega (arith, i.standing.epoch, b));
    acked = λ a b. absurd (omega (arith, i.standing.epoch, b));
    early = λ a b. refl;
    releases = i.counting.releases;
    writes = i.counting.writes;
  };
  belief = i.belief;
  live_pushes = i.live_pushes;
  released = i.released;
  known = i.known;
  writing = i.writing;
  recovery = record {
    reports = λ g m r at a b. absurd (omega (arith, (i.standing.reports r at).2, b));
    covers = λ g m r at a b. absurd (omega (arith, (i.standing.reports r at).2, b));
    low = λ g q. ((omega arith, omega arith), omega arith);
    high = λ g m q. let z = not_missing_blank s l i (is m) q in blank_below (l.range q) (l.key q) range.N key.N z.0 z.1;
  };
  rows = record { top = i.rows.top; new = λ g. row_none s };
}

finish_inv : (s : Shared) (l : Link) → s.phase ≡ Recovering → l.missing ≡ false → Inv s l → Inv (record s { phase = Serving }) (record l { top_range = l.new_range; top_key = l.new_key })
finish_inv s l on here i = record {
  standing = record { server = i.standing.server; reg = i.standing.reg; counts = i.standing.counts; epoch = i.standing.epoch; joined = i.standing.joined; stays = i.standing.stays; hellos = i.standing.hellos; byes = i.standing.byes; notices = i.standing.notices; reports = i.standing.reports; present = i.standing.present; serving = λ e. here };
  counting = record {
    heads = i.counting.heads;
    head_epochs = i.counting.head_epochs;
    pushes = λ p at. let c = i.counting.pushes p at in record { reg = c.reg; low = c.low; epoch = c.epoch; seen = c.seen; last_push = c.last_push; phase = λ e g. absurd (not_both refl g) };
    seen = i.counting.seen;
    acked = i.counting.acked;
    early = i.counting.early;
    releases = i.counting.releases;
    writes = i.counting.writes;
  };
  belief = record { down = i.belief.down; early = i.belief.early; bound = i.recovery.high on here };
  live_pushes = λ p at live. absurd (⊎_elim (λ (e : l.epoch ≡ s.epoch). (i.counting.pushes p at).phase (live.epoch
      ∙ e) on)
      (λ (e : (l.epoch ≡ 0) × ((n : Notice) → In n l.notices → n.inc ≡ l.reg → n.epoch ≡ s.epoch)). omega (arith, e.0, live.epoch, (i.counting.pushes p at).low))
      (i.standing.present here live.up (live_registered s l p i.standing i.counting at live)));
  released = i.released;
  known = i.known;
  writing = i.writing;
  recovery = record { reports = λ g. absurd (not_both refl g); covers = λ g. absurd (not_both refl g); low = λ g. absurd (not_both refl g); high = λ g. absurd (not_both refl g) };
  rows = record { top = i.rows.new on; new = λ g. absurd (not_both refl g) };
}

-- a step of one link in a world
module _ (s s' : Shared) (old new : ℕ → Link) (c : ℕ) (l : Link) (ch : Changed old new c l) where
  all_links : Inv s' l → ((d : ℕ) → d ≢ c → Inv s' (old d)) → (d : ℕ) → Inv s' (new d)
  all_links here rest d = eq_cases d c (λ e. subst (λ x. Inv s' (new x)) (sym e) (subst (Inv s') (sym ch.here) here)) (λ ne. subst (Inv s') (sym (ch.rest d ne)) (rest d ne))

  pub all_agree : ((d : ℕ) → d ≢ c → Agree l (old d)) → ((d e : ℕ) → d ≢ e → Agree (old d) (old e)) → (d e : ℕ) → d ≢ e → Agree (new d) (new e)
  all_agree here rest d e ne = eq_cases d c
      (λ a. let me : e ≢ c = λ b. ne (a ∙ sym b) in subst (λ x. Agree (new x) (new e)) (sym a) (subst (λ x. Agree x (new e)) (sym ch.here) (subst (Agree l) (sym (ch.rest e me)) (here e me))))
      (λ a. subst (λ x. Agree x (new e)) (sym (ch.rest d a)) (eq_cases e c
      (λ b. subst (λ x. Agree (old d) (new x)) (sym b) (subst (Agree (old d)) (sym ch.here) (agree_sym l (old d) (here d a))))
      (λ b. subst (Agree (old d)) (sym (ch.rest e b)) (rest d e ne))))

pub world_kept : (w v : World) → Step w v → WorldInv w → WorldInv v
world_kept w v (at_link c l links step ch) i = record {
  links = all_links w.shared w.shared w.links links c l ch (link_kept w.shared (w.links c) l step (i.links c)) (λ d ne. i.links d);
  agree = all_agree w.shared w.shared w.links links c l ch
      (λ d ne. agree_of l (w.links c) (w.links d) (w.links d) (top_falls w.shared (w.links c) l step (i.links c)) (λ q. ((omega arith, omega arith), omega arith)) (i.agree c d (λ e. ne (sym e)))) i.agree;
}
world_kept w v (raises c range key links serving row up agrees ch) i = record {
  links = all_links w.shared w.shared w.links links c _ ch (raise_inv w.shared (w.links c) range key (i.links c) row up) (λ d ne. i.links d);
  agree = all_agree w.shared w.shared w.links links c _ ch agrees i.agree;
}
world_kept w v (applies c m index key links at ok acked next ap' ch) i = record {
  links = all_links w.shared (record w.shared { index = index }) w.links links c _ ch (own_inv w.shared (w.links c) m (i.links c) at ok next index key ap')
      (λ d ne. aside_inv w.shared (w.links d) index (op_key m.op) (i.links d) (aside w.shared (w.links c) (w.links d) index key m.op ap' (i.agree c d (λ e. ne (sym e))) (i.links d)) ok.serving);
  agree = all_agree w.shared (record w.shared { index = index }) w.links links c _ ch
      (λ d ne. own_agrees w.shared (w.links c) (w.links d) index key m.op ap' (i.agree c d (λ e. ne (sym e))) (i.links d)) i.agree;
}
world_kept w v (crash on) i = record { links = λ c. crash_inv w.shared (w.links c) (i.links c); agree = i.agree }
world_kept w v (start missing down is) i = record { links = λ c. start_inv w.shared (w.links c) (missing c) (is c) (i.links c); agree = i.agree }
world_kept w v (finish on all) i = record {
  links = λ c. finish_inv w.shared (w.links c) on (all c) (i.links c);
  agree = λ c d ne q. agree_below ((w.links c).new_range q) ((w.links c).top_range q) ((w.links d).new_range q) ((w.links d).top_range q) ((w.links c).new_key q) ((w.links c).top_key q) ((w.links d).new_key q) ((w.links d).top_key q) ((i.links c).recovery.low on q) ((i.links d).recovery.low on q) (i.agree c d ne q);
}

first_inv : (index : ℕ → Option Value) (end : ℕ) → Inv (record { epoch = 1; phase = Serving; index = index; end = end }) blank_link
first_inv index end = record {
  standing = record { server = omega arith; reg = omega arith; counts = λ u. absurd (true≢false (sym u)); epoch = omega arith; joined = λ h. refl; stays = λ a b. refl; hellos = λ h at. absurd at; byes = λ h at. absurd at; notices = λ h at. absurd at; reports = λ h at. absurd at; present = λ m u. absurd (true≢false (sym u)); serving = λ e. refl };
  counting = record { heads = λ h at. absurd at; head_epochs = λ h at. absurd at; pushes = λ h at. absurd at; seen = λ a b. (omega arith, omega arith); acked = λ a b c. refl; early = λ a b. refl; releases = λ h at. absurd at; writes = λ h at. absurd at };
  belief = record { down = λ u q. (refl, refl); early = λ u q. (refl, refl); bound = λ q. ((omega arith, omega arith), omega arith) };
  live_pushes = λ p at. absurd at;
  released = λ p at. absurd at;
  known = known_blank (record { epoch = 1; phase = Serving; index = index; end = end }) blank_link (λ q. (refl, refl)) refl;
  writing = record { writes = λ h at. absurd at; counted = λ u. absurd (true≢false (sym u)); some = λ op e. absurd (none-some op e); answers = λ h at. absurd at; fresh = λ u e. (refl, refl); down = λ u. refl };
  recovery = record { reports = λ g. absurd (not_both refl g); covers = λ g. absurd (not_both refl g); low = λ g. absurd (not_both refl g); high = λ g. absurd (not_both refl g) };
  rows = record { top = row_none (record { epoch = 1; phase = Serving; index = index; end = end }); new = λ g. absurd (not_both refl g) };
}

pub reachable_inv : (index : ℕ → Option Value) (end : ℕ) (w : World) → Reachable index end w → WorldInv w
reachable_inv index end w begun = record { links = λ c. first_inv index end; agree = λ c d ne q. ((omega arith, omega arith), omega arith) }
reachable_inv index end w (stepped u v r step) = world_kept u v step (reachable_inv index end u r)

-- What follows from the invariant, and so holds in each reachable world

pub compatible_of : (w : World) → WorldInv w → IsCompatible w
compatible_of w i c d ne q =
    agree_below ((w.links c).range q) ((w.links c).top_range q) ((w.links d).range q) ((w.links d).top_range q) ((w.links c).key q) ((w.links c).top_key q) ((w.links d).key q) ((w.links d).top_key q) ((i.links c).belief.bound q) ((i.links d).belief.bound q) (i.agree c d ne q)

pub always_compatible : (index : ℕ → Option Value) (end : ℕ) (w : World) → Reachable index end w → IsCompatible w
always_compatible index end w r = compatible_of w (reachable_inv index end w r)

pub bounded_of : (w : World) → WorldInv w → IsBounded w
bounded_of w i c = (i.links c).belief.bound

pub always_bounded : (index : ℕ → Option Value) (end : ℕ) (w : World) → Reachable index end w → IsBounded w
always_bounded index end w r = bounded_of w (reachable_inv index end w r)

row_some : (k : KeyPart) (v : Option Value) → 1 ≤ rank k → row_of k v ≡ v
row_some k v h = grind arith

points_of : (w : World) → WorldInv w → ScanIsIndex w
points_of w i c lo last near free covered q low up =
    let k = (i.links c).known.says q (λ op o e. ⊎_elim (λ (a : op_key op < lo). omega (arith, e)) (λ (a : last < op_key op). omega (arith, e)) (free op o)) in
    ⊎_elim (λ (h : 1 ≤ rank ((w.links c).key q)). row_some ((w.links c).key q) ((w.links c).value q) h ∙ sym (k.entry (λ e. omega (arith, e)) h))
    (λ (h : ((w.links c).key q ≡ key.N) × (1 ≤ reads ((w.links c).range q))). ap (λ x. row_of x ((w.links c).value q)) h.0 ∙ sym (k.empty h.0 h.1)) (covered q low up)

pub scans_are_index : (index : ℕ → Option Value) (end : ℕ) (w : World) → Reachable index end w → ScanIsIndex w
scans_are_index index end w r = points_of w (reachable_inv index end w r)

pub no_alarm_of : (w : World) → WorldInv w → NoAlarm w
no_alarm_of w i c x ranges keys may built d ne q =
    let l : Link = record (w.links c) { missing = false; new_range = ranges; new_key = keys } in
    let j = link_kept w.shared (w.links c) l (takes_report x ranges keys may.sent may.recovering may.missing may.inc may.epoch built) (i.links c) in
    agree_below (ranges q) ((w.links c).top_range q) ((w.links d).new_range q) ((w.links d).top_range q) (keys q) ((w.links c).top_key q) ((w.links d).new_key q) ((w.links d).top_key q)
    (j.recovery.low may.recovering q) ((i.links d).recovery.low may.recovering q) (i.agree c d (λ e. ne (sym e)) q)

pub never_alarms : (index : ℕ → Option Value) (end : ℕ) (w : World) → Reachable index end w → NoAlarm w
never_alarms index end w r = no_alarm_of w (reachable_inv index end w r)

-- indices that agree on the points have the same entries there
same_entries : (a b : ℕ → Option Value) (n lo : ℕ) → ((q : ℕ) → lo ≤ q → q < lo + n → a q ≡ b q) → entries a lo n ≡ entries b lo n
same_entries a b zero lo h = refl
same_entries a b (suc n) lo h =
    ap (λ o. with_entry lo o (entries a (suc lo) n)) (h lo (omega arith) (omega arith)) ∙ ap (with_entry lo (b lo)) (same_entries a b n (suc lo) (λ q x y. h q (omega arith) (omega arith)))

pub scans_of : (w : World) → WorldInv w → ScanIsRange w
scans_of w i c lo n near free covered =
    same_entries (λ q. row_of ((w.links c).key q) ((w.links c).value q)) w.shared.index n lo
    (λ q low up. points_of w i c q q (omega arith) (λ op o. ⊎_elim (λ (a : op_key op < lo). inl (omega arith)) (λ (a : lo + n ≤ op_key op). inr (omega arith)) (free op o))
    (λ x a b. let e : q ≡ x = omega arith in subst (IsCovered (w.links c)) e (covered q low up)) q (omega arith) (omega arith))

pub scans_are_range : (index : ℕ → Option Value) (end : ℕ) (w : World) → Reachable index end w → ScanIsRange w
scans_are_range index end w r = scans_of w (reachable_inv index end w r)

pub restarts_hold : (index : ℕ → Option Value) (end : ℕ) (w : World) → Reachable index end w → Restarts w
restarts_hold index end w r =
    let i = reachable_inv index end w r in
    record {
      rows = λ c. (i.links c).rows.top;
      live = λ c p at live q t e. (((i.links c).live_pushes p at live).says q t e).low;
      push_epochs = λ c p at. ((i.links c).counting.pushes p at).epoch;
      notice_epochs = λ c n at. ((i.links c).standing.notices n at).1;
      report_epochs = λ c x at. ((i.links c).standing.reports x at).2;
      head_epochs = λ c. (i.links c).counting.head_epochs;
      release_epochs = λ c r at. (i.links c).counting.head_epochs r.head ((i.links c).counting.releases r at);
      write_epochs = λ c m at. (i.links c).counting.head_epochs m.head ((i.links c).counting.writes m at);
      reports = λ c x may. (i.links c).recovery.reports may.recovering may.missing x may.sent may.inc may.epoch;
      covers = λ c x may. (i.links c).recovery.covers may.recovering may.missing x may.sent may.inc may.epoch;
      rebuilt = λ c. (i.links c).recovery.low;
      rebuilt_covers = λ c. (i.links c).recovery.high;
    }
