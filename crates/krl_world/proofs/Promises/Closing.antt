-- The end of a recovery: nobody waits until then, so the table of the server that serves from then on is what was
-- rebuilt, which lies within the bound.
use Rattle.krl_world.proofs.Names.{◌≡◌, ℕ, ◌∙◌, Bool, true, false, Option, Some, None, List, [], ◌∷◌, refl, sym, ap, subst, nat_eq, if◌then◌else◌, END, RangePart, range_of, key_of, Pieces}
use Rattle.krl_world.proofs.Names.{ToServer, ToClient, In, Record, Index, slot_of, is_slot, Durable, record_of, left_by, Rows, Server, is_recovering, case_of, Done, effect, AnswersWaiters, stops, goes_on}
use Rattle.krl_world.proofs.Names.{Following, following, Ends, at_once, recovers, serves, ServerFollows, answered_up, Step, ServerPlace, Up, Down, State, opened, range_held, key_held, IsReachable}
use Rattle.krl_world.proofs.Names.{RecoveriesEnd, always_bounded, restarts_hold}
use Rattle.std.specs.Prelude.{nat_lt}
use Rattle.krl_modes.proofs.Basics.{not_both}
use Rattle.krl_modes.specs.declared.part.RangePart.TheVariants as range
use Rattle.krl_modes.specs.declared.part.KeyPart.TheVariants as key
use Rattle.krl_modes.specs.declared.mode.Mode.{Mode}
use Rattle.krl_modes.specs.declared.mode.Mode.TheVariants as mode
use Rattle.krl_messages.specs.declared.to_server.ToServerBody.TheVariants as said
use Rattle.krl_table.specs.Calls.{cleared, unqueue}
use Rattle.krl_table.specs.Points as table
use Rattle.krl_server.proofs.Cased.{by_said}
use Rattle.krl_server.proofs.Invariant.RowsSound.{adopted_queue}
use Rattle.krl_world.specs.declared.message.Message.TheVariants as message
use Rattle.krl_world.specs.Bounds.{Bound, table_of, first_bound, step_clears, bound_cleared as cleared_bound, bound_at, bound_after, IsRangeWithin, IsKeyWithin, report_message, IsRecoveryWithin}
use Rattle.krl_world.proofs.Reaching.{by_reaching}
use Rattle.krl_world.proofs.Refinement.Mirrors.{machine_of}
use Rattle.krl_world.proofs.Refinement.Openings.{first_of}
use Rattle.krl_world.proofs.Refinement.Reached.{reached_step, bound_reachable, bound_reached}
use Rattle.krl_world.proofs.Promises.Bounded.{bounded_world}
use Rattle.krl_world.proofs.Promises.Kept.{restarts_holds}
use Rattle.krl_world.proofs.Promises.Unbroken.{none_missing, effect_serves}
use Rattle.krl_world.proofs.Refinement.ServerMoves.{Way, stays, reads, stops, begins, way}
use Rattle.krl_world.proofs.Examples.Worked.{no_turn}

-- Nobody waits

abbrev NobodyWaits : Server → Type 0
NobodyWaits s = (n : ℕ) → (s.rows n).queue ≡ []

served_not : {A : Type 0} (s : Server) → is_recovering s.missing ≡ true → is_recovering s.missing ≡ false → A
served_not s g e = absurd (not_both (is_recovering s.missing) g e)

still_nobody : (s : Server) (m : ToServer) → is_recovering s.missing ≡ true → NobodyWaits s → NobodyWaits (effect s m (case_of s m)).server
still_nobody s m g h = by_said s m (λ k. NobodyWaits (effect s m k).server) (record {
  ignored = h;
  registers = λ near newer body n. ap (unqueue m.client) (h n);
  leaves = λ r from body n. ap (unqueue m.client) (h n);
  tells = h;
  alarms = λ r epoch pieces from body now missing bad. h;
  rebuilds = λ r epoch pieces from body now missing fine n. adopted_queue s.durable.index s.rows m.client pieces n ∙ h n;
  repeats = λ r body served unacked. served_not s g served.serves;
  acknowledges = λ r request b a. served_not s g a.served.serves;
  lowers = λ r request span keep a. served_not s g a.served.serves;
  waits = λ r request req point hi mode a new free near. served_not s g a.served.serves;
  judges = λ r request number op seizes o a under near new is. served_not s g a.served.serves;
  seizes = λ r request number op seizes a under near new may. served_not s g a.served.serves;
  answers_again = λ r request number op seizes o a under some last is. served_not s g a.served.serves;
})

-- a server that recovers after a message recovered before
recovery_before : (s : Server) (m : ToServer) → is_recovering (effect s m (case_of s m)).server.missing ≡ true → is_recovering s.missing ≡ true
recovery_before s m g = by_test (is_recovering s.missing) refl
  where
    by_test : (t : Bool) → is_recovering s.missing ≡ t → t ≡ true
    by_test true e = refl
    by_test false e = absurd (not_both (is_recovering (effect s m (case_of s m)).server.missing) g (ap is_recovering (effect_serves s m (case_of s m) (none_missing s.missing e))))

abbrev Quiet : ServerPlace → Type 0
Quiet (Up s) = is_recovering s.missing ≡ true → NobodyWaits s
Quiet (Down d) = Unit {0}

ends_quiet : (done : Done) (kind : Following) (t : Server) (outs : List ToClient) → (is_recovering done.server.missing ≡ true → NobodyWaits done.server) → Ends done kind t outs → is_recovering t.missing ≡ true → NobodyWaits t
ends_quiet done kind t outs h (at_once i) g = h g
ends_quiet done kind t outs h (recovers x) g = h g
ends_quiet done kind t outs h (serves u answers n e a) g = absurd (not_both (is_recovering u.missing) g (answered_up done.server u answers a e))

way_quiet : (w v : State) (s : Step) → Quiet w.server → Way w v s → Quiet v.server
way_quiet w v s h (stays e) = subst Quiet (sym e) h
way_quiet w v s h (reads old new m outs e f at t) =
    let before : Quiet (Up old) = subst Quiet e h in
    subst Quiet (sym f) (ends_quiet (effect old m (case_of old m)) (following (case_of old m)) new outs
    (λ g. let b = recovery_before old m g in still_nobody old m b (before b)) t)
way_quiet w v s h (stops old e a f) = subst Quiet (sym f) tt
way_quiet w v s h (begins d e f) = subst Quiet (sym f) (λ g n. refl)

first_quiet : (d : Durable) → Quiet (opened d).server
unfolding opened
first_quiet d g n = refl

pub reachable_quiet : (w : State) → IsReachable w → Quiet w.server
reachable_quiet = by_reaching (λ w. Quiet w.server) (λ d h. first_quiet d) (λ w v s answer r h t. way_quiet w v s h (way w v s answer t.1)) (λ w d l r h e fits. tt)

-- The end

answered_none : (s t : Server) (outs : List ToClient) → NobodyWaits s → AnswersWaiters s t outs → t ≡ s
answered_none s t outs h (stops u e) = refl
answered_none s t outs h (goes_on u v turn later e rest) = absurd (let none = no_turn s h _ in let bad : None ≡ Some turn = sym none ∙ e in cc)

ends_there : (done : Done) (kind : Following) (t : Server) (outs : List ToClient) → NobodyWaits done.server → Ends done kind t outs → t ≡ done.server
ends_there done kind t outs h (at_once i) = refl
ends_there done kind t outs h (recovers g) = refl
ends_there done kind t outs h (serves u answers n e a) = answered_none done.server u answers h a

-- the table of these rows is within the bound
abbrev AreRowsWithin : Index → Rows → Bound → Type 0
AreRowsWithin m rows b = (c p : ℕ) → IsRangeWithin (table.range_at m rows c p) (b.range_at c p) × IsKeyWithin (table.key_at m rows c p) (b.key_at c p)

module _ (m : Index) (rows : Rows) (c : ℕ) (b : Bound) (within : AreRowsWithin m rows b) where
  -- the row of c is blank, and the others are as they were
  mode_cleared : (n d : ℕ) (t : Bool) → nat_eq d c ≡ t → (cleared rows c n).modes d ≡ (if t then mode.N else (rows n).modes d)
  mode_cleared n d t e = ap (λ x. if x then mode.N else (rows n).modes d) e

  cleared_within : AreRowsWithin m (cleared rows c) b
  cleared_within d p = by_test (nat_eq d c) refl
    where
      n_range : (t : Bool) → (if t then range.N else range.N) ≡ range.N
      n_range true = refl
      n_range false = refl

      n_key : (t : Bool) (r : RangePart) → r ≡ range.N → (if t then key.N else table.key_off_slot r) ≡ key.N
      n_key true r e = refl
      n_key false r e = ap table.key_off_slot e

      range_is : (g : Mode) → (cleared rows c (slot_of m p)).modes d ≡ g → table.range_at m (cleared rows c) d p ≡ (if nat_lt END p then range.N else range_of g)
      range_is g e = ap (λ x. if nat_lt END p then range.N else range_of x) e

      key_is : (g h : Mode) → (cleared rows c p).modes d ≡ h → (cleared rows c (slot_of m p)).modes d ≡ g → table.key_at m (cleared rows c) d p ≡ (if is_slot m p then key_of h else table.key_off_slot (if nat_lt END p then range.N else range_of g))
      key_is g h e f = ap (λ x. if is_slot m p then key_of x else table.key_off_slot (table.range_at m (cleared rows c) d p)) e ∙ ap (λ x. if is_slot m p then key_of h else table.key_off_slot (if nat_lt END p then range.N else range_of x)) f

      by_test : (t : Bool) → nat_eq d c ≡ t → IsRangeWithin (table.range_at m (cleared rows c) d p) (b.range_at d p) × IsKeyWithin (table.key_at m (cleared rows c) d p) (b.key_at d p)
      by_test true e = (
        subst (λ x. IsRangeWithin x (b.range_at d p)) (sym (range_is mode.N (mode_cleared (slot_of m p) d true e) ∙ n_range (nat_lt END p))) refl,
        subst (λ x. IsKeyWithin x (b.key_at d p)) (sym (key_is mode.N mode.N (mode_cleared p d true e) (mode_cleared (slot_of m p) d true e) ∙ n_key (is_slot m p) _ (n_range (nat_lt END p)))) refl,
      )
      by_test false e = (
        subst (λ x. IsRangeWithin x (b.range_at d p)) (sym (range_is _ (mode_cleared (slot_of m p) d false e))) (within d p).0,
        subst (λ x. IsKeyWithin x (b.key_at d p)) (sym (key_is _ _ (mode_cleared p d false e) (mode_cleared (slot_of m p) d false e))) (within d p).1,
      )

left_index : (s : Server) (c : ℕ) (o : Option Record) → (left_by s.durable c o).index ≡ s.durable.index
left_index s c None = refl
left_index s c (Some r) = refl

-- the message that a report is
is_report : (m : ToServer) (r : Record) (e epoch : ℕ) (pieces : Pieces) → m.body ≡ said.Report epoch pieces → epoch ≡ e → m.incarnation ≡ r.incarnation → message.ToServer m ≡ report_message m.client r.incarnation e pieces
is_report m r e epoch pieces b now inc = λ t. message.ToServer (record { client = m.client; incarnation = inc t; body = (b ∙ ap (λ x. said.Report x pieces) now) t })

-- what the message that ends a recovery leaves
effect_within : (w : State) (b : Bound) (s : Server) (m : ToServer) → In (message.ToServer m) w.sent → is_recovering s.missing ≡ true → IsRecoveryWithin w b s → is_recovering (effect s m (case_of s m)).server.missing ≡ false → AreRowsWithin (effect s m (case_of s m)).server.durable.index (effect s m (case_of s m)).server.rows b
effect_within w b s m at g h = by_said s m (λ k. is_recovering (effect s m k).server.missing ≡ false → AreRowsWithin (effect s m k).server.durable.index (effect s m k).server.rows b) (record {
  ignored = λ e. h.row;
  registers = λ near newer body e. cleared_within s.durable.index s.rows m.client b h.row;
  leaves = λ r from body e. subst (λ x. AreRowsWithin x (cleared s.rows m.client) b) (sym (left_index s m.client (record_of s.durable.register m.client))) (cleared_within s.durable.index s.rows m.client b h.row);
  tells = λ e. h.row;
  alarms = λ r epoch pieces from body now missing bad e. h.row;
  rebuilds = λ r epoch pieces from body now missing fine e.
      h.adopted m.client r pieces (record { missing = missing; known = from.known; sent = subst (λ x. In x w.sent) (is_report m r s.durable.epoch epoch pieces body now from.same) at });
  repeats = λ r body served unacked. served_not s g served.serves;
  acknowledges = λ r request b a. served_not s g a.served.serves;
  lowers = λ r request span keep a. served_not s g a.served.serves;
  waits = λ r request req point hi mode a new free near. served_not s g a.served.serves;
  judges = λ r request number op seizes o a under near new is. served_not s g a.served.serves;
  seizes = λ r request number op seizes a under near new may. served_not s g a.served.serves;
  answers_again = λ r request number op seizes o a under some last is. served_not s g a.served.serves;
})

-- Each step with which a recovery ends

same_up : (a b : Server) → Up a ≡ Up b → a ≡ b
same_up a b e = cc

end_within : (w v : State) (b : Bound) (s t : Server) (step : Step) → IsReachable w → w.server ≡ Up s → is_recovering s.missing ≡ true → IsRecoveryWithin w b s → v.server ≡ Up t → is_recovering t.missing ≡ false → Way w v step → AreRowsWithin t.durable.index t.rows b
end_within w v b s t step h up g within up' e (stays x) =
    let i : s ≡ t = same_up s t (sym up ∙ sym x ∙ up') in
    absurd (not_both (is_recovering s.missing) g (ap (λ y. is_recovering y.missing) i ∙ e))
end_within w v b s t step h up g within up' e (reads old new m outs a f at step') =
    let i : old ≡ s = same_up old s (sym a ∙ up) in
    let j : new ≡ t = same_up new t (sym f ∙ up') in
    let nobody : NobodyWaits old = subst Quiet a (reachable_quiet w h) (subst (λ y. is_recovering y.missing ≡ true) (sym i) g) in
    let g' : is_recovering old.missing ≡ true = subst (λ y. is_recovering y.missing ≡ true) (sym i) g in
    let there = ends_there (effect old m (case_of old m)) (following (case_of old m)) new outs (still_nobody old m g' nobody) step' in
    let ended : is_recovering (effect old m (case_of old m)).server.missing ≡ false = subst (λ y. is_recovering y.missing ≡ false) (sym j ∙ there) e in
    subst (λ y. AreRowsWithin y.durable.index y.rows b) (sym there ∙ j)
    (effect_within w b old m at g' (subst (IsRecoveryWithin w b) (sym i) within) ended)
end_within w v b s t step h up g within up' e (stops old x a f) = absurd (let bad : Up t ≡ Down old.durable = sym up' ∙ f in cc)
end_within w v b s t step h up g within up' e (begins d a f) = absurd (let bad : Up s ≡ Down d = sym up ∙ a in cc)

bound_serving : (t : Server) (kept : Bound) (n : ServerPlace) → n ≡ Up t → is_recovering t.missing ≡ false → bound_at n kept ≡ table_of t
bound_serving t kept n up e = ap (λ x. bound_at x kept) up ∙ ap (λ (x : Bool). if x then kept else table_of t) e

pub recoveries_end : ServerFollows → RecoveriesEnd
recoveries_end owed w v b s t step answer h up g d up' e =
    let r = reached_step owed w.opening w v b step answer (bound_reached owed w b h) d in
    let first = first_of w.opening in
    let a = machine_of v.server r.of r.log in
    let low = bounded_world v r.of r.log (bound_after w step b v) r.mirrors r.index r.bound (always_bounded first END a r.reach) (restarts_hold first END a r.reach) in
    let is = bound_serving t (cleared_bound (step_clears w step) b) v.server up' e in (
      end_within w v b s t step (bound_reachable w b h) up g ((restarts_holds owed w b h).recovery s up g) up' e (way w v step answer d.1),
      λ c p. (subst (λ x. IsRangeWithin (range_held v c p) (x.range_at c p)) is (low.held_range c p), subst (λ x. IsKeyWithin (key_held v c p) (x.key_at c p)) is (low.held_key c p)),
    )
