-- What a client holds on a slot where somebody waits rises only by a push.
use Rattle.std.specs.Prelude.{◌-◌}
use Rattle.krl_progress.proofs.Names.{◌≡◌, ◌≢◌, ℕ, suc, ◌≤◌, ◌<◌, ◌∙◌, Bool, true, false, ◌&&◌, ◌||◌, Some, List, [], ◌∷◌, is_some, refl, sym, ap, subst, arith, nat_eq, eqb-true, END}
use Rattle.krl_progress.proofs.Names.{ToServer, ToClient, Server, is_recovering, lists, case_of, Done, effect, acknowledged, writes, Turn, next_turn, answer_first, AnswersWaiters, stops, goes_on, Following, following, Ends, at_once, recovers, serves, ServerStep, Index, Rows, slot_of, span_of, is_slot, is_compatible, op_key, holding, WriteOp, Durable, record_of}
use Rattle.krl_progress.proofs.Names.{Step, Answer, Up, Down, State, Takes, IsReachable}
use Rattle.std.specs.FinMap as map
use Rattle.krl_modes.specs.declared.mode.Mode.{Mode}
use Rattle.krl_modes.specs.declared.mode.Mode.TheVariants as mode
use Rattle.krl_modes.specs.Modes.{at_most, compatible, join, meet}
use Rattle.krl_modes.specs.Spans.{within}
use Rattle.krl_modes.proofs.Basics.{not_both, None-if_not_some}
use Rattle.krl_modes.proofs.Tables.{implies, implies_use, by_table, by_table_2, by_table_3}
use Rattle.krl_modes.proofs.ModeLaws.{mode_order, mode_compatibility}
use Rattle.krl_messages.specs.declared.outcome.Outcome.{Outcome}
use Rattle.krl_messages.specs.declared.outcome.Outcome.TheVariants as outcome
use Rattle.krl_messages.specs.declared.write_op.WriteOp.TheVariants as write
use Rattle.krl_messages.specs.declared.to_client.PushBody.TheVariants as push
use Rattle.krl_queue.specs.declared.waiter.Waiter.{Waiter}
use Rattle.krl_table.specs.Rows.{Row, mode_at, set_row, set_mode}
use Rattle.krl_table.specs.Calls.{wanted, with_mode, with_queue, queue_with, raised, raised_on, granted_first, front_dropped, behind_first, grant_first}
use Rattle.krl_table.specs.Grants.{nobody_waits, granted, reached_after, granted_by}
use Rattle.krl_table.specs.Replies.{asks_absent}
use Rattle.krl_table.proofs.Rows.Slots.{no_slot}
use Rattle.krl_table.proofs.Invariant.Compatible.{mode_other}
use Rattle.krl_server.specs.declared.session.Session.{Session}
use Rattle.krl_server.specs.Servers.{incarnation_of, incarnation_or_0}
use Rattle.krl_server.specs.Cases.{judged}
use Rattle.krl_server.specs.Effects as effects
use Rattle.krl_server.specs.Effects.{rows_after, with_rows}
use Rattle.krl_server.specs.Seizing.{lock_for}
use Rattle.krl_server.specs.Answering.{tells_absent, grants}
use Rattle.krl_server.specs.Soundness.{IsSound}
use Rattle.krl_server.proofs.Tests.{if_both, if_case}
use Rattle.krl_server.proofs.Cased.{by_case}
use Rattle.krl_server.proofs.Grants.{raised_others}
use Rattle.krl_server.proofs.Turns.{turn_is}
use Rattle.krl_server.proofs.Updates.{row_modes, row_other}
use Rattle.krl_server.proofs.Outputs.Ends.{pushes_rows}
use Rattle.krl_server.proofs.Invariant.Kept.{server_keeps}
use Rattle.krl_server.proofs.Invariant.Placed.{two_rows}
use Rattle.krl_server.proofs.Invariant.SeizesSound.{take_is, take_judged, takes_sound}
use Rattle.krl_server.proofs.Invariant.WritesSound.{insert_may}
use Rattle.krl_world.proofs.Refinement.ServerMoves.{Way, stays, reads, stops as ends, begins, way}
use Rattle.krl_progress.proofs.Recovers.{same_up}
use Rattle.krl_progress.proofs.CallsBack.{in_order}
use Rattle.krl_progress.proofs.WritesMove.{nobody_listed}
use Rattle.krl_progress.proofs.Knowing.{turn_pushes}
use Rattle.krl_progress.proofs.Later.{Later, anew, kept, more, effect_later, turn_later, answered_later}

-- Modes

pub low_self : (g : Mode) → at_most g g ≡ true
low_self g = mode_order.reflexive g

low_none : (g : Mode) → at_most mode.N g ≡ true
low_none g = by_table (λ g. at_most mode.N g) refl g

low_meet : (g keep : Mode) → at_most (meet g keep) g ≡ true
low_meet g keep = by_table_2 (λ g keep. at_most (meet g keep) g) refl g keep

low_join : (a b q : Mode) → at_most a b ≡ true → at_most (join a q) (join b q) ≡ true
low_join a b q e = implies_use (at_most a b) (at_most (join a q) (join b q)) (by_table_3 (λ a b q. implies (at_most a b) (at_most (join a q) (join b q))) refl a b q) e

-- lower modes are compatible too
pub low_compatible : (a b x y : Mode) → at_most a b ≡ true → at_most x y ≡ true → compatible b y ≡ true → compatible a x ≡ true
low_compatible a b x y low below e =
    let one : compatible a y ≡ true = mode_compatibility.downward a b y low e in
    let two : compatible x a ≡ true = mode_compatibility.downward x y a below (mode_compatibility.symmetric y a ∙ one) in
    mode_compatibility.symmetric a x ∙ two

-- on each slot of the index the client holds no more in the later rows
abbrev SinksOnAll : Index → Rows → Rows → ℕ → Type 0
SinksOnAll m rows later c = (n : ℕ) → is_slot m n ≡ true → at_most (mode_at later n c) (mode_at rows n c) ≡ true

-- on each slot where somebody waits it does so: a write takes its lock only where nobody waits
abbrev pub Sinks : Index → Rows → Rows → ℕ → Type 0
Sinks m rows later c = (n : ℕ) → is_slot m n ≡ true → nobody_waits (rows n).queue ≡ false → at_most (mode_at later n c) (mode_at rows n c) ≡ true

pub low_same : (a b : Mode) → a ≡ b → at_most a b ≡ true
low_same a b e = subst (λ x. at_most a x ≡ true) e (low_self a)

-- The effect of a message

written_sinks : (s : Server) (d c : ℕ) (op : WriteOp) (o : Outcome) → IsSound s → op_key op < END → judged s d op ≡ o → SinksOnAll s.durable.index s.rows (rows_after s.durable.index s.rows d op o) c
written_sinks s d c (write.Insert k v) outcome.Applied i lt e n slot = two_rows s.rows (slot_of s.durable.index k) k n _ _ (λ (r : Row). at_most (r.modes c) (mode_at s.rows n c) ≡ true)
    (λ f. absurd (not_both (is_slot s.durable.index n) slot (ap (is_slot s.durable.index) f ∙ free)))
    (λ no f. low_same ((s.rows (slot_of s.durable.index k)).modes c) (mode_at s.rows n c) (ap (λ x. mode_at s.rows x c) (sym f)))
    (λ no not. low_self (mode_at s.rows n c))
  where
    free : is_slot s.durable.index k ≡ false
    free = no_slot s.durable.index k (λ f. omega (arith, f, lt)) (None-if_not_some (map.get s.durable.index k) (insert_may (is_some (map.get s.durable.index k)) _ _ e).0)
written_sinks s d c (write.Put k v) outcome.Applied i lt e n slot = low_self (mode_at s.rows n c)
written_sinks s d c (write.Delete k) outcome.Applied i lt e n slot = two_rows s.rows (slot_of s.durable.index (suc k)) k n _ _ (λ (r : Row). at_most (r.modes c) (mode_at s.rows n c) ≡ true)
    (λ f. low_none (mode_at s.rows n c))
    (λ no f. low_same ((s.rows (slot_of s.durable.index (suc k))).modes c) (mode_at s.rows n c) (ap (λ x. mode_at s.rows x c) (sym f)))
    (λ no not. low_self (mode_at s.rows n c))
written_sinks s d c op outcome.Exists i lt e n slot = low_self (mode_at s.rows n c)
written_sinks s d c op outcome.Absent i lt e n slot = low_self (mode_at s.rows n c)
written_sinks s d c op outcome.NotHeld i lt e n slot = low_self (mode_at s.rows n c)
written_sinks s d c op outcome.Full i lt e n slot = low_self (mode_at s.rows n c)

module _ (rows : Rows) (d c n : ℕ) where
  cleared_low : at_most (set_mode (rows n).modes d mode.N c) (mode_at rows n c) ≡ true
  cleared_low = if_both (λ g. at_most g (mode_at rows n c) ≡ true) (nat_eq c d) mode.N (mode_at rows n c) (low_none (mode_at rows n c)) (low_self (mode_at rows n c))

  lowered_low : (keep : Mode) → at_most (set_mode (rows n).modes d (meet (mode_at rows n d) keep) c) (mode_at rows n c) ≡ true
  lowered_low keep = if_case (λ g. at_most g (mode_at rows n c) ≡ true) (nat_eq c d) (meet (mode_at rows n d) keep) (mode_at rows n c)
      (λ e. subst (λ x. at_most (meet (mode_at rows n d) keep) (mode_at rows n x) ≡ true) (sym (eqb-true c d e)) (low_meet (mode_at rows n d) keep))
      (λ e. low_self (mode_at rows n c))

pub effect_sinks : (s : Server) (m : ToServer) (c : ℕ) → IsSound s → is_recovering s.missing ≡ false → Sinks s.durable.index s.rows (effect s m (case_of s m)).server.rows c
effect_sinks s m c i up = let t = acknowledged s m.client in by_case s m (λ k. Sinks s.durable.index s.rows (effect s m k).server.rows c)
    (record {
      ignored = same;
      registers = λ near newer body n slot waited. cleared_low s.rows m.client c n;
      leaves = λ r from n slot waited. cleared_low s.rows m.client c n;
      tells = same;
      alarms = same;
      rebuilds = λ r epoch pieces from now missing fine n slot waited. absurd (not_both (lists s.missing m.client) missing (nobody_listed s.missing m.client up));
      repeats = λ r body served unacked. same;
      acknowledges = λ r served. same;
      lowers = λ r span keep served n slot waited. if_both (λ (x : Row). at_most (x.modes c) (mode_at s.rows n c) ≡ true) (is_slot s.durable.index n && within (span_of s.durable.index n) span) (with_mode (s.rows n) m.client (meet (mode_at s.rows n m.client) keep)) (s.rows n)
          (lowered_low s.rows m.client c n keep) (low_self (mode_at s.rows n c));
      waits = λ r req point hi g served new free near n slot waited. let w : Waiter = record { client = m.client; req = req; point = point; hi = hi; mode = g } in
          let k = slot_of s.durable.index point in
          low_same (mode_at (set_row s.rows k (with_queue (s.rows k) (queue_with (s.rows k) w))) n c) (mode_at s.rows n c) (sym (row_modes s.rows k (with_queue (s.rows k) (queue_with (s.rows k) w)) c refl n));
      judges = λ r number op o served under near new is n slot waited. let y = writes t m.client op o in
          subst (λ (rows : Rows). at_most (mode_at rows n c) (mode_at s.rows n c) ≡ true) (sym (pushes_rows y m.client (push.Answer number o (holding y (slot_of y.durable.index (op_key op)) m.client)))) (written_sinks s m.client c op o i under is n slot);
      seizes = λ r number op served under near new may n slot waited. let x = effects.seizes s m.client op in
          let y = writes (acknowledged x m.client) m.client op outcome.Applied in
          let can = take_is s m.client op may in
          let k = slot_of s.durable.index (op_key op) in
          let apart = row_other s.rows k (with_mode (s.rows k) m.client (wanted (s.rows k) (lock_for m.client op))) n (λ e. not_both (nobody_waits (s.rows n).queue) (ap (λ j. nobody_waits (s.rows j).queue) e ∙ can.alone) waited) in
          subst (λ (rows : Rows). at_most (mode_at rows n c) (mode_at s.rows n c) ≡ true) (sym (pushes_rows y m.client (push.Answer number outcome.Applied (holding y (slot_of y.durable.index (op_key op)) m.client))))
          (subst (λ (r : Row). at_most (mode_at y.rows n c) (r.modes c) ≡ true) apart
          (written_sinks x m.client c op outcome.Applied (takes_sound s m.client op i served.from.client) under (take_judged s m.client op i under can) n slot));
      answers_again = λ r number op o served under some last is n slot waited.
          subst (λ (rows : Rows). at_most (mode_at rows n c) (mode_at s.rows n c) ≡ true) (sym (pushes_rows t m.client (push.Answer number o (holding t (slot_of t.durable.index (op_key op)) m.client)))) (low_self (mode_at s.rows n c));
    })
  where
    same : Sinks s.durable.index s.rows s.rows c
    same n slot waited = low_self (mode_at s.rows n c)

-- Answers

raised_on_others : (rows : Rows) (ns : List ℕ) (u : Waiter) (d : ℕ) → d ≢ u.client → (k : ℕ) → mode_at rows k d ≡ mode_at (raised_on rows ns u) k d
raised_on_others rows [] u d ne k = refl
raised_on_others rows (n ∷ ns) u d ne k = raised_others rows n u d ne k ∙ raised_on_others (raised rows n u) ns u d ne k

granted_others : (r : ℕ) (m : Index) (rows : Rows) (n d : ℕ) (u : Waiter) (us : List Waiter) → (rows n).queue ≡ u ∷ us → d ≢ u.client → (k : ℕ) → mode_at (granted r m rows n) k d ≡ mode_at rows k d
granted_others r m rows n d u us q ne k =
    ap (λ vs. mode_at (granted_by r m rows n vs) k d) q
    ∙ sym (raised_on_others (granted_first rows n) (reached_after m (granted_first rows n) n u (r - 1)) u d ne k)
    ∙ sym (row_modes rows n (grant_first (rows n) (rows n).queue) d (sym (ap (λ vs. (grant_first (rows n) vs).modes d) q ∙ mode_other (rows n).modes u.client d (wanted (rows n) u) ne)) k)

-- an answer changes what its waiter's client holds, and what nobody else holds
pub turn_others : (s : Server) (t : Turn) (d : ℕ) → next_turn s ≡ Some t → d ≢ t.waiter.client → (k : ℕ) → mode_at (answer_first s t).server.rows k d ≡ mode_at s.rows k d
turn_others s t d e ne k = if_both (λ (x : Done). mode_at x.server.rows k d ≡ mode_at s.rows k d) (asks_absent s.durable.index t.waiter) (tells_absent s t) (grants s t)
    (ap (λ (r : Rows). mode_at r k d) (pushes_rows (with_rows s (front_dropped s.rows t.slot)) t.waiter.client (push.Absent t.waiter.req t.waiter.point))
    ∙ sym (row_modes s.rows t.slot (with_queue (s.rows t.slot) (behind_first (s.rows t.slot).queue)) d refl k))
    (ap (λ (r : Rows). mode_at r k d) (pushes_rows (with_rows s (granted s.durable.reach s.durable.index s.rows t.slot)) t.waiter.client _)
    ∙ granted_others s.durable.reach s.durable.index s.rows t.slot d t.waiter _ (turn_is s t e).first ne k)

-- a session that has had no further push since then
pub unpushed : (s t : Server) (c : ℕ) → Later s t c → incarnation_of t c ≡ incarnation_of s c → (s.sessions c).last_push ≤ (t.sessions c).last_push
unpushed s t c (anew lt) e = absurd (omega (arith, lt, e))
unpushed s t c (kept i l q) e = omega (arith, l)
unpushed s t c (more i l) e = omega (arith, l)

pub same_incarnation : (s t : Server) (c : ℕ) → t.durable ≡ s.durable → incarnation_of t c ≡ incarnation_of s c
same_incarnation s t c e = ap (λ (d : Durable). incarnation_or_0 (record_of d.register c)) e

pub answered_durable : (s t : Server) (outs : List ToClient) → AnswersWaiters s t outs → t.durable ≡ s.durable
answered_durable s t outs (stops x e) = refl
answered_durable s t outs (goes_on x y turn later e rest) = answered_durable (answer_first x turn).server y later rest ∙ server_keeps.turn_durable x turn

answered_others : (s t : Server) (outs : List ToClient) (c : ℕ) → AnswersWaiters s t outs → (t.sessions c).last_push ≡ (s.sessions c).last_push → (n : ℕ) → mode_at t.rows n c ≡ mode_at s.rows n c
answered_others s t outs c (stops x e) same n = refl
answered_others s t outs c (goes_on x y turn later e rest) same n =
    answered_others mid y later c rest (omega (arith, first, second, same)) n ∙ turn_others x turn c e other n
  where
    mid : Server
    mid = (answer_first x turn).server

    first : (x.sessions c).last_push ≤ (mid.sessions c).last_push
    first = unpushed x mid c (turn_later x turn c e) (same_incarnation x mid c (server_keeps.turn_durable x turn))

    second : (mid.sessions c).last_push ≤ (y.sessions c).last_push
    second = unpushed mid y c (answered_later mid y later c rest) (same_incarnation mid y c (answered_durable mid y later rest))

    other : c ≢ turn.waiter.client
    other f = let more = subst (λ d. (mid.sessions d).last_push ≡ suc (x.sessions d).last_push) (sym f) (ap (λ (z : Session). z.last_push) (turn_pushes x turn e).session) in omega (arith, more, second, same)

-- A message

ends_sink : (s : Server) (m : Index) (done : Done) (kind : Following) (t : Server) (outs : List ToClient) (c : ℕ) → Ends done kind t outs → Later s done.server c → incarnation_of t c ≡ incarnation_of s c → (t.sessions c).last_push ≡ (s.sessions c).last_push → Sinks m s.rows done.server.rows c → Sinks m s.rows t.rows c
ends_sink s m done kind t outs c (at_once i) later inc same h = h
ends_sink s m done kind t outs c (recovers g) later inc same h = h
ends_sink s m done kind t outs c (serves u answers ne up a) later inc same h = λ n slot waited.
    let one = unpushed s done.server c later (sym (same_incarnation done.server u c (answered_durable done.server u answers a)) ∙ inc) in
    let two = unpushed done.server u c (answered_later done.server u answers c a) (same_incarnation done.server u c (answered_durable done.server u answers a)) in
    subst (λ g. at_most g (mode_at s.rows n c) ≡ true) (sym (answered_others done.server u answers c a (omega (arith, one, two, same)) n)) (h n slot waited)

-- a client to which a message brings no push holds no more than before
pub step_sinks : (s t : Server) (m : ToServer) (outs : List ToClient) (c : ℕ) → IsSound s → is_recovering s.missing ≡ false → ServerStep s m t outs → incarnation_of t c ≡ incarnation_of s c → (t.sessions c).last_push ≡ (s.sessions c).last_push → Sinks s.durable.index s.rows t.rows c
step_sinks s t m outs c i up step inc same = ends_sink s s.durable.index (effect s m (case_of s m)) (following (case_of s m)) t outs c step (effect_later s m c) inc same (effect_sinks s m c i up)

-- what a waiter wants there sinks with what its client holds, and what is compatible with it stays so
pub wanted_sinks : (s t : Server) (n : ℕ) (u : Waiter) → Sinks s.durable.index s.rows t.rows u.client → is_slot s.durable.index n ≡ true → nobody_waits (s.rows n).queue ≡ false → at_most (wanted (t.rows n) u) (wanted (s.rows n) u) ≡ true
wanted_sinks s t n u h slot waited = low_join (mode_at t.rows n u.client) (mode_at s.rows n u.client) u.mode (h n slot waited)

pub stays_compatible : (s t : Server) (n : ℕ) (u : Waiter) (d : ℕ) → Sinks s.durable.index s.rows t.rows u.client → Sinks s.durable.index s.rows t.rows d → is_slot s.durable.index n ≡ true → nobody_waits (s.rows n).queue ≡ false → is_compatible s n u d ≡ true → is_compatible t n u d ≡ true
stays_compatible s t n u d own other slot waited e = by_test (nat_eq d u.client) e
  where
    by_test : (b : Bool) → (b || compatible (wanted (s.rows n) u) (mode_at s.rows n d)) ≡ true → (b || compatible (wanted (t.rows n) u) (mode_at t.rows n d)) ≡ true
    by_test true f = refl
    by_test false f = low_compatible (wanted (t.rows n) u) (wanted (s.rows n) u) (mode_at t.rows n d) (mode_at s.rows n d) (wanted_sinks s t n u own slot waited) (other n slot waited) f

-- A step of the world

pub world_sinks : (u v : State) (took : Step) (answer : Answer) (s t : Server) (c : ℕ) → IsReachable u → u.server ≡ Up s → v.server ≡ Up t → is_recovering s.missing ≡ false → incarnation_of t c ≡ incarnation_of s c → (t.sessions c).last_push ≡ (s.sessions c).last_push → Takes u took answer v → Sinks s.durable.index s.rows t.rows c
world_sinks u v took answer s t c ru up on running inc same x = by_way (way u v took answer x.1)
  where
    by_way : Way u v took → Sinks s.durable.index s.rows t.rows c
    by_way (stays e) = let is = same_up s t (sym up ∙ sym e ∙ on) in subst (λ (y : Server). Sinks s.durable.index s.rows y.rows c) is (λ n slot waited. low_self (mode_at s.rows n c))
    by_way (reads old new m outs e f at step) =
        let first = subst (λ (y : Server). ServerStep y m new outs) (same_up old s (sym e ∙ up)) step in
        let both = subst (λ (y : Server). ServerStep s m y outs) (same_up new t (sym f ∙ on)) first in
        step_sinks s t m outs c (in_order u s ru up).0 running both inc same
    by_way (ends old e f g) = absurd (let bad : Down old.durable ≡ Up t = sym g ∙ on in cc)
    by_way (begins d e f) = absurd (let bad : Down d ≡ Up s = sym e ∙ up in cc)
