-- Every push that a server sends, a client takes: each value goes with a key part that reads it.
use Rattle.std.specs.Prelude.{◌-◌}
use Rattle.krl_world.proofs.Reaching.{by_reaching}
use Rattle.krl_progress.proofs.Names.{◌≡◌, ℕ, suc, ◌≤◌, ◌∙◌, Bool, true, false, not, ◌&&◌, ◌||◌, Option, Some, None, is_some, List, [], ◌∷◌, refl, sym, ap, subst, arith, nat_eq, nat_lt, END, TOP, eqb-true, eqb-false, same_Some}
use Rattle.krl_progress.proofs.Names.{ToServer, ToClient, Server, Durable, Index, slot_of, is_slot, Case, Ignored, Registers, Leaves, Tells, Alarms, Rebuilds, Repeats, Acknowledges, Lowers, Waits, Judges, SeizesLock, AnswersAgain, case_of, Done, effect, acknowledged, writes, Following, following, Ends, at_once, recovers, serves, ServerStep, AnswersWaiters, stops, goes_on, Turn, next_turn, answer_first, Rows}
use Rattle.std.specs.FinMap as map
use Rattle.krl_modes.specs.declared.part.KeyPart.{KeyPart}
use Rattle.krl_modes.specs.declared.part.KeyPart.TheVariants as key
use Rattle.krl_modes.specs.Modes.{key_of}
use Rattle.krl_modes.specs.Parts.{reads_key}
use Rattle.krl_messages.specs.Values.{Value}
use Rattle.std.specs.Bool.{beq}
use Rattle.krl_messages.specs.Holdings.{has_its_value, have_values}
use Rattle.krl_messages.specs.Writes.{op_key}
use Rattle.krl_messages.specs.declared.outcome.Outcome.TheVariants as outcome
use Rattle.krl_messages.specs.declared.to_client.PushBody.{PushBody}
use Rattle.krl_messages.specs.declared.to_client.PushBody.TheVariants as push
use Rattle.krl_client.specs.Messages.{fits}
use Rattle.krl_queue.specs.declared.waiter.Waiter.{Waiter}
use Rattle.krl_table.specs.Rows.{mode_at}
use Rattle.krl_table.specs.Calls.{granted_first, front_dropped}
use Rattle.krl_table.specs.Grants.{reached_after, granted, reached_by}
use Rattle.krl_table.specs.Replies.{asks_absent}
use Rattle.krl_server.specs.declared.session.Session.{Session}
use Rattle.krl_server.specs.Servers.{blank_session, set_session}
use Rattle.krl_server.specs.Effects as effects
use Rattle.krl_server.specs.Effects.{holding, holdings, shown, pushes, with_rows, tells_outcome}
use Rattle.krl_server.specs.Answering.{tells_absent, grants as grants_first}
use Rattle.krl_server.specs.Soundness.{IsSound}
use Rattle.krl_server.specs.Invariant.{IsOrdered}
use Rattle.krl_server.proofs.Tests.{if_both}
use Rattle.krl_server.proofs.Turns.{turn_is}
use Rattle.krl_server.proofs.Grants.{AreSlotsAfter, taken_slots, slot_always}
use Rattle.krl_table.specs.Sound.{IsTable}
use Rattle.krl_steps.specs.declared.step.Step.{Step}
use Rattle.krl_world.proofs.Refinement.ServerMoves.{Way, stays, reads, stops, begins, way}
use Rattle.krl_progress.proofs.Names.{ServerPlace, Up, Down, State, Runs, IsReachable, opened, CanOpen, start}
use Rattle.krl_progress.proofs.CallsBack.{in_order}
use Rattle.krl_server.specs.Steps.{start}
use Rattle.krl_server.proofs.Outputs.Ends.{pushes_durable}
use Rattle.krl_server.proofs.Invariant.Kept.{server_keeps}

value_fits : (k : KeyPart) (o : Option Value) (b : Bool) → (b ≡ true → o ≡ None) → (b ≡ false → is_some o ≡ true) → beq (is_some (shown k o)) (reads_key k && not b) ≡ true
value_fits key.N o b f g = refl
value_fits key.S None true f g = refl
value_fits key.S None false f g = absurd (let x = g refl in cc)
value_fits key.S (Some v) true f g = absurd (let x = f refl in cc)
value_fits key.S (Some v) false f g = refl
value_fits key.U None true f g = refl
value_fits key.U None false f g = absurd (let x = g refl in cc)
value_fits key.U (Some v) true f g = absurd (let x = f refl in cc)
value_fits key.U (Some v) false f g = refl
value_fits key.X None true f g = refl
value_fits key.X None false f g = absurd (let x = g refl in cc)
value_fits key.X (Some v) true f g = absurd (let x = f refl in cc)
value_fits key.X (Some v) false f g = refl

slot_has : (a b : Bool) → a ≡ false → (a || b) ≡ true → b ≡ true
slot_has a b e f = sym (ap (λ x. x || b) e) ∙ f

-- keys lie below END
abbrev pub Near : Server → Type 0
Near s = (q : ℕ) → END ≤ q → map.get s.durable.index q ≡ None

pub holding_fits : (s : Server) (n c : ℕ) → Near s → is_slot s.durable.index n ≡ true → has_its_value (holding s n c) ≡ true
holding_fits s n c i e = value_fits (key_of (mode_at s.rows n c)) (map.get s.durable.index n) (nat_eq (suc n) TOP)
    (λ t. let x = eqb-true (suc n) TOP t in i n (omega (arith, x)))
    (λ t. slot_has (nat_eq n END) (is_some (map.get s.durable.index n)) (Rattle.krl_progress.proofs.Names.ne_eqb n END (λ x. eqb-false (suc n) TOP t (omega (arith, x)))) e)

holdings_fit : (s : Server) (c low : ℕ) (ns : List ℕ) → Near s → AreSlotsAfter s.durable.index low ns → have_values (holdings s c ns) ≡ true
holdings_fit s c low [] i h = refl
holdings_fit s c low (n ∷ ns) i h = ap (λ b. b && have_values (holdings s c ns)) (holding_fits s n c i h.1) ∙ holdings_fit s c n ns i h.2

-- Sessions

abbrev pub SessionsFit : Server → Type 0
SessionsFit s = (c : ℕ) (b : PushBody) → (s.sessions c).unacked ≡ Some b → fits b ≡ true

abbrev Fits : Session → Type 0
Fits x = (b : PushBody) → x.unacked ≡ Some b → fits b ≡ true

none_fits : (b : PushBody) → None ≡ Some b → fits b ≡ true
none_fits b e = absurd (cc)

set_fits : (s : Server) (c : ℕ) (x : Session) → SessionsFit s → Fits x → (d : ℕ) → Fits (set_session s.sessions c x d)
set_fits s c x h g d = if_both Fits (nat_eq d c) x (s.sessions d) g (h d)

acked_fits : (s : Server) (c : ℕ) → SessionsFit s → SessionsFit (acknowledged s c)
acked_fits s c h = set_fits s c (record (s.sessions c) { unacked = None }) h none_fits

pushes_fit : (s : Server) (c : ℕ) (b : PushBody) → SessionsFit s → fits b ≡ true → SessionsFit (pushes s c b).server
pushes_fit s c b h e = if_both (λ (x : Done). SessionsFit x.server) (nat_lt (s.sessions c).last_push END) _ _
    (set_fits s c (record (s.sessions c) { last_push = suc (s.sessions c).last_push; unacked = Some b }) h (λ x f. subst (λ y. fits y ≡ true) (same_Some b x f) e))
    h

-- the answer to a write
answers_fit : (s : Server) (c number : ℕ) (op : Rattle.krl_messages.specs.declared.write_op.WriteOp.WriteOp) (o : Rattle.krl_messages.specs.declared.outcome.Outcome.Outcome) → Near s → SessionsFit s → SessionsFit (tells_outcome s c number op o).server
answers_fit s c number op o i h = pushes_fit s c _ h (holding_fits s (slot_of s.durable.index (op_key op)) c i (slot_always s.durable.index (op_key op)))

effect_fits : (s : Server) (m : ToServer) (k : Case) → case_of s m ≡ k → IsSound s → SessionsFit s → SessionsFit (effect s m k).server
effect_fits s m Ignored e i h = h
effect_fits s m Registers e i h = set_fits s m.client blank_session h none_fits
effect_fits s m Leaves e i h = h
effect_fits s m Tells e i h = h
effect_fits s m Alarms e i h = h
effect_fits s m (Rebuilds pieces) e i h = h
effect_fits s m (Repeats body) e i h = h
effect_fits s m Acknowledges e i h = acked_fits s m.client h
effect_fits s m (Lowers span keep) e i h = acked_fits s m.client h
effect_fits s m (Waits req point hi g) e i h = set_fits (acknowledged s m.client) m.client (record ((acknowledged s m.client).sessions m.client) { last_request = req }) (acked_fits s m.client h) (acked_fits s m.client h m.client)
effect_fits s m (Judges number op o) e i h =
    let near : Near (effect s m (Judges number op o)).server = subst (λ k. Near (effect s m k).server) e (server_keeps.sound_effect s m i).near in
    answers_fit (writes (acknowledged s m.client) m.client op o) m.client number op o
    (subst (λ (d : Durable). (q : ℕ) → END ≤ q → map.get d.index q ≡ None) (pushes_durable (writes (acknowledged s m.client) m.client op o) m.client _) near)
    (acked_fits s m.client h)
effect_fits s m (SeizesLock number op) e i h =
    let near : Near (effect s m (SeizesLock number op)).server = subst (λ k. Near (effect s m k).server) e (server_keeps.sound_effect s m i).near in
    let t = writes (acknowledged (effects.seizes s m.client op) m.client) m.client op outcome.Applied in
    answers_fit t m.client number op outcome.Applied
    (subst (λ (d : Durable). (q : ℕ) → END ≤ q → map.get d.index q ≡ None) (pushes_durable t m.client _) near)
    (acked_fits s m.client h)
effect_fits s m (AnswersAgain number op o) e i h = answers_fit (acknowledged s m.client) m.client number op o i.near (acked_fits s m.client h)

-- an answer to a first waiter
by_queue_slot : (m : Index) (rows : Rows) (n : ℕ) (u : Waiter) (us : List Waiter) → IsTable m rows → (rows n).queue ≡ u ∷ us → is_slot m n ≡ true
by_queue_slot m rows n u us h q = by_test (is_slot m n) refl
  where
    by_test : (b : Bool) → is_slot m n ≡ b → b ≡ true
    by_test true e = refl
    by_test false e = absurd (let x = ap (λ r. r.queue) (h.blank n e) in let bad : u ∷ us ≡ [] = sym q ∙ x in cc)

reached_fit : (s g : Server) (c n : ℕ) (us : List Waiter) → Near g → g.durable ≡ s.durable → is_slot s.durable.index n ≡ true → have_values (holdings g c (reached_by s.durable.reach s.durable.index s.rows n us)) ≡ true
reached_fit s g c n [] i d e = refl
reached_fit s g c n (u ∷ us) i d e =
    ap (λ b. b && have_values (holdings g c (reached_after s.durable.index (granted_first s.rows n) n u (s.durable.reach - 1)))) (holding_fits g n c i (ap (λ (x : Durable). is_slot x.index n) d ∙ e))
    ∙ holdings_fit g c n (reached_after s.durable.index (granted_first s.rows n) n u (s.durable.reach - 1)) i (subst (λ (x : Durable). AreSlotsAfter x.index n (reached_after s.durable.index (granted_first s.rows n) n u (s.durable.reach - 1))) (sym d) (taken_slots s.durable.index u (s.durable.reach - 1) n (granted_first s.rows n)))

turn_fits : (s : Server) (t : Turn) → next_turn s ≡ Some t → IsSound s → IsOrdered s → SessionsFit s → SessionsFit (answer_first s t).server
turn_fits s t e i o h = if_both (λ (x : Done). SessionsFit x.server) (asks_absent s.durable.index t.waiter) (tells_absent s t) (grants_first s t)
    (pushes_fit (with_rows s (front_dropped s.rows t.slot)) t.waiter.client (push.Absent t.waiter.req t.waiter.point) h refl)
    (pushes_fit (with_rows s (granted s.durable.reach s.durable.index s.rows t.slot)) t.waiter.client _ h
    (reached_fit s (with_rows s (granted s.durable.reach s.durable.index s.rows t.slot)) t.waiter.client t.slot (s.rows t.slot).queue i.near refl (by_queue_slot s.durable.index s.rows t.slot t.waiter _ o.table (turn_is s t e).first)))

answered_fit : (s t : Server) (outs : List ToClient) → AnswersWaiters s t outs → IsSound s → IsOrdered s → SessionsFit s → SessionsFit t
answered_fit s t outs (stops x e) i o h = h
answered_fit s t outs (goes_on x y turn later e rest) i o h = answered_fit (answer_first x turn).server y later rest (server_keeps.sound_turn x turn e i) (server_keeps.ordered_turn x turn e o) (turn_fits x turn e i o h)

ends_fit : (done : Done) (kind : Following) (t : Server) (outs : List ToClient) → Ends done kind t outs → IsSound done.server → IsOrdered done.server → SessionsFit done.server → SessionsFit t
ends_fit done kind t outs (at_once k) i o h = h
ends_fit done kind t outs (recovers g) i o h = h
ends_fit done kind t outs (serves u answers n e a) i o h = answered_fit done.server u answers a i o h

pub step_fits : (s t : Server) (m : ToServer) (outs : List ToClient) → IsSound s → IsOrdered s → SessionsFit s → ServerStep s m t outs → SessionsFit t
step_fits s t m outs i o h step = ends_fit (effect s m (case_of s m)) (following (case_of s m)) t outs step (server_keeps.sound_effect s m i) (server_keeps.ordered_effect s m i o) (effect_fits s m (case_of s m) refl i h)

pub start_fits : (d : Durable) → SessionsFit (start d)
start_fits d c b e = absurd (cc)

-- The pushes of a server of a reachable world fit

abbrev AllFit : ServerPlace → Type 0
AllFit (Up s) = SessionsFit s
AllFit (Down d) = Unit {0}

way_fits : (w v : State) (s : Step) → IsReachable w → AllFit w.server → Way w v s → AllFit v.server
way_fits w v s r h (stays e) = subst AllFit (sym e) h
way_fits w v s r h (reads old new m outs e f at t) =
    let before : AllFit (Up old) = subst AllFit e h in
    let order = in_order w old r e in
    let after : AllFit (Up new) = step_fits old new m outs order.0 order.1 before t in subst AllFit (sym f) after
way_fits w v s r h (stops old e a f) = subst AllFit (sym f) tt
way_fits w v s r h (begins d e f) = let after : AllFit (Up (start d)) = start_fits d in subst AllFit (sym f) after

first_fits : (d : Durable) → AllFit (opened d).server
unfolding opened
first_fits d = start_fits d

pub all_pushes_fit : (u : State) (s : Server) → IsReachable u → u.server ≡ Up s → SessionsFit s
all_pushes_fit u s h up =
    let x : AllFit (Up s) = subst AllFit up (by_reaching (λ w. AllFit w.server) (λ d r. first_fits d) (λ w v t answer r y z. way_fits w v t r y (way w v t answer z.1)) (λ w d l r y e fits. tt) u h) in x
