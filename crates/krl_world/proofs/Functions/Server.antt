-- What the server does is a step of the world.
use Rattle.krl_world.proofs.Names.{◌≡◌, ℕ, zero, suc, ◌≤◌, ◌<◌, ◌⊎◌, inl, inr, true, false, Some, None, is_some, List, [], ◌++◌, length, get_or, refl, sym, ap, subst, ◌∙◌, cond, arith, ◌-◌}
use Rattle.krl_world.proofs.Names.{slice_get_past, slice_get_read, append-nil, Result, Ok, Err, slice_get, ToServer, Durable, Server, IsStarted, IsReason, KeptWorld, meaning, node_of, Message}
use Rattle.krl_world.proofs.Names.{AppliedWrite, Answer, Refused, State, ServerPlace, Up, Down, from_server, served, Steps, message_at, refused_by_server, refusal_of, server_down, server_start}
use Rattle.krl_world.proofs.Names.{nudged, started, crashed, ServerReads, HasServed, HasArrived}
use Rattle.krl_server.specs.Steps as server
use Rattle.krl_server.specs.StateMeaning.{meaning as server_of}
use Rattle.krl_server.specs.declared.state.State.{State as Kept}
use Rattle.krl_server.specs.declared.start_refused.ServerNotStarted.{ServerNotStarted}
use Rattle.krl_server.specs.declared.start_refused.ServerNotStarted.TheVariants as beginner
use Rattle.krl_world.specs.declared.node.ServerPlace.{ServerPlace as KeptNode}
use Rattle.krl_world.specs.declared.node.ServerPlace.TheVariants as kept
use Rattle.krl_world.specs.declared.message.Message.TheVariants as message
use Rattle.krl_steps.specs.declared.step.Step.TheVariants as step
use Rattle.krl_steps.specs.declared.answer.Answer.TheVariants as told
use Rattle.krl_steps.specs.declared.refused.Refused.TheVariants as refused
use Rattle.krl_world.proofs.Functions.Lifts.{takes, refuses, lacks_memory, is_client}
use Rattle.krl_world.proofs.Functions.ClientPlaces.{delivered, delivery_memory}

-- Messages

pub served_steps : (w v : State) (at : ℕ) (m : ToServer) (s t : Server) (sent : List Message) (writes : List AppliedWrite) → slice_get w.sent at ≡ Some (message.ToServer m) → w.server ≡ Up s → v ≡ record w { server = Up t; sent = sent; writes = writes } → HasServed s m t w.sent sent w.writes writes → Steps w (step.Deliver (suc at)) (Ok told.Done) v
served_steps w v at m s t sent writes f up e h =
    delivered w v at (message.ToServer m) f (subst (λ n. ServerReads w n m v) (sym up)
    (t, h.outs, h.step, e ∙ (λ i. record w { server = Up t; sent = h.sent i; writes = h.writes_are i })))

pub lost_steps : (w v : State) (at : ℕ) (m : ToServer) (d : Durable) → slice_get w.sent at ≡ Some (message.ToServer m) → w.server ≡ Down d → v ≡ w → Steps w (step.Deliver (suc at)) (Ok told.Done) v
lost_steps w v at m d f down e = delivered w v at (message.ToServer m) f (subst (λ n. ServerReads w n m v) (sym down) e)

-- Nudges

nudges : (w : State) (c : ℕ) (n : ServerPlace) → c ≤ 63 → w.server ≡ n → refusal_of w (step.Nudge c) ≡ server_down n
nudges w c n h e = is_client c _ h ∙ ap server_down e

-- nothing of the server changes, and nothing is written
quiet : (w v : State) (s : Server) (sent more : List Message) → w.server ≡ Up s → v ≡ record w { sent = sent } → sent ≡ more → v ≡ record w { server = Up s; sent = more; writes = w.writes ++ [] }
quiet w v s sent more up e f = e ∙ (λ t. record w { server = up t; sent = f t; writes = sym (append-nil w.writes) t })

pub nudged_steps : (w v : State) (c : ℕ) (s : Server) (sent : List Message) → c ≤ 63 → w.server ≡ Up s → v ≡ record w { sent = sent } → sent ≡ w.sent ++ from_server (server.nudge s c) → Steps w (step.Nudge c) (Ok told.Done) v
nudged_steps w v c s sent h up e f =
    takes w v (step.Nudge c) told.Done (nudges w c (Up s) h up) (refl, subst (λ n. v ≡ nudged w n c) (sym up) (quiet w v s sent _ up e f))

pub nudge_down : (w v : State) (c : ℕ) (d : Durable) → c ≤ 63 → w.server ≡ Down d → v ≡ w → Steps w (step.Nudge c) (Err refused.Down) v
nudge_down w v c d h down e = refuses w v (step.Nudge c) refused.Down e (nudges w c (Down d) h down)

pub nudge_memory : (w v : State) (c : ℕ) (s : Server) → c ≤ 63 → w.server ≡ Up s → v ≡ w → Steps w (step.Nudge c) (Err refused.OutOfMemory) v
nudge_memory w v c s h up e = lacks_memory w v (step.Nudge c) e (nudges w c (Up s) h up) tt

-- Crash and start

-- the server changes, and nothing is sent or written
moved : (w v : State) (n : ServerPlace) → v ≡ record w { server = n } → v ≡ served w n [] []
moved w v n e = e ∙ (λ t. record w { server = n; sent = sym (append-nil w.sent) t; writes = sym (append-nil w.writes) t })

pub crashed_steps : (w v : State) (s : Server) → w.server ≡ Up s → v ≡ record w { server = Down s.durable } → Steps w step.CrashServer (Ok told.Done) v
crashed_steps w v s up e = takes w v step.CrashServer told.Done (ap server_down up) (refl, subst (λ n. v ≡ crashed w n) (sym up) (moved w v (Down s.durable) e))

pub crash_down : (w v : State) (d : Durable) → w.server ≡ Down d → v ≡ w → Steps w step.CrashServer (Err refused.Down) v
crash_down w v d down e = refuses w v step.CrashServer refused.Down e (ap server_down down)

can : (d : Durable) → server.can_start d ≡ true → server_start (Down d) ≡ None
can d c = ap (λ b. cond b None (Some refused.Spent)) c

pub started_steps : (w v : State) (d : Durable) (s : Server) → w.server ≡ Down d → server.can_start d ≡ true → s ≡ server.start d → v ≡ record w { server = Up s } → Steps w step.StartServer (Ok told.Done) v
started_steps w v d s down c f e =
    takes w v step.StartServer told.Done (ap server_start down ∙ can d c) (refl, subst (λ n. v ≡ started w n) (sym down) (moved w v (Up (server.start d)) (e ∙ (λ t. record w { server = Up (f t) }))))

pub start_running : (w v : State) (s : Server) → w.server ≡ Up s → v ≡ w → Steps w step.StartServer (Err refused.Running) v
start_running w v s up e = refuses w v step.StartServer refused.Running e (ap server_start up)

pub start_spent : (w v : State) (d : Durable) → w.server ≡ Down d → server.can_start d ≡ false → v ≡ w → Steps w step.StartServer (Err refused.Spent) v
start_spent w v d down c e = refuses w v step.StartServer refused.Spent e (ap server_start down ∙ ap (λ b. cond b None (Some refused.Spent)) c)

pub start_memory : (w v : State) (d : Durable) → w.server ≡ Down d → server.can_start d ≡ true → v ≡ w → Steps w step.StartServer (Err refused.OutOfMemory) v
start_memory w v d down c e = lacks_memory w v step.StartServer e (ap server_start down ∙ can d c) tt

-- Over what a world keeps

pub lost_at : (w : KeptWorld) (at : ℕ) (m : ToServer) (d : Durable) → slice_get w.sent at ≡ Some (message.ToServer m) → w.server ≡ kept.Down d → Steps (meaning w) (step.Deliver (suc at)) (Ok told.Done) (meaning w)
lost_at w at m d f down = lost_steps (meaning w) (meaning w) at m d f (ap node_of down) refl

-- the server is as it was, and so is all that was sent and written
same_server : (w : KeptWorld) (n : KeptNode) (sent : List Message) (writes : List AppliedWrite) → n ≡ w.server → sent ≡ w.sent → writes ≡ w.writes → meaning (record w { server = n; sent = sent; writes = writes }) ≡ meaning w
same_server w n sent writes e f g = λ t. meaning (record w { server = e t; sent = f t; writes = g t })

pub nudged_at : (w : KeptWorld) (c : ℕ) (s : Kept) (sent : List Message) → c ≤ 63 → w.server ≡ kept.Up s → sent ≡ w.sent ++ from_server (server.nudge (server_of s) c) → Steps (meaning w) (step.Nudge c) (Ok told.Done) (meaning (record w { sent = sent }))
nudged_at w c s sent h up f = nudged_steps (meaning w) (meaning (record w { sent = sent })) c (server_of s) sent h (ap node_of up) refl f

pub nudge_down_at : (w : KeptWorld) (c : ℕ) (d : Durable) → c ≤ 63 → w.server ≡ kept.Down d → Steps (meaning w) (step.Nudge c) (Err refused.Down) (meaning w)
nudge_down_at w c d h down = nudge_down (meaning w) (meaning w) c d h (ap node_of down) refl

pub nudge_memory_at : (w : KeptWorld) (c : ℕ) (s : Kept) (sent : List Message) → c ≤ 63 → w.server ≡ kept.Up s → sent ≡ w.sent → Steps (meaning w) (step.Nudge c) (Err refused.OutOfMemory) (meaning (record w { sent = sent }))
nudge_memory_at w c s sent h up f = nudge_memory (meaning w) (meaning (record w { sent = sent })) c (server_of s) h (ap node_of up) (λ t. meaning (record w { sent = f t }))

pub crashed_at : (w : KeptWorld) (s : Kept) (d : Durable) → w.server ≡ kept.Up s → d ≡ server.crash (server_of s) → Steps (meaning w) step.CrashServer (Ok told.Done) (meaning (record w { server = kept.Down d }))
crashed_at w s d up e = crashed_steps (meaning w) (meaning (record w { server = kept.Down d })) (server_of s) (ap node_of up) (λ t. record (meaning w) { server = Down (e t) })

pub crash_down_at : (w : KeptWorld) (d : Durable) → w.server ≡ kept.Down d → Steps (meaning w) step.CrashServer (Err refused.Down) (meaning (record w { server = kept.Down d }))
crash_down_at w d down = crash_down (meaning w) (meaning (record w { server = kept.Down d })) d (ap node_of down) (λ t. meaning (record w { server = sym down t }))

pub started_at : (w : KeptWorld) (d : Durable) (s : Kept) → w.server ≡ kept.Down d → IsStarted d (server_of s) → Steps (meaning w) step.StartServer (Ok told.Done) (meaning (record w { server = kept.Up s }))
started_at w d s down h = started_steps (meaning w) (meaning (record w { server = kept.Up s })) d (server_of s) (ap node_of down) h.epoch h.server refl

pub start_running_at : (w : KeptWorld) (s : Kept) → w.server ≡ kept.Up s → Steps (meaning w) step.StartServer (Err refused.Running) (meaning (record w { server = kept.Up s }))
start_running_at w s up = start_running (meaning w) (meaning (record w { server = kept.Up s })) (server_of s) (ap node_of up) (λ t. meaning (record w { server = sym up t }))

-- the same survives as before
survives : (w : KeptWorld) (d e : Durable) → w.server ≡ kept.Down d → e ≡ d → meaning (record w { server = kept.Down e }) ≡ meaning w
survives w d e down f = λ t. meaning (record w { server = (ap kept.Down f ∙ sym down) t })

pub start_refused_at : (w : KeptWorld) (d e : Durable) (r : ServerNotStarted) → w.server ≡ kept.Down d → e ≡ d → IsReason d r → Steps (meaning w) step.StartServer (Err (refused_by_server r)) (meaning (record w { server = kept.Down e }))
start_refused_at w d e beginner.Spent down f h = start_spent (meaning w) (meaning (record w { server = kept.Down e })) d (ap node_of down) h (survives w d e down f)
start_refused_at w d e beginner.OutOfMemory down f h = start_memory (meaning w) (meaning (record w { server = kept.Down e })) d (ap node_of down) h (survives w d e down f)

-- Messages that were never sent

none_at : (sent : List Message) (n : ℕ) → (n ≡ 0) ⊎ (length sent < n) → message_at sent n ≡ None
none_at sent zero h = refl
none_at sent (suc i) (inl e) = absurd (omega arith)
none_at sent (suc i) (inr h) = slice_get_past sent i (omega arith)

pub no_message : (w : KeptWorld) (n : ℕ) → (n ≡ 0) ⊎ (length w.sent < n) → Steps (meaning w) (step.Deliver n) (Err refused.NoMessage) (meaning w)
no_message w n h = refuses (meaning w) (meaning w) (step.Deliver n) refused.NoMessage refl (ap (λ o. cond (is_some o) None (Some refused.NoMessage)) (none_at w.sent n h))

-- the message of a number is the one that was read at its place
pub nth_delivered : (u w : KeptWorld) (v : State) (n : ℕ) (x y : Message) (r : Result Answer Refused) → u ≡ w → (n ≡ 0 → ⊥) → n ≤ length u.sent → x ≡ get_or u.sent (n - 1) x → x ≡ y → (slice_get w.sent (n - 1) ≡ Some y → Steps (meaning w) (step.Deliver (suc (n - 1))) r v) → Steps (meaning w) (step.Deliver n) r v
nth_delivered u w v n x y r same some within at is given =
    let back : suc (n - 1) ≡ n = omega arith in
    let below : n - 1 < length u.sent = omega arith in
    let e : slice_get u.sent (n - 1) ≡ Some y = slice_get_read u.sent _ (n - 1) x refl below at ∙ ap (λ z. Some z) is in
    subst (λ k. Steps (meaning w) (step.Deliver k) r v) back (given (subst (λ (z : KeptWorld). slice_get z.sent (n - 1) ≡ Some y) same e))

-- the server that runs read the message, or none runs
pub arrived_at : (w : KeptWorld) (at : ℕ) (m : ToServer) (n : KeptNode) (sent : List Message) (writes : List AppliedWrite) → slice_get w.sent at ≡ Some (message.ToServer m) → HasArrived (node_of w.server) m (node_of n) w.sent sent w.writes writes → Steps (meaning w) (step.Deliver (suc at)) (Ok told.Done) (meaning (record w { server = n; sent = sent; writes = writes }))
arrived_at w at m n sent writes f h = go (node_of w.server) (node_of n) refl refl h
  where
    v : State
    v = meaning (record w { server = n; sent = sent; writes = writes })

    go : (x y : ServerPlace) → node_of w.server ≡ x → node_of n ≡ y → HasArrived x m y w.sent sent w.writes writes → Steps (meaning w) (step.Deliver (suc at)) (Ok told.Done) v
    go (Up s) (Up t) e g a = served_steps (meaning w) v at m s t sent writes f e (λ t'. record (meaning w) { server = g t'; sent = sent; writes = writes }) a
    go (Up s) (Down d) e g a = absurd a
    go (Down d) y e g a = lost_steps (meaning w) v at m d f e (λ t. record (meaning w) { server = (g ∙ a.0 ∙ sym e) t; sent = a.1 t; writes = a.2 t })

pub arrival_memory_at : (w : KeptWorld) (at : ℕ) (m : ToServer) (n : KeptNode) (sent : List Message) (writes : List AppliedWrite) → slice_get w.sent at ≡ Some (message.ToServer m) → server_down (node_of w.server) ≡ None → n ≡ w.server → sent ≡ w.sent → writes ≡ w.writes → Steps (meaning w) (step.Deliver (suc at)) (Err refused.OutOfMemory) (meaning (record w { server = n; sent = sent; writes = writes }))
arrival_memory_at w at m n sent writes f up e g h = delivery_memory (meaning w) (meaning (record w { server = n; sent = sent; writes = writes })) at (message.ToServer m) f (same_server w n sent writes e g h) up
