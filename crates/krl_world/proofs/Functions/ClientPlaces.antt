-- A tick, a message, a start and a crash at a place are steps of the world.
use Rattle.krl_world.proofs.Names.{◌≡◌, ℕ, suc, ◌≤◌, Some, None, Option, is_some, List, [], ◌++◌, length, refl, sym, ap, subst, ◌∙◌, cond, append-nil, get_or-eq_default, Ok, Err, slice_get, ToClient}
use Rattle.krl_world.proofs.Names.{Client, Message, Refused, State, ClientPlace, client_of, set_place, from_clients, Steps, if_runs, refusal_of, Delivers, ClientReads, Arrives, places_of, place_of}
use Rattle.krl_world.proofs.Names.{kept_nobody, IsRefused, Started, Ticked, HasRead, starting_refusal}
use Rattle.krl_world.specs.declared.node.ClientPlace.{ClientPlace as KeptClientPlace}
use Rattle.krl_world.specs.declared.message.Message.TheVariants as message
use Rattle.krl_steps.specs.declared.step.Step.TheVariants as step
use Rattle.krl_steps.specs.declared.answer.Answer.TheVariants as told
use Rattle.krl_steps.specs.declared.refused.Refused.TheVariants as refused
use Rattle.krl_world.proofs.Functions.Lifts.{takes, refuses, refuses_by, lacks_memory, is_client, same_place}
use Rattle.krl_world.proofs.Functions.Commands.{gone, gone_by, gone_nowhere}

-- Ticks

runs : (w : State) (c : ℕ) (o : Option Client) → c ≤ 63 → client_of w c ≡ o → refusal_of w (step.Tick c) ≡ if_runs o (λ k. None)
runs w c o h i = is_client c _ h ∙ ap (λ x. if_runs x (λ k. None)) i

-- the client stays, and this was sent
stays_gone : (w v : State) (c : ℕ) (k : Client) (sent : List Message) → client_of w c ≡ Some k → v ≡ record w { sent = sent } → v ≡ gone w c (Some k) sent
stays_gone w v c k sent i e = e ∙ (λ t. record w { places = sym (same_place w.places c) t; sent = sent }) ∙ (λ t. gone w c (i t) sent)

pub ticked_steps : (w v : State) (c : ℕ) (k : Client) (sent : List Message) → c ≤ 63 → client_of w c ≡ Some k → v ≡ record w { sent = sent } → Ticked k w.sent sent → Steps w (step.Tick c) (Ok told.Done) v
ticked_steps w v c k sent h i e t =
    takes w v (step.Tick c) told.Done (runs w c (Some k) h i)
    (refl, (k, i, (t.tick.pieces, t.tick.described, gone_by w v c (Some k) (Some k) sent _ (stays_gone w v c k sent i e) refl (t.sent ∙ ap (λ list. w.sent ++ from_clients list) t.tick.says))))

pub tick_down : (w v : State) (c : ℕ) → c ≤ 63 → client_of w c ≡ None → v ≡ w → Steps w (step.Tick c) (Err refused.Down) v
tick_down w v c h i e = refuses w v (step.Tick c) refused.Down e (runs w c None h i)

pub tick_memory : (w v : State) (c : ℕ) (k : Client) → c ≤ 63 → client_of w c ≡ Some k → v ≡ w → Steps w (step.Tick c) (Err refused.OutOfMemory) v
tick_memory w v c k h i e = lacks_memory w v (step.Tick c) e (runs w c (Some k) h i) tt

-- Crashes

crashes : (w : State) (c : ℕ) (o : Option Client) → c ≤ 63 → client_of w c ≡ o → refusal_of w (step.CrashClient c) ≡ if_runs o (λ k. None)
crashes w c o h i = is_client c _ h ∙ ap (λ x. if_runs x (λ k. None)) i

pub crashed_steps : (w v : State) (c : ℕ) (k : Client) → c ≤ 63 → client_of w c ≡ Some k → v ≡ gone w c None w.sent → Steps w (step.CrashClient c) (Ok told.Done) v
crashed_steps w v c k h i e =
    takes w v (step.CrashClient c) told.Done (crashes w c (Some k) h i) (refl, gone_by w v c None None w.sent (w.sent ++ []) e refl (sym (append-nil w.sent)))

pub crash_down : (w v : State) (c : ℕ) → c ≤ 63 → client_of w c ≡ None → v ≡ gone w c None w.sent → Steps w (step.CrashClient c) (Err refused.Down) v
crash_down w v c h i e = refuses w v (step.CrashClient c) refused.Down (gone_nowhere w v c None w.sent e (sym i) refl) (crashes w c None h i)

-- Starts

pub started_steps : (w v : State) (c : ℕ) (y : ClientPlace) (sent : List Message) → c ≤ 63 → v ≡ record w { places = set_place w.places c y; sent = sent } → Started c (w.places c) y w.sent sent → Steps w (step.StartClient c) (Ok told.Done) v
started_steps w v c y sent h e s =
    takes w v (step.StartClient c) told.Done (is_client c _ h ∙ s.none_due) (refl, e ∙ (λ t. record w { places = set_place w.places c (s.place t); sent = s.sent t }))

pub start_refused : (w v : State) (c : ℕ) (r : Refused) → c ≤ 63 → v ≡ w → IsRefused (starting_refusal c (w.places c)) (Unit {0}) r → Steps w (step.StartClient c) (Err r) v
start_refused w v c r h e x = refuses_by w v (step.StartClient c) r (starting_refusal c (w.places c)) (Unit {0}) e (is_client c _ h) (λ u. tt) x

-- Messages to clients

there : (w : State) (at : ℕ) (x : Message) → slice_get w.sent at ≡ Some x → refusal_of w (step.Deliver (suc at)) ≡ None
there w at x f = ap (λ o. cond (is_some o) None (Some refused.NoMessage)) f

pub delivered : (w v : State) (at : ℕ) (x : Message) → slice_get w.sent at ≡ Some x → Delivers w (Some x) v → Steps w (step.Deliver (suc at)) (Ok told.Done) v
delivered w v at x f d = takes w v (step.Deliver (suc at)) told.Done (there w at x f) (refl, subst (λ o. Delivers w o v) (sym f) d)

pub delivery_memory : (w v : State) (at : ℕ) (x : Message) → slice_get w.sent at ≡ Some x → v ≡ w → Arrives w (Some x) → Steps w (step.Deliver (suc at)) (Err refused.OutOfMemory) v
delivery_memory w v at x f e a = lacks_memory w v (step.Deliver (suc at)) e (there w at x f) (subst (Arrives w) (sym f) a)

reads : (w v : State) (m : ToClient) (o : Option Client) → client_of w m.client ≡ o → ClientReads w o m v → Delivers w (Some (message.ToClient m)) v
reads w v m o i d = subst (λ x. ClientReads w x m v) (sym i) d

pub read_steps : (w v : State) (at : ℕ) (m : ToClient) (k next : Client) (sent : List Message) → slice_get w.sent at ≡ Some (message.ToClient m) → client_of w m.client ≡ Some k → v ≡ gone w m.client (Some next) sent → HasRead k m next w.sent sent → Steps w (step.Deliver (suc at)) (Ok told.Done) v
read_steps w v at m k next sent f i e r =
    delivered w v at (message.ToClient m) f (reads w v m (Some k) i
    (r.follows.pieces, r.follows.described, gone_by w v m.client (Some next) _ sent _ e (ap (λ x. Some x) r.follows.client) (r.sent ∙ ap (λ list. w.sent ++ from_clients list) r.follows.says)))

pub read_by_nobody : (w v : State) (at : ℕ) (m : ToClient) → slice_get w.sent at ≡ Some (message.ToClient m) → client_of w m.client ≡ None → v ≡ w → Steps w (step.Deliver (suc at)) (Ok told.Done) v
read_by_nobody w v at m f i e = delivered w v at (message.ToClient m) f (reads w v m None i e)

pub read_memory : (w v : State) (at : ℕ) (m : ToClient) (k : Client) → slice_get w.sent at ≡ Some (message.ToClient m) → client_of w m.client ≡ Some k → v ≡ w → Steps w (step.Deliver (suc at)) (Err refused.OutOfMemory) v
read_memory w v at m k f i e = delivery_memory w v at (message.ToClient m) f e (ap is_some i)

-- nobody has a number above those of the places
pub nobody_past : (places : List KeptClientPlace) (c : ℕ) → length places ≤ c → (places_of places c).client ≡ None
nobody_past places c le = ap (λ x. (place_of x).client) (get_or-eq_default places kept_nobody le)
