-- Each order of a node is one step of the world.
use Rattle.krl_nodes.proofs.Names.{length, ◌≡◌, ℕ, suc, ◌≤◌, List, [], ◌∷◌, ◌++◌, Bool, true, false, cond, Option, Some, None, inl, inr, refl, sym, ap, ◌∙◌, subst, ltb-false, arith, nat_lt}
use Rattle.krl_nodes.proofs.Names.{append-nil, Result, Ok, Err, ToServer, Message, Command, Answer, Refused, ServerPlace, Up, Down, ClientPlace, State, client_of, set_place, from_clients, from_server, Steps}
use Rattle.krl_nodes.proofs.Names.{of_client, applies, server_down, Does, CommandedAt, Started, starting_refusal, place_here, place_other, Mail, Shown, ServerAt, ClientAt, letters_to, left_by}
use Rattle.krl_nodes.proofs.Names.{position_of, with_to_server, with_to_client, with_said, with_sent, Agrees, StandsIn, AllSent, down_at, Event, Acts, HasNoMore, Change, ServerReads, ClientReads}
use Rattle.krl_nodes.proofs.Names.{ServerTakes, ClientTakes, Nudges, Crashes, Starts, Ticks, ClientStarts, ClientCrashes, ServerDoes, ServerLets, ServerActs, ClientDoes, ClientLets, ClientActs}
use Rattle.krl_nodes.proofs.Names.{server_due, client_due, IsSame, Pick}
use Rattle.krl_durable.specs.Registers.{Durable}
use Rattle.krl_server.specs.Cases as cases
use Rattle.krl_server.specs.Steps as serving
use Rattle.krl_client.specs.Clients.{Client, begun}
use Rattle.krl_client.specs.Ticks.{says_hello}
use Rattle.krl_world.specs.declared.message.Message.TheVariants as message
use Rattle.krl_steps.specs.declared.applied_write.AppliedWrite.{AppliedWrite}
use Rattle.krl_steps.specs.declared.step.Step.{Step}
use Rattle.krl_steps.specs.declared.step.Step.TheVariants as step
use Rattle.krl_steps.specs.declared.answer.Answer.TheVariants as told
use Rattle.krl_steps.specs.declared.refused.Refused.TheVariants as refused
use Rattle.krl_world.proofs.Functions.Commands.{gone, command_steps}
use Rattle.krl_world.proofs.Functions.ClientPlaces as places
use Rattle.krl_world.proofs.Functions.Server as server
use Rattle.krl_nodes.specs.declared.orders.ServerOrder.{ServerOrder}
use Rattle.krl_nodes.specs.declared.orders.ServerOrder.TheVariants as to_server
use Rattle.krl_nodes.specs.declared.orders.ClientOrder.{ClientOrder}
use Rattle.krl_nodes.specs.declared.orders.ClientOrder.TheVariants as to_client
use Rattle.krl_nodes.specs.declared.orders.Turn.{Turn}
use Rattle.krl_nodes.specs.declared.orders.Turn.TheVariants.{Did, Idle, Lost}
use Rattle.krl_nodes.proofs.Sendings.{said_sent, sent_sent, left_server, left_client}
use Rattle.krl_nodes.proofs.Says.{sends}

-- A step at the server, or at a client

at_the_server : (w : State) (d d' : ServerPlace) (sent : List Message) (writes : List AppliedWrite) (mail : Mail) (s : Step) (a : Answer) → w.server ≡ d → Steps w s (Ok a) (record w { server = d'; sent = sent; writes = writes }) → AllSent mail sent → Event w (ServerAt d) (ServerAt d') mail
at_the_server w d d' sent writes mail s a is t all = record {
  step = s;
  answer = a;
  after = record w { server = d'; sent = sent; writes = writes };
  taken = t;
  move = inl (d, d', refl, refl, refl, λ c. refl);
  sent = all;
}

at_a_client : (w : State) (c : ℕ) (x x' : ClientPlace) (sent : List Message) (mail : Mail) (s : Step) (a : Answer) → Steps w s (Ok a) (record w { places = set_place w.places c x'; sent = sent }) → AllSent mail sent → Event w (ClientAt c x) (ClientAt c x') mail
at_a_client w c x x' sent mail s a t all = record {
  step = s;
  answer = a;
  after = record w { places = set_place w.places c x'; sent = sent };
  taken = t;
  move = inr (c, x, x', refl, refl, refl, place_here w.places c x', λ d ne. place_other w.places c d x' ne);
  sent = all;
}

-- a step that leaves the clients as they were
past_a_client : (w : State) (c : ℕ) (x x' : ClientPlace) (sent : List Message) (mail : Mail) (s : Step) (a : Answer) → w.places c ≡ x → x' ≡ x → Steps w s (Ok a) (record w { sent = sent }) → AllSent mail sent → Event w (ClientAt c x) (ClientAt c x') mail
past_a_client w c x x' sent mail s a is same t all = record {
  step = s;
  answer = a;
  after = record w { sent = sent };
  taken = t;
  move = inr (c, x, x', refl, refl, refl, is ∙ sym same, λ d ne. refl);
  sent = all;
}

-- if the post becomes this one, with the same entries and chairs
acts_by : (mail mail' post : Mail) (n n' : Shown) → mail' ≡ post → post.opening ≡ mail.opening → post.chairs ≡ mail.chairs → ((w : State) → Agrees w n → AllSent mail w.sent → Event w n n' post) → Acts mail n mail' n'
acts_by mail mail' post n n' e opening chairs f = record {
  opening = ap (λ (m : Mail). m.opening) e ∙ opening;
  chairs = ap (λ (m : Mail). m.chairs) e ∙ chairs;
  order = λ w reach agrees all. subst (λ (m : Mail). Event w n n' m) (sym e) (f w agrees all);
}

-- what was sent, and nothing more
no_more : (mail : Mail) (sent more : List Message) → more ≡ [] → AllSent mail (sent ++ more) → AllSent mail sent
no_more mail sent more none all = subst (AllSent mail) (ap (λ ls. sent ++ ls) none ∙ append-nil sent) all

-- Letters

-- the server's letter
server_takes : (p : Pick) (mail : Mail) (d : ServerPlace) (mail' : Mail) (d' : ServerPlace) → ServerTakes p mail d mail' d' → Acts mail (ServerAt d) mail' (ServerAt d')
server_takes p mail d mail' d' r = acts_by mail mail' post (ServerAt d) (ServerAt d') r.post refl refl
    (λ w agrees all. go w d d' agrees (sent_sent left w.sent (left_server mail w.sent all p) r.outs) (all.to_server (position_of p (length mail.to_server)) r.letter r.picked) r.reads)
  where
    left : Mail
    left = with_to_server mail (left_by p mail.to_server)

    post : Mail
    post = with_sent left r.outs

    go : (w : State) (x x' : ServerPlace) → w.server ≡ x → AllSent post (w.sent ++ from_server r.outs) → StandsIn (message.ToServer r.letter) w.sent → ServerReads x r.letter x' r.outs → Event w (ServerAt x) (ServerAt x') post
    go w (Up s) (Up t) is all at h =
        let more = w.sent ++ from_server r.outs in
        let writes = w.writes ++ applies r.letter (cases.case_of s r.letter) in
        at_the_server w (Up s) (Up t) more writes post (step.Deliver (suc at.0)) told.Done is
        (server.served_steps w (record w { server = Up t; sent = more; writes = writes }) at.0 r.letter s t more writes at.1 is refl (record { outs = r.outs; step = h; sent = refl; writes_are = refl }))
        all
    go w (Up s) (Down x) is all at h = absurd h
    go w (Down x) x' is all at h =
        let e : record w { server = x' } ≡ w = λ t. record w { server = (h.0 ∙ sym is) t } in
        at_the_server w (Down x) x' w.sent w.writes post (step.Deliver (suc at.0)) told.Done is
        (server.lost_steps w (record w { server = x' }) at.0 r.letter x at.1 is e)
        (no_more post w.sent (from_server r.outs) (ap from_server h.1) all)

-- a client's letter
client_takes : (p : Pick) (c : ℕ) (mail : Mail) (x : ClientPlace) (mail' : Mail) (x' : ClientPlace) → ClientTakes p c mail x mail' x' → Acts mail (ClientAt c x) mail' (ClientAt c x')
client_takes p c mail x mail' x' r = acts_by mail mail' post (ClientAt c x) (ClientAt c x') r.post refl refl
    (λ w agrees all.
    let at = all.to_clients c (position_of p (length (letters_to c mail))) r.letter r.picked in
    go w x.client agrees refl (said_sent left w.sent (left_client mail w.sent all p c) r.list) at.1 at.0 r.reads)
  where
    left : Mail
    left = with_to_client mail c (left_by p (letters_to c mail))

    post : Mail
    post = with_said left r.list

    go : (w : State) (o : Option Client) → w.places c ≡ x → x.client ≡ o → AllSent post (w.sent ++ from_clients r.list) → StandsIn (message.ToClient r.letter) w.sent → r.letter.client ≡ c → ClientReads o r.letter x'.client r.list → Event w (ClientAt c x) (ClientAt c x') post
    go w None is i all at own h =
        let same : x' ≡ x = λ t. record { last_incarnation = r.last_incarnation t; client = (h.0 ∙ sym i) t } in
        let down : client_of w r.letter.client ≡ None = ap (λ k. client_of w k) own ∙ ap (λ (s : ClientPlace). s.client) is ∙ i in
        past_a_client w c x x' w.sent post (step.Deliver (suc at.0)) told.Done is same
        (places.read_by_nobody w w at.0 r.letter at.1 down refl)
        (no_more post w.sent (from_clients r.list) (ap from_clients h.1) all)
    go w (Some k) is i all at own h =
        let more = w.sent ++ from_clients r.list in
        let up : client_of w r.letter.client ≡ Some k = ap (λ k. client_of w k) own ∙ ap (λ (s : ClientPlace). s.client) is ∙ i in
        let last_incarnation : (w.places r.letter.client).last_incarnation ≡ x'.last_incarnation = ap (λ k. (w.places k).last_incarnation) own ∙ ap (λ (s : ClientPlace). s.last_incarnation) is ∙ sym r.last_incarnation in
        let v : State = gone w r.letter.client (Some h.0) more in
        let e : v ≡ record w { places = set_place w.places c x'; sent = more } = λ t. record w { places = set_place w.places (own t) (record { last_incarnation = last_incarnation t; client = sym h.1 t }); sent = more } in
        at_a_client w c x x' more post (step.Deliver (suc at.0)) told.Done
        (subst (λ (u : State). Steps w (step.Deliver (suc at.0)) (Ok told.Done) u) e (places.read_steps w v at.0 r.letter k h.0 more at.1 up refl (record { list = r.list; follows = h.2; sent = refl })))
        all

-- Commands

obeys : (c : ℕ) (what : Command) (a : Answer) (mail : Mail) (x : ClientPlace) (mail' : Mail) (x' : ClientPlace) → c ≤ 63 → (o : Option Client) → x.client ≡ o → (list : List ToServer) → CommandedAt o what x'.client [] (from_clients list) (Ok a) → x'.last_incarnation ≡ x.last_incarnation → mail' ≡ with_said mail list → Acts mail (ClientAt c x) mail' (ClientAt c x')
obeys c what a mail x mail' x' low None i list d g p = let both = d.0 in absurd (cc)
obeys c what a mail x mail' x' low (Some k) i list d g p =
    let s = sends k what a x'.client [] (from_clients list) d.1 in
    acts_by mail mail' (with_said mail list) (ClientAt c x) (ClientAt c x') p refl refl
    (λ w is all.
    let more = w.sent ++ from_clients list in
    let up : client_of w c ≡ Some k = ap (λ (y : ClientPlace). y.client) is ∙ i in
    let last_incarnation : (w.places c).last_incarnation ≡ x'.last_incarnation =
    ap (λ (y : ClientPlace). y.last_incarnation) is ∙ sym g in
    let v : State = gone w c x'.client more in
    let e : v ≡ record w { places = set_place w.places c x'; sent = more } = λ t. record w { places = set_place w.places c (record { last_incarnation = last_incarnation t; client = x'.client }); sent = more } in
    let does : Does k what a x'.client w.sent more = subst (λ ls. Does k what a x'.client w.sent (w.sent ++ ls)) (sym s.sent) (s.does w.sent) in
    at_a_client w c x x' more (with_said mail list) (step.Command c what) a
    (subst (λ (u : State). Steps w (step.Command c what) (Ok a) u) e (command_steps w v c what (Some k) x'.client more (Ok a) low up refl (d.0, does)))
    (said_sent mail w.sent all list))

ticks : (c : ℕ) (mail : Mail) (x : ClientPlace) (mail' : Mail) (x' : ClientPlace) (a : Answer) → c ≤ 63 → Ticks mail x mail' x' a → Acts mail (ClientAt c x) mail' (ClientAt c x')
ticks c mail x mail' x' a low t =
    acts_by mail mail' (with_said mail t.list) (ClientAt c x) (ClientAt c x') t.post refl refl
    (λ w is all.
    let more = w.sent ++ from_clients t.list in
    let up : client_of w c ≡ Some t.client = ap (λ (y : ClientPlace). y.client) is ∙ t.was in
    past_a_client w c x x' more (with_said mail t.list) (step.Tick c) told.Done is t.now
    (places.ticked_steps w (record w { sent = more }) c t.client more low up refl (record { list = t.list; tick = t.tick; sent = refl }))
    (said_sent mail w.sent all t.list))

starts : (c : ℕ) (mail : Mail) (x : ClientPlace) (mail' : Mail) (x' : ClientPlace) (a : Answer) → c ≤ 63 → starting_refusal c x ≡ None → ClientStarts c mail x mail' x' a → Acts mail (ClientAt c x) mail' (ClientAt c x')
starts c mail x mail' x' a low due s =
    let list : List ToServer = says_hello (begun c (suc x.last_incarnation)) ∷ [] in
    acts_by mail mail' (with_said mail list) (ClientAt c x) (ClientAt c x') s.post refl refl
    (λ w is all.
    let more = w.sent ++ from_clients list in
    let began : Started c x x' w.sent more = record { none_due = due; place = s.now; sent = refl } in
    let v : State = record w { places = set_place w.places c x'; sent = more } in
    at_a_client w c x x' more (with_said mail list) (step.StartClient c) told.Done (places.started_steps w v c x' more low refl (subst (λ (y : ClientPlace). Started c y x' w.sent more) (sym is) began)) (said_sent mail w.sent all list))

crashes : (c : ℕ) (mail : Mail) (x : ClientPlace) (mail' : Mail) (x' : ClientPlace) (a : Answer) → c ≤ 63 → ClientCrashes mail x mail' x' a → Acts mail (ClientAt c x) mail' (ClientAt c x')
crashes c mail x mail' x' a low t = acts_by mail mail' mail (ClientAt c x) (ClientAt c x') t.post refl refl
    (λ w is all.
    let up : client_of w c ≡ Some t.client = ap (λ (y : ClientPlace). y.client) is ∙ t.was in
    let v : State = gone w c None w.sent in
    let is' : down_at (w.places c).last_incarnation ≡ x' =
    ap (λ (y : ClientPlace). down_at y.last_incarnation) is ∙ sym t.now in
    let e : v ≡ record w { places = set_place w.places c x'; sent = w.sent } = λ t. record w { places = set_place w.places c (is' t); sent = w.sent } in
    at_a_client w c x x' w.sent mail (step.CrashClient c) told.Done
    (subst (λ (u : State). Steps w (step.CrashClient c) (Ok told.Done) u) e (places.crashed_steps w v c t.client low up refl)) all)

-- The server

-- a number that is not refused
low_of : (c : ℕ) (r : Option Refused) → of_client c r ≡ None → c ≤ 63
low_of c r e = by_test (nat_lt 63 c) refl e
  where
    by_test : (t : Bool) → nat_lt 63 c ≡ t → cond t (Some refused.BadClient) r ≡ None → c ≤ 63
    by_test true i f = absurd (cc)
    by_test false i f = let x = ltb-false 63 c i in omega arith

nudges : (c : ℕ) (mail : Mail) (d : ServerPlace) (mail' : Mail) (d' : ServerPlace) → server_due (to_server.Nudge c) d ≡ None → Nudges c mail d mail' d' → Acts mail (ServerAt d) mail' (ServerAt d')
nudges c mail d mail' d' due r = acts_by mail mail' (with_sent mail (serving.nudge r.server c)) (ServerAt d) (ServerAt d') r.post refl refl
    (λ w is all.
    let more = w.sent ++ from_server (serving.nudge r.server c) in
    let e : record w { server = d'; sent = more } ≡ record w { sent = more } = λ t. record w { server = (r.now ∙ sym is) t; sent = more } in
    at_the_server w d d' more w.writes (with_sent mail (serving.nudge r.server c)) (step.Nudge c) told.Done is
    (server.nudged_steps w (record w { server = d'; sent = more }) c r.server more (low_of c (server_down d) due) (is ∙ r.was) e refl)
    (sent_sent mail w.sent all (serving.nudge r.server c)))

server_crashes : (mail : Mail) (d : ServerPlace) (mail' : Mail) (d' : ServerPlace) → Crashes mail d mail' d' → Acts mail (ServerAt d) mail' (ServerAt d')
server_crashes mail d mail' d' r = acts_by mail mail' mail (ServerAt d) (ServerAt d') r.post refl refl
    (λ w is all.
    at_the_server w d d' w.sent w.writes mail step.CrashServer told.Done is
    (server.crashed_steps w (record w { server = d' }) r.server (is ∙ r.was) (λ t. record w { server = r.now t })) all)

can_start : (d : Durable) (b : Bool) → serving.can_start d ≡ b → cond b None (Some refused.Spent) ≡ None → serving.can_start d ≡ true
can_start d true e h = e
can_start d false e h = absurd (cc)

server_starts : (mail : Mail) (d : ServerPlace) (mail' : Mail) (d' : ServerPlace) → server_due to_server.Start d ≡ None → Starts mail d mail' d' → Acts mail (ServerAt d) mail' (ServerAt d')
server_starts mail d mail' d' due r = acts_by mail mail' mail (ServerAt d) (ServerAt d') r.post refl refl
    (λ w is all.
    let can = can_start r.durable (serving.can_start r.durable) refl (subst (λ (x : ServerPlace). server_due to_server.Start x ≡ None) r.was due) in
    at_the_server w d d' w.sent w.writes mail step.StartServer told.Done is
    (server.started_steps w (record w { server = d' }) r.durable (serving.start r.durable) (is ∙ r.was) can refl (λ t. record w { server = r.now t })) all)

-- Orders

-- the same letters, or fewer
as_many : (mail mail' : Mail) → mail' ≡ mail → HasNoMore mail mail'
as_many mail mail' e = record {
  opening = ap (λ (m : Mail). m.opening) e;
  chairs = ap (λ (m : Mail). m.chairs) e;
  letters = λ sent all. subst (λ (m : Mail). AllSent m sent) (sym e) all;
}

fewer : (mail mail' post : Mail) → mail' ≡ post → post.opening ≡ mail.opening → post.chairs ≡ mail.chairs → ((sent : List Message) → AllSent mail sent → AllSent post sent) → HasNoMore mail mail'
fewer mail mail' post e opening chairs f = record {
  opening = ap (λ (m : Mail). m.opening) e ∙ opening;
  chairs = ap (λ (m : Mail). m.chairs) e ∙ chairs;
  letters = λ sent all. subst (λ (m : Mail). AllSent m sent) (sym e) (f sent all);
}

rests : {A : Type 0} (f : A → Shown) (mail : Mail) (a : A) (mail' : Mail) (a' : A) → IsSame mail a mail' a' → Change mail (f a) mail' (f a')
rests f mail a mail' a' s = inl (as_many mail mail' s.post, ap f s.node)

server_acts : (p : Pick) (o : ServerOrder) (mail : Mail) (d : ServerPlace) (mail' : Mail) (d' : ServerPlace) → server_due o d ≡ None → ServerDoes p o mail d mail' d' → Acts mail (ServerAt d) mail' (ServerAt d')
server_acts p to_server.Letter mail d mail' d' due h = server_takes p mail d mail' d' h
server_acts p (to_server.Nudge c) mail d mail' d' due h = nudges c mail d mail' d' due h
server_acts p to_server.Crash mail d mail' d' due h = server_crashes mail d mail' d' h
server_acts p to_server.Start mail d mail' d' due h = server_starts mail d mail' d' due h

server_lets : (p : Pick) (o : ServerOrder) (mail : Mail) (d : ServerPlace) (mail' : Mail) (d' : ServerPlace) → ServerLets p o mail d mail' d' → Change mail (ServerAt d) mail' (ServerAt d')
server_lets p to_server.Letter mail d mail' d' h = inl (fewer mail mail' (with_to_server mail (left_by p mail.to_server)) h.post refl refl (λ sent all. left_server mail sent all p), ap ServerAt h.node)
server_lets p (to_server.Nudge c) mail d mail' d' h = absurd h
server_lets p to_server.Crash mail d mail' d' h = absurd h
server_lets p to_server.Start mail d mail' d' h = absurd h

pub server_change : (p : Pick) (o : ServerOrder) (mail : Mail) (d : ServerPlace) (mail' : Mail) (d' : ServerPlace) (r : Result Turn Refused) → ServerActs p o mail d mail' d' r → Change mail (ServerAt d) mail' (ServerAt d')
server_change p o mail d mail' d' (Ok (Did a)) h = inr (inl (server_acts p o mail d mail' d' h.1 h.2))
server_change p o mail d mail' d' (Ok Idle) h = rests ServerAt mail d mail' d' h.1
server_change p o mail d mail' d' (Ok Lost) h = server_lets p o mail d mail' d' h
server_change p o mail d mail' d' (Err e) h = rests ServerAt mail d mail' d' h.1

client_acts : (p : Pick) (c : ℕ) → c ≤ 63 → (o : ClientOrder) (mail : Mail) (x : ClientPlace) (mail' : Mail) (x' : ClientPlace) (a : Answer) → client_due o c x ≡ None → ClientDoes p o c mail x mail' x' a → Acts mail (ClientAt c x) mail' (ClientAt c x')
client_acts p c low to_client.Letter mail x mail' x' a due h = client_takes p c mail x mail' x' h.1
client_acts p c low (to_client.Command what) mail x mail' x' a due h = obeys c what a mail x mail' x' low x.client refl h.list h.obeyed h.last_incarnation h.post
client_acts p c low to_client.Tick mail x mail' x' a due h = ticks c mail x mail' x' a low h
client_acts p c low to_client.Start mail x mail' x' a due h = starts c mail x mail' x' a low due h
client_acts p c low to_client.Crash mail x mail' x' a due h = crashes c mail x mail' x' a low h

client_lets : (p : Pick) (c : ℕ) (o : ClientOrder) (mail : Mail) (x : ClientPlace) (mail' : Mail) (x' : ClientPlace) → ClientLets p o c mail x mail' x' → Change mail (ClientAt c x) mail' (ClientAt c x')
client_lets p c to_client.Letter mail x mail' x' h = inl (fewer mail mail' (with_to_client mail c (left_by p (letters_to c mail))) h.post refl refl (λ sent all. left_client mail sent all p c), ap (ClientAt c) h.node)
client_lets p c (to_client.Command what) mail x mail' x' h = absurd h
client_lets p c to_client.Tick mail x mail' x' h = absurd h
client_lets p c to_client.Start mail x mail' x' h = absurd h
client_lets p c to_client.Crash mail x mail' x' h = absurd h

pub client_change : (p : Pick) (c : ℕ) → c ≤ 63 → (o : ClientOrder) (mail : Mail) (x : ClientPlace) (mail' : Mail) (x' : ClientPlace) (r : Result Turn Refused) → ClientActs p o c mail x mail' x' r → Change mail (ClientAt c x) mail' (ClientAt c x')
client_change p c low o mail x mail' x' (Ok (Did a)) h = inr (inl (client_acts p c low o mail x mail' x' a h.0 h.1))
client_change p c low o mail x mail' x' (Ok Idle) h = rests (ClientAt c) mail x mail' x' h.1
client_change p c low o mail x mail' x' (Ok Lost) h = client_lets p c o mail x mail' x' h
client_change p c low o mail x mail' x' (Err e) h = rests (ClientAt c) mail x mail' x' h.1
