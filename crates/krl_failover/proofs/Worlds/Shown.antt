-- A world over one fenced store shows in the machine of many servers, and so does the world that each move makes of it.
use Rattle.std.proofs.Common.{◌≡◌, ◌≢◌, ℕ, ◌≤◌, ◌∙◌, ⊎_elim, Bool, true, false, Option, Some, List, [], ◌++◌, refl, sym, ap, subst, arith, nat_eq, if◌then◌else◌}
use Rattle.std.proofs.lemmas.Bool.{eqb-true, eqb-false}
use Rattle.std.proofs.lemmas.Option.{same_Some}
use Rattle.krl_messages.specs.declared.to_server.ToServer.{ToServer}
use Rattle.krl_messages.specs.declared.to_client.ToClient.{ToClient}
use Rattle.krl_messages.specs.Members.{In}
use Rattle.krl_messages.proofs.Members.{in_both}
use Rattle.krl_messages.specs.Values.{Value}
use Rattle.krl_durable.specs.declared.limits.Limits.{Limits}
use Rattle.krl_durable.specs.Limits.{sized}
use Rattle.krl_machine.specs.Links.{Link}
use Rattle.krl_machine.specs.Worlds.{Logged}
use Rattle.krl_server.specs.Servers.{Server}
use Rattle.krl_server.specs.Cases.{case_of}
use Rattle.krl_server.specs.Steps.{ServerStep, nudge, crash, start, can_start}
use Rattle.krl_server.specs.Soundness.{IsSound}
use Rattle.krl_steps.specs.declared.applied_write.AppliedWrite.{AppliedWrite}
use Rattle.krl_refinement.specs.Messages.{Stands, WasSent}
use Rattle.krl_refinement.specs.Client.Shows.{Grows, ShowsPlace, Leads}
use Rattle.krl_refinement.specs.Server.AsLinks.{Shows, view, logged}
use Rattle.krl_refinement.proofs.Messages.{from_stands, stands_stays, sent_stays}
use Rattle.krl_failover.specs.Fenced.{Fenced}
use Rattle.krl_failover.specs.OldShows.{ShowsOld}
use Rattle.krl_failover.specs.Follows.{Mirrors}
use Rattle.krl_failover.proofs.Refinement.Epochs.{step_epoch_same}
use Rattle.krl_failover.proofs.Refinement.Follows.{store_follows, clients_follow}
use Rattle.krl_failover.proofs.Refinement.OldServers.{old_follow}
use Rattle.krl_world.specs.declared.message.Message.TheVariants as message
use Rattle.krl_world.specs.States.{ServerPlace, Up, Down, ClientPlace, State, durable_of, from_clients, from_server, seated, served}
use Rattle.krl_world.specs.Steps.{applies}
use Rattle.krl_world.proofs.Refinement.Mirrors as one
use Rattle.krl_world.proofs.Refinement.Mirrors.{shared_of, ServerShows, oldest_first, in_from_clients, not_from_clients, in_from_server, not_from_server}
use Rattle.krl_world.proofs.Refinement.Serves.{place_stays, nil_right, case_log}
use Rattle.krl_world.proofs.Refinement.Calling.{AreCalled, step_called, nudge_called}
use Rattle.krl_world.proofs.Refinement.Openings.{first_of}
use Rattle.krl_failover.specs.Worlds.{FencedWorld, set_old}

-- the store's server, every message, each place and each old server show in the machine of many servers
pub record Shown (w : FencedWorld) : Type 0 where
  pub store : Server
  pub up : w.world.server ≡ Up store
  pub fenced : Fenced
  pub of : ℕ → Link
  pub log : List Logged
  pub mirrors : Mirrors (first_of w.world.opening) fenced store of log
  pub world : one.Mirrors w.world of log
  pub old : (e : ℕ) (x : Server) → w.old e ≡ Some x → (x.durable.epoch ≡ e) × ShowsOld x fenced × IsSound x

-- Messages and places, if the links grow and the clients stay

module _ (w : State) (n : ServerPlace) (of to : ℕ → Link) (log log' : List Logged) (outs : List ToClient) (writes : List AppliedWrite) (h : one.Mirrors w of log) (grows : (c : ℕ) → Grows (of c) (to c)) (clients : (c : ℕ) → (to c).client ≡ (of c).client) (sent : (o : ToClient) → In o outs → WasSent (to o.client) o.incarnation o.body) (shows : ServerShows n to) (wrote : oldest_first log ++ writes ≡ oldest_first log') (later : (durable_of w.server).epoch ≤ (durable_of n).epoch) (called : AreCalled (durable_of n).epoch outs) where
  served_mirrors : one.Mirrors (served w n outs writes) to log'
  served_mirrors = record {
    places = λ c. place_stays c (w.places c).last_incarnation (w.places c).client (of c) (to c) (clients c) (h.places c);
    from = λ m i. ⊎_elim (λ (x : In (message.ToServer m) w.sent). stands_stays (of m.client) (to m.client) (grows m.client) m.incarnation m.body (h.from m x))
        (λ (y : In (message.ToServer m) (from_server outs)). absurd (not_from_server m outs y)) (in_both w.sent (from_server outs) (message.ToServer m) i);
    to = λ m i. ⊎_elim (λ (x : In (message.ToClient m) w.sent). sent_stays (of m.client) (to m.client) (grows m.client) m.incarnation m.body (h.to m x))
        (λ (y : In (message.ToClient m) (from_server outs)). sent m (in_from_server m outs y)) (in_both w.sent (from_server outs) (message.ToClient m) i);
    called = λ m i. ⊎_elim (λ (x : In (message.ToClient m) w.sent). let y = h.called m x in omega (arith, y, later))
        (λ (y : In (message.ToClient m) (from_server outs)). called m (in_from_server m outs y)) (in_both w.sent (from_server outs) (message.ToClient m) i);
    server = shows;
    writes = ap (λ ws. ws ++ writes) h.writes ∙ wrote;
  }

-- the epoch of the store, in its three places
epoch_is : (w : FencedWorld) (h : Shown w) → h.fenced.world.shared.epoch ≡ h.store.durable.epoch
epoch_is w h = ap (λ x. x.shared.epoch) h.mirrors.world

up_epoch : (w : FencedWorld) (h : Shown w) → (durable_of w.world.server).epoch ≡ h.store.durable.epoch
up_epoch w h = ap (λ n. (durable_of n).epoch) h.up

pub same_up : (s t : Server) → Up s ≡ Up t → s ≡ t
same_up s t e = ap (server_of s) e
  where
    server_of : Server → ServerPlace → Server
    server_of x (Up y) = y
    server_of x (Down d) = x

-- The store's server

-- it reads a message
pub reads_shown : (w : FencedWorld) (h : Shown w) (t : Server) (m : ToServer) (outs : List ToClient) → In (message.ToServer m) w.world.sent → ServerStep h.store m t outs → Shown (record w { world = served w.world (Up t) outs (applies m (case_of h.store m)) })
reads_shown w h t m outs at step =
    let s = h.store in
    let r = store_follows.step (first_of w.world.opening) h.fenced s t h.of h.log m outs h.mirrors (h.world.from m at) step in
    let x = r.0 in
    let same = step_epoch_same s t m outs step in
    record {
      store = t;
      up = refl;
      fenced = x.fenced;
      of = x.after;
      log = logged m (case_of s m) h.log;
      mirrors = x.mirrors;
      world = served_mirrors w.world (Up t) h.of x.after h.log (logged m (case_of s m) h.log) outs (applies m (case_of s m)) h.world x.grows x.clients x.sent (x.mirrors.shows, x.mirrors.sound) (case_log m (case_of s m) h.log)
          (let e = up_epoch w h in omega (arith, e, same)) (step_called s t m outs step);
      old = λ e y is. let k = h.old e y is in (k.0, r.1.2 y k.2 k.1, k.2);
    }

-- it is nudged
pub nudged_shown : (w : FencedWorld) (h : Shown w) (c : ℕ) → Shown (record w { world = served w.world (Up h.store) (nudge h.store c) [] })
nudged_shown w h c =
    let s = h.store in
    let r = store_follows.nudge (first_of w.world.opening) h.fenced s h.of h.log c h.mirrors in
    let x = r.0 in
    record {
      store = s;
      up = refl;
      fenced = x.fenced;
      of = x.after;
      log = h.log;
      mirrors = x.mirrors;
      world = served_mirrors w.world (Up s) h.of x.after h.log h.log (nudge s c) [] h.world x.grows x.clients x.sent (x.mirrors.shows, x.mirrors.sound) (nil_right (oldest_first h.log))
          (let e = up_epoch w h in omega (arith, e)) (nudge_called s c);
      old = λ e y is. let k = h.old e y is in (k.0, r.1.2 y k.2 k.1, k.2);
    }

-- the old server of that epoch, and the others
old_cases : (P : ℕ → Server → Type 0) (old : ℕ → Option Server) (epoch : ℕ) (s : Server) → P epoch s → ((e : ℕ) (x : Server) → e ≢ epoch → old e ≡ Some x → P e x) → (e : ℕ) (x : Server) → set_old old epoch s e ≡ Some x → P e x
old_cases P old epoch s here rest e x = by_test (nat_eq e epoch) refl
  where
    by_test : (b : Bool) → nat_eq e epoch ≡ b → (if b then Some s else old e) ≡ Some x → P e x
    by_test true same is = subst (P e) (same_Some s x is) (subst (λ y. P y s) (sym (eqb-true e epoch same)) here)
    by_test false other is = rest e x (eqb-false e epoch other) is

-- the machine sees no limits

abbrev sized_server : Limits → Server → Server
sized_server l s = record s { durable = sized l s.durable }

mirrors_sized : (l : Limits) (first : ℕ → Option Value) (f : Fenced) (s : Server) (of : ℕ → Link) (log : List Logged) → Mirrors first f s of log → Mirrors first f (sized_server l s) of log
mirrors_sized l first f s of log m = record {
  reached = m.reached;
  world = m.world;
  shows = record { link = m.shows.link; heard = m.shows.heard };
  sound = record { near = m.sound.near; begun = m.sound.begun; strangers = m.sound.strangers; placed = m.sound.placed; clients = m.sound.clients };
  empty = m.empty;
  blank = m.blank;
}

old_of_sized : (l : Limits) (s : Server) (f : Fenced) → ShowsOld (sized_server l s) f → ShowsOld s f
old_of_sized l s f x = record { old = x.old; copy = x.copy; link = x.link; heard = x.heard; serves = x.serves; rows = x.rows; recovers = x.recovers; rebuilds = x.rebuilds }

-- a server starts, and this one is old
pub starts_shown : (w : FencedWorld) (h : Shown w) (s : Server) (l : Limits) → w.world.server ≡ Up s → can_start (crash s) ≡ true → Shown (record { world = served w.world (Up (start (sized l (crash s)))) [] []; old = set_old w.old s.durable.epoch s })
starts_shown w h s l up can =
    let is : h.store ≡ s = same_up h.store s (sym h.up ∙ up) in
    let mirrors = subst (λ x. Mirrors (first_of w.world.opening) h.fenced x h.of h.log) is h.mirrors in
    let r = store_follows.start (first_of w.world.opening) h.fenced (sized_server l s) h.of h.log (mirrors_sized l (first_of w.world.opening) h.fenced s h.of h.log mirrors) can in
    let x = r.0 in
    record {
      store = start (sized l (crash s));
      up = refl;
      fenced = x.fenced;
      of = x.after;
      log = h.log;
      mirrors = x.mirrors;
      world = served_mirrors w.world (Up (start (sized l (crash s)))) h.of x.after h.log h.log [] [] h.world x.grows x.clients (λ o i. absurd i) (x.mirrors.shows, x.mirrors.sound) (nil_right (oldest_first h.log))
          (let e = ap (λ n. (durable_of n).epoch) up in omega (arith, e)) (λ o i. absurd i);
      old = old_cases (λ e y. (y.durable.epoch ≡ e) × ShowsOld y x.fenced × IsSound y) w.old s.durable.epoch s
          (refl, old_of_sized l s x.fenced r.1.shows, mirrors.sound)
          (λ e y ne at. let k = h.old e y at in (k.0, r.1.others y k.2 k.1, k.2));
    }

-- An old server

module _ (w : FencedWorld) (h : Shown w) (epoch : ℕ) (s : Server) (is : w.old epoch ≡ Some s) where
  abbrev of_old : (s.durable.epoch ≡ epoch) × ShowsOld s h.fenced × IsSound s
  of_old = h.old epoch s is

  -- its epoch is below the store's
  below : s.durable.epoch ≤ (durable_of w.world.server).epoch
  below = let a = of_old.1.old in let b = epoch_is w h in let e = up_epoch w h in omega (arith, a, b, e)

  lower_calls : (outs : List ToClient) → AreCalled s.durable.epoch outs → AreCalled (durable_of w.world.server).epoch outs
  lower_calls outs called o i = let x = called o i in omega (arith, x, below)

  -- the server of the store stays
  stays_up : (to : ℕ → Link) → Shows h.store to → IsSound h.store → ServerShows w.world.server to
  stays_up to shows sound = subst (λ n. ServerShows n to) (sym h.up) (shows, sound)

  pub old_reads_shown : (t : Server) (m : ToServer) (outs : List ToClient) → In (message.ToServer m) w.world.sent → ServerStep s m t outs → t.durable ≡ s.durable → Shown (record { world = served w.world w.world.server outs []; old = set_old w.old epoch t })
  old_reads_shown t m outs at step kept =
      let x = old_follow.step (first_of w.world.opening) h.fenced h.store s t h.of h.log m outs h.mirrors of_old.1 of_old.2 (h.world.from m at) step kept in
      record {
        store = h.store;
        up = h.up;
        fenced = x.fenced;
        of = x.after;
        log = h.log;
        mirrors = x.mirrors;
        world = served_mirrors w.world w.world.server h.of x.after h.log h.log outs [] h.world x.grows x.clients x.sent (stays_up x.after x.mirrors.shows x.mirrors.sound) (nil_right (oldest_first h.log)) (omega arith)
            (lower_calls outs (subst (λ d. AreCalled d.epoch outs) kept (step_called s t m outs step)));
        old = old_cases (λ e y. (y.durable.epoch ≡ e) × ShowsOld y x.fenced × IsSound y) w.old epoch t
            (ap (λ d. d.epoch) kept ∙ of_old.0, x.shows, x.sound)
            (λ e y ne i. let k = h.old e y i in (k.0, x.others y (λ z. ne (sym k.0 ∙ z ∙ of_old.0)) k.1, k.2));
      }

  pub old_nudged_shown : (c : ℕ) → Shown (record { world = served w.world w.world.server (nudge s c) []; old = w.old })
  old_nudged_shown c =
      let x = old_follow.nudge (first_of w.world.opening) h.fenced h.store s h.of h.log c h.mirrors of_old.1 of_old.2 in
      record {
        store = h.store;
        up = h.up;
        fenced = x.fenced;
        of = x.after;
        log = h.log;
        mirrors = x.mirrors;
        world = served_mirrors w.world w.world.server h.of x.after h.log h.log (nudge s c) [] h.world x.grows x.clients x.sent (stays_up x.after x.mirrors.shows x.mirrors.sound) (nil_right (oldest_first h.log)) (omega arith)
            (lower_calls (nudge s c) (nudge_called s c));
        old = λ e y i. by_epoch e y i (nat_eq e epoch) refl;
      }
    where
      by_epoch : (e : ℕ) (y : Server) → w.old e ≡ Some y → (b : Bool) → nat_eq e epoch ≡ b → (y.durable.epoch ≡ e) × ShowsOld y (old_follow.nudge (first_of w.world.opening) h.fenced h.store s h.of h.log c h.mirrors of_old.1 of_old.2).fenced × IsSound y
      by_epoch e y i true t =
          let x = old_follow.nudge (first_of w.world.opening) h.fenced h.store s h.of h.log c h.mirrors of_old.1 of_old.2 in
          let same : s ≡ y = same_Some s y (sym is ∙ sym (ap w.old (eqb-true e epoch t)) ∙ i) in
          let k = h.old e y i in
          (k.0, subst (λ z. ShowsOld z x.fenced) same x.shows, k.2)
      by_epoch e y i false f =
          let x = old_follow.nudge (first_of w.world.opening) h.fenced h.store s h.of h.log c h.mirrors of_old.1 of_old.2 in
          let k = h.old e y i in
          (k.0, x.others y (λ z. eqb-false e epoch f (sym k.0 ∙ z ∙ of_old.0)) k.1, k.2)

-- A client

pub client_shown : (w : FencedWorld) (h : Shown w) (c : ℕ) (x : ClientPlace) (ms : List ToServer) → Leads (shared_of w.world.server) (h.of c) c x.last_incarnation x.client ms → Shown (record w { world = seated w.world c x ms })
client_shown w h c x ms leads =
    let g : Leads (view h.store) (h.of c) c x.last_incarnation x.client ms = subst (λ n. Leads (shared_of n) (h.of c) c x.last_incarnation x.client ms) h.up leads in
    let r = clients_follow (first_of w.world.opening) h.fenced h.store h.of h.log c x.last_incarnation x.client ms h.mirrors g in
    record {
      store = h.store;
      up = h.up;
      fenced = r.fenced;
      of = r.after;
      log = h.log;
      mirrors = r.mirrors;
      world = record {
        places = λ d. place_by d r.after r.place r.others (nat_eq d c) refl;
        from = λ m i. ⊎_elim (λ (a : In (message.ToServer m) w.world.sent). stands_stays (h.of m.client) (r.after m.client) (r.grows m.client) m.incarnation m.body (h.world.from m a))
            (λ (b : In (message.ToServer m) (from_clients ms)). let at = in_from_clients m ms b in subst (λ d. Stands (r.after d) m.incarnation m.body) (sym (g.mine m at)) (from_stands (r.after c) m.incarnation m.body (r.told m at)))
            (in_both w.world.sent (from_clients ms) (message.ToServer m) i);
        to = λ m i. ⊎_elim (λ (a : In (message.ToClient m) w.world.sent). sent_stays (h.of m.client) (r.after m.client) (r.grows m.client) m.incarnation m.body (h.world.to m a))
            (λ (b : In (message.ToClient m) (from_clients ms)). absurd (not_from_clients m ms b)) (in_both w.world.sent (from_clients ms) (message.ToClient m) i);
        called = λ m i. ⊎_elim (λ (a : In (message.ToClient m) w.world.sent). h.world.called m a) (λ (b : In (message.ToClient m) (from_clients ms)). absurd (not_from_clients m ms b)) (in_both w.world.sent (from_clients ms) (message.ToClient m) i);
        server = subst (λ n. ServerShows n r.after) (sym h.up) (r.mirrors.shows, r.mirrors.sound);
        writes = h.world.writes;
      };
      old = λ e y is. let k = h.old e y is in (k.0, r.old.2 y k.2 k.1, k.2);
    }
  where
    place_by : (d : ℕ) (after : ℕ → Link) → ShowsPlace c x.last_incarnation x.client (after c) → ((d : ℕ) → d ≢ c → after d ≡ h.of d) → (t : Bool) → nat_eq d c ≡ t → ShowsPlace d (if t then x else w.world.places d).last_incarnation (if t then x else w.world.places d).client (after d)
    place_by d after place others true e = subst (λ y. ShowsPlace y x.last_incarnation x.client (after y)) (sym (eqb-true d c e)) place
    place_by d after place others false e = subst (ShowsPlace d (w.world.places d).last_incarnation (w.world.places d).client) (sym (others d (eqb-false d c e))) (h.world.places d)
