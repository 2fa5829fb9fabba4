-- A world, and the machine's world that shows it. A client's step is steps of the machine.
use Rattle.krl_world.proofs.Names.{◌≡◌, ℕ, ◌≤◌, Bool, true, false, cond, List, [], ◌∷◌, ◌++◌, inl, inr, refl, sym, ap, subst, ⊎_elim, nat_eq, if◌then◌else◌, eqb-true}
use Rattle.krl_world.proofs.Names.{ToServer, ToClient, WriteOp, In, in_both, Op, Shared, Link, start, Stands, WasSent, Shows, view, view_of}
use Rattle.krl_world.proofs.Names.{DurableShows, Grows, server_part, ShowsPlace, Leads, AppliedWrite, ServerPlace, Up, Down, ClientPlace, State, durable_of, is_serving, from_clients, from_server}
use Rattle.krl_world.proofs.Names.{seated, BoundStays, from_stands, stands_stays, sent_stays}
use Rattle.krl_messages.specs.declared.write_op.WriteOp.TheVariants as write
use Rattle.krl_machine.specs.Links as links
use Rattle.krl_machine.specs.Worlds as machine
use Rattle.krl_machine.specs.Worlds.{Logged, Steps}
use Rattle.krl_machine.proofs.Steps.{put, put_changed, link_steps}
use Rattle.krl_server.specs.Soundness.{IsSound}
use Rattle.krl_refinement.proofs.Server.Stays.{record_stays, shows_stays, put_grows, put_part}
use Rattle.krl_world.specs.declared.message.Message.TheVariants as message
use Rattle.krl_world.proofs.Refinement.Calling.{epoch_called}

-- The machine's world

abbrev pub shared_of : ServerPlace → Shared
shared_of (Up s) = view s
shared_of (Down d) = view_of d links.Down

abbrev pub machine_of : ServerPlace → (ℕ → Link) → List Logged → machine.World
machine_of n of log = record { shared = shared_of n; links = of; log = log }

abbrev pub ServerShows : ServerPlace → (ℕ → Link) → Type 0
ServerShows (Up s) of = Shows s of × IsSound s
ServerShows (Down d) of = DurableShows d of × IsSound (start d)

abbrev pub op_back : Op → WriteOp
op_back (links.Insert k v) = write.Insert k v
op_back (links.Put k v) = write.Put k v
op_back (links.Delete k) = write.Delete k

abbrev pub as_applied : Logged → AppliedWrite
as_applied e = record { client = e.client; incarnation = e.wrote.inc; number = e.wrote.number; op = op_back e.wrote.op }

-- the machine keeps its list the last first
abbrev pub oldest_first : List Logged → List AppliedWrite
oldest_first [] = []
oldest_first (e ∷ es) = oldest_first es ++ (as_applied e ∷ [])

-- each place, each message, the server and the writes show in the links and the log
pub record Mirrors (w : State) (of : ℕ → Link) (log : List Logged) : Type 0 where
  pub places : (c : ℕ) → ShowsPlace c (w.places c).last_incarnation (w.places c).client (of c)
  pub from : (m : ToServer) → In (message.ToServer m) w.sent → Stands (of m.client) m.incarnation m.body
  pub to : (m : ToClient) → In (message.ToClient m) w.sent → WasSent (of m.client) m.incarnation m.body
  pub called : (m : ToClient) → In (message.ToClient m) w.sent → epoch_called m.body ≤ (durable_of w.server).epoch
  pub server : ServerShows w.server of
  pub writes : w.writes ≡ oldest_first log

-- if the machine goes with a step, from a world with this server
pub record Goes (n : ServerPlace) (v : State) (gone : ℕ → Bool) (of : ℕ → Link) (log : List Logged) : Type 0 where
  pub after : ℕ → Link
  pub log_after : List Logged
  pub steps : Steps (machine_of n of log) (machine_of v.server after log_after)
  pub mirrors : Mirrors v after log_after
  pub bound : is_serving v.server ≡ false → (c : ℕ) → BoundStays (gone c) (of c) (after c)

-- Lists of messages

pub in_from_clients : (m : ToServer) (ms : List ToServer) → In (message.ToServer m) (from_clients ms) → In m ms
in_from_clients m [] h = absurd h
in_from_clients m (x ∷ ms) (inl e) = inl (cc)
in_from_clients m (x ∷ ms) (inr h) = inr (in_from_clients m ms h)

pub not_from_clients : (m : ToClient) (ms : List ToServer) → In (message.ToClient m) (from_clients ms) → ⊥
not_from_clients m [] h = h
not_from_clients m (x ∷ ms) (inl e) = cc
not_from_clients m (x ∷ ms) (inr h) = not_from_clients m ms h

pub in_from_server : (m : ToClient) (ms : List ToClient) → In (message.ToClient m) (from_server ms) → In m ms
in_from_server m [] h = absurd h
in_from_server m (x ∷ ms) (inl e) = inl (cc)
in_from_server m (x ∷ ms) (inr h) = inr (in_from_server m ms h)

pub not_from_server : (m : ToServer) (ms : List ToClient) → In (message.ToServer m) (from_server ms) → ⊥
not_from_server m [] h = h
not_from_server m (x ∷ ms) (inl e) = cc
not_from_server m (x ∷ ms) (inr h) = not_from_server m ms h

-- What a client's step leaves of the server

pub server_stays : (n : ServerPlace) (of to : ℕ → Link) → ((c : ℕ) → server_part (to c) ≡ server_part (of c)) → ((c : ℕ) → Grows (of c) (to c)) → ServerShows n of → ServerShows n to
server_stays (Up s) of to e g h = (shows_stays s of to e g h.0, h.1)
server_stays (Down d) of to e g h = (λ c. record_stays _ (of c) (to c) (e c) (h.0 c), h.1)

pub bound_same : (l m : Link) → server_part m ≡ server_part l → BoundStays false l m
bound_same l m e = record { range = λ p. ap (λ x. x.top_range p) e; key = λ p. ap (λ x. x.top_key p) e }

-- a place changes, and its client sends these
pub place_goes : (w : State) (of : ℕ → Link) (log : List Logged) (c : ℕ) (x : ClientPlace) (ms : List ToServer) → Mirrors w of log → Leads (shared_of w.server) (of c) c x.last_incarnation x.client ms → Goes w.server (seated w c x ms) (λ d. false) of log
place_goes w of log c x ms h g = record {
  after = to;
  log_after = log;
  steps = link_steps (shared_of w.server) log c (of c) g.link of to refl g.steps ch;
  mirrors = record {
    places = λ d. place_by d (nat_eq d c) refl;
    from = λ m i. ⊎_elim (λ (a : In (message.ToServer m) w.sent). stands_stays (of m.client) (to m.client) (grows m.client) m.incarnation m.body (h.from m a))
        (λ (b : In (message.ToServer m) (from_clients ms)). told_by m (in_from_clients m ms b)) (in_both w.sent (from_clients ms) (message.ToServer m) i);
    to = λ m i. ⊎_elim (λ (a : In (message.ToClient m) w.sent). sent_stays (of m.client) (to m.client) (grows m.client) m.incarnation m.body (h.to m a))
        (λ (b : In (message.ToClient m) (from_clients ms)). absurd (not_from_clients m ms b)) (in_both w.sent (from_clients ms) (message.ToClient m) i);
    called = λ m i. ⊎_elim (λ (a : In (message.ToClient m) w.sent). h.called m a) (λ (b : In (message.ToClient m) (from_clients ms)). absurd (not_from_clients m ms b)) (in_both w.sent (from_clients ms) (message.ToClient m) i);
    server = server_stays w.server of to same grows h.server;
    writes = h.writes;
  };
  bound = λ n d. bound_same (of d) (to d) (same d);
}
  where
    to : ℕ → Link
    to = put of c g.link

    ch : machine.Changed of to c g.link
    ch = put_changed of c g.link

    grows : (d : ℕ) → Grows (of d) (to d)
    grows = put_grows of c g.link g.grows

    same : (d : ℕ) → server_part (to d) ≡ server_part (of d)
    same = put_part of c g.link g.same

    told_by : (m : ToServer) → In m ms → Stands (to m.client) m.incarnation m.body
    told_by m i = subst (λ d. Stands (to d) m.incarnation m.body) (sym (g.mine m i)) (subst (λ l. Stands l m.incarnation m.body) (sym ch.here) (from_stands g.link m.incarnation m.body (g.told m i)))

    place_by : (d : ℕ) (t : Bool) → nat_eq d c ≡ t → ShowsPlace d (if t then x else w.places d).last_incarnation (if t then x else w.places d).client (cond t g.link (of d))
    place_by d true e = subst (λ y. ShowsPlace y x.last_incarnation x.client g.link) (sym (eqb-true d c e)) g.place
    place_by d false e = h.places d
