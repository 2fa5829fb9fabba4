-- The machine follows a change of the server; and how to put such changes together.
use Rattle.krl_refinement.proofs.Names.{◌≡◌, ◌≢◌, ℕ, Bool, true, false, not, Option, Some, None, List, [], ◌∷◌, inl, inr, refl, sym, ap, subst, ◌∙◌, RangePart, KeyPart, ToClient, In, Waiter, Record}
use Rattle.krl_refinement.proofs.Names.{record_of, range_at, key_at, Shared, Link, LinkSteps, Logged, Steps, none, eq_cases, steps_on, put, put_changed, link_steps, Session, Server, is_recovering}
use Rattle.krl_refinement.proofs.Names.{lists, incarnation_or_0, Done, silent, with_session, session_here, session_other, WasSent, IsRecord, LinkIs, LinkShows, IsHeardOf, Shows, machine_phase, view}
use Rattle.krl_refinement.proofs.Names.{world_of, BoundStays, not_both}
use Rattle.krl_machine.specs.Links as links

-- the machine continues to a world that shows the server after it; the bounds of those for whom cleared is true become
-- N
pub record Goes (s : Server) (of : ℕ → Link) (log : List Logged) (cleared : ℕ → Bool) (done : Done) (log_after : List Logged) : Type 0 where
  pub after : ℕ → Link
  pub steps : Steps (world_of s of log) (world_of done.server after log_after)
  pub shows : Shows done.server after
  pub sent : (o : ToClient) → In o done.outs → WasSent (after o.client) o.incarnation o.body
  pub clients : (c : ℕ) → (after c).client ≡ (of c).client
  pub bound : is_recovering done.server.missing ≡ true → (c : ℕ) → BoundStays (cleared c) (of c) (after c)

pub bound_same : (b : Bool) (l : Link) → b ≡ false → BoundStays b l l
bound_same b l e = subst (λ x. BoundStays x l l) (sym e) (record { range = λ p. refl; key = λ p. refl })

-- nothing is done
pub stays : (s : Server) (of : ℕ → Link) (log : List Logged) (cleared : ℕ → Bool) → ((c : ℕ) → cleared c ≡ false) → Shows s of → Goes s of log cleared (silent s) log
stays s of log cleared not h = record { after = of; steps = none; shows = h; sent = λ o at. absurd at; clients = λ c. refl; bound = λ g c. bound_same (cleared c) (of c) (not c) }

-- one link is l, and the others are as they were
pub at_put : (P : ℕ → Link → Type 0) (of : ℕ → Link) (c : ℕ) (l : Link) → P c l → ((d : ℕ) → d ≢ c → P d (of d)) → (d : ℕ) → P d (put of c l d)
at_put P of c l here rest d = let ch = put_changed of c l in
    eq_cases d c (λ e. subst (λ x. P x (put of c l x)) (sym e) (subst (P c) (sym ch.here) here)) (λ ne. subst (P d) (sym (ch.rest d ne)) (rest d ne))

pub put_shows : (s t : Server) (of : ℕ → Link) (c : ℕ) (l : Link) → LinkShows t c l → ((d : ℕ) → d ≢ c → LinkShows s d (of d) → LinkShows t d (of d)) → Shows s of → ((n : ℕ) (u : Waiter) → In u (t.rows n).queue → IsHeardOf (view t) (put of c l u.client)) → Shows t (put of c l)
put_shows s t of c l here rest shows heard = record { link = at_put (LinkShows t) of c l here (λ d ne. rest d ne (shows.link d)); heard = heard }

pub put_client : (of : ℕ → Link) (c : ℕ) (l : Link) → l.client ≡ (of c).client → (d : ℕ) → (put of c l d).client ≡ (of d).client
put_client of c l e = at_put (λ d x. x.client ≡ (of d).client) of c l e (λ d ne. refl)

pub put_bound : (of : ℕ → Link) (c : ℕ) (l : Link) (cleared : ℕ → Bool) → BoundStays (cleared c) (of c) l → ((d : ℕ) → d ≢ c → cleared d ≡ false) → (d : ℕ) → BoundStays (cleared d) (of d) (put of c l d)
put_bound of c l cleared here not = at_put (λ d x. BoundStays (cleared d) (of d) x) of c l here (λ d ne. bound_same (cleared d) (of d) (not d ne))

-- the link of one client takes steps, and the server changes what concerns only this client
pub by_link : (s t : Server) (of : ℕ → Link) (log : List Logged) (cleared : ℕ → Bool) (c : ℕ) (l : Link) (outs : List ToClient) → view s ≡ view t → LinkSteps (view s) (of c) l → l.client ≡ (of c).client → (is_recovering t.missing ≡ true → BoundStays (cleared c) (of c) l) → (is_recovering t.missing ≡ true → (d : ℕ) → d ≢ c → cleared d ≡ false) → LinkShows t c l → ((d : ℕ) → d ≢ c → LinkShows s d (of d) → LinkShows t d (of d)) → Shows s of → ((n : ℕ) (u : Waiter) → In u (t.rows n).queue → IsHeardOf (view t) (put of c l u.client)) → ((o : ToClient) → In o outs → (o.client ≡ c) × WasSent l o.incarnation o.body) → Goes s of log cleared (record { server = t; outs = outs }) log
by_link s t of log cleared c l outs same steps client bound not here rest shows heard sent = record {
  after = put of c l;
  steps = subst (λ x. Steps (world_of s of log) (record { shared = x; links = put of c l; log = log })) same (link_steps (view s) log c (of c) l of (put of c l) refl steps (put_changed of c l));
  shows = put_shows s t of c l here rest shows heard;
  sent = λ o at. let h = sent o at in subst (λ x. WasSent x o.incarnation o.body) (sym (ap (put of c l) h.0 ∙ (put_changed of c l).here)) h.1;
  clients = put_client of c l client;
  bound = λ g. put_bound of c l cleared (bound g) (not g);
}

-- some steps, and then what the machine follows from there
pub steps_then : (s t : Server) (of mid : ℕ → Link) (log log' log'' : List Logged) (cleared : ℕ → Bool) (done : Done) → is_recovering done.server.missing ≡ false → ((c : ℕ) → (mid c).client ≡ (of c).client) → Steps (world_of s of log) (world_of t mid log') → Goes t mid log' cleared done log'' → Goes s of log cleared done log''
steps_then s t of mid log log' log'' cleared done up client a f = record {
  after = f.after;
  steps = steps_on a f.steps;
  shows = f.shows;
  sent = f.sent;
  clients = λ c. f.clients c ∙ client c;
  bound = λ g. absurd (not_both (is_recovering done.server.missing) g up);
}

pub one_out : (l : Link) (c : ℕ) (o : ToClient) → o.client ≡ c → WasSent l o.incarnation o.body → (x : ToClient) → In x (o ∷ []) → (x.client ≡ c) × WasSent l x.incarnation x.body
one_out l c o e h x (inl f) = subst (λ y. (y.client ≡ c) × WasSent l y.incarnation y.body) (sym f) (e, h)
one_out l c o e h x (inr f) = absurd f

pub one_sent : (of : ℕ → Link) (o : ToClient) → WasSent (of o.client) o.incarnation o.body → (x : ToClient) → In x (o ∷ []) → WasSent (of x.client) x.incarnation x.body
one_sent of o h x (inl f) = subst (λ y. WasSent (of y.client) y.incarnation y.body) (sym f) h
one_sent of o h x (inr f) = absurd f

-- Phases

pub up_phase : (cs : List ℕ) → machine_phase cs ≢ links.Down
up_phase [] e = absurd (cc)
up_phase (c ∷ cs) e = absurd (cc)

pub serving_phase : (cs : List ℕ) → is_recovering cs ≡ false → machine_phase cs ≡ links.Serving
serving_phase [] e = refl
serving_phase (c ∷ cs) e = absurd (cc)

pub not_recovering : (cs : List ℕ) → machine_phase cs ≡ links.Serving → is_recovering cs ≡ false
not_recovering [] e = refl
not_recovering (c ∷ cs) e = absurd (cc)

pub recovering_phase : (cs : List ℕ) → is_recovering cs ≡ true → machine_phase cs ≡ links.Recovering
recovering_phase [] e = absurd (cc)
recovering_phase (c ∷ cs) e = refl

-- a client that is missing is missing while the server recovers
pub listed_phase : (ms : List ℕ) (c : ℕ) → lists ms c ≡ true → machine_phase ms ≡ links.Recovering
listed_phase [] c e = absurd (cc)
listed_phase (d ∷ ds) c e = refl

pub not_two : (p : links.Phase) → p ≡ links.Serving → p ≡ links.Recovering → ⊥
not_two p e f = absurd (cc)

-- Records and sessions

pub reg_is : (k : Option Record) (l : Link) → IsRecord k l → l.reg ≡ incarnation_or_0 k
reg_is None l h = h.reg
reg_is (Some r) l h = h.reg

-- what stays of a record if the link's durable part does
pub record_kept : (o : Option Record) (l m : Link) → m.reg ≡ l.reg → m.left ≡ l.left → m.done ≡ l.done → m.applied ≡ l.applied → IsRecord o l → IsRecord o m
record_kept None l m a b c d h = record { reg = a ∙ h.reg; left = b ∙ h.left; done = c ∙ h.done }
record_kept (Some r) l m a b c d h = record { reg = a ∙ h.reg; left = b ∙ h.left; done = λ n. c ∙ h.done n; applied = λ o n e. d ∙ h.applied o n e }

pub session_rest : (s : Server) (c : ℕ) (x : Session) (d : ℕ) (l : Link) → d ≢ c → LinkShows s d l → LinkShows (with_session s c x) d l
session_rest s c x d l ne h = subst (λ y. LinkIs (view s) (record_of s.durable.register d) (lists s.missing d) y (range_at s.durable.index s.rows d) (key_at s.durable.index s.rows d) l) (sym (session_other s.sessions c d x ne)) h

pub at_session : (s : Server) (c : ℕ) (x : Session) (l : Link) → LinkIs (view s) (record_of s.durable.register c) (lists s.missing c) x (range_at s.durable.index s.rows c) (key_at s.durable.index s.rows c) l → LinkShows (with_session s c x) c l
at_session s c x l h = subst (λ y. LinkIs (view s) (record_of s.durable.register c) (lists s.missing c) y (range_at s.durable.index s.rows c) (key_at s.durable.index s.rows c) l) (sym (session_here s.sessions c x)) h

-- what the table gives is shown by other functions that are the same at each point
pub relink : (s : Shared) (o : Option Record) (b : Bool) (session : Session) (r r' : ℕ → RangePart) (k k' : ℕ → KeyPart) (l : Link) → ((q : ℕ) → r q ≡ r' q) → ((q : ℕ) → k q ≡ k' q) → LinkIs s o b session r k l → LinkIs s o b session r' k' l
relink s o b session r r' k k' l er ek h = record {
  known = h.known;
  missing = h.missing;
  last_push = h.last_push;
  acked = h.acked;
  unacked = h.unacked;
  range = λ p q. h.range p q ∙ er q;
  key = λ p q. h.key p q ∙ ek q;
  new_range = λ p q. h.new_range p q ∙ er q;
  new_key = λ p q. h.new_key p q ∙ ek q;
}
