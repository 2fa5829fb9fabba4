-- Each world that a run reaches shows in a machine's world that can be reached, and the run's bound is the machine's.
use Rattle.krl_world.proofs.Names.{◌≡◌, ℕ, ◌≤◌, ◌∙◌, Bool, true, false, List, [], refl, sym, ap, subst, if◌then◌else◌, END, RangePart, KeyPart, Durable, Link, Logged, Reachable, steps_reachable}
use Rattle.krl_world.proofs.Names.{Server, is_recovering, start, Shows, BoundStays, ServerFollows, Step, Answer, ServerPlace, Up, Down, State, durable_of, index_of, is_serving, opened}
use Rattle.krl_world.proofs.Names.{CanOpen, Takes, IsReachable, Bound, table_of, first_bound, step_clears, bound_cleared, bound_at, bound_after, HasBound}
use Rattle.krl_modes.specs.declared.part.RangePart.TheVariants as range
use Rattle.krl_modes.specs.declared.part.KeyPart.TheVariants as key
use Rattle.krl_durable.specs.declared.limits.Limits.{Limits}
use Rattle.krl_durable.specs.Limits.{sized}
use Rattle.krl_refinement.proofs.Server.Follows.{serving_phase}
use Rattle.krl_world.specs.Steps.{resized, opens, takes, resizes}
use Rattle.krl_world.specs.Bounds.{at_first, after_step, as_before}
use Rattle.krl_world.proofs.Functions.Shapes.{opened_opening, reachable_opening}
use Rattle.krl_world.proofs.Refinement.Calling.{epoch_called}
use Rattle.krl_world.proofs.Refinement.Mirrors.{machine_of, ServerShows, Mirrors}
use Rattle.krl_world.proofs.Refinement.MachineOpens.{links_of}
use Rattle.krl_world.proofs.Refinement.Openings.{first_of, first_reached, first_mirrors}
use Rattle.krl_world.proofs.Refinement.Standing.{index_stands}
use Rattle.krl_world.proofs.Refinement.ServerMoves.{way}
use Rattle.krl_world.proofs.Refinement.Taken.{takes_goes}

-- the links' bounds are these
abbrev pub HaveBound : (ℕ → Link) → Bound → Type 0
HaveBound of b = (c p : ℕ) → ((of c).top_range p ≡ b.range_at c p) × ((of c).top_key p ≡ b.key_at c p)

pub record Reached (first : Durable) (w : State) (b : Bound) : Type 0 where
  pub of : ℕ → Link
  pub log : List Logged
  pub reach : Reachable (first_of first) END (machine_of w.server of log)
  pub mirrors : Mirrors w of log
  pub bound : HaveBound of b
  pub index : b.index ≡ index_of w

-- if it serves, the links' bounds are its table
table_bound : (s : Server) (of : ℕ → Link) → Shows s of → is_recovering s.missing ≡ false → HaveBound of (table_of s)
table_bound s of h e c p = ((h.link c).range (serving_phase s.missing e) p, (h.link c).key (serving_phase s.missing e) p)

range_kept : (t : Bool) (a b r : RangePart) → a ≡ b → r ≡ (if t then range.N else a) → r ≡ (if t then range.N else b)
range_kept true a b r e f = f
range_kept false a b r e f = f ∙ e

key_kept : (t : Bool) (a b k : KeyPart) → a ≡ b → k ≡ (if t then key.N else a) → k ≡ (if t then key.N else b)
key_kept true a b k e f = f
key_kept false a b k e f = f ∙ e

-- if it does not, they stay, except for clients that were cleared
kept_bound : (of to : ℕ → Link) (gone : ℕ → Bool) (b : Bound) → HaveBound of b → ((c : ℕ) → BoundStays (gone c) (of c) (to c)) → HaveBound to (bound_cleared gone b)
kept_bound of to gone b h stays c p = (range_kept (gone c) ((of c).top_range p) (b.range_at c p) ((to c).top_range p) (h c p).0 ((stays c).range p), key_kept (gone c) ((of c).top_key p) (b.key_at c p) ((to c).top_key p) (h c p).1 ((stays c).key p))

bound_on : (n : ServerPlace) (of to : ℕ → Link) (gone : ℕ → Bool) (b : Bound) → HaveBound of b → ServerShows n to → (is_serving n ≡ false → (c : ℕ) → BoundStays (gone c) (of c) (to c)) → HaveBound to (bound_at n (bound_cleared gone b))
bound_on (Down d) of to gone b h shows stays = kept_bound of to gone b h (stays refl)
bound_on (Up s) of to gone b h shows stays = by_test (is_recovering s.missing) refl stays
  where
    by_test : (t : Bool) → is_recovering s.missing ≡ t → ((if t then false else true) ≡ false → (c : ℕ) → BoundStays (gone c) (of c) (to c)) → HaveBound to (if t then bound_cleared gone b else table_of s)
    by_test true e stay = kept_bound of to gone b h (stay refl)
    by_test false e stay = table_bound s to shows.0 e

-- the index of the bound
index_on : (n : ServerPlace) (b : Bound) (gone : ℕ → Bool) → (is_serving n ≡ false → b.index ≡ (durable_of n).index) → (bound_at n (bound_cleared gone b)).index ≡ (durable_of n).index
index_on (Down d) b gone h = h refl
index_on (Up s) b gone h = by_test (is_recovering s.missing) h
  where
    by_test : (t : Bool) → ((if t then false else true) ≡ false → b.index ≡ s.durable.index) → (if t then bound_cleared gone b else table_of s).index ≡ s.durable.index
    by_test true x = x refl
    by_test false x = refl

pub reached_step : ServerFollows → (first : Durable) (w v : State) (b : Bound) (s : Step) (answer : Answer) → Reached first w b → Takes w s answer v → Reached first v (bound_after w s b v)
reached_step owed first w v b s answer r t =
    let g = takes_goes owed (first_of first) w v r.of r.log s answer r.mirrors r.reach t.0 t.1 in record {
      of = g.after;
      log = g.log_after;
      reach = steps_reachable (first_of first) END (machine_of w.server r.of r.log) (machine_of v.server g.after g.log_after) r.reach g.steps;
      mirrors = g.mirrors;
      bound = bound_on v.server r.of g.after (step_clears w s) b r.bound g.mirrors.server g.bound;
      index = index_on v.server b (step_clears w s) (λ e. r.index ∙ sym (index_stands w v s (way w v s answer t.1) e));
    }

-- the machine sees no limits
resized_shows : (n : ServerPlace) (d : Durable) (l : Limits) (of : ℕ → Link) → n ≡ Down d → ServerShows n of → ServerShows (Down (sized l d)) of
resized_shows n d l of e h =
    let x : ServerShows (Down d) of = subst (λ m. ServerShows m of) e h in
    (x.0, record { near = x.1.near; begun = x.1.begun; strangers = x.1.strangers; placed = x.1.placed; clients = x.1.clients })

reached_resized : (first : Durable) (w : State) (b : Bound) (d : Durable) (l : Limits) → Reached first w b → w.server ≡ Down d → Reached first (resized w d l) b
reached_resized first w b d l r e = record {
  of = r.of;
  log = r.log;
  reach = subst (λ n. Reachable (first_of first) END (machine_of n r.of r.log)) e r.reach;
  mirrors = record {
    places = r.mirrors.places;
    from = r.mirrors.from;
    to = r.mirrors.to;
    called = λ m at. subst (λ n. epoch_called m.body ≤ (durable_of n).epoch) e (r.mirrors.called m at);
    server = resized_shows w.server d l r.of e r.mirrors.server;
    writes = r.mirrors.writes;
  };
  bound = r.bound;
  index = r.index ∙ ap (λ n. (durable_of n).index) e;
}

opened_reached : ServerFollows → (d : Durable) → CanOpen d → Reached d (opened d) (first_bound d)
unfolding opened
opened_reached owed d h = let m = first_mirrors owed d h in record {
  of = links_of d.register;
  log = [];
  reach = first_reached d h;
  mirrors = m;
  bound = table_bound (start d) (links_of d.register) m.server.0 (ap is_recovering h.left);
  index = refl;
}

pub bound_reachable : (w : State) (b : Bound) → HasBound w b → IsReachable w
bound_reachable w b (at_first d h) = opens d h
bound_reachable w b (after_step u v c s answer h t) = takes u v s answer (bound_reachable u c h) t
bound_reachable w b (as_before u c d l h e fits) = resizes u d l (bound_reachable u c h) e fits

pub bound_reached : ServerFollows → (w : State) (b : Bound) → HasBound w b → Reached w.opening w b
bound_reached owed w b (at_first d h) = subst (λ x. Reached x (opened d) (first_bound d)) (sym (opened_opening d)) (opened_reached owed d h)
bound_reached owed w b (after_step u v c s answer h t) = subst (λ x. Reached x v (bound_after u s c v)) (sym (reachable_opening u v s answer (bound_reachable u c h) t)) (reached_step owed u.opening u v c s answer (bound_reached owed u c h) t)
bound_reached owed w b (as_before u c d l h e fits) = reached_resized u.opening u c d l (bound_reached owed u c h) e

-- however a world is reached, there is a bound
pub has_bound : (w : State) → IsReachable w → (b : Bound) × HasBound w b
has_bound w (opens d h) = (first_bound d, at_first d h)
has_bound w (takes u v s answer r t) = let x = has_bound u r in (bound_after u s x.0 v, after_step u v x.0 s answer x.1 t)
has_bound w (resizes u d l r e fits) = let x = has_bound u r in (x.0, as_before u x.0 d l x.1 e fits)

pub world_reached : ServerFollows → (w : State) → IsReachable w → (b : Bound) × Reached w.opening w b
world_reached owed w h = let x = has_bound w h in (x.0, bound_reached owed w x.0 x.1)
