-- The laws: what the store's server and the clients do is steps of many servers.
use Rattle.std.proofs.Common.{◌≡◌, ℕ, true, false, List, [], ◌∷◌, Option, Some, None, refl, sym, ap, subst, ◌∙◌}
use Rattle.krl_modes.specs.declared.point.TheConstants.{END}
use Rattle.krl_messages.specs.Values.{Value}
use Rattle.krl_messages.specs.declared.to_client.ToClient.{ToClient}
use Rattle.krl_durable.specs.declared.record.Record.{Record}
use Rattle.krl_durable.specs.Registers.{record_of}
use Rattle.krl_machine.specs.Links.{Link, Serving, Recovering}
use Rattle.krl_machine.specs.Worlds.{Logged}
use Rattle.krl_machine.proofs.Worlds.{WorldInv}
use Rattle.krl_machine.proofs.Steps.{put, put_changed, link_steps}
use Rattle.krl_modes.proofs.Basics.{not_both}
use Rattle.krl_server.specs.Servers.{Server}
use Rattle.krl_server.proofs.Points.{blank_range, blank_key}
use Rattle.krl_server.specs.Steps.{nudge}
use Rattle.krl_server.proofs.Invariant.RowsSound.{start_sound}
use Rattle.krl_refinement.specs.Client.Shows.{Grows, IsFrom, ShowsPlace}
use Rattle.krl_refinement.specs.Server.AsLinks.{IsRecord, Shows, machine_phase, view, world_of}
use Rattle.krl_refinement.specs.Server.Simulation as krl_refinement
use Rattle.krl_refinement.proofs.Server.Follows.{up_phase}
use Rattle.krl_refinement.proofs.Server.Stays.{shows_stays, put_grows, put_part}
use Rattle.krl_refinement.proofs.Server.Walk.{effect_follows}
use Rattle.krl_refinement.proofs.Server.Whole.{step_follows}
use Rattle.krl_refinement.proofs.Server.Nudges.{nudge_follows}
use Rattle.krl_failover.specs.Fenced.{Fenced}
use Rattle.krl_failover.proofs.Machine.Reached.{fenced_inv}
use Rattle.krl_failover.specs.Follows.{AreEmpty, Mirrors, Follows, OldStay, StoreFollows, ClientsFollow}
use Rattle.krl_failover.proofs.Refinement.Epochs.{step_epoch_same}
use Rattle.krl_failover.proofs.Refinement.Stores.{IsBlankWorld, store_steps, reached_on}
use Rattle.krl_failover.proofs.Refinement.Starts.{begins}
use Rattle.krl_failover.proofs.Refinement.Ahead.{IsBlankLeft, Ahead, shows_ahead}
use Rattle.krl_failover.proofs.Refinement.Departed.{AreHere, step_empty}

-- krl_machine's invariant holds of what the store's server shows
inv_of : (first : ℕ → Option Value) (f : Fenced) (s : Server) (of : ℕ → Link) (log : List Logged) → Mirrors first f s of log → WorldInv (world_of s of log)
inv_of first f s of log h = subst WorldInv h.world (fenced_inv first END f h.reached).world

-- A client that has left holds nothing

known_left : (o : Option Record) (l : Link) → IsRecord o l → l.left ≡ true → (r : Record) × (o ≡ Some r) × (r.left ≡ true)
known_left None l h left = absurd (not_both l.left left h.left)
known_left (Some r) l h left = (r, refl, sym h.left ∙ left)

not_left : (o : Option Record) (l : Link) → IsRecord o l → l.left ≡ false → (r : Record) → o ≡ Some r → r.left ≡ false
not_left o l h here r e = sym (subst (λ x. IsRecord x l) e h).left ∙ here

-- a client that waits has not left
here_of : (s : Server) (of : ℕ → Link) → Shows s of → AreHere s
here_of s of h n u at r e = let x = h.heard n u at in not_left (record_of s.durable.register u.client) (of u.client) (h.link u.client).known x.4 r e

-- while the server serves, its table is the bound
serving_blank : (s : Server) (of : ℕ → Link) → Shows s of → AreEmpty s → (view s).phase ≡ Serving → (c : ℕ) → IsBlankLeft (of c)
serving_blank s of h empty serving c left q =
    let k = h.link c in
    let r = known_left (record_of s.durable.register c) (of c) k.known left in
    let none = empty c r.0 r.1 r.2 in
    (k.range serving q ∙ blank_range s.durable.index s.rows c none q, k.key serving q ∙ blank_key s.durable.index s.rows c none q)

by_phase : (ms : List ℕ) (P : Type 0) → (machine_phase ms ≡ Serving → P) → (machine_phase ms ≡ Recovering → P) → P
by_phase [] P serves recovers = serves refl
by_phase (c ∷ cs) P serves recovers = recovers refl

-- no message goes
grows_by : (f g : Fenced) (of after : ℕ → Link) → f.world.links ≡ of → g.world.links ≡ after → Ahead f g → (c : ℕ) → Grows (of c) (after c)
grows_by f g of after a b ahead c = subst (λ k. Grows (k c) (after c)) a (subst (λ k. Grows (f.world.links c) (k c)) b (ahead.grows c))

-- What krl_machine's world follows within one epoch, many servers follow

follows_on : (first : ℕ → Option Value) (f : Fenced) (s t : Server) (of : ℕ → Link) (log : List Logged) (outs : List ToClient) → Mirrors first f s of log → AreEmpty t → t.durable.epoch ≡ s.durable.epoch → (x : krl_refinement.Follows (world_of s of log) of t outs) → (y : Follows first f of t outs x.log_after) × OldStay f y.fenced
follows_on first f s t of log outs h empty same x =
    let g = store_steps first (world_of s of log) (world_of t x.after x.log_after) x.steps f h.reached h.world (up_phase t.missing) same in
    let blank_before : IsBlankWorld f.world = subst IsBlankWorld (sym h.world) h.blank in
    let blank : (c : ℕ) → IsBlankLeft (x.after c) = by_phase t.missing ((c : ℕ) → IsBlankLeft (x.after c))
    (serving_blank t x.after x.shows empty)
    (λ rec. subst IsBlankWorld g.world (g.blank rec blank_before)) in (
      record {
        fenced = g.fenced;
        after = x.after;
        steps = g.steps;
        mirrors = record { reached = reached_on first END f g.fenced h.reached g.steps; world = g.world; shows = x.shows; sound = x.sound; empty = empty; blank = blank };
        sent = x.sent;
        clients = x.clients;
        grows = grows_by f g.fenced of x.after (ap (λ w. w.links) h.world) (ap (λ w. w.links) g.world) g.ahead;
      },
      (g.old, g.copy, λ y i k. shows_ahead first f g.fenced h.reached g.ahead y i k),
    )

pub store_follows : StoreFollows
store_follows = record {
  step = λ first f s t of log m outs h at step.
      let inv = inv_of first f s of log h in
      let x = step_follows s of log m inv h.shows h.sound at t outs step in
      let effect = (effect_follows s of log m inv h.shows h.sound at).1 in
      let empty = step_empty s t m outs h.sound (here_of _ effect.after effect.shows) step h.empty in
      subst (λ after. (y : Follows first f of t outs after) × OldStay f y.fenced) x.writes (follows_on first f s t of log outs h empty (step_epoch_same s t m outs step) x.follows);
  no_alarm = λ first f s of log m h at. (effect_follows s of log m (inv_of first f s of log h) h.shows h.sound at).0;
  nudge = λ first f s of log c h.
      let x = nudge_follows s of log c h.shows h.sound in
      subst (λ after. (y : Follows first f of s (nudge s c) after) × OldStay f y.fenced) x.writes (follows_on first f s s of log (nudge s c) h h.empty refl x.follows);
  start = λ first f s of log h can.
      let x = begins first f s of log h.reached h.world h.shows in (
        record {
          fenced = x.fenced;
          after = x.after;
          steps = x.steps;
          mirrors = record {
            reached = reached_on first END f x.fenced h.reached x.steps;
            world = x.world;
            shows = x.shows;
            sound = start_sound s.durable h.sound.near;
            empty = λ c r e left n. refl;
            blank = x.blank h.blank;
          };
          sent = λ o at. absurd at;
          clients = x.clients;
          grows = grows_by f x.fenced of x.after (ap (λ w. w.links) h.world) (ap (λ w. w.links) x.world) x.ahead;
        },
        record {
          kept = x.was.kept;
          copy = x.was.copy;
          old = x.was.old;
          copies = x.was.copies;
          shows = x.shown h.blank;
          others = λ y i k. shows_ahead first f x.fenced h.reached x.ahead y i k;
        },
      );
}

pub clients_follow : ClientsFollow
clients_follow first f s of log c greatest k ms h x =
    let to = put of c x.link in
    let ch = put_changed of c x.link in
    let g = store_steps first (world_of s of log) (world_of s to log) (link_steps (view s) log c (of c) x.link of to refl x.steps ch) f h.reached h.world (up_phase s.missing) refl in
    let grows = put_grows of c x.link x.grows in
    let part = put_part of c x.link x.same in
    record {
      fenced = g.fenced;
      after = to;
      steps = g.steps;
      mirrors = record {
        reached = reached_on first END f g.fenced h.reached g.steps;
        world = g.world;
        shows = shows_stays s of to part grows h.shows;
        sound = h.sound;
        empty = h.empty;
        blank = λ d left q. let p = h.blank d (sym (ap (λ y. y.left) (part d)) ∙ left) q in (ap (λ y. y.top_range q) (part d) ∙ p.0, ap (λ y. y.top_key q) (part d) ∙ p.1);
      };
      place = subst (ShowsPlace c greatest k) (sym ch.here) x.place;
      told = λ m at. subst (λ l. IsFrom l m.incarnation m.body) (sym ch.here) (x.told m at);
      grows = grows;
      others = ch.rest;
      old = (g.old, g.copy, λ y i z. shows_ahead first f g.fenced h.reached g.ahead y i z);
    }
