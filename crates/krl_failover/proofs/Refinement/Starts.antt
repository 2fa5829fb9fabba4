-- A start on what survives the store's server, which continues as an old server.
use Rattle.krl_failover.proofs.Refinement.Names.{◌≡◌, ◌≢◌, ℕ, suc, ◌<◌, ◌⊎◌, inl, inr, ⊎_elim, Bool, true, false, Option, Some, None, List, [], ◌∷◌, refl, sym, ap, ◌∙◌, subst, arith, if◌then◌else◌, eq-eqb, ne_eqb, END, In}
use Rattle.krl_failover.proofs.Refinement.Names.{Waiter, Record, record_of, range_at, key_at, Recovering, Serving, is_recovering, Grows, sent_stays, IsHere, FencedReachable, IsRecordKept, CountsAre, IsHeardBy, IsBlankRow, BoundIs, RebuiltIs, ShowsOld}
use Rattle.krl_messages.specs.declared.to_client.ToClientBody.TheVariants as told
use Rattle.std.specs.Bool.{◌==◌}
use Rattle.std.specs.FinMap as map
use Rattle.krl_messages.specs.Values.{Value}
use Rattle.krl_durable.specs.Registers.{not_left}
use Rattle.krl_machine.specs.Links.{Link}
use Rattle.krl_machine.specs.Worlds.{Logged, IsMissing}
use Rattle.krl_server.specs.Servers.{Server, lists}
use Rattle.krl_server.specs.Steps.{start}
use Rattle.krl_refinement.specs.Server.AsLinks.{IsRecord, Shows, machine_phase, view, world_of}
use Rattle.krl_refinement.proofs.Server.Follows.{not_recovering}
use Rattle.krl_refinement.proofs.Server.Restart.{started_with, started_links, started_shows, started_clients, missing_known}
use Rattle.krl_failover.specs.Fenced.{Fenced, Kept, kept_of}
use Rattle.krl_failover.specs.Steps.{FencedSteps, stays_so, on_then, takes_over, finishes}
use Rattle.krl_failover.proofs.Machine.Reached.{fenced_inv}
use Rattle.krl_failover.proofs.Refinement.Ahead.{row_same, IsBlankLeft, Ahead}

-- s is an old server now; those before it are as they were
pub record Was (f g : Fenced) (s : Server) (of : ℕ → Link) : Type 0 where
  pub kept : (c : ℕ) → g.old s.durable.epoch c ≡ kept_of (of c)
  pub copy : g.copy s.durable.epoch ≡ map.get s.durable.index
  pub old : (e c : ℕ) → e ≢ s.durable.epoch → g.old e c ≡ f.old e c
  pub copies : (e : ℕ) → e ≢ s.durable.epoch → g.copy e ≡ f.copy e

-- the machine continues to a world that shows the server t, and s is an old server
pub record Begins (f : Fenced) (s t : Server) (of : ℕ → Link) (log : List Logged) : Type 0 where
  pub fenced : Fenced
  pub after : ℕ → Link
  pub steps : FencedSteps f fenced
  pub world : fenced.world ≡ world_of t after log
  pub shows : Shows t after
  pub clients : (c : ℕ) → (after c).client ≡ (of c).client
  pub was : Was f fenced s of
  pub ahead : Ahead f fenced
  pub blank : ((c : ℕ) → IsBlankLeft (of c)) → (c : ℕ) → IsBlankLeft (after c)
  pub shown : ((c : ℕ) → IsBlankLeft (of c)) → ShowsOld s fenced

-- what old servers keep, and their copies of the index, once s is one of them
module _ (old : ℕ → ℕ → Kept) (copy : ℕ → ℕ → Option Value) (s : Server) (of : ℕ → Link) where
  abbrev pub old_then : ℕ → ℕ → Kept
  old_then e c = if e == s.durable.epoch then kept_of (of c) else old e c

  abbrev pub copy_then : ℕ → ℕ → Option Value
  copy_then e = if e == s.durable.epoch then map.get s.durable.index else copy e

  pub was_fenced : (f g : Fenced) → f.old ≡ old → f.copy ≡ copy → g.old ≡ old_then → g.copy ≡ copy_then → Was f g s of
  was_fenced f g fo fc go gc = record {
    kept = λ c. ap (λ k. k s.durable.epoch c) go ∙ ap (λ b. if b then kept_of (of c) else old s.durable.epoch c) (eq-eqb s.durable.epoch s.durable.epoch refl);
    copy = ap (λ k. k s.durable.epoch) gc ∙ ap (λ b. if b then map.get s.durable.index else copy s.durable.epoch) (eq-eqb s.durable.epoch s.durable.epoch refl);
    old = λ e c ne. ap (λ k. k e c) go ∙ ap (λ b. if b then kept_of (of c) else old e c) (ne_eqb e s.durable.epoch ne) ∙ sym (ap (λ k. k e c) fo);
    copies = λ e ne. ap (λ k. k e) gc ∙ ap (λ b. if b then map.get s.durable.index else copy e) (ne_eqb e s.durable.epoch ne) ∙ sym (ap (λ k. k e) fc);
  }

abbrev at_first : (bound : ℕ) (old : ℕ → ℕ → Kept) (copy : ℕ → ℕ → Option Value) (s : Server) (of : ℕ → Link) (log : List Logged) → Fenced
at_first bound old copy s of log = record { world = world_of s of log; bound = bound; old = old; copy = copy }

-- How the server shows as an old one

record_kept : (o : Option Record) (l : Link) → IsRecord o l → IsRecordKept o (kept_of l)
record_kept None l h = record { reg = h.reg; done = h.done }
record_kept (Some r) l h = record { reg = h.reg; done = h.done; applied = h.applied }

recovering_is : (ms : List ℕ) → machine_phase ms ≡ Recovering → is_recovering ms ≡ true
recovering_is [] e = absurd (cc)
recovering_is (c ∷ cs) e = refl

module _ (s : Server) (of after : ℕ → Link) (g : Fenced) (h : Shows s of) (kept : (c : ℕ) → g.old s.durable.epoch c ≡ kept_of (of c)) (same : g.world.links ≡ after) (grows : (c : ℕ) → Grows (of c) (after c)) where
  abbrev e : ℕ
  e = s.durable.epoch

  -- of the client of c, in which link and by what the machine keeps
  shown_by : (P : Link → Kept → Type 0) (c : ℕ) → P (after c) (kept_of (of c)) → P (g.world.links c) (g.old e c)
  shown_by P c p = subst (λ x. P (x c) (g.old e c)) (sym same) (subst (P (after c)) (sym (kept c)) p)

  was_counts : (c : ℕ) → CountsAre e (record_of s.durable.register c) (s.sessions c) (g.world.links c) (g.old e c)
  was_counts c = let k = h.link c in shown_by (CountsAre e (record_of s.durable.register c) (s.sessions c)) c
      (record {
        known = record_kept (record_of s.durable.register c) (of c) k.known;
        last = k.last_push;
        acked = k.acked;
        unacked = λ body is. sent_stays (of c) (after c) (grows c) (of c).reg (told.Push e (s.sessions c).last_push body) (k.unacked body is);
      })

  was_heard : (n : ℕ) (u : Waiter) → In u (s.rows n).queue → IsHeardBy e (g.world.links u.client) (g.old e u.client)
  was_heard n u at = let x = h.heard n u at in shown_by (IsHeardBy e) u.client (x.0, (grows u.client).heads x.0 x.1, x.2, x.3)

  -- while nobody serves afterwards, the bound is as it was
  module _ (rows : (c : ℕ) → (after c).top_range ≡ (of c).top_range × (after c).top_key ≡ (of c).top_key) (who : (c : ℕ) → ((after c).reg ≡ (of c).reg) × ((after c).left ≡ (of c).left)) (blank : (c : ℕ) → IsBlankLeft (of c)) where
    gone_blank : (c : ℕ) → (IsHere (after c) (kept_of (of c)) → ⊥) → IsBlankRow (after c)
    gone_blank c out = by_left (of c).left refl
      where
        by_left : (b : Bool) → (of c).left ≡ b → IsBlankRow (after c)
        by_left false f = absurd (out (sym (who c).0, (who c).1 ∙ f))
        by_left true f = λ q. let p = blank c f q in (ap (λ k. k q) (rows c).0 ∙ p.0, ap (λ k. k q) (rows c).1 ∙ p.1)

    was_bound : (view s).phase ≡ Serving → (c : ℕ) → BoundIs (g.world.links c) (g.old e c) (range_at s.durable.index s.rows c) (key_at s.durable.index s.rows c)
    was_bound serving c = let k = h.link c in shown_by (λ l z. BoundIs l z (range_at s.durable.index s.rows c) (key_at s.durable.index s.rows c)) c
        (record { here = λ x q. (ap (λ r. r q) (rows c).0 ∙ k.range serving q, ap (λ r. r q) (rows c).1 ∙ k.key serving q); gone = gone_blank c })

    was_rebuilt : (view s).phase ≡ Recovering → (c : ℕ) → RebuiltIs (g.world.links c) (g.old e c) (lists s.missing c) (range_at s.durable.index s.rows c) (key_at s.durable.index s.rows c)
    was_rebuilt rec c = let k = h.link c in shown_by (λ l z. RebuiltIs l z (lists s.missing c) (range_at s.durable.index s.rows c) (key_at s.durable.index s.rows c)) c
        (record { missing = k.missing; new = λ q. (k.new_range rec q, k.new_key rec q); gone = gone_blank c })

-- if nobody is missing it serves at once
begins_with : (bound : ℕ) (old : ℕ → ℕ → Kept) (copy : ℕ → ℕ → Option Value) (s : Server) (of : ℕ → Link) (log : List Logged) (ms : List ℕ) → ((c : ℕ) → IsMissing (of c) (lists ms c)) → Shows s of → (((view s).phase ≡ Serving) × (bound ≡ s.durable.epoch)) ⊎ (((view s).phase ≡ Recovering) × (bound < s.durable.epoch)) → Begins (at_first bound old copy s of log) s (started_with s.durable ms) of log
begins_with bound old copy s of log [] miss h phase =
    let f = at_first bound old copy s of log in
    let g : Fenced = record { world = world_of (started_with s.durable []) (started_links of []) log; bound = suc s.durable.epoch; old = old_then old copy s of; copy = copy_then old copy s of } in
    let w = was_fenced old copy s of f g refl refl refl refl in
    let grows : (c : ℕ) → Grows (of c) (started_links of [] c) = λ c. record { hellos = λ x a. a; byes = λ x a. a; heads = λ x a. a; releases = λ x a. a; writes = λ x a. a; reports = λ x a. a; notices = λ x a. a; pushes = λ x a. a } in
    record {
      fenced = g;
      after = started_links of [];
      steps = on_then (on_then stays_so (takes_over (λ c. false) miss)) (finishes refl (λ c. refl));
      world = refl;
      shows = started_shows s.durable [] of (λ c. (h.link c).known);
      clients = started_clients [] of;
      was = w;
      ahead = record {
        epoch = omega arith;
        old = λ e c lt. w.old e c (λ x. omega (arith, x, lt));
        copy = λ e lt. w.copies e (λ x. omega (arith, x, lt));
        grows = grows;
        bound = inr (omega arith);
        rows = λ same lt. absurd (omega (arith, same, lt));
      };
      blank = λ b c left q. (refl, refl);
      shown = λ b. record {
        old = omega arith;
        copy = w.copy;
        link = was_counts s of (started_links of []) g h w.kept refl grows;
        heard = was_heard s of (started_links of []) g h w.kept refl grows;
        serves = λ is. absurd (omega (arith, is));
        rows = λ is. absurd (omega (arith, is));
        recovers = λ lt. absurd (omega (arith, lt));
        rebuilds = λ lt. absurd (omega (arith, lt));
      };
    }
begins_with bound old copy s of log (y ∷ ys) miss h phase =
    let f = at_first bound old copy s of log in
    let after = started_links of (y ∷ ys) in
    let g : Fenced = record { world = world_of (started_with s.durable (y ∷ ys)) after log; bound = bound; old = old_then old copy s of; copy = copy_then old copy s of } in
    let w = was_fenced old copy s of f g refl refl refl refl in
    let grows : (c : ℕ) → Grows (of c) (after c) = λ c. record { hellos = λ x a. a; byes = λ x a. a; heads = λ x a. a; releases = λ x a. a; writes = λ x a. a; reports = λ x a. a; notices = λ x a. a; pushes = λ x a. a } in
    let serves : s.durable.epoch ≡ bound → (view s).phase ≡ Serving = λ is. ⊎_elim (λ (x : ((view s).phase ≡ Serving) × (bound ≡ s.durable.epoch)). x.0) (λ (x : ((view s).phase ≡ Recovering) × (bound < s.durable.epoch)). absurd (omega (arith, is, x.1))) phase in
    let recovers : bound < s.durable.epoch → (view s).phase ≡ Recovering = λ lt. ⊎_elim (λ (x : ((view s).phase ≡ Serving) × (bound ≡ s.durable.epoch)). absurd (omega (arith, lt, x.1))) (λ (x : ((view s).phase ≡ Recovering) × (bound < s.durable.epoch)). x.0) phase in
    record {
      fenced = g;
      after = after;
      steps = on_then stays_so (takes_over (lists (y ∷ ys)) miss);
      world = refl;
      shows = started_shows s.durable (y ∷ ys) of (λ c. (h.link c).known);
      clients = started_clients (y ∷ ys) of;
      was = w;
      ahead = record {
        epoch = omega arith;
        old = λ e c lt. w.old e c (λ x. omega (arith, x, lt));
        copy = λ e lt. w.copies e (λ x. omega (arith, x, lt));
        grows = grows;
        bound = inl refl;
        rows = λ same lt c. row_same (of c) (after c) refl refl (refl, refl);
      };
      blank = λ b c left q. b c left q;
      shown = λ b. record {
        old = omega arith;
        copy = w.copy;
        link = was_counts s of after g h w.kept refl grows;
        heard = was_heard s of after g h w.kept refl grows;
        serves = λ is. not_recovering s.missing (serves is);
        rows = λ is. was_bound s of after g h w.kept refl grows (λ c. (refl, refl)) (λ c. (refl, refl)) b (serves is);
        recovers = λ lt. recovering_is s.missing (recovers lt);
        rebuilds = λ lt. was_rebuilt s of after g h w.kept refl grows (λ c. (refl, refl)) (λ c. (refl, refl)) b (recovers lt);
      };
    }

pub begins : (first : ℕ → Option Value) (f : Fenced) (s : Server) (of : ℕ → Link) (log : List Logged) → FencedReachable first END f → f.world ≡ world_of s of log → Shows s of → Begins f s (start s.durable) of log
begins first f s of log reached is h =
    let phase = subst (λ w. ((w.shared.phase ≡ Serving) × (f.bound ≡ w.shared.epoch)) ⊎ ((w.shared.phase ≡ Recovering) × (f.bound < w.shared.epoch))) is (fenced_inv first END f reached).phase in
    subst (λ w. Begins (record { world = w; bound = f.bound; old = f.old; copy = f.copy }) s (start s.durable) of log) (sym is)
    (begins_with f.bound f.old f.copy s of log (not_left s.durable.register) (λ c e. missing_known s.durable.register c e (of c) (h.link c).known) h phase)
