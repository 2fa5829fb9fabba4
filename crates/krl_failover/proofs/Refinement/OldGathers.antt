-- An old server takes a report: one that waits for reports rebuilds the row, and serves once it has all.
use Rattle.krl_failover.proofs.Refinement.Names.{◌≡◌, ℕ, ◌<◌, ◌≤◌, inr, ⊎_elim, true, false, List, [], ◌∷◌, refl, sym, subst, ◌∙◌, arith, END, In, Pieces, Waiter}
use Rattle.krl_failover.proofs.Refinement.Names.{record_of, Rows, column, range_at, key_at, Link, Server, is_recovering, lists, silent, IsSound, Stands, Grows, grows_not, sent_stays, Kept, Fenced}
use Rattle.krl_failover.proofs.Refinement.Names.{IsHere, FencedStep, stays_so, on_then, IsHeardBy, BoundIs, ShowsOld}
use Rattle.std.specs.FinMap as map
use Rattle.std.proofs.lemmas.Bool.{cases_lt}
use Rattle.krl_messages.specs.declared.to_client.ToClientBody.TheVariants as told
use Rattle.krl_messages.specs.declared.to_server.ToServerBody.TheVariants as said
use Rattle.krl_table.specs.Reports.{adopted}
use Rattle.krl_machine.specs.Links.{IsRebuilt}
use Rattle.krl_machine.specs.Tables as machine
use Rattle.krl_server.specs.Servers.{unlist}
use Rattle.krl_server.specs.Effects.{adopts}
use Rattle.krl_server.proofs.Points.{same_range, same_key}
use Rattle.krl_server.proofs.Updates.{unlist_here, unlist_other}
use Rattle.krl_server.proofs.Invariant.RowsSound.{adopted_others, adopted_queue}
use Rattle.krl_refinement.specs.Messages.{report_of}
use Rattle.krl_refinement.proofs.Server.Meaning.{seen_in, range_is, key_is}
use Rattle.krl_refinement.proofs.Server.Reported.{report_shown}
use Rattle.krl_failover.specs.Fenced.{Finished, here_rows, gone_rows}
use Rattle.krl_failover.specs.Steps.{old_takes_report, old_finishes}
use Rattle.krl_failover.proofs.Refinement.Beside.{Beside, beside_on, steps_after, keep, keep_turned, store_part, SameRow, Moved, moved_at, moved_beside, counts, rebuilt_is}
use Rattle.krl_failover.proofs.Refinement.OldMoves.{Goes, goes_not, record_stays}
use Rattle.krl_failover.proofs.Refinement.OldPushes.{Whereabouts, is_here, is_gone, whereabouts}
use Rattle.krl_failover.proofs.Refinement.OldRows.{seen_is}

-- Its rows become the bound

-- the row of one that is here is the rebuilt one
abbrev finished_by : (l : Link) (z : Kept) → Whereabouts l z → Link
finished_by l z (is_here here) = record l { top_range = z.new_range; top_key = z.new_key }
finished_by l z (is_gone why out) = l

abbrev finished : Link → Kept → Link
finished l z = finished_by l z (whereabouts l z)

-- what is stated of it, if it is here and if it is gone
finished_cases : (P : Link → Type 0) (l : Link) (z : Kept) → (IsHere l z → P (record l { top_range = z.new_range; top_key = z.new_key })) → ((IsHere l z → ⊥) → P l) → P (finished l z)
finished_cases P l z here gone = by_place (whereabouts l z)
  where
    by_place : (w : Whereabouts l z) → P (finished_by l z w)
    by_place (is_here h) = here h
    by_place (is_gone why out) = gone out

module _ (e : ℕ) (f : Fenced) (low : f.bound < e) (lt : e < f.world.shared.epoch) where
  abbrev served : Fenced
  served = record f { world = record f.world { links = λ c. finished (f.world.links c) (f.old e c) }; bound = e }

  finish_step : ((c : ℕ) → (f.old e c).missing ≡ false) → FencedStep f served
  finish_step all = old_finishes e (λ c. finished (f.world.links c) (f.old e c)) low lt all
      (λ c. finished_cases (Finished (f.world.links c) (f.old e c)) (f.world.links c) (f.old e c) (λ here. here_rows here) (λ out. gone_rows out))

  of_link : (P : Link → Link → Type 0) → ((l : Link) → P l l) → ((l : Link) (z : Kept) → P l (record l { top_range = z.new_range; top_key = z.new_key })) → (c : ℕ) → P (f.world.links c) (finished (f.world.links c) (f.old e c))
  of_link P still new c = finished_cases (P (f.world.links c)) (f.world.links c) (f.old e c) (λ here. new (f.world.links c) (f.old e c)) (λ out. still (f.world.links c))

  more : (l : Link) (z : Kept) → Grows l (record l { top_range = z.new_range; top_key = z.new_key })
  more l z = record { hellos = λ x a. a; byes = λ x a. a; heads = λ x a. a; releases = λ x a. a; writes = λ x a. a; reports = λ x a. a; notices = λ x a. a; pushes = λ x a. a }

  finish_beside : Beside e f served
  finish_beside = record {
    shared = refl;
    log = refl;
    client = of_link (λ x y. y.client ≡ x.client) (λ l. refl) (λ l z. refl);
    part = of_link (λ x y. store_part y ≡ store_part x) (λ l. refl) (λ l z. refl);
    grows = of_link Grows grows_not more;
    reg = λ c. refl;
    old = λ x c ne. refl;
    copy = refl;
    bound = inr (low, refl);
    still = λ ne is. absurd (omega (arith, is, low));
    gone = λ c out. finished_cases (SameRow (f.world.links c)) (f.world.links c) (f.old e c) (λ here. absurd (out here)) (λ x. (refl, refl));
  }

-- It has a report more

-- what is shown once these rows are rebuilt, and those of ms are waited for
record Gathered (s : Server) (rows : Rows) (ms : List ℕ) (f : Fenced) : Type 0 where
  pub old : s.durable.epoch < f.world.shared.epoch
  pub copy : f.copy s.durable.epoch ≡ map.get s.durable.index
  pub link : (d : ℕ) → counts s d (f.world.links d) (f.old s.durable.epoch d)
  pub heard : (n : ℕ) (u : Waiter) → In u (rows n).queue → IsHeardBy s.durable.epoch (f.world.links u.client) (f.old s.durable.epoch u.client)
  pub rebuilt : (d : ℕ) → rebuilt_is (record s { rows = rows; missing = ms }) d (f.world.links d) (f.old s.durable.epoch d)

settled : (s : Server) (rows : Rows) (ms : List ℕ) (f : Fenced) → f.bound < s.durable.epoch → Gathered s rows ms f → Goes s f (silent (record s { rows = rows; missing = ms }))
settled s rows [] f low k =
    let e = s.durable.epoch in
    let b = finish_beside e f low k.old in
    let P : ℕ → Link → Type 0 = λ d x. BoundIs x (f.old e d) (range_at s.durable.index rows d) (key_at s.durable.index rows d) in
    record {
      fenced = served e f low k.old;
      steps = on_then stays_so (finish_step e f low k.old (λ c. (k.rebuilt c).missing));
      beside = b;
      shows = record {
        old = k.old;
        copy = k.copy;
        link = λ d. let x = k.link d in record { known = x.known; last = x.last; acked = x.acked; unacked = λ body is. sent_stays (f.world.links d) (finished (f.world.links d) (f.old e d)) (b.grows d) (f.old e d).reg (told.Push e (s.sessions d).last_push body) (x.unacked body is) };
        heard = λ n u at. let x = k.heard n u at in (x.0, (b.grows u.client).heads x.0 x.1, x.2, x.3);
        serves = λ is. refl;
        rows = λ is d. let r = k.rebuilt d in finished_cases (P d) (f.world.links d) (f.old e d)
            (λ here. record { here = λ x q. r.new q; gone = λ out. absurd (out here) })
            (λ out. record { here = λ x. absurd (out x); gone = r.gone });
        recovers = λ lt. absurd (omega (arith, lt));
        rebuilds = λ lt. absurd (omega (arith, lt));
      };
      sent = λ o y. absurd y;
    }
settled s rows (y ∷ ys) f low k = goes_not s (record s { rows = rows; missing = y ∷ ys }) f (record {
  old = k.old;
  copy = k.copy;
  link = k.link;
  heard = k.heard;
  serves = λ is. absurd (omega (arith, is, low));
  rows = λ is. absurd (omega (arith, is, low));
  recovers = λ lt. refl;
  rebuilds = λ lt. k.rebuilt;
})

module _ (s : Server) (f : Fenced) (i : IsSound s) (far : f.world.shared.end ≡ END) (h : ShowsOld s f) (c : ℕ) (pieces : Pieces) where
  abbrev rows : Rows
  rows = adopted s.durable.index s.rows c pieces

  heard_rows : (n : ℕ) (u : Waiter) → In u (rows n).queue → IsHeardBy s.durable.epoch (f.world.links u.client) (f.old s.durable.epoch u.client)
  heard_rows n u at = h.heard n u (subst (In u) (adopted_queue s.durable.index s.rows c pieces n) at)

  -- a server that is past looks at no report
  past : s.durable.epoch < f.bound → Goes s f (silent (adopts s c pieces))
  past low = goes_not s (adopts s c pieces) f (record {
    old = h.old;
    copy = h.copy;
    link = h.link;
    heard = heard_rows;
    serves = λ is. absurd (omega (arith, low, is));
    rows = λ is. absurd (omega (arith, low, is));
    recovers = λ lt. absurd (omega (arith, low, lt));
    rebuilds = λ lt. absurd (omega (arith, low, lt));
  })

  module _ (epoch inc : ℕ) (same : inc ≡ (f.old s.durable.epoch c).reg) (now : epoch ≡ s.durable.epoch) (missing : lists s.missing c ≡ true) (at : Stands (f.world.links c) inc (said.Report epoch pieces)) where
    gathers : f.bound < s.durable.epoch → Goes s f (silent (adopts s c pieces))
    gathers low =
        let e = s.durable.epoch in
        let m = s.durable.index in
        let E = f.world.shared.epoch in
        let phase = f.world.shared.phase in
        let seen = seen_in m E phase in
        let y = f.old e c in
        let range = machine.range_at seen (column rows c) in
        let key = machine.key_at seen (column rows c) in
        let z : Kept = record y { missing = false; new_range = range; new_key = key } in
        let g : Fenced = record f { old = keep f.old e c z } in
        let turned = keep_turned f.old e c z in
        let ms = unlist s.missing c in
        let t = adopts s c pieces in
        let k = h.link c in
        let waits = h.rebuilds low in
        let mv : Moved e c (f.world.links c) z f g = record { shared = refl; log = refl; links = record { here = refl; rest = λ d ne. refl }; old = turned; copy = refl; bound = refl } in
        let b = moved_beside e c (f.world.links c) z f g mv (record { client = refl; part = refl; grows = grows_not (f.world.links c); reg = refl; still = λ ne. (refl, refl); gone = λ out. (refl, refl) }) in
        let step : FencedStep f g = old_takes_report e c (report_of inc epoch pieces) range key (keep f.old e c z) low h.old at.0 ((waits c).missing ∙ missing) same now
        (subst (λ x. IsRebuilt x (report_of inc epoch pieces) range key) (seen_is s f far h) (report_shown m E phase i.near s.rows c inc epoch pieces at.1)) turned in
        let x = settled s rows ms g low (record {
          old = h.old;
          copy = h.copy;
          link = moved_at e c (f.world.links c) z f g mv (counts s)
              (record { known = record_stays (record_of s.durable.register c) y z refl refl refl k.known; last = k.last; acked = k.acked; unacked = k.unacked })
              (λ d ne. h.link d);
          heard = λ n u v. let w = heard_rows n u v in (w.0, w.1, w.2 ∙ sym (b.reg u.client), w.3);
          rebuilt = moved_at e c (f.world.links c) z f g mv (rebuilt_is t)
              (record {
                missing = sym (unlist_here s.missing c);
                new = λ q. (sym (range_is m E phase i.near rows c q), sym (key_is m E phase i.near rows c q));
                gone = (waits c).gone;
              })
              (λ d ne. let w = waits d in record {
                missing = w.missing ∙ sym (unlist_other s.missing c d ne);
                new = λ q. ((w.new q).0 ∙ same_range m s.rows rows d (adopted_others m s.rows c pieces d ne) q, (w.new q).1 ∙ same_key m s.rows rows d (adopted_others m s.rows c pieces d ne) q);
                gone = w.gone;
              });
        }) in
        record {
          fenced = x.fenced;
          steps = steps_after f g x.fenced (on_then stays_so step) x.steps;
          beside = beside_on e f g x.fenced b x.beside;
          shows = x.shows;
          sent = x.sent;
        }

    -- whatever its place: the latest that ever served waits for none
    pub takes_report : Goes s f (silent (adopts s c pieces))
    takes_report = ⊎_elim
        (λ (low : s.durable.epoch < f.bound). past low)
        (λ (ge : f.bound ≤ s.durable.epoch). ⊎_elim
        (λ (lt : f.bound < s.durable.epoch). gathers lt)
        (λ (le : s.durable.epoch ≤ f.bound). absurd (serves_not s.missing missing (h.serves (omega (arith, ge, le)))))
        (cases_lt f.bound s.durable.epoch))
        (cases_lt s.durable.epoch f.bound)
      where
        serves_not : (ms : List ℕ) → lists ms c ≡ true → is_recovering ms ≡ false → ⊥
        serves_not [] a b = absurd (cc)
        serves_not (d ∷ ds) a b = absurd (cc)
