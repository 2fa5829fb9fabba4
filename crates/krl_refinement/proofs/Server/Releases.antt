-- A release that is obeyed.
use Rattle.krl_refinement.proofs.Names.{◌≡◌, ℕ, suc, ◌≤◌, ◌<◌, Bool, true, None, List, ◌⊎◌, inl, inr, refl, sym, ap, subst, ◌∙◌, arith, nat_tests, and_parts, none-some, Mode, range_of, key_of, meet}
use Rattle.krl_refinement.proofs.Names.{range_meet, key_meet, Bounds, within, In, Index, span_of, record_of, max_clients, mode_at, column, range_at, key_at, Head, Release, Link, Passes, IsSlot}
use Rattle.krl_refinement.proofs.Names.{InSpan, SlotLowered, next, idle, takes_head, takes_release, Logged, slot_near, table_row, release_lowers, put, put_changed, heard_kept, link_steps, Session}
use Rattle.krl_refinement.proofs.Names.{Server, is_recovering, lists, set_session, IsSound, span_here, same_range, same_key, mode_here, session_here, not_both, low_row, lowered_others}
use Rattle.krl_refinement.proofs.Names.{lowered_queue, last_of, LinkIs, Shows, view}
use Rattle.std.specs.Prelude.{nat_le}
use Rattle.krl_modes.proofs.ModeLaws.{meet-parts}
use Rattle.krl_table.specs.Calls.{lowered}
use Rattle.krl_machine.specs.Tables as machine
use Rattle.krl_server.specs.Effects.{silent, acknowledged, lowers}
use Rattle.krl_refinement.proofs.Server.Meaning.{range_is, key_is}
use Rattle.krl_refinement.proofs.Server.Follows.{Goes, relink, put_client, put_shows, session_rest, not_two, not_recovering, record_kept}
use Rattle.krl_refinement.proofs.Server.Judged.{row_shows}

-- the points of a span that lies within another
span_within : (m : Index) (n : ℕ) (span : Bounds) → within (span_of m n) span ≡ true → (span.lo ≤ (span_of m n).lo) × (suc n ≤ span.hi)
span_within m n span e = let x = and_parts (nat_le span.lo (span_of m n).lo) (nat_le (span_of m n).hi span.hi) e in
    (at_most span.lo (span_of m n).lo x.0, at_most (span_of m n).hi span.hi x.1)
  where
    at_most : (a b : ℕ) → nat_le a b ≡ true → a ≤ b
    at_most a b e = grind (arith, nat_tests)

pub lowers_follow : (s : Server) (of : ℕ → Link) (log : List Logged) (cleared : ℕ → Bool) (c : ℕ) (a : Head) (span : Bounds) (keep : Mode) → c < max_clients → IsSound s → In (let r : Release = record { head = a; lo = span.lo; last = last_of span; range = range_of keep; key = key_of keep } in r) (of c).releases → In a (of c).heads → Passes (view s) (of c) a → Shows s of → Goes s of log cleared (silent (lowers (acknowledged s c) c span keep)) log
lowers_follow s of log cleared c a span keep lt i at head ok h =
    let r : Release = record { head = a; lo = span.lo; last = last_of span; range = range_of keep; key = key_of keep } in
    let m = s.durable.index in
    let rows = lowered m s.rows c span keep in
    let t = lowers (acknowledged s c) c span keep in
    let k = h.link c in
    let old = column s.rows c in
    let new = column rows c in
    let l1 : Link = record (of c) { acked = true } in
    let l : Link = record l1 { top_range = machine.range_at (view s) new; top_key = machine.key_at (view s) new } in
    let ch = put_changed of c l in
    let session : Session = record (s.sessions c) { unacked = None } in
    let row = row_shows s i c (of c) k ok.serving in
    let passed : Passes (view s) l1 a = record { serving = ok.serving; here = ok.here; inc = ok.inc; epoch = ok.epoch; seen = ok.seen } in
    let low : (n : ℕ) → IsSlot (view s) n → SlotLowered (view s) r l1 (machine.range_at (view s) new) (machine.key_at (view s) new) n = λ n slot.
    release_lowers (view s) i.near r l1 old new row.range row.key n slot
    (low_row m s.rows c span keep n (λ x. ((range_of (x.modes c) ≡ range_of (old n)) × (key_of (x.modes c) ≡ key_of (old n))) ⊎ (((q : ℕ) → InSpan (view s) n q → (span.lo ≤ q) × (q ≤ last_of span)) × (range_of (x.modes c) ≡ range_meet (range_of (old n)) (range_of keep)) × (key_of (x.modes c) ≡ key_meet (key_of (old n)) (key_of keep))))
    (λ w. let x = span_within m n span w in
    let g = mode_here (s.rows n).modes c (meet (mode_at s.rows n c) keep) in
    inr (
      (λ q near. let y = (span_here m i.near n q (slot_near (view s) i.near n slot)).0 near in (omega (arith, x.0, y.0), omega (arith, x.1, y.1))),
      ap range_of g ∙ (meet-parts (mode_at s.rows n c) keep).range,
      ap key_of g ∙ (meet-parts (mode_at s.rows n c) keep).key,
    ))
    (inl (refl, refl))) in
    record {
      after = put of c l;
      steps = link_steps (view s) log c (of c) l of (put of c l) refl (next (takes_head a head ok) (next (takes_release r (machine.range_at (view s) new) (machine.key_at (view s) new) at passed refl low (table_row (view s) i.near new)) idle)) ch;
      shows = put_shows s t of c l
          (subst (λ y. LinkIs (view s) (record_of s.durable.register c) (lists s.missing c) y (range_at m rows c) (key_at m rows c) l) (sym (session_here s.sessions c session))
          (record {
            known = record_kept (record_of s.durable.register c) (of c) l refl refl refl refl k.known;
            missing = k.missing;
            last_push = k.last_push;
            acked = refl;
            unacked = λ body e. absurd (none-some body e);
            range = λ p q. sym (range_is m s.durable.epoch (view s).phase i.near rows c q);
            key = λ p q. sym (key_is m s.durable.epoch (view s).phase i.near rows c q);
            new_range = λ p q. absurd (not_two (view s).phase ok.serving p);
            new_key = λ p q. absurd (not_two (view s).phase ok.serving p);
          }))
          (λ d ne x. relink (view s) (record_of s.durable.register d) (lists s.missing d) (set_session s.sessions c session d) (range_at m s.rows d) (range_at m rows d) (key_at m s.rows d) (key_at m rows d) (of d)
          (same_range m s.rows rows d (lowered_others m s.rows c span keep d ne)) (same_key m s.rows rows d (lowered_others m s.rows c span keep d ne))
          (session_rest s c session d (of d) ne x))
          h (λ n u v. heard_kept (view s) of (put of c l) c l ch (λ z. z) u.client (h.heard n u (subst (In u) (lowered_queue m s.rows c span keep n) v)));
      sent = λ o x. absurd x;
      clients = put_client of c l refl;
      bound = λ g. absurd (not_both (is_recovering s.missing) g (not_recovering s.missing ok.serving));
    }
