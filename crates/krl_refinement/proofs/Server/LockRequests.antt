-- A lock request that is taken.
use Rattle.krl_refinement.proofs.Names.{◌≡◌, ℕ, Bool, true, List, refl, sym, ap, subst, ◌∙◌, ⊎_elim, In, Waiter, slot_of, record_of, Row, set_row, range_at, key_at, with_queue, queue_with, Head}
use Rattle.krl_refinement.proofs.Names.{Link, Passes, Logged, eq_cases, put, put_changed, Session, Server, is_recovering, lists, set_session, silent, acknowledged, queues, same_range, same_key}
use Rattle.krl_refinement.proofs.Names.{row_modes, session_here, session_other, not_both, LinkIs, LinkShows, IsHeardOf, Shows, view, WasSent}
use Rattle.std.specs.Prelude.{is_some, not}
use Rattle.krl_messages.specs.declared.to_client.ToClientBody.TheVariants as told
use Rattle.krl_table.proofs.Invariant.Stands.{in_queue_with}
use Rattle.krl_server.proofs.Turns.{in_row}
use Rattle.krl_refinement.proofs.Server.Follows.{Goes, relink, put_client, not_recovering}
use Rattle.krl_refinement.proofs.Server.Pushes.{acknowledges_steps, acknowledges_shows}

-- a link shows no request numbers
other_session : (s : Server) (d : ℕ) (l : Link) (y : Session) → y.last_push ≡ (s.sessions d).last_push → y.unacked ≡ (s.sessions d).unacked → LinkShows s d l → LinkIs (view s) (record_of s.durable.register d) (lists s.missing d) y (range_at s.durable.index s.rows d) (key_at s.durable.index s.rows d) l
other_session s d l y e f k = record {
  known = k.known;
  missing = k.missing;
  last_push = k.last_push ∙ sym e;
  acked = k.acked ∙ ap (λ o. not (is_some o)) (sym f);
  unacked = λ body g. subst (λ n. WasSent l l.reg (told.Push s.durable.epoch n body)) (sym e) (k.unacked body (sym f ∙ g));
  range = k.range;
  key = k.key;
  new_range = k.new_range;
  new_key = k.new_key;
}

asked_session : (sessions : ℕ → Session) (c asked d : ℕ) → ((set_session sessions c (record (sessions c) { last_request = asked }) d).last_push ≡ (sessions d).last_push) × ((set_session sessions c (record (sessions c) { last_request = asked }) d).unacked ≡ (sessions d).unacked)
asked_session sessions c asked d = eq_cases d c
    (λ e. subst (λ x. ((set_session sessions c (record (sessions c) { last_request = asked }) x).last_push ≡ (sessions x).last_push) × ((set_session sessions c (record (sessions c) { last_request = asked }) x).unacked ≡ (sessions x).unacked)) (sym e)
    (ap (λ y. y.last_push) (session_here sessions c (record (sessions c) { last_request = asked })), ap (λ y. y.unacked) (session_here sessions c (record (sessions c) { last_request = asked }))))
    (λ ne. let e = session_other sessions c d (record (sessions c) { last_request = asked }) ne in (ap (λ y. y.last_push) e, ap (λ y. y.unacked) e))

-- the request waits: no step
pub queues_shows : (s : Server) (of : ℕ → Link) (u : Waiter) → IsHeardOf (view s) (of u.client) → Shows s of → Shows (queues s u) of
queues_shows s of u able h =
    let n = slot_of s.durable.index u.point in
    let row : Row = with_queue (s.rows n) (queue_with (s.rows n) u) in
    let rows = set_row s.rows n row in
    record {
      link = λ d. let a = asked_session s.sessions u.client u.req d in
          relink (view s) (record_of s.durable.register d) (lists s.missing d) (set_session s.sessions u.client (record (s.sessions u.client) { last_request = u.req }) d) (range_at s.durable.index s.rows d) (range_at s.durable.index rows d) (key_at s.durable.index s.rows d) (key_at s.durable.index rows d) (of d)
          (same_range s.durable.index s.rows rows d (row_modes s.rows n row d refl)) (same_key s.durable.index s.rows rows d (row_modes s.rows n row d refl))
          (other_session s d (of d) (set_session s.sessions u.client (record (s.sessions u.client) { last_request = u.req }) d) a.0 a.1 (h.link d));
      heard = λ m v at. ⊎_elim
          (λ (x : (m ≡ n) × In v row.queue). ⊎_elim (λ (e : v ≡ u). subst (λ y. IsHeardOf (view s) (of y.client)) (sym e) able) (λ (old : In v (s.rows n).queue). h.heard n v old) (in_queue_with (s.rows n) u v x.1))
          (λ (old : In v (s.rows m).queue). h.heard m v old)
          (in_row s.rows n row m v at);
    }

pub waits_follow : (s : Server) (of : ℕ → Link) (log : List Logged) (cleared : ℕ → Bool) (u : Waiter) (a : Head) → In a (of u.client).heads → Passes (view s) (of u.client) a → Shows s of → Goes s of log cleared (silent (queues (acknowledged s u.client) u)) log
waits_follow s of log cleared u a at ok h =
    let l : Link = record (of u.client) { acked = true } in
    let ch = put_changed of u.client l in record {
      after = put of u.client l;
      steps = acknowledges_steps s of log u.client a at ok;
      shows = queues_shows (acknowledged s u.client) (put of u.client l) u (subst (IsHeardOf (view s)) (sym ch.here) (a, at, ok.inc, ok.epoch, ok.here)) (acknowledges_shows s of u.client h);
      sent = λ o x. absurd x;
      clients = put_client of u.client l refl;
      bound = λ g. absurd (not_both (is_recovering s.missing) g (not_recovering s.missing ok.serving));
    }
