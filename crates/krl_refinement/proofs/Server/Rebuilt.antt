-- A report that is taken.
use Rattle.krl_refinement.proofs.Names.{◌≡◌, ℕ, Bool, true, false, Some, List, [], refl, sym, subst, ◌∙◌, Pieces, ToServer, In, Record, record_of, column, range_at, key_at, adopted, Link, next, idle}
use Rattle.krl_refinement.proofs.Names.{takes_report, Logged, put, put_changed, heard_kept, Server, lists, Rebuilds, effect, adopts, IsSound, same_range, same_key, unlist_here, unlist_other}
use Rattle.krl_refinement.proofs.Names.{adopted_others, adopted_queue, report_of, Stands, IsRecord, LinkIs, Shows, machine_phase, view, BoundStays}
use Rattle.krl_messages.specs.declared.to_server.ToServerBody.TheVariants as said
use Rattle.krl_machine.specs.Links as links
use Rattle.krl_machine.specs.Tables as machine
use Rattle.krl_refinement.proofs.Server.Meaning.{range_is, key_is}
use Rattle.krl_refinement.proofs.Server.Follows.{listed_phase, Goes, at_put, put_bound, not_two, record_kept}
use Rattle.krl_refinement.proofs.Server.Recovering.{regroup}
use Rattle.krl_refinement.proofs.Server.Reported.{report_shown}

pub rebuilds_follow : (s : Server) (of : ℕ → Link) (log : List Logged) (cleared : ℕ → Bool) (m : ToServer) (epoch : ℕ) (pieces : Pieces) (r : Record) → IsSound s → record_of s.durable.register m.client ≡ Some r → m.incarnation ≡ r.incarnation → epoch ≡ s.durable.epoch → lists s.missing m.client ≡ true → Stands (of m.client) m.incarnation (said.Report epoch pieces) → ((c : ℕ) → cleared c ≡ false) → Shows s of → Goes s of log cleared (effect s m (Rebuilds pieces)) log
rebuilds_follow s of log cleared m epoch pieces r i known inc now missing at none h =
    let c = m.client in
    let index = s.durable.index in
    let rows = adopted index s.rows c pieces in
    let t = adopts s c pieces in
    let phase = machine_phase s.missing in
    let on : phase ≡ links.Recovering = listed_phase s.missing c missing in
    let k = h.link c in
    let old : IsRecord (Some r) (of c) = subst (λ o. IsRecord o (of c)) known k.known in
    let l : Link = record (of c) { missing = false; new_range = machine.range_at (view s) (column rows c); new_key = machine.key_at (view s) (column rows c) } in
    let ch = put_changed of c l in
    regroup s t s.missing c l of log cleared [] refl
    (next (takes_report (report_of m.incarnation epoch pieces) (machine.range_at (view s) (column rows c)) (machine.key_at (view s) (column rows c)) at.0 on (k.missing ∙ missing) (inc ∙ sym old.reg) now
    (report_shown index s.durable.epoch phase i.near s.rows c m.incarnation epoch pieces at.1)) idle)
    refl
    (put_bound of c l cleared (subst (λ b. BoundStays b (of c) l) (sym (none c)) (record { range = λ p. refl; key = λ p. refl })) (λ d ne. none d))
    (at_put (λ d y. LinkIs (view s) (record_of s.durable.register d) (lists t.missing d) (s.sessions d) (range_at index rows d) (key_at index rows d) y) of c l
    (record {
      known = record_kept (record_of s.durable.register c) (of c) l refl refl refl refl k.known;
      missing = sym (unlist_here s.missing c);
      last_push = k.last_push;
      acked = k.acked;
      unacked = k.unacked;
      range = λ p q. absurd (not_two phase p on);
      key = λ p q. absurd (not_two phase p on);
      new_range = λ p q. sym (range_is index s.durable.epoch phase i.near rows c q);
      new_key = λ p q. sym (key_is index s.durable.epoch phase i.near rows c q);
    })
    (λ d ne. let x = h.link d in
    let er = same_range index s.rows rows d (adopted_others index s.rows c pieces d ne) in
    let ek = same_key index s.rows rows d (adopted_others index s.rows c pieces d ne) in
    record { known = x.known; missing = x.missing ∙ sym (unlist_other s.missing c d ne); last_push = x.last_push; acked = x.acked; unacked = x.unacked; range = λ p q. x.range p q ∙ er q; key = λ p q. x.key p q ∙ ek q; new_range = λ p q. x.new_range p q ∙ er q; new_key = λ p q. x.new_key p q ∙ ek q }))
    (λ n u v. heard_kept (view s) of (put of c l) c l ch (λ z. z) u.client (h.heard n u (subst (In u) (adopted_queue index s.rows c pieces n) v)))
    (λ o v. absurd v)
