-- Hello of a new incarnation, and Bye.
use Rattle.krl_refinement.proofs.Names.{◌≡◌, ◌≢◌, ℕ, ◌<◌, Bool, true, false, Option, Some, List, [], ◌∷◌, inl, refl, sym, ap, subst, ◌∙◌, arith, none-some, In, Record, record_of, with_record}
use Rattle.krl_refinement.proofs.Names.{new_record, left_by, mode_at, range_at, key_at, cleared, Notice, Link, next, idle, registers, sees_off, no_range, no_key, Logged, put, put_changed, Session}
use Rattle.krl_refinement.proofs.Names.{Server, blank_session, lists, unlist, incarnation_or_0, silent, epoch_to, departs, same_range, same_key, blank_range, blank_key, mode_here, mode_other}
use Rattle.krl_refinement.proofs.Names.{session_here, session_other, record_here, record_other, unlist_here, unlist_other, not_both, WasSent, IsRecord, LinkIs, IsHeardOf, Shows, machine_phase}
use Rattle.krl_refinement.proofs.Names.{view_of, view, BoundStays}
use Rattle.krl_modes.specs.declared.mode.Mode.TheVariants as mode
use Rattle.krl_table.proofs.Invariant.Stands.{in_unqueue}
use Rattle.krl_server.specs.Effects as effects
use Rattle.krl_refinement.proofs.Server.Follows.{Goes, at_put, put_bound, one_out, up_phase, reg_is}
use Rattle.krl_refinement.proofs.Server.Recovering.{regroup}

-- what is shown of the others when c's modes become N
pub cleared_rest : (s : Server) (c : ℕ) (o : Option Record) (b b' : Bool) (session session' : Session) (d : ℕ) (l : Link) → d ≢ c → b' ≡ b → session' ≡ session → LinkIs (view s) o b session (range_at s.durable.index s.rows d) (key_at s.durable.index s.rows d) l → LinkIs (view s) o b' session' (range_at s.durable.index (cleared s.rows c) d) (key_at s.durable.index (cleared s.rows c) d) l
cleared_rest s c o b b' session session' d l ne eb el h =
    let same : (n : ℕ) → mode_at s.rows n d ≡ mode_at (cleared s.rows c) n d = λ n. sym (mode_other (s.rows n).modes c d mode.N ne) in
    let er = same_range s.durable.index s.rows (cleared s.rows c) d same in
    let ek = same_key s.durable.index s.rows (cleared s.rows c) d same in
    subst (λ y. LinkIs (view s) o b' y (range_at s.durable.index (cleared s.rows c) d) (key_at s.durable.index (cleared s.rows c) d) l) (sym el)
    (record { known = h.known; missing = h.missing ∙ sym eb; last_push = h.last_push; acked = h.acked; unacked = h.unacked; range = λ p q. h.range p q ∙ er q; key = λ p q. h.key p q ∙ ek q; new_range = λ p q. h.new_range p q ∙ er q; new_key = λ p q. h.new_key p q ∙ ek q })

bound_blank : (b : Bool) (l m : Link) → b ≡ true → m.top_range ≡ no_range → m.top_key ≡ no_key → BoundStays b l m
bound_blank b l m e r k = subst (λ x. BoundStays x l m) (sym e) (record { range = λ p. ap (λ f. f p) r; key = λ p. ap (λ f. f p) k })

pub registers_follow : (s : Server) (of : ℕ → Link) (log : List Logged) (cleared' : ℕ → Bool) (c inc : ℕ) → cleared' c ≡ true → ((d : ℕ) → d ≢ c → cleared' d ≡ false) → In inc (of c).hellos → incarnation_or_0 (record_of s.durable.register c) < inc → Shows s of → Goes s of log cleared' (let t = effects.registers s c inc in record { server = t; outs = epoch_to t c ∷ [] }) log
registers_follow s of log cleared' c inc this others at lt h =
    let n : Notice = record { inc = inc; epoch = s.durable.epoch } in
    let l : Link = record (of c) { reg = inc; left = false; done = 0; missing = false; last_push = 0; acked = true; new_range = no_range; new_key = no_key; top_range = no_range; top_key = no_key; notices = n ∷ (of c).notices } in
    let t = effects.registers s c inc in
    let m = s.durable.index in
    let ch = put_changed of c l in
    let x = new_record inc in
    let reg = reg_is (record_of s.durable.register c) (of c) (h.link c).known in
    let none_held : (n : ℕ) → mode_at (cleared s.rows c) n c ≡ mode.N = λ n. mode_here (s.rows n).modes c mode.N in
    regroup s t s.missing c l of log cleared' (epoch_to t c ∷ []) refl
    (next (registers inc at (up_phase s.missing) (omega (arith, reg, lt))) idle) refl
    (put_bound of c l cleared' (bound_blank (cleared' c) (of c) l this refl refl) others)
    (at_put (λ d y. LinkIs (view_of t.durable (machine_phase s.missing)) (record_of t.durable.register d) (lists t.missing d) (t.sessions d) (range_at m t.rows d) (key_at m t.rows d) y) of c l
    (subst (λ y. LinkIs (view s) (record_of t.durable.register c) (lists t.missing c) y (range_at m t.rows c) (key_at m t.rows c) l) (sym (session_here s.sessions c blank_session))
    (record {
      known = subst (λ o. IsRecord o l) (sym (record_here s.durable.register c x)) (record { reg = refl; left = refl; done = λ n. refl; applied = λ o n e. absurd (none-some o e) });
      missing = sym (unlist_here s.missing c);
      last_push = refl;
      acked = refl;
      unacked = λ body e. absurd (none-some body e);
      range = λ p q. sym (blank_range m t.rows c none_held q);
      key = λ p q. sym (blank_key m t.rows c none_held q);
      new_range = λ p q. sym (blank_range m t.rows c none_held q);
      new_key = λ p q. sym (blank_key m t.rows c none_held q);
    }))
    (λ d ne. subst (λ o. LinkIs (view s) o (lists t.missing d) (t.sessions d) (range_at m t.rows d) (key_at m t.rows d) (of d)) (sym (record_other s.durable.register c d x ne))
    (cleared_rest s c (record_of s.durable.register d) (lists s.missing d) (lists t.missing d) (s.sessions d) (t.sessions d) d (of d) ne (unlist_other s.missing c d ne) (session_other s.sessions c d blank_session ne) (h.link d))))
    (λ n u v. let y = in_unqueue (s.rows n).queue c u v in subst (IsHeardOf (view s)) (sym (ch.rest u.client y.1)) (h.heard n u y.0))
    (λ o v. let y = one_out l c (epoch_to t c) refl (inl (ap (λ z. let a : Notice = record { inc = z; epoch = s.durable.epoch } in a) (ap incarnation_or_0 (record_here s.durable.register c x)))) o v in subst (λ z. WasSent z o.incarnation o.body) (sym (ap (put of c l) y.0 ∙ ch.here)) y.1)

pub leaves_follow : (s : Server) (of : ℕ → Link) (log : List Logged) (cleared' : ℕ → Bool) (c inc : ℕ) (r : Record) → cleared' c ≡ true → ((d : ℕ) → d ≢ c → cleared' d ≡ false) → record_of s.durable.register c ≡ Some r → In inc (of c).byes → inc ≡ r.incarnation → Shows s of → Goes s of log cleared' (silent (departs s c)) log
leaves_follow s of log cleared' c inc r this others known at same h =
    let l : Link = record (of c) { left = true; missing = false; new_range = no_range; new_key = no_key; top_range = no_range; top_key = no_key } in
    let x : Record = record r { left = true } in
    let d1 = record s.durable { register = with_record s.durable.register c x } in
    let t : Server = record s { durable = d1; rows = cleared s.rows c; missing = unlist s.missing c } in
    let m = s.durable.index in
    let ch = put_changed of c l in
    let k = h.link c in
    let old : IsRecord (Some r) (of c) = subst (λ o. IsRecord o (of c)) known k.known in
    let none_held : (n : ℕ) → mode_at (cleared s.rows c) n c ≡ mode.N = λ n. mode_here (s.rows n).modes c mode.N in
    subst (λ d. Goes s of log cleared' (silent (record s { durable = d; rows = cleared s.rows c; missing = unlist s.missing c })) log) (sym (ap (left_by s.durable c) known))
    (regroup s t s.missing c l of log cleared' [] refl
    (next (sees_off inc at (up_phase s.missing) (same ∙ sym old.reg)) idle) refl
    (put_bound of c l cleared' (bound_blank (cleared' c) (of c) l this refl refl) others)
    (at_put (λ d y. LinkIs (view_of t.durable (machine_phase s.missing)) (record_of t.durable.register d) (lists t.missing d) (t.sessions d) (range_at m t.rows d) (key_at m t.rows d) y) of c l
    (record {
      known = subst (λ o. IsRecord o l) (sym (record_here s.durable.register c x)) (record { reg = old.reg; left = refl; done = λ n. absurd (not_both true refl n); applied = λ o n e. absurd (not_both true refl n) });
      missing = sym (unlist_here s.missing c);
      last_push = k.last_push;
      acked = k.acked;
      unacked = k.unacked;
      range = λ p q. sym (blank_range m t.rows c none_held q);
      key = λ p q. sym (blank_key m t.rows c none_held q);
      new_range = λ p q. sym (blank_range m t.rows c none_held q);
      new_key = λ p q. sym (blank_key m t.rows c none_held q);
    })
    (λ d ne. subst (λ o. LinkIs (view s) o (lists t.missing d) (t.sessions d) (range_at m t.rows d) (key_at m t.rows d) (of d)) (sym (record_other s.durable.register c d x ne))
    (cleared_rest s c (record_of s.durable.register d) (lists s.missing d) (lists t.missing d) (s.sessions d) (t.sessions d) d (of d) ne (unlist_other s.missing c d ne) refl (h.link d))))
    (λ n u v. let y = in_unqueue (s.rows n).queue c u v in subst (IsHeardOf (view s)) (sym (ch.rest u.client y.1)) (h.heard n u y.0))
    (λ o v. absurd v))
