-- Acknowledging, sending the epoch, repeating a push, and the next push to a client.
use Rattle.krl_refinement.proofs.Names.{◌≡◌, ℕ, suc, ◌≤◌, Bool, true, false, not, Option, Some, None, List, [], ◌∷◌, ◌⊎◌, inl, refl, sym, ap, subst, ◌∙◌, none-some, same_Some, END, PushBody, In}
use Rattle.krl_refinement.proofs.Names.{Record, record_of, Head, Notice, Shared, Link, Passes, MaySay, AnswersLast, next, idle, notifies, takes_head, Logged, Steps, none, put, put_changed}
use Rattle.krl_refinement.proofs.Names.{heard_kept, link_steps, Session, Server, is_recovering, silent, epoch_to, push_to, with_session, acknowledged, pushes, if_case, not_both, BoundStays, WasSent}
use Rattle.krl_refinement.proofs.Names.{push_of, IsTold, IsRecord, LinkShows, IsHeardOf, Shows, view, world_of}
use Rattle.std.specs.Prelude.{nat_lt, is_some}
use Rattle.krl_messages.specs.declared.to_client.ToClientBody.TheVariants as told
use Rattle.krl_machine.specs.Links as links
use Rattle.krl_refinement.proofs.Server.Follows.{put_client, Goes, bound_same, put_shows, by_link, one_out, one_sent, up_phase, not_recovering, reg_is, record_kept, session_rest, at_session}
use Rattle.krl_refinement.proofs.Messages.{push_inc, push_epoch, push_number}

-- a link in which more is noted, by messages that the server's part does not name, is shown alike
noticed : (s : Server) (c : ℕ) (l : Link) (ns : List Notice) → LinkShows s c l → LinkShows s c (record l { notices = ns })
noticed s c l ns k = record { known = known (record_of s.durable.register c) k.known; missing = k.missing; last_push = k.last_push; acked = k.acked; unacked = k.unacked; range = k.range; key = k.key; new_range = k.new_range; new_key = k.new_key }
  where
    known : (o : Option Record) → IsRecord o l → IsRecord o (record l { notices = ns })
    known None x = x
    known (Some r) x = x

-- Epoch is sent, and nothing else
pub tells : (s : Server) (of : ℕ → Link) (log : List Logged) (cleared : ℕ → Bool) (c : ℕ) → ((d : ℕ) → cleared d ≡ false) → Shows s of → Goes s of log cleared (record { server = s; outs = epoch_to s c ∷ [] }) log
tells s of log cleared c not h =
    let k = h.link c in
    let n : Notice = record { inc = (of c).reg; epoch = s.durable.epoch } in
    let l : Link = record (of c) { notices = n ∷ (of c).notices } in
    by_link s s of log cleared c l (epoch_to s c ∷ []) refl (next (notifies (up_phase s.missing)) idle) refl
    (λ g. subst (λ b. BoundStays b (of c) l) (sym (not c)) (record { range = λ p. refl; key = λ p. refl }))
    (λ g d ne. not d)
    (noticed s c (of c) (n ∷ (of c).notices) k)
    (λ d ne x. x) h
    (λ m u at. heard_kept (view s) of (put of c l) c l (put_changed of c l) (λ x. x) u.client (h.heard m u at))
    (one_out l c (epoch_to s c) refl (inl (ap (λ x. let y : Notice = record { inc = x; epoch = s.durable.epoch } in y) (sym (reg_is (record_of s.durable.register c) (of c) k.known)))))

-- the unacknowledged push is sent again: no step at all
pub repeats : (s : Server) (of : ℕ → Link) (log : List Logged) (cleared : ℕ → Bool) (c : ℕ) (body : PushBody) → (s.sessions c).unacked ≡ Some body → ((d : ℕ) → cleared d ≡ false) → Shows s of → Goes s of log cleared (record { server = s; outs = push_to s c (s.sessions c).last_push body ∷ [] }) log
repeats s of log cleared c body e not h = record {
  after = of;
  steps = none;
  shows = h;
  sent = one_sent of (push_to s c (s.sessions c).last_push body) (subst (λ x. WasSent (of c) x (told.Push s.durable.epoch (s.sessions c).last_push body)) (reg_is (record_of s.durable.register c) (of c) (h.link c).known) ((h.link c).unacked body e));
  clients = λ d. refl;
  bound = λ g d. bound_same (cleared d) (of d) (not d);
}

-- The last push is acknowledged

pub acknowledges_steps : (s : Server) (of : ℕ → Link) (log : List Logged) (c : ℕ) (a : Head) → In a (of c).heads → Passes (view s) (of c) a → Steps (world_of s of log) (world_of (acknowledged s c) (put of c (record (of c) { acked = true })) log)
acknowledges_steps s of log c a at ok = link_steps (view s) log c (of c) (record (of c) { acked = true }) of (put of c (record (of c) { acked = true })) refl (next (takes_head a at ok) idle) (put_changed of c (record (of c) { acked = true }))

pub acknowledges_shows : (s : Server) (of : ℕ → Link) (c : ℕ) → Shows s of → Shows (acknowledged s c) (put of c (record (of c) { acked = true }))
acknowledges_shows s of c h =
    let k = h.link c in
    put_shows s (acknowledged s c) of c (record (of c) { acked = true })
    (at_session s c (record (s.sessions c) { unacked = None }) (record (of c) { acked = true })
    (record { known = record_kept (record_of s.durable.register c) (of c) (record (of c) { acked = true }) refl refl refl refl k.known; missing = k.missing; last_push = k.last_push; acked = refl; unacked = λ body e. absurd (none-some body e); range = k.range; key = k.key; new_range = k.new_range; new_key = k.new_key }))
    (λ d ne x. session_rest s c (record (s.sessions c) { unacked = None }) d (of d) ne x)
    h
    (λ n u at. heard_kept (view s) of (put of c (record (of c) { acked = true })) c (record (of c) { acked = true }) (put_changed of c (record (of c) { acked = true })) (λ x. x) u.client (h.heard n u at))

pub acknowledges : (s : Server) (of : ℕ → Link) (log : List Logged) (cleared : ℕ → Bool) (c : ℕ) (a : Head) → In a (of c).heads → Passes (view s) (of c) a → Shows s of → Goes s of log cleared (silent (acknowledged s c)) log
acknowledges s of log cleared c a at ok h = record {
  after = put of c (record (of c) { acked = true });
  steps = acknowledges_steps s of log c a at ok;
  shows = acknowledges_shows s of c h;
  sent = λ o x. absurd x;
  clients = put_client of c (record (of c) { acked = true }) refl;
  bound = λ g. absurd (not_both (is_recovering s.missing) g (not_recovering s.missing ok.serving));
}

-- what a push must state of the row
pub record Fits (s : Shared) (l : Link) (p : links.Push) : Type 0 where
  pub says : (q : ℕ) (t : links.Said) → p.says q ≡ Some t → MaySay s l q t
  pub answer : (p.answers ≡ 0) ⊎ AnswersLast l p

pub pushes_on : (s : Server) (of : ℕ → Link) (log : List Logged) (cleared : ℕ → Bool) (c : ℕ) (body : PushBody) → (view s).phase ≡ links.Serving → 1 ≤ s.durable.epoch → IsTold body → IsHeardOf (view s) (of c) → (s.sessions c).unacked ≡ None → Fits (view s) (of c) (push_of (of c).reg s.durable.epoch (suc (s.sessions c).last_push) body) → Shows s of → Goes s of log cleared (pushes s c body) log
pushes_on s of log cleared c body serving begun is_told able free fit h = if_case (λ x. Goes s of log cleared x log) (nat_lt (s.sessions c).last_push END) _ _ (λ lt.
    let k = h.link c in
    let p = push_of (of c).reg s.durable.epoch (suc (s.sessions c).last_push) body in
    let session : Session = record (s.sessions c) { last_push = suc (s.sessions c).last_push; unacked = Some body } in
    let l : Link = record (of c) { last_push = suc (of c).last_push; acked = false; pushes = p ∷ (of c).pushes } in
    by_link s (with_session s c session) of log cleared c l (push_to s c (suc (s.sessions c).last_push) body ∷ []) refl
    (next (links.pushes p able.0 able.1 able.2 able.3 serving able.4 (k.acked ∙ ap (λ x. not (is_some x)) free) (push_inc (of c).reg s.durable.epoch (suc (s.sessions c).last_push) body) (push_epoch (of c).reg s.durable.epoch (suc (s.sessions c).last_push) body) (push_number (of c).reg s.durable.epoch (suc (s.sessions c).last_push) body ∙ ap (λ x. suc x) (sym k.last_push)) fit.says fit.answer) idle)
    refl (λ g. absurd (serves g)) (λ g d ne. absurd (serves g))
    (at_session s c session l (record {
      known = record_kept (record_of s.durable.register c) (of c) l refl refl refl refl k.known;
      missing = k.missing;
      last_push = ap (λ x. suc x) k.last_push;
      acked = refl;
      unacked = λ other e. subst (λ x. WasSent l l.reg (told.Push s.durable.epoch (suc (s.sessions c).last_push) x)) (same_Some body other e) (inl refl, begun, is_told);
      range = k.range;
      key = k.key;
      new_range = k.new_range;
      new_key = k.new_key;
    }))
    (λ d ne x. session_rest s c session d (of d) ne x) h
    (λ n u at. heard_kept (view s) of (put of c l) c l (put_changed of c l) (λ x. x) u.client (h.heard n u at))
    (one_out l c (push_to s c (suc (s.sessions c).last_push) body) refl (inl (ap (λ x. push_of x s.durable.epoch (suc (s.sessions c).last_push) body) (sym (reg_is (record_of s.durable.register c) (of c) k.known))), begun, is_told)))
    (λ spent. record { after = of; steps = none; shows = h; sent = λ o at. absurd at; clients = λ d. refl; bound = λ g. absurd (serves g) })
  where
    serves : is_recovering s.missing ≡ true → ⊥
    serves g = not_both (is_recovering s.missing) g (not_recovering s.missing serving)
