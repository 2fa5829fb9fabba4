-- An old server sends its epoch, counts a push as acknowledged, makes the next push.
use Rattle.krl_failover.proofs.Refinement.Names.{◌≡◌, ℕ, suc, ◌≤◌, inl, inr, true, false, nat_lt, Option, Some, None, [], ◌∷◌, refl, sym, ap, subst, ◌∙◌, none-some, same_Some, END, In}
use Rattle.krl_failover.proofs.Refinement.Names.{PushBody, ToClient, Record, record_of, Head, Notice, Push, Link, put, put_changed, Session, Server, set_session, incarnation_or_0, Done, silent}
use Rattle.krl_failover.proofs.Refinement.Names.{with_session, acknowledged, epoch_to, push_to, pushes, session_here, session_other, if_case, WasSent, IsTold, push_of, Grows, grows_not, Kept, Fenced}
use Rattle.krl_failover.proofs.Refinement.Names.{FencedStep, FencedSteps, stays_so, on_then, IsRecordKept, CountsAre, ShowsOld}
use Rattle.krl_messages.specs.declared.to_client.ToClientBody.TheVariants as told
use Rattle.krl_refinement.proofs.Server.Follows.{one_sent}
use Rattle.krl_failover.specs.Steps.{old_notifies, old_hears}
use Rattle.krl_failover.proofs.Refinement.Beside.{Beside, beside_self, beside_on, steps_after, keep, keep_turned, Moved, moved_beside, ShowsRest, moved_shows}

-- the machine continues to a world that shows the old server after what it did
pub record Goes (s : Server) (f : Fenced) (done : Done) : Type 0 where
  pub fenced : Fenced
  pub steps : FencedSteps f fenced
  pub beside : Beside s.durable.epoch f fenced
  pub shows : ShowsOld done.server fenced
  pub sent : (o : ToClient) → In o done.outs → WasSent (fenced.world.links o.client) o.incarnation o.body

-- no step
abbrev pub goes_not : (s t : Server) (f : Fenced) → ShowsOld t f → Goes s f (silent t)
goes_not s t f h = record { fenced = f; steps = stays_so; beside = beside_self s.durable.epoch f; shows = h; sent = λ o at. absurd at }

-- some steps, in which nothing is sent, and then more
pub goes_on : (s t : Server) (f : Fenced) (done : Done) → t.durable.epoch ≡ s.durable.epoch → (a : Goes s f (silent t)) → Goes t a.fenced done → Goes s f done
goes_on s t f done same a b = record {
  fenced = b.fenced;
  steps = steps_after f a.fenced b.fenced a.steps b.steps;
  beside = beside_on s.durable.epoch f a.fenced b.fenced a.beside (subst (λ x. Beside x a.fenced b.fenced) same b.beside);
  shows = b.shows;
  sent = b.sent;
}

pub kept_reg : (o : Option Record) (z : Kept) → IsRecordKept o z → z.reg ≡ incarnation_or_0 o
kept_reg None z h = h.reg
kept_reg (Some r) z h = h.reg

pub record_stays : (o : Option Record) (y z : Kept) → z.reg ≡ y.reg → z.done ≡ y.done → z.applied ≡ y.applied → IsRecordKept o y → IsRecordKept o z
record_stays None y z a b d h = record { reg = a ∙ h.reg; done = b ∙ h.done }
record_stays (Some r) y z a b d h = record { reg = a ∙ h.reg; done = λ n. b ∙ h.done n; applied = λ o n e. d ∙ h.applied o n e }

-- the others are shown as before, if one session is another
pub rest_stays : (s : Server) (f : Fenced) (c : ℕ) (x : Session) → ShowsOld s f → ShowsRest s (with_session s c x) f c
rest_stays s f c x h = record {
  count = λ d ne. subst (λ y. CountsAre s.durable.epoch (record_of s.durable.register d) y (f.world.links d) (f.old s.durable.epoch d)) (sym (session_other s.sessions c d x ne)) (h.link d);
  bound = λ is d ne. h.rows is d;
  rebuilt = λ lt d ne. h.rebuilds lt d;
}

-- It sends its epoch

pub tells : (s : Server) (f : Fenced) (c : ℕ) → 1 ≤ s.durable.epoch → ShowsOld s f → Goes s f (record { server = s; outs = epoch_to s c ∷ [] })
tells s f c begun h =
    let e = s.durable.epoch in
    let z = f.old e c in
    let n : Notice = record { inc = z.reg; epoch = e } in
    let l : Link = record (f.world.links c) { notices = n ∷ (f.world.links c).notices } in
    let g : Fenced = record f { world = record f.world { links = put f.world.links c l } } in
    let ch = put_changed f.world.links c l in
    let k = h.link c in
    let more : Grows (f.world.links c) l = record { hellos = λ x a. a; byes = λ x a. a; heads = λ x a. a; releases = λ x a. a; writes = λ x a. a; reports = λ x a. a; notices = λ x a. inr a; pushes = λ x a. a } in
    let m : Moved e c l z f g = record { shared = refl; log = refl; links = ch; old = record { here = refl; rest = λ x d ne. refl }; copy = refl; bound = refl } in
    let b = moved_beside e c l z f g m (record { client = refl; part = refl; grows = more; reg = refl; still = λ ne. (refl, refl); gone = λ out. (refl, refl) }) in
    record {
      fenced = g;
      steps = on_then stays_so (old_notifies e c (put f.world.links c l) begun h.old ch);
      beside = b;
      shows = moved_shows s s.rows s.sessions f g c l z m b h
          (record {
            count = record { known = k.known; last = k.last; acked = k.acked; unacked = k.unacked };
            bound = λ is. let r = h.rows is c in record { here = r.here; gone = r.gone };
            rebuilt = λ lt. let r = h.rebuilds lt c in record { missing = r.missing; new = r.new; gone = r.gone };
          })
          (record { count = λ d ne. h.link d; bound = λ is d ne. h.rows is d; rebuilt = λ lt d ne. h.rebuilds lt d })
          h.heard;
      sent = one_sent (put f.world.links c l) (epoch_to s c) (subst (λ x. WasSent x (incarnation_or_0 (record_of s.durable.register c)) (told.Epoch e)) (sym ch.here) (inl (ap (λ x. let a : Notice = record { inc = x; epoch = e } in a) (sym (kept_reg (record_of s.durable.register c) z k.known)))));
    }

-- Its last push is acknowledged

pub acknowledges : (s : Server) (f : Fenced) (c : ℕ) (a : Head) → 1 ≤ s.durable.epoch → In a (f.world.links c).heads → a.inc ≡ (f.old s.durable.epoch c).reg → a.epoch ≡ s.durable.epoch → a.seen ≡ (s.sessions c).last_push → ShowsOld s f → Goes s f (silent (acknowledged s c))
acknowledges s f c a begun at inc now seen h =
    let e = s.durable.epoch in
    let l = f.world.links c in
    let z : Kept = record (f.old e c) { acked = true } in
    let g : Fenced = record f { old = keep f.old e c z } in
    let turned = keep_turned f.old e c z in
    let x : Session = record (s.sessions c) { unacked = None } in
    let k = h.link c in
    let m : Moved e c l z f g = record { shared = refl; log = refl; links = record { here = refl; rest = λ d ne. refl }; old = turned; copy = refl; bound = refl } in
    let b = moved_beside e c l z f g m (record { client = refl; part = refl; grows = grows_not l; reg = refl; still = λ ne. (refl, refl); gone = λ out. (refl, refl) }) in
    record {
      fenced = g;
      steps = on_then stays_so (old_hears e c a (keep f.old e c z) begun h.old at inc now (seen ∙ sym k.last) turned);
      beside = b;
      shows = moved_shows s s.rows (set_session s.sessions c x) f g c l z m b h
          (record {
            count = subst (λ y. CountsAre e (record_of s.durable.register c) y l z) (sym (session_here s.sessions c x)) (record { known = record_stays (record_of s.durable.register c) (f.old e c) z refl refl refl k.known; last = k.last; acked = refl; unacked = λ body is. absurd (none-some body is) });
            bound = λ is. let r = h.rows is c in record { here = r.here; gone = r.gone };
            rebuilt = λ lt. let r = h.rebuilds lt c in record { missing = r.missing; new = r.new; gone = r.gone };
          })
          (rest_stays s f c x h)
          h.heard;
      sent = λ o y. absurd y;
    }

-- It makes the next push

-- this push is sent, and not acknowledged yet
abbrev pub with_push : Fenced → ℕ → ℕ → Push → Fenced
with_push f e c p = record f {
  world = record f.world { links = put f.world.links c (record (f.world.links c) { pushes = p ∷ (f.world.links c).pushes }) };
  old = keep f.old e c (record (f.old e c) { last = suc (f.old e c).last; acked = false });
}

pub pushes_on : (s : Server) (f : Fenced) (c : ℕ) (body : PushBody) → 1 ≤ s.durable.epoch → IsTold body → FencedStep f (with_push f s.durable.epoch c (push_of (f.old s.durable.epoch c).reg s.durable.epoch (suc (s.sessions c).last_push) body)) → ShowsOld s f → Goes s f (pushes s c body)
pushes_on s f c body begun is_told step h = if_case (λ x. Goes s f x) (nat_lt (s.sessions c).last_push END) _ _
    (λ lt.
    let e = s.durable.epoch in
    let y = f.old e c in
    let number = suc (s.sessions c).last_push in
    let p = push_of y.reg e number body in
    let l : Link = record (f.world.links c) { pushes = p ∷ (f.world.links c).pushes } in
    let z : Kept = record y { last = suc y.last; acked = false } in
    let x : Session = record (s.sessions c) { last_push = number; unacked = Some body } in
    let g = with_push f e c p in
    let ch = put_changed f.world.links c l in
    let k = h.link c in
    let more : Grows (f.world.links c) l = record { hellos = λ v a. a; byes = λ v a. a; heads = λ v a. a; releases = λ v a. a; writes = λ v a. a; reports = λ v a. a; notices = λ v a. a; pushes = λ v a. inr a } in
    let m : Moved e c l z f g = record { shared = refl; log = refl; links = ch; old = keep_turned f.old e c z; copy = refl; bound = refl } in
    let b = moved_beside e c l z f g m (record { client = refl; part = refl; grows = more; reg = refl; still = λ ne. (refl, refl); gone = λ out. (refl, refl) }) in
    record {
      fenced = g;
      steps = on_then stays_so step;
      beside = b;
      shows = moved_shows s s.rows (set_session s.sessions c x) f g c l z m b h
          (record {
            count = subst (λ v. CountsAre e (record_of s.durable.register c) v l z) (sym (session_here s.sessions c x)) (record {
              known = record_stays (record_of s.durable.register c) y z refl refl refl k.known;
              last = ap (λ v. suc v) k.last;
              acked = refl;
              unacked = λ other is. subst (λ v. WasSent l y.reg (told.Push e number v)) (same_Some body other is) (inl refl, begun, is_told);
            });
            bound = λ is. let r = h.rows is c in record { here = r.here; gone = r.gone };
            rebuilt = λ lt. let r = h.rebuilds lt c in record { missing = r.missing; new = r.new; gone = r.gone };
          })
          (rest_stays s f c x h)
          h.heard;
      sent = one_sent g.world.links (push_to s c number body) (subst (λ v. WasSent v (incarnation_or_0 (record_of s.durable.register c)) (told.Push e number body)) (sym ch.here) (inl (ap (λ v. push_of v e number body) (sym (kept_reg (record_of s.durable.register c) y k.known))), begun, is_told));
    })
    (λ spent. goes_not s s f h)
