-- What a client does keeps what it and the server know of its lock request.
use Rattle.krl_progress.proofs.Names.{◌≡◌, ℕ, suc, ◌∙◌, true, false, ◌&&◌, Option, Some, None, refl, sym, ap, subst, arith, nat_eq, if◌then◌else◌, ne_eqb, eqb-true, same_Some, Client, Rows}
use Rattle.krl_messages.specs.declared.to_client.PushBody.{PushBody}
use Rattle.krl_messages.specs.declared.to_client.PushBody.TheVariants as push
use Rattle.krl_modes.specs.declared.mode.Mode.{Mode}
use Rattle.krl_modes.proofs.Basics.{not_both}
use Rattle.krl_client.specs.Clients.{is_waiting, LockRequest, NotAsked, Granted, Absent, Dropped, Waiting}
use Rattle.krl_client.specs.Commands.{locked}
use Rattle.krl_client.specs.Messages.{accepted, joined, request_dropped, asked_after}
use Rattle.krl_server.specs.declared.session.Session.{Session}
use Rattle.krl_progress.specs.Answers.{answers_request}
use Rattle.krl_progress.proofs.Knowing.{IsClear, Asks, idle, untaken, stands, comes, Current, Fresh}

module _ (x : Session) (rows : Rows) (c : ℕ) (k : Client) (h : Current x rows c k) where
  -- if its request is the same
  pub alike : (l : Client) → l.seen ≡ k.seen → l.req ≡ k.req → l.asked ≡ k.asked → Current x rows c l
  alike l seen req asked = record { low = (let a = h.low in omega (arith, a, seen)); high = (let a = h.high in omega (arith, a, seen)); acked = λ e. h.acked e ∙ sym seen; request = by_request h.request }
    where
      by_request : Asks x rows c k → Asks x rows c l
      by_request (idle w r a q) = idle (ap is_waiting asked ∙ w) (req ∙ r) a (subst (λ n. IsClear x (suc n)) (sym req) q)
      by_request (untaken w r a q) = untaken (ap is_waiting asked ∙ w) (req ∙ r) a (subst (IsClear x) (sym req) q)
      by_request (stands w r u y all q) = stands (ap is_waiting asked ∙ w) (req ∙ r) u y (λ v z. all v z ∙ sym req) (subst (IsClear x) (sym req) q)
      by_request (comes w r a b e n y) = comes (ap is_waiting asked ∙ w) (req ∙ r) a b e (n ∙ ap (λ m. suc m) (sym seen)) (subst (λ m. answers_request m b ≡ true) (sym req) y)

  -- it asks for a lock
  pub asks_now : (point hi : ℕ) (g : Mode) → is_waiting k.asked ≡ false → Current x rows c (locked k point hi g)
  asks_now point hi g free = record { low = h.low; high = h.high; acked = h.acked; request = by_request h.request }
    where
      by_request : Asks x rows c k → Asks x rows c (locked k point hi g)
      by_request (idle w r a q) = untaken refl (ap (λ n. suc n) r) a q
      by_request (untaken w r a q) = absurd (not_both _ w free)
      by_request (stands w r u y all q) = absurd (not_both _ w free)
      by_request (comes w r a b e n y) = absurd (not_both _ w free)

  -- it accepts the push that is on its way
  module _ (b : PushBody) (next : x.last_push ≡ suc k.seen) (same : (b1 : PushBody) → x.unacked ≡ Some b1 → b ≡ b1) where
    is : x.unacked ≡ Some b
    is = by_push x.unacked refl
      where
        by_push : (o : Option PushBody) → x.unacked ≡ o → x.unacked ≡ Some b
        by_push None e = absurd (let a = h.acked e in omega (arith, a, next))
        by_push (Some b1) e = e ∙ ap (λ y. Some y) (sym (same b1 e))

    seen_all : (l : Client) → l.seen ≡ suc k.seen → Asks x rows c l → Current x rows c l
    seen_all l seen request = record { low = omega (arith, seen, next); high = omega (arith, seen, next); acked = λ e. next ∙ sym seen; request = request }

    -- an answer to a lock request
    replied : (req : ℕ) (reply : LockRequest) → is_waiting reply ≡ false → ((n : ℕ) → answers_request n b ≡ nat_eq req n) → (l : Client) → l.seen ≡ suc k.seen → l.req ≡ k.req → l.asked ≡ asked_after k req k.asked reply → Current x rows c l
    replied req reply free tells l seen number asked = seen_all l seen (by_request h.request)
      where
        -- it is no answer to the client's
        other : answers_request k.req b ≡ false → is_waiting k.asked ≡ true → l.asked ≡ k.asked
        other f w = asked ∙ (λ j. if w j && (sym (tells k.req) ∙ f) j then reply else k.asked)

        by_request : Asks x rows c k → Asks x rows c l
        by_request (idle w r a q) = idle (ap is_waiting asked ∙ ap (λ t. is_waiting (if t && nat_eq req k.req then reply else k.asked)) w ∙ w) (number ∙ r) a (subst (λ n. IsClear x (suc n)) (sym number) q)
        by_request (untaken w r a q) = untaken (ap is_waiting (other (q b is) w) ∙ w) (number ∙ r) a (subst (IsClear x) (sym number) q)
        by_request (stands w r u y all q) = stands (ap is_waiting (other (q b is) w) ∙ w) (number ∙ r) u y (λ v z. all v z ∙ sym number) (subst (IsClear x) (sym number) q)
        by_request (comes w r a b1 e n y) =
            let mine : answers_request k.req b ≡ true = subst (λ z. answers_request k.req z ≡ true) (sym (same b1 e)) y in
            let equal = eqb-true req k.req (sym (tells k.req) ∙ mine) in
            let done : l.asked ≡ reply = asked ∙ (λ j. if w j && (sym (tells k.req) ∙ mine) j then reply else k.asked) in
            idle (ap is_waiting done ∙ free) (number ∙ r) a
            (λ b2 f. subst (λ z. answers_request (suc l.req) z ≡ false) (same_Some b b2 (sym is ∙ f)) (tells (suc l.req) ∙ ne_eqb req (suc l.req) (λ z. omega (arith, z, equal, number))))

    pub accepts_now : (body : PushBody) → b ≡ body → Current x rows c (accepted k body)
    accepts_now (push.Grant req hs) e = replied req Granted refl (λ n. ap (answers_request n) e) (accepted k (push.Grant req hs)) refl refl refl
    accepts_now (push.Absent req point) e = replied req Absent refl (λ n. ap (answers_request n) e) (accepted k (push.Absent req point)) refl refl refl
    accepts_now (push.Answer number o y) e = seen_all (accepted k (push.Answer number o y)) refl (by_request h.request)
      where
        by_request : Asks x rows c k → Asks x rows c (accepted k (push.Answer number o y))
        by_request (idle w r a q) = idle w r a q
        by_request (untaken w r a q) = untaken w r a q
        by_request (stands w r u z all q) = stands w r u z all q
        by_request (comes w r a b1 f n z) = absurd (let bad = ap (answers_request k.req) (sym (same b1 f)) ∙ ap (answers_request k.req) e in not_both (answers_request k.req b1) z bad)

-- it joins the epoch of a server that has heard nothing of it there
pub not_waiting_on : (a : LockRequest) → is_waiting (request_dropped a) ≡ false
not_waiting_on NotAsked = refl
not_waiting_on Granted = refl
not_waiting_on Absent = refl
not_waiting_on Dropped = refl
not_waiting_on (Waiting point hi g) = refl

pub joins_now : (x : Session) (rows : Rows) (c : ℕ) (k : Client) (e : ℕ) → Fresh x rows c → x.last_push ≡ 0 → Current x rows c (joined k e)
joins_now x rows c k e f none = record {
  low = omega (arith, none);
  high = omega (arith, none);
  acked = λ g. none;
  request = idle (not_waiting_on k.asked) (sym f.none_taken) f.away (λ b g. absurd (let bad : None ≡ Some b = sym f.none_pushed ∙ g in cc));
}
