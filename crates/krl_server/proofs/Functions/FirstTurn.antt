-- The turn of a slot's first waiter, as the code takes it.
use Rattle.krl_server.proofs.Names.{◌≡◌, ℕ, suc, ◌<◌, ◌≤◌, length, inl, inr, arith, Bool, true, false, not, ◌&&◌, ◌||◌, Option, Some, None, List, [], ◌∷◌, refl, sym, ap, subst, ◌∙◌, nat_lt, is_some, if◌then◌else◌, END}
use Rattle.krl_server.proofs.Names.{Holding, In, Waiter, Index, is_slot, slots, Rows, front_of, front_dropped, behind_first, reached_slots, granted, asks_absent, is_wanted_compatible, reply_to, first_reply, answerable, Server}
use Rattle.krl_server.proofs.Names.{with_rows, holdings, push_to, Turn, can_push, is_answerable, turn_at, tells_absent, grants, pushes, turn_here, HasAnsweredFirst, Sent, Sends, waiting_on, waiting}
use Rattle.std.proofs.lemmas.Bool.{ltb-true, and_parts}
use Rattle.krl_messages.specs.declared.to_client.PushBody.TheVariants as push
use Rattle.krl_table.specs.declared.reply.Reply.{Reply}
use Rattle.krl_table.specs.declared.reply.Reply.TheVariants as reply
use Rattle.krl_server.proofs.Functions.StateChanges.{pushes_next}
use Rattle.krl_server.proofs.Invariant.Tabled.{slots_have}

-- the first of a list
pub front_is : (us : List Waiter) (u : Waiter) → front_of us ≡ Some u → us ≡ u ∷ behind_first us
front_is [] u e = absurd (cc)
front_is (v ∷ us) u e = cc

pub front_none : (us : List Waiter) → front_of us ≡ None → us ≡ []
front_none [] e = refl
front_none (v ∷ us) e = absurd (cc)

pub front_in : (us : List Waiter) (u : Waiter) → front_of us ≡ Some u → In u us
front_in us u e = subst (In u) (sym (front_is us u e)) (inl refl)

some_waits : (rows : Rows) (n : ℕ) (ns : List ℕ) (u : Waiter) → In n ns → front_of (rows n).queue ≡ Some u → 1 ≤ waiting_on rows ns
some_waits rows n [] u at e = absurd at
some_waits rows n (k ∷ ks) u (inl is) e =
    let long = ap (λ q. length q) (front_is (rows n).queue u e) in
    let here = ap (λ j. length (rows j).queue) is in
    omega (arith, long, here)
some_waits rows n (k ∷ ks) u (inr at) e = let ih = some_waits rows n ks u at e in omega (arith, ih)

-- if a slot has a first waiter somebody waits
pub front_waits : (s : Server) (n : ℕ) (u : Waiter) → is_slot s.durable.index n ≡ true → front_of (s.rows n).queue ≡ Some u → 1 ≤ waiting s
front_waits s n u there e = some_waits s.rows n (slots s.durable.index) u (slots_have s.durable.index n there) e

-- what a reply states

grant_says : (m : Index) (rows : Rows) (n : ℕ) (u : Waiter) → reply_to m rows n u ≡ Some reply.Grant → (asks_absent m u ≡ false) × (is_wanted_compatible rows n u ≡ true)
grant_says m rows n u = by_tests (asks_absent m u) (is_wanted_compatible rows n u)
  where
    by_tests : (a b : Bool) → (if a then Some reply.Absent else (if b then Some reply.Grant else None)) ≡ Some reply.Grant → (a ≡ false) × (b ≡ true)
    by_tests true b e = absurd (cc)
    by_tests false true e = (refl, refl)
    by_tests false false e = absurd (cc)

absent_says : (m : Index) (rows : Rows) (n : ℕ) (u : Waiter) → reply_to m rows n u ≡ Some reply.Absent → asks_absent m u ≡ true
absent_says m rows n u = by_tests (asks_absent m u) (is_wanted_compatible rows n u)
  where
    by_tests : (a b : Bool) → (if a then Some reply.Absent else (if b then Some reply.Grant else None)) ≡ Some reply.Absent → a ≡ true
    by_tests true b e = refl
    by_tests false true e = absurd (cc)
    by_tests false false e = absurd (cc)

none_says : (m : Index) (rows : Rows) (n : ℕ) (u : Waiter) → reply_to m rows n u ≡ None → (asks_absent m u || is_wanted_compatible rows n u) ≡ false
none_says m rows n u = by_tests (asks_absent m u) (is_wanted_compatible rows n u)
  where
    by_tests : (a b : Bool) → (if a then Some reply.Absent else (if b then Some reply.Grant else None)) ≡ None → (a || b) ≡ false
    by_tests true b e = absurd (cc)
    by_tests false true e = absurd (cc)
    by_tests false false e = refl

some_reply : (b : Bool) (o : Option Reply) (r : Reply) → (if b then o else None) ≡ Some r → (b ≡ true) × (o ≡ Some r)
some_reply true o r e = (refl, e)
some_reply false o r e = absurd (cc)

no_reply : (b : Bool) (o : Option Reply) (t : Bool) → (o ≡ None → t ≡ false) → (if b then o else None) ≡ None → (b && t) ≡ false
no_reply true o t f e = f e
no_reply false o t f e = refl

-- the push of a grant, from the rows that are raised
pub granted_push : (q mid : Server) (u : Waiter) (n : ℕ) (ns : List ℕ) (hs : List Holding) → mid ≡ with_rows q (granted q.durable.reach q.durable.index q.rows n) → ns ≡ reached_slots q.durable.reach q.durable.index q.rows n → hs ≡ holdings mid u.client ns → pushes mid u.client (push.Grant u.req hs) ≡ grants q (record { slot = n; waiter = u })
granted_push q mid u n ns hs e f h =
    ap (λ x. pushes mid u.client (push.Grant u.req x)) h
    ∙ ap (λ x. pushes x u.client (push.Grant u.req (holdings x u.client ns))) e
    ∙ ap (λ x. pushes (with_rows q (granted q.durable.reach q.durable.index q.rows n)) u.client (push.Grant u.req (holdings (with_rows q (granted q.durable.reach q.durable.index q.rows n)) u.client x))) f

-- the turn at a slot whose first waiter is u
module _ (s : Server) (n : ℕ) (u : Waiter) (first : front_of (s.rows n).queue ≡ Some u) where
  abbrev turn : Turn
  turn = record { slot = n; waiter = u }

  here : turn_here s n ≡ (if is_answerable s n u then Some (let x : Turn = record { slot = n; waiter = u } in x) else None)
  here = ap (λ q. turn_at s n q None) (front_is (s.rows n).queue u first)

  yes : is_answerable s n u ≡ true → turn_here s n ≡ Some (let x : Turn = record { slot = n; waiter = u } in x)
  yes e = here ∙ ap (λ b. if b then Some (let x : Turn = record { slot = n; waiter = u } in x) else None) e

  answer : (acked : Bool) → answerable s.durable.index s.rows n acked ≡ (if acked then reply_to s.durable.index s.rows n u else None)
  answer acked = ap (λ q. if acked then first_reply s.durable.index s.rows n q else None) (front_is (s.rows n).queue u first)

  pub not_answerable : (acked : Bool) → acked ≡ can_push (s.sessions u.client) → None ≡ answerable s.durable.index s.rows n acked → turn_here s n ≡ None
  not_answerable acked e a = here ∙ ap (λ b. if b then Some (let x : Turn = record { slot = n; waiter = u } in x) else None)
      (ap (λ b. b && (asks_absent s.durable.index u || is_wanted_compatible s.rows n u)) (sym e) ∙ no_reply acked (reply_to s.durable.index s.rows n u) (asks_absent s.durable.index u || is_wanted_compatible s.rows n u) (none_says s.durable.index s.rows n u) (sym (a ∙ answer acked)))

  module _ (acked : Bool) (is : acked ≡ can_push (s.sessions u.client)) where
    pushable : acked ≡ true → (s.sessions u.client).last_push < END
    pushable e = ltb-true (s.sessions u.client).last_push END (and_parts (not (is_some (s.sessions u.client).unacked)) (nat_lt (s.sessions u.client).last_push END) (sym is ∙ e)).1

    pub answered_grant : (t : Server) (old new : Sent) → Some reply.Grant ≡ answerable s.durable.index s.rows n acked → t ≡ (grants s (record { slot = n; waiter = u })).server → Sends old new (grants s (record { slot = n; waiter = u })).outs → HasAnsweredFirst s t n old new
    answered_grant t old new a server sends =
        let r = some_reply acked (reply_to s.durable.index s.rows n u) reply.Grant (sym (a ∙ answer acked)) in
        let g = grant_says s.durable.index s.rows n u r.1 in
        let body = push.Grant u.req (holdings (with_rows s (granted s.durable.reach s.durable.index s.rows n)) u.client (reached_slots s.durable.reach s.durable.index s.rows n)) in
        let x = push_to (with_rows s (granted s.durable.reach s.durable.index s.rows n)) u.client (suc (s.sessions u.client).last_push) body in
        let next = pushes_next (with_rows s (granted s.durable.reach s.durable.index s.rows n)) u.client body (pushable r.0) in
        let here_is = yes (ap (λ b. b && (asks_absent s.durable.index u || is_wanted_compatible s.rows n u)) (sym is ∙ r.0) ∙ ap (λ b. b || is_wanted_compatible s.rows n u) g.0 ∙ g.1) in
        let same = ap (λ b. if b then tells_absent s turn else grants s turn) g.0 in record {
          out = x;
          turned = record {
            turn = turn;
            here = here_is;
            server = server ∙ ap (λ d. d.server) (sym same);
            out = ap (λ d. d.outs) same ∙ ap (λ d. d.outs) next;
          };
          sends = subst (Sends old new) (ap (λ d. d.outs) next) sends;
        }

    pub answered_absent : (t : Server) (old new : Sent) → Some reply.Absent ≡ answerable s.durable.index s.rows n acked → t ≡ (tells_absent s (record { slot = n; waiter = u })).server → Sends old new (tells_absent s (record { slot = n; waiter = u })).outs → HasAnsweredFirst s t n old new
    answered_absent t old new a server sends =
        let r = some_reply acked (reply_to s.durable.index s.rows n u) reply.Absent (sym (a ∙ answer acked)) in
        let g = absent_says s.durable.index s.rows n u r.1 in
        let body = push.Absent u.req u.point in
        let x = push_to (with_rows s (front_dropped s.rows n)) u.client (suc (s.sessions u.client).last_push) body in
        let next = pushes_next (with_rows s (front_dropped s.rows n)) u.client body (pushable r.0) in
        let here_is = yes (ap (λ b. b && (asks_absent s.durable.index u || is_wanted_compatible s.rows n u)) (sym is ∙ r.0) ∙ ap (λ b. b || is_wanted_compatible s.rows n u) g) in
        let same = ap (λ b. if b then tells_absent s turn else grants s turn) g in record {
          out = x;
          turned = record {
            turn = turn;
            here = here_is;
            server = server ∙ ap (λ d. d.server) (sym same);
            out = ap (λ d. d.outs) same ∙ ap (λ d. d.outs) next;
          };
          sends = subst (Sends old new) (ap (λ d. d.outs) next) sends;
        }
