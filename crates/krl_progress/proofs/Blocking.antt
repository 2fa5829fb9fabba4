-- What becomes of a block: the waiter's tick calls the blocker back, which gives way.
use Rattle.krl_progress.proofs.Names.{◌≡◌, ◌≢◌, ℕ, zero, suc, ◌≤◌, ◌<◌, ◌+◌, ◌∙◌, inl, inr, Bool, true, false, not, ◌&&◌, ◌||◌, None, List, [], ◌∷◌, ◌++◌, refl, sym, ap, subst, arith, nat_eq, if◌then◌else◌, eq_cases, eq-eqb, eqb-true}
use Rattle.krl_progress.proofs.Names.{ToServer, ToClient, In, Server, is_recovering, State, ServerStep, Lowers, Waits, Acknowledges, case_of, effect, acknowledged, following, Following, Calls, Answers, Nothing, Ends, at_once, recovers, serves, Done, callbacks_after, AnswersWaiters, stops, goes_on, answer_first, callbacks, callbacks_from, callbacks_at, callbacks_among, is_compatible, callback_to, slots, max_clients, span_of, cap}
use Rattle.krl_modes.proofs.Basics.{not_both}
use Rattle.krl_modes.specs.declared.mode.Mode.{Mode}
use Rattle.krl_modes.specs.Modes.{at_most, compatible, meet}
use Rattle.krl_modes.specs.Spans.{within}
use Rattle.krl_messages.proofs.Members.{in_right, in_left}
use Rattle.krl_queue.specs.declared.waiter.Waiter.{Waiter}
use Rattle.krl_table.specs.Rows.{Row, mode_at, waits}
use Rattle.krl_table.specs.Calls.{wanted, with_mode}
use Rattle.krl_table.specs.Replies.{asks_absent}
use Rattle.krl_server.specs.declared.session.Session.{Session}
use Rattle.krl_server.specs.Effects.{lowers}
use Rattle.krl_server.specs.Cases.{case_of_lock, has_points}
use Rattle.krl_server.proofs.Tests.{if_both, if_case}
use Rattle.krl_server.proofs.Turns.{turn_is}
use Rattle.krl_server.proofs.Invariant.Kept.{server_keeps}
use Rattle.krl_progress.specs.Blocks.{Block, IsBlocked}
use Rattle.krl_progress.proofs.GivesWay.{capped, within_self}
use Rattle.krl_progress.proofs.AtOnce.{turn_rows, same_head}
use Rattle.krl_progress.proofs.Knowing.{turn_pushes}
use Rattle.krl_progress.proofs.Later.{turn_later, answered_later}
use Rattle.krl_progress.proofs.Sinking.{low_same, low_compatible, unpushed, same_incarnation, answered_durable}

-- Callbacks

in_from : (s : Server) (n : ℕ) (u : Waiter) (d c k : ℕ) → d ≤ c → c < d + k → is_compatible s n u c ≡ false → In (callback_to s c (span_of s.durable.index n) (cap (wanted (s.rows n) u))) (callbacks_from s n u d k)
in_from s n u d c zero low high blocks = absurd (omega (arith, low, high))
in_from s n u d c (suc k) low high blocks = if_case (λ xs. In (callback_to s c (span_of s.durable.index n) (cap (wanted (s.rows n) u))) xs) (is_compatible s n u d) (callbacks_from s n u (suc d) k) _
    (λ e. in_from s n u (suc d) c k (let ne = apart e in omega (arith, low, ne)) (omega (arith, high)) blocks)
    (λ e. eq_cases c d (λ f. inl (ap (λ x. callback_to s x (span_of s.durable.index n) (cap (wanted (s.rows n) u))) f)) (λ ne. inr (in_from s n u (suc d) c k (omega (arith, low, ne)) (omega (arith, high)) blocks)))
  where
    apart : is_compatible s n u d ≡ true → c ≢ d
    apart e f = not_both (is_compatible s n u d) e (ap (is_compatible s n u) (sym f) ∙ blocks)

in_among : (s : Server) (x : ToClient) (n : ℕ) (ns : List ℕ) → In n ns → In x (callbacks_at s n (s.rows n).queue) → In x (callbacks_among s ns)
in_among s x n [] at h = absurd at
in_among s x n (m ∷ ns) (inl e) h = in_left (callbacks_at s m (s.rows m).queue) (callbacks_among s ns) x (subst (λ y. In x (callbacks_at s y (s.rows y).queue)) e h)
in_among s x n (m ∷ ns) (inr at) h = in_right (callbacks_at s m (s.rows m).queue) (callbacks_among s ns) x (in_among s x n ns at h)

-- a client that blocks a first waiter is called back
pub blocker_called : (s : Server) (n : ℕ) (u : Waiter) (us : List Waiter) (c : ℕ) → In n (slots s.durable.index) → (s.rows n).queue ≡ u ∷ us → asks_absent s.durable.index u ≡ false → c < max_clients → is_compatible s n u c ≡ false → In (callback_to s c (span_of s.durable.index n) (cap (wanted (s.rows n) u))) (callbacks s)
blocker_called s n u us c at q possible near blocks =
    let x = callback_to s c (span_of s.durable.index n) (cap (wanted (s.rows n) u)) in
    in_among s x n (slots s.durable.index) at (subst (λ vs. In x (callbacks_at s n vs)) (sym q)
    (subst (λ b. In x (if b then [] else callbacks_from s n u 0 max_clients)) (sym possible) (in_from s n u 0 c max_clients (omega arith) (omega (arith, near)) blocks)))

-- A step that acts calls back

pub acts_calls : (done : Done) (kind : Following) (t : Server) (outs : List ToClient) (x : ToClient) → kind ≡ Calls → is_recovering t.missing ≡ false → Ends done kind t outs → In x (callbacks t) → In x outs
acts_calls done kind t outs x e up (at_once i) at = absurd (let bad : Calls ≡ Nothing = sym e ∙ i in cc)
acts_calls done kind t outs x e up (recovers g) at = absurd (not_both (is_recovering done.server.missing) g up)
acts_calls done kind t outs x e up (serves y answers ne g a) at = in_right done.outs (answers ++ callbacks_after kind y) x (in_right answers (callbacks_after kind y) x (subst (λ k. In x (callbacks_after k y)) (sym e) at))

pub lock_acts : (s : Server) (c req point hi : ℕ) (g : Mode) → following (case_of_lock s c req point hi g) ≡ Calls
lock_acts s c req point hi g = if_both (λ x. following x ≡ Calls) (nat_eq req (suc (s.sessions c).last_request) && (not (waits s.durable.index s.rows c) && has_points point hi)) (Waits req point hi g) Acknowledges refl refl

-- When the blocker has given way

-- while the waiter has had no answer, answers to others leave its row as it is
pub row_stays : (s t : Server) (outs : List ToClient) (n : ℕ) (u : Waiter) (us : List Waiter) → AnswersWaiters s t outs → (s.rows n).queue ≡ u ∷ us → (t.sessions u.client).last_push ≡ (s.sessions u.client).last_push → t.rows n ≡ s.rows n
row_stays s t outs n u us (stops x e) q same = refl
row_stays s t outs n u us (goes_on x y turn later e rest) q same = eq_cases n turn.slot here (there (row_stays (answer_first x turn).server y later n u us rest))
  where
    turned : (x.sessions u.client).last_push ≤ ((answer_first x turn).server.sessions u.client).last_push
    turned = unpushed x (answer_first x turn).server u.client (turn_later x turn u.client e) (same_incarnation x (answer_first x turn).server u.client (server_keeps.turn_durable x turn))

    after : ((answer_first x turn).server.sessions u.client).last_push ≤ (y.sessions u.client).last_push
    after = unpushed (answer_first x turn).server y u.client (answered_later (answer_first x turn).server y later u.client rest) (same_incarnation (answer_first x turn).server y u.client (answered_durable (answer_first x turn).server y later rest))

    here : n ≡ turn.slot → y.rows n ≡ x.rows n
    here f = absurd (
        let is = same_head turn.waiter u _ us (sym (turn_is x turn e).first ∙ ap (λ k. (x.rows k).queue) (sym f) ∙ q) in
        let more = ap (λ (z : Session). z.last_push) (turn_pushes x turn e).session in
        let mine = subst (λ (z : Waiter). ((answer_first x turn).server.sessions z.client).last_push ≡ suc (x.sessions z.client).last_push) is more in
        omega (arith, mine, after, same))

    there : (((answer_first x turn).server.rows n).queue ≡ u ∷ us → (y.sessions u.client).last_push ≡ ((answer_first x turn).server.sessions u.client).last_push → y.rows n ≡ (answer_first x turn).server.rows n) → n ≢ turn.slot → y.rows n ≡ x.rows n
    there rest_of ne = let row = turn_rows x turn n u us ne q in rest_of (ap (λ r. r.queue) row ∙ q) (omega (arith, turned, after, same)) ∙ row

pub not_compatible : (d c : ℕ) (b : Bool) → (nat_eq d c || b) ≡ false → b ≡ false
not_compatible d c b e = by_test (nat_eq d c) e
  where
    by_test : (a : Bool) → (a || b) ≡ false → b ≡ false
    by_test true f = absurd (cc)
    by_test false f = f

-- the callback was for a mode that is no less than what the waiter wants at the end
module _ (b : Block) (want : Mode) (z v : State) (h : IsBlocked b z) (g : IsBlocked b v) (enough : at_most (wanted (g.server.rows b.slot) b.waiter) want ≡ true) where
  abbrev keep : Mode
  keep = cap want

  abbrev mid : Server
  mid = lowers (acknowledged h.server b.blocker) b.blocker b.span keep

  abbrev lowered_row : Row
  lowered_row = with_mode (h.server.rows b.slot) b.blocker (meet (mode_at h.server.rows b.slot b.blocker) keep)

  row_is : mid.rows b.slot ≡ lowered_row
  row_is = ap (λ x. if x && within (span_of h.server.durable.index b.slot) b.span then lowered_row else h.server.rows b.slot) h.slot
      ∙ ap (λ x. if within x b.span then lowered_row else h.server.rows b.slot) h.span
      ∙ ap (λ x. if x then lowered_row else h.server.rows b.slot) (within_self b.span)

  -- whatever else is answered then, the blocker is compatible
  lowered_off : (y : Server) (answers : List ToClient) → y ≡ g.server → AnswersWaiters mid y answers → ⊥
  lowered_off y answers e a =
      let last : (y.sessions b.waiter.client).last_push ≡ (mid.sessions b.waiter.client).last_push = ap (λ (x : Server). (x.sessions b.waiter.client).last_push) e ∙ g.waiting.last ∙ sym h.waiting.last ∙ sym session_last in
      let same = row_stays mid y answers b.slot b.waiter h.behind a (ap (λ r. r.queue) row_is ∙ h.first) last ∙ row_is in
      let mode : mode_at y.rows b.slot b.blocker ≡ meet (mode_at h.server.rows b.slot b.blocker) keep = ap (λ r. r.modes b.blocker) same ∙ ap (λ (x : Bool). if x then meet (mode_at h.server.rows b.slot b.blocker) keep else (h.server.rows b.slot).modes b.blocker) (eq-eqb b.blocker b.blocker refl) in
      let below = subst (λ (x : Server). at_most (wanted (x.rows b.slot) b.waiter) want ≡ true) (sym e) enough in
      let good : compatible (wanted (y.rows b.slot) b.waiter) (mode_at y.rows b.slot b.blocker) ≡ true = low_compatible (wanted (y.rows b.slot) b.waiter) want (mode_at y.rows b.slot b.blocker) (meet (mode_at h.server.rows b.slot b.blocker) keep) below (low_same (mode_at y.rows b.slot b.blocker) (meet (mode_at h.server.rows b.slot b.blocker) keep) mode) (capped (mode_at h.server.rows b.slot b.blocker) want) in
      let bad = not_compatible b.blocker b.waiter.client _ (ap (λ (x : Server). is_compatible x b.slot b.waiter b.blocker) e ∙ g.blocks) in
      not_both _ good bad
    where
      session_last : (mid.sessions b.waiter.client).last_push ≡ (h.server.sessions b.waiter.client).last_push
      session_last = if_case (λ (x : Session). x.last_push ≡ (h.server.sessions b.waiter.client).last_push) (nat_eq b.waiter.client b.blocker) (record (h.server.sessions b.blocker) { unacked = None }) (h.server.sessions b.waiter.client) (λ e. ap (λ c. (h.server.sessions c).last_push) (sym (eqb-true b.waiter.client b.blocker e))) (λ e. refl)

  pub ends_off : (m : ToServer) (outs : List ToClient) → m.client ≡ b.blocker → case_of h.server m ≡ Lowers b.span keep → ServerStep h.server m g.server outs → ⊥
  ends_off m outs own e step = by_end (effect h.server m (case_of h.server m)) (following (case_of h.server m)) g.server outs (ap following e) (ap (λ k. (effect h.server m k).server) e ∙ ap (λ c. lowers (acknowledged h.server c) c b.span keep) own) refl step
    where
      by_end : (done : Done) (kind : Following) (t : Server) (outs : List ToClient) → kind ≡ Answers → done.server ≡ mid → t ≡ g.server → Ends done kind t outs → ⊥
      by_end done kind t outs q is f (at_once i) = let bad : Answers ≡ Nothing = sym q ∙ i in cc
      by_end done kind t outs q is f (recovers x) = not_both (is_recovering done.server.missing) x (ap (λ (y : Server). is_recovering y.missing) f ∙ g.serves)
      by_end done kind t outs q is f (serves y answers ne up a) = lowered_off y answers f (subst (λ x. AnswersWaiters x y answers) is a)
