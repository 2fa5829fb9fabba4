-- The answering of first waiters ends, in one way.
use Rattle.krl_server.proofs.Names.{◌≡◌, ◌≢◌, ℕ, zero, suc, ◌+◌, ◌≤◌, Bool, true, false, Option, Some, None, List, [], ◌∷◌, ◌++◌, length, ◌⊎◌, inl, inr, refl, sym, ap, subst, ◌∙◌, ⊎_elim, arith}
use Rattle.krl_server.proofs.Names.{length-append, none-some, same_Some, nat_lt, if◌then◌else◌, END, ToClient, PushBody, ToServer, In, Waiter, eq_cases, slots, Row, Rows, set_row, with_queue}
use Rattle.krl_server.proofs.Names.{grant_first, granted_first, behind_first, front_dropped, granted, asks_absent, Server, is_recovering, case_of, Done, with_rows, pushes, effect, Turn, is_answerable}
use Rattle.krl_server.proofs.Names.{turn_at, turn_among, next_turn, tells_absent, grants, answer_first, AnswersWaiters, stops, goes_on, Following, Nothing, Answers, Calls, following, callbacks_after, Ends, at_once, recovers}
use Rattle.krl_server.proofs.Names.{serves, ServerStep, waiting_on, waiting}
use Rattle.krl_server.proofs.Updates.{row_here, row_other}
use Rattle.krl_modes.proofs.Basics.{not_both}
use Rattle.krl_server.proofs.Tests.{if_both}
use Rattle.krl_server.proofs.Grants.{granted_queue}
use Rattle.krl_server.proofs.Turns.{turn_is}

-- the turn's slot is one of those
place_of : (s : Server) (ns : List ℕ) (t : Turn) → turn_among s ns ≡ Some t → In t.slot ns
place_of s [] t e = absurd (none-some t e)
place_of s (n ∷ ns) t e = by_queue (s.rows n).queue (place_of s ns t) e
  where
    by_queue : (us : List Waiter) → (turn_among s ns ≡ Some t → In t.slot ns) → turn_at s n us (turn_among s ns) ≡ Some t → In t.slot (n ∷ ns)
    by_queue [] ih f = inr (ih f)
    by_queue (u ∷ us) ih f = by_test (is_answerable s n u) f
      where
        by_test : (b : Bool) → (if b then Some (let x : Turn = record { slot = n; waiter = u } in x) else turn_among s ns) ≡ Some t → In t.slot (n ∷ ns)
        by_test true g = let x : Turn = record { slot = n; waiter = u } in inl (ap (λ y. y.slot) (sym (same_Some x t g)))
        by_test false g = inr (ih g)

-- What a turn leaves

pub pushes_durable : (s : Server) (c : ℕ) (body : PushBody) → (pushes s c body).server.durable ≡ s.durable
pushes_durable s c body = if_both (λ (x : Done). x.server.durable ≡ s.durable) (nat_lt (s.sessions c).last_push END) _ _ refl refl

pub pushes_rows : (s : Server) (c : ℕ) (body : PushBody) → (pushes s c body).server.rows ≡ s.rows
pushes_rows s c body = if_both (λ (x : Done). x.server.rows ≡ s.rows) (nat_lt (s.sessions c).last_push END) _ _ refl refl

pub pushes_few : (s : Server) (c : ℕ) (body : PushBody) → length (pushes s c body).outs ≤ 1
pushes_few s c body = if_both (λ (x : Done). length x.outs ≤ 1) (nat_lt (s.sessions c).last_push END) _ _ (omega arith) (omega arith)

pub turn_few : (s : Server) (t : Turn) → length (answer_first s t).outs ≤ 1
turn_few s t = if_both (λ (x : Done). length x.outs ≤ 1) (asks_absent s.durable.index t.waiter) (tells_absent s t) (grants s t) (pushes_few (with_rows s (front_dropped s.rows t.slot)) t.waiter.client _) (pushes_few (with_rows s (granted s.durable.reach s.durable.index s.rows t.slot)) t.waiter.client _)

pub turn_durable : (s : Server) (t : Turn) → (answer_first s t).server.durable ≡ s.durable
turn_durable s t = if_both (λ (x : Done). x.server.durable ≡ s.durable) (asks_absent s.durable.index t.waiter) (tells_absent s t) (grants s t) (pushes_durable (with_rows s (front_dropped s.rows t.slot)) t.waiter.client _) (pushes_durable (with_rows s (granted s.durable.reach s.durable.index s.rows t.slot)) t.waiter.client _)

-- each row waits for as many as before, except for the turn's slot, which waits for one less
pub record Shorter (old new : Rows) (slot : ℕ) : Type 0 where
  pub here : suc (length (new slot).queue) ≤ length (old slot).queue
  pub rest : (n : ℕ) → n ≢ slot → length (new n).queue ≤ length (old n).queue

set_shorter : (old : Rows) (slot : ℕ) (row : Row) → suc (length row.queue) ≤ length (old slot).queue → Shorter old (set_row old slot row) slot
set_shorter old slot row le = record {
  here = subst (λ r. suc (length r.queue) ≤ length (old slot).queue) (sym (row_here old slot row)) le;
  rest = λ n ne. subst (λ r. length r.queue ≤ length (old n).queue) (sym (row_other old slot row n ne)) (omega arith);
}

as_short : (old new other : Rows) (slot : ℕ) → ((n : ℕ) → (other n).queue ≡ (new n).queue) → Shorter old new slot → Shorter old other slot
as_short old new other slot same x = record {
  here = subst (λ q. suc (length q) ≤ length (old slot).queue) (sym (same slot)) x.here;
  rest = λ n ne. subst (λ q. length q ≤ length (old n).queue) (sym (same n)) (x.rest n ne);
}

first_less : (u : Waiter) (us qs : List Waiter) → qs ≡ u ∷ us → suc (length us) ≤ length qs
first_less u us qs e = rw e (omega arith)

behind : (us : List Waiter) (u : Waiter) → us ≡ u ∷ behind_first us → suc (length (behind_first us)) ≤ length us
behind us u e = first_less u (behind_first us) us e

granted_less : (row : Row) (us : List Waiter) (u : Waiter) → us ≡ u ∷ behind_first us → suc (length (grant_first row us).queue) ≤ length us
granted_less row [] u e = absurd (cc)
granted_less row (v ∷ us) u e = omega arith

turn_shorter : (s : Server) (t : Turn) → next_turn s ≡ Some t → Shorter s.rows (answer_first s t).server.rows t.slot
turn_shorter s t e =
    let first = (turn_is s t e).first in
    if_both (λ (x : Done). Shorter s.rows x.server.rows t.slot) (asks_absent s.durable.index t.waiter) (tells_absent s t) (grants s t)
    (subst (λ r. Shorter s.rows r t.slot) (sym (pushes_rows (with_rows s (front_dropped s.rows t.slot)) t.waiter.client _))
    (set_shorter s.rows t.slot (with_queue (s.rows t.slot) (behind_first (s.rows t.slot).queue)) (behind (s.rows t.slot).queue t.waiter first)))
    (subst (λ r. Shorter s.rows r t.slot) (sym (pushes_rows (with_rows s (granted s.durable.reach s.durable.index s.rows t.slot)) t.waiter.client _))
    (as_short s.rows (granted_first s.rows t.slot) (granted s.durable.reach s.durable.index s.rows t.slot) t.slot (granted_queue s.durable.reach s.durable.index s.rows t.slot)
    (set_shorter s.rows t.slot (grant_first (s.rows t.slot) (s.rows t.slot).queue) (granted_less (s.rows t.slot) (s.rows t.slot).queue t.waiter first))))

no_more : (old new : Rows) (slot : ℕ) (ns : List ℕ) → Shorter old new slot → waiting_on new ns ≤ waiting_on old ns
no_more old new slot [] x = omega arith
no_more old new slot (n ∷ ns) x = let ih = no_more old new slot ns x in eq_cases n slot
    (λ e. let h = subst (λ k. length (new k).queue ≤ length (old k).queue) (sym e) (let y = x.here in omega (arith, y)) in omega (arith, ih, h))
    (λ ne. let h = x.rest n ne in omega (arith, ih, h))

one_less : (old new : Rows) (slot : ℕ) (ns : List ℕ) → In slot ns → Shorter old new slot → suc (waiting_on new ns) ≤ waiting_on old ns
one_less old new slot [] at x = absurd at
one_less old new slot (n ∷ ns) (inl e) x = let rest = no_more old new slot ns x in let h = subst (λ k. suc (length (new k).queue) ≤ length (old k).queue) e x.here in omega (arith, rest, h)
one_less old new slot (n ∷ ns) (inr at) x = let ih = one_less old new slot ns at x in eq_cases n slot
    (λ e. let h = subst (λ k. length (new k).queue ≤ length (old k).queue) (sym e) (let y = x.here in omega (arith, y)) in omega (arith, ih, h))
    (λ ne. let h = x.rest n ne in omega (arith, ih, h))

-- each answer takes a waiter away
pub turn_less : (s : Server) (t : Turn) → next_turn s ≡ Some t → suc (waiting (answer_first s t).server) ≤ waiting s
turn_less s t e = subst (λ d. suc (waiting_on (answer_first s t).server.rows (slots d.index)) ≤ waiting s) (sym (turn_durable s t))
    (one_less s.rows (answer_first s t).server.rows t.slot (slots s.durable.index) (place_of s (slots s.durable.index) t e) (turn_shorter s t e))

pub answered_less : (s t : Server) (outs : List ToClient) → AnswersWaiters s t outs → waiting t + length outs ≤ waiting s
answered_less s t outs (stops s' e) = omega arith
answered_less s t outs (goes_on s' t' turn later e rest) =
    let ih = answered_less (answer_first s turn).server t later rest in
    let less = turn_less s turn e in
    let few = turn_few s turn in
    omega (arith, ih, less, few, length-append (answer_first s turn).outs later)

-- An end

pub record AnEnd (s : Server) : Type 0 where
  pub after : Server
  pub outs : List ToClient
  pub answered : AnswersWaiters s after outs

go_on : (s : Server) (t : Turn) → next_turn s ≡ Some t → AnEnd (answer_first s t).server → AnEnd s
go_on s t e x = record { after = x.after; outs = (answer_first s t).outs ++ x.outs; answered = goes_on s x.after t x.outs e x.answered }

by_turn : (s : Server) (o : Option Turn) → next_turn s ≡ o → ((t : Turn) → next_turn s ≡ Some t → AnEnd (answer_first s t).server) → AnEnd s
by_turn s None e more = record { after = s; outs = []; answered = stops s e }
by_turn s (Some t) e more = go_on s t e (more t e)

ends_within : (k : ℕ) (s : Server) → waiting s ≤ k → AnEnd s
ends_within zero s le = by_turn s (next_turn s) refl (λ t e. absurd (let less = turn_less s t e in omega (arith, less, le)))
ends_within (suc k) s le = by_turn s (next_turn s) refl (λ t e. ends_within k (answer_first s t).server (let less = turn_less s t e in omega (arith, less, le)))

pub answering_ends : (s : Server) → AnEnd s
answering_ends s = ends_within (waiting s) s (omega arith)

-- One end

went : (s t : Server) (outs : List ToClient) → AnswersWaiters s t outs → ((next_turn s ≡ None) × (t ≡ s) × (outs ≡ [])) ⊎ ((turn : Turn) × (later : List ToClient) × (next_turn s ≡ Some turn) × AnswersWaiters (answer_first s turn).server t later × (outs ≡ (answer_first s turn).outs ++ later))
went s t outs (stops s' e) = inl (e, refl, refl)
went s t outs (goes_on s' t' turn later e rest) = inr (turn, later, e, rest, refl)

pub one_answering : (s t u : Server) (outs others : List ToClient) → AnswersWaiters s t outs → AnswersWaiters s u others → (t ≡ u) × (outs ≡ others)
one_answering s t u outs others (stops s' e) b = ⊎_elim
    (λ (x : (next_turn s ≡ None) × (u ≡ s) × (others ≡ [])). (sym x.1, sym x.2))
    (λ (x : (turn : Turn) × (later : List ToClient) × (next_turn s ≡ Some turn) × AnswersWaiters (answer_first s turn).server u later × (others ≡ (answer_first s turn).outs ++ later)). absurd (none-some x.0 (sym e ∙ x.2)))
    (went s u others b)
one_answering s t u outs others (goes_on s' t' turn later e rest) b = ⊎_elim
    (λ (x : (next_turn s ≡ None) × (u ≡ s) × (others ≡ [])). absurd (none-some turn (sym x.0 ∙ e)))
    (λ (x : (turn : Turn) × (later : List ToClient) × (next_turn s ≡ Some turn) × AnswersWaiters (answer_first s turn).server u later × (others ≡ (answer_first s turn).outs ++ later)).
    let same = same_Some x.0 turn (sym x.2 ∙ e) in
    let ih = one_answering (answer_first s turn).server t u later x.1 rest (subst (λ y. AnswersWaiters (answer_first s y).server u x.1) same x.3) in (
      ih.0,
      ap (λ y. (answer_first s turn).outs ++ y) ih.1 ∙ ap (λ y. (answer_first s y).outs ++ x.1) (sym same)
          ∙ sym x.4,
    ))
    (went s u others b)

-- Steps

by_kind : (k : Following) → (k ≡ Nothing) ⊎ (k ≢ Nothing)
by_kind Nothing = inl refl
by_kind Answers = inr (λ e. absurd (cc))
by_kind Calls = inr (λ e. absurd (cc))

by_phase : (done : Done) (kind : Following) → kind ≢ Nothing → (b : Bool) → is_recovering done.server.missing ≡ b → (t : Server) × (outs : List ToClient) × Ends done kind t outs
by_phase done kind acts true e = (done.server, done.outs, recovers e)
by_phase done kind acts false e = let x = answering_ends done.server in (x.after, done.outs ++ (x.outs ++ callbacks_after kind x.after), serves x.after x.outs acts e x.answered)

pub step_ends : (s : Server) (m : ToServer) → (t : Server) × (outs : List ToClient) × ServerStep s m t outs
step_ends s m = let done = effect s m (case_of s m) in let kind = following (case_of s m) in
    ⊎_elim (λ (e : kind ≡ Nothing). (done.server, done.outs, at_once e)) (λ (ne : kind ≢ Nothing). by_phase done kind ne (is_recovering done.server.missing) refl) (by_kind kind)

-- how a step ended
ended : (done : Done) (kind : Following) (t : Server) (outs : List ToClient) → Ends done kind t outs → (((kind ≡ Nothing) ⊎ (is_recovering done.server.missing ≡ true)) × (t ≡ done.server) × (outs ≡ done.outs)) ⊎ ((answers : List ToClient) × (kind ≢ Nothing) × (is_recovering done.server.missing ≡ false) × AnswersWaiters done.server t answers × (outs ≡ done.outs ++ (answers ++ callbacks_after kind t)))
ended done kind t outs (at_once e) = inl (inl e, refl, refl)
ended done kind t outs (recovers e) = inl (inr e, refl, refl)
ended done kind t outs (serves t' answers acts e rest) = inr (answers, acts, e, rest, refl)

pub one_end : (done : Done) (kind : Following) (t u : Server) (outs others : List ToClient) → Ends done kind t outs → Ends done kind u others → (t ≡ u) × (outs ≡ others)
one_end done kind t u outs others a b = join (ended done kind t outs a) (ended done kind u others b)
  where
    join : (((kind ≡ Nothing) ⊎ (is_recovering done.server.missing ≡ true)) × (t ≡ done.server) × (outs ≡ done.outs)) ⊎ ((answers : List ToClient) × (kind ≢ Nothing) × (is_recovering done.server.missing ≡ false) × AnswersWaiters done.server t answers × (outs ≡ done.outs ++ (answers ++ callbacks_after kind t))) → (((kind ≡ Nothing) ⊎ (is_recovering done.server.missing ≡ true)) × (u ≡ done.server) × (others ≡ done.outs)) ⊎ ((answers : List ToClient) × (kind ≢ Nothing) × (is_recovering done.server.missing ≡ false) × AnswersWaiters done.server u answers × (others ≡ done.outs ++ (answers ++ callbacks_after kind u))) → (t ≡ u) × (outs ≡ others)
    join (inl x) (inl y) = (x.1 ∙ sym y.1, x.2 ∙ sym y.2)
    join (inl x) (inr y) = absurd (⊎_elim (λ (e : kind ≡ Nothing). y.1 e) (λ (g : is_recovering done.server.missing ≡ true). not_both (is_recovering done.server.missing) g y.2) x.0)
    join (inr x) (inl y) = absurd (⊎_elim (λ (e : kind ≡ Nothing). x.1 e) (λ (g : is_recovering done.server.missing ≡ true). not_both (is_recovering done.server.missing) g x.2) y.0)
    join (inr x) (inr y) = let z = one_answering done.server t u x.0 y.0 x.3 y.3 in
        (z.0, x.4 ∙ ap (λ v. done.outs ++ (v ++ callbacks_after kind t)) z.1 ∙ ap (λ v. done.outs ++ (y.0 ++ callbacks_after kind v)) z.0 ∙ sym y.4)

none_left : (us : List Waiter) → length us ≤ 0 → us ≡ []
none_left [] h = refl
none_left (u ∷ us) h = absurd (omega (arith, h))

-- nobody comes to a slot where nobody waits
pub turn_empties : (s : Server) (t : Turn) → next_turn s ≡ Some t → (k : ℕ) → (s.rows k).queue ≡ [] → ((answer_first s t).server.rows k).queue ≡ []
turn_empties s t e k none =
    let x = turn_shorter s t e in
    let zero = ap (λ us. length us) none in
    none_left ((answer_first s t).server.rows k).queue (eq_cases k t.slot
    (λ f. let h = subst (λ n. suc (length ((answer_first s t).server.rows n).queue) ≤ length (s.rows n).queue) (sym f) x.here in omega (arith, h, zero))
    (λ ne. let h = x.rest k ne in omega (arith, h, zero)))

-- and a turn leaves nobody at a slot where only one waited
pub turn_empties_here : (s : Server) (t : Turn) → next_turn s ≡ Some t → (k : ℕ) → length (s.rows k).queue ≡ 1 → k ≡ t.slot → ((answer_first s t).server.rows k).queue ≡ []
turn_empties_here s t e k one f =
    let x = turn_shorter s t e in
    let h = subst (λ n. suc (length ((answer_first s t).server.rows n).queue) ≤ length (s.rows n).queue) (sym f) x.here in
    none_left ((answer_first s t).server.rows k).queue (omega (arith, h, one))
