-- The callbacks of a nudge.
use Rattle.std.proofs.Common.{◌≡◌, ◌≢◌, ℕ, ◌≤◌, ◌<◌, Bool, true, false, Option, Some, None, List, [], ◌∷◌, ◌++◌, length, inl, inr, refl, sym, ap, subst, ◌∙◌, arith, find, nat_eq, eq-eqb, eqb-true}
use Rattle.krl_server.proofs.Names.{append-nil, AllByRecursion, END, ToClient, In, Waiter, first_of, Index, slot_of, slots, Rows, front_of, waiter_at, waiter_of, IsPlaced, IsTable, Server}
use Rattle.krl_server.proofs.Names.{is_recovering, callbacks_for, callbacks_of, callbacks_of_among, AreApart, WaitsNowhere, none-some, Record, Register, record_of, nudge, nudge_known, nudge_missing}
use Rattle.krl_server.proofs.Names.{nudge_served, IsSound, max_messages, is_registered, calls_at_first}
use Rattle.std.specs.Prelude.{is_some, if◌then◌else◌, nat_lt, not, Result, Ok, Err, IfOk}
use Rattle.std.specs.FinMap as fin
use Rattle.std.proofs.lemmas.Bool.{ltb-true}
use Rattle.krl_server.proofs.Outputs.Numbers.{nudge_few}
use Rattle.krl_server.proofs.Outputs.Counted.{slots_apart}
use Rattle.krl_server.proofs.Functions.FirstTurn.{front_is, front_none}

-- a first waiter that is not the client's
other_first : (s : Server) (c n : ℕ) (us : List Waiter) → first_of c us ≡ None → callbacks_of c s n us ≡ []
other_first s c n [] e = refl
other_first s c n (u ∷ us) e = by_eq (nat_eq u.client c) e
  where
    by_eq : (b : Bool) → (if b then Some u else first_of c us) ≡ None → (if b then callbacks_for s n u else []) ≡ []
    by_eq true f = absurd (none-some u (sym f))
    by_eq false f = refl

pub none_nudged : (s : Server) (c : ℕ) (ns : List ℕ) → WaitsNowhere s.rows c → callbacks_of_among c s ns ≡ []
none_nudged s c [] h = refl
none_nudged s c (n ∷ ns) h = ap (λ l. l ++ callbacks_of_among c s ns) (other_first s c n (s.rows n).queue (h n)) ∙ none_nudged s c ns h

none_besides : (s : Server) (c n : ℕ) (ns : List ℕ) → (In n ns → ⊥) → ((k : ℕ) → k ≢ n → first_of c (s.rows k).queue ≡ None) → callbacks_of_among c s ns ≡ []
none_besides s c n [] out h = refl
none_besides s c n (k ∷ ks) out h = ap (λ l. l ++ callbacks_of_among c s ks) (other_first s c k (s.rows k).queue (h k (λ e. out (inl (sym e))))) ∙ none_besides s c n ks (λ at. out (inr at)) h

only_at : (s : Server) (c n : ℕ) (ns : List ℕ) → AreApart ns → In n ns → ((k : ℕ) → k ≢ n → first_of c (s.rows k).queue ≡ None) → callbacks_of_among c s ns ≡ callbacks_of c s n (s.rows n).queue
only_at s c n [] apart at h = absurd at
only_at s c n (k ∷ ks) apart (inl e) h =
    ap (λ l. callbacks_of c s k (s.rows k).queue ++ l) (none_besides s c n ks (λ at. apart.0 (subst (λ x. In x ks) e at)) h)
    ∙ append-nil (callbacks_of c s k (s.rows k).queue) ∙ ap (λ x. callbacks_of c s x (s.rows x).queue) (sym e)
only_at s c n (k ∷ ks) apart (inr at) h =
    ap (λ l. l ++ callbacks_of_among c s ks) (other_first s c k (s.rows k).queue (h k (λ e. apart.0 (subst (λ x. In x ks) (sym e) at))))
    ∙ only_at s c n ks apart.1 at h

-- where the client's waiter stands
stands : (rows : Rows) (c : ℕ) (w : Waiter) (ns : List ℕ) → waiter_at rows c (find (λ n. is_some (first_of c (rows n).queue)) ns) ≡ Some w → (n : ℕ) × In n ns × (first_of c (rows n).queue ≡ Some w)
stands rows c w [] e = absurd (none-some w e)
stands rows c w (n ∷ ns) e = by_test (is_some (first_of c (rows n).queue)) e (stands rows c w ns)
  where
    by_test : (b : Bool) → waiter_at rows c (if b then Some n else find (λ n. is_some (first_of c (rows n).queue)) ns) ≡ Some w → (waiter_at rows c (find (λ n. is_some (first_of c (rows n).queue)) ns) ≡ Some w → (k : ℕ) × In k ns × (first_of c (rows k).queue ≡ Some w)) → (k : ℕ) × In k (n ∷ ns) × (first_of c (rows k).queue ≡ Some w)
    by_test true f ih = (n, inl refl, f)
    by_test false f ih = let x = ih f in (x.0, inr x.1, x.2)

placed_first : (m : Index) (n c : ℕ) (us : List Waiter) (w : Waiter) → AllByRecursion (IsPlaced m n) us → first_of c us ≡ Some w → IsPlaced m n w
placed_first m n c [] w h e = absurd (none-some w e)
placed_first m n c (u ∷ us) w h e = by_eq (nat_eq u.client c) e (placed_first m n c us w h.1)
  where
    by_eq : (b : Bool) → (if b then Some u else first_of c us) ≡ Some w → (first_of c us ≡ Some w → IsPlaced m n w) → IsPlaced m n w
    by_eq true f ih = subst (IsPlaced m n) (let x : u ≡ w = cc in x) h.0
    by_eq false f ih = ih f

pub one_nudged : (s : Server) (c : ℕ) (w : Waiter) → ((q : ℕ) → END ≤ q → fin.get s.durable.index q ≡ None) → IsTable s.durable.index s.rows → waiter_of s.durable.index s.rows c ≡ Some w → callbacks_of_among c s (slots s.durable.index) ≡ calls_at_first s (slot_of s.durable.index w.point) c
one_nudged s c w near table e =
    let m = s.durable.index in
    let x = stands s.rows c w (slots m) e in
    let p = placed_first m x.0 c (s.rows x.0).queue w (table.placed x.0) x.2 in
    only_at s c x.0 (slots m) (slots_apart m near) x.1 (λ k ne. table.nowhere_else x.0 k c (λ f. ne (sym f)) (ap (λ o. is_some o) x.2))
    ∙ ap (λ n. calls_at_first s n c) (sym p.2)

-- the first waiter of a slot, and whose it is
pub first_mine : (s : Server) (n c : ℕ) (u : Waiter) → front_of (s.rows n).queue ≡ Some u → u.client ≡ c → callbacks_for s n u ≡ calls_at_first s n c
first_mine s n c u e f = sym (ap (callbacks_of c s n) (front_is (s.rows n).queue u e) ∙ ap (λ b. if b then callbacks_for s n u else []) (eq-eqb u.client c f))

pub first_other : (s : Server) (n c : ℕ) (u : Waiter) → front_of (s.rows n).queue ≡ Some u → nat_eq u.client c ≡ false → [] ≡ calls_at_first s n c
first_other s n c u e f = sym (ap (callbacks_of c s n) (front_is (s.rows n).queue u e) ∙ ap (λ b. if b then callbacks_for s n u else []) f)

pub first_nobody : (s : Server) (n c : ℕ) → front_of (s.rows n).queue ≡ None → [] ≡ calls_at_first s n c
first_nobody s n c e = sym (ap (callbacks_of c s n) (front_none (s.rows n).queue e))

-- each registered number is a client's
pub known_low : (es : Register) (c : ℕ) → AllByRecursion (λ e. nat_lt e.0 64 ≡ true) es → is_registered (record_of es c) ≡ true → c < 64
known_low [] c h e = absurd (cc)
known_low (x ∷ es) c h e = by_eq (nat_eq c x.0) refl e (known_low es c h.1)
  where
    by_eq : (b : Bool) → nat_eq c x.0 ≡ b → is_registered (if b then Some x.1 else record_of es c) ≡ true → (is_registered (record_of es c) ≡ true → c < 64) → c < 64
    by_eq true f g ih = let is = eqb-true c x.0 f in let low = ltb-true x.0 64 h.0 in omega (arith, is, low)
    by_eq false f g ih = ih g

-- a nudge, by whether the client is here
pub nudge_away : (s : Server) (c : ℕ) (b : Bool) → b ≡ is_registered (record_of s.durable.register c) → b ≡ false → [] ≡ nudge s c
nudge_away s c b e f = by_record (record_of s.durable.register c) (sym e ∙ f)
  where
    by_record : (o : Option Record) → is_registered o ≡ false → [] ≡ nudge_known s c o
    by_record None g = refl
    by_record (Some r) g = by_left r.left g
      where
        by_left : (l : Bool) → not l ≡ false → [] ≡ (if l then [] else (if is_recovering s.missing then nudge_missing s c else nudge_served s c (s.sessions c).unacked))
        by_left true g = refl
        by_left false g = absurd (cc)

pub nudge_here : (s : Server) (c : ℕ) (b : Bool) → b ≡ is_registered (record_of s.durable.register c) → b ≡ true → (if is_recovering s.missing then nudge_missing s c else nudge_served s c (s.sessions c).unacked) ≡ nudge s c
nudge_here s c b e f = by_record (record_of s.durable.register c) (sym e ∙ f)
  where
    by_record : (o : Option Record) → is_registered o ≡ true → (if is_recovering s.missing then nudge_missing s c else nudge_served s c (s.sessions c).unacked) ≡ nudge_known s c o
    by_record None g = absurd (cc)
    by_record (Some r) g = by_left r.left g
      where
        by_left : (l : Bool) → not l ≡ true → (if is_recovering s.missing then nudge_missing s c else nudge_served s c (s.sessions c).unacked) ≡ (if l then [] else (if is_recovering s.missing then nudge_missing s c else nudge_served s c (s.sessions c).unacked))
        by_left true g = absurd (cc)
        by_left false g = refl

pub few_nudges : {E : Type 0} (s : Server) (c : ℕ) (r : Result (List ToClient) E) → IsSound s → IsTable s.durable.index s.rows → IfOk r (λ outs. outs ≡ nudge s c) → IfOk r (λ outs. length outs ≤ max_messages)
few_nudges s c (Ok outs) sound table e = subst (λ l. length l ≤ max_messages) (sym e) (nudge_few s c sound table)
few_nudges s c (Err x) sound table e = tt
