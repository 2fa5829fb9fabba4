-- Each message that a client takes is some steps of its link.
use Rattle.std.proofs.Common.{◌≡◌, ◌≢◌, ℕ, suc, ◌≤◌, ◌<◌, Bool, true, false, ◌&&◌, ◌||◌, not, Option, Some, None, is_some, unwrap_or, List, [], ◌∷◌, ◌⊎◌, inl, inr, refl, sym, ap, subst, ◌∙◌, ⊎_elim, arith, nat_eq, nat_lt, nat_le, if◌then◌else◌, ltb-true, eqb-true}
use Rattle.krl_refinement.proofs.Names.{eqb-false, and_parts, or_parts, not-true, END, KeyPart, range_of, key_of, contains, Outcome, WriteOp, Pieces, ToClient, ToClientBody, PushBody, AllByRecursion}
use Rattle.krl_refinement.proofs.Names.{Value, row_of, reads_key, In, Belief, is_last, adopt, adopt_all, Describes, Client, LockRequest, Granted, Absent, LastWrite, Unwritten, Outstanding, Judged}
use Rattle.krl_refinement.proofs.Names.{outstanding, is_writing_in, meets_pin, op_shown, Says, Tells, IsTo, ShowsClient, ShowsPlace, Leads}
use Rattle.krl_modes.specs.declared.part.KeyPart.TheVariants as key
use Rattle.krl_messages.specs.declared.holding.Holding.{Holding}
use Rattle.krl_messages.specs.declared.to_client.ToClientBody.TheVariants as told
use Rattle.krl_messages.specs.declared.to_client.PushBody.TheVariants as push
use Rattle.krl_machine.specs.Links
use Rattle.krl_machine.specs.Links.{Op, Said, Link, Shared, belief, adopted, OutAfter, joins, accepts}
use Rattle.krl_machine.specs.Holdings.{said_at, or_by, said_by}
use Rattle.krl_messages.specs.Holdings.{ends_at_end, has_its_value, have_values}
use Rattle.krl_cache.proofs.Calls.{same_of, last_not_end, none_at_end}
use Rattle.krl_client.specs.Messages.{asked_after, says_ack, says_report, joined, accepted, judged_as, fits, ClientCase, Ignores, AcksAgain, Adopts, Accepts, Lowers, client_case_of, client_case_of_body, after, sends}
use Rattle.krl_refinement.proofs.Messages.{report_stands}
use mathlib.Core.Bool.{and-true}
use Rattle.krl_refinement.proofs.Client.Steps.{rests, took, lowers_show}
use Rattle.krl_refinement.proofs.Client.Repeats.{ack_shows, describes_it}

-- Accepted holdings

-- a value that is there exactly if the key part reads the entry is the machine's row
row_by : (k : KeyPart) (v : Option Value) → is_some v ≡ reads_key k → v ≡ row_of k v
row_by key.N None e = refl
row_by key.N (Some v) e = absurd (cc)
row_by key.S None e = absurd (cc)
row_by key.S (Some v) e = refl
row_by key.U None e = absurd (cc)
row_by key.U (Some v) e = refl
row_by key.X None e = absurd (cc)
row_by key.X (Some v) e = refl

value_shown : (h : Holding) (q : ℕ) → has_its_value h ≡ true → is_last h.span q ≡ true → q ≢ END → h.value ≡ row_of (key_of h.mode) h.value
value_shown h q rule f n =
    let a = same_of (is_some h.value) _ rule in
    let b : ends_at_end h.span ≡ false = last_not_end h.span q f n in
    let c : is_some h.value ≡ (reads_key (key_of h.mode) && not false) = subst (λ t. is_some h.value ≡ (reads_key (key_of h.mode) && not t)) b a in
    let d = and-true (reads_key (key_of h.mode)) in
    row_by (key_of h.mode) h.value (cc)

abbrev AllFit : List Holding → Type 0
AllFit hs = AllByRecursion (λ h. has_its_value h ≡ true) hs

each_fits : (hs : List Holding) → have_values hs ≡ true → AllFit hs
each_fits [] e = tt
each_fits (h ∷ hs) e = let x = and_parts (has_its_value h) (have_values hs) e in (x.0, each_fits hs x.1)

one_first : (o : Option Said) (h : Holding) (q : ℕ) (x : Said) → unwrap_or o (unwrap_or (or_by None h q) x) ≡ unwrap_or (or_by o h q) x
one_first None h q x = refl
one_first (Some t) h q x = refl

-- at one point q, if the machine's client believes x
range_adopted : (hs : List Holding) (b : Belief) (q : ℕ) (x : Said) → b.range_at q ≡ x.range → (adopt_all hs b).range_at q ≡ (unwrap_or (said_by hs q) x).range
range_adopted [] b q x e = e
range_adopted (h ∷ hs) b q x e = range_adopted hs (adopt h b) q (unwrap_or (or_by None h q) x) (by_test (contains h.span q)) ∙ ap (λ t. t.range) (one_first (said_by hs q) h q x)
  where
    by_test : (t : Bool) → (if t then range_of h.mode else b.range_at q) ≡ (unwrap_or (if t then Some (said_at h q) else None) x).range
    by_test true = refl
    by_test false = e

key_adopted : (hs : List Holding) (b : Belief) (q : ℕ) (x : Said) → b.key_at q ≡ x.key → (adopt_all hs b).key_at q ≡ (unwrap_or (said_by hs q) x).key
key_adopted [] b q x e = e
key_adopted (h ∷ hs) b q x e = key_adopted hs (adopt h b) q (unwrap_or (or_by None h q) x) (by_test (contains h.span q)) ∙ ap (λ t. t.key) (one_first (said_by hs q) h q x)
  where
    by_test : (t : Bool) → (if t then (if is_last h.span q then key_of h.mode else key.N) else b.key_at q) ≡ (unwrap_or (if t then Some (said_at h q) else None) x).key
    by_test true = refl
    by_test false = e

value_adopted : (hs : List Holding) (b : Belief) (q : ℕ) (x : Said) → AllFit hs → q ≢ END → b.value_at q ≡ row_of x.key x.value → (adopt_all hs b).value_at q ≡ (let t = unwrap_or (said_by hs q) x in row_of t.key t.value)
value_adopted [] b q x rules n e = e
value_adopted (h ∷ hs) b q x rules n e = value_adopted hs (adopt h b) q (unwrap_or (or_by None h q) x) rules.1 n (by_test (contains h.span q)) ∙ ap (λ t. row_of t.key t.value) (one_first (said_by hs q) h q x)
  where
    at_last : (u : Bool) → is_last h.span q ≡ u → (if u then h.value else None) ≡ row_of (if u then key_of h.mode else key.N) (if u then h.value else None)
    at_last true f = value_shown h q rules.0 f n
    at_last false f = refl

    by_test : (t : Bool) → (if t then (if is_last h.span q then h.value else None) else b.value_at q) ≡ (let y = unwrap_or (if t then Some (said_at h q) else None) x in row_of y.key y.value)
    by_test true = at_last (is_last h.span q) refl
    by_test false = e

end_adopted : (hs : List Holding) (b : Belief) → AllFit hs → b.value_at END ≡ None → (adopt_all hs b).value_at END ≡ None
end_adopted [] b rules e = e
end_adopted (h ∷ hs) b rules e = end_adopted hs (adopt h b) rules.1 (by_test (contains h.span END) (is_last h.span END) refl)
  where
    by_test : (t u : Bool) → is_last h.span END ≡ u → (if t then (if u then h.value else None) else b.value_at END) ≡ None
    by_test true true f = none_at_end h rules.0 f
    by_test true false f = refl
    by_test false u f = e

holdings_show : (c : ℕ) (k : Client) (l : Link) (p : Links.Push) (hs : List Holding) (asked : LockRequest) (w : LastWrite) (out : Option Op) → ShowsClient c k l.client → Says hs p → AllFit hs → out ≡ op_shown (outstanding w) → (1 ≤ k.writes) ⊎ (outstanding w ≡ None) → ShowsClient c (record k { seen = suc k.seen; asked = asked; written = w; belief = adopt_all hs k.belief }) (record l.client { seen = suc l.seen; range = λ q. (adopted l p q).range; key = λ q. (adopted l p q).key; value = λ q. (adopted l p q).value; out = out })
holdings_show c k l p hs asked w out x says rules o n = record {
  number = x.number;
  up = x.up;
  inc = x.inc;
  epoch = x.epoch;
  seen = cc (x.seen);
  issued = x.issued;
  out = o;
  numbered = n;
  range = λ q. subst (λ y. (adopt_all hs k.belief).range_at q ≡ (unwrap_or y (belief l q)).range) (sym (says q)) (range_adopted hs k.belief q (belief l q) (x.range q));
  key = λ q. subst (λ y. (adopt_all hs k.belief).key_at q ≡ (unwrap_or y (belief l q)).key) (sym (says q)) (key_adopted hs k.belief q (belief l q) (x.key q));
  value = λ q ne. subst (λ y. (adopt_all hs k.belief).value_at q ≡ (let t = unwrap_or y (belief l q) in row_of t.key t.value)) (sym (says q)) (value_adopted hs k.belief q (belief l q) rules ne (x.value q ne));
  at_end = end_adopted hs k.belief rules x.at_end;
}

-- The outstanding write

none_out : (o : Option WriteOp) (out : Option Op) → out ≡ op_shown o → o ≡ None → out ≡ None
none_out o out e n = subst (λ x. out ≡ op_shown x) n e

-- a grant answers no write
grant_out : (l : Link) (p : Links.Push) (b : Bool) → nat_eq p.answers l.issued ≡ b → p.answers ≡ 0 → (1 ≤ l.issued) ⊎ (l.out ≡ None) → OutAfter l p l.out
grant_out l p true e z (inl n) = let f = eqb-true p.answers l.issued e in absurd (omega arith)
grant_out l p true e z (inr n) = inl (eqb-true p.answers l.issued e, n)
grant_out l p false e z n = inr (eqb-false p.answers l.issued e, refl)

judged_out : (k : Client) (number : ℕ) (o : Outcome) (w : LastWrite) (b : Bool) → nat_eq number k.writes ≡ b → outstanding (judged_as k number o w) ≡ (if b then None else outstanding w)
judged_out k number o Unwritten true e = refl
judged_out k number o Unwritten false e = refl
judged_out k number o (Outstanding change) true e = rw e refl
judged_out k number o (Outstanding change) false e = rw e refl
judged_out k number o (Judged old) true e = refl
judged_out k number o (Judged old) false e = refl

answer_out : (k : Client) (l : Link) (p : Links.Push) (number : ℕ) (b : Bool) → nat_eq number k.writes ≡ b → p.answers ≡ number → l.issued ≡ k.writes → l.out ≡ op_shown (outstanding k.written) → OutAfter l p (op_shown (if b then None else outstanding k.written))
answer_out k l p number true e a i o = let f = eqb-true number k.writes e in inl (cc, refl)
answer_out k l p number false e a i o = let f = eqb-false number k.writes e in inr ((λ g. f (cc)), sym o)

numbered_after : (k : Client) (number : ℕ) (b : Bool) → (1 ≤ k.writes) ⊎ (outstanding k.written ≡ None) → (1 ≤ k.writes) ⊎ ((if b then None else outstanding k.written) ≡ None)
numbered_after k number b (inl n) = inl n
numbered_after k number true (inr n) = inr refl
numbered_after k number false (inr n) = inr n

-- Pushes

-- the client would accept the push
record IsDue (k : Client) (l : Link) (p : Links.Push) : Type 0 where
  sent : In p l.pushes
  inc : p.inc ≡ k.incarnation
  epoch : p.epoch ≡ k.epoch
  number : p.number ≡ suc k.seen

issued_or_none : (c : ℕ) (k : Client) (l : Link) → ShowsClient c k l.client → (1 ≤ l.issued) ⊎ (l.out ≡ None)
issued_or_none c k l x = ⊎_elim (λ (n : 1 ≤ k.writes). let i = x.issued in inl (omega arith)) (λ (n : outstanding k.written ≡ None). inr (none_out (outstanding k.written) l.out x.out n)) x.numbered

-- a push of these holdings is taken
takes_push : (s : Shared) (l : Link) (c g : ℕ) (k : Client) (p : Links.Push) (hs : List Holding) (asked : LockRequest) (w : LastWrite) (out : Option Op) → ShowsPlace c g (Some k) l → IsDue k l p → Says hs p → AllFit hs → OutAfter l p out → out ≡ op_shown (outstanding w) → (1 ≤ k.writes) ⊎ (outstanding w ≡ None) → let m = record k { seen = suc k.seen; asked = asked; written = w; belief = adopt_all hs k.belief } in Leads s l c g (Some m) (says_ack m ∷ [])
takes_push s l c g k p hs asked w out x d says rules after o n = took s l _ c g _ _ x.1.number refl
    (accepts p out d.sent (record { up = x.1.up; inc = cc (d.inc, x.1.inc); epoch = cc (d.epoch, x.1.epoch); number = cc (d.number, x.1.seen) }) after)
    (record { hellos = λ y i. i; byes = λ y i. i; heads = λ y i. inr i; releases = λ y i. i; writes = λ y i. i; reports = λ y i. i; notices = λ y i. i; pushes = λ y i. i })
    (x.0, holdings_show c k l p hs asked w out x.1 says rules o n)
    (inl (cc (x.1.inc, x.1.epoch, x.1.seen)), tt)

accept_shows : (s : Shared) (l : Link) (c g : ℕ) (k : Client) (p : Links.Push) (what : PushBody) → ShowsPlace c g (Some k) l → fits what ≡ true → IsDue k l p → Tells what p → Leads s l c g (Some (accepted k what)) (says_ack (accepted k what) ∷ [])
accept_shows s l c g k p (push.Grant req hs) x rule d tells = takes_push s l c g k p hs (asked_after k req k.asked Granted) k.written l.out x d tells.1 (each_fits hs rule)
    (grant_out l p (nat_eq p.answers l.issued) refl tells.0 (issued_or_none c k l x.1)) x.1.out x.1.numbered
accept_shows s l c g k p (push.Absent req point) x rule d tells = takes_push s l c g k p [] (asked_after k req k.asked Absent) k.written l.out x d tells.1 tt
    (grant_out l p (nat_eq p.answers l.issued) refl tells.0 (issued_or_none c k l x.1)) x.1.out x.1.numbered
accept_shows s l c g k p (push.Answer number o h) x rule d tells = takes_push s l c g k p (h ∷ []) k.asked (judged_as k number o k.written) (op_shown (if nat_eq number k.writes then None else outstanding k.written)) x d tells.1 (rule, tt)
    (answer_out k l p number (nat_eq number k.writes) refl tells.0 x.1.issued x.1.out)
    (sym (judged k.written (nat_eq number k.writes) refl))
    (subst (λ z. (1 ≤ k.writes) ⊎ (z ≡ None)) (sym (judged_out k number o k.written (nat_eq number k.writes) refl)) (numbered_after k number (nat_eq number k.writes) x.1.numbered))
  where
    judged : (w : LastWrite) (b : Bool) → nat_eq number k.writes ≡ b → op_shown (outstanding (judged_as k number o w)) ≡ op_shown (if b then None else outstanding w)
    judged w b e = subst (λ z. op_shown z ≡ op_shown (if b then None else outstanding w)) (sym (judged_out k number o w b e)) refl

-- Epochs

adopts_shows : (s : Shared) (l : Link) (c g : ℕ) (k : Client) (ps : Pieces) (inc epoch : ℕ) → Describes ps k.belief → ShowsPlace c g (Some k) l → IsTo l inc (told.Epoch epoch) → inc ≡ k.incarnation → k.epoch < epoch → Leads s l c g (Some (joined k epoch)) (says_report ps (joined k epoch) ∷ [])
adopts_shows s l c g k ps inc epoch d h at e later = took s l _ c g _ _ h.1.number refl
    (joins (record { inc = inc; epoch = epoch }) at h.1.up (cc (e, h.1.inc)) (let i = h.1.epoch in omega arith))
    (record { hellos = λ y i. i; byes = λ y i. i; heads = λ y i. i; releases = λ y i. i; writes = λ y i. i; reports = λ y i. inr i; notices = λ y i. i; pushes = λ y i. i })
    (h.0, record { number = h.1.number; up = h.1.up; inc = h.1.inc; epoch = refl; seen = refl; issued = h.1.issued; out = h.1.out; numbered = h.1.numbered; range = h.1.range; key = h.1.key; value = h.1.value; at_end = h.1.at_end })
    (let r : Links.Report = record { inc = l.inc; epoch = epoch; range = l.range; key = l.key } in report_stands l r k.incarnation epoch ps h.1.inc refl (describes_it ps k.belief _ h.1.range h.1.key d))

-- Messages

-- what a case makes
abbrev Makes : Shared → Link → ℕ → ℕ → Client → Pieces → ClientCase → Type 0
Makes s l c g k ps x = Leads s l c g (Some (after k x)) (sends ps k x)

makes_either : (s : Shared) (l : Link) (c g : ℕ) (k : Client) (ps : Pieces) (b : Bool) (x y : ClientCase) → (b ≡ true → Makes s l c g k ps x) → (b ≡ false → Makes s l c g k ps y) → Makes s l c g k ps (if b then x else y)
makes_either s l c g k ps true x y f h = f refl
makes_either s l c g k ps false x y f h = h refl

own_epoch : (c : ℕ) (k : Client) (l : Link) (epoch : ℕ) → ShowsClient c k l.client → 1 ≤ epoch → nat_eq epoch k.epoch ≡ true → 1 ≤ l.epoch
own_epoch c k l epoch h old e = let i = eqb-true epoch k.epoch e in let j = h.epoch in omega arith

body_shows : (s : Shared) (l : Link) (c g : ℕ) (k : Client) (ps : Pieces) (inc : ℕ) (what : ToClientBody) → Describes ps k.belief → ShowsPlace c g (Some k) l → inc ≡ k.incarnation → IsTo l inc what → Makes s l c g k ps (client_case_of_body k what)
body_shows s l c g k ps inc (told.Epoch epoch) d h e at = makes_either s l c g k ps (nat_lt k.epoch epoch) (Adopts epoch) Ignores
    (λ t. adopts_shows s l c g k ps inc epoch d h at e (ltb-true k.epoch epoch t))
    (λ f. rests s l c g (Some k) h)
body_shows s l c g k ps inc (told.Push epoch number what) d h e at = makes_either s l c g k ps (nat_eq epoch k.epoch && fits what) _ Ignores
    (λ t. let own = and_parts (nat_eq epoch k.epoch) (fits what) t in makes_either s l c g k ps (nat_eq number (suc k.seen) && nat_le number END) (Accepts what) _
    (λ u. let n = eqb-true number (suc k.seen) (and_parts (nat_eq number (suc k.seen)) (nat_le number END) u).0 in
    let o = eqb-true epoch k.epoch own.0 in
    accept_shows s l c g k at.0 what h own.1 (record { sent = at.1; inc = cc (at.2, e); epoch = cc (at.3, o); number = cc (at.4, n) }) at.6)
    (λ u. makes_either s l c g k ps (nat_eq number k.seen) AcksAgain Ignores
    (λ w. ack_shows s l c g k h (own_epoch c k l epoch h.1 at.5 own.0))
    (λ w. rests s l c g (Some k) h)))
    (λ f. rests s l c g (Some k) h)
body_shows s l c g k ps inc (told.Callback epoch span keep) d h e at = makes_either s l c g k ps (nat_eq epoch k.epoch && not (is_writing_in k span || meets_pin k span)) (Lowers span keep) Ignores
    (λ t. let x = and_parts (nat_eq epoch k.epoch) (not (is_writing_in k span || meets_pin k span)) t in
    lowers_show s l c g k span keep h (own_epoch c k l epoch h.1 at.0 x.0) at.1 (or_parts (is_writing_in k span) (meets_pin k span) (not-true _ x.1)).0)
    (λ f. rests s l c g (Some k) h)

pub receives_show : (s : Shared) (l : Link) (c g : ℕ) (k : Client) (ps : Pieces) (m : ToClient) → Describes ps k.belief → ShowsPlace c g (Some k) l → (m.client ≡ c → IsTo l m.incarnation m.body) → Makes s l c g k ps (client_case_of k m)
receives_show s l c g k ps m d h at = makes_either s l c g k ps (nat_eq m.client k.number && nat_eq m.incarnation k.incarnation) (client_case_of_body k m.body) Ignores
    (λ t. let x = and_parts (nat_eq m.client k.number) (nat_eq m.incarnation k.incarnation) t in
    let n = eqb-true m.client k.number x.0 in
    body_shows s l c g k ps m.incarnation m.body d h (eqb-true m.incarnation k.incarnation x.1) (at (cc (n, h.1.number))))
    (λ f. rests s l c g (Some k) h)
