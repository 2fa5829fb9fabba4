-- Each write is done once, and what clients learn of it is so.
use Rattle.krl_machine.proofs.Names.{◌≡◌, ◌≢◌, ℕ, suc, ◌≤◌, true, false, Option, Some, None, List, ◌∷◌, none-some, same_Some, ◌⊎◌, inl, inr, refl, sym, ap, subst, ◌∙◌, ⊎_elim, true≢false, arith, KeyPart, Value, In}
use Rattle.krl_machine.proofs.Names.{each_more, Op, Insert, Put, Delete, op_key, Push, Write, Wrote, Shared, Link, LinkStep, Passes, AnswersLast, OutAfter, starts, crashes, leaves, accepts, issues, writes_again, registers, refuses}
use Rattle.krl_machine.proofs.Names.{pushes, if◌then◌else◌, eq-eqb, ne_eqb, Logged, World, Changed, Applies, inserted, replaced, deleted, wrote_by, Step, at_link, raises, applies, crash, start}
use Rattle.krl_machine.proofs.Names.{finish, blank_link, Reachable, begun, stepped, IsOnce, entry_after, replay, IsDue, IsProper, WritesOnce}
use Rattle.krl_machine.proofs.Basics.{Inv}
use Rattle.krl_machine.proofs.Worlds.{eq_cases, WorldInv}
use Rattle.krl_machine.proofs.Runs.{reachable_inv}

-- a Write message of this incarnation and number was sent, for this operation
abbrev pub Sent : Link → ℕ → ℕ → Op → Type 0
Sent l inc number op = (m : Write) × In m l.writes × (m.head.inc ≡ inc) × (m.number ≡ number) × (m.op ≡ op)

-- what one link knows of its applied writes
abbrev pub Wrotes : Link → Type 0
Wrotes l = record {
  low : (e : Wrote) → In e l.wrote → (e.inc ≤ l.reg) × (e.inc ≡ l.reg → e.number ≤ l.done);
  did : l.applied ≡ true → 1 ≤ l.done → (m : Write) → In m l.writes → m.head.inc ≡ l.reg → m.number ≡ l.done → (e : Wrote) × In e l.wrote × (e.inc ≡ l.reg) × (e.number ≡ l.done);
  did_not : l.applied ≡ false → (e : Wrote) → In e l.wrote → e.inc ≡ l.reg → e.number ≢ l.done;
  told : (p : Push) → In p l.pushes → 1 ≤ p.answers → p.applied ≡ true → (e : Wrote) × In e l.wrote × (e.inc ≡ p.inc) × (e.number ≡ p.answers);
  told_not : (p : Push) → In p l.pushes → 1 ≤ p.answers → p.applied ≡ false → (e : Wrote) → In e l.wrote → e.inc ≡ p.inc → e.number ≢ p.answers;
  sent : (e : Wrote) → In e l.wrote → Sent l e.inc e.number e.op;
  same : (m n : Write) → In m l.writes → In n l.writes → m.head.inc ≡ n.head.inc → m.number ≡ n.number → m.op ≡ n.op;
  sent_out : (op : Op) → l.out ≡ Some op → Sent l l.inc l.issued op;
}

same_more : (m : Write) (ms : List Write) → ((n : Write) → In n ms → n.head.inc ≡ m.head.inc → n.number ≡ m.number → n.op ≡ m.op) → ((a b : Write) → In a ms → In b ms → a.head.inc ≡ b.head.inc → a.number ≡ b.number → a.op ≡ b.op) → (a b : Write) → In a (m ∷ ms) → In b (m ∷ ms) → a.head.inc ≡ b.head.inc → a.number ≡ b.number → a.op ≡ b.op
same_more m ms new old a b (inl e) (inl f) x y = cc
same_more m ms new old a b (inl e) (inr f) x y = let g = new b f (sym x ∙ ap (λ z. z.head.inc) e) (sym y ∙ ap (λ z. z.number) e) in ap (λ z. z.op) e ∙ sym g
same_more m ms new old a b (inr e) (inl f) x y = new a e (x ∙ ap (λ z. z.head.inc) f) (y ∙ ap (λ z. z.number) f) ∙ sym (ap (λ z. z.op) f)
same_more m ms new old a b (inr e) (inr f) x y = old a b e f x y

sent_more : (l : Link) (m : Write) → ((e : Wrote) → In e l.wrote → Sent l e.inc e.number e.op) → (e : Wrote) → In e l.wrote → (n : Write) × In n (m ∷ l.writes) × (n.head.inc ≡ e.inc) × (n.number ≡ e.number) × (n.op ≡ e.op)
sent_more l m h e at = let x = h e at in (x.0, inr x.1, x.2, x.3, x.4)

-- an accepted push leaves the outstanding write, or none
out_after : (l : Link) (p : Push) (out : Option Op) (op : Op) → OutAfter l p out → out ≡ Some op → l.out ≡ Some op
out_after l p out op (inl x) e = absurd (none-some op (sym x.1 ∙ e))
out_after l p out op (inr x) e = sym x.1 ∙ e

pub wrotes_kept : (s : Shared) (l l' : Link) → LinkStep s l l' → Inv s l → Wrotes l → Wrotes l'
wrotes_kept s l l' (starts down) i w = record { low = w.low; did = w.did; did_not = w.did_not; told = w.told; told_not = w.told_not; sent = w.sent; same = w.same; sent_out = λ op e. absurd (none-some op e) }
wrotes_kept s l l' crashes i w = record { low = w.low; did = w.did; did_not = w.did_not; told = w.told; told_not = w.told_not; sent = w.sent; same = w.same; sent_out = λ op e. absurd (none-some op e) }
wrotes_kept s l l' (leaves up) i w = record { low = w.low; did = w.did; did_not = w.did_not; told = w.told; told_not = w.told_not; sent = w.sent; same = w.same; sent_out = λ op e. absurd (none-some op e) }
wrotes_kept s l l' (accepts p out at live after) i w = record { low = w.low; did = w.did; did_not = w.did_not; told = w.told; told_not = w.told_not; sent = w.sent; same = w.same; sent_out = λ op e. w.sent_out op (out_after l p out op after e) }
wrotes_kept s l l' (issues op up old none may) i w = record {
  low = w.low;
  did = λ a b. each_more (λ m. m.head.inc ≡ l.reg → m.number ≡ l.done → (e : Wrote) × In e l.wrote × (e.inc ≡ l.reg) × (e.number ≡ l.done)) _ l.writes
      (λ x y. absurd (omega (arith, (i.writing.counted up x).0, y))) (w.did a b);
  did_not = w.did_not;
  told = w.told;
  told_not = w.told_not;
  sent = sent_more l _ w.sent;
  same = same_more _ l.writes (λ n at e f. absurd (omega (arith, (i.writing.writes n at e).0, f))) w.same;
  sent_out = λ o e. (_, inl refl, refl, refl, same_Some op o e);
}
wrotes_kept s l l' (writes_again op up old out) i w = record {
  low = w.low;
  did = λ a b. each_more (λ m. m.head.inc ≡ l.reg → m.number ≡ l.done → (e : Wrote) × In e l.wrote × (e.inc ≡ l.reg) × (e.number ≡ l.done)) _ l.writes
      (λ x y. let z = w.sent_out op out in w.did a b z.0 z.1 (z.2 ∙ x) (z.3 ∙ y)) (w.did a b);
  did_not = w.did_not;
  told = w.told;
  told_not = w.told_not;
  sent = sent_more l _ w.sent;
  same = same_more _ l.writes (λ n at e f. (i.writing.writes n at e).1 op out f) w.same;
  sent_out = λ o e. let z = w.sent_out o e in (z.0, inr z.1, z.2, z.3, z.4);
}
wrotes_kept s l l' (registers h at on newer) i w = record {
  low = λ e m. let x : e.inc ≤ l.reg = (w.low e m).0 in (omega arith, λ f. absurd (omega arith));
  did = λ a b. absurd (omega arith);
  did_not = λ a e m f. let x : e.inc ≤ l.reg = (w.low e m).0 in absurd (omega arith);
  told = w.told;
  told_not = w.told_not;
  sent = w.sent;
  same = w.same;
  sent_out = w.sent_out;
}
wrotes_kept s l l' (refuses m at ok acked next) i w = record {
  low = λ e x. let y = w.low e x in (y.0, λ f. omega (arith, y.1 f));
  did = λ a. absurd (true≢false (sym a));
  did_not = λ a e x f g. omega (arith, (w.low e x).1 f, g);
  told = w.told;
  told_not = w.told_not;
  sent = w.sent;
  same = w.same;
  sent_out = w.sent_out;
}
wrotes_kept s l l' (pushes p a ha ainc aepoch serving here acked inc epoch number says answers) i w = record {
  low = w.low;
  did = w.did;
  did_not = w.did_not;
  sent = w.sent;
  same = w.same;
  sent_out = w.sent_out;
  told = each_more (λ p'. 1 ≤ p'.answers → p'.applied ≡ true → (e : Wrote) × In e l.wrote × (e.inc ≡ p'.inc) × (e.number ≡ p'.answers)) p l.pushes
      (λ some t. ⊎_elim (λ (z : p.answers ≡ 0). absurd (omega (arith, z)))
      (λ (x : AnswersLast l p).
      let d = w.did (sym x.applied ∙ t) (omega (arith, x.answers)) x.write x.sent x.inc x.number in (d.0, d.1, d.2 ∙ sym inc, d.3 ∙ sym x.answers)) answers)
      w.told;
  told_not = each_more (λ p'. 1 ≤ p'.answers → p'.applied ≡ false → (e : Wrote) → In e l.wrote → e.inc ≡ p'.inc → e.number ≢ p'.answers) p l.pushes
      (λ some t. ⊎_elim (λ (z : p.answers ≡ 0). absurd (omega (arith, z)))
      (λ (x : AnswersLast l p).
      λ e m f g. w.did_not (sym x.applied ∙ t) e m (f ∙ inc) (g ∙ x.answers)) answers)
      w.told_not;
}
wrotes_kept s l l' _ i w = w

-- a write that is applied
own_wrotes : (s : Shared) (l : Link) (m : Write) (key : ℕ → KeyPart) → In m l.writes → Passes s l m.head → m.number ≡ suc l.done → Inv s l → Wrotes l → Wrotes (record l { done = suc l.done; applied = true; wrote = wrote_by l m ∷ l.wrote; top_key = key })
own_wrotes s l m key at ok next i w = record {
  low = each_more (λ e. (e.inc ≤ l.reg) × (e.inc ≡ l.reg → e.number ≤ suc l.done)) _ l.wrote (omega arith, λ e. omega arith) (λ e x. let y = w.low e x in (y.0, λ f. omega (arith, y.1 f)));
  did = λ a b n nat x y. (wrote_by l m, inl refl, refl, refl);
  did_not = λ a. absurd (true≢false a);
  told = λ p pat some t. let d = w.told p pat some t in (d.0, inr d.1, d.2, d.3);
  told_not = λ p pat some t. each_more (λ e. e.inc ≡ p.inc → e.number ≢ p.answers) _ l.wrote (λ e f. omega (arith, i.writing.answers p pat (sym e), f)) (w.told_not p pat some t);
  sent = each_more (λ e. Sent l e.inc e.number e.op) _ l.wrote (m, at, ok.inc, next, refl) w.sent;
  same = w.same;
  sent_out = w.sent_out;
}

-- the whole list against the links' lists
pub record History (index : ℕ → Option Value) (w : World) : Type 0 where
  pub each : (c : ℕ) → Wrotes (w.links c)
  pub listed : (e : Logged) → In e w.log → In e.wrote (w.links e.client).wrote
  pub all : (c : ℕ) (x : Wrote) → In x (w.links c).wrote → In (record { client = c; wrote = x }) w.log
  pub once : IsOnce w.log
  pub fold : (q : ℕ) → replay index w.log q ≡ w.shared.index q
  pub proper : IsProper index w.log

-- a step that leaves each link's list and the index
same_wrote : (s : Shared) (l l' : Link) → LinkStep s l l' → l'.wrote ≡ l.wrote
same_wrote s l l' (starts down) = refl
same_wrote s l l' _ = refl

pub write_at : (op : Op) (old : Option Value) (q : ℕ) → op_key op ≢ q → entry_after op old q ≡ old
write_at (Insert k v) old q ne = ap (λ b. if b then Some v else old) (ne_eqb q k (λ e. ne (sym e)))
write_at (Put k v) old q ne = ap (λ b. if b then Some v else old) (ne_eqb q k (λ e. ne (sym e)))
write_at (Delete k) old q ne = ap (λ b. if b then None else old) (ne_eqb q k (λ e. ne (sym e)))

put_here : (k : ℕ) (v : Value) (old : Option Value) → entry_after (Insert k v) old k ≡ Some v
put_here k v old = ap (λ b. if b then Some v else old) (eq-eqb k k refl)

delete_here : (k : ℕ) (old : Option Value) → entry_after (Delete k) old k ≡ None
delete_here k old = ap (λ b. if b then None else old) (eq-eqb k k refl)

fold_more : (s : Shared) (l : Link) (index : ℕ → Option Value) (key : ℕ → KeyPart) (op : Op) (old : ℕ → Option Value) → Applies s l index key op → ((q : ℕ) → old q ≡ s.index q) → (q : ℕ) → entry_after op (old q) q ≡ index q
fold_more s l index key op old (inserted k v near absent ins at rest kx kr) h q = eq_cases q k
    (λ e. subst (λ x. entry_after (Insert k v) (old x) x ≡ index x) (sym e) (put_here k v (old k) ∙ sym at)) (λ ne. write_at (Insert k v) (old q) q (λ e. ne (sym e)) ∙ h q ∙ sym (rest q ne))
fold_more s l index key op old (replaced k v u near present x at rest kr) h q = eq_cases q k
    (λ e. subst (λ x. entry_after (Put k v) (old x) x ≡ index x) (sym e) (put_here k v (old k) ∙ sym at)) (λ ne. write_at (Put k v) (old q) q (λ e. ne (sym e)) ∙ h q ∙ sym (rest q ne))
fold_more s l index key op old (deleted k u near present x rx rx' at rest kr) h q = eq_cases q k
    (λ e. subst (λ x. entry_after (Delete k) (old x) x ≡ index x) (sym e) (delete_here k (old k) ∙ sym at)) (λ ne. write_at (Delete k) (old q) q (λ e. ne (sym e)) ∙ h q ∙ sym (rest q ne))

due : (s : Shared) (l : Link) (index : ℕ → Option Value) (key : ℕ → KeyPart) (op : Op) (old : ℕ → Option Value) → Applies s l index key op → ((q : ℕ) → old q ≡ s.index q) → IsDue op old
due s l index key op old (inserted k v near absent ins at rest kx kr) h = h k ∙ absent
due s l index key op old (replaced k v u near present x at rest kr) h = (u, h k ∙ present)
due s l index key op old (deleted k u near present x rx rx' at rest kr) h = (u, h k ∙ present)

-- a step of the link c that leaves its list
module _ (index : ℕ → Option Value) (w : World) (c : ℕ) (l : Link) (links : ℕ → Link) (ch : Changed w.links links c l) (kept : l.wrote ≡ (w.links c).wrote) (h : History index w) where
  wrote_is : (d : ℕ) → (links d).wrote ≡ (w.links d).wrote
  wrote_is d = eq_cases d c (λ e. subst (λ x. (links x).wrote ≡ (w.links x).wrote) (sym e) (ap (λ x. x.wrote) ch.here ∙ kept)) (λ ne. ap (λ x. x.wrote) (ch.rest d ne))

  pub history_link : Wrotes l → History index (record w { links = links })
  history_link own = record {
    each = λ d. eq_cases d c (λ e. subst (λ x. Wrotes (links x)) (sym e) (subst Wrotes (sym ch.here) own)) (λ ne. subst Wrotes (sym (ch.rest d ne)) (h.each d));
    listed = λ e at. subst (λ xs. In e.wrote xs) (sym (wrote_is e.client)) (h.listed e at);
    all = λ d x at. h.all d x (subst (λ xs. In x xs) (wrote_is d) at);
    once = h.once;
    fold = h.fold;
    proper = h.proper;
  }

module _ (index : ℕ → Option Value) (w : World) (c : ℕ) (m : Write) (new : ℕ → Option Value) (key : ℕ → KeyPart) (links : ℕ → Link) (at : In m (w.links c).writes) (ok : Passes w.shared (w.links c) m.head) (next : m.number ≡ suc (w.links c).done) (does : Applies w.shared (w.links c) new key m.op) (ch : Changed w.links links c (record (w.links c) { done = suc (w.links c).done; applied = true; wrote = wrote_by (w.links c) m ∷ (w.links c).wrote; top_key = key })) (i : Inv w.shared (w.links c)) (h : History index w) where
  here_is : (links c).wrote ≡ wrote_by (w.links c) m ∷ (w.links c).wrote
  here_is = ap (λ x. x.wrote) ch.here

  rest_is : (d : ℕ) → d ≢ c → (links d).wrote ≡ (w.links d).wrote
  rest_is d ne = ap (λ x. x.wrote) (ch.rest d ne)

  keeps : (d : ℕ) (x : Wrote) → In x (w.links d).wrote → In x (links d).wrote
  keeps d x at = eq_cases d c (λ e. subst (λ z. In x (links z).wrote) (sym e) (subst (λ xs. In x xs) (sym here_is) (inr (subst (λ z. In x (w.links z).wrote) e at)))) (λ ne. subst (λ xs. In x xs) (sym (rest_is d ne)) at)

  in_new : Logged → Type 0
  in_new e = In e (record { client = c; wrote = wrote_by (w.links c) m } ∷ w.log)

  splits : (x : Wrote) → (x ≡ wrote_by (w.links c) m) ⊎ In x (w.links c).wrote → In (record { client = c; wrote = x }) (record { client = c; wrote = wrote_by (w.links c) m } ∷ w.log)
  splits x (inl e) = inl (ap {A = Wrote} {B = Logged} (λ z. record { client = c; wrote = z }) e)
  splits x (inr a) = inr (h.all c x a)

  history_write : History index (record { shared = record w.shared { index = new }; links = links; log = record { client = c; wrote = wrote_by (w.links c) m } ∷ w.log })
  history_write = record {
    each = λ d. eq_cases d c (λ e. subst (λ x. Wrotes (links x)) (sym e) (subst Wrotes (sym ch.here) (own_wrotes w.shared (w.links c) m key at ok next i (h.each c)))) (λ ne. subst Wrotes (sym (ch.rest d ne)) (h.each d));
    listed = each_more (λ e. In e.wrote (links e.client).wrote) _ w.log (subst (λ xs. In (wrote_by (w.links c) m) xs) (sym here_is) (inl refl)) (λ e at. keeps e.client e.wrote (h.listed e at));
    all = λ d x at. eq_cases d c
        (λ e. subst (λ z. In (record { client = z; wrote = x }) (record { client = c; wrote = wrote_by (w.links c) m } ∷ w.log)) (sym e) (splits x (subst (λ xs. In x xs) here_is (subst (λ z. In x (links z).wrote) e at))))
        (λ ne. inr (h.all d x (subst (λ xs. In x xs) (rest_is d ne) at)));
    once = (λ f at a b n. let low = (h.each c).low f.wrote (subst (λ z. In f.wrote (w.links z).wrote) a (h.listed f at)) in omega (arith, low.1 b, n), h.once);
    fold = fold_more w.shared (w.links c) new key m.op (replay index w.log) does h.fold;
    proper = (due w.shared (w.links c) new key m.op (replay index w.log) does h.fold, h.proper);
  }

pub history_kept : (index : ℕ → Option Value) (w v : World) → Step w v → WorldInv w → History index w → History index v
history_kept index w v (at_link c l links step ch) i h = history_link index w c l links ch (same_wrote w.shared (w.links c) l step) h (wrotes_kept w.shared (w.links c) l step (i.links c) (h.each c))
history_kept index w v (raises c range key links serving row up agrees ch) i h = history_link index w c _ links ch refl h (h.each c)
history_kept index w v (applies c m new key links at ok acked next does ch) i h = history_write index w c m new key links at ok next does ch (i.links c) h
history_kept index w v (crash on) i h = record { each = h.each; listed = h.listed; all = h.all; once = h.once; fold = h.fold; proper = h.proper }
history_kept index w v (start missing down is) i h = record { each = h.each; listed = h.listed; all = h.all; once = h.once; fold = h.fold; proper = h.proper }
history_kept index w v (finish on all) i h = record { each = h.each; listed = h.listed; all = h.all; once = h.once; fold = h.fold; proper = h.proper }

pub wrotes_blank : Wrotes blank_link
wrotes_blank = record { low = λ e at. absurd at; did = λ e at. absurd (omega arith); did_not = λ a e at. absurd at; told = λ e at. absurd at; told_not = λ e at. absurd at; sent = λ e at. absurd at; same = λ m n at. absurd at; sent_out = λ op e. absurd (none-some op e) }

pub reachable_history : (index : ℕ → Option Value) (end : ℕ) (w : World) → Reachable index end w → History index w
reachable_history index end w begun = record { each = λ c. wrotes_blank; listed = λ e at. absurd at; all = λ c x at. absurd at; once = tt; fold = λ q. refl; proper = tt }
reachable_history index end w (stepped u v r step) = history_kept index u v step (reachable_inv index end u r) (reachable_history index end u r)

pub writes_of : (index : ℕ → Option Value) (w : World) → History index w → WritesOnce index w
writes_of index w h = record {
  once = h.once;
  fold = h.fold;
  proper = h.proper;
  same = λ e at m mat a b. let x = (h.each e.client).sent e.wrote (h.listed e at) in (h.each e.client).same m x.0 mat x.1 (a ∙ sym x.2) (b ∙ sym x.3) ∙ x.4;
  told = λ c p at some t. let x = (h.each c).told p at some t in (record { client = c; wrote = x.0 }, h.all c x.0 x.1, refl, x.2, x.3);
  told_not = λ c p at some t x. (h.each c).told_not p at some t x.0.wrote (subst (λ z. In x.0.wrote (w.links z).wrote) x.2 (h.listed x.0 x.1)) x.3 x.4;
}

pub writes_once : (index : ℕ → Option Value) (end : ℕ) (w : World) → Reachable index end w → WritesOnce index w
writes_once index end w r = writes_of index w (reachable_history index end w r)
