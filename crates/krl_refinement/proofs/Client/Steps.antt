-- Starts, crashes and commands are steps of the client's link.
use Rattle.std.proofs.Common.{◌≡◌, ℕ, suc, ◌≤◌, ◌<◌, ◌-◌, Bool, true, false, ◌&&◌, ◌||◌, Option, Some, None, [], ◌∷◌, ◌⊎◌, inl, inr, refl, sym, subst, ◌∙◌, ⊎_elim, arith, nat_lt, nat_le, not, if◌then◌else◌, ltb-true}
use Rattle.krl_refinement.proofs.Names.{and_parts, not-false, END, TOP, KeyPart, Mode, key_meet, reads_key, is_key_X, is_range_X, range_of, key_of, Bounds, contains, WriteOp, ToServer, Value, row_of}
use Rattle.krl_refinement.proofs.Names.{mode_parts, lower, is_span, Client, begun, LockRequest, Waiting, outstanding, has_joined, is_in, is_writing_in, op_of, op_shown, Grows, server_part, IsFrom}
use Rattle.krl_refinement.proofs.Names.{ShowsClient, ShowsPlace, Leads}
use Rattle.krl_modes.specs.declared.part.KeyPart.TheVariants as key
use Rattle.krl_messages.specs.declared.write_op.WriteOp.TheVariants as op
use Rattle.krl_machine.specs.Links
use Rattle.krl_machine.specs.Links.{Op, op_key, Link, Shared, LinkStep, idle, next, MayIssue, head_of, starts, crashes, leaves, lowers, issues, speaks}
use Rattle.krl_client.specs.declared.refused.CommandRefused.TheVariants as refused
use Rattle.krl_modes.proofs.Basics.{None-if_not_some}
use Rattle.krl_cache.proofs.Truths.{outside_span}
use Rattle.krl_cache.proofs.Calls.{either_none}
use Rattle.krl_messages.specs.Writes.{op_key as key_of_op, can_seize}
use Rattle.krl_modes.proofs.PartLaws.{range_is_X}
use Rattle.krl_client.specs.Commands.{holds_for, lock_refusal, write_refusal, seize_refusal, lower_refusal, locked, issued, wrote, belief_lowered, says_lock, says_write, says_release, says_bye}
use Rattle.krl_client.specs.Commands as commands
use Rattle.krl_client.specs.Ticks.{says_hello}
use Rattle.krl_refinement.proofs.Client.Basics.{grows_not, passed, lowered_at, before_last}

-- nothing is sent, and no step is taken
pub rests : (s : Shared) (l : Link) (c g : ℕ) (k : Option Client) → ShowsPlace c g k l → Leads s l c g k []
rests s l c g k h = record { link = l; steps = idle; grows = grows_not l; place = h; told = λ m i. absurd i; mine = λ m i. absurd i; same = refl }

-- one step and one message
pub took : (s : Shared) (l m : Link) (c g : ℕ) (k : Option Client) (x : ToServer) → x.client ≡ c → server_part m ≡ server_part l → LinkStep s l m → Grows l m → ShowsPlace c g k m → IsFrom m x.incarnation x.body → Leads s l c g k (x ∷ [])
took s l m c g k x own part step grows h f = record {
  same = part;
  link = m;
  steps = next step idle;
  grows = grows;
  place = h;
  told = λ y i. ⊎_elim (λ (e : y ≡ x). subst (λ (z : ToServer). IsFrom m z.incarnation z.body) (sym e) f) (λ (e : ⊥). absurd e) i;
  mine = λ y i. ⊎_elim (λ (e : y ≡ x). subst (λ (z : ToServer). z.client ≡ c) (sym e) own) (λ (e : ⊥). absurd e) i;
}

-- what the machine doesn't keep
pub other_parts : (c : ℕ) (k : Client) (a : Links.Client) (req : ℕ) (asked : LockRequest) (pins : ℕ → Option Bounds) → ShowsClient c k a → ShowsClient c (record k { req = req; asked = asked; pins = pins }) a
other_parts c k a req asked pins h = record { number = h.number; up = h.up; inc = h.inc; epoch = h.epoch; seen = h.seen; issued = h.issued; out = h.out; numbered = h.numbered; range = h.range; key = h.key; value = h.value; at_end = h.at_end }

-- the numbers that a message bears
pub head_is : (c : ℕ) (k : Client) (l : Link) → ShowsClient c k l.client → head_of l ≡ record { inc = k.incarnation; epoch = k.epoch; seen = k.seen }
head_is c k l h = cc (h.inc, h.epoch, h.seen)

pub joined_epoch : (c : ℕ) (k : Client) (l : Link) → ShowsClient c k l.client → has_joined k ≡ true → 1 ≤ l.epoch
joined_epoch c k l h e = let x = ltb-true 0 k.epoch e in let y = h.epoch in omega arith

pub starting : (s : Shared) (l : Link) (c g : ℕ) → ShowsPlace c g None l → Leads s l c (suc g) (Some (begun c (suc g))) (says_hello (begun c (suc g)) ∷ [])
starting s l c g h = took s l _ c (suc g) _ _ refl refl (starts h.1)
    (record { hellos = λ x i. inr i; byes = λ x i. i; heads = λ x i. i; releases = λ x i. i; writes = λ x i. i; reports = λ x i. i; notices = λ x i. i; pushes = λ x i. i })
    (cc (h.0), record { number = refl; up = refl; inc = cc (h.0); epoch = refl; seen = refl; issued = refl; out = refl; numbered = inr refl; range = λ q. refl; key = λ q. refl; value = λ q n. refl; at_end = refl })
    (inl (cc (h.0)))

pub crashing : (s : Shared) (l : Link) (c g : ℕ) (k : Client) → ShowsPlace c g (Some k) l → Leads s l c g None []
crashing s l c g k h = record {
  link = _;
  steps = next crashes idle;
  grows = record { hellos = λ x i. i; byes = λ x i. i; heads = λ x i. i; releases = λ x i. i; writes = λ x i. i; reports = λ x i. i; notices = λ x i. i; pushes = λ x i. i };
  place = (h.0, refl);
  told = λ m i. absurd i;
  mine = λ m i. absurd i;
  same = refl;
}

pub leaving : (s : Shared) (l : Link) (c g : ℕ) (k : Client) → ShowsPlace c g (Some k) l → Leads s l c g None (says_bye k ∷ [])
leaving s l c g k h = took s l _ c g None _ h.1.number refl (leaves h.1.up)
    (record { hellos = λ x i. i; byes = λ x i. inr i; heads = λ x i. i; releases = λ x i. i; writes = λ x i. i; reports = λ x i. i; notices = λ x i. i; pushes = λ x i. i })
    (h.0, refl)
    (inl (sym h.1.inc))

-- a head more
pub more_heads : (l : Link) → Grows l (record l { heads = head_of l ∷ l.heads })
more_heads l = record { hellos = λ x i. i; byes = λ x i. i; heads = λ x i. inr i; releases = λ x i. i; writes = λ x i. i; reports = λ x i. i; notices = λ x i. i; pushes = λ x i. i }

pub locks_show : (s : Shared) (l : Link) (c g : ℕ) (k : Client) (point hi : ℕ) (mode : Mode) → ShowsPlace c g (Some k) l → lock_refusal k point hi ≡ None → Leads s l c g (Some (locked k point hi mode)) (says_lock (locked k point hi mode) point hi mode ∷ [])
locks_show s l c g k point hi mode h e = let p = passed (nat_lt END point) refused.BadPoint _ e in let r = passed (not (is_span (record { lo = point; hi = hi }))) refused.BadSpan _ p.1 in let q = passed (not (has_joined k)) refused.NotJoined _ r.1 in
    took s l _ c g _ _ h.1.number refl (speaks h.1.up (joined_epoch c k l h.1 (not-false _ q.0))) (more_heads l) (h.0, other_parts c k l.client (suc k.req) (Waiting point hi mode) k.pins h.1) (inl (sym (head_is c k l h.1)), tt)

-- Writes

may_issue : (c : ℕ) (k : Client) (l : Link) (change : WriteOp) → ShowsClient c k l.client → holds_for k.belief change ≡ true → MayIssue l (op_of change)
may_issue c k l (op.Insert n v) h e = tt
may_issue c k l (op.Put n v) h e = tt
may_issue c k l (op.Delete n) h e = let x = and_parts (is_key_X (k.belief.key_at n) && is_range_X (k.belief.range_at n)) _ e in
    let y = and_parts (is_key_X (k.belief.key_at n)) (is_range_X (k.belief.range_at n)) x.0 in
    let z = range_is_X (k.belief.range_at n) y.1 in cc (h.range n)

-- the reasons that a write isn't refused for
record MayWrite (k : Client) (change : WriteOp) : Type 0 where
  joined : has_joined k ≡ true
  free : outstanding k.written ≡ None
  may : (c : ℕ) (l : Link) → ShowsClient c k l.client → MayIssue l (op_of change)

may_write : (k : Client) (change : WriteOp) → write_refusal k change ≡ None → MayWrite k change
may_write k change e = let p1 = passed _ _ _ e in let p2 = passed _ _ _ p1.1 in let p3 = passed _ _ _ p2.1 in let p4 = passed _ _ _ p3.1 in
    record { joined = not-false _ p2.0; free = None-if_not_some (outstanding k.written) p3.0; may = λ c l h. may_issue c k l change h (not-false _ p4.0) }

-- a write that takes its lock needs nothing, except for a delete, which takes none
may_issue_seizing : (c : ℕ) (k : Client) (l : Link) (change : WriteOp) → ShowsClient c k l.client → (can_seize change || holds_for k.belief change) ≡ true → MayIssue l (op_of change)
may_issue_seizing c k l (op.Insert n v) h e = tt
may_issue_seizing c k l (op.Put n v) h e = tt
may_issue_seizing c k l (op.Delete n) h e = may_issue c k l (op.Delete n) h e

may_seize : (k : Client) (change : WriteOp) → seize_refusal k change ≡ None → MayWrite k change
may_seize k change e = let p1 = passed _ _ _ e in let p2 = passed _ _ _ p1.1 in let p3 = passed _ _ _ p2.1 in let p4 = passed _ _ _ p3.1 in
    record { joined = not-false _ p2.0; free = None-if_not_some (outstanding k.written) p3.0; may = λ c l h. may_issue_seizing c k l change h (not-false _ p4.0) }

-- no write is outstanding in the machine's client either
nothing_out : (k : Client) (out : Option Op) → out ≡ op_shown (outstanding k.written) → outstanding k.written ≡ None → out ≡ None
nothing_out k out o e = subst (λ x. out ≡ op_shown x) e o

issue_shows : (s : Shared) (l : Link) (c g : ℕ) (k : Client) (change : WriteOp) (seizes : Bool) → ShowsPlace c g (Some k) l → MayWrite k change → Leads s l c g (Some (issued k change seizes)) (says_write (issued k change seizes) change ∷ [])
issue_shows s l c g k change seizes h may = took s l _ c g _ _ h.1.number refl (issues (op_of change) h.1.up (joined_epoch c k l h.1 may.joined) (nothing_out k l.out h.1.out may.free) (may.may c l h.1))
    (record { hellos = λ x i. i; byes = λ x i. i; heads = λ x i. inr i; releases = λ x i. i; writes = λ x i. inr i; reports = λ x i. i; notices = λ x i. i; pushes = λ x i. i })
    (h.0, record { number = h.1.number; up = h.1.up; inc = h.1.inc; epoch = h.1.epoch; seen = h.1.seen; issued = cc (h.1.issued); out = refl; numbered = inl (omega arith); range = h.1.range; key = h.1.key; value = h.1.value; at_end = h.1.at_end })
    (inl (cc (h.1.inc, h.1.epoch, h.1.seen)), inl (cc (h.1.inc, h.1.epoch, h.1.seen, h.1.issued)))

pub writes_show : (s : Shared) (l : Link) (c g : ℕ) (k : Client) (change : WriteOp) → ShowsPlace c g (Some k) l → write_refusal k change ≡ None → Leads s l c g (Some (wrote k change)) (says_write (wrote k change) change ∷ [])
writes_show s l c g k change h e = issue_shows s l c g k change false h (may_write k change e)

pub seizes_show : (s : Shared) (l : Link) (c g : ℕ) (k : Client) (change : WriteOp) → ShowsPlace c g (Some k) l → seize_refusal k change ≡ None → Leads s l c g (Some (commands.seized k change)) (says_write (commands.seized k change) change ∷ [])
seizes_show s l c g k change h e = issue_shows s l c g k change true h (may_seize k change e)

-- Lowering

row_met : (k keep : KeyPart) (v x : Option Value) → x ≡ row_of k v → (if reads_key (key_meet k keep) then x else None) ≡ row_of (key_meet k keep) v
row_met key.N keep v x e = refl
row_met key.S key.N v x e = refl
row_met key.S key.S v x e = e
row_met key.S key.U v x e = e
row_met key.S key.X v x e = e
row_met key.U key.N v x e = refl
row_met key.U key.S v x e = e
row_met key.U key.U v x e = e
row_met key.U key.X v x e = e
row_met key.X key.N v x e = refl
row_met key.X key.S v x e = e
row_met key.X key.U v x e = e
row_met key.X key.X v x e = e

row_lowered : (t : Bool) (k keep : KeyPart) (v x : Option Value) → x ≡ row_of k v → (if t then (if reads_key (key_meet k keep) then x else None) else x) ≡ row_of (if t then key_meet k keep else k) v
row_lowered true k keep v x e = row_met k keep v x e
row_lowered false k keep v x e = e

-- the machine's outstanding write is the client's
pub out_key : (o : Option WriteOp) (x : Op) → op_shown o ≡ Some x → (change : WriteOp) × (o ≡ Some change) × (op_key x ≡ key_of_op change)
out_key None x e = absurd (cc)
out_key (Some (op.Insert n v)) x e = (op.Insert n v, refl, let f : Links.Insert n v ≡ x = cc in cc)
out_key (Some (op.Put n v)) x e = (op.Put n v, refl, let f : Links.Put n v ≡ x = cc in cc)
out_key (Some (op.Delete n)) x e = (op.Delete n, refl, let f : Links.Delete n ≡ x = cc in cc)

-- an outstanding write's key lies outside a span where none is written
pub not_in : (s : Bounds) (k : Client) (out : Option Op) → out ≡ op_shown (outstanding k.written) → is_writing_in k s ≡ false → (x : Op) → out ≡ Some x → (op_key x < s.lo) ⊎ (s.hi ≤ op_key x)
not_in s k out o e x i =
    let h = out_key (outstanding k.written) x (sym o ∙ i) in
    let f : is_in s (Some h.0) ≡ false = subst (λ y. is_in s y ≡ false) h.1 e in
    subst (λ n. (n < s.lo) ⊎ (s.hi ≤ n)) (sym h.2) (outside_span s (key_of_op h.0) f)

pub lowers_show : (s : Shared) (l : Link) (c g : ℕ) (k : Client) (span : Bounds) (keep : Mode) → ShowsPlace c g (Some k) l → 1 ≤ l.epoch → span.lo < span.hi → is_writing_in k span ≡ false → Leads s l c g (Some (belief_lowered k span keep)) (says_release k span keep ∷ [])
lowers_show s l c g k span keep h old some free = took s l _ c g _ _ h.1.number refl
    (lowers (record { head = head_of l; lo = span.lo; last = span.hi - 1; range = range_of keep; key = key_of keep }) (lower span keep k.belief).range_at (lower span keep k.belief).key_at h.1.up old refl (mode_parts keep) (λ x i. before_last span.lo span.hi (op_key x) some (not_in span k l.out h.1.out free x i))
    (λ q. lowered_at span keep (l.range q) (k.belief.range_at q) (l.key q) (k.belief.key_at q) q (contains span q) refl some (h.1.range q) (h.1.key q)))
    (record { hellos = λ x i. i; byes = λ x i. i; heads = λ x i. inr i; releases = λ x i. inr i; writes = λ x i. i; reports = λ x i. i; notices = λ x i. i; pushes = λ x i. i }) (
      h.0,
      record {
        number = h.1.number;
        up = h.1.up;
        inc = h.1.inc;
        epoch = h.1.epoch;
        seen = h.1.seen;
        issued = h.1.issued;
        out = h.1.out;
        numbered = h.1.numbered;
        range = λ q. refl;
        key = λ q. refl;
        value = λ q n. row_lowered (contains span q) (k.belief.key_at q) (key_of keep) (l.value q) (k.belief.value_at q) (subst (λ x. k.belief.value_at q ≡ row_of x (l.value q)) (sym (h.1.key q)) (h.1.value q n));
        at_end = either_none (contains span END) (reads_key (key_meet (k.belief.key_at END) (key_of keep))) (k.belief.value_at END) h.1.at_end;
      },
    )
    (inl (cc (h.1.inc, h.1.epoch, h.1.seen)), (some, inl (cc (h.1.inc, h.1.epoch, h.1.seen))))

pub given_back_shows : (s : Shared) (l : Link) (c g : ℕ) (k : Client) (span : Bounds) (keep : Mode) → ShowsPlace c g (Some k) l → lower_refusal k span ≡ None → Leads s l c g (Some (belief_lowered k span keep)) (says_release k span keep ∷ [])
given_back_shows s l c g k span keep h e = let p1 = passed _ _ _ e in let p2 = passed _ _ _ p1.1 in let p3 = passed _ _ _ p2.1 in
    lowers_show s l c g k span keep h (joined_epoch c k l h.1 (not-false _ p2.0)) (ltb-true span.lo span.hi (and_parts (nat_lt span.lo span.hi) (nat_le span.hi TOP) (not-false _ p1.0)).0) p3.0
