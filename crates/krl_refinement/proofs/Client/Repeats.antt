-- A tick is steps of the client's link.
use Rattle.std.proofs.Common.{◌≡◌, ℕ, ◌≤◌, Bool, true, false, Option, Some, None, List, [], ◌∷◌, ◌++◌, inl, inr, refl, sym, subst, ⊎_elim, nat_eq, if◌then◌else◌}
use Rattle.krl_refinement.proofs.Names.{WriteOp, Pieces, ToServer, In, in_both, Link, Report, Shared, LinkSteps, idle, next, head_of, hellos_again, reports_again, speaks, writes_again, Belief}
use Rattle.krl_refinement.proofs.Names.{Describes, Client, LockRequest, NotAsked, Granted, Absent, Dropped, Waiting, outstanding, has_joined, op_of, op_shown, IsFrom, ShowsPlace, Leads}
use Rattle.krl_client.specs.Messages.{says_report, says_ack}
use Rattle.krl_client.specs.Ticks.{lock_again, write_again, says_hello, tick}
use Rattle.krl_refinement.proofs.Messages.{report_stands, from_stays}
use Rattle.krl_refinement.proofs.Client.Basics.{grows_on}
use Rattle.krl_refinement.proofs.Client.Steps.{rests, took, head_is, joined_epoch, more_heads}

steps_on : (s : Shared) (l m n : Link) → LinkSteps s l m → LinkSteps s m n → LinkSteps s l n
steps_on s l m n idle b = b
steps_on s l m n (next {m = x} a c) b = next a (steps_on s x m n c b)

-- first these messages, then those
pub goes_on : (s : Shared) (l : Link) (c g : ℕ) (k : Option Client) (ms ns : List ToServer) → Leads s l c g k ms → ((m : Link) → ShowsPlace c g k m → Leads s m c g k ns) → Leads s l c g k (ms ++ ns)
goes_on s l c g k ms ns a f = let b = f a.link a.place in record {
  link = b.link;
  steps = steps_on s l a.link b.link a.steps b.steps;
  grows = grows_on l a.link b.link a.grows b.grows;
  place = b.place;
  told = λ m i. ⊎_elim (λ (x : In m ms). from_stays a.link b.link b.grows m.incarnation m.body (a.told m x)) (λ (y : In m ns). b.told m y) (in_both ms ns m i);
  same = cc (a.same, b.same);
  mine = λ m i. ⊎_elim (λ (x : In m ms). a.mine m x) (λ (y : In m ns). b.mine m y) (in_both ms ns m i);
}

goes_either : (s : Shared) (l : Link) (c g : ℕ) (k : Option Client) (b : Bool) (xs ys : List ToServer) → (b ≡ true → Leads s l c g k xs) → (b ≡ false → Leads s l c g k ys) → Leads s l c g k (if b then xs else ys)
goes_either s l c g k true xs ys f h = f refl
goes_either s l c g k false xs ys f h = h refl

speaks_shows : (s : Shared) (l : Link) (c g : ℕ) (k : Client) (x : ToServer) → x.client ≡ c → ShowsPlace c g (Some k) l → 1 ≤ l.epoch → ((m : Link) → In (record { inc = k.incarnation; epoch = k.epoch; seen = k.seen }) m.heads → IsFrom m x.incarnation x.body) → Leads s l c g (Some k) (x ∷ [])
speaks_shows s l c g k x own h old f = took s l _ c g _ _ own refl (speaks h.1.up old) (more_heads l) h (f (record l { heads = head_of l ∷ l.heads }) (inl (sym (head_is c k l h.1))))

pub ack_shows : (s : Shared) (l : Link) (c g : ℕ) (k : Client) → ShowsPlace c g (Some k) l → 1 ≤ l.epoch → Leads s l c g (Some k) (says_ack k ∷ [])
ack_shows s l c g k h old = speaks_shows s l c g k _ h.1.number h old (λ m i. (i, tt))

-- what describes a belief describes the machine's client
pub describes_it : (ps : Pieces) (b d : Belief) → ((p : ℕ) → b.range_at p ≡ d.range_at p) → ((p : ℕ) → b.key_at p ≡ d.key_at p) → Describes ps b → Describes ps d
describes_it ps b d r k h = record { ranges_in_order = h.ranges_in_order; merged = h.merged; keys_in_order = h.keys_in_order; ranges = λ p. cc (h.ranges p, r p); keys = λ p. cc (h.keys p, k p) }

report_shows : (s : Shared) (l : Link) (c g : ℕ) (k : Client) (ps : Pieces) → Describes ps k.belief → ShowsPlace c g (Some k) l → 1 ≤ l.epoch → Leads s l c g (Some k) (says_report ps k ∷ [])
report_shows s l c g k ps d h old = took s l _ c g _ _ h.1.number refl (reports_again h.1.up old)
    (record { hellos = λ x i. i; byes = λ x i. i; heads = λ x i. i; releases = λ x i. i; writes = λ x i. i; reports = λ x i. inr i; notices = λ x i. i; pushes = λ x i. i })
    h (let r : Report = record { inc = l.inc; epoch = l.epoch; range = l.range; key = l.key } in report_stands l r k.incarnation k.epoch ps h.1.inc h.1.epoch (describes_it ps k.belief _ h.1.range h.1.key d))

first_shows : (s : Shared) (l : Link) (c g : ℕ) (k : Client) (ps : Pieces) (b : Bool) → Describes ps k.belief → ShowsPlace c g (Some k) l → 1 ≤ l.epoch → Leads s l c g (Some k) ((if b then says_report ps k else says_ack k) ∷ [])
first_shows s l c g k ps true d h old = report_shows s l c g k ps d h old
first_shows s l c g k ps false d h old = ack_shows s l c g k h old

lock_again_shows : (s : Shared) (l : Link) (c g : ℕ) (k : Client) (a : LockRequest) → ShowsPlace c g (Some k) l → 1 ≤ l.epoch → Leads s l c g (Some k) (lock_again k a)
lock_again_shows s l c g k NotAsked h old = rests s l c g (Some k) h
lock_again_shows s l c g k Granted h old = rests s l c g (Some k) h
lock_again_shows s l c g k Absent h old = rests s l c g (Some k) h
lock_again_shows s l c g k Dropped h old = rests s l c g (Some k) h
lock_again_shows s l c g k (Waiting point hi mode) h old = speaks_shows s l c g k _ h.1.number h old (λ m i. (i, tt))

write_again_shows : (s : Shared) (l : Link) (c g : ℕ) (k : Client) (out : Option WriteOp) → outstanding k.written ≡ out → ShowsPlace c g (Some k) l → 1 ≤ l.epoch → Leads s l c g (Some k) (write_again k out)
write_again_shows s l c g k None e h old = rests s l c g (Some k) h
write_again_shows s l c g k (Some change) e h old = took s l _ c g _ _ h.1.number refl (writes_again (op_of change) h.1.up old (subst (λ x. l.out ≡ op_shown x) e h.1.out))
    (record { hellos = λ x i. i; byes = λ x i. i; heads = λ x i. inr i; releases = λ x i. i; writes = λ x i. inr i; reports = λ x i. i; notices = λ x i. i; pushes = λ x i. i })
    h (inl (cc (h.1.inc, h.1.epoch, h.1.seen)), inl (cc (h.1.inc, h.1.epoch, h.1.seen, h.1.issued)))

-- the epoch of whatever shows the same client
still_joined : (c g : ℕ) (k : Client) (l : Link) → ShowsPlace c g (Some k) l → has_joined k ≡ true → 1 ≤ l.epoch
still_joined c g k l h e = joined_epoch c k l h.1 e

tick_joined : (s : Shared) (l : Link) (c g : ℕ) (k : Client) (ps : Pieces) → Describes ps k.belief → ShowsPlace c g (Some k) l → has_joined k ≡ true → Leads s l c g (Some k) ((if nat_eq k.seen 0 then says_report ps k else says_ack k) ∷ (lock_again k k.asked ++ write_again k (outstanding k.written)))
tick_joined s l c g k ps d h e = goes_on s l c g (Some k) (_ ∷ []) (lock_again k k.asked ++ write_again k (outstanding k.written)) (first_shows s l c g k ps (nat_eq k.seen 0) d h (still_joined c g k l h e))
    (λ m hm. goes_on s m c g (Some k) (lock_again k k.asked) (write_again k (outstanding k.written)) (lock_again_shows s m c g k k.asked hm (still_joined c g k m hm e))
    (λ n hn. write_again_shows s n c g k (outstanding k.written) refl hn (still_joined c g k n hn e)))

tick_early : (s : Shared) (l : Link) (c g : ℕ) (k : Client) → ShowsPlace c g (Some k) l → Leads s l c g (Some k) (says_hello k ∷ [])
tick_early s l c g k h = took s l _ c g _ _ h.1.number refl (hellos_again h.1.up)
    (record { hellos = λ x i. inr i; byes = λ x i. i; heads = λ x i. i; releases = λ x i. i; writes = λ x i. i; reports = λ x i. i; notices = λ x i. i; pushes = λ x i. i })
    h (inl (sym h.1.inc))

pub ticks_show : (s : Shared) (l : Link) (c g : ℕ) (k : Client) (ps : Pieces) → Describes ps k.belief → ShowsPlace c g (Some k) l → Leads s l c g (Some k) (tick ps k)
ticks_show s l c g k ps d h = goes_either s l c g (Some k) (has_joined k) _ _ (λ e. tick_joined s l c g k ps d h e) (λ e. tick_early s l c g k h)
