-- Each call leaves a client.
use Rattle.std.proofs.Common.{◌≡◌, ℕ, zero, suc, ◌+◌, ◌≤◌, ◌<◌, inl, inr, Bool, true, false, ◌&&◌, ◌||◌, not, Option, Some, None, is_some, refl, sym, subst, arith, nat_eq, nat_lt, nat_le, leb-false, ltb-false, if◌then◌else◌}
use Rattle.std.proofs.lemmas.Bool.Decides.{eqb_tells}
use Rattle.std.proofs.lemmas.Bool.{and_parts}
use Rattle.krl_modes.specs.declared.point.TheConstants.{END}
use Rattle.krl_modes.specs.declared.mode.Mode.{Mode}
use Rattle.krl_modes.specs.Spans.{Bounds}
use Rattle.krl_messages.specs.declared.outcome.Outcome.{Outcome}
use Rattle.krl_messages.specs.declared.write_op.WriteOp.{WriteOp}
use Rattle.krl_messages.specs.declared.to_client.ToClient.{ToClient}
use Rattle.krl_messages.specs.declared.to_client.ToClientBody.{ToClientBody}
use Rattle.krl_messages.specs.declared.to_client.ToClientBody.TheVariants as told
use Rattle.krl_messages.specs.declared.to_client.PushBody.{PushBody}
use Rattle.krl_messages.specs.declared.to_client.PushBody.TheVariants as push
use Rattle.krl_messages.specs.Writes.{op_key, can_seize}
use Rattle.krl_cache.specs.Laws.{IsBelief}
use Rattle.krl_cache.specs.Beliefs.{is_span}
use Rattle.krl_cache.proofs.Calls.{calls_keep_belief, adopted_all}
use Rattle.krl_client.specs.declared.refused.CommandRefused.TheVariants as refused
use Rattle.krl_client.specs.declared.refused.StartRefused.TheVariants as start
use Rattle.krl_client.specs.Clients.{Client, LockRequest, NotAsked, Granted, Absent, Dropped, Waiting, LastWrite, Unwritten, Outstanding, Judged, outstanding, has_joined, is_waiting, is_writing_in, meets_pin, free_from, free_pin, with_pin, begun}
use Rattle.krl_client.specs.Splits.{if_taken}
use Rattle.krl_client.specs.Commands.{start_refusal, lock_refusal, locked, write_refusal, wrote, seize_refusal, seized, holds_for, belief_lowered, pin_refusal, pinned, unpinned}
use Rattle.krl_client.specs.Messages.{ClientCase, Ignores, AcksAgain, Adopts, Accepts, Lowers, client_case_of, client_case_of_body, after, fits, request_dropped, joined, judged_as, accepted}
use Rattle.krl_client.specs.Keeps.{IsPin, IsClient, LiesOnSpan, BringsSpan, ClientKeeps}
use Rattle.krl_client.proofs.Tests.{passed}
use Rattle.krl_client.proofs.Cases.{next_fits}

pub start_keeps : (c incarnation : ℕ) → start_refusal c incarnation ≡ None → IsClient (begun c incarnation)
start_keeps c incarnation e =
    let one = passed (nat_lt 63 c) start.BadClient _ e in
    let two = passed (nat_lt END incarnation) start.Spent None one.1 in
    record {
      number = let low = ltb-false 63 c one.0 in omega (arith, low);
      incarnation = ltb-false END incarnation two.0;
      seen = omega arith;
      req = omega arith;
      writes = omega arith;
      asked = λ point hi mode w. absurd (cc);
      written = λ change w. absurd (cc);
      pins = λ id s w. absurd (cc);
      belief = calls_keep_belief.new;
    }

-- Commands

same_points : (p q i j : ℕ) (m n : Mode) → Waiting p i m ≡ Waiting q j n → (p ≡ q) × (i ≡ j)
same_points p q i j m n e = (cc, cc)

same_change : (a b : WriteOp) → ◌≡◌ {A = Option WriteOp} (Some a) (Some b) → a ≡ b
same_change a b e = cc

pub lock_keeps : (k : Client) (point hi : ℕ) (mode : Mode) → lock_refusal k point hi ≡ None → IsClient k → IsClient (locked k point hi mode)
lock_keeps k point hi mode e i =
    let one = passed (nat_lt END point) refused.BadPoint _ e in
    let span = passed (not (is_span (record { lo = point; hi = hi }))) refused.BadSpan _ one.1 in
    let two = passed (not (has_joined k)) refused.NotJoined _ span.1 in
    let three = passed (is_waiting k.asked) refused.Busy _ two.1 in
    let four = passed (nat_le END k.req) refused.Spent None three.1 in
    let below = leb-false END k.req four.0 in
    let at : point ≤ END = ltb-false END point one.0 in
    let reach : is_span (record { lo = point; hi = hi }) ≡ true = known (is_span (record { lo = point; hi = hi })) span.0 in
    record {
      number = i.number;
      incarnation = i.incarnation;
      seen = i.seen;
      req = omega (arith, below);
      writes = i.writes;
      asked = λ p j m w. let same = same_points point p hi j mode m w in record {
        counted = omega arith;
        at = subst (λ (n : ℕ). n ≤ END) same.0 at;
        reach = subst (λ (n : ℕ). is_span (record { lo = p; hi = n }) ≡ true) same.1 (subst (λ (n : ℕ). is_span (record { lo = n; hi = hi }) ≡ true) same.0 reach);
      };
      written = i.written;
      pins = i.pins;
      belief = i.belief;
    }
  where
    known : (b : Bool) → not b ≡ false → b ≡ true
    known true h = refl
    known false h = absurd (let bad : true ≡ false = h in cc)

pub write_keeps : (k : Client) (change : WriteOp) → write_refusal k change ≡ None → IsClient k → IsClient (wrote k change)
write_keeps k change e i =
    let one = passed (nat_le END (op_key change)) refused.BadPoint _ e in
    let two = passed (not (has_joined k)) refused.NotJoined _ one.1 in
    let three = passed (is_some (outstanding k.written)) refused.Writing _ two.1 in
    let four = passed (not (holds_for k.belief change)) refused.NotHeld _ three.1 in
    let five = passed (nat_le END k.writes) refused.Spent None four.1 in
    let below = leb-false END k.writes five.0 in
    let key : op_key change < END = leb-false END (op_key change) one.0 in
    record {
      number = i.number;
      incarnation = i.incarnation;
      seen = i.seen;
      req = i.req;
      writes = omega (arith, below);
      asked = i.asked;
      written = λ c w. record { counted = omega arith; key = subst (λ (x : WriteOp). op_key x < END) (same_change change c w) key };
      pins = i.pins;
      belief = i.belief;
    }

pub seize_keeps : (k : Client) (change : WriteOp) → seize_refusal k change ≡ None → IsClient k → IsClient (seized k change)
seize_keeps k change e i =
    let one = passed (nat_le END (op_key change)) refused.BadPoint _ e in
    let two = passed (not (has_joined k)) refused.NotJoined _ one.1 in
    let three = passed (is_some (outstanding k.written)) refused.Writing _ two.1 in
    let four = passed (not (can_seize change || holds_for k.belief change)) refused.NotHeld _ three.1 in
    let five = passed (nat_le END k.writes) refused.Spent None four.1 in
    let below = leb-false END k.writes five.0 in
    let key : op_key change < END = leb-false END (op_key change) one.0 in
    record {
      number = i.number;
      incarnation = i.incarnation;
      seen = i.seen;
      req = i.req;
      writes = omega (arith, below);
      asked = i.asked;
      written = λ c w. record { counted = omega arith; key = subst (λ (x : WriteOp). op_key x < END) (same_change change c w) key };
      pins = i.pins;
      belief = i.belief;
    }

pub lower_keeps : (k : Client) (s : Bounds) (keep : Mode) → IsClient k → IsClient (belief_lowered k s keep)
lower_keeps k s keep i = record {
  number = i.number;
  incarnation = i.incarnation;
  seen = i.seen;
  req = i.req;
  writes = i.writes;
  asked = i.asked;
  written = i.written;
  pins = i.pins;
  belief = calls_keep_belief.lower s keep k.belief i.belief;
}

-- Pins

free_below : (pins : ℕ → Option Bounds) (i n id : ℕ) → free_from pins i n ≡ Some id → id < i + n
free_below pins i zero id h = absurd (let bad : None ≡ Some id = h in cc)
free_below pins i (suc n) id h =
    elim (pins i) as (λ (s : Option Bounds). if_taken s i (free_from pins (suc i) n) ≡ Some id → id < i + suc n) [
      | None ↦ λ k. let is : i ≡ id = cc in omega arith
      | Some s ↦ λ k. omega (arith, free_below pins (suc i) n id k)
    ] h

set_pin : (pins : ℕ → Option Bounds) (id j : ℕ) (new : Option Bounds) (t : Bounds) → ((q : ℕ) (s : Bounds) → pins q ≡ Some s → IsPin q s) → (new ≡ Some t → IsPin id t) → with_pin pins id new j ≡ Some t → IsPin j t
set_pin pins id j new t old is w =
    elim (eqb_tells j id) [
      | inl e ↦ subst (λ (n : ℕ). IsPin n t) (sym e.1) (is (subst (λ (b : Bool). (if b then new else pins j) ≡ Some t) e.0 w))
      | inr e ↦ old j t (subst (λ (b : Bool). (if b then new else pins j) ≡ Some t) e.0 w)
    ]

pub pin_keeps : (k : Client) (s : Bounds) (id : ℕ) → is_span s ≡ true → free_pin k ≡ Some id → IsClient k → IsClient (pinned k s id)
pin_keeps k s id span free i = record {
  number = i.number;
  incarnation = i.incarnation;
  seen = i.seen;
  req = i.req;
  writes = i.writes;
  asked = i.asked;
  written = i.written;
  pins = λ j t w. set_pin k.pins id j (Some s) t i.pins (λ e. record { below = free_below k.pins 0 8 id free; span = let same : s ≡ t = cc in subst (λ (x : Bounds). is_span x ≡ true) same span }) w;
  belief = i.belief;
}

pub unpin_keeps : (k : Client) (id : ℕ) → IsClient k → IsClient (unpinned k id)
unpin_keeps k id i = record {
  number = i.number;
  incarnation = i.incarnation;
  seen = i.seen;
  req = i.req;
  writes = i.writes;
  asked = i.asked;
  written = i.written;
  pins = λ j t w. set_pin k.pins id j None t i.pins (λ e. absurd (let bad : ◌≡◌ {A = Option Bounds} None (Some t) = e in cc)) w;
  belief = i.belief;
}

spanned : (k : Client) (s : Bounds) → pin_refusal k s ≡ None → is_span s ≡ true
spanned k s e = yes (is_span s) (passed (not (is_span s)) refused.BadSpan _ e).0
  where
    yes : (b : Bool) → not b ≡ false → b ≡ true
    yes true h = refl
    yes false h = absurd (let bad : true ≡ false = h in cc)

-- Messages

none_waits : (a : LockRequest) (point hi : ℕ) (mode : Mode) → request_dropped a ≡ Waiting point hi mode → ⊥
none_waits NotAsked point hi mode e = cc
none_waits (Waiting p j m) point hi mode e = cc
none_waits Granted point hi mode e = cc
none_waits Absent point hi mode e = cc
none_waits Dropped point hi mode e = cc

pub join_keeps : (k : Client) (epoch : ℕ) → IsClient k → IsClient (joined k epoch)
join_keeps k epoch i = record {
  number = i.number;
  incarnation = i.incarnation;
  seen = omega arith;
  req = omega arith;
  writes = i.writes;
  asked = λ point hi mode w. absurd (none_waits k.asked point hi mode w);
  written = i.written;
  pins = i.pins;
  belief = i.belief;
}

-- what waits after a reply waited before
still_waits : (t : Bool) (now reply : LockRequest) (point hi : ℕ) (mode : Mode) → (reply ≡ Waiting point hi mode → ⊥) → (if t then reply else now) ≡ Waiting point hi mode → now ≡ Waiting point hi mode
still_waits true now reply point hi mode other e = absurd (other e)
still_waits false now reply point hi mode other e = e

still_one : (t : Bool) (outcome : Outcome) (old change : WriteOp) → outstanding (if t then Judged outcome else Outstanding old) ≡ Some change → Some old ≡ Some change
still_one true outcome old change e = absurd (let bad : ◌≡◌ {A = Option WriteOp} None (Some change) = e in cc)
still_one false outcome old change e = e

-- what is outstanding after an answer was so before
still_out : (k : Client) (number : ℕ) (outcome : Outcome) (w : LastWrite) (change : WriteOp) → outstanding (judged_as k number outcome w) ≡ Some change → outstanding w ≡ Some change
still_out k number outcome Unwritten change e = e
still_out k number outcome (Outstanding old) change e = still_one (nat_eq number k.writes) outcome old change e
still_out k number outcome (Judged old) change e = e

pub accept_keeps : (k : Client) (what : PushBody) → suc k.seen ≤ END → IsBelief (accepted k what).belief → IsClient k → IsClient (accepted k what)
accept_keeps k (push.Grant req hs) l b i = record {
  number = i.number;
  incarnation = i.incarnation;
  seen = l;
  req = i.req;
  writes = i.writes;
  asked = λ point hi mode w. i.asked point hi mode (still_waits (is_waiting k.asked && nat_eq req k.req) k.asked Granted point hi mode (λ e. cc) w);
  written = i.written;
  pins = i.pins;
  belief = b;
}
accept_keeps k (push.Absent req point) l b i = record {
  number = i.number;
  incarnation = i.incarnation;
  seen = l;
  req = i.req;
  writes = i.writes;
  asked = λ p hi mode w. i.asked p hi mode (still_waits (is_waiting k.asked && nat_eq req k.req) k.asked Absent p hi mode (λ e. cc) w);
  written = i.written;
  pins = i.pins;
  belief = b;
}
accept_keeps k (push.Answer number outcome h) l b i = record {
  number = i.number;
  incarnation = i.incarnation;
  seen = l;
  req = i.req;
  writes = i.writes;
  asked = i.asked;
  written = λ change w. i.written change (still_out k number outcome k.written change w);
  pins = i.pins;
  belief = b;
}

accepts_belief : (k : Client) (what : PushBody) → fits what ≡ true → LiesOnSpan what → IsBelief k.belief → IsBelief (accepted k what).belief
accepts_belief k (push.Grant req hs) f s i = adopted_all hs k.belief s f i
accepts_belief k (push.Absent req point) f s i = i
accepts_belief k (push.Answer number outcome h) f s i = calls_keep_belief.adopt h k.belief s f i

abbrev Keeps : Client → ClientCase → Type 0
Keeps k x = IsClient k → IsClient (after k x)

keeps_either : (k : Client) (b : Bool) (x y : ClientCase) → (b ≡ true → Keeps k x) → Keeps k y → Keeps k (if b then x else y)
keeps_either k true x y f h = f refl
keeps_either k false x y f h = h

body_keeps : (k : Client) (what : ToClientBody) → BringsSpan what → Keeps k (client_case_of_body k what)
body_keeps k (told.Epoch epoch) s = keeps_either k (nat_lt k.epoch epoch) (Adopts epoch) Ignores (λ t. join_keeps k epoch) (λ i. i)
body_keeps k (told.Push epoch number what) s =
    keeps_either k (nat_eq epoch k.epoch && fits what) _ Ignores
    (λ t. keeps_either k (nat_eq number (suc k.seen) && nat_le number END) (Accepts what) _
    (λ u i. accept_keeps k what (next_fits number k.seen u) (accepts_belief k what (and_parts (nat_eq epoch k.epoch) (fits what) t).1 s i.belief) i)
    (keeps_either k (nat_eq number k.seen) AcksAgain Ignores (λ w i. i) (λ i. i)))
    (λ i. i)
body_keeps k (told.Callback epoch s keep) b =
    keeps_either k (nat_eq epoch k.epoch && not (is_writing_in k s || meets_pin k s)) (Lowers s keep) Ignores (λ t. lower_keeps k s keep) (λ i. i)

message_keeps : (k : Client) (m : ToClient) → BringsSpan m.body → Keeps k (client_case_of k m)
message_keeps k m s =
    keeps_either k (nat_eq m.client k.number && nat_eq m.incarnation k.incarnation) (client_case_of_body k m.body) Ignores (λ t. body_keeps k m.body s) (λ i. i)

pub client_keeps : ClientKeeps
client_keeps = record {
  start = start_keeps;
  lock = lock_keeps;
  write = write_keeps;
  seize = seize_keeps;
  lower = lower_keeps;
  pin = λ k s id e. pin_keeps k s id (spanned k s e);
  unpin = unpin_keeps;
  message = message_keeps;
}
