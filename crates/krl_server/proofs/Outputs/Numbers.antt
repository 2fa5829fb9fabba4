-- A step or nudge sends few messages; and all that holds of the end of a step.
use Rattle.std.proofs.Common.{◌≡◌, ℕ, zero, suc, ◌+◌, ◌*◌, ◌≤◌, ◌<◌, Bool, true, false, ◌||◌, Option, Some, None, List, [], ◌∷◌, ◌++◌, length, inl, refl, sym, ap, subst, arith, length-append, nat_eq, eq-eqb}
use Rattle.krl_server.proofs.Names.{if◌then◌else◌, compatible, cap, ToClient, PushBody, ToServer, WriteOp, Outcome, Waiter, eq_cases, Record, slot_of, slots, span_of, op_key, In, record_of}
use Rattle.krl_server.proofs.Names.{max_clients, mode_at, wanted, asks_absent, IsTable, Server, is_recovering, lists, Case, Ignored, Registers, Leaves, Tells, Alarms, Rebuilds, Repeats}
use Rattle.krl_server.proofs.Names.{Acknowledges, Lowers, Waits, Judges, SeizesLock, seizes, AnswersAgain, case_of, callback_to, epoch_to, holding, acknowledged, writes, tells_outcome, effect, stops, is_compatible}
use Rattle.krl_server.proofs.Names.{callbacks_from, callbacks_for, callbacks_at, callbacks_among, callbacks_of, callbacks_of_among, Following, Nothing, Answers, Calls, following, callbacks_after, at_once, recovers}
use Rattle.krl_server.proofs.Names.{serves, ServerStep, nudge_served, nudge_missing, nudge_known, nudge, IsSound, waiting_on, waiting, max_messages, StepsEnd}
use Rattle.krl_messages.specs.declared.to_client.PushBody.TheVariants as push
use Rattle.krl_messages.specs.declared.outcome.Outcome.TheVariants as outcome
use Rattle.krl_server.proofs.Invariant.AnswersSound.{answering_sound}
use Rattle.krl_server.proofs.Outputs.Ends.{pushes_few, answered_less, step_ends, one_end}
use Rattle.krl_server.proofs.Invariant.Sounds.{effect_sound}
use Rattle.krl_server.proofs.Invariant.Kept.{effect_table}
use Rattle.krl_server.proofs.Outputs.Counted.{slots_apart, few_wait}
pub use Rattle.krl_table.proofs.Rows.Below.{clients_are as sixty_four}

many : max_messages ≡ 4097
unfolding max_messages
many = refl

-- Callbacks

from_few : (s : Server) (n : ℕ) (u : Waiter) (d k : ℕ) → length (callbacks_from s n u d k) ≤ k
from_few s n u d zero = omega arith
from_few s n u d (suc k) = by_compatible (is_compatible s n u d) (from_few s n u (suc d) k)
  where
    by_compatible : (b : Bool) → length (callbacks_from s n u (suc d) k) ≤ k → length (if b then callbacks_from s n u (suc d) k else callback_to s d (span_of s.durable.index n) (cap (wanted (s.rows n) u)) ∷ callbacks_from s n u (suc d) k) ≤ suc k
    by_compatible true ih = omega (arith, ih)
    by_compatible false ih = omega (arith, ih)

-- none goes to the waiter's own client
from_others : (s : Server) (n : ℕ) (u : Waiter) (d k : ℕ) → d ≤ u.client → u.client < d + k → suc (length (callbacks_from s n u d k)) ≤ k
from_others s n u d zero low high = absurd (omega (arith, low, high))
from_others s n u d (suc k) low high = eq_cases d u.client
    (λ e. let here : callbacks_from s n u d (suc k) ≡ callbacks_from s n u (suc d) k = ap (λ b. if b || compatible (wanted (s.rows n) u) (mode_at s.rows n d) then callbacks_from s n u (suc d) k else callback_to s d (span_of s.durable.index n) (cap (wanted (s.rows n) u)) ∷ callbacks_from s n u (suc d) k) (eq-eqb d u.client e) in
    subst (λ x. suc (length x) ≤ suc k) (sym here) (let le = from_few s n u (suc d) k in omega (arith, le)))
    (λ ne. by_compatible (is_compatible s n u d) (from_others s n u (suc d) k (omega (arith, ne, low)) (omega (arith, high))))
  where
    by_compatible : (b : Bool) → suc (length (callbacks_from s n u (suc d) k)) ≤ k → suc (length (if b then callbacks_from s n u (suc d) k else callback_to s d (span_of s.durable.index n) (cap (wanted (s.rows n) u)) ∷ callbacks_from s n u (suc d) k)) ≤ suc k
    by_compatible true ih = omega (arith, ih)
    by_compatible false ih = omega (arith, ih)

pub for_few : (s : Server) (n : ℕ) (u : Waiter) → u.client < max_clients → length (callbacks_for s n u) ≤ 63
for_few s n u lt = by_absent (asks_absent s.durable.index u)
  where
    by_absent : (b : Bool) → length (if b then [] else callbacks_from s n u 0 max_clients) ≤ 63
    by_absent true = omega arith
    by_absent false = let x = from_others s n u 0 max_clients (omega arith) (omega (arith, lt)) in omega (arith, x, sixty_four)

at_few : (s : Server) (n : ℕ) (us : List Waiter) → ((u : Waiter) → In u us → u.client < max_clients) → length (callbacks_at s n us) ≤ 63 * length us
at_few s n [] h = omega arith
at_few s n (u ∷ us) h = let x = for_few s n u (h u (inl refl)) in omega (arith, x)

among_few : (s : Server) (ns : List ℕ) → IsSound s → length (callbacks_among s ns) ≤ 63 * waiting_on s.rows ns
among_few s [] i = omega arith
among_few s (n ∷ ns) i =
    let here = at_few s n (s.rows n).queue (i.clients n) in
    let ih = among_few s ns i in
    omega (arith, here, ih, length-append (callbacks_at s n (s.rows n).queue) (callbacks_among s ns))

of_fewer : (s : Server) (c n : ℕ) (us : List Waiter) → length (callbacks_of c s n us) ≤ length (callbacks_at s n us)
of_fewer s c n [] = omega arith
of_fewer s c n (u ∷ us) = by_client (nat_eq u.client c)
  where
    by_client : (b : Bool) → length (if b then callbacks_for s n u else []) ≤ length (callbacks_for s n u)
    by_client true = omega arith
    by_client false = omega arith

of_among_fewer : (s : Server) (c : ℕ) (ns : List ℕ) → length (callbacks_of_among c s ns) ≤ length (callbacks_among s ns)
of_among_fewer s c [] = omega arith
of_among_fewer s c (n ∷ ns) =
    let here = of_fewer s c n (s.rows n).queue in
    let ih = of_among_fewer s c ns in
    omega (arith, here, ih, length-append (callbacks_of c s n (s.rows n).queue) (callbacks_of_among c s ns), length-append (callbacks_at s n (s.rows n).queue) (callbacks_among s ns))

pub calls_few : (s : Server) (k : Following) → IsSound s → length (callbacks_after k s) ≤ 63 * waiting s
calls_few s Nothing i = omega arith
calls_few s Answers i = omega arith
calls_few s Calls i = among_few s (slots s.durable.index) i

-- Steps

pub answers_few : (s : Server) (c number : ℕ) (op : WriteOp) (o : Outcome) → length (tells_outcome s c number op o).outs ≤ 1
answers_few s c number op o = pushes_few s c (push.Answer number o (holding s (slot_of s.durable.index (op_key op)) c))

effect_few : (s : Server) (m : ToServer) (k : Case) → length (effect s m k).outs ≤ 1
effect_few s m Ignored = omega arith
effect_few s m Registers = omega arith
effect_few s m Leaves = omega arith
effect_few s m Tells = omega arith
effect_few s m Alarms = omega arith
effect_few s m (Rebuilds pieces) = omega arith
effect_few s m (Repeats body) = omega arith
effect_few s m Acknowledges = omega arith
effect_few s m (Lowers span keep) = omega arith
effect_few s m (Waits req point hi g) = omega arith
effect_few s m (Judges number op o) = answers_few (writes (acknowledged s m.client) m.client op o) m.client number op o
effect_few s m (SeizesLock number op) = answers_few (writes (acknowledged (seizes s m.client op) m.client) m.client op outcome.Applied) m.client number op outcome.Applied
effect_few s m (AnswersAgain number op o) = answers_few (acknowledged s m.client) m.client number op o

pub no_more_wait : (s : Server) → IsSound s → IsTable s.durable.index s.rows → waiting s ≤ 64
no_more_wait s i table = let x = few_wait s.durable.index s.rows table (slots s.durable.index) (slots_apart s.durable.index i.near) in omega (arith, x, sixty_four)

pub step_few : (s : Server) (m : ToServer) (t : Server) (outs : List ToClient) → IsSound (effect s m (case_of s m)).server → IsTable (effect s m (case_of s m)).server.durable.index (effect s m (case_of s m)).server.rows → ServerStep s m t outs → length outs ≤ max_messages
step_few s m t outs i table (at_once e) = let x = effect_few s m (case_of s m) in omega (arith, x, many)
step_few s m t outs i table (recovers e) = let x = effect_few s m (case_of s m) in omega (arith, x, many)
step_few s m t outs i table (serves t' answers acts e rest) =
    let done = effect s m (case_of s m) in
    let kind = following (case_of s m) in
    let here = effect_few s m (case_of s m) in
    let wait = no_more_wait done.server i table in
    let less = answered_less done.server t answers rest in
    let calls = calls_few t kind (answering_sound done.server t answers rest i) in
    omega (arith, here, wait, less, calls, many, length-append done.outs (answers ++ callbacks_after kind t), length-append answers (callbacks_after kind t))

pub nudge_few : (s : Server) (c : ℕ) → IsSound s → IsTable s.durable.index s.rows → length (nudge s c) ≤ max_messages
nudge_few s c i table = known (record_of s.durable.register c)
  where
    served : (o : Option PushBody) → length (nudge_served s c o) ≤ max_messages
    served None = let x = of_among_fewer s c (slots s.durable.index) in let y = among_few s (slots s.durable.index) i in let w = no_more_wait s i table in omega (arith, x, y, w, many)
    served (Some body) = omega (arith, many)

    missing : (b : Bool) → length (if b then epoch_to s c ∷ [] else []) ≤ max_messages
    missing true = omega (arith, many)
    missing false = omega (arith, many)

    recovers : (b : Bool) → length (if b then nudge_missing s c else nudge_served s c (s.sessions c).unacked) ≤ max_messages
    recovers true = missing (lists s.missing c)
    recovers false = served (s.sessions c).unacked

    left : (b : Bool) → length (if b then [] else (if is_recovering s.missing then nudge_missing s c else nudge_served s c (s.sessions c).unacked)) ≤ max_messages
    left true = omega (arith, many)
    left false = recovers (is_recovering s.missing)

    known : (o : Option Record) → length (nudge_known s c o) ≤ max_messages
    known None = omega (arith, many)
    known (Some r) = left r.left

pub all_end : StepsEnd
all_end = record {
  some = step_ends;
  one = λ s t u m outs others a b. one_end (effect s m (case_of s m)) (following (case_of s m)) t u outs others a b;
  answers = answered_less;
  few = λ s t m outs i table step. step_few s m t outs (effect_sound s m i) (effect_table s m i table) step;
  nobody_left = λ s settled up. stops s (settled up);
  few_nudged = nudge_few;
}
