-- A callback has the epoch of the server that sends it.
use Rattle.krl_world.proofs.Names.{ℕ, zero, suc, ◌≤◌, Bool, true, false, Option, Some, None, List, [], ◌∷◌, ◌++◌, inl, inr, sym, subst, ⊎_elim, arith, nat_eq, if◌then◌else◌, END, cap, ToServer}
use Rattle.krl_world.proofs.Names.{ToClient, PushBody, WriteOp, Outcome, Record, slot_of, span_of, slots, record_of, op_key, In, in_both, max_clients, Server, is_recovering, lists, Case, Ignored}
use Rattle.krl_world.proofs.Names.{Registers, Leaves, Tells, Alarms, Rebuilds, Repeats, Acknowledges, Lowers, Waits, Judges, SeizesLock, seizes, AnswersAgain, case_of, Done, callback_to, with_rows, holding, holdings}
use Rattle.krl_world.proofs.Names.{acknowledged, writes, tells_outcome, pushes, effect, Turn, tells_absent, grants, answer_first, AnswersWaiters, stops, goes_on, is_compatible, callbacks_from, callbacks_for}
use Rattle.krl_world.proofs.Names.{callbacks_at, callbacks_among, callbacks_of, callbacks_of_among, Following, Nothing, Answers, Calls, following, callbacks_after, Ends, at_once, recovers, serves, ServerStep}
use Rattle.krl_world.proofs.Names.{nudge_served, nudge_known, nudge}
use Rattle.std.specs.Prelude.{nat_lt}
use Rattle.krl_messages.specs.declared.to_client.ToClientBody.{ToClientBody}
use Rattle.krl_messages.specs.declared.to_client.ToClientBody.TheVariants as told
use Rattle.krl_messages.specs.declared.to_client.PushBody.TheVariants as push
use Rattle.krl_messages.specs.declared.outcome.Outcome.TheVariants as outcome
use Rattle.krl_queue.specs.declared.waiter.Waiter.{Waiter}
use Rattle.krl_machine.specs.Worlds as machine
use Rattle.krl_machine.specs.Worlds.{Step, at_link, raises, applies, crash, start, finish, Steps, none, more}
use Rattle.krl_table.specs.Calls.{wanted, front_dropped}
use Rattle.krl_table.specs.Grants.{reached_slots, granted}
use Rattle.krl_table.specs.Replies.{asks_absent}

-- the epoch of a callback, otherwise 0
abbrev pub epoch_called : ToClientBody → ℕ
epoch_called (told.Epoch epoch) = 0
epoch_called (told.Push epoch number body) = 0
epoch_called (told.Callback epoch s keep) = epoch

-- no callback among these is of an epoch above n
abbrev pub AreCalled : ℕ → List ToClient → Type 0
AreCalled n outs = (o : ToClient) → In o outs → epoch_called o.body ≤ n

no_calls : (n : ℕ) → AreCalled n []
no_calls n o i = absurd i

one_call : (n : ℕ) (x : ToClient) → epoch_called x.body ≤ n → AreCalled n (x ∷ [])
one_call n x h o (inl e) = subst (λ (y : ToClient). epoch_called y.body ≤ n) (sym e) h
one_call n x h o (inr i) = absurd i

both_called : (n : ℕ) (xs ys : List ToClient) → AreCalled n xs → AreCalled n ys → AreCalled n (xs ++ ys)
both_called n xs ys a b o i = ⊎_elim (λ (x : In o xs). a o x) (λ (y : In o ys). b o y) (in_both xs ys o i)

-- Effects and answers call nobody back

outs_by : (n : ℕ) (t : Bool) (x y : Done) → AreCalled n x.outs → AreCalled n y.outs → AreCalled n (if t then x else y).outs
outs_by n true x y a b = a
outs_by n false x y a b = b

pushes_called : (n : ℕ) (s : Server) (c : ℕ) (b : PushBody) → AreCalled n (pushes s c b).outs
pushes_called n s c b = outs_by n (nat_lt (s.sessions c).last_push END) _ _ (one_call n _ (omega arith)) (no_calls n)

write_called : (n : ℕ) (s : Server) (c number : ℕ) (op : WriteOp) (o : Outcome) → AreCalled n (tells_outcome s c number op o).outs
write_called n s c number op o = pushes_called n s c (push.Answer number o (holding s (slot_of s.durable.index (op_key op)) c))

effect_called : (n : ℕ) (s : Server) (m : ToServer) (k : Case) → AreCalled n (effect s m k).outs
effect_called n s m Ignored = no_calls n
effect_called n s m Registers = one_call n _ (omega arith)
effect_called n s m Leaves = no_calls n
effect_called n s m Tells = one_call n _ (omega arith)
effect_called n s m Alarms = no_calls n
effect_called n s m (Rebuilds pieces) = no_calls n
effect_called n s m (Repeats body) = one_call n _ (omega arith)
effect_called n s m Acknowledges = no_calls n
effect_called n s m (Lowers span keep) = no_calls n
effect_called n s m (Waits req point hi g) = no_calls n
effect_called n s m (Judges number op o) =
    write_called n (writes (acknowledged s m.client) m.client op o) m.client number op o
effect_called n s m (SeizesLock number op) =
    write_called n (writes (acknowledged (seizes s m.client op) m.client) m.client op outcome.Applied) m.client number op outcome.Applied
effect_called n s m (AnswersAgain number op o) = write_called n (acknowledged s m.client) m.client number op o

turn_called : (n : ℕ) (s : Server) (t : Turn) → AreCalled n (answer_first s t).outs
turn_called n s t = outs_by n (asks_absent s.durable.index t.waiter) (tells_absent s t) (grants s t)
    (pushes_called n (with_rows s (front_dropped s.rows t.slot)) t.waiter.client (push.Absent t.waiter.req t.waiter.point))
    (pushes_called n (with_rows s (granted s.durable.reach s.durable.index s.rows t.slot)) t.waiter.client (push.Grant t.waiter.req (holdings (with_rows s (granted s.durable.reach s.durable.index s.rows t.slot)) t.waiter.client (reached_slots s.durable.reach s.durable.index s.rows t.slot))))

answers_called : (n : ℕ) (s t : Server) (outs : List ToClient) → AnswersWaiters s t outs → AreCalled n outs
answers_called n s _ _ (stops s' e) = no_calls n
answers_called n s t _ (goes_on s' t' turn outs e rest) = both_called n (answer_first s' turn).outs outs (turn_called n s' turn) (answers_called n (answer_first s' turn).server t' outs rest)

-- Callbacks

module _ (s : Server) where
  list_by : (t : Bool) (xs ys : List ToClient) → AreCalled s.durable.epoch xs → AreCalled s.durable.epoch ys → AreCalled s.durable.epoch (if t then xs else ys)
  list_by true xs ys a b = a
  list_by false xs ys a b = b

  from_called : (n : ℕ) (u : Waiter) (d k : ℕ) → AreCalled s.durable.epoch (callbacks_from s n u d k)
  from_called n u d zero = no_calls s.durable.epoch
  from_called n u d (suc k) = list_by (is_compatible s n u d) _ _ (from_called n u (suc d) k) (both_called s.durable.epoch (callback_to s d (span_of s.durable.index n) (cap (wanted (s.rows n) u)) ∷ []) (callbacks_from s n u (suc d) k) (one_call s.durable.epoch _ (omega arith)) (from_called n u (suc d) k))

  for_called : (n : ℕ) (u : Waiter) → AreCalled s.durable.epoch (callbacks_for s n u)
  for_called n u = list_by (asks_absent s.durable.index u) _ _ (no_calls s.durable.epoch) (from_called n u 0 max_clients)

  at_called : (n : ℕ) (us : List Waiter) → AreCalled s.durable.epoch (callbacks_at s n us)
  at_called n [] = no_calls s.durable.epoch
  at_called n (u ∷ us) = for_called n u

  among_called : (ns : List ℕ) → AreCalled s.durable.epoch (callbacks_among s ns)
  among_called [] = no_calls s.durable.epoch
  among_called (n ∷ ns) = both_called s.durable.epoch (callbacks_at s n (s.rows n).queue) (callbacks_among s ns) (at_called n (s.rows n).queue) (among_called ns)

  calls_called : (k : Following) → AreCalled s.durable.epoch (callbacks_after k s)
  calls_called Nothing = no_calls s.durable.epoch
  calls_called Answers = no_calls s.durable.epoch
  calls_called Calls = among_called (slots s.durable.index)

  of_called : (c n : ℕ) (us : List Waiter) → AreCalled s.durable.epoch (callbacks_of c s n us)
  of_called c n [] = no_calls s.durable.epoch
  of_called c n (u ∷ us) = list_by (nat_eq u.client c) _ _ (for_called n u) (no_calls s.durable.epoch)

  of_among_called : (c : ℕ) (ns : List ℕ) → AreCalled s.durable.epoch (callbacks_of_among c s ns)
  of_among_called c [] = no_calls s.durable.epoch
  of_among_called c (n ∷ ns) = both_called s.durable.epoch (callbacks_of c s n (s.rows n).queue) (callbacks_of_among c s ns) (of_called c n (s.rows n).queue) (of_among_called c ns)

  served_called : (c : ℕ) (o : Option PushBody) → AreCalled s.durable.epoch (nudge_served s c o)
  served_called c None = of_among_called c (slots s.durable.index)
  served_called c (Some b) = one_call s.durable.epoch _ (omega arith)

  known_called : (c : ℕ) (o : Option Record) → AreCalled s.durable.epoch (nudge_known s c o)
  known_called c None = no_calls s.durable.epoch
  known_called c (Some r) = list_by r.left _ _ (no_calls s.durable.epoch)
      (list_by (is_recovering s.missing) _ _ (list_by (lists s.missing c) _ _ (one_call s.durable.epoch _ (omega arith)) (no_calls s.durable.epoch)) (served_called c (s.sessions c).unacked))

  -- a nudge
  pub nudge_called : (c : ℕ) → AreCalled s.durable.epoch (nudge s c)
  nudge_called c = known_called c (record_of s.durable.register c)

ends_called : (done : Done) (kind : Following) (t : Server) (outs : List ToClient) → ((n : ℕ) → AreCalled n done.outs) → Ends done kind t outs → AreCalled t.durable.epoch outs
ends_called done kind _ _ h (at_once k) = h done.server.durable.epoch
ends_called done kind _ _ h (recovers g) = h done.server.durable.epoch
ends_called done kind _ _ h (serves t said acts up rest) = both_called t.durable.epoch done.outs (said ++ callbacks_after kind t) (h t.durable.epoch)
    (both_called t.durable.epoch said (callbacks_after kind t) (answers_called t.durable.epoch done.server t said rest) (calls_called t kind))

-- a step
pub step_called : (s t : Server) (m : ToServer) (outs : List ToClient) → ServerStep s m t outs → AreCalled t.durable.epoch outs
step_called s t m outs h = ends_called (effect s m (case_of s m)) (following (case_of s m)) t outs (λ n. effect_called n s m (case_of s m)) h

-- The durable epoch only rises

step_rises : (u v : machine.World) → Step u v → u.shared.epoch ≤ v.shared.epoch
step_rises u v (at_link c l links step ch) = omega arith
step_rises u v (raises c range key links serving row up agrees ch) = omega arith
step_rises u v (applies c m index key links at ok acked next does ch) = omega arith
step_rises u v (crash on) = omega arith
step_rises u v (start missing down is) = omega arith
step_rises u v (finish on all) = omega arith

pub epoch_rises : (u w : machine.World) → Steps u w → u.shared.epoch ≤ w.shared.epoch
epoch_rises u w none = omega arith
epoch_rises u w (more {v = v} a b) = let x = epoch_rises u v a in let y = step_rises v w b in omega arith
