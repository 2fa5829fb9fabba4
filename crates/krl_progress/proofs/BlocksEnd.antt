-- No block lasts four good rounds: a tick, the callback that it brings out, the Release, and its hearing.
use Rattle.krl_progress.proofs.Names.{◌≡◌, ℕ, ◌≤◌, ◌<◌, ◌∙◌, inl, true, false, Some, is_some, List, length, refl, sym, ap, subst, arith, ltb-true}
use Rattle.krl_progress.proofs.Names.{ToServer, ToClient, In, Client, Message, Calls, Server, is_recovering, Step, Answer, Up, State, message_at, Delivers, ServerReads, ClientReads, Runs, Takes, ServerStep, case_of, effect, from_clients, from_server, following, callbacks, callback_to, max_clients, span_of, cap}
use Rattle.krl_modes.specs.declared.mode.Mode.{Mode}
use Rattle.krl_modes.specs.Modes.{at_most}
use Rattle.krl_modes.proofs.ModeLaws.{mode_order}
use Rattle.krl_table.specs.Calls.{wanted}
use Rattle.krl_messages.specs.declared.to_server.RequestBody.TheVariants as asked
use Rattle.krl_messages.specs.declared.to_client.ToClientBody.TheVariants as told
use Rattle.krl_server.proofs.Invariant.Tabled.{slots_have}
use Rattle.krl_client.specs.Messages as receiver
use Rattle.krl_steps.specs.declared.step.Step.TheVariants as step
use Rattle.krl_world.specs.declared.message.Message.TheVariants as message
use Rattle.krl_progress.specs.Rounds.{loses_a_node, IsRound}
use Rattle.krl_progress.specs.Blocks.{Block, HasSeen, IsBlocked, Throughout, RoundsWhile, BlocksEndIn}
use Rattle.krl_progress.proofs.Standings.{standing}
use Rattle.krl_progress.proofs.Recovers.{same_up, At, at_kept, near, within, again as at_again}
use Rattle.krl_progress.proofs.WriteSteps.{to_server, to_clients}
use Rattle.krl_progress.proofs.CallsBack.{lowers_there, sends_of}
use Rattle.krl_progress.proofs.Arrivals.{request_from}
use Rattle.krl_progress.proofs.Seen.{Sent, sent_now, sent_still, still, st, same_inc, same_server, same_epoch, own_inc, own_request, heard_now}
use Rattle.krl_progress.proofs.Whiles as whiles
use Rattle.krl_progress.proofs.Whiles.{hit}
use Rattle.krl_table.specs.Grants.{nobody_waits}
use Rattle.krl_progress.proofs.Sinking.{low_self, world_sinks, wanted_sinks}
use Rattle.krl_progress.proofs.Blocking.{blocker_called, acts_calls, lock_acts, ends_off}
use Rattle.krl_progress.proofs.Repeating.{LockSaid, lock_said, lock_still, tick_says}

module _ (b : Block) (waiter_inc blocker_inc epoch : ℕ) (some : 1 ≤ epoch) (n : ℕ) where
  -- the block, and that its clients and the server run on
  record Along (u : State) : Type 0 where
    blocked : IsBlocked b u
    waiter_at : At b.waiter.client waiter_inc epoch n u
    blocker_at : At b.blocker blocker_inc epoch n u

  -- the waiter wants no more than this
  abbrev WantsAtMost : Mode → State → Type 0
  WantsAtMost want u = (s : Server) → u.server ≡ Up s → at_most (wanted (s.rows b.slot) b.waiter) want ≡ true

  abbrev Repeated : State → Type 0
  Repeated = LockSaid b.waiter.client waiter_inc epoch b.waiter_seen some n

  -- the callback for a waiter that wants this, and its answer
  abbrev called : Mode → ToClient
  called want = record { client = b.blocker; incarnation = blocker_inc; body = told.Callback epoch b.span (cap want) }

  abbrev release : Mode → ToServer
  release want = request_from b.blocker blocker_inc epoch b.blocker_seen (asked.Release b.span (cap want))

  -- such a message was sent for a waiter that wants no more since
  record SentFor (message_for : Mode → Message) (u : State) : Type 0 where
    want : Mode
    sent : Sent n (message_for want) u
    enough : WantsAtMost want u

  abbrev CalledBack : State → Type 0
  CalledBack = SentFor (λ want. message.ToClient (called want))

  abbrev Released : State → Type 0
  Released = SentFor (λ want. message.ToServer (release want))

  -- The four steps

  hit_tick : (u v : State) (answer : Answer) → Along u → Takes u (step.Tick b.waiter.client) answer v → Repeated v
  hit_tick u v answer h t = tick_says b.waiter waiter_inc epoch b.waiter_seen some n u v answer h.blocked.server b.slot h.blocked.behind h.waiter_at h.blocked.up h.blocked.first h.blocked.waiting t

  hit_lock : (req point hi : ℕ) (g : Mode) (i : ℕ) (u v : State) (answer : Answer) → Along u → Along v → message_at u.sent i ≡ Some (lock_said b.waiter.client waiter_inc epoch b.waiter_seen some n req point hi g) → Takes u (step.Deliver i) answer v → CalledBack v
  hit_lock req point hi g i u v answer h after sent t = record {
    want = want;
    sent = sent_now n u v (message.ToClient (called want)) (from_server d.1) h.waiter_at.long (ap (λ (y : State). y.sent) d.3) (to_server (called want) d.1 at);
    enough = λ y e. subst (λ (z : Server). at_most (wanted (z.rows b.slot) b.waiter) want ≡ true) (same_up x y (sym after.blocked.up ∙ e)) (low_self want);
  }
    where
      s : Server
      s = h.blocked.server

      m : ToServer
      m = request_from b.waiter.client waiter_inc epoch b.waiter_seen (asked.Lock req point hi g)

      d : ServerReads u (Up s) m v
      d = subst (λ x. ServerReads u x m v) h.blocked.up (subst (λ o. Delivers u o v) sent t.1.1)

      x : Server
      x = after.blocked.server

      want : Mode
      want = wanted (x.rows b.slot) b.waiter

      same : d.0 ≡ x
      same = same_up d.0 x (sym (ap (λ (y : State). y.server) d.3) ∙ after.blocked.up)

      acts : following (case_of s m) ≡ Calls
      acts = let r = heard_now epoch some n u s b.waiter.client waiter_inc b.waiter_seen h.waiter_at h.blocked.up h.blocked.waiting (asked.Lock req point hi g) h.blocked.serves in ap following r.1 ∙ lock_acts s b.waiter.client req point hi g

      below : b.blocker < max_clients
      below = ltb-true b.blocker max_clients (near b.blocker blocker_inc epoch n v after.blocker_at)

      in_callbacks : In (callback_to x b.blocker (span_of x.durable.index b.slot) (cap want)) (callbacks x)
      in_callbacks = blocker_called x b.slot b.waiter after.blocked.behind b.blocker (slots_have x.durable.index b.slot after.blocked.slot) after.blocked.first after.blocked.possible below after.blocked.blocks

      is_called : callback_to x b.blocker (span_of x.durable.index b.slot) (cap want) ≡ called want
      is_called j = record { client = b.blocker; incarnation = own_inc epoch some n v x b.blocker blocker_inc b.blocker_seen after.blocker_at after.blocked.up after.blocked.blocking j; body = told.Callback ((ap (λ (y : Server). y.durable.epoch) (same_server epoch some n v x b.blocker blocker_inc b.blocker_seen after.blocker_at after.blocked.up after.blocked.blocking) ∙ after.blocker_at.now) j) (after.blocked.span j) (cap want) }

      at : In (called want) d.1
      at = acts_calls (effect s m (case_of s m)) (following (case_of s m)) d.0 d.1 (called want) acts (ap (λ (y : Server). is_recovering y.missing) same ∙ after.blocked.serves) d.2 (subst (λ y. In (called want) (callbacks y)) (sym same) (subst (λ y. In y (callbacks x)) is_called in_callbacks))

  hit_callback : (want : Mode) (i : ℕ) (u v : State) (answer : Answer) → Along u → message_at u.sent i ≡ Some (message.ToClient (called want)) → Takes u (step.Deliver i) answer v → Sent n (message.ToServer (release want)) v
  hit_callback want i u v answer h sent t = sent_now n u v (message.ToServer (release want)) (from_clients (receiver.sends d.0 k (receiver.client_case_of k (called want)))) h.blocker_at.long (ap (λ (y : State). y.sent) d.2) (to_clients (release want) _ at)
    where
      w : HasSeen u h.blocked.server b.blocker b.blocker_seen
      w = h.blocked.blocking

      k : Client
      k = w.client

      d : ClientReads u (Some k) (called want) v
      d = subst (λ o. ClientReads u o (called want) v) w.runs (subst (λ o. Delivers u o v) sent t.1.1)

      own : called want ≡ record { client = k.number; incarnation = k.incarnation; body = told.Callback epoch b.span (cap want) }
      own j = record { client = sym (st epoch some n u h.blocked.server b.blocker blocker_inc b.blocker_seen h.blocker_at h.blocked.up w).number j; incarnation = sym (same_inc epoch some n u h.blocked.server b.blocker blocker_inc b.blocker_seen h.blocker_at h.blocked.up w) j; body = told.Callback epoch b.span (cap want) }

      case : receiver.client_case_of k (called want) ≡ receiver.Lowers b.span (cap want)
      case = ap (receiver.client_case_of k) own ∙ lowers_there k epoch b.span (cap want) (same_epoch epoch some n u h.blocked.server b.blocker blocker_inc b.blocker_seen h.blocker_at h.blocked.up w) h.blocked.free h.blocked.unpinned

      at : In (release want) (receiver.sends d.0 k (receiver.client_case_of k (called want)))
      at = subst (In (release want)) (sym (sends_of d.0 k b.span (cap want) _ case)) (inl (sym (own_request epoch some n u h.blocked.server b.blocker blocker_inc b.blocker_seen h.blocker_at h.blocked.up w (asked.Release b.span (cap want)))))

  hit_release : (want : Mode) (i : ℕ) (u v : State) (answer : Answer) → Along u → Along v → message_at u.sent i ≡ Some (message.ToServer (release want)) → WantsAtMost want v → Takes u (step.Deliver i) answer v → ⊥
  hit_release want i u v answer h after sent enough t =
      let s = h.blocked.server in
      let d : ServerReads u (Up s) (release want) v = subst (λ x. ServerReads u x (release want) v) h.blocked.up (subst (λ o. Delivers u o v) sent t.1.1) in
      let same = same_up d.0 after.blocked.server (sym (ap (λ (y : State). y.server) d.3) ∙ after.blocked.up) in
      let r = heard_now epoch some n u s b.blocker blocker_inc b.blocker_seen h.blocker_at h.blocked.up h.blocked.blocking (asked.Release b.span (cap want)) h.blocked.serves in
      ends_off b want u v h.blocked after.blocked (enough after.blocked.server after.blocked.up) (release want) d.1 refl r.1 (subst (λ y. ServerStep s (release want) y d.1) same d.2)

  -- Rounds

  along : (u v : State) (s : Step) (answer : Answer) → loses_a_node s ≡ false → Along u → IsBlocked b v → Takes u s answer v → Along v
  along u v s answer calm h g t = record {
    blocked = g;
    waiter_at = at_kept b.waiter.client waiter_inc epoch n u v s answer calm h.waiter_at t;
    blocker_at = at_kept b.blocker blocker_inc epoch n u v s answer calm h.blocker_at t;
  }

  abbrev Hits : (State → Type 0) → Step → (State → Type 0) → Type 0
  Hits = whiles.Hits (IsBlocked b) Along along

  abbrev Lasts : (State → Type 0) → Type 0
  Lasts = whiles.Lasts (IsBlocked b) Along along

  -- what becomes true in a run while the block stands
  hits_in : (X Y : State → Type 0) (s0 : Step) → Lasts X → Lasts Y → Hits X s0 Y → (steps : List Step) (u v : State) → ((s : Step) → In s steps → loses_a_node s ≡ false) → In s0 steps → Along u → X u → (r : Runs u steps v) → Throughout (IsBlocked b) u steps v r → Along v × Y v
  hits_in = hit (IsBlocked b) Along along

  lock_lasts : Lasts Repeated
  lock_lasts u v s answer before after h t = lock_still b.waiter.client waiter_inc epoch b.waiter_seen some n u v s answer h t

  -- the waiter's client has no further push, so it wants no more
  wants_last : (want : Mode) → Lasts (WantsAtMost want)
  wants_last want u v s answer before after h t y e =
      let old = before.blocked in
      let new = after.blocked in
      let c = b.waiter.client in
      let inc = own_inc epoch some n v new.server c waiter_inc b.waiter_seen after.waiter_at new.up new.waiting ∙ sym (own_inc epoch some n u old.server c waiter_inc b.waiter_seen before.waiter_at old.up old.waiting) in
      let sinks = world_sinks u v s answer old.server new.server c before.waiter_at.reachable old.up new.up old.serves inc (new.waiting.last ∙ sym old.waiting.last) t in
      let low = wanted_sinks old.server new.server b.slot b.waiter sinks old.slot (ap nobody_waits old.first) in
      let now = mode_order.transitive (wanted (new.server.rows b.slot) b.waiter) (wanted (old.server.rows b.slot) b.waiter) want low (h old.server old.up) in
      subst (λ (z : Server). at_most (wanted (z.rows b.slot) b.waiter) want ≡ true) (same_up new.server y (sym new.up ∙ e)) now

  for_lasts : (message_for : Mode → Message) → Lasts (SentFor message_for)
  for_lasts message_for u v s answer before after h t = record { want = h.want; sent = sent_still n (message_for h.want) u v s answer h.sent t; enough = wants_last h.want u v s answer before after h.enough t }

-- Four rounds

module _ (b : Block) (waiter_inc blocker_inc epoch : ℕ) (some : 1 ≤ epoch) where
  abbrev AlongAt : ℕ → State → Type 0
  AlongAt n u = Along b waiter_inc blocker_inc epoch some n u

  along_again : (n : ℕ) (u : State) → AlongAt n u → AlongAt (length u.sent) u
  along_again n u h = record { blocked = h.blocked; waiter_at = at_again b.waiter.client waiter_inc epoch n u h.waiter_at; blocker_at = at_again b.blocker blocker_inc epoch n u h.blocker_at }

  -- the message of number i was sent, and this holds
  abbrev With : ℕ → Message → (State → Type 0) → State → Type 0
  With i x Z u = (message_at u.sent i ≡ Some x) × Z u

  -- what is sent after number n, and handed over in the next round
  one : (n m : ℕ) (x : Message) (Z Y : State → Type 0) (w v : State) (steps : List Step) → Lasts b waiter_inc blocker_inc epoch some m Z → Lasts b waiter_inc blocker_inc epoch some m Y → ((i : ℕ) → Hits b waiter_inc blocker_inc epoch some m (With i x Z) (step.Deliver i) Y) → AlongAt m w → Sent n x w → Z w → IsRound w n steps → (r : Runs w steps v) → Throughout (IsBlocked b) w steps v r → AlongAt m v × Y v
  one n m x Z Y w v steps z_lasts y_lasts hits h sent z round r all =
      let hand = round.handed sent.index sent.above (within w.sent sent.index x sent.sent) in
      hits_in b waiter_inc blocker_inc epoch some m (With hand.copy x Z) Y (step.Deliver hand.copy)
      (λ u y s a before after e t. (still hand.copy x u y s a e.0 t, z_lasts u y s a before after e.1 t)) y_lasts (hits hand.copy)
      steps w v round.stays hand.delivers h (hand.same ∙ sent.sent, z) r all

  four_rounds : (w v : State) → AlongAt (length w.sent) w → RoundsWhile (IsBlocked b) 4 (length w.sent) w v → ⊥
  four_rounds w v h r1 =
      let n1 = length w.sent in
      let f1 = hits_in b waiter_inc blocker_inc epoch some n1 (λ u. Unit {0}) (Repeated b waiter_inc blocker_inc epoch some n1) (step.Tick b.waiter.client)
      (λ u x s a g after e t. tt) (lock_lasts b waiter_inc blocker_inc epoch some n1) (λ u x a g after e t. hit_tick b waiter_inc blocker_inc epoch some n1 u x a g t)
      r1.0 w r1.1 r1.2.stays (r1.2.ticked b.waiter.client (ap is_some h.waiter_at.runs)) h tt r1.3 r1.4 in
      let r2 = r1.5 in
      let n2 = length r1.1.sent in
      let x = f1.1 in
      let f2 = one n1 n2 (lock_said b.waiter.client waiter_inc epoch b.waiter_seen some n1 x.req x.point x.hi x.mode) (λ u. Unit {0}) (CalledBack b waiter_inc blocker_inc epoch some n2) r1.1 r2.1 r2.0
      (λ u y s a g after e t. tt) (for_lasts b waiter_inc blocker_inc epoch some n2 _) (λ i u y a g after e t. hit_lock b waiter_inc blocker_inc epoch some n2 x.req x.point x.hi x.mode i u y a g after e.0 t)
      (along_again n1 r1.1 f1.0) x.sent tt r2.2 r2.3 r2.4 in
      let r3 = r2.5 in
      let n3 = length r2.1.sent in
      let y = f2.1 in
      let f3 = one n2 n3 (message.ToClient (called b waiter_inc blocker_inc epoch some n2 y.want)) (WantsAtMost b waiter_inc blocker_inc epoch some n3 y.want) (Released b waiter_inc blocker_inc epoch some n3) r2.1 r3.1 r3.0
      (wants_last b waiter_inc blocker_inc epoch some n3 y.want) (for_lasts b waiter_inc blocker_inc epoch some n3 _)
      (λ i u z a g after e t. record {
        want = y.want;
        sent = hit_callback b waiter_inc blocker_inc epoch some n3 y.want i u z a g e.0 t;
        enough = wants_last b waiter_inc blocker_inc epoch some n3 y.want u z (step.Deliver i) a g after e.1 t;
      })
      (along_again n2 r2.1 f2.0) y.sent y.enough r3.2 r3.3 r3.4 in
      let r4 = r3.5 in
      let n4 = length r3.1.sent in
      let z = f3.1 in
      let f4 = one n3 n4 (message.ToServer (release b waiter_inc blocker_inc epoch some n3 z.want)) (WantsAtMost b waiter_inc blocker_inc epoch some n4 z.want) (λ u. ⊥) r3.1 r4.1 r4.0
      (wants_last b waiter_inc blocker_inc epoch some n4 z.want) (λ u q s a g after e t. e)
      (λ i u q a g after e t. hit_release b waiter_inc blocker_inc epoch some n4 z.want i u q a g after e.0 (wants_last b waiter_inc blocker_inc epoch some n4 z.want u q (step.Deliver i) a g after e.1 t) t)
      (along_again n3 r3.1 f3.0) z.sent z.enough r4.2 r4.3 r4.4 in
      f4.1

pub blocks_end : BlocksEndIn 4
blocks_end b w v reachable h r =
    let st = standing w h.server b.waiter.client h.waiting.client reachable h.up h.waiting.runs in
    four_rounds b h.waiting.client.incarnation h.blocking.client.incarnation h.server.durable.epoch st.begun w v
    (record {
      blocked = h;
      waiter_at = record { reachable = reachable; server = h.server; up = h.up; now = refl; client = h.waiting.client; runs = h.waiting.runs; same = refl; long = omega arith };
      blocker_at = record { reachable = reachable; server = h.server; up = h.up; now = refl; client = h.blocking.client; runs = h.blocking.runs; same = refl; long = omega arith };
    }) r
