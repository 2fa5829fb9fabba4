-- A client that blocks a first waiter at the end of some rounds has blocked it all the time.
use Rattle.krl_progress.proofs.Names.{◌≡◌, ℕ, zero, suc, ◌≤◌, ◌∙◌, inl, Bool, true, false, List, [], ◌∷◌, length, refl, sym, ap, subst, arith}
use Rattle.krl_progress.proofs.Names.{ToServer, ToClient, In, Server, is_recovering, is_slot, Step, Up, Down, State, Runs, IsReachable, ServerStep, is_compatible}
use Rattle.krl_modes.proofs.Basics.{not_both}
use Rattle.krl_table.specs.Grants.{nobody_waits}
use Rattle.krl_table.specs.Replies.{asks_absent}
use Rattle.krl_table.specs.FirstReplies.{lacks_entry}
use Rattle.krl_table.proofs.Calls.Answering.{lacks_is}
use Rattle.krl_durable.specs.Slots.{IsSlotOf}
use Rattle.krl_table.proofs.Rows.Slots.{next_of}
use Rattle.krl_server.specs.Servers.{incarnation_of}
use Rattle.krl_world.specs.States.{served}
use Rattle.krl_steps.specs.declared.applied_write.AppliedWrite.{AppliedWrite}
use Rattle.krl_progress.specs.Blocks.{Block, HasSeen, IsBlocked, Throughout, RoundsWhile}
use Rattle.krl_progress.specs.FirstWaits.{FirstWait, StandsFirst}
use Rattle.krl_progress.proofs.Standings.{HasStanding, standing}
use Rattle.krl_progress.proofs.Recovers.{same_up, next_reachable}
use Rattle.krl_progress.proofs.CallsBack.{in_order}
use Rattle.krl_progress.proofs.Doings.{Does, rests, goes, starts, ends, reads, nudges, stops, begins, does}
use Rattle.krl_progress.proofs.Hearing.{step_epoch}
use Rattle.krl_progress.proofs.Later.{step_later}
use Rattle.krl_progress.proofs.Sinking.{unpushed, step_sinks, stays_compatible}

-- A client that has accepted every push after a message had accepted it before, so the message brought it none

pub record IsUnmoved (s t : Server) (c : ℕ) : Type 0 where
  pub incarnation : incarnation_of t c ≡ incarnation_of s c
  pub last : (t.sessions c).last_push ≡ (s.sessions c).last_push

unmoved : (u : State) (old new : Server) (m : ToServer) (outs : List ToClient) (writes : List AppliedWrite) (c seen : ℕ) → IsReachable u → IsReachable (served u (Up new) outs writes) → u.server ≡ Up old → ServerStep old m new outs → HasSeen (served u (Up new) outs writes) new c seen → IsUnmoved old new c
unmoved u old new m outs writes c seen ru rv up step h = record { incarnation = incarnation; last = (let a = h.accepted in let z = h.last in omega (arith, low, high, a, z)) }
  where
    before : HasStanding u old c h.client
    before = standing u old c h.client ru up h.runs

    after : HasStanding (served u (Up new) outs writes) new c h.client
    after = standing (served u (Up new) outs writes) new c h.client rv refl h.runs

    some : 1 ≤ h.client.epoch
    some = let b = after.begun in let e = h.epoch in omega (arith, b, e)

    epoch : h.client.epoch ≡ old.durable.epoch
    epoch = h.epoch ∙ step_epoch old new m outs step

    incarnation : incarnation_of new c ≡ incarnation_of old c
    incarnation = after.joined some ∙ sym (before.joined some)

    low : h.client.seen ≤ (old.sessions c).last_push
    low = before.seen some epoch

    high : (old.sessions c).last_push ≤ (new.sessions c).last_push
    high = unpushed old new c (step_later old new m outs c step) incarnation

-- whether the first waiter asks for an entry where there is none does not change while it stands on its slot
pub lacks_there : (f : FirstWait) (u : State) → IsReachable u → (h : StandsFirst f u) → lacks_entry f.slot f.waiter ≡ asks_absent h.server.durable.index f.waiter
lacks_there f u ru h =
    let i = (in_order u h.server ru h.up).0 in
    let p = i.placed f.slot f.waiter (subst (In f.waiter) (sym h.first) (inl refl)) in
    lacks_is h.server.durable.index i.near f.slot f.waiter (subst (IsSlotOf h.server.durable.index f.waiter.point) p.1 (next_of h.server.durable.index i.near f.waiter.point p.0))

module _ (f : FirstWait) (present : lacks_entry f.slot f.waiter ≡ false) (d : ℕ) where
  abbrev pub block : Block
  block = record { slot = f.slot; span = f.span; waiter = f.waiter; blocker = d; waiter_seen = f.seen f.waiter.client; blocker_seen = f.seen d }

  abbrev pub Blocks : State → Type 0
  Blocks u = (s : Server) → u.server ≡ Up s → is_compatible s f.slot f.waiter d ≡ false

  pub blocked : (u : State) → IsReachable u → StandsFirst f u → Blocks u → IsBlocked block u
  blocked u ru h b = let e = b h.server h.up in let x = h.blocking d e in record {
    server = h.server;
    up = h.up;
    serves = h.serves;
    slot = h.slot;
    span = h.span;
    behind = h.behind;
    first = h.first;
    possible = sym (lacks_there f u ru h) ∙ present;
    blocks = e;
    waiting = h.waiting;
    blocking = x.now;
    free = x.free;
    unpinned = x.unpinned;
  }

  read_blocks : (u : State) (old new : Server) (m : ToServer) (outs : List ToClient) (writes : List AppliedWrite) → IsReachable u → IsReachable (served u (Up new) outs writes) → StandsFirst f u → StandsFirst f (served u (Up new) outs writes) → u.server ≡ Up old → ServerStep old m new outs → is_compatible new f.slot f.waiter d ≡ false → is_compatible old f.slot f.waiter d ≡ false
  read_blocks u old new m outs writes ru rv h g up step b = by_test (is_compatible old f.slot f.waiter d) refl
    where
      before : h.server ≡ old
      before = same_up h.server old (sym h.up ∙ up)

      after : g.server ≡ new
      after = same_up g.server new (sym g.up)

      waiter_unmoved : IsUnmoved old new f.waiter.client
      waiter_unmoved = unmoved u old new m outs writes f.waiter.client (f.seen f.waiter.client) ru rv up step (subst (λ (y : Server). HasSeen (served u (Up new) outs writes) y f.waiter.client (f.seen f.waiter.client)) after g.waiting)

      blocker_unmoved : IsUnmoved old new d
      blocker_unmoved = unmoved u old new m outs writes d (f.seen d) ru rv up step (subst (λ (y : Server). HasSeen (served u (Up new) outs writes) y d (f.seen d)) after (g.blocking d (ap (λ (y : Server). is_compatible y f.slot f.waiter d) after ∙ b)).now)

      by_test : (x : Bool) → is_compatible old f.slot f.waiter d ≡ x → x ≡ false
      by_test false e = refl
      by_test true e =
          let sound = (in_order u old ru up).0 in
          let serves = subst (λ (y : Server). is_recovering y.missing ≡ false) before h.serves in
          let slot = subst (λ (y : Server). is_slot y.durable.index f.slot ≡ true) before h.slot in
          let waited = subst (λ (y : Server). nobody_waits (y.rows f.slot).queue ≡ false) before (ap nobody_waits h.first) in
          let own = step_sinks old new m outs f.waiter.client sound serves step waiter_unmoved.incarnation waiter_unmoved.last in
          let other = step_sinks old new m outs d sound serves step blocker_unmoved.incarnation blocker_unmoved.last in
          absurd (not_both (is_compatible new f.slot f.waiter d) (stays_compatible old new f.slot f.waiter d own other slot waited e) b)

  still_blocks : (u v : State) → IsReachable u → IsReachable v → StandsFirst f u → StandsFirst f v → Does u v → Blocks v → Blocks u
  still_blocks u _ ru rv h g rests b = b
  still_blocks u _ ru rv h g (goes c k l ms i x y) b = b
  still_blocks u _ ru rv h g (starts c down) b = b
  still_blocks u _ ru rv h g (ends c number ms most silent) b = b
  still_blocks u _ ru rv h g (reads old new m outs writes up at step) b = λ s e.
      subst (λ (y : Server). is_compatible y f.slot f.waiter d ≡ false) (same_up old s (sym up ∙ e)) (read_blocks u old new m outs writes ru rv h g up step (b new refl))
  still_blocks u _ ru rv h g (nudges s c up) b = λ t e. b t (sym up ∙ e)
  still_blocks u _ ru rv h g (stops s up) b = absurd (let x : Down s.durable ≡ Up g.server = g.up in cc)
  still_blocks u _ ru rv h g (begins c up) b = absurd (let x : Down c ≡ Up h.server = sym up ∙ h.up in cc)

  run_back : (steps : List Step) (u v : State) → IsReachable u → StandsFirst f u → (r : Runs u steps v) → Throughout (StandsFirst f) u steps v r → Blocks v → Blocks u × Throughout (IsBlocked block) u steps v r
  run_back [] u v ru h r all b = (subst Blocks r b, r)
  run_back (s ∷ steps) u v ru h r all b =
      let next = next_reachable u r.1 s r.0 ru r.2 in
      let rest = run_back steps r.1 v next all.0 r.3 all.1 b in
      (still_blocks u r.1 ru next h all.0 (does u r.1 s r.0 r.2) rest.0, (blocked r.1 next all.0 rest.0, rest.1))

-- the last world of a run
pub run_end : (P : State → Type 0) (steps : List Step) (u v : State) → IsReachable u → P u → (r : Runs u steps v) → Throughout P u steps v r → IsReachable v × P v
run_end P [] u v ru h r all = subst (λ z. IsReachable z × P z) (sym r) (ru, h)
run_end P (s ∷ steps) u v ru h r all = run_end P steps r.1 v (next_reachable u r.1 s r.0 ru r.2) all.0 r.3 all.1

pub rounds_end : (P : State → Type 0) (n from : ℕ) (w v : State) → IsReachable w → P w → RoundsWhile P n from w v → IsReachable v × P v
rounds_end P zero from w v rw h r = subst (λ z. IsReachable z × P z) (sym r) (rw, h)
rounds_end P (suc n) from w v rw h r = let x = run_end P r.0 w r.1 rw h r.3 r.4 in rounds_end P n (length w.sent) r.1 v x.0 x.1 r.5

pub rounds_back : (f : FirstWait) (present : lacks_entry f.slot f.waiter ≡ false) (d n from : ℕ) (w v : State) → IsReachable w → StandsFirst f w → RoundsWhile (StandsFirst f) n from w v → Blocks f present d v → Blocks f present d w × RoundsWhile (IsBlocked (block f present d)) n from w v
rounds_back f present d zero from w v rw h r b = (subst (Blocks f present d) r b, r)
rounds_back f present d (suc n) from w v rw h r b =
    let x = run_end (StandsFirst f) r.0 w r.1 rw h r.3 r.4 in
    let rest = rounds_back f present d n (length w.sent) r.1 v x.0 x.1 r.5 b in
    let here = run_back f present d r.0 w r.1 rw h r.3 r.4 rest.0 in
    (here.0, (r.0, r.1, r.2, r.3, here.1, rest.1))
