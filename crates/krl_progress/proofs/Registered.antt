-- What a client sends after it has joined an epoch is of an incarnation that was registered by then.
use Rattle.krl_progress.proofs.Names.{ℕ, ◌≤◌, Option, sym, subst, arith, Value, In, Link, Shared, at_link, Reachable, stepped, eq_cases}
use Rattle.krl_messages.proofs.Members.{each_more}
use Rattle.krl_machine.specs.Links.{Head, LinkStep, accepts, lowers, issues, speaks, writes_again, registers}
use Rattle.krl_machine.specs.Worlds.{World, Changed, Step, raises, applies, crash, start, finish, begun}
use Rattle.krl_machine.proofs.Basics.{Inv}
use Rattle.krl_machine.proofs.Worlds.{WorldInv}
use Rattle.krl_machine.proofs.Runs.{reachable_inv}

-- a Lock, Ack, Write or Release is of no later incarnation than the registered one
abbrev pub AreRegistered : Link → Type 0
AreRegistered l = (a : Head) → In a l.heads → a.inc ≤ l.reg

-- the client is of the registered incarnation once it has joined an epoch
own : (s : Shared) (l : Link) → Inv s l → 1 ≤ l.epoch → l.inc ≤ l.reg
own s l i joined = let same = i.standing.joined joined in omega (arith, same)

step_kept : (s : Shared) (l l' : Link) → LinkStep s l l' → Inv s l → AreRegistered l → AreRegistered l'
step_kept s l l' (accepts p out at live after) i h =
    let low = (i.counting.pushes p at).low in
    each_more (λ a. a.inc ≤ l.reg) _ l.heads (own s l i (omega (arith, low, live.epoch))) h
step_kept s l l' (lowers r range key up joined head mode free points) i h = each_more (λ a. a.inc ≤ l.reg) _ l.heads (subst (λ a. a.inc ≤ l.reg) (sym head) (own s l i joined)) h
step_kept s l l' (issues op up joined out may) i h = each_more (λ a. a.inc ≤ l.reg) _ l.heads (own s l i joined) h
step_kept s l l' (speaks up joined) i h = each_more (λ a. a.inc ≤ l.reg) _ l.heads (own s l i joined) h
step_kept s l l' (writes_again op up joined out) i h = each_more (λ a. a.inc ≤ l.reg) _ l.heads (own s l i joined) h
step_kept s l l' (registers n at on newer) i h = λ a m. let low = h a m in omega (arith, low, newer)
step_kept s l l' _ i h = h

-- the link of one client changes
module _ (old new : ℕ → Link) (c : ℕ) (l : Link) (ch : Changed old new c l) where
  all_kept : AreRegistered l → ((d : ℕ) → AreRegistered (old d)) → (d : ℕ) → AreRegistered (new d)
  all_kept here rest d = eq_cases d c (λ e. subst (λ x. AreRegistered (new x)) (sym e) (subst AreRegistered (sym ch.here) here)) (λ ne. subst AreRegistered (sym (ch.rest d ne)) (rest d))

world_kept : (w v : World) → Step w v → WorldInv w → ((c : ℕ) → AreRegistered (w.links c)) → (c : ℕ) → AreRegistered (v.links c)
world_kept w v (at_link c l links step ch) i h = all_kept w.links links c l ch (step_kept w.shared (w.links c) l step (i.links c) (h c)) h
world_kept w v (raises c range key links serving row up agrees ch) i h = all_kept w.links links c _ ch (h c) h
world_kept w v (applies c m index key links at ok acked next ap' ch) i h = all_kept w.links links c _ ch (h c) h
world_kept w v (crash on) i h = h
world_kept w v (start missing down is) i h = h
world_kept w v (finish on all) i h = h

pub always_registered : (index : ℕ → Option Value) (end : ℕ) (w : World) → Reachable index end w → (c : ℕ) → AreRegistered (w.links c)
always_registered index end w begun c = λ a m. absurd m
always_registered index end w (stepped u v r step) c = world_kept u v step (reachable_inv index end u r) (always_registered index end u r) c
