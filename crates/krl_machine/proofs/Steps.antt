-- Several steps, and links of which one is another.
use Rattle.krl_machine.proofs.Names.{◌≡◌, ℕ, false, Option, List, refl, sym, ap, subst, ◌∙◌, cond, nat_eq, eq-eqb, ne_eqb, Value, In, Head, Shared, Link, LinkStep, LinkSteps, idle, next, Logged}
use Rattle.krl_machine.proofs.Names.{World, Changed, Step, at_link, Steps, none, more, Reachable, stepped}
use mathlib.Core.Path.{fun_ext}
use Rattle.krl_machine.proofs.Worlds.{eq_cases, WorldInv}
use Rattle.krl_machine.proofs.Runs.{world_kept}

pub steps_reachable : (index : ℕ → Option Value) (end : ℕ) (u w : World) → Reachable index end u → Steps u w → Reachable index end w
steps_reachable index end u w r none = r
steps_reachable index end u w r (more {v = v} a b) = stepped v w (steps_reachable index end u v r a) b

pub steps_on : {u v w : World} → Steps u v → Steps v w → Steps u w
steps_on a none = a
steps_on a (more b c) = more (steps_on a b) c

before_steps : (u v w : World) → Step u v → Steps v w → Steps u w
before_steps u v w a none = more none a
before_steps u v w a (more {v = x} b c) = more (before_steps u v x a b) c

pub world_steps : (u w : World) → Steps u w → WorldInv u → WorldInv w
world_steps u w none i = i
world_steps u w (more {v = v} a b) i = world_kept v w b (world_steps u v a i)

-- links that are another at c only
abbrev pub put : (ℕ → Link) → ℕ → Link → ℕ → Link
put links c l d = cond (nat_eq d c) l (links d)

pub put_changed : (links : ℕ → Link) (c : ℕ) (l : Link) → Changed links (put links c l) c l
put_changed links c l = record { here = ap (λ b. cond b l (links c)) (eq-eqb c c refl); rest = λ d ne. ap (λ b. cond b l (links d)) (ne_eqb d c ne) }

-- two changes of one link are one
pub changed_twice : (a b z : ℕ → Link) (c : ℕ) (l m : Link) → Changed a b c l → Changed a z c m → Changed b z c m
changed_twice a b z c l m x y = record { here = y.here; rest = λ d ne. y.rest d ne ∙ sym (x.rest d ne) }

unchanged : (old new : ℕ → Link) (c : ℕ) → Changed old new c (old c) → new ≡ old
unchanged old new c ch = fun_ext (λ d. eq_cases d c (λ e. subst (λ x. new x ≡ old x) (sym e) ch.here) (λ ne. ch.rest d ne))

-- steps of one link are steps of the world
pub link_steps : (s : Shared) (log : List Logged) (c : ℕ) (l0 l : Link) (old new : ℕ → Link) → old c ≡ l0 → LinkSteps s l0 l → Changed old new c l → Steps (record { shared = s; links = old; log = log }) (record { shared = s; links = new; log = log })
link_steps s log c l0 l old new e idle ch =
    subst (λ x. Steps (record { shared = s; links = old; log = log }) (record { shared = s; links = x; log = log })) (sym (unchanged old new c (record { here = ch.here ∙ sym e; rest = ch.rest }))) none
link_steps s log c l0 l old new e (next {m = m} a b) ch =
    let mid = put old c m in
    let chm = put_changed old c m in
    before_steps (record { shared = s; links = old; log = log }) (record { shared = s; links = mid; log = log }) (record { shared = s; links = new; log = log })
    (at_link c m mid (subst (λ x. LinkStep s x m) (sym e) a) chm)
    (link_steps s log c m l mid new chm.here b (changed_twice old mid new c m l chm ch))

-- a message of the registered incarnation, which has not left, stands in the network, in this epoch
abbrev pub IsHeard : Shared → Link → Type 0
IsHeard s l = (a : Head) × In a l.heads × (a.inc ≡ l.reg) × (a.epoch ≡ s.epoch) × (l.left ≡ false)

pub heard_kept : (s : Shared) (old new : ℕ → Link) (c : ℕ) (l : Link) → Changed old new c l → (IsHeard s (old c) → IsHeard s l) → (d : ℕ) → IsHeard s (old d) → IsHeard s (new d)
heard_kept s old new c l ch here d h = eq_cases d c (λ e. subst (λ x. IsHeard s (new x)) (sym e) (subst (IsHeard s) (sym ch.here) (here (subst (λ x. IsHeard s (old x)) e h)))) (λ ne. subst (IsHeard s) (sym (ch.rest d ne)) h)
