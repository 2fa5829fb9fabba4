-- No message goes: each step of the machine leaves every message that stands.
use Rattle.krl_world.proofs.Names.{ℕ, inr, sym, subst, eq_cases, Grows, grows_not, grows_on}
use Rattle.krl_machine.specs.Links.{Shared, Link, LinkStep, starts, crashes, leaves, joins, accepts, lowers, issues, hellos_again, reports_again, speaks, writes_again, registers, notifies, sees_off, takes_report, takes_head, takes_release, refuses, pushes}
use Rattle.krl_machine.specs.Worlds.{World, Step, at_link, raises, applies, crash, start, finish, Steps, none, more, Changed}

link_grows : (s : Shared) (l m : Link) → LinkStep s l m → Grows l m
link_grows s l _ (starts down) = record { hellos = λ x i. inr i; byes = λ x i. i; heads = λ x i. i; releases = λ x i. i; writes = λ x i. i; reports = λ x i. i; notices = λ x i. i; pushes = λ x i. i }
link_grows s l _ crashes = record { hellos = λ x i. i; byes = λ x i. i; heads = λ x i. i; releases = λ x i. i; writes = λ x i. i; reports = λ x i. i; notices = λ x i. i; pushes = λ x i. i }
link_grows s l _ (leaves up) = record { hellos = λ x i. i; byes = λ x i. inr i; heads = λ x i. i; releases = λ x i. i; writes = λ x i. i; reports = λ x i. i; notices = λ x i. i; pushes = λ x i. i }
link_grows s l _ (joins n at up own later) = record { hellos = λ x i. i; byes = λ x i. i; heads = λ x i. i; releases = λ x i. i; writes = λ x i. i; reports = λ x i. inr i; notices = λ x i. i; pushes = λ x i. i }
link_grows s l _ (accepts p out at live after) = record { hellos = λ x i. i; byes = λ x i. i; heads = λ x i. inr i; releases = λ x i. i; writes = λ x i. i; reports = λ x i. i; notices = λ x i. i; pushes = λ x i. i }
link_grows s l _ (lowers r range key up old head mode free lowered) = record { hellos = λ x i. i; byes = λ x i. i; heads = λ x i. inr i; releases = λ x i. inr i; writes = λ x i. i; reports = λ x i. i; notices = λ x i. i; pushes = λ x i. i }
link_grows s l _ (issues op up old free may) = record { hellos = λ x i. i; byes = λ x i. i; heads = λ x i. inr i; releases = λ x i. i; writes = λ x i. inr i; reports = λ x i. i; notices = λ x i. i; pushes = λ x i. i }
link_grows s l _ (hellos_again up) = record { hellos = λ x i. inr i; byes = λ x i. i; heads = λ x i. i; releases = λ x i. i; writes = λ x i. i; reports = λ x i. i; notices = λ x i. i; pushes = λ x i. i }
link_grows s l _ (reports_again up old) = record { hellos = λ x i. i; byes = λ x i. i; heads = λ x i. i; releases = λ x i. i; writes = λ x i. i; reports = λ x i. inr i; notices = λ x i. i; pushes = λ x i. i }
link_grows s l _ (speaks up old) = record { hellos = λ x i. i; byes = λ x i. i; heads = λ x i. inr i; releases = λ x i. i; writes = λ x i. i; reports = λ x i. i; notices = λ x i. i; pushes = λ x i. i }
link_grows s l _ (writes_again op up old out) = record { hellos = λ x i. i; byes = λ x i. i; heads = λ x i. inr i; releases = λ x i. i; writes = λ x i. inr i; reports = λ x i. i; notices = λ x i. i; pushes = λ x i. i }
link_grows s l _ (registers h at on newer) = record { hellos = λ x i. i; byes = λ x i. i; heads = λ x i. i; releases = λ x i. i; writes = λ x i. i; reports = λ x i. i; notices = λ x i. inr i; pushes = λ x i. i }
link_grows s l _ (notifies on) = record { hellos = λ x i. i; byes = λ x i. i; heads = λ x i. i; releases = λ x i. i; writes = λ x i. i; reports = λ x i. i; notices = λ x i. inr i; pushes = λ x i. i }
link_grows s l _ (sees_off b at on own) = record { hellos = λ x i. i; byes = λ x i. i; heads = λ x i. i; releases = λ x i. i; writes = λ x i. i; reports = λ x i. i; notices = λ x i. i; pushes = λ x i. i }
link_grows s l _ (takes_report r range key at on missing own same rebuilt) = record { hellos = λ x i. i; byes = λ x i. i; heads = λ x i. i; releases = λ x i. i; writes = λ x i. i; reports = λ x i. i; notices = λ x i. i; pushes = λ x i. i }
link_grows s l _ (takes_head a at ok) = record { hellos = λ x i. i; byes = λ x i. i; heads = λ x i. i; releases = λ x i. i; writes = λ x i. i; reports = λ x i. i; notices = λ x i. i; pushes = λ x i. i }
link_grows s l _ (takes_release r range key at ok acked slots row) = record { hellos = λ x i. i; byes = λ x i. i; heads = λ x i. i; releases = λ x i. i; writes = λ x i. i; reports = λ x i. i; notices = λ x i. i; pushes = λ x i. i }
link_grows s l _ (refuses w at ok acked next) = record { hellos = λ x i. i; byes = λ x i. i; heads = λ x i. i; releases = λ x i. i; writes = λ x i. i; reports = λ x i. i; notices = λ x i. i; pushes = λ x i. i }
link_grows s l _ (pushes p a at own same on here acked inc epoch number says answers) = record { hellos = λ x i. i; byes = λ x i. i; heads = λ x i. i; releases = λ x i. i; writes = λ x i. i; reports = λ x i. i; notices = λ x i. i; pushes = λ x i. inr i }

changed_grows : (old new : ℕ → Link) (c : ℕ) (l : Link) → Changed old new c l → Grows (old c) l → (d : ℕ) → Grows (old d) (new d)
changed_grows old new c l ch g d = eq_cases d c
    (λ e. subst (λ x. Grows (old x) (new x)) (sym e) (subst (Grows (old c)) (sym ch.here) g))
    (λ ne. subst (Grows (old d)) (sym (ch.rest d ne)) (grows_not (old d)))

step_grows : (u v : World) → Step u v → (d : ℕ) → Grows (u.links d) (v.links d)
step_grows u v (at_link c l links step ch) d = changed_grows u.links links c l ch (link_grows u.shared (u.links c) l step) d
step_grows u v (raises c range key links serving row up agrees ch) d = changed_grows u.links links c _ ch (record { hellos = λ x i. i; byes = λ x i. i; heads = λ x i. i; releases = λ x i. i; writes = λ x i. i; reports = λ x i. i; notices = λ x i. i; pushes = λ x i. i }) d
step_grows u v (applies c m index key links at ok acked next does ch) d = changed_grows u.links links c _ ch (record { hellos = λ x i. i; byes = λ x i. i; heads = λ x i. i; releases = λ x i. i; writes = λ x i. i; reports = λ x i. i; notices = λ x i. i; pushes = λ x i. i }) d
step_grows u v (crash on) d = grows_not (u.links d)
step_grows u v (start missing down is) d = record { hellos = λ x i. i; byes = λ x i. i; heads = λ x i. i; releases = λ x i. i; writes = λ x i. i; reports = λ x i. i; notices = λ x i. i; pushes = λ x i. i }
step_grows u v (finish on all) d = record { hellos = λ x i. i; byes = λ x i. i; heads = λ x i. i; releases = λ x i. i; writes = λ x i. i; reports = λ x i. i; notices = λ x i. i; pushes = λ x i. i }

pub steps_grow : (u w : World) → Steps u w → (d : ℕ) → Grows (u.links d) (w.links d)
steps_grow u w none d = grows_not (u.links d)
steps_grow u w (more {v = v} a b) d = grows_on (u.links d) (v.links d) (w.links d) (steps_grow u v a d) (step_grows v w b d)
