-- While nobody serves, the index and the bounds stand still.
use Rattle.krl_machine.proofs.Names.{◌≡◌, ◌≢◌, inl, inr, refl, sym, ap, subst, Serving, Shared, Link, LinkStep, registers, sees_off, takes_release, World, Step, at_link, raises, applies, crash}
use Rattle.krl_machine.proofs.Names.{start, finish, BoundAfter, stays, blanked, BoundStays}
use Rattle.krl_machine.proofs.Worlds.{eq_cases}

same_bound : (l m : Link) → m ≡ l → BoundAfter l m
same_bound l m e = stays (λ q. (ap (λ x. x.top_range q) e, ap (λ x. x.top_key q) e))

link_bound : (s : Shared) (l l' : Link) → LinkStep s l l' → s.phase ≢ Serving → BoundAfter l l'
link_bound s l l' (registers h at on newer) idle = blanked (inl newer) (λ q. (refl, refl))
link_bound s l l' (sees_off b at on same) idle = blanked (inr refl) (λ q. (refl, refl))
link_bound s l l' (takes_release r range key at ok acked slots row) idle = absurd (idle ok.serving)
link_bound s l l' _ idle = stays (λ q. (refl, refl))

pub bound_stays : (w v : World) → Step w v → BoundStays w v
bound_stays w v (at_link c l links step ch) idle =
    (λ q. refl, λ d. eq_cases d c (λ e. subst (λ x. BoundAfter (w.links x) (links x)) (sym e) (subst (BoundAfter (w.links c)) (sym ch.here) (link_bound w.shared (w.links c) l step idle))) (λ ne. same_bound (w.links d) (links d) (ch.rest d ne)))
bound_stays w v (raises c range key links serving row up agrees ch) idle = absurd (idle serving)
bound_stays w v (applies c m index key links at ok acked next does ch) idle = absurd (idle ok.serving)
bound_stays w v (crash on) idle = (λ q. refl, λ d. stays (λ q. (refl, refl)))
bound_stays w v (start missing down is) idle = (λ q. refl, λ d. stays (λ q. (refl, refl)))
bound_stays w v (finish on all) idle = absurd (idle refl)
