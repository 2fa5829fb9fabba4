-- All answers to waiters after a step; and what was sent stays sent.
use Rattle.krl_refinement.proofs.Names.{◌≡◌, ℕ, Bool, false, List, inr, refl, sym, ap, subst, ◌∙◌, ⊎_elim, ToClient, ToClientBody, In, in_both, Logged, World, Changed, Step, at_link, raises, applies}
use Rattle.krl_refinement.proofs.Names.{crash, start, finish, Steps, none, more, eq_cases, WorldInv, steps_on, world_steps, Server, is_recovering, IsSound, not_both, turn_sound, turn_missing}
use Rattle.krl_refinement.proofs.Names.{answered_up, WasSent, Shows, world_of}
use Rattle.krl_messages.specs.declared.to_client.ToClientBody.TheVariants as told
use Rattle.krl_machine.specs.Links.{Notice, Push, Shared, Link, LinkStep, registers, notifies, pushes}
use Rattle.krl_server.specs.Answering.{answer_first, AnswersWaiters, stops, goes_on}
use Rattle.krl_refinement.proofs.Server.Follows.{Goes, serving_phase}
use Rattle.krl_refinement.proofs.Server.Turns.{turn_follows}

abbrev pub Keeps : Link → Link → Type 0
Keeps l m = ((n : Notice) → In n l.notices → In n m.notices) × ((p : Push) → In p l.pushes → In p m.pushes)

all_kept : (l : Link) → Keeps l l
all_kept l = ((λ n h. h), λ p h. h)

link_keeps : (s : Shared) (l m : Link) → LinkStep s l m → Keeps l m
link_keeps s l m (registers a b c d) = ((λ n h. inr h), λ p h. h)
link_keeps s l m (notifies a) = ((λ n h. inr h), λ p h. h)
link_keeps s l m (pushes q a b c d e f g i j k o r) = ((λ n h. h), λ p h. inr h)
link_keeps s l m _ = ((λ n h. h), λ p h. h)

changed_keeps : (old new : ℕ → Link) (c : ℕ) (l : Link) → Changed old new c l → Keeps (old c) l → (d : ℕ) → Keeps (old d) (new d)
changed_keeps old new c l ch h d = eq_cases d c (λ e. subst (λ x. Keeps (old x) (new x)) (sym e) (subst (Keeps (old c)) (sym ch.here) h)) (λ ne. subst (Keeps (old d)) (sym (ch.rest d ne)) (all_kept (old d)))

step_keeps : (u w : World) → Step u w → (d : ℕ) → Keeps (u.links d) (w.links d)
step_keeps u w (at_link c l of a ch) d = changed_keeps u.links of c l ch (link_keeps u.shared (u.links c) l a) d
step_keeps u w (raises c r k of a b e f ch) d = changed_keeps u.links of c _ ch ((λ n x. x), λ p x. x) d
step_keeps u w (applies c m i k of a b e f g ch) d = changed_keeps u.links of c _ ch ((λ n x. x), λ p x. x) d
step_keeps u w (crash a) d = ((λ n x. x), λ p x. x)
step_keeps u w (start a b c) d = ((λ n x. x), λ p x. x)
step_keeps u w (finish a b) d = ((λ n x. x), λ p x. x)

pub steps_keep : (u w : World) → Steps u w → (d : ℕ) → Keeps (u.links d) (w.links d)
steps_keep u w none d = all_kept (u.links d)
steps_keep u w (more {v = v} a b) d = let x = steps_keep u v a d in let y = step_keeps v w b d in ((λ n h. y.0 n (x.0 n h)), λ p h. y.1 p (x.1 p h))

pub sent_kept : (u w : World) → Steps u w → (c inc : ℕ) (b : ToClientBody) → WasSent (u.links c) inc b → WasSent (w.links c) inc b
sent_kept u w a c inc (told.Epoch epoch) h = (steps_keep u w a c).0 _ h
sent_kept u w a c inc (told.Push epoch number body) h = ((steps_keep u w a c).1 _ h.0, h.1, h.2)
sent_kept u w a c inc (told.Callback epoch span keep) h = h

-- the answering of first waiters until none is answerable is some steps
pub answering_follows : (s t : Server) (of : ℕ → Link) (log : List Logged) (cleared : ℕ → Bool) (outs : List ToClient) → AnswersWaiters s t outs → IsSound s → WorldInv (world_of s of log) → is_recovering s.missing ≡ false → Shows s of → Goes s of log cleared (record { server = t; outs = outs }) log
answering_follows s t of log cleared outs (stops s' e) i inv up h = record { after = of; steps = none; shows = h; sent = λ o at. absurd at; clients = λ c. refl; bound = λ g. absurd (not_both (is_recovering s.missing) g up) }
answering_follows s t of log cleared outs (goes_on s' t' turn later e rest) i inv up h =
    let f = turn_follows s of log cleared turn i inv (serving_phase s.missing up) e h in
    let u = (answer_first s turn).server in
    let g = answering_follows u t f.after log cleared later rest (turn_sound s turn i e) (world_steps (world_of s of log) (world_of u f.after log) f.steps inv) (ap is_recovering (turn_missing s turn) ∙ up) f.shows in
    record {
      after = g.after;
      steps = steps_on f.steps g.steps;
      shows = g.shows;
      sent = λ o at. ⊎_elim (λ (x : In o (answer_first s turn).outs). sent_kept (world_of u f.after log) (world_of t g.after log) g.steps o.client o.incarnation o.body (f.sent o x)) (λ (x : In o later). g.sent o x) (in_both (answer_first s turn).outs later o at);
      clients = λ c. g.clients c ∙ f.clients c;
      bound = λ x. absurd (not_both (is_recovering t.missing) x (answered_up u t later rest (ap is_recovering (turn_missing s turn) ∙ up)));
    }
