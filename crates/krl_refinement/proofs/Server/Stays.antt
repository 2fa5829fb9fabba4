-- What a step of a client's link leaves of the server: it shows in the links as before.
use Rattle.krl_refinement.proofs.Names.{◌≡◌, ℕ, Bool, Option, Some, None, refl, sym, ap, subst, ◌∙◌, RangePart, KeyPart, Record, Shared, Link, put, Session, Server}
use Rattle.krl_refinement.proofs.Names.{Grows, server_part, WasSent, IsRecord, LinkIs, Shows}
use Rattle.krl_messages.specs.declared.to_client.ToClientBody.TheVariants as told
use Rattle.krl_refinement.proofs.Messages.{sent_stays}
use Rattle.krl_refinement.proofs.Client.Basics.{grows_not}
use Rattle.krl_refinement.proofs.Server.Follows.{at_put}

pub record_stays : (o : Option Record) (l m : Link) → server_part m ≡ server_part l → IsRecord o l → IsRecord o m
record_stays None l m e h = record { reg = ap (λ x. x.reg) e ∙ h.reg; left = ap (λ x. x.left) e ∙ h.left; done = ap (λ x. x.done) e ∙ h.done }
record_stays (Some r) l m e h = record { reg = ap (λ x. x.reg) e ∙ h.reg; left = ap (λ x. x.left) e ∙ h.left; done = λ n. ap (λ x. x.done) e ∙ h.done n; applied = λ o n i. ap (λ x. x.applied) e ∙ h.applied o n i }

link_stays : (s : Shared) (of : Option Record) (missing : Bool) (session : Session) (r : ℕ → RangePart) (k : ℕ → KeyPart) (l m : Link) → server_part m ≡ server_part l → Grows l m → LinkIs s of missing session r k l → LinkIs s of missing session r k m
link_stays s of missing session r k l m e g h = record {
  known = record_stays of l m e h.known;
  missing = ap (λ x. x.missing) e ∙ h.missing;
  last_push = ap (λ x. x.last_push) e ∙ h.last_push;
  acked = ap (λ x. x.acked) e ∙ h.acked;
  unacked = λ b i. subst (λ n. WasSent m n (told.Push s.epoch session.last_push b)) (sym (ap (λ x. x.reg) e)) (sent_stays l m g l.reg (told.Push s.epoch session.last_push b) (h.unacked b i));
  range = λ p q. ap (λ x. x.top_range q) e ∙ h.range p q;
  key = λ p q. ap (λ x. x.top_key q) e ∙ h.key p q;
  new_range = λ p q. ap (λ x. x.new_range q) e ∙ h.new_range p q;
  new_key = λ p q. ap (λ x. x.new_key q) e ∙ h.new_key p q;
}

pub shows_stays : (s : Server) (of to : ℕ → Link) → ((c : ℕ) → server_part (to c) ≡ server_part (of c)) → ((c : ℕ) → Grows (of c) (to c)) → Shows s of → Shows s to
shows_stays s of to e g h = record {
  link = λ c. link_stays _ _ _ _ _ _ (of c) (to c) (e c) (g c) (h.link c);
  heard = λ n u at. let x = h.heard n u at in (x.0, (g u.client).heads x.0 x.1, x.2 ∙ sym (ap (λ y. y.reg) (e u.client)), x.3, ap (λ y. y.left) (e u.client) ∙ x.4);
}

-- if one link is l, and the others are as they were

pub put_grows : (of : ℕ → Link) (c : ℕ) (l : Link) → Grows (of c) l → (d : ℕ) → Grows (of d) (put of c l d)
put_grows of c l g = at_put (λ d x. Grows (of d) x) of c l g (λ d ne. grows_not (of d))

pub put_part : (of : ℕ → Link) (c : ℕ) (l : Link) → server_part l ≡ server_part (of c) → (d : ℕ) → server_part (put of c l d) ≡ server_part (of d)
put_part of c l e = at_put (λ d x. server_part x ≡ server_part (of d)) of c l e (λ d ne. refl)
