-- The next push of an old server is a step of the machine: a stale one, or one of the latest that ever served.
use Rattle.krl_failover.proofs.Refinement.Names.{◌≡◌, ◌≢◌, ℕ, suc, ◌<◌, ◌≤◌, ◌⊎◌, inl, inr, ⊎_elim, Bool, true, false, not, Option, Some, None, [], ◌∷◌, refl, sym, ap, subst, ◌∙◌, arith, is_some, END, In}
use Rattle.krl_failover.proofs.Refinement.Names.{Value, op_key, is_applied, Outcome, WriteOp, PushBody, Head, Push, Write, Said, Link, MaySay, Recovering, put, put_changed, eq_cases, Server, Done}
use Rattle.krl_failover.proofs.Refinement.Names.{pushes, IsTold, push_of, Kept, Fenced, IsHere, MayPush, AnswersKept, seen_by, FencedStep, FencedReachable, IsHeardBy, IsSound, ShowsOld}
use Rattle.std.proofs.lemmas.Bool.{cases_lt}
use Rattle.krl_messages.specs.declared.to_client.PushBody.TheVariants as push
use Rattle.krl_messages.specs.declared.write_op.WriteOp.TheVariants as write
use Rattle.krl_durable.specs.Index.{slot_of}
use Rattle.krl_machine.specs.Links as links
use Rattle.krl_machine.proofs.Holdings.{speaks_at}
use Rattle.krl_server.specs.Effects.{holding}
use Rattle.krl_server.proofs.Slots.{slot_here, slot_high, span_here}
use Rattle.krl_refinement.specs.Messages.{op_of}
use Rattle.krl_refinement.proofs.Messages.{push_inc, push_epoch, push_number}
use Rattle.krl_failover.specs.Steps.{old_pushes, stale_pushes}
use Rattle.krl_failover.proofs.Refinement.Stores.{reached_on}
use Rattle.krl_failover.proofs.Refinement.Beside.{keep, keep_turned}
use Rattle.krl_failover.proofs.Refinement.OldMoves.{Goes, with_push, pushes_on}

-- the incarnation that the old server knows is here, or is gone
pub data Whereabouts (l : Link) (z : Kept) : Type 0 where
  is_here : IsHere l z → Whereabouts l z
  is_gone : (z.reg ≢ l.reg) ⊎ (l.left ≡ true) → (IsHere l z → ⊥) → Whereabouts l z

pub whereabouts : (l : Link) (z : Kept) → Whereabouts l z
whereabouts l z = eq_cases z.reg l.reg (λ e. by_left l.left refl e) (λ ne. is_gone (inl ne) (λ h. ne h.0))
  where
    by_left : (b : Bool) → l.left ≡ b → z.reg ≡ l.reg → Whereabouts l z
    by_left false f e = is_here (e, f)
    by_left true f e = is_gone (inr f) (λ h. let x = sym f ∙ h.1 in absurd (cc))

-- what a push must state: of the bound if it is the server's table, and of the last write
pub record Fits (f : Fenced) (e c : ℕ) (p : Push) : Type 0 where
  pub says : e ≡ f.bound → IsHere (f.world.links c) (f.old e c) → (q : ℕ) (t : Said) → p.says q ≡ Some t → MaySay (seen_by f e) (f.world.links c) q t
  pub answer : (p.answers ≡ 0) ⊎ AnswersKept (f.world.links c) (f.old e c) p

-- a server of the bound's epoch or an earlier one pushes
push_step : (f : Fenced) (e c : ℕ) (p : Push) → 1 ≤ e → e < f.world.shared.epoch → e ≤ f.bound → (e ≡ f.bound → f.world.shared.phase ≡ Recovering) → MayPush (f.world.links c) e (f.old e c) p → Fits f e c p → FencedStep f (with_push f e c p)
push_step f e c p begun lt le rec may fit = ⊎_elim (λ (low : e < f.bound). stale (inl low)) (λ (up : f.bound ≤ e). at_bound (omega arith) (whereabouts (f.world.links c) (f.old e c))) (cases_lt e f.bound)
  where
    l : Link
    l = record (f.world.links c) { pushes = p ∷ (f.world.links c).pushes }

    stale : (e < f.bound) ⊎ ((f.old e c).reg ≢ (f.world.links c).reg) ⊎ ((f.world.links c).left ≡ true) → FencedStep f (with_push f e c p)
    stale why = stale_pushes e c p (put f.world.links c l) (keep f.old e c (record (f.old e c) { last = suc (f.old e c).last; acked = false })) begun lt le why may (put_changed f.world.links c l) (keep_turned f.old e c (record (f.old e c) { last = suc (f.old e c).last; acked = false }))

    at_bound : e ≡ f.bound → Whereabouts (f.world.links c) (f.old e c) → FencedStep f (with_push f e c p)
    at_bound is (is_gone why out) = stale (inr why)
    at_bound is (is_here here) = subst (λ x. FencedStep f (with_push f x c p)) (sym is)
        (old_pushes c p (put f.world.links c l) (keep f.old f.bound c (record (f.old f.bound c) { last = suc (f.old f.bound c).last; acked = false })) (rec is)
        (subst (λ x. IsHere (f.world.links c) (f.old x c)) is here)
        (subst (λ x. MayPush (f.world.links c) x (f.old x c) p) is may)
        (subst (λ x. (q : ℕ) (t : Said) → p.says q ≡ Some t → MaySay (seen_by f x) (f.world.links c) q t) is (fit.says is here))
        (put_changed f.world.links c l)
        (keep_turned f.old f.bound c (record (f.old f.bound c) { last = suc (f.old f.bound c).last; acked = false })))

-- what is asked of the server, as it stands, for it to push
pub record CanPush (s : Server) (f : Fenced) : Type 0 where
  pub first : ℕ → Option Value
  pub reached : FencedReachable first END f
  pub begun : 1 ≤ s.durable.epoch
  pub low : s.durable.epoch ≤ f.bound
  pub phase : s.durable.epoch ≡ f.bound → f.world.shared.phase ≡ Recovering
  pub far : f.world.shared.end ≡ END

pub can_on : (s t : Server) (f : Fenced) (done : Done) → t.durable.epoch ≡ s.durable.epoch → CanPush s f → (a : Goes s f done) → CanPush t a.fenced
can_on s t f done same can a =
    let e = s.durable.epoch in
    let bound : a.fenced.bound ≡ f.bound = ⊎_elim (λ (x : a.fenced.bound ≡ f.bound). x) (λ (x : (f.bound < e) × (a.fenced.bound ≡ e)). absurd (omega (arith, x.0, can.low))) a.beside.bound in
    record {
      first = can.first;
      reached = reached_on can.first END f a.fenced can.reached a.steps;
      begun = subst (λ x. 1 ≤ x) (sym same) can.begun;
      low = omega (arith, same, bound, can.low);
      phase = λ is. ap (λ x. x.phase) a.beside.shared ∙ can.phase (sym same ∙ is ∙ bound);
      far = ap (λ x. x.end) a.beside.shared ∙ can.far;
    }

pub next_push : (s : Server) (f : Fenced) (c : ℕ) (body : PushBody) → CanPush s f → ShowsOld s f → IsTold body → IsHeardBy s.durable.epoch (f.world.links c) (f.old s.durable.epoch c) → (s.sessions c).unacked ≡ None → Fits f s.durable.epoch c (push_of (f.old s.durable.epoch c).reg s.durable.epoch (suc (s.sessions c).last_push) body) → Goes s f (pushes s c body)
next_push s f c body can h is_told heard free fit =
    let e = s.durable.epoch in
    let z = f.old e c in
    let k = h.link c in
    let number = suc (s.sessions c).last_push in
    pushes_on s f c body can.begun is_told
    (push_step f e c (push_of z.reg e number body) can.begun h.old can.low can.phase
    (record {
      head = heard.0;
      heard = heard.1;
      head_inc = heard.2;
      head_epoch = heard.3;
      acked = k.acked ∙ ap (λ x. not (is_some x)) free;
      inc = push_inc z.reg e number body;
      epoch = push_epoch z.reg e number body;
      number = push_number z.reg e number body ∙ ap (λ x. suc x) (sym k.last);
      answers = fit.answer;
    })
    fit)
    h

key_same : (op : WriteOp) → links.op_key (op_of op) ≡ op_key op
key_same (write.Insert k v) = refl
key_same (write.Put k v) = refl
key_same (write.Delete k) = refl

-- an answer to the last write speaks as the record does
pub answer_fits : (s : Server) (f : Fenced) (c : ℕ) (a : Head) (number : ℕ) (op : WriteOp) (o : Outcome) → IsSound s → In (let w : Write = record { head = a; number = number; op = op_of op } in w) (f.world.links c).writes → a.inc ≡ (f.old s.durable.epoch c).reg → number ≡ (f.old s.durable.epoch c).done → is_applied o ≡ (f.old s.durable.epoch c).applied → op_key op < END → AnswersKept (f.world.links c) (f.old s.durable.epoch c) (push_of (f.old s.durable.epoch c).reg s.durable.epoch (suc (s.sessions c).last_push) (push.Answer number o (holding s (slot_of s.durable.index (op_key op)) c)))
answer_fits s f c a number op o i at inc last applied under =
    let n = slot_of s.durable.index (op_key op) in
    let w : Write = record { head = a; number = number; op = op_of op } in
    let spec = slot_here s.durable.index i.near (op_key op) (omega (arith, under)) in
    let high = slot_high s.durable.index i.near (op_key op) (omega (arith, under)) in
    let key = key_same op in
    let in_span = (span_here s.durable.index i.near n (op_key op) high).0 spec.1 in
    record { write = w; sent = at; inc = inc; number = last; answers = last; applied = applied; speaks = speaks_at (holding s n c ∷ []) (holding s n c) (inl refl) (links.op_key (op_of op)) (omega (arith, key, in_span)) (omega (arith, key, in_span)) }
