-- The answer to a write, of which the durable record already shows how it was judged.
use Rattle.krl_refinement.proofs.Names.{◌≡◌, ℕ, ◌≤◌, ◌<◌, Bool, true, false, Option, Some, None, List, [], ◌∷◌, inl, inr, refl, sym, ap, subst, ◌∙◌, arith, AllByRecursion, END, KeyPart, key_of}
use Rattle.krl_refinement.proofs.Names.{WriteOp, Outcome, Value, op_key, is_applied, In, slot_of, column, mode_at, Head, Write, Link, Passes, IsSlot, MaySay, Logged, put, put_changed, Server, shown}
use Rattle.krl_refinement.proofs.Names.{holding, holdings, acknowledged, tells_outcome, IsSound, slot_here, slot_high, span_here, session_here, pushes_serve, acknowledged_sound, op_of, LinkShows, Shows}
use Rattle.krl_refinement.proofs.Names.{view}
use Rattle.std.specs.FinMap as map
use Rattle.krl_modes.specs.Weights.{rank}
use Rattle.krl_modes.specs.declared.part.KeyPart.TheVariants as key
use Rattle.krl_messages.specs.declared.write_op.WriteOp.TheVariants as write
use Rattle.krl_messages.specs.declared.to_client.PushBody.TheVariants as push
use Rattle.krl_machine.specs.Holdings.{said_at, said_by}
use Rattle.krl_machine.proofs.Holdings.{slot_holding, said_each, speaks_at}
use Rattle.krl_machine.specs.Links as links
use Rattle.krl_machine.proofs.Refines as refines
use Rattle.krl_refinement.proofs.Server.Meaning.{range_is, key_is}
use Rattle.krl_refinement.proofs.Server.Follows.{Goes, steps_then, not_recovering, put_client}
use Rattle.krl_refinement.proofs.Server.Pushes.{pushes_on, acknowledges_steps, acknowledges_shows}

-- the row of a link is that of the client's column
pub row_shows : (s : Server) (i : IsSound s) (c : ℕ) (l : Link) → LinkShows s c l → (view s).phase ≡ links.Serving → refines.Shows (view s) l (column s.rows c)
row_shows s i c l k serving = record {
  range = λ q. k.range serving q ∙ range_is s.durable.index s.durable.epoch (view s).phase i.near s.rows c q;
  key = λ q. k.key serving q ∙ key_is s.durable.index s.durable.epoch (view s).phase i.near s.rows c q;
}

entry_shown : (o : Option Value) (k : KeyPart) → 1 ≤ rank k → o ≡ shown k o
entry_shown o key.N h = absurd (omega (arith, h))
entry_shown o key.S h = refl
entry_shown o key.U h = refl
entry_shown o key.X h = refl

-- what the client holds on slots is what a push may state
module _ (s : Server) (i : IsSound s) (c : ℕ) (l : Link) (k : LinkShows s c l) (serving : (view s).phase ≡ links.Serving) where
  each_says : (ns : List ℕ) → AllByRecursion (λ n. (n ≤ END) × IsSlot (view s) n) ns → AllByRecursion (λ h. (q : ℕ) → h.span.lo ≤ q → q < h.span.hi → MaySay (view s) l q (said_at h q)) (holdings s c ns)
  each_says [] slots = tt
  each_says (n ∷ ns) slots = (
    slot_holding (view s) l (column s.rows c) i.near (row_shows s i c l k serving) n slots.0.1 (holding s n c) refl refl
        (λ q low up. (span_here s.durable.index i.near n q slots.0.0).1 (low, omega (arith, up)))
        (λ far r. entry_shown (map.get s.durable.index n) (key_of (mode_at s.rows n c)) r),
    each_says ns slots.1,
  )

  pub holdings_say : (ns : List ℕ) → AllByRecursion (λ n. (n ≤ END) × IsSlot (view s) n) ns → (q : ℕ) (t : links.Said) → said_by (holdings s c ns) q ≡ Some t → MaySay (view s) l q t
  holdings_say ns slots = said_each (MaySay (view s) l) (holdings s c ns) (each_says ns slots)

key_same : (op : WriteOp) → links.op_key (op_of op) ≡ op_key op
key_same (write.Insert k v) = refl
key_same (write.Put k v) = refl
key_same (write.Delete k) = refl

-- the server's answer to a write, if the durable record already shows it
pub answers_on : (s : Server) (of : ℕ → Link) (log : List Logged) (cleared : ℕ → Bool) (c : ℕ) (a : Head) (number : ℕ) (op : WriteOp) (o : Outcome) → IsSound s → (view s).phase ≡ links.Serving → (s.sessions c).unacked ≡ None → In (let w : Write = record { head = a; number = number; op = op_of op } in w) (of c).writes → In a (of c).heads → a.inc ≡ (of c).reg → a.epoch ≡ s.durable.epoch → (of c).left ≡ false → number ≡ (of c).done → 1 ≤ number → is_applied o ≡ (of c).applied → op_key op < END → Shows s of → Goes s of log cleared (tells_outcome s c number op o) log
answers_on s of log cleared c a number op o i serving free at head inc epoch left last some applied under h =
    let n = slot_of s.durable.index (op_key op) in
    let w : Write = record { head = a; number = number; op = op_of op } in
    let spec = slot_here s.durable.index i.near (op_key op) (omega (arith, under)) in
    let high = slot_high s.durable.index i.near (op_key op) (omega (arith, under)) in
    let key = key_same op in
    let in_span = (span_here s.durable.index i.near n (op_key op) high).0 spec.1 in
    pushes_on s of log cleared c (push.Answer number o (holding s n c)) serving i.begun some (a, head, inc, epoch, left) free
    (record {
      says = holdings_say s i c (of c) (h.link c) serving (n ∷ []) ((high, spec.0), tt);
      answer = inr (record { write = w; sent = at; inc = inc; number = last; answers = last; applied = applied; speaks = speaks_at (holding s n c ∷ []) (holding s n c) (inl refl) (links.op_key (op_of op)) (omega (arith, key, in_span)) (omega (arith, key, in_span)) });
    })
    h

pub answers_again : (s : Server) (of : ℕ → Link) (log : List Logged) (cleared : ℕ → Bool) (c : ℕ) (a : Head) (number : ℕ) (op : WriteOp) (o : Outcome) → IsSound s → In (let w : Write = record { head = a; number = number; op = op_of op } in w) (of c).writes → In a (of c).heads → Passes (view s) (of c) a → number ≡ (of c).done → 1 ≤ number → is_applied o ≡ (of c).applied → op_key op < END → Shows s of → Goes s of log cleared (tells_outcome (acknowledged s c) c number op o) log
answers_again s of log cleared c a number op o i at head ok last some applied under h =
    let l : Link = record (of c) { acked = true } in
    let ch = put_changed of c l in
    steps_then s (acknowledged s c) of (put of c l) log log log cleared _ (pushes_serve (acknowledged s c) c _ (not_recovering s.missing ok.serving)) (put_client of c l refl) (acknowledges_steps s of log c a head ok)
    (answers_on (acknowledged s c) (put of c l) log cleared c a number op o (acknowledged_sound s c i) ok.serving (ap (λ x. x.unacked) (session_here s.sessions c (record (s.sessions c) { unacked = None })))
    (subst (λ x. In (let w : Write = record { head = a; number = number; op = op_of op } in w) x.writes) (sym ch.here) at) (subst (λ x. In a x.heads) (sym ch.here) head) (ok.inc ∙ sym (ap (λ x. x.reg) ch.here)) ok.epoch (ap (λ x. x.left) ch.here ∙ ok.here) (last ∙ sym (ap (λ x. x.done) ch.here)) some (applied ∙ sym (ap (λ x. x.applied) ch.here)) under
    (acknowledges_shows s of c h))
