-- A new write that is not Applied; and the record of a client after any new write.
use Rattle.krl_refinement.proofs.Names.{◌≡◌, ◌≢◌, ℕ, suc, ◌<◌, Bool, true, false, Some, None, List, refl, sym, ap, subst, ◌∙◌, arith, none-some, same_Some, END, WriteOp, Outcome, op_key, is_applied}
use Rattle.krl_refinement.proofs.Names.{In, Record, Register, record_of, with_record, range_at, key_at, Head, Write, Shared, Link, Passes, next, idle, takes_head, refuses, Logged, put, put_changed}
use Rattle.krl_refinement.proofs.Names.{heard_kept, link_steps, Session, Server, lists, set_session, acknowledged, writes, tells_outcome, IsSound, session_here, record_here, record_other, pushes_serve}
use Rattle.krl_refinement.proofs.Names.{op_of, IsRecord, LinkIs, Shows, view}
use Rattle.krl_durable.specs.Writes.{noted, applied}
use Rattle.krl_server.proofs.Invariant.WritesSound.{with_noted, refusal_is}
use Rattle.krl_refinement.proofs.Server.Follows.{Goes, steps_then, not_recovering, put_client, put_shows, session_rest}
use Rattle.krl_refinement.proofs.Server.Judged.{answers_on}

-- the client's record after a new write
pub noted_known : (es : Register) (c : ℕ) (o : Outcome) (r : Record) (l m : Link) → IsRecord (Some r) l → m.reg ≡ l.reg → m.left ≡ l.left → m.done ≡ suc l.done → m.applied ≡ is_applied o → IsRecord (record_of (with_record es c (noted r o)) c) m
noted_known es c o r l m k reg left done applied =
    subst (λ x. IsRecord x m) (sym (record_here es c (noted r o)))
    (record { reg = reg ∙ k.reg; left = left ∙ k.left; done = λ n. done ∙ ap (λ x. suc x) (k.done n); applied = λ p n e. applied ∙ ap is_applied (same_Some o p e) })

-- the records of the others
pub noted_rest : (s : Shared) (es : Register) (c : ℕ) (x : Record) (d : ℕ) (b : Bool) (session : Session) (r : ℕ → Rattle.krl_modes.specs.declared.part.RangePart.RangePart) (k : ℕ → Rattle.krl_modes.specs.declared.part.KeyPart.KeyPart) (l : Link) → d ≢ c → LinkIs s (record_of es d) b session r k l → LinkIs s (record_of (with_record es c x) d) b session r k l
noted_rest s es c x d b session r k l ne h = subst (λ o. LinkIs s o b session r k l) (sym (record_other es c d x ne)) h

pub refused : (s : Server) (of : ℕ → Link) (log : List Logged) (cleared : ℕ → Bool) (c : ℕ) (a : Head) (number : ℕ) (op : WriteOp) (o : Outcome) (r : Record) → record_of s.durable.register c ≡ Some r → is_applied o ≡ false → IsSound s → In (let w : Write = record { head = a; number = number; op = op_of op } in w) (of c).writes → In a (of c).heads → Passes (view s) (of c) a → number ≡ suc r.last → op_key op < END → Shows s of → Goes s of log cleared (tells_outcome (writes (acknowledged s c) c op o) c number op o) log
refused s of log cleared c a number op o r known not i at head ok num under h =
    let k = h.link c in
    let old : IsRecord (Some r) (of c) = subst (λ x. IsRecord x (of c)) known k.known in
    let session : Session = record (s.sessions c) { unacked = None } in
    let t = with_noted (acknowledged s c) c o r in
    let l1 : Link = record (of c) { acked = true } in
    let l : Link = record l1 { done = suc (of c).done; applied = false } in
    let w : Write = record { head = a; number = number; op = op_of op } in
    let ch = put_changed of c l in
    let passed : Passes (view s) l1 a = record { serving = ok.serving; here = ok.here; inc = ok.inc; epoch = ok.epoch; seen = ok.seen } in
    let next_one : number ≡ suc (of c).done = num ∙ ap (λ x. suc x) (sym (old.done (sym old.left ∙ ok.here))) in
    subst (λ x. Goes s of log cleared (tells_outcome x c number op o) log) (refusal_is (acknowledged s c) c op o r known not)
    (steps_then s t of (put of c l) log log log cleared _ (pushes_serve t c _ (not_recovering s.missing ok.serving)) (put_client of c l refl)
    (link_steps (view s) log c (of c) l of (put of c l) refl (next (takes_head a head ok) (next (refuses w at passed refl next_one) idle)) ch)
    (answers_on t (put of c l) log cleared c a number op o (record { near = i.near; begun = i.begun; strangers = i.strangers; placed = i.placed; clients = i.clients }) ok.serving (ap (λ x. x.unacked) (session_here s.sessions c session))
    (subst (λ x. In w x.writes) (sym ch.here) at) (subst (λ x. In a x.heads) (sym ch.here) head) (ok.inc ∙ sym (ap (λ x. x.reg) ch.here)) ok.epoch (ap (λ x. x.left) ch.here ∙ ok.here) (next_one ∙ sym (ap (λ x. x.done) ch.here)) (omega (arith, num)) (not ∙ sym (ap (λ x. x.applied) ch.here)) under
    (put_shows s t of c l
    (subst (λ y. LinkIs (view s) (record_of (with_record s.durable.register c (noted r o)) c) (lists s.missing c) y (range_at s.durable.index s.rows c) (key_at s.durable.index s.rows c) l) (sym (session_here s.sessions c session))
    (record { known = noted_known s.durable.register c o r (of c) l old refl refl refl (sym not); missing = k.missing; last_push = k.last_push; acked = refl; unacked = λ body e. absurd (none-some body e); range = k.range; key = k.key; new_range = k.new_range; new_key = k.new_key }))
    (λ d ne x. noted_rest (view s) s.durable.register c (noted r o) d (lists s.missing d) (set_session s.sessions c session d) (range_at s.durable.index s.rows d) (key_at s.durable.index s.rows d) (of d) ne (session_rest s c session d (of d) ne x))
    h
    (λ n u v. heard_kept (view s) of (put of c l) c l ch (λ z. z) u.client (h.heard n u v)))))
