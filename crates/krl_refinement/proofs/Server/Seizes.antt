-- A new write that takes the lock that it needs: the row of its client rises, and then the write is applied.
use Rattle.krl_refinement.proofs.Names.{◌≡◌, ◌≢◌, ℕ, suc, ◌<◌, Bool, true, Some, List, refl, sym, subst, ◌∙◌, arith, END, WriteOp, ToServer, op_key, In, range_of, key_of, Record, record_of, slot_of, max_clients}
use Rattle.krl_refinement.proofs.Names.{mode_at, with_mode, wanted, RangeAtMost, KeyAtMost, RangesAgree, KeysAgree, Head, Write, Link, Passes, Logged, WorldInv, world_steps, Server, effect, acknowledged, writes, holding, IsSound, slot_here}
use Rattle.krl_refinement.proofs.Names.{mode_here, mode_other, pushes_serve, op_of, Shows, view, world_of, logged}
use Rattle.krl_messages.specs.declared.outcome.Outcome.TheVariants as outcome
use Rattle.krl_messages.specs.declared.to_client.PushBody.TheVariants as push
use Rattle.krl_server.specs.Cases.{SeizesLock}
use Rattle.krl_server.specs.Effects.{seizes}
use Rattle.krl_server.specs.Seizing.{lock_for, may_seize}
use Rattle.krl_server.proofs.Grants.{raised_queue}
use Rattle.krl_server.proofs.Invariant.SeizesSound.{MaySeize, take_is, take_judged}
use Rattle.krl_refinement.proofs.Server.Follows.{Goes, steps_then, not_recovering}
use Rattle.krl_refinement.proofs.Server.Agreeing.{join_above, compatible_agrees}
use Rattle.krl_refinement.proofs.Server.Turns.{Raises, one_raise}
use Rattle.krl_refinement.proofs.Server.Writes.{writes_follow}

-- the row of the client rises on the slot of the write's key
rises : (s : Server) (of : ℕ → Link) (log : List Logged) (c : ℕ) (a : Head) (op : WriteOp) → IsSound s → WorldInv (world_of s of log) → c < max_clients → In a (of c).heads → Passes (view s) (of c) a → op_key op < END → MaySeize s c op → Shows s of → Raises s of log c (seizes s c op).rows
rises s of log c a op i inv own head ok under t h =
    let n = slot_of s.durable.index (op_key op) in
    let u = lock_for c op in
    one_raise s i c n (with_mode (s.rows n) c (wanted (s.rows n) u)) (slot_here s.durable.index i.near (op_key op) (omega (arith, under))).0
    (λ d ne. mode_other (s.rows n).modes c d (wanted (s.rows n) u) ne)
    (λ m v at. subst (In v) (raised_queue s.rows n u m) at)
    of log own inv ok.serving h (a, head, ok.inc, ok.epoch, ok.here)
    (subst (λ y. RangeAtMost (range_of (mode_at s.rows n c)) (range_of y) × KeyAtMost (key_of (mode_at s.rows n c)) (key_of y)) (sym (mode_here (s.rows n).modes c (wanted (s.rows n) u))) (join_above (mode_at s.rows n c) u.mode))
    (λ d ne. subst (λ y. RangesAgree (range_of y) (range_of (mode_at s.rows n d)) × KeysAgree (key_of y) (key_of (mode_at s.rows n d))) (sym (mode_here (s.rows n).modes c (wanted (s.rows n) u))) (compatible_agrees s.rows n c (wanted (s.rows n) u) (λ e ge. i.strangers n e ge) t.compatible d ne))

-- it is some steps of the machine
pub seizes_follow : (s : Server) (of : ℕ → Link) (log : List Logged) (cleared : ℕ → Bool) (m : ToServer) (a : Head) (number : ℕ) (op : WriteOp) (r : Record) → IsSound s → WorldInv (world_of s of log) → record_of s.durable.register m.client ≡ Some r → m.incarnation ≡ r.incarnation → m.client < max_clients → In (let w : Write = record { head = a; number = number; op = op_of op } in w) (of m.client).writes → In a (of m.client).heads → Passes (view s) (of m.client) a → number ≡ suc r.last → op_key op < END → may_seize s m.client op ≡ true → Shows s of → Goes s of log cleared (effect s m (SeizesLock number op)) (logged m (SeizesLock number op) log)
seizes_follow s of log cleared m a number op r i inv known same own at head ok num under may h =
    let c = m.client in
    let t = seizes s c op in
    let w : Write = record { head = a; number = number; op = op_of op } in
    let can = take_is s c op may in
    let x = rises s of log c a op i inv own head ok under can h in
    let done = writes (acknowledged t c) c op outcome.Applied in
    steps_then s t of x.after log log _ cleared _ (pushes_serve done c (push.Answer number outcome.Applied (holding done (slot_of done.durable.index (op_key op)) c)) (not_recovering s.missing ok.serving)) x.clients x.steps
    (writes_follow t x.after log cleared m a number op r x.sound (world_steps (world_of s of log) (world_of t x.after log) x.steps inv) known same own
    (subst (λ y. In w y.writes) (sym x.here) at) (subst (λ y. In a y.heads) (sym x.here) head)
    (subst (λ y. Passes (view s) y a) (sym x.here) (record { serving = ok.serving; here = ok.here; inc = ok.inc; epoch = ok.epoch; seen = ok.seen }))
    num under (take_judged s c op i under can) x.shows)
