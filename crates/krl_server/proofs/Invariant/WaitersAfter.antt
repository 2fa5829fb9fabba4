-- Who waits after a case, and how many.
use Rattle.krl_server.proofs.Names.{◌≡◌, ℕ, ◌<◌, Bool, true, false, ◌⊎◌, inl, inr, refl, ap, subst, ⊎_elim, if◌then◌else◌, ToServer, Outcome, WriteOp, Waiter, op_key, END, In, slot_of, is_slot, Row}
use Rattle.krl_server.proofs.Names.{max_clients, with_mode, with_queue, queue_with, in_unqueue, in_queue_with, Server, Case, Ignored, Registers, Leaves, Tells, Alarms, Rebuilds, Repeats}
use Rattle.krl_server.proofs.Names.{Acknowledges, Lowers, Waits, Judges, SeizesLock, AnswersAgain, lock_for, seizes, case_of, judged, acknowledged, writes, rows_after, holding, effect, IsSound}
use Rattle.krl_messages.specs.declared.to_client.PushBody.TheVariants as push
use Rattle.krl_messages.specs.declared.outcome.Outcome.TheVariants as outcome
use Rattle.krl_server.proofs.Tests.{if_both}
use Rattle.krl_server.proofs.Cased.{by_case}
use Rattle.krl_server.proofs.Turns.{in_row}
use Rattle.krl_server.proofs.Grants.{raised_queue}
use Rattle.krl_server.proofs.Invariant.WritesSound.{lasts}
use Rattle.krl_server.proofs.Invariant.SeizesSound.{take_is, take_judged, takes_sound}
use Rattle.krl_server.proofs.Outputs.Ends.{pushes_rows}

-- the case takes a lock request
abbrev pub asks : Case → Bool
asks Ignored = false
asks Registers = false
asks Leaves = false
asks Tells = false
asks Alarms = false
asks (Rebuilds pieces) = false
asks (Repeats body) = false
asks Acknowledges = false
asks (Lowers span keep) = false
asks (Waits req point hi g) = true
asks (Judges number op o) = false
asks (SeizesLock number op) = false
asks (AnswersAgain number op o) = false

-- the waiter asks by this case
abbrev pub IsAsked : ToServer → Waiter → Case → Type 0
IsAsked m u (Waits req point hi g) = u ≡ record { client = m.client; req = req; point = point; hi = hi; mode = g }
IsAsked m u other = ⊥

-- a client that waits after the case waited before, or has asked by it
abbrev pub Came : Server → ToServer → Case → Type 0
Came s m k = (n : ℕ) (u : Waiter) → In u ((effect s m k).server.rows n).queue → ((j : ℕ) × In u (s.rows j).queue) ⊎ ((asks k ≡ true) × (u.client ≡ m.client) × IsAsked m u k)

kept_queue : (b : Bool) (r x : Row) → x.queue ≡ r.queue → (if b then x else r).queue ≡ r.queue
kept_queue true r x e = e
kept_queue false r x e = refl

module _ (s : Server) (m : ToServer) (sound : IsSound s) where
  came_written : (op : WriteOp) (o : Outcome) → m.client < max_clients → op_key op < END → judged s m.client op ≡ o → (n : ℕ) (u : Waiter) → In u (rows_after s.durable.index s.rows m.client op o n).queue → (j : ℕ) × In u (s.rows j).queue
  came_written op outcome.Applied own under e n u at = (lasts s m.client op sound own under e).from n u at
  came_written op outcome.Exists own under e n u at = (n, at)
  came_written op outcome.Absent own under e n u at = (n, at)
  came_written op outcome.NotHeld own under e n u at = (n, at)
  came_written op outcome.Full own under e n u at = (n, at)

  pub all_came : Came s m (case_of s m)
  all_came = let t = acknowledged s m.client in by_case s m (Came s m)
      (record {
        ignored = λ n u at. inl (n, at);
        registers = λ near newer body n u at. inl (n, (in_unqueue (s.rows n).queue m.client u at).0);
        leaves = λ r from n u at. inl (n, (in_unqueue (s.rows n).queue m.client u at).0);
        tells = λ n u at. inl (n, at);
        alarms = λ n u at. inl (n, at);
        rebuilds = λ r epoch pieces from now missing fine n u at. inl (n, subst (In u) (kept_queue (is_slot s.durable.index n) (s.rows n) (with_mode (s.rows n) m.client (Rattle.krl_table.specs.Reports.rebuilt s.durable.index pieces n)) refl) at);
        repeats = λ r body served unacked n u at. inl (n, at);
        acknowledges = λ r served n u at. inl (n, at);
        lowers = λ r span keep served n u at. inl (n, subst (In u) (if_both (λ (x : Row). x.queue ≡ (s.rows n).queue) _ _ _ refl refl) at);
        waits = λ r req point hi g served new free near n u at. ⊎_elim
            (λ (x : (n ≡ slot_of s.durable.index point) × In u (queue_with (s.rows (slot_of s.durable.index point)) (let w : Waiter = record { client = m.client; req = req; point = point; hi = hi; mode = g } in w))). ⊎_elim
            (λ (e : u ≡ (let w : Waiter = record { client = m.client; req = req; point = point; hi = hi; mode = g } in w)). inr (refl, ap (λ w. w.client) e, e))
            (λ (old : In u (s.rows (slot_of s.durable.index point)).queue). inl (slot_of s.durable.index point, old))
            (in_queue_with (s.rows (slot_of s.durable.index point)) (record { client = m.client; req = req; point = point; hi = hi; mode = g }) u x.1))
            (λ (old : In u (s.rows n).queue). inl (n, old))
            (in_row s.rows (slot_of s.durable.index point) (with_queue (s.rows (slot_of s.durable.index point)) (queue_with (s.rows (slot_of s.durable.index point)) (record { client = m.client; req = req; point = point; hi = hi; mode = g }))) n u at);
        judges = λ r number op o served under near new is n u at. let x = writes t m.client op o in
            inl (came_written op o served.from.client under is n u (subst (λ rows. In u (rows n).queue) (pushes_rows x m.client (push.Answer number o (holding x (slot_of x.durable.index (op_key op)) m.client))) at));
        seizes = λ r number op served under near new may n u at.
            let x = seizes s m.client op in
            let y = writes (acknowledged x m.client) m.client op outcome.Applied in
            let old = (lasts x m.client op (takes_sound s m.client op sound served.from.client) served.from.client under (take_judged s m.client op sound under (take_is s m.client op may))).from n u
            (subst (λ rows. In u (rows n).queue) (pushes_rows y m.client (push.Answer number outcome.Applied (holding y (slot_of y.durable.index (op_key op)) m.client))) at) in
            inl (old.0, subst (In u) (raised_queue s.rows (slot_of s.durable.index (op_key op)) (lock_for m.client op) old.0) old.1);
        answers_again = λ r number op o served under some last is n u at.
            inl (n, subst (λ rows. In u (rows n).queue) (pushes_rows t m.client (push.Answer number o (holding t (slot_of t.durable.index (op_key op)) m.client))) at);
      })
