-- What the machine promises of writes holds in each world that shows in it.
use Rattle.krl_world.proofs.Names.{◌≡◌, ◌≢◌, ℕ, ◌∙◌, false, cond, Option, Some, None, List, [], ◌∷◌, ◌++◌, ◌⊎◌, inl, inr, refl, sym, ap, subst, ⊎_elim}
use Rattle.krl_world.proofs.Names.{nat_cmp_total, Value, Outcome, WriteOp, In, in_both, Op, Link, Logged, entry_after, Index, written, op_of, is_applied, AppliedWrite, State, index_of, IsListed}
use Rattle.krl_world.proofs.Names.{IsOnce, replayed, IsDue, AreDue, WritesOnce, Message}
use Rattle.krl_world.specs.Promises.{AsksFor, asks, TellsOutcome, tells}
use Rattle.std.specs.Cmp.{unsigned_tied}
use Rattle.std.specs.FinMap as map
use Rattle.krl_messages.specs.declared.outcome.Outcome.TheVariants as outcome
use Rattle.krl_messages.specs.declared.write_op.WriteOp.TheVariants as write
use Rattle.krl_machine.specs.Links as links
use Rattle.krl_machine.specs.Worlds as machine
use Rattle.krl_world.proofs.Refinement.Mirrors.{machine_of, op_back, as_applied, oldest_first, Mirrors}
use Rattle.krl_world.proofs.Refinement.Openings.{first_of}
use Rattle.krl_world.proofs.Promises.CompatibilityAndScans.{index_is}
use Rattle.krl_world.proofs.Refinement.Serves.{back_of}

-- The two lists

in_snoc : (x : AppliedWrite) (xs : List AppliedWrite) (y : AppliedWrite) → In x xs ⊎ (x ≡ y) → In x (xs ++ (y ∷ []))
in_snoc x [] y (inl h) = absurd h
in_snoc x [] y (inr e) = inl e
in_snoc x (z ∷ xs) y (inl (inl e)) = inl e
in_snoc x (z ∷ xs) y (inl (inr h)) = inr (in_snoc x xs y (inl h))
in_snoc x (z ∷ xs) y (inr e) = inr (in_snoc x xs y (inr e))

-- an entry of the list is one of the machine's
record IsOf (es : List Logged) (x : AppliedWrite) : Type 0 where
  entry : Logged
  at : In entry es
  same : x ≡ as_applied entry

of_log : (es : List Logged) (x : AppliedWrite) → In x (oldest_first es) → IsOf es x
of_log [] x h = absurd h
of_log (e ∷ es) x h = ⊎_elim
    (λ (i : In x (oldest_first es)). let r = of_log es x i in record { entry = r.entry; at = inr r.at; same = r.same })
    (λ (i : In x (as_applied e ∷ [])). ⊎_elim (λ (s : x ≡ as_applied e). record { entry = e; at = inl refl; same = s }) (λ (n : ⊥). absurd n) i)
    (in_both (oldest_first es) (as_applied e ∷ []) x h)

to_log : (es : List Logged) (e : Logged) → In e es → In (as_applied e) (oldest_first es)
to_log [] e h = absurd h
to_log (d ∷ es) e (inl s) = in_snoc (as_applied e) (oldest_first es) (as_applied d) (inr (ap as_applied s))
to_log (d ∷ es) e (inr h) = in_snoc (as_applied e) (oldest_first es) (as_applied d) (inl (to_log es e h))

listed_is : (w : State) (of : ℕ → Link) (log : List Logged) (c inc number : ℕ) → Mirrors w of log → machine.IsListed (machine_of w.server of log) c inc number → IsListed w.writes c inc number
listed_is w of log c inc number m l = (as_applied l.0, subst (λ xs. In (as_applied l.0) xs) (sym m.writes) (to_log log l.0 l.1), l.2, l.3, l.4)

is_listed : (w : State) (of : ℕ → Link) (log : List Logged) (c inc number : ℕ) → Mirrors w of log → IsListed w.writes c inc number → machine.IsListed (machine_of w.server of log) c inc number
is_listed w of log c inc number m l = let r = of_log log l.0 (subst (λ xs. In l.0 xs) m.writes l.1) in let s = r.same in
    (r.entry, r.at, cc (l.2, ap (λ (d : AppliedWrite). d.client) s), cc (l.3, ap (λ (d : AppliedWrite). d.incarnation) s), cc (l.4, ap (λ (d : AppliedWrite). d.number) s))

-- Each once

once_snoc : (xs : List AppliedWrite) (y : AppliedWrite) → IsOnce xs → ((x : AppliedWrite) → In x xs → x.client ≡ y.client → x.incarnation ≡ y.incarnation → x.number ≡ y.number → ⊥) → IsOnce (xs ++ (y ∷ []))
once_snoc [] y h n = ((λ l. absurd l.1), tt)
once_snoc (x ∷ xs) y h n = (
  (λ l. ⊎_elim (λ (i : In l.0 xs). h.0 (l.0, i, l.2, l.3, l.4)) (λ (i : In l.0 (y ∷ [])). ⊎_elim (λ (s : l.0 ≡ y). let f = l.2 in let g = l.3 in let k = l.4 in n x (inl refl) (cc) (cc) (cc)) (λ (z : ⊥). absurd z) i) (in_both xs (y ∷ []) l.0 l.1)),
  once_snoc xs y h.1 (λ z i. n z (inr i)),
)

once_is : (es : List Logged) → machine.IsOnce es → IsOnce (oldest_first es)
once_is [] h = tt
once_is (e ∷ es) h = once_snoc (oldest_first es) (as_applied e) (once_is es h.1)
    (λ x i c n m. let r = of_log es x i in let s = r.same in h.0 r.entry r.at (cc (c, ap (λ (d : AppliedWrite). d.client) s)) (cc (n, ap (λ (d : AppliedWrite). d.incarnation) s)) (cc (m, ap (λ (d : AppliedWrite). d.number) s)))

-- The index is what they make of the first one

-- a write makes of a map what the machine makes of its look-ups
written_at : (m : Index) (x : WriteOp) (q : ℕ) → map.get (written m x) q ≡ entry_after (op_of x) (map.get m q) q
written_at m (write.Insert k v) q = map.get-insert nat_cmp_total m k v q ∙ ap (λ b. cond b (Some v) (map.get m q)) (unsigned_tied q k)
written_at m (write.Put k v) q = map.get-insert nat_cmp_total m k v q ∙ ap (λ b. cond b (Some v) (map.get m q)) (unsigned_tied q k)
written_at m (write.Delete k) q = map.get-remove nat_cmp_total m k q ∙ ap (λ b. cond b None (map.get m q)) (unsigned_tied q k)

there_and_back : (x : Op) → op_of (op_back x) ≡ x
there_and_back (links.Insert k v) = refl
there_and_back (links.Put k v) = refl
there_and_back (links.Delete k) = refl

replayed_snoc : (m : Index) (xs : List AppliedWrite) (y : AppliedWrite) → replayed m (xs ++ (y ∷ [])) ≡ written (replayed m xs) y.op
replayed_snoc m [] y = refl
replayed_snoc m (x ∷ xs) y = replayed_snoc (written m x.op) xs y

replayed_is : (m : Index) (es : List Logged) (q : ℕ) → map.get (replayed m (oldest_first es)) q ≡ machine.replay (map.get m) es q
replayed_is m [] q = refl
replayed_is m (e ∷ es) q =
    ap (λ (n : Index). map.get n q) (replayed_snoc m (oldest_first es) (as_applied e))
    ∙ written_at (replayed m (oldest_first es)) (op_back e.wrote.op) q
    ∙ ap (λ x. entry_after x (map.get (replayed m (oldest_first es)) q) q) (there_and_back e.wrote.op)
    ∙ ap (λ o. entry_after e.wrote.op o q) (replayed_is m es q)

-- Each was due

due_same : (x : Op) (m : Index) (f : ℕ → Option Value) → ((q : ℕ) → f q ≡ map.get m q) → machine.IsDue x f → IsDue (op_back x) m
due_same (links.Insert k v) m f h d = sym (h k) ∙ d
due_same (links.Put k v) m f h d = (d.0, sym (h k) ∙ d.1)
due_same (links.Delete k) m f h d = (d.0, sym (h k) ∙ d.1)

due_snoc : (m : Index) (xs : List AppliedWrite) (y : AppliedWrite) → AreDue m xs → IsDue y.op (replayed m xs) → AreDue m (xs ++ (y ∷ []))
due_snoc m [] y h d = (d, tt)
due_snoc m (x ∷ xs) y h d = (h.0, due_snoc (written m x.op) xs y h.1 d)

due_is : (m : Index) (es : List Logged) → machine.IsProper (map.get m) es → AreDue m (oldest_first es)
due_is m [] h = tt
due_is m (e ∷ es) h = due_snoc m (oldest_first es) (as_applied e) (due_is m es h.1) (due_same e.wrote.op (replayed m (oldest_first es)) (machine.replay (map.get m) es) (λ q. sym (replayed_is m es q)) h.0)

-- What was asked and answered

or_applied : (o : Outcome) → (is_applied o ≡ false → ⊥) → o ≡ outcome.Applied
or_applied outcome.Applied n = refl
or_applied outcome.Exists n = absurd (n refl)
or_applied outcome.Absent n = absurd (n refl)
or_applied outcome.NotHeld n = absurd (n refl)
or_applied outcome.Full n = absurd (n refl)

module _ (w : State) (of : ℕ → Link) (log : List Logged) (m : Mirrors w of log) (h : machine.WritesOnce (first_of w.opening) (machine_of w.server of log)) where
  as_asked : (x : AppliedWrite) (op : WriteOp) (d : Message) → In x w.writes → In d w.sent → AsksFor x.client x.incarnation x.number op d → x.op ≡ op
  as_asked x op _ i j (asks epoch seen seizes) = let r = of_log log x (subst (λ xs. In x xs) m.writes i) in let s = r.same in
      let at = m.from _ j in
      let at' = subst (λ c. In (record { head = record { inc = x.incarnation; epoch = epoch; seen = seen }; number = x.number; op = op_of op }) (of c).writes) (ap (λ (d : AppliedWrite). d.client) s) at.1 in
      let e : op_of op ≡ r.entry.wrote.op = h.same r.entry r.at _ at' (ap (λ (d : AppliedWrite). d.incarnation) s) (ap (λ (d : AppliedWrite). d.number) s) in
      ap (λ (d : AppliedWrite). d.op) s ∙ ap op_back (sym e) ∙ back_of op

  as_told : (c inc number : ℕ) (o : Outcome) (d : Message) → In d w.sent → TellsOutcome c inc number o d → (o ≡ outcome.Applied → IsListed w.writes c inc number) × (IsListed w.writes c inc number → o ≡ outcome.Applied)
  as_told c inc number o _ i (tells epoch n x) = let p = m.to _ i in (
    (λ e. listed_is w of log c inc number m (h.told c _ p.0 p.2 (ap is_applied e))),
    (λ l. or_applied o (λ ne. h.told_not c _ p.0 p.2 ne (is_listed w of log c inc number m l))),
  )

  pub writes_world : WritesOnce w
  writes_world = record {
    at_most_once = subst IsOnce (sym m.writes) (once_is log h.once);
    index = subst (λ xs. replayed w.opening.index xs ≡ index_of w) (sym m.writes)
        (map.same_map nat_cmp_total map.nat_cmp-IsAntisymmetric _ _ (λ q. replayed_is w.opening.index log q ∙ h.fold q ∙ index_is w.server q));
    each_due = subst (AreDue w.opening.index) (sym m.writes) (due_is w.opening.index log h.proper);
    operation = as_asked;
    told = as_told;
  }
