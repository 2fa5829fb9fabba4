-- Each write is done once, over cuts too.
-- A part has the record of a client's last judged write also if the write was of another part's key: then no Write
-- message of that number is known here. So what the record says is claimed only of a write that was sent here.
use Rattle.krl_split.proofs.Names.{◌≡◌, ◌≢◌, ℕ, ◌≤◌, ◌<◌, Option, Some, None, List, [], ◌∷◌, inl, inr, refl, sym, ap, subst, ◌∙◌, arith, Value, In}
use Rattle.krl_split.proofs.Names.{none-some, same_Some, Op, Insert, Put, Delete, op_key, Wrote, Link}
use Rattle.krl_split.proofs.Names.{Logged, World}
use Rattle.krl_split.proofs.Names.{IsOnce, entry_after, replay, IsDue, IsProper}
use Rattle.krl_machine.proofs.Writes.{Wrotes, History, history_kept, write_at, wrotes_blank}
use Rattle.krl_split.specs.Parts.{choose, those, index_part, settle, settled, link_part, part, Parted, whole, moved, cut_out}
use Rattle.krl_split.proofs.Clips.{Out, where_is, choose_in, choose_out, of_those, in_those}
use Rattle.krl_split.proofs.Cut.{parted_inv}

-- A cut

-- a part of the list is once
once_part : (lo hi : ℕ) (es : List Logged) → IsOnce es → IsOnce (those lo hi (λ e. op_key e.wrote.op) es)
once_part lo hi [] h = tt
once_part lo hi (e ∷ es) h = where_is lo hi (op_key e.wrote.op)
    (λ a b. subst IsOnce (sym (choose_in lo hi (op_key e.wrote.op) (e ∷ those lo hi (λ x. op_key x.wrote.op) es) (those lo hi (λ x. op_key x.wrote.op) es) a b))
    (λ f at. h.0 f (of_those lo hi (λ x. op_key x.wrote.op) es f at).0, once_part lo hi es h.1))
    (λ out. subst IsOnce (sym (choose_out lo hi (op_key e.wrote.op) (e ∷ those lo hi (λ x. op_key x.wrote.op) es) (those lo hi (λ x. op_key x.wrote.op) es) out)) (once_part lo hi es h.1))

-- what a write makes of the part of an index is the part of what it makes of the index
entry_none : (op : Op) (q : ℕ) → op_key op ≢ q → entry_after op None q ≡ None
entry_none op q ne = write_at op None q ne

replay_part : (lo hi : ℕ) (index : ℕ → Option Value) (es : List Logged) (q : ℕ) → replay (index_part lo hi index) (those lo hi (λ e. op_key e.wrote.op) es) q ≡ index_part lo hi (replay index es) q
replay_part lo hi index [] q = refl
replay_part lo hi index (e ∷ es) q = where_is lo hi (op_key e.wrote.op)
    (λ a b. ap (λ xs. replay (index_part lo hi index) xs q) (choose_in lo hi (op_key e.wrote.op) (e ∷ those lo hi (λ x. op_key x.wrote.op) es) (those lo hi (λ x. op_key x.wrote.op) es) a b)
    ∙ ap (λ o. entry_after e.wrote.op o q) (replay_part lo hi index es q)
    ∙ where_is lo hi q
    (λ c d. ap (λ o. entry_after e.wrote.op o q) (choose_in lo hi q (replay index es q) None c d) ∙ sym (choose_in lo hi q (entry_after e.wrote.op (replay index es q) q) None c d))
    (λ out. ap (λ o. entry_after e.wrote.op o q) (choose_out lo hi q (replay index es q) None out) ∙ entry_none e.wrote.op q (λ x. apart (op_key e.wrote.op) a b (subst (Out lo hi) (sym x) out)) ∙ sym (choose_out lo hi q (entry_after e.wrote.op (replay index es q) q) None out)))
    (λ out. ap (λ xs. replay (index_part lo hi index) xs q) (choose_out lo hi (op_key e.wrote.op) (e ∷ those lo hi (λ x. op_key x.wrote.op) es) (those lo hi (λ x. op_key x.wrote.op) es) out)
    ∙ replay_part lo hi index es q
    ∙ where_is lo hi q
    (λ c d. choose_in lo hi q (replay index es q) None c d ∙ sym (write_at e.wrote.op (replay index es q) q (λ x. apart q c d (subst (Out lo hi) x out))) ∙ sym (choose_in lo hi q (entry_after e.wrote.op (replay index es q) q) None c d))
    (λ o. choose_out lo hi q (replay index es q) None o ∙ sym (choose_out lo hi q (entry_after e.wrote.op (replay index es q) q) None o)))
  where
    apart : (p : ℕ) → lo ≤ p → p < hi → Out lo hi p → ⊥
    apart p a b (inl x) = omega (arith, a, x)
    apart p a b (inr x) = omega (arith, b, x)

due_part : (lo hi : ℕ) (op : Op) (old : ℕ → Option Value) → lo ≤ op_key op → op_key op < hi → IsDue op old → IsDue op (index_part lo hi old)
due_part lo hi (Insert k v) old a b h = choose_in lo hi k (old k) None a b ∙ h
due_part lo hi (Put k v) old a b h = (h.0, choose_in lo hi k (old k) None a b ∙ h.1)
due_part lo hi (Delete k) old a b h = (h.0, choose_in lo hi k (old k) None a b ∙ h.1)

due_same : (op : Op) (old new : ℕ → Option Value) → ((q : ℕ) → new q ≡ old q) → IsDue op old → IsDue op new
due_same (Insert k v) old new e h = e k ∙ h
due_same (Put k v) old new e h = (h.0, e k ∙ h.1)
due_same (Delete k) old new e h = (h.0, e k ∙ h.1)

proper_part : (lo hi : ℕ) (index : ℕ → Option Value) (es : List Logged) → IsProper index es → IsProper (index_part lo hi index) (those lo hi (λ e. op_key e.wrote.op) es)
proper_part lo hi index [] h = tt
proper_part lo hi index (e ∷ es) h = where_is lo hi (op_key e.wrote.op)
    (λ a b. subst (IsProper (index_part lo hi index)) (sym (choose_in lo hi (op_key e.wrote.op) (e ∷ those lo hi (λ x. op_key x.wrote.op) es) (those lo hi (λ x. op_key x.wrote.op) es) a b))
    (due_same e.wrote.op (index_part lo hi (replay index es)) (replay (index_part lo hi index) (those lo hi (λ x. op_key x.wrote.op) es)) (replay_part lo hi index es) (due_part lo hi e.wrote.op (replay index es) a b h.0), proper_part lo hi index es h.1))
    (λ out. subst (IsProper (index_part lo hi index)) (sym (choose_out lo hi (op_key e.wrote.op) (e ∷ those lo hi (λ x. op_key x.wrote.op) es) (those lo hi (λ x. op_key x.wrote.op) es) out)) (proper_part lo hi index es h.1))

-- what settles keeps its writes, and an outstanding one is of the part
out_settled : (l : Link) (lo hi : ℕ) (o : Option Op) → l.out ≡ o → (op : Op) → (settle lo hi o l.client).out ≡ Some op → (l.out ≡ Some op) × ((settle lo hi o l.client).inc ≡ l.inc) × ((settle lo hi o l.client).issued ≡ l.issued) × (lo ≤ op_key op) × (op_key op < hi)
out_settled l lo hi None e op f = absurd (none-some op (sym e ∙ f))
out_settled l lo hi (Some x) e op f = where_is lo hi (op_key x)
    (λ a b. let same = choose_in lo hi (op_key x) l.client _ a b in
    let is : l.out ≡ Some op = sym (ap (λ c. c.out) same) ∙ f in
    let g : x ≡ op = same_Some x op (sym e ∙ is) in
    (is, ap (λ c. c.inc) same, ap (λ c. c.issued) same, subst (λ z. lo ≤ op_key z) g a, subst (λ z. op_key z < hi) g b))
    (λ out. absurd (none-some op (sym (ap (λ c. c.out) (choose_out lo hi (op_key x) l.client _ out)) ∙ f)))

wrotes_part : (lo hi end : ℕ) (l : Link) → Wrotes l → Wrotes (link_part lo hi end (settled lo hi l))
wrotes_part lo hi end l w = record {
  low = λ e at. w.low e (old e at).0;
  did = λ a b m at x y.
      let z = of_those lo hi (λ n. op_key n.op) l.writes m at in
      let d = w.did a b m z.0 x y in
      let t = w.sent d.0 d.1 in
      let g : m.op ≡ d.0.op = w.same m t.0 z.0 t.1 (x ∙ sym d.2 ∙ sym t.2) (y ∙ sym d.3 ∙ sym t.3) ∙ t.4 in
      (d.0, in_those lo hi (λ n. op_key n.op) l.wrote d.0 d.1 (subst (λ u. lo ≤ op_key u) g z.1) (subst (λ u. op_key u < hi) g z.2), d.2, d.3);
  did_not = λ a e at. w.did_not a e (old e at).0;
  told = λ p at. absurd at;
  told_not = λ p at. absurd at;
  sent = λ e at. let z = old e at in let t = w.sent e z.0 in
      (t.0, in_those lo hi (λ n. op_key n.op) l.writes t.0 t.1 (subst (λ u. lo ≤ op_key u) (sym t.4) z.1) (subst (λ u. op_key u < hi) (sym t.4) z.2), t.2, t.3, t.4);
  same = λ m n a b. w.same m n (of_those lo hi (λ x. op_key x.op) l.writes m a).0 (of_those lo hi (λ x. op_key x.op) l.writes n b).0;
  sent_out = λ op e.
      let z = out_settled l lo hi l.out refl op e in
      let t = w.sent_out op z.0 in
      (t.0, in_those lo hi (λ n. op_key n.op) l.writes t.0 t.1 (subst (λ u. lo ≤ op_key u) (sym t.4) z.3) (subst (λ u. op_key u < hi) (sym t.4) z.4), t.2 ∙ sym z.1, t.3 ∙ sym z.2, t.4);
}
  where
    old : (e : Wrote) → In e (those lo hi (λ x. op_key x.op) l.wrote) → In e l.wrote × (lo ≤ op_key e.op) × (op_key e.op < hi)
    old e at = of_those lo hi (λ x. op_key x.op) l.wrote e at

history_part : (index : ℕ → Option Value) (w : World) (lo hi : ℕ) → History index w → History (index_part lo hi index) (part lo hi w)
history_part index w lo hi h = record {
  each = λ c. wrotes_part lo hi w.shared.end (w.links c) (h.each c);
  listed = λ e at. let z = of_those lo hi (λ x. op_key x.wrote.op) w.log e at in in_those lo hi (λ x. op_key x.op) (w.links e.client).wrote e.wrote (h.listed e z.0) z.1 z.2;
  all = λ c x at. let z = of_those lo hi (λ y. op_key y.op) (w.links c).wrote x at in in_those lo hi (λ y. op_key y.wrote.op) w.log (record { client = c; wrote = x }) (h.all c x z.0) z.1 z.2;
  once = once_part lo hi w.log h.once;
  fold = λ q. replay_part lo hi index w.log q ∙ ap (λ o. choose lo hi q o None) (h.fold q);
  proper = proper_part lo hi index w.log h.proper;
}

pub parted_history : (end : ℕ) (index : ℕ → Option Value) (lo hi : ℕ) (w : World) → Parted end index lo hi w → History index w
parted_history end index lo hi w (whole i0) = record { each = λ c. wrotes_blank; listed = λ e at. absurd at; all = λ c x at. absurd at; once = tt; fold = λ q. refl; proper = tt }
parted_history end index lo hi w (moved i0 l0 h0 u v p step) = history_kept index u v step (parted_inv end index lo hi u p) (parted_history end index lo hi u p)
parted_history end index lo hi w (cut_out index0 lo0 hi0 from to u p down low some high) = history_part index0 u from to (parted_history end index0 lo0 hi0 u p)
