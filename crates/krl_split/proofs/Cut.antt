-- A cut keeps the invariant.
use Rattle.krl_split.proofs.Names.{◌≡◌, ◌≢◌, ℕ, suc, ◌≤◌, ◌<◌, Option, Some, None, refl, sym, ap, subst, ◌∙◌, arith, none-some, same_Some}
use Rattle.krl_split.proofs.Names.{Value, reads, rank, RangeAtMost, KeyAtMost, Down, Recovering, Op, Delete, op_key, Shared, Link, belief, crashes, World, Step}
use Rattle.krl_machine.specs.Links.{Client}
use Rattle.krl_modes.specs.declared.part.RangePart.TheVariants as range
use Rattle.krl_modes.specs.declared.part.KeyPart.TheVariants as key
use Rattle.krl_machine.proofs.Basics.{IsTrueOf, Inv}
use Rattle.krl_machine.proofs.Links.{link_kept}
use Rattle.krl_machine.proofs.Worlds.{WorldInv}
use Rattle.krl_machine.proofs.Runs.{reachable_inv, world_kept}
use Rattle.krl_machine.specs.Worlds.{begun}
use Rattle.krl_split.specs.Parts.{choose, index_part, row_range, row_key, ended, settle, settled, link_part, part, Parted, whole, moved, cut_out, IsInside}
use Rattle.krl_split.proofs.Clips.{Out, where_is, choose_in, choose_out, of_those}
use Rattle.krl_split.proofs.RowParts.{row_in, key_in, row_part, ranges_part, keys_part}

down_recovering : Down ≡ Recovering → ⊥
down_recovering e = absurd (cc)

-- the part of a link
module _ (s : Shared) (l : Link) (lo hi : ℕ) (some : lo < hi) (near : hi ≤ suc s.end) (down : s.phase ≡ Down) (inside : IsInside lo hi l.out) (i : Inv s l) where
  -- what the client believes, in the part and outside
  range_in : (q : ℕ) → lo ≤ q → q < hi → choose lo hi q (l.range q) range.N ≡ l.range q
  range_in q a b = choose_in lo hi q (l.range q) range.N a b

  range_out : (q : ℕ) → Out lo hi q → choose lo hi q (l.range q) range.N ≡ range.N
  range_out q out = choose_out lo hi q (l.range q) range.N out

  key_here : (q : ℕ) → lo ≤ q → q < hi → choose lo hi q (l.key q) key.N ≡ l.key q
  key_here q a b = choose_in lo hi q (l.key q) key.N a b

  key_gone : (q : ℕ) → Out lo hi q → choose lo hi q (l.key q) key.N ≡ key.N
  key_gone q out = choose_out lo hi q (l.key q) key.N out

  blank_part : ((q : ℕ) → (l.range q ≡ range.N) × (l.key q ≡ key.N)) → (q : ℕ) → (choose lo hi q (l.range q) range.N ≡ range.N) × (choose lo hi q (l.key q) key.N ≡ key.N)
  blank_part none q = where_is lo hi q (λ a b. (range_in q a b ∙ (none q).0, key_here q a b ∙ (none q).1)) (λ out. (range_out q out, key_gone q out))

  bound_part : (q : ℕ) → RangeAtMost (choose lo hi q (l.range q) range.N) (row_range lo hi s.end l.top_range q) × KeyAtMost (choose lo hi q (l.key q) key.N) (row_key lo hi s.end l.top_range l.top_key q)
  bound_part q = where_is lo hi q
      (λ a b. let z = i.belief.bound q in
      rw (range_in q a b) (rw (key_here q a b) (rw (key_in lo hi s.end l.top_range l.top_key q a b) (rw (row_in lo hi s.end l.top_range q a b) z))))
      (λ out. rw (range_out q out) (rw (key_gone q out) ((omega arith, omega arith), omega arith)))

  says_part : (q : ℕ) → ((op : Op) → l.out ≡ Some op → op_key op ≢ q) → IsTrueOf (record s { index = index_part lo hi s.index }) q (belief (link_part lo hi s.end l) q)
  says_part q free = where_is lo hi q
      (λ a b. let k = i.known.says q free in record {
        entry = λ far r. choose_in lo hi q (s.index q) None a b ∙ k.entry far (subst (λ x. 1 ≤ rank x) (key_here q a b) r);
        empty = λ n r. choose_in lo hi q (s.index q) None a b ∙ k.empty (sym (key_here q a b) ∙ n) (subst (λ x. 1 ≤ reads x) (range_in q a b) r);
      })
      (λ out. record {
        entry = λ far r. absurd (omega (arith, r, ap rank (key_gone q out)));
        empty = λ n r. choose_out lo hi q (s.index q) None out;
      })

  pub part_inv : Inv (record s { index = index_part lo hi s.index }) (link_part lo hi s.end l)
  part_inv = record {
    standing = i.standing;
    counting = record {
      heads = i.counting.heads;
      head_epochs = i.counting.head_epochs;
      pushes = λ p at. absurd at;
      seen = i.counting.seen;
      acked = i.counting.acked;
      early = i.counting.early;
      releases = i.counting.releases;
      writes = λ m at. i.counting.writes m (of_those lo hi (λ x. op_key x.op) l.writes m at).0;
    };
    belief = record { down = λ u. blank_part (i.belief.down u); early = λ e. blank_part (i.belief.early e); bound = bound_part };
    live_pushes = λ p at. absurd at;
    released = λ r at inc epoch seen q low high. where_is lo hi q
        (λ a b. rw (range_in q a b) (rw (key_here q a b) (i.released r at inc epoch seen q low high)))
        (λ out. rw (range_out q out) (rw (key_gone q out) ((omega arith, omega arith), omega arith)));
    known = record {
      gone = λ q far none h. where_is lo hi q
          (λ a b. i.known.gone q far (sym (choose_in lo hi q (s.index q) None a b) ∙ none) (subst (λ x. 1 ≤ rank x) (key_here q a b) h))
          (λ out. absurd (omega (arith, h, ap rank (key_gone q out))));
      deleting = λ q e. let x = inside (Delete q) e in range_in q x.0 x.1 ∙ i.known.deleting q e;
      says = says_part;
    };
    writing = record {
      writes = λ m at. i.writing.writes m (of_those lo hi (λ x. op_key x.op) l.writes m at).0;
      counted = i.writing.counted;
      some = i.writing.some;
      answers = λ p at. absurd at;
      fresh = i.writing.fresh;
      down = i.writing.down;
    };
    recovery = record {
      reports = λ g. absurd (down_recovering (sym down ∙ g));
      covers = λ g. absurd (down_recovering (sym down ∙ g));
      low = λ g. absurd (down_recovering (sym down ∙ g));
      high = λ g. absurd (down_recovering (sym down ∙ g));
    };
    rows = record { top = row_part s lo hi some near l.top_range l.top_key i.rows.top; new = λ g. absurd (down_recovering (sym down ∙ g)) };
  }

-- the client that settles
module _ (s : Shared) (l : Link) (lo hi : ℕ) (i : Inv s l) where
  by_out : (o : Option Op) → l.out ≡ o → Inv s (record l { client = settle lo hi o l.client }) × IsInside lo hi (settle lo hi o l.client).out
  by_out None e = (i, λ op f. absurd (none-some op (sym e ∙ f)))
  by_out (Some op) e = where_is lo hi (op_key op)
      (λ a b. subst (λ (x : Client). Inv s (record l { client = x }) × IsInside lo hi x.out) (sym (choose_in lo hi (op_key op) l.client (ended l.client) a b))
      (i, λ o f. let g : op ≡ o = same_Some op o (sym e ∙ f) in (subst (λ z. lo ≤ op_key z) g a, subst (λ z. op_key z < hi) g b)))
      (λ out. subst (λ (x : Client). Inv s (record l { client = x }) × IsInside lo hi x.out) (sym (choose_out lo hi (op_key op) l.client (ended l.client) out))
      (link_kept s l (record l { client = ended l.client }) crashes i, λ o f. absurd (none-some o f)))

  pub settled_inv : Inv s (settled lo hi l) × IsInside lo hi (settled lo hi l).out
  settled_inv = by_out l.out refl

pub cut_kept : (w : World) (lo hi : ℕ) → lo < hi → hi ≤ suc w.shared.end → w.shared.phase ≡ Down → WorldInv w → WorldInv (part lo hi w)
cut_kept w lo hi some near down i = record {
  links = λ c. let x = settled_inv w.shared (w.links c) lo hi (i.links c) in part_inv w.shared (settled lo hi (w.links c)) lo hi some near down x.1 x.0;
  agree = λ c d ne q. (
    ranges_part lo hi w.shared.end (w.links c).top_range (w.links d).top_range (w.links c).top_key (w.links d).top_key (i.agree c d ne) q,
    keys_part lo hi w.shared.end (w.links c).top_range (w.links d).top_range (w.links c).top_key (w.links d).top_key (i.agree c d ne) q,
  );
}

-- END stands still
end_stays : (w v : World) → Step w v → v.shared.end ≡ w.shared.end
end_stays w v step = grind arith

pub parted_end : (end : ℕ) (index : ℕ → Option Value) (lo hi : ℕ) (w : World) → Parted end index lo hi w → (w.shared.end ≡ end) × (hi ≤ suc end)
parted_end end index lo hi w (whole i0) = (refl, omega arith)
parted_end end index lo hi w (moved i0 l0 h0 u v p step) = let x = parted_end end index lo hi u p in (end_stays u v step ∙ x.0, x.1)
parted_end end index lo hi w (cut_out index0 lo0 hi0 from to u p down low some high) = let x = parted_end end index0 lo0 hi0 u p in (x.0, omega (arith, x.1, high))

pub parted_inv : (end : ℕ) (index : ℕ → Option Value) (lo hi : ℕ) (w : World) → Parted end index lo hi w → WorldInv w
parted_inv end index lo hi w (whole i0) = reachable_inv index end w begun
parted_inv end index lo hi w (moved i0 l0 h0 u v p step) = world_kept u v step (parted_inv end index lo hi u p)
parted_inv end index lo hi w (cut_out index0 lo0 hi0 from to u p down low some high) =
    let x = parted_end end index0 lo0 hi0 u p in
    cut_kept u from to some (subst (λ z. to ≤ suc z) (sym x.0) (omega (arith, x.1, high))) down (parted_inv end index0 lo0 hi0 u p)
